-- What stands at the front of a text that begins with a byte, by its tests.
use Rattle.std.proofs.Common.{◌≡◌, refl, sym, ap, ◌∙◌, ◌+◌, ◌<◌, ◌≤◌, ◌==◌, Bool, true, false, ℕ, List, [], ◌∷◌, Option, Some, None, length, drop, get_or, length-drop, arith}
use Rattle.std.proofs.lemmas.List.{drop-drop}
use Rattle.base_lemmas.proofs.{Bools.no-and}
use Rattle.print_grammar.specs.Token.Front.{Skipped, Found}
use Rattle.print_grammar.specs.Token.{Front, Taken, Token, after_comment, begins_comment, found, is_blank, longest}
use Rattle.text_tokens.specs.Comments.{after_block, begins_block, behind_one, front_in_text, skipped}
use Rattle.text_tokens.proofs.CommentFacts.{drop-at}

abbrev pub front_by : Bool → Bool → Bool → List ℕ → List ℕ → Front
front_by true b d cs text = Skipped cs
front_by false true d cs text = Skipped (after_comment cs)
front_by false false true cs text = skipped (after_block 0 (behind_one cs))
front_by false false false cs text = found (longest [] text)

pub front_is : (c : ℕ) (cs : List ℕ) (a b d : Bool) → is_blank c ≡ a → begins_comment (c ∷ cs) ≡ b → begins_block (c ∷ cs) ≡ d → front_in_text (c ∷ cs) ≡ front_by a b d cs (c ∷ cs)
front_is c cs true b d e f g = rw (e, front_in_text) refl
front_is c cs false true d e f g = rw (e, f, front_in_text) refl
front_is c cs false false true e f g = rw (e, f, g, front_in_text) refl
front_is c cs false false false e f g = rw (e, f, g, front_in_text) refl

pub never_skipped : (o : Option Taken) (rest : List ℕ) → found o ≡ Skipped rest → ⊥
never_skipped None rest e = cc
never_skipped (Some t) rest e = cc

pub never_found : (o : Option (List ℕ)) (t : Token) (rest : List ℕ) → skipped o ≡ Found t rest → ⊥
never_found None t rest e = cc
never_found (Some r) t rest e = cc

pub skipped_some : (o : Option (List ℕ)) (rest : List ℕ) → skipped o ≡ Skipped rest → o ≡ Some rest
skipped_some None rest e = absurd cc
skipped_some (Some r) rest e = cc

pub same_bytes : (cs rest : List ℕ) → Skipped cs ≡ Skipped rest → cs ≡ rest
same_bytes cs rest e = cc

-- ---- a comment in `/* */` at a place

block_long : (cs : List ℕ) → begins_block cs ≡ true → 2 ≤ length cs
block_long [] h = absurd cc
block_long (c ∷ []) h = absurd (cc (h, no-and (c == 47)))
block_long (c ∷ d ∷ cs) h = omega arith

pub block_within : (text : List ℕ) (at : ℕ) → begins_block (drop at text) ≡ true → at + 2 ≤ length text
block_within text at h = omega (arith, length-drop at text, block_long (drop at text) h)

behind-one : (cs : List ℕ) → behind_one cs ≡ drop 1 cs
behind-one [] = refl
behind-one (c ∷ cs) = refl

pub behind_at : (text : List ℕ) (at : ℕ) → behind_one (drop (at + 1) text) ≡ drop (at + 2) text
behind_at text at = let z : at + 1 + 1 ≡ at + 2 = omega arith in behind-one (drop (at + 1) text) ∙ (drop-drop 1 (at + 1) text ∙ ap (λ n. drop n text) z)

pub block_in_front : (text : List ℕ) (at : ℕ) → at < length text → is_blank (get_or text at 0) ≡ false → begins_comment (drop at text) ≡ false → begins_block (drop at text) ≡ true
    → front_in_text (drop at text) ≡ skipped (after_block 0 (drop (at + 2) text))
block_in_front text at h a b d =
    let e = drop-at text at h in
    ap front_in_text e
    ∙ (front_is (get_or text at 0) (drop (at + 1) text) false false true a (ap begins_comment (sym e) ∙ b) (ap begins_block (sym e) ∙ d)
    ∙ ap (λ x. skipped (after_block 0 x)) (behind_at text at))
