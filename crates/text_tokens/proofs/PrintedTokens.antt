-- A text that the grammar of printed text reads as tokens has the same tokens with gaps: no comment in `/* */` stands in it.
use Rattle.std.proofs.Common.{◌≡◌, refl, sym, ap, ◌∙◌, subst, ℕ, ◌==◌, Bool, true, false, List, [], ◌∷◌, ◌++◌, map, Option, Some, None, if◌then◌else◌}
use Rattle.std.proofs.lemmas.Bool.{eqb-true}
use Rattle.base_lemmas.proofs.Bools.{left_of, right_of}
use Rattle.print_grammar.specs.Token.Front.{Ended, Skipped, Found, Unknown}
use Rattle.print_grammar.specs.Token.{Front, Mark.Slash, Taken, Token, Token.Punctuation, Tokens, after_comment, begins_comment, found, front_of_text, is_blank, longest}
use Rattle.print_grammar.specs.Token.Tokens.{no_tokens, skip, token}
use Rattle.text_tokens.specs.declared.state.State.TheVariants.{Dead, Start}
use Rattle.text_tokens.specs.{Comments.begins_block, Comments.front_in_text, Gaps.Follows, Gaps.Spaced}
use Rattle.text_tokens.specs.Gaps.Follows.{ended, skips, comes}
use Rattle.text_tokens.specs.States.{reach, taken}
use Rattle.text_tokens.proofs.Fronts.{front_is, never_skipped, same_bytes}
use Rattle.text_tokens.proofs.PlaceFacts.{longest-some}
use Rattle.text_tokens.proofs.TokenScans.{dead-reach, longest_scan}

-- what stands at the front by the grammar of printed text
abbrev printed_by : Bool → Bool → List ℕ → List ℕ → Front
printed_by true b cs text = Skipped cs
printed_by false true cs text = Skipped (after_comment cs)
printed_by false false cs text = found (longest [] text)

printed_is : (c : ℕ) (cs : List ℕ) (a b : Bool) → is_blank c ≡ a → begins_comment (c ∷ cs) ≡ b → front_of_text (c ∷ cs) ≡ printed_by a b cs (c ∷ cs)
printed_is c cs true b e f = rw (e, front_of_text) refl
printed_is c cs false true e f = rw (e, f, front_of_text) refl
printed_is c cs false false e f = rw (e, f, front_of_text) refl

-- ---- a slash and an asterisk

star_reach : (cs : List ℕ) → reach Start (42 ∷ cs) ≡ None
star_reach cs = rw (dead-reach Dead cs refl) refl

star_unknown : (cs : List ℕ) → front_of_text (42 ∷ cs) ≡ Unknown
star_unknown cs =
    printed_is 42 cs false false refl refl ∙ ap found (longest_scan (42 ∷ cs) ∙ ap (taken [] (42 ∷ cs)) (star_reach cs))

slash_reach : (cs : List ℕ) → reach Start (47 ∷ 42 ∷ cs) ≡ Some 1
slash_reach cs = rw (dead-reach Dead cs refl) refl

slash_found : (cs : List ℕ) → longest [] (47 ∷ 42 ∷ cs) ≡ Some (record { token = Punctuation Slash; rest = 42 ∷ cs })
slash_found cs = longest-some (47 ∷ 42 ∷ cs) 1 (Punctuation Slash) (slash_reach cs) refl

no_star_tokens : {text : List ℕ} {ts : List Token} → front_of_text text ≡ Unknown → Tokens text ts → ⊥
no_star_tokens h (no_tokens p) = cc
no_star_tokens h (skip p more) = cc
no_star_tokens h (token p more) = cc

no_block : (t : Token) (cs rest : List ℕ) (ts : List Token) → begins_block (47 ∷ 42 ∷ cs) ≡ true → found (longest [] (47 ∷ 42 ∷ cs)) ≡ Found t rest → Tokens rest ts → ⊥
no_block t cs rest ts b e more =
    let same : Found (Punctuation Slash) (42 ∷ cs) ≡ Found t rest = sym (ap found (slash_found cs)) ∙ e in
    let rests : 42 ∷ cs ≡ rest = cc in
    no_star_tokens (ap front_of_text (sym rests) ∙ star_unknown cs) more

block_refused : (c : ℕ) (cs : List ℕ) (t : Token) (rest : List ℕ) (ts : List Token) → begins_block (c ∷ cs) ≡ true → found (longest [] (c ∷ cs)) ≡ Found t rest → Tokens rest ts → ⊥
block_refused c [] t rest ts b e more = let x = right_of (c == 47) false b in cc
block_refused c (d ∷ cs) t rest ts b e more =
    let x : c ≡ 47 = eqb-true c 47 (left_of (c == 47) (d == 42) b) in
    let y : d ≡ 42 = eqb-true d 42 (right_of (c == 47) (d == 42) b) in
    let same : found (longest [] (47 ∷ 42 ∷ cs)) ≡ found (longest [] (c ∷ d ∷ cs)) = ap (λ z. found (longest [] (z ∷ 42 ∷ cs))) (sym x) ∙ ap (λ z. found (longest [] (c ∷ z ∷ cs))) (sym y) in
    no_block t cs rest ts refl (same ∙ e) more

-- ---- a step

after_front : (cs : List ℕ) → (front : List ℕ) × (front ++ after_comment cs ≡ cs)
after_front [] = ([], refl)
after_front (c ∷ cs) = go (c == 10) (after_front cs)
  where
    go : (b : Bool) → (front : List ℕ) × (front ++ after_comment cs ≡ cs) → (front : List ℕ) × (front ++ (if b then c ∷ cs else after_comment cs) ≡ c ∷ cs)
    go true i = ([], refl)
    go false i = (c ∷ i.0, ap (λ x. c ∷ x) i.1)

-- a step over a blank or a comment, in the text with gaps
record Skips (text rest : List ℕ) : Type 0 where
  front : List ℕ
  whole : front ++ rest ≡ text
  same : front_in_text text ≡ Skipped rest

skips_stay : (text rest : List ℕ) → front_of_text text ≡ Skipped rest → Skips text rest
skips_stay [] rest e = absurd cc
skips_stay (c ∷ cs) rest e = go (is_blank c) refl (begins_comment (c ∷ cs)) refl
  where
    go : (a : Bool) → is_blank c ≡ a → (b : Bool) → begins_comment (c ∷ cs) ≡ b → Skips (c ∷ cs) rest
    go true g b h =
        let s = same_bytes cs rest (sym (printed_is c cs true b g h) ∙ e) in
        record { front = c ∷ []; whole = ap (λ x. c ∷ x) (sym s); same = front_is c cs true b (begins_block (c ∷ cs)) g h refl ∙ ap Skipped s }
    go false g true h =
        let s = same_bytes (after_comment cs) rest (sym (printed_is c cs false true g h) ∙ e) in
        let f = after_front cs in
        record {
          front = c ∷ f.0;
          whole = ap (λ x. c ∷ x) (ap (λ x. f.0 ++ x) (sym s) ∙ f.1);
          same = front_is c cs false true (begins_block (c ∷ cs)) g h refl ∙ ap Skipped s;
        }
    go false g false h = absurd (never_skipped (longest [] (c ∷ cs)) rest (sym (printed_is c cs false false g h) ∙ e))

token_stays : (text rest : List ℕ) (t : Token) (ts : List Token) → front_of_text text ≡ Found t rest → Tokens rest ts → front_in_text text ≡ Found t rest
token_stays [] rest t ts e more = absurd cc
token_stays (c ∷ cs) rest t ts e more = go (is_blank c) refl (begins_comment (c ∷ cs)) refl (begins_block (c ∷ cs)) refl
  where
    go : (a : Bool) → is_blank c ≡ a → (b : Bool) → begins_comment (c ∷ cs) ≡ b → (d : Bool) → begins_block (c ∷ cs) ≡ d → front_in_text (c ∷ cs) ≡ Found t rest
    go true g b h d i = let x : Skipped cs ≡ Found t rest = sym (printed_is c cs true b g h) ∙ e in absurd (cc x)
    go false g true h d i = let x : Skipped (after_comment cs) ≡ Found t rest = sym (printed_is c cs false true g h) ∙ e in absurd (cc x)
    go false g false h true i = absurd (block_refused c cs t rest ts i (sym (printed_is c cs false false g h) ∙ e) more)
    go false g false h false i = front_is c cs false false false g h i ∙ (sym (printed_is c cs false false g h) ∙ e)

end_stays : (text : List ℕ) → front_of_text text ≡ Ended → front_in_text text ≡ Ended
end_stays [] e = refl
end_stays (c ∷ cs) e = go (is_blank c) refl (begins_comment (c ∷ cs)) refl (longest [] (c ∷ cs)) refl
  where
    go : (a : Bool) → is_blank c ≡ a → (b : Bool) → begins_comment (c ∷ cs) ≡ b → (o : Option Taken) → longest [] (c ∷ cs) ≡ o → front_in_text (c ∷ cs) ≡ Ended
    go true g b h o i = let x : Skipped cs ≡ Ended = sym (printed_is c cs true b g h) ∙ e in absurd (cc x)
    go false g true h o i = let x : Skipped (after_comment cs) ≡ Ended = sym (printed_is c cs false true g h) ∙ e in absurd (cc x)
    go false g false h None i = let x : Unknown ≡ Ended = sym (ap found i) ∙ (sym (printed_is c cs false false g h) ∙ e) in absurd (cc x)
    go false g false h (Some t) i = let x : Found t.token t.rest ≡ Ended = sym (ap found i) ∙ (sym (printed_is c cs false false g h) ∙ e) in absurd (cc x)

-- the tokens with the gaps in front of them
record Stay (text : List ℕ) (ts : List Token) (gap : List ℕ) : Type 0 where
  spaced : List Spaced
  follows : Follows gap text spaced
  same : map (λ s. s.token) spaced ≡ ts

stay : {text : List ℕ} {ts : List Token} → Tokens text ts → (gap : List ℕ) → Stay text ts gap
stay {text} (no_tokens p) gap = record { spaced = []; follows = ended (end_stays text p); same = refl }
stay {text} (skip {rest = rest} p more) gap =
    let k = skips_stay text rest p in
    let i = stay more (gap ++ k.front) in
    record {
      spaced = i.spaced;
      follows = subst (λ x. Follows gap x i.spaced) k.whole (skips k.front (ap front_in_text k.whole ∙ k.same) i.follows);
      same = i.same;
    }
stay {text} (token {rest = rest} {t = t} {tokens = ts} p more) gap =
    let i = stay more [] in
    record { spaced = record { gap = gap; token = t } ∷ i.spaced; follows = comes (token_stays text rest t ts p more) i.follows; same = ap (λ x. t ∷ x) i.same }

pub printed_stay : (text : List ℕ) (ts : List Token) → Tokens text ts → (spaced : List Spaced) × Follows [] text spaced × (map (λ s. s.token) spaced ≡ ts)
printed_stay text ts all = let s = stay all [] in (s.spaced, s.follows, s.same)
