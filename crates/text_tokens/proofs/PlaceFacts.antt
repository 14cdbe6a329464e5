-- Tokens with their places: more of them, and what a text with a place where none begins is.
use Rattle.std.proofs.Common.{◌≡◌, refl, sym, ap, ◌∙◌, subst, ℕ, ◌+◌, ◌-◌, ◌<◌, ◌≤◌, List, [], ◌∷◌, ◌++◌, length, Option, Some, None, take, drop, map, slice_range, take-add, arith}
use Rattle.std.specs.{Option.option_map}
use Rattle.std.proofs.lemmas.List.{drop_all, drop-drop}
use Rattle.std.proofs.lemmas.List.Folds.{drop_split}
use Rattle.base_lemmas.proofs.{Options.there}
use Rattle.print_grammar.specs.Token as grammar
use Rattle.print_grammar.specs.Token.Front.{Ended, Skipped, Found, Unknown}
use Rattle.print_grammar.specs.Token.{found, longest, spelled}
use Rattle.text_tokens.specs.declared.state.State.TheVariants.{Start}
use Rattle.text_tokens.specs.declared.token.Kind.{Kind}
use Rattle.text_tokens.specs.declared.token.Token.{Token}
use Rattle.text_tokens.specs.{Comments.front_in_text, Gaps.Follows, Gaps.Spaced}
use Rattle.text_tokens.specs.Gaps.Follows.{ended, skips, comes}
use Rattle.text_tokens.specs.Kinds.{kind_here}
use Rattle.text_tokens.specs.Places.Placed.{none_placed, skip_placed, one_placed}
use Rattle.text_tokens.specs.Places.{HasTokensAt, Placed, StandsAt, gaps_from}
use Rattle.text_tokens.specs.States.{reach, taken}
use Rattle.text_tokens.specs.Steps.{BeginsHere, IsUnknown, SkipsTo}
use Rattle.text_tokens.proofs.EndFacts.{ends_at}
use Rattle.text_tokens.proofs.TokenScans.{longest_scan, reach_ok, spelled_ok}

-- ---- a token at a place

-- the token of so many bytes
pub token_of : (text : List ℕ) (n : ℕ) → reach Start text ≡ Some n → (t : grammar.Token) × (spelled (take n text) ≡ Some t)
token_of text n e = there (spelled (take n text)) (spelled_ok (take n text) ∙ reach_ok text Start n e)

taken-some : (text : List ℕ) (n : ℕ) (t : grammar.Token) → spelled (take n text) ≡ Some t → taken [] text (Some n) ≡ Some (record { token = t; rest = drop n text })
taken-some text n t e = ap (option_map (λ x. record { token = x; rest = drop n text })) e

pub longest-some : (text : List ℕ) (n : ℕ) (t : grammar.Token) → reach Start text ≡ Some n → spelled (take n text) ≡ Some t → longest [] text ≡ Some (record { token = t; rest = drop n text })
longest-some text n t e f = longest_scan text ∙ (ap (taken [] text) e ∙ taken-some text n t f)

pub begins_here : (text : List ℕ) (at end : ℕ) (kind : Kind) → front_in_text (drop at text) ≡ found (longest [] (drop at text))
    → Some end ≡ ends_at at (reach Start (drop at text)) → at < end → end ≤ length text
    → ((t : grammar.Token) → spelled (take (end - at) (drop at text)) ≡ Some t → kind ≡ kind_here t) → BeginsHere text at (record { start = at; end = end; kind = kind })
begins_here text at end kind front e longer within kinds = go (reach Start (drop at text)) refl e
  where
    go : (o : Option ℕ) → reach Start (drop at text) ≡ o → Some end ≡ ends_at at o → BeginsHere text at (record { start = at; end = end; kind = kind })
    go None f g = absurd cc
    go (Some n) f g =
        let sum : end ≡ n + at = cc in
        let count : end - at ≡ n = omega arith in
        let t = token_of (drop at text) n f in
        let spells : spelled (take (end - at) (drop at text)) ≡ Some t.0 = ap (λ x. spelled (take x (drop at text))) count ∙ t.1 in
        let rest : drop n (drop at text) ≡ drop end text = drop-drop n at text ∙ ap (λ x. drop x text) (omega arith) in
        record {
          token = t.0;
          stands = record {
            found = front ∙ (ap found (longest-some (drop at text) n t.0 f t.1) ∙ ap (Found t.0) rest);
            spelled = spells;
            kind = kinds t.0 spells;
            longer = longer;
            within = within;
          };
          here = refl;
        }

pub unknown_here : (text : List ℕ) (at : ℕ) → front_in_text (drop at text) ≡ found (longest [] (drop at text)) → None ≡ ends_at at (reach Start (drop at text)) → at < length text → IsUnknown text at
unknown_here text at front e within = go (reach Start (drop at text)) refl e
  where
    go : (o : Option ℕ) → reach Start (drop at text) ≡ o → None ≡ ends_at at o → IsUnknown text at
    go None f g = record { unknown = front ∙ (ap found (longest_scan (drop at text) ∙ ap (taken [] (drop at text)) f)); within = within }
    go (Some n) f g = absurd cc

-- ---- more tokens

pub placed-one : {text : List ℕ} {from at : ℕ} {places : List Token} {tokens : List grammar.Token} (place : Token) (t : grammar.Token) → StandsAt text place t → place.start ≡ at
    → Placed text from at places tokens → Placed text from place.end (places ++ place ∷ []) (tokens ++ t ∷ [])
placed-one {text} place t s e none_placed = subst (λ x. Placed text x place.end (place ∷ []) (t ∷ [])) e (one_placed place t s none_placed)
placed-one place t s e (skip_placed f l w more) = skip_placed f l w (placed-one place t s e more)
placed-one place t s e (one_placed other u r more) = one_placed other u r (placed-one place t s e more)

pub placed-skip : {text : List ℕ} {from at next : ℕ} {places : List Token} {tokens : List grammar.Token} → front_in_text (drop at text) ≡ Skipped (drop next text) → at < next → next ≤ length text
    → Placed text from at places tokens → Placed text from next places tokens
placed-skip e h w none_placed = skip_placed e h w none_placed
placed-skip e h w (skip_placed f l v more) = skip_placed f l v (placed-skip e h w more)
placed-skip e h w (one_placed other u r more) = one_placed other u r (placed-skip e h w more)

-- ---- the whole text

at_end : (text : List ℕ) (at : ℕ) → at ≡ length text → front_in_text (drop at text) ≡ Ended
at_end text at e = ap front_in_text (drop_all at text (omega arith))

-- Tokens with places up to the end, from a byte on, and the gap in front of them begins at a byte too.
pub record FollowsAt (text : List ℕ) (gap_at at : ℕ) (places : List Token) (spelled : List grammar.Token) : Type 0 where
  pub found : List Spaced
  pub follows : Follows (slice_range text gap_at at) (drop at text) found
  pub gaps : map (λ s. s.gap) found ≡ gaps_from text gap_at places
  pub tokens : map (λ s. s.token) found ≡ spelled

range_join : (text : List ℕ) (a b c : ℕ) → a ≤ b → b ≤ c → slice_range text a b ++ slice_range text b c ≡ slice_range text a c
range_join text a b c h k =
    let x : (b - a) + (c - b) ≡ c - a = omega arith in
    let y : a + (b - a) ≡ b = omega arith in
    ap (λ n. slice_range text a b ++ take (c - b) (drop n text)) (sym y)
    ∙ (ap (λ xs. slice_range text a b ++ take (c - b) xs) (sym (drop-drop (b - a) a text)) ∙ (sym (take-add (b - a) (c - b) (drop a text)) ∙ ap (λ n. take n (drop a text)) x))

follows_skip : (text gap : List ℕ) (at next : ℕ) (found : List Spaced) → front_in_text (drop at text) ≡ Skipped (drop next text) → at ≤ next
    → Follows (gap ++ slice_range text at next) (drop next text) found → Follows gap (drop at text) found
follows_skip text gap at next found e l f =
    let whole = drop_split text at next l in
    subst (λ x. Follows gap x found) (sym whole) (skips (slice_range text at next) (ap front_in_text (sym whole) ∙ e) f)

range_none : (text : List ℕ) (at : ℕ) → slice_range text at at ≡ []
range_none text at = let z : at - at ≡ 0 = omega arith in ap (λ n. take n (drop at text)) z

-- Tokens with places up to the end are the text's tokens.
pub placed_follows : {text : List ℕ} {at to : ℕ} {places : List Token} {tokens : List grammar.Token} (gap_at : ℕ) → gap_at ≤ at → to ≡ length text
    → Placed text at to places tokens → FollowsAt text gap_at at places tokens
placed_follows {text} {at} gap_at h e none_placed = record { found = []; follows = ended (at_end text at e); gaps = refl; tokens = refl }
placed_follows {text} {at} gap_at h e (skip_placed {next = next} f l w more) =
    let i = placed_follows gap_at (omega arith) e more in
    record {
      found = i.found;
      follows = follows_skip text (slice_range text gap_at at) at next i.found f (omega arith)
          (subst (λ x. Follows x (drop next text) i.found) (sym (range_join text gap_at at next h (omega arith))) i.follows);
      gaps = i.gaps;
      tokens = i.tokens;
    }
placed_follows {text} gap_at h e (one_placed place t s more) =
    let i = placed_follows place.end (omega arith) e more in
    record {
      found = record { gap = slice_range text gap_at place.start; token = t } ∷ i.found;
      follows = comes s.found (subst (λ x. Follows x (drop place.end text) i.found) (range_none text place.end) i.follows);
      gaps = ap (λ x. slice_range text gap_at place.start ∷ x) i.gaps;
      tokens = ap (λ x. t ∷ x) i.tokens;
    }

unknown_none : {gap text : List ℕ} {others : List Spaced} → front_in_text text ≡ Unknown → Follows gap text others → ⊥
unknown_none h (ended p) = cc
unknown_none h (skips front p more) = cc
unknown_none h (comes p more) = cc

-- the rest of a text, with tokens
record Rest (rest : List ℕ) : Type 0 where
  gap : List ℕ
  found : List Spaced
  follows : Follows gap rest found

after_skip : {gap text rest : List ℕ} {others : List Spaced} → front_in_text text ≡ Skipped rest → Follows gap text others → Rest rest
after_skip h (ended p) = absurd cc
after_skip {gap} {rest = rest} {others = others} h (skips {rest = behind} front p more) =
    let e : behind ≡ rest = cc in record { gap = gap ++ front; found = others; follows = subst (λ x. Follows (gap ++ front) x others) e more }
after_skip h (comes p more) = absurd cc

after_token : {gap text rest : List ℕ} {t : grammar.Token} {others : List Spaced} → front_in_text text ≡ Found t rest → Follows gap text others → Rest rest
after_token h (ended p) = absurd cc
after_token h (skips front p more) = absurd cc
after_token {rest = rest} h (comes {rest = behind} {found = further} p more) =
    let e : behind ≡ rest = cc in record { gap = []; found = further; follows = subst (λ x. Follows [] x further) e more }

-- A text with a place where no token begins has no tokens.
pub no_others : {text : List ℕ} {from to : ℕ} {places : List Token} {tokens : List grammar.Token} → front_in_text (drop to text) ≡ Unknown
    → Placed text from to places tokens → {gap : List ℕ} {others : List Spaced} → Follows gap (drop from text) others → ⊥
no_others h none_placed x = unknown_none h x
no_others h (skip_placed f l w more) x = no_others h more (after_skip f x).follows
no_others h (one_placed place t s more) x = no_others h more (after_token s.found x).follows

-- ---- the loop

-- the tokens so far
pub record SoFar (text : List ℕ) (at : ℕ) (places : List Token) : Type 0 where
  pub tokens : List grammar.Token
  pub placed : Placed text 0 at places tokens
  pub within : at ≤ length text

pub so_far_none : (text : List ℕ) → SoFar text 0 []
so_far_none text = record { tokens = []; placed = none_placed; within = omega arith }

pub so_far_skip : (text : List ℕ) (at next : ℕ) (places : List Token) → SoFar text at places → SkipsTo text at next → SoFar text next places
so_far_skip text at next places s k = record { tokens = s.tokens; placed = placed-skip k.skipped k.further k.within s.placed; within = k.within }

pub so_far_one : (text : List ℕ) (at : ℕ) (place : Token) (places : List Token) → SoFar text at places → BeginsHere text at place → SoFar text place.end (places ++ place ∷ [])
so_far_one text at place places s b = record { tokens = s.tokens ++ b.token ∷ []; placed = placed-one place b.token b.stands b.here s.placed; within = b.stands.within }

pub has_tokens : (text : List ℕ) (at : ℕ) (places : List Token) → SoFar text at places → at ≡ length text → HasTokensAt text places
has_tokens text at places s e =
    let i = placed_follows 0 (omega arith) e s.placed in
    record {
      found = i.found;
      spelled = i.follows;
      gaps = i.gaps;
      placed = subst (λ x. Placed text 0 x places (map (λ s. s.token) i.found)) e (subst (λ x. Placed text 0 at places x) (sym i.tokens) s.placed);
    }
