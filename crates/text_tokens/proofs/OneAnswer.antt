-- A text has its tokens at one list of places, and one first byte at most at which none begins.
use Rattle.std.proofs.Common.{◌≡◌, refl, sym, ap, ◌∙◌, subst, ℕ, ◌≤◌, Bool, true, false, List, [], ◌∷◌, length, drop, length-drop, arith}
use Rattle.std.proofs.lemmas.List.{drop_all}
use Rattle.print_grammar.specs.Token as grammar
use Rattle.print_grammar.specs.Token.Front.{Ended, Skipped, Found, Unknown}
use Rattle.print_grammar.specs.Token.{Front}
use Rattle.text_tokens.specs.Comments.{front_in_text}
use Rattle.text_tokens.specs.declared.token.Kind.{Kind}
use Rattle.text_tokens.specs.declared.token.Token.{Token}
use Rattle.text_tokens.specs.Kinds.{kind_here}
use Rattle.text_tokens.specs.Places.Placed.{none_placed, skip_placed, one_placed}
use Rattle.text_tokens.specs.Places.{HasNoTokenAt, HasTokensAt, Placed}

-- whether tokens end here
abbrev stops : Front → Bool
stops Ended = true
stops (Skipped rest) = false
stops (Found t rest) = false
stops Unknown = true

same_place : (text : List ℕ) (a b : ℕ) → a ≤ length text → b ≤ length text → drop a text ≡ drop b text → a ≡ b
same_place text a b h k e = omega (arith, length-drop a text, length-drop b text, ap length e)

abbrev token_of : ℕ → ℕ → Kind → Token
token_of start end kind = record { start = start; end = end; kind = kind }

same_token : (p q : Token) → p.start ≡ q.start → p.end ≡ q.end → p.kind ≡ q.kind → p ≡ q
same_token p q a b c =
    ap (λ x. token_of x p.end p.kind) a ∙ (ap (λ x. token_of q.start x p.kind) b ∙ ap (λ x. token_of q.start q.end x) c)

-- where tokens end, there are none
inverse_none : {text : List ℕ} {from to : ℕ} {places : List Token} {tokens : List grammar.Token} → stops (front_in_text (drop from text)) ≡ true → Placed text from to places tokens
    → (from ≡ to) × (places ≡ [])
inverse_none h none_placed = (refl, refl)
inverse_none h (skip_placed f l w more) = absurd (cc (h, ap stops f))
inverse_none h (one_placed place t s more) = absurd (cc (h, ap stops s.found))

-- the rest after a blank or a comment
record Skips (text rest : List ℕ) (to : ℕ) (places : List Token) : Type 0 where
  next : ℕ
  tokens : List grammar.Token
  here : drop next text ≡ rest
  within : next ≤ length text
  more : Placed text next to places tokens

inverse_skip : {text rest : List ℕ} {from to : ℕ} {places : List Token} {tokens : List grammar.Token} → front_in_text (drop from text) ≡ Skipped rest → stops (front_in_text (drop to text)) ≡ true
    → Placed text from to places tokens → Skips text rest to places
inverse_skip h k none_placed = absurd (cc (k, ap stops h))
inverse_skip h k (skip_placed {next = next} {tokens = tokens} f l w more) = record { next = next; tokens = tokens; here = cc; within = w; more = more }
inverse_skip h k (one_placed place t s more) = absurd (cc (h, s.found))

-- the token that begins here, and the rest
record Begins (text rest : List ℕ) (from to : ℕ) (t : grammar.Token) (places : List Token) : Type 0 where
  place : Token
  behind : List Token
  tokens : List grammar.Token
  all : places ≡ place ∷ behind
  start : place.start ≡ from
  kind : place.kind ≡ kind_here t
  here : drop place.end text ≡ rest
  within : place.end ≤ length text
  more : Placed text place.end to behind tokens

inverse_token : {text rest : List ℕ} {from to : ℕ} {t : grammar.Token} {places : List Token} {tokens : List grammar.Token} → front_in_text (drop from text) ≡ Found t rest
    → stops (front_in_text (drop to text)) ≡ true → Placed text from to places tokens → Begins text rest from to t places
inverse_token h k none_placed = absurd (cc (k, ap stops h))
inverse_token h k (skip_placed f l w more) = absurd (cc (h, f))
inverse_token {t = t} h k (one_placed {places = behind} {tokens = tokens} place other s more) =
    let same : other ≡ t = cc (h, s.found) in
    record {
      place = place;
      behind = behind;
      tokens = tokens;
      all = refl;
      start = refl;
      kind = s.kind ∙ ap kind_here same;
      here = cc (h, s.found);
      within = s.within;
      more = more;
    }

-- Tokens from one place on end at one place, and are the same.
one_end : {text : List ℕ} {from to other_to : ℕ} {places others : List Token} {tokens other_tokens : List grammar.Token} → stops (front_in_text (drop to text)) ≡ true
    → stops (front_in_text (drop other_to text)) ≡ true → Placed text from to places tokens → Placed text from other_to others other_tokens → (to ≡ other_to) × (places ≡ others)
one_end h k none_placed y = let i = inverse_none h y in (i.0, sym i.1)
one_end {text} {other_to = other_to} {others = others} h k (skip_placed {next = next} f l w more) y =
    let i = inverse_skip f k y in
    let e = same_place text i.next next i.within w i.here in
    one_end h k more (subst (λ x. Placed text x other_to others i.tokens) e i.more)
one_end {text} {other_to = other_to} {others = others} h k (one_placed {places = behind} place t s more) y =
    let i = inverse_token s.found k y in
    let e = same_place text i.place.end place.end i.within s.within i.here in
    let j = one_end h k more (subst (λ x. Placed text x other_to i.behind i.tokens) e i.more) in
    (j.0, ap (λ x. x ∷ behind) (same_token place i.place (sym i.start) (sym e) (s.kind ∙ sym i.kind)) ∙ (ap (λ x. i.place ∷ x) j.1 ∙ sym i.all))

stops_at_end : (text : List ℕ) → stops (front_in_text (drop (length text) text)) ≡ true
stops_at_end text = ap (λ x. stops (front_in_text x)) (drop_all (length text) text (omega arith))

pub one_list : (text : List ℕ) (xs ys : List Token) → HasTokensAt text xs → HasTokensAt text ys → xs ≡ ys
one_list text xs ys x y = (one_end (stops_at_end text) (stops_at_end text) x.placed y.placed).1

pub one_refusal : (text : List ℕ) (a b : ℕ) → HasNoTokenAt text a → HasNoTokenAt text b → a ≡ b
one_refusal text a b x y = (one_end (ap stops x.unknown) (ap stops y.unknown) x.placed y.placed).0
