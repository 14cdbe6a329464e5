-- Lemmas on the words of booleans: and, or, not, equality. What the kit has is cited from there.
use Rattle.std.proofs.Common.{Bool, T, ap, false, not, refl, sym, true, ◌&&◌, ◌||◌, ◌∙◌, ◌≡◌}
use mathlib.Core.Bool.{beq, true≢false}

pub or_true : (b : Bool) → (b || true) ≡ true
or_true true = refl
or_true false = refl

pub and-true : (b : Bool) → (b && true) ≡ b
and-true true = refl
and-true false = refl

pub or_false : (b : Bool) → (b || false) ≡ b
or_false true = refl
or_false false = refl

pub or_line : (a b c : Bool) → ((a || b) || c) ≡ (a || (b || c))
or_line true b c = refl
or_line false b c = refl

pub first_false : (a b : Bool) → (a || b) ≡ false → a ≡ false
first_false true b h = let wrong : true ≡ false = h in absurd cc
first_false false b h = refl

pub second_false : (a b : Bool) → (a || b) ≡ false → b ≡ false
second_false true b h = let wrong : true ≡ false = h in absurd cc
second_false false b h = h

pub both_ways : (p q : Bool) → (p ≡ true → q ≡ true) → (q ≡ true → p ≡ true) → p ≡ q
both_ways true q f g = sym (f refl)
both_ways false true f g = g refl
both_ways false false f g = refl

pub and_assoc : (a b c : Bool) → (a && (b && c)) ≡ ((a && b) && c)
and_assoc true b c = refl
and_assoc false b c = refl

pub left_of : (a b : Bool) → (a && b) ≡ true → a ≡ true
left_of true b e = refl
left_of false b e = e

pub right_of : (a b : Bool) → (a && b) ≡ true → b ≡ true
right_of true b e = e
right_of false b e = cc

pub held : (b : Bool) → T b → b ≡ true
held true h = refl
held false h = absurd h

pub both_same : (a b c d : Bool) → a ≡ c → b ≡ d → (a && b) ≡ (c && d)
both_same a b c d e f = ap (λ x. x && b) e ∙ ap (λ x. c && x) f

pub exchange : (a b c d : Bool) → ((a && b) && (c && d)) ≡ ((a && c) && (b && d))
exchange true true c d = refl
exchange true false true d = refl
exchange true false false d = refl
exchange false b c d = refl

pub and_line : (a b c : Bool) → ((a && b) && c) ≡ (a && (b && c))
and_line true b c = refl
and_line false b c = refl

pub unnamed_kind : (b : Bool) → (not b || false) ≡ true → b ≡ false
unnamed_kind true e = absurd cc
unnamed_kind false e = refl

pub not_or : (a b : Bool) → (not a || b) ≡ true → b ≡ false → a ≡ false
not_or false b h e = refl
not_or true b h e = absurd (let z : true ≡ false = sym h ∙ e in let w : ⊥ = cc in w)

pub no-and : (a : Bool) → (a && false) ≡ false
no-and true = refl
no-and false = refl

pub and_flip : (a b : Bool) → (a && b) ≡ (b && a)
and_flip true true = refl
and_flip true false = refl
and_flip false true = refl
and_flip false false = refl

pub third_of : (a b c d e : Bool) → (a && b && c && d && e) ≡ true → c ≡ true
third_of true true true d e h = refl
third_of true true false d e h = h
third_of true false c d e h = let wrong : false ≡ true = h in absurd cc
third_of false b c d e h = let wrong : false ≡ true = h in absurd cc

pub absorbed : (a b : Bool) → (b ≡ true → a ≡ true) → a ≡ (a || b)
absorbed true b h = refl
absorbed false true h = h refl
absorbed false false h = refl

pub beq_same : (a b : Bool) → beq a b ≡ true → a ≡ b
beq_same true true e = refl
beq_same true false e = absurd (true≢false (sym e))
beq_same false true e = absurd (true≢false (sym e))
beq_same false false e = refl

pub not-false : (b : Bool) → not b ≡ true → b ≡ true → ⊥
not-false true h e = cc
not-false false h e = cc

pub given-not : (a b : Bool) → a ≡ true → (not a || b) ≡ true → b ≡ true
given-not true b e h = h
given-not false b e h = let wrong : ⊥ = cc in absurd wrong
