-- Readers of attributes answer alike for tokens that begin alike.
use Rattle.std.proofs.Common.{◌≡◌, refl, ap, ◌<◌, ◌≤◌, ℕ, zero, suc, Bool, true, false, List, [], ◌∷◌, length, arith, Option, Some, None, ◌⊎◌, inl, inr, if◌then◌else◌}
use Rattle.std.specs.Option.{option_map_or}
use Rattle.print_grammar.specs.{Token.Token, Token.Mark.At, Tree.Gates}
use Rattle.text_trees.specs.Grammar.{Marks, gates_of_marks, no_marks}
use Rattle.text_trees.specs.Reading.{Wanted.AGate, Reading, Reading.Found, Reading.Refused, then_read, begins, behind}
use Rattle.text_trees.specs.ReadDeclared.{version_argument_in_front, mark_behind, marks_from, marks_in_front, gates_behind, gates_in_front, prefix_in_front}
use Rattle.text_trees.proofs.{Finding.is_there}
use Rattle.text_trees.proofs.MarksFound.{slots, MarkSays, mark-sound}
use Rattle.text_trees.proofs.Steady.{Steady, begins_windowed, found_steady, refused_steady, then_steady, made_steady, either_steady, behind_steady, mark_steady, if_word_steady, if_free_steady, steady_as, id_steady, version_steady, quoted_steady}

argument-steady : Steady version_argument_in_front
argument-steady = mark_steady _ (if_word_steady _ (mark_steady _ (then_steady version_steady (λ version. mark_steady _ found_steady))) refused_steady)

mark-steady : (ids : Bool) (marks : Marks) → Steady (mark_behind ids marks)
mark-steady ids marks =
    if_free_steady _ _ (made_steady _ argument-steady)
    (if_free_steady _ _ (made_steady _ (mark_steady _ (if_word_steady _ (mark_steady _ (then_steady id_steady (λ feature. mark_steady _ found_steady))) refused_steady)))
    (if_free_steady _ _ (made_steady _ argument-steady)
    (if_free_steady _ _ (made_steady _ (mark_steady _ (then_steady quoted_steady (λ characters. mark_steady _ found_steady)))) refused_steady)))

marks_from-steady : (ids : Bool) (n : ℕ) (marks : Marks) → Steady (marks_from ids n marks)
unfolding marks_from
marks_from-steady ids zero marks = refused_steady
marks_from-steady ids (suc n) marks =
    either_steady (begins At) (begins_windowed At) (then_steady (behind_steady (mark-steady ids marks)) (marks_from-steady ids n)) found_steady

-- ---- the number that counts down

-- The number is more than there are tokens, or than attributes that may follow.
abbrev Enough : ℕ → Marks → List Token → Type 0
Enough n marks ts = (length ts < n) ⊎ (slots marks < n)

no_longer : (ts : List Token) → length (behind ts) ≤ length ts
no_longer [] = omega arith
no_longer (t ∷ ts) = omega arith

enough_behind : (ids : Bool) (n : ℕ) (marks next : Marks) (ts rest : List Token) → MarkSays ids marks (behind ts) next rest → Enough (suc n) marks ts → Enough n next rest
enough_behind ids n marks next ts rest s (inl h) = let k = s.shorter in let l = no_longer ts in inl (omega (arith, h, k, l))
enough_behind ids n marks next ts rest s (inr h) = let k = s.fewer in inr (omega (arith, h, k))

never_enough : (marks : Marks) (ts : List Token) → Enough 0 marks ts → ⊥
never_enough marks ts (inl h) = omega (arith, h)
never_enough marks ts (inr h) = omega (arith, h)

-- two ways to read the attributes behind one agree, if they do so on fewer
then_alike : {X Y : Type 0} (r : Reading X) (f g : X → List Token → Reading Y) → ((x : X) (rest : List Token) → r ≡ Found x rest → f x rest ≡ g x rest) → then_read r f ≡ then_read r g
unfolding then_read
then_alike (Found x rest) f g same = same x rest refl
then_alike (Refused wanted rest) f g same = refl

marks_alike : (ids : Bool) (n m : ℕ) (marks : Marks) (ts : List Token) → Enough n marks ts → Enough m marks ts → marks_from ids n marks ts ≡ marks_from ids m marks ts
unfolding marks_from
marks_alike ids zero m marks ts h k = absurd (never_enough marks ts h)
marks_alike ids (suc n) zero marks ts h k = absurd (never_enough marks ts k)
marks_alike ids (suc n) (suc m) marks ts h k =
    ap (λ r. if begins At ts then r else Found marks ts) (then_alike (mark_behind ids marks (behind ts)) (marks_from ids n) (marks_from ids m) (λ next rest e.
    let s = is_there (mark-sound ids marks) (behind ts) rest next e in
    marks_alike ids n m next rest (enough_behind ids n marks next ts rest s h) (enough_behind ids m marks next ts rest s k)))

-- No more than three attributes can stand there.
three_at_most : (ids : Bool) (ts : List Token) → marks_in_front ids ts ≡ marks_from ids 4 no_marks ts
unfolding marks_in_front
three_at_most ids ts = marks_alike ids (suc (length ts)) 4 no_marks ts (inl (omega arith)) (inr (omega arith))

marks-steady : (ids : Bool) → Steady (marks_in_front ids)
marks-steady ids = steady_as (marks_from ids 4 no_marks) (three_at_most ids) (marks_from-steady ids 4 no_marks)

-- ---- gates

gates_behind-steady : (marks : Marks) → Steady (gates_behind marks)
gates_behind-steady marks = go (gates_of_marks marks)
  where
    go : (o : Option Gates) → Steady (λ ts. option_map_or (λ given. Found given ts) o (Refused AGate ts))
    go (Some given) = found_steady
    go None = refused_steady

pub gates-steady : Steady gates_in_front
gates-steady = then_steady (marks-steady false) gates_behind-steady

-- without documentation
pub prefix-steady : Steady (prefix_in_front (λ ts. []))
prefix-steady = then_steady (marks-steady true) (λ marks. made_steady _ (gates_behind-steady marks))
