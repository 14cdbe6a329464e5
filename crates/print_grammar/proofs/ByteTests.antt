-- Tests of every byte of a text.
use Rattle.std.proofs.Common.{rules as std_rules, ◌≡◌, ℕ, Bool, true, false, List, [], ◌∷◌, ◌++◌}
use Rattle.std.proofs.lemmas.{List.Folds.list_all-append}
use Rattle.std.specs.List.{list_all}
use Rattle.base_lemmas.proofs.Bools.{left_of, right_of}

-- a byte that fails the test
pub all_but_one : (p : ℕ → Bool) (front : List ℕ) (c : ℕ) (more : List ℕ) → p c ≡ false → list_all p ((front ++ c ∷ []) ++ more) ≡ true → ⊥
all_but_one p front c more e h = search (std_rules, left_of, list_all-append, right_of)
