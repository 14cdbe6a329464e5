-- The imports of a world, taken apart: its types in order, and what else it imports, each with how many types stand before it. The two
-- together are all its imports.
use Rattle.std.specs.Prelude.{◌≡◌, ℕ, ◌+◌, Bool, true, false, if◌then◌else◌, List, [], ◌∷◌, ◌++◌}
use Rattle.std.specs.List.{list_all}
use Rattle.comp_meaning.specs.Follow.{Seen, Shown}

-- whether an import is a type
abbrev pub is_type_shown : Shown → Bool
is_type_shown (Shown.instance key view) = false
is_type_shown (Shown.function f) = false
is_type_shown (Shown.declares d) = true

abbrev pub types_seen : List Seen → List Seen
types_seen [] = []
types_seen (s ∷ ss) = if is_type_shown s.shown then s ∷ types_seen ss else types_seen ss

-- what else is imported, each with how many types stand before it, of which there are so many before all of these
abbrev pub others_seen : ℕ → List Seen → List (ℕ × Seen)
others_seen n [] = []
others_seen n (s ∷ ss) = if is_type_shown s.shown then others_seen (n + 1) ss else (n, s) ∷ others_seen n ss

-- What is imported is known from its types and the others.
abbrev pub ImportsAreKnown : Type 0
ImportsAreKnown = (xs ys : List Seen) → others_seen 0 xs ≡ others_seen 0 ys → types_seen xs ≡ types_seen ys → xs ≡ ys

-- Where the others stay and types are added, these come last.
abbrev pub TypesComeLast : Type 0
TypesComeLast = (xs ys ts : List Seen) → list_all (λ t. is_type_shown t.shown) ts ≡ true → others_seen 0 ys ≡ others_seen 0 xs
    → types_seen ys ≡ types_seen xs ++ ts → ys ≡ xs ++ ts
