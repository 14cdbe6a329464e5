-- Walks along what is shown: what holds of each item of a list, by the list that it stands for.
use Rattle.plan_types.specs.Showings.{NumberedShowing}
use Rattle.std.proofs.Common.{refl, ℕ, zero, suc, List, [], ◌∷◌, ◌++◌, map}
use Rattle.std.specs.List.{AllByRecursion, flat_map}
use Rattle.read_shown.specs.Trees.{AllAt}
use Rattle.base_lemmas.proofs.Elements.{all_both}

pub all_unmapped : {A B : Type 0} (P : B → Type 0) (f : A → B) (xs : List A) → AllByRecursion P (map f xs) → AllByRecursion (λ x. P (f x)) xs
all_unmapped P f [] all = tt
all_unmapped P f (x ∷ xs) all = (all.0, all_unmapped P f xs all.1)

pub all_flat : {A B : Type 0} (P : B → Type 0) (f : A → List B) (xs : List A) → AllByRecursion (λ x. AllByRecursion P (f x)) xs → AllByRecursion P (flat_map f xs)
all_flat P f [] all = tt
all_flat P f (x ∷ xs) all = all_both P (f x) (flat_map f xs) all.0 (all_flat P f xs all.1)

-- what holds of each item and of what it stands for
pub at_each : {A B : Type 0} (f : A → B) (P : ℕ → B → Type 0) (R Q : A → Type 0) (xs : List A) → ((n : ℕ) (x : A) → R x → P n (f x) → Q x) → AllByRecursion R xs → AllAt P (map f xs)
    → AllByRecursion Q xs
at_each f P R Q [] one all at = tt
at_each f P R Q (x ∷ xs) one all at = (one zero x all.0 (at zero (f x) refl), at_each f (λ n y. P (suc n) y) R Q xs (λ n y r p. one (suc n) y r p) all.1 (λ n y e. at (suc n) y e))

pub all_any : {A : Type 0} (xs : List A) → AllByRecursion (λ (x : A). Unit {0}) xs
all_any [] = tt
all_any (x ∷ xs) = (tt, all_any xs)

pub all_two : {A : Type 0} (P Q : A → Type 0) (xs : List A) → AllByRecursion P xs → AllByRecursion Q xs → AllByRecursion (λ x. P x × Q x) xs
all_two P Q [] ps qs = tt
all_two P Q (x ∷ xs) ps qs = ((ps.0, qs.0), all_two P Q xs ps.1 qs.1)

pub all_split : {A : Type 0} (P : A → Type 0) (xs ys : List A) → AllByRecursion P (xs ++ ys) → AllByRecursion P xs × AllByRecursion P ys
all_split P [] ys all = (tt, all)
all_split P (x ∷ xs) ys all = let rest = all_split P xs ys all.1 in ((all.0, rest.0), rest.1)

-- ---- what holds of types and of functions

module _ (P : NumberedShowing → Type 0) (Q : ℕ → Type 0) where
  abbrev pub Held : List NumberedShowing → List ℕ → Type 0
  Held showings signatures = AllByRecursion P showings × AllByRecursion Q signatures

  pub two_held : (xs ys : List NumberedShowing) (ms ns : List ℕ) → Held xs ms → Held ys ns → Held (xs ++ ys) (ms ++ ns)
  two_held xs ys ms ns a b = (all_both P xs ys a.0 b.0, all_both Q ms ns a.1 b.1)

  pub all_held : {A : Type 0} (f : A → List NumberedShowing) (g : A → List ℕ) (xs : List A) → AllByRecursion (λ x. Held (f x) (g x)) xs → Held (flat_map f xs) (flat_map g xs)
  all_held f g [] all = (tt, tt)
  all_held f g (x ∷ xs) all = two_held (f x) (flat_map f xs) (g x) (flat_map g xs) all.0 (all_held f g xs all.1)
