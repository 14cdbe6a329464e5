-- Packages that were known by their names are known when a `Resolve` has grown.
use Rattle.std.proofs.Common.{◌≡◌, refl, sym, ap, ◌∙◌, ℕ, suc, ◌+◌, ◌≤◌, cond, List, [], ◌∷◌, length, take, Option, Some, None, arith}
use Rattle.std.specs.Prelude.{slice_get}
use Rattle.wit_model.specs.declared.model.{Package.Package, PackageName.PackageName, Resolve.Resolve}
use Rattle.wit_model.specs.Rules.{same_package_name}
use Rattle.bind_match.specs.Matching.{package_from}
use Rattle.bind_names.specs.Named.{AreNamed, Table}
use Rattle.wit_bind.specs.Extends.{Extends}

-- each of the first packages is among the second ones, under its number and its name
abbrev StandIn : List Package → List Package → Type 0
StandIn ps qs = (n : ℕ) (p : Package) → slice_get ps n ≡ Some p → (q : Package) × (slice_get qs n ≡ Some q) × (q.name ≡ p.name)

abbrev some_is : {X : Type 0} {x y : X} → Some x ≡ Some y → x ≡ y
some_is {X} {x} e = ap (λ (o : Option X). unwrapped o) e
  where
    unwrapped : Option X → X
    unwrapped (Some y) = y
    unwrapped None = x

from_first : (x : PackageName) (k : ℕ) (ps qs : List Package) → StandIn ps qs → package_from x k (take (length ps) qs) ≡ package_from x k ps
from_first x k [] qs h = refl
from_first x k (p ∷ ps) [] h = let none : None ≡ Some (h 0 p refl).0 = (h 0 p refl).1 in absurd (let q : ⊥ = cc in q)
from_first x k (p ∷ ps) (q ∷ qs) h =
    let there = h 0 p refl in
    let same : q.name ≡ p.name = ap (λ (r : Package). r.name) (some_is there.1) ∙ there.2 in
    ap (λ name. cond (same_package_name x name) (Some (record { 0 = k })) (package_from x (k + 1) (take (length ps) qs))) same
    ∙ ap (cond (same_package_name x p.name) (Some (record { 0 = k }))) (from_first x (k + 1) ps qs (λ n r at. h (suc n) r at))

as_long : (ps qs : List Package) → StandIn ps qs → length ps ≤ length qs
as_long [] qs h = omega arith
as_long (p ∷ ps) [] h = let none : None ≡ Some (h 0 p refl).0 = (h 0 p refl).1 in absurd (let q : ⊥ = cc in q)
as_long (p ∷ ps) (q ∷ qs) h = let rest = as_long ps qs (λ n r at. h (suc n) r at) in omega (arith, rest)

stand_in : (old new : Resolve) (bound : ℕ) → Extends old new bound → StandIn old.packages.items new.packages.items
stand_in old new bound grown n p at = let q = grown.packages n p at in (q.0, q.1, q.2.name)

pub still_named : (old new : Resolve) (bound : ℕ) (named : Table) → Extends old new bound → AreNamed old.packages.items named → AreNamed (take (length old.packages.items) new.packages.items) named
still_named old new bound named grown are x = are x ∙ sym (from_first x 0 old.packages.items new.packages.items (stand_in old new bound grown))

pub more_packages : (old new : Resolve) (bound : ℕ) → Extends old new bound → length old.packages.items ≤ length new.packages.items
more_packages old new bound grown = as_long old.packages.items new.packages.items (stand_in old new bound grown)
