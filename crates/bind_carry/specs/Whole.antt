-- What is carried as a whole: packages, interfaces and worlds under their new numbers.
use Rattle.std.specs.Prelude.{◌≡◌, ℕ, Bool, true, false, List, [], ◌∷◌, ◌++◌, Option, option_map}
use Rattle.std.specs.List.{AllZip}
use Rattle.wit_model.specs.Text.{optional_text, text_of}
use Rattle.wit_model.specs.declared.model.{Interface.Interface, PackageId.PackageId, World.World}
use Rattle.bind_union.specs.Carried.{stability_view}
use Rattle.bind_copy.specs.Copies.{number_under, AreNewCopied, IsInterfaceUnder}
use Rattle.bind_carry.specs.declared.plan.Carried.{Carried}

-- those whose flags are set
abbrev pub kept : {X : Type 0} → List Bool → List X → List X
kept [] xs = []
kept (b ∷ bs) [] = []
kept (true ∷ bs) (x ∷ xs) = x ∷ kept bs xs
kept (false ∷ bs) (x ∷ xs) = kept bs xs

-- Of those whose flags are set each has its copy, in their order, as far as some that are left.
abbrev pub KeptSoFar : {X Y : Type 0} → (X → Y → Type 0) → List Bool → List X → List Bool → List X → List Y → Type 0
KeptSoFar {X} {Y} P flags xs left_flags left done = (later : List Y) → AllZip P (kept left_flags left) later → AllZip P (kept flags xs) (done ++ later)

-- the number of a package from now on
abbrev pub home_under : List ℕ → Option PackageId → Option PackageId
home_under packages home = option_map (λ id. record { 0 = number_under packages id.0 }) home

abbrev pub IsInterfaceCarried : Carried → List ℕ → Interface → Interface → Type 0
IsInterfaceCarried c types old new = IsInterfaceUnder types (home_under c.packages.items old.«package») old new

-- A world is copied with all its items.
pub record IsWorldCarried (c : Carried) (types : List ℕ) (old new : World) : Type 0 where
  pub name : text_of new.name ≡ text_of old.name
  pub imports : AreNewCopied c.interfaces.items types [] old.imports.entries new.imports.entries
  pub exports : AreNewCopied c.interfaces.items types [] old.exports.entries new.exports.entries
  pub docs : optional_text new.docs.contents ≡ optional_text old.docs.contents
  pub stability : stability_view new.stability ≡ stability_view old.stability
  pub in_package : new.«package» ≡ home_under c.packages.items old.«package»
