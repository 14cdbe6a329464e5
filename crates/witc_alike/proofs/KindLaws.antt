-- What readings tell.
use Rattle.std.proofs.Common.{rules as std_rules, ◌≡◌, ◌∙◌, sym, subst, ℕ, Bool, true, false, List, Result, Ok, Err, IfOk}
use Rattle.std.proofs.lemmas.Bool.{true≢false}
use Rattle.std.specs.Prelude.{◌↔◌, IfErr, IsTrue}
use Rattle.wit_model.specs.declared.{error.Error.Error, model.PackageId.PackageId, model.Resolve.Resolve, model.WorldId.WorldId}
use Rattle.wit_component.specs.{Binding.Binding, BoundLaws.BoundIsNotRefused, Reached.OutgrowsLists}
use Rattle.wit_component.specs.{Bound.IsBound, Bound.IsRefused, Bound.RefusesBindings, DecodedWorlds.IsDecodedWorld, DecodedWorlds.RefusesWorldBytes}
use Rattle.wit_component.specs.{Decoded.IsDecoded, Decoded.RefusesBytes, Meaning.PackageMeaning, Meaning.WorldPackage, Reads.Reads, Reads.ReadsWorld}
use Rattle.witc_alike.specs.Kinds.{IsUnknown, TellsRead}
use Rattle.wit_model.specs.declared.error.Error.TheVariants as errors

-- ---- what is told of a reading that is there, or that is refused

module _ (X : Type 0) (b : Bool) where
  yes : X → (let r : Result Bool Error = Ok b in r ≡ Ok true) → IsTrue b ↔ X
  yes x is = (λ t. x, λ y. (let so : b ≡ true = cc in so))

  no : (X → ⊥) → (let r : Result Bool Error = Ok b in r ≡ Ok false) → IsTrue b ↔ X
  no none is = (λ t. (let so : b ≡ false = cc in absurd (true≢false (sym t ∙ so))), λ y. absurd (none y))

  lost : (Y : Type 0) (e : Error) → (let r : Result Bool Error = Ok b in r ≡ Err e) → Y
  lost Y e is = let never : ⊥ = cc in absurd never

module _ (bytes : List ℕ) (b : Bool) where
  pub package-told : (x : Result (Resolve × PackageId) Error) → IfOk x (λ y. IsDecoded bytes y.0 y.1.0) → IfErr x (RefusesBytes bytes) → TellsRead x (Ok b) → IsTrue b
      ↔ ((m : PackageMeaning) × Reads bytes m)
  package-told (Ok y) decoded refused told = yes ((m : PackageMeaning) × Reads bytes m) b (decoded.meaning, decoded.read) told
  package-told (Err (errors.NoReading cause offset)) decoded refused told = no ((m : PackageMeaning) × Reads bytes m) b (λ read. refused.1 read.0 read.1) told
  package-told (Err errors.Memory) decoded refused told = lost (IsTrue b) b (IsTrue b ↔ ((m : PackageMeaning) × Reads bytes m)) errors.Memory told
  package-told (Err _) decoded refused told = absurd refused

  pub world-told : (x : Result (Resolve × WorldId) Error) → IfOk x (λ y. IsDecodedWorld bytes y.0 y.1.0) → IfErr x (RefusesWorldBytes bytes) → TellsRead x (Ok b) → IsTrue b
      ↔ ((m : WorldPackage) × ReadsWorld bytes m)
  world-told (Ok y) decoded refused told = yes ((m : WorldPackage) × ReadsWorld bytes m) b (decoded.meaning, decoded.read) told
  world-told (Err (errors.NoReading cause offset)) decoded refused told = no ((m : WorldPackage) × ReadsWorld bytes m) b (λ read. refused.1 read.0 read.1) told
  world-told (Err errors.Memory) decoded refused told = lost (IsTrue b) b (IsTrue b ↔ ((m : WorldPackage) × ReadsWorld bytes m)) errors.Memory told
  world-told (Err _) decoded refused told = absurd refused

-- ---- modules

-- the refusals that leave open whether a reading is there
abbrev LeavesOpen : Error → Type 0
LeavesOpen errors.Memory = Unit {0}
LeavesOpen errors.Size = Unit {0}
LeavesOpen _ = ⊥

-- what is told of a refusal that doesn't
refused-told : (T : Type 0) (b : Bool) (e : Error) → (let x : Result T Error = Err e in TellsRead x (Ok b)) → (let r : Result Bool Error = Ok b in r ≡ Ok false) × (LeavesOpen e → ⊥)
refused-told y b z told = search std_rules

-- such a refusal is one of the module
is-refused : (bytes : List ℕ) (e : Error) → (LeavesOpen e → ⊥) → RefusesBindings bytes e → IsRefused bytes e
is-refused bytes errors.Memory closed refused = absurd (closed tt)
is-refused bytes errors.Size closed refused = absurd (closed tt)
is-refused bytes _ closed refused = refused

closed-memory : (e : Error) → (LeavesOpen e → ⊥) → e ≡ errors.Memory → ⊥
closed-memory e closed is = closed (subst LeavesOpen (sym is) tt)

pub module-told : {T : Type 0} (of : T → Binding) (law : BoundIsNotRefused) (bytes : List ℕ) (b : Bool) (x : Result T Error)
    → IfOk x (λ y. IsBound bytes (of y)) → IfErr x (RefusesBindings bytes) → TellsRead x (Ok b) → IsTrue b ↔ ((c : Binding) × IsBound bytes c)
module-told of law bytes b (Ok y) bound refused told = yes ((c : Binding) × IsBound bytes c) b (of y, bound) told
module-told {T = T} of law bytes b (Err e) bound refused told =
    let it = refused-told T b e told in
    no ((c : Binding) × IsBound bytes c) b (λ x. closed-memory e it.1 (law bytes x.0 e x.1 (is-refused bytes e it.1 refused))) it.0

-- ---- what is left open

-- a refusal that is passed on says that memory ran out, or that a list would get too long
pub open-told : {T : Type 0} (bytes : List ℕ) (x : Result T Error) (e : Error) → TellsRead x (Err e) → IfErr x (λ d. d ≡ errors.Size → OutgrowsLists bytes) → IsUnknown bytes e
open-told bytes x e told size = search std_rules

-- a package and a world are never too large
pub package-fits : (bytes : List ℕ) (X : Type 0) (e : Error) → RefusesBytes bytes e → e ≡ errors.Size → X
package-fits bytes X e refused is = absurd (subst (RefusesBytes bytes) is refused)

pub world-fits : (bytes : List ℕ) (X : Type 0) (e : Error) → RefusesWorldBytes bytes e → e ≡ errors.Size → X
world-fits bytes X e refused is = absurd (subst (RefusesWorldBytes bytes) is refused)
