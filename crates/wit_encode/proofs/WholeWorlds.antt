-- A component type in which all imports and exports of a world are shown is that of the world.
use Rattle.std.proofs.Common.{rules as std_rules, ◌≡◌, sym, subst, ℕ, Bool, true, Some}
use Rattle.std.specs.Prelude.{IfErr, IsErrAnd, OnOk, Result, Ok, Err}
use Rattle.wit_model.specs.{Lookup.world_at, Valid.IsValid}
use Rattle.wit_model.specs.declared.{error.Error.Error, model.Resolve.Resolve, model.World.World}
use Rattle.comp_bytes.specs.Refusal.{IsMemoryOrSize}
use Rattle.comp_meaning.specs.Follow.{export_}
use Rattle.encode_shown.proofs.{Worlds.world-obeys, WorldMeans.world-means, WorldMeans.world-package-means}
use Rattle.encode_names.specs.Clashes.{HasNoClash, RefusesNames}
use Rattle.encode_names.proofs.WorldSteps.{worlds_are_shown}
use Rattle.wit_encode.specs.{Packages.RefusesWorldAt, WholeWorlds.RefusesWorld, WholeWorlds.ShowsWorldType, WorldItems.HasShown, WorldItems.ended}
use Rattle.wit_encode.specs.Worlds.{WorldEncoder}
use Rattle.wit_model.specs.declared.error.Error.TheVariants as errors

pub world-shown : (r : Resolve) → IsValid r → (w : World) (e : WorldEncoder) → HasShown r w e (ended export_ w) → ShowsWorldType r w e.outer
world-shown r v w e h = search (std_rules, worlds_are_shown, world-obeys, world-means, world-package-means)

-- ---- what is refused

module _ (r : Resolve) (w : World) (canonical : Bool) where
  pub names-refused : {X : Type 0} (e : Error) (given : Result X Error) → RefusesNames r w canonical e → IsErrAnd given (λ f. f ≡ e) → IfErr given (RefusesWorld r w canonical)
  names-refused e (Ok x) refuses h = tt
  names-refused e (Err f) refuses h = subst (RefusesWorld r w canonical) (sym h) (RefusesWorld.of_names refuses)

  pub room-refused : {X : Type 0} → (canonical ≡ true → HasNoClash r w) → (given : Result X Error) → IfErr given IsMemoryOrSize → IfErr given (RefusesWorld r w canonical)
  room-refused none x refuses = search std_rules

  -- names that clash aren't too large
  pub clash-fits : {X Q : Type 0} (e : Error) (given : Result X Error) → RefusesNames r w canonical e → IsErrAnd given (λ f. f ≡ e) → given ≡ Err errors.Size → Q
  clash-fits e x refuses h refused = search std_rules

-- what holds by itself holds of any result
pub at-any : {X P : Type 0} (given : Result X Error) → P → OnOk given P
at-any x p = search std_rules

-- the same of the world of a number
pub world-at : {X : Type 0} (r : Resolve) (n : ℕ) (canonical : Bool) (given : Result X Error) → ((w : World) → world_at r n ≡ Some w → IfErr given (RefusesWorld r w canonical))
    → IfErr given (RefusesWorldAt r n canonical)
world-at r n canonical (Ok x) h = tt
world-at r n canonical (Err e) h = h
