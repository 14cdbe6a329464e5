-- What the list of imports, or that of exports, is refused for, the world is refused for.
use Rattle.std.proofs.Common.{◌≡◌, sym, subst, true, Bool, Result, Ok, Err, IfErr}
use Rattle.std.specs.Prelude.{IsErrAnd}
use Rattle.wit_model.specs.declared.{error.Error.Error, model.Resolve.Resolve, model.World.World}
use Rattle.encode_names.specs.Clashes.{canonical_names_of, AreDifferent, IsNameClash, RefusesItems, RefusesNames}

module _ (r : Resolve) (w : World) (canonical : Bool) (is : canonical ≡ true) where
  of_imports : (e : Error) → RefusesItems r w.imports.entries e → RefusesNames r w canonical e
  of_imports e (RefusesItems.memory h) = RefusesNames.memory h
  of_imports e (RefusesItems.clash name repeats h) = RefusesNames.clash is name (IsNameClash.of_imports repeats) h

  of_exports : AreDifferent (canonical_names_of r w.imports.entries) → (e : Error) → RefusesItems r w.exports.entries e → RefusesNames r w canonical e
  of_exports different e (RefusesItems.memory h) = RefusesNames.memory h
  of_exports different e (RefusesItems.clash name repeats h) = RefusesNames.clash is name (IsNameClash.of_exports different repeats) h

  pub imports_refused : {X : Type 0} (e : Error) (given : Result X Error) → RefusesItems r w.imports.entries e → IsErrAnd given (λ f. f ≡ e) → IfErr given (RefusesNames r w canonical)
  imports_refused e (Ok x) refuses h = tt
  imports_refused e (Err f) refuses h = subst (RefusesNames r w canonical) (sym h) (of_imports e refuses)

  pub exports_refused : {X : Type 0} → AreDifferent (canonical_names_of r w.imports.entries) → (given : Result X Error) → IfErr given (RefusesItems r w.exports.entries)
      → IfErr given (RefusesNames r w canonical)
  exports_refused different (Ok x) refuses = tt
  exports_refused different (Err e) refuses = of_exports different e refuses
