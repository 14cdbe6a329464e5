-- What the paths of imports are refused for, the component type of the interface is refused for.
use Rattle.std.proofs.Common.{rules as std_rules, ◌≡◌, ap, subst, ◌∙◌, ℕ, Bool, List, map, Result, Err, IfErr}
use Rattle.std.specs.Prelude.{IsErrAnd}
use Rattle.wit_model.specs.declared.{error.Error.Error, model.Resolve.Resolve, model.InterfaceId.InterfaceId}
use Rattle.encode_reach.specs.Reach.{reached_in_order}
use Rattle.encode_names.specs.Clashes.{RefusesPaths}
use Rattle.wit_encode.specs.Scopes.{RefusesInterface}
use Rattle.base_lemmas.proofs.Options.{passed}
use Rattle.wit_model.specs.declared.error.Error.TheVariants as errors

abbrev numbers : List InterfaceId → List ℕ
numbers xs = map (λ (id : InterfaceId). id.0) xs

pub refused-by_paths : {X : Type 0} (r : Resolve) (n : ℕ) (canonical : Bool) (found xs : List InterfaceId) (e : Error) (given : Result X Error) → xs ≡ found → numbers found ≡ reached_in_order r n
    → RefusesPaths r (numbers xs) canonical e → IsErrAnd given (λ f. f ≡ e) → IfErr given (RefusesInterface r n canonical)
refused-by_paths r n canonical found xs e given same order refuses h = passed (RefusesInterface r n canonical) given e h
    (RefusesInterface.of_paths (subst (λ (ns : List ℕ). RefusesPaths r ns canonical e) (ap numbers same ∙ order) refuses))

-- paths that clash aren't too large
pub paths-fit : {X Q : Type 0} (r : Resolve) (ns : List ℕ) (canonical : Bool) (e : Error) (given : Result X Error) → RefusesPaths r ns canonical e → IsErrAnd given (λ f. f ≡ e)
    → given ≡ Err errors.Size → Q
paths-fit r ns canonical e x refuses h refused = search std_rules
