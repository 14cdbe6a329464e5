-- What is refused isn't accepted.
use Rattle.std.proofs.Common.{◌≡◌, sym, ap, subst, inl, inr, List, ◌∷◌, ◌++◌, Option, Some, unwrap_or}
use Rattle.std.proofs.lemmas.List.Elements.{Contains-append_right}
use Rattle.base_lemmas.proofs.Elements.{first-contained}
use Rattle.std.specs.List.{Contains}
use Rattle.wit_model.specs.declared.{model.Resolve.Resolve, model.World.World, error.Error.Error}
use Rattle.compat_meaning.specs.Compatible.{Accepts, IsFault, is_missing, is_other, IsFirstFault, IsIncluded, IsMismatch, IsRefused, memory, refused, IsRepeated, Refusal, Refuses, package_name, packages, keys, imports, exports, HasKeysOnce, keys_of_world}
use Rattle.compat_meaning.specs.Flat.{FlatName, FlatShown, find_named}
use Rattle.compat_meaning.proofs.Repeating.{both_once, repeated_excludes}

no_fault : (name : FlatName) (s : FlatShown) (o : Option FlatShown) (f : Refusal) → IsFault name s o f → o ≡ Some s → ⊥
no_fault name s _ _ is_missing e = let z : ⊥ = cc in z
no_fault name s _ _ (is_other o other) e = other (ap (λ p. unwrap_or p s) e)

fault_excludes : (small large : List (FlatName × FlatShown)) (f : Refusal) → IsFirstFault small large f → IsIncluded small large → ⊥
fault_excludes small large f w i = no_fault w.entry.0 w.entry.1 (find_named w.entry.0 large) f w.wrong
    (i w.entry (subst (λ (xs : List (FlatName × FlatShown)). Contains xs w.entry) (sym w.split) (Contains-append_right w.front (w.entry ∷ w.rest) w.entry (first-contained w.entry w.rest))))

pub refused_not_accepted : (r : Resolve) (a b : World) (f : Refusal) → Refuses r a b f → Accepts r a b → ⊥
refused_not_accepted r a b _ (packages other) h = other h.comparable.packages
refused_not_accepted r a b _ (keys name same t) h = repeated_excludes (keys_of_world r a ++ keys_of_world r b) name t (both_once r a b h.comparable.prev_keys h.comparable.new_keys)
refused_not_accepted r a b f (imports _ c w) h = fault_excludes _ _ f w h.compatible.imports
refused_not_accepted r a b f (exports _ c i w) h = fault_excludes _ _ f w h.compatible.exports

module _ (r : Resolve) (a b : World) (same : package_name r a ≡ package_name r b) where
  pub repeated_refused : (e : Error) → IsRepeated r a b e → IsRefused r a b e
  repeated_refused e (inl m) = subst (IsRefused r a b) (sym m) memory
  repeated_refused e (inr (name, q, t)) = refused e _ q (keys name same t)

  pub mismatch_refused : HasKeysOnce r a → HasKeysOnce r b → (e : Error) → IsMismatch r a b e → IsRefused r a b e
  mismatch_refused p n e (inl (inl m)) = subst (IsRefused r a b) (sym m) memory
  mismatch_refused p n e (inl (inr (f, q, w))) = refused e f q (imports f (record { packages = same; prev_keys = p; new_keys = n }) w)
  mismatch_refused p n e (inr (i, inl m)) = subst (IsRefused r a b) (sym m) memory
  mismatch_refused p n e (inr (i, inr (f, q, w))) = refused e f q (exports f (record { packages = same; prev_keys = p; new_keys = n }) i w)
