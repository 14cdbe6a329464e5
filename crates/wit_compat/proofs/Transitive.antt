-- Worlds that may take each other's place in turn.
use Rattle.std.proofs.Common.{rules as std_rules, ◌≡◌, refl, ap, Bool, true, false, cond, sym, subst, List, [], ◌∷◌, Some, unwrap_or}
use Rattle.base_lemmas.proofs.Elements.{contains-later, first-contained}
use Rattle.std.specs.List.{Contains}
use Rattle.wit_model.specs.declared.model.{Resolve.Resolve, World.World}
use Rattle.compat_meaning.specs.{Compatible.Accepts, Compatible.IsIncluded, Flat.FlatName, Flat.FlatShown, Flat.find_named, Flat.same_name}
use Rattle.wit_compat.proofs.Indexing.{same_name_is}

-- what is found under a name stands in the list
pub found_stands : {X : Type 0} (name : FlatName) (x : X) (xs : List (FlatName × X)) → find_named name xs ≡ Some x → Contains xs (name, x)
found_stands name x [] e = absurd (let z : ⊥ = cc in z)
found_stands {X} name x (y ∷ ys) e = by (same_name name y.0) refl (found_stands name x ys) e
  where
    by : (b : Bool) → same_name name y.0 ≡ b → (find_named name ys ≡ Some x → Contains ys (name, x)) → cond b (Some y.1) (find_named name ys) ≡ Some x → Contains (y ∷ ys) (name, x)
    by true t later f = subst (Contains (y ∷ ys)) (λ i. (sym (same_name_is name y.0 t) i, ap (λ o. unwrap_or o x) f i)) (first-contained y ys)
    by false t later f = contains-later y ys (name, x) (later f)

module _ (r : Resolve) where
  found_included : (xs ys zs : List (FlatName × FlatShown)) → IsIncluded xs ys → IsIncluded ys zs → IsIncluded xs zs
  found_included xs ys zs p q e c = q e (found_stands e.0 e.1 ys (p e c))

  pub accepts_through : (a b c : World) → Accepts r a b → Accepts r b c → Accepts r a c
  accepts_through a b c p q = search (std_rules, found_included)
