-- Each interface that a well-formed view uses was seen before it.
use Rattle.std.proofs.Common.{rules as std_rules, ◌≡◌, ◌⊎◌, inl, inr, refl, sym, ap, subst, ◌∙◌, ℕ, zero, suc, Bool, List, [], ◌∷◌, flat_map, Some, slice_get}
use Rattle.std.proofs.lemmas.List.Elements.{Contains-append_cases as in_either}
use Rattle.std.specs.List.{Contains}
use Rattle.wit_model.specs.{Text.Text, Tree.Place, Tree.Tree, Tree.TypeDeclaration}
use Rattle.wit_model.proofs.Elements.{none-in}
use Rattle.comp_meaning.specs.{Follow.ShownType, Follow.Instance, Follow.instance_place, Rules.used_by, Rules.used_by_view}
use Rattle.read_shown.specs.Trees.{DeclarationStands}
use Rattle.read_shown.specs.{Views.IsMetInView, Views.inside, Views.outside, Views.ViewStands, Scopes.IsInstanceBefore, Scopes.IsShownBefore}

-- ---- what stands in lists

-- what is of one of the lists
in_flat : {A B : Type 0} (f : A → List B) (xs : List A) (y : B) → Contains (flat_map f xs) y → (n : ℕ) × (x : A) × (slice_get xs n ≡ Some x) × Contains (f x) y
in_flat f [] y c = none-in y c
in_flat f (x ∷ xs) y c = elim (in_either (f x) (flat_map f xs) y c) [ inl here ↦ (zero, x, refl, here) | inr later ↦ (let r = in_flat f xs y later in (suc r.0, r.1, r.2, r.3)) ]

-- ---- what a view uses

name_used : (path : Text) (d : TypeDeclaration) → Contains (used_by d) path → (name : Text) × (d ≡ TypeDeclaration.type_ (Tree.named (Place.of_interface path) name))
name_used path x c = search std_rules

pub path_once : (p q : Text) → Place.of_interface p ≡ Place.of_interface q → p ≡ q
path_once p q e = cc

pub use_stands_before : (instances : List Instance) (count : ℕ) (x : Instance) → ViewStands (IsShownBefore instances count) (instance_place x.interface) x.view
    → (path : Text) → Contains (used_by_view x.view) path → (x.interface ≡ Some path) ⊎ IsInstanceBefore instances count path
use_stands_before instances count x st path c =
    let t = in_flat (λ (u : ShownType). used_by u.meaning.declaration) x.view.types path c in
    let name = name_used path t.1.meaning.declaration t.3 in
    let type_ = st.types t.0 t.1 t.2 in
    by t.0 name.0 type_.is_resource (subst (λ d. DeclarationStands (IsMetInView (IsShownBefore instances count) (instance_place x.interface) x.view t.0) d type_.is_resource) name.1 type_.declared)
  where
    by : (n : ℕ) (name : Text) (b : Bool) → IsMetInView (IsShownBefore instances count) (instance_place x.interface) x.view n (Place.of_interface path) name b → (x.interface ≡ Some path)
        ⊎ IsInstanceBefore instances count path
    by n name b (inside here s) = inl (search std_rules)
    by n name b (outside s) =
        inr (record { number = s.number; below = s.below; shown = s.shown; at = s.at; of_path = s.of_path ∙ ap Some (path_once s.path path (sym s.stands)) })
