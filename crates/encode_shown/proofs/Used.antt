-- The paths that a declaration uses are those of the interfaces that it uses.
use Rattle.std.proofs.Common.{rules as std_rules, ◌≡◌, ◌⊎◌, inl, inr, refl, sym, subst, ap, ◌∙◌, ℕ, suc, zero, Bool, true, false, ◌&&◌, ◌||◌, ◌==◌, cond, List, [], ◌∷◌, Option, Some, None, String, arith}
use Rattle.std.proofs.{Math.Logic.⊎_elim}
use Rattle.std.specs.declared.alloc.Global.{Global}
use Rattle.std.specs.{Prelude.option_and_then, Prelude.option_to_list, Prelude.flat_map, List.Contains, List.list_all, Option.option_map_or}
use Rattle.indexmap.specs.IndexMap.{values}
use Rattle.wit_model.specs.{Text.Text, Text.text_of, Text.text_eq, Tree.Tree, Tree.type_, Tree.named}
use Rattle.wit_model.specs.{Types.type_tree, Types.declaration_of, Meant.type_meaning_at, Meant.no_type, Meant.type_meaning}
use Rattle.wit_model.specs.{Lookup.type_at, Lookup.interface_at, Lookup.interface_path, Lookup.place_of, Valid.IsValid}
use Rattle.wit_model.specs.Uses.{has, alias_target, owner_interface, used_interface, interface_used_by, direct_deps}
use Rattle.wit_model.specs.declared.model.{Resolve.Resolve, Interface.Interface, TypeOwner.TypeOwner, «Type».«Type» as ValueType}
use Rattle.wit_model.specs.declared.model.{TypeDef.TypeDef, TypeId.TypeId}
use Rattle.wit_model.proofs.{Shown.deps_pass, Elements.none-in, Elements.has-contains, Elements.contains-has}
use Rattle.comp_meaning.specs.{Follow.View, Follow.ShownType, Rules.used_by, Rules.used_by_view, Rules.others_than}
use Rattle.encode_shown.specs.Views.{shown_type, home_of, types_of}
use Rattle.encode_shown.proofs.{Basics.bool-cases, Basics.option-cases, Parts.alias-target, Members.meaning-there}
use Rattle.base_lemmas.proofs.{Bools.left_of as first_true, Numbers.equal}
use Rattle.base_lemmas.proofs.Elements.{all-contained, all_pass as all-from, contains-later, contains-map, map_from as contains-mapped}
use Rattle.wit_model.specs.declared.model.TypeDefKind.TheVariants as kind
use Rattle.wit_model.specs.declared.model.TypeOwner.TheVariants as owner
use Rattle.wit_model.specs.declared.model.«Type».TheVariants as ty

-- the interface of this path, that a declaration uses
pub record UsesPath (r : Resolve) (used : Option ℕ) (path : Text) : Type 0 where
  pub number : ℕ
  pub is : used ≡ Some number
  pub has_path : interface_path r number ≡ Some path

pub contains-flat-from : {A B : Type 0} (f : A → List B) (xs : List A) (y : B) → Contains (flat_map f xs) y → (x : A) × Contains xs x × Contains (f x) y
contains-flat-from f [] y c = none-in y c
contains-flat-from f (x ∷ xs) y c = ⊎_elim (λ h. (x, (0, omega arith, refl), h)) (λ h. let rest = contains-flat-from f xs y h in (rest.0, contains-later x xs rest.0 rest.1, rest.2))
    (Rattle.std.proofs.lemmas.List.Elements.Contains-append_cases (f x) (flat_map f xs) y c)

module _ (r : Resolve) (v : IsValid r) where
  -- a name in the place of a path is of the interface of that path
  named-used : (a : TypeOwner) (name path : Text) → Contains (used_by (type_ (named (place_of r a) name))) path → UsesPath r (owner_interface a) path
  named-used (owner.Interface i) name path c = search std_rules
  named-used _ name path c = none-in path c

  path-used : (n : ℕ) (def : TypeDef) (path : Text) → type_at r n ≡ Some def → Contains (used_by (declaration_of r def)) path → UsesPath r (used_interface r def) path
  path-used n def path at c = grind (arith, target, none-in)
    where
      target : (t : ValueType) → def.kind ≡ kind.Type_ t → Contains (used_by (type_ (type_tree r t))) path → UsesPath r (used_interface r def) path
      target (ty.Id id) e c =
          let to = alias-target r v n def at id e in
          let uses = named-used to.def.owner (text_of to.string) path (subst (λ (t : Tree). Contains (used_by (type_ t)) path) to.tree c) in
          let interface : used_interface r def ≡ owner_interface to.def.owner =
          ap (λ k. option_and_then (λ t. option_and_then (λ (d : TypeDef). owner_interface d.owner) (type_at r t)) (alias_target k)) e
          ∙ ap (option_and_then (λ (d : TypeDef). owner_interface d.owner)) to.there in
          record { number = uses.number; is = interface ∙ uses.is; has_path = uses.has_path }
      target _ e c = none-in path c

  -- the same by the number of the type
  pub number-used : (n : ℕ) (path : Text) → Contains (used_by (type_meaning_at r n).declaration) path → UsesPath r (interface_used_by r n) path
  number-used n path c = option-cases (type_at r n) (λ e. none-in path (subst (λ o. Contains (used_by (option_map_or (type_meaning r) o no_type).declaration) path) e c)) (λ def e.
      let uses = path-used n def path e (subst (λ m. Contains (used_by m.declaration) path) (meaning-there r n def e) c) in
      record { number = uses.number; is = ap (option_and_then (used_interface r)) e ∙ uses.is; has_path = uses.has_path })

  -- ---- interfaces

  -- an interface that a type of another uses is one of its dependencies
  used-dependency : (n : ℕ) (i : Interface) → interface_at r n ≡ Some i → (e : String Global × TypeId) → Contains i.types.entries e → (m : ℕ) → interface_used_by r e.1.0 ≡ Some m → (m == n) ≡ false
      → Contains (direct_deps r n) m
  used-dependency n i there e c m used other =
      let all : list_all (λ id. list_all (λ k. (k == n) || has (direct_deps r n) k) (option_to_list (interface_used_by r id.0))) (values i.types) ≡ true =
      deps_pass (has (direct_deps r n)) r n i there ∙ all-from (has (direct_deps r n)) (direct_deps r n) (contains-has (direct_deps r n)) in
      let one = all-contained (λ (id : TypeId). list_all (λ k. (k == n) || has (direct_deps r n) k) (option_to_list (interface_used_by r id.0))) (values i.types) e.1 all
      (contains-map (λ x. x.1) i.types.entries e c) in
      let passed : (((m == n) || has (direct_deps r n) m) && true) ≡ true = ap (λ o. list_all (λ k. (k == n) || has (direct_deps r n) k) (option_to_list o)) (sym used) ∙ one in
      has-contains (direct_deps r n) m (sym (ap (λ b. b || has (direct_deps r n) m) other) ∙ first_true ((m == n) || has (direct_deps r n) m) true passed)

  -- the path that a view of the types of an interface uses is its own, or that of a dependency
  pub view-used : (n : ℕ) (view : View) → view.types ≡ option_map_or (types_of r n) (interface_at r n) [] → (path : Text) → Contains (used_by_view view) path
      → (interface_path r n ≡ Some path) ⊎ ((m : ℕ) × Contains (direct_deps r n) m × (interface_path r m ≡ Some path))
  view-used n view types path c = go (interface_at r n) refl
      (contains-flat-from (λ (t : ShownType). used_by t.meaning.declaration) _ path (subst (λ (ts : List ShownType). Contains (flat_map (λ t. used_by t.meaning.declaration) ts) path) types c))
    where
      go : (o : Option Interface) → interface_at r n ≡ o → (t : ShownType) × Contains (option_map_or (types_of r n) o []) t × Contains (used_by t.meaning.declaration) path
          → (interface_path r n ≡ Some path) ⊎ ((m : ℕ) × Contains (direct_deps r n) m × (interface_path r m ≡ Some path))
      go None e shown = none-in shown.0 shown.1
      go (Some i) e shown =
          let entry = contains-mapped (shown_type r (home_of r n)) i.types.entries shown.0 shown.1 in
          let uses = number-used entry.0.1.0 path (subst (λ (t : ShownType). Contains (used_by t.meaning.declaration) path) (sym entry.2) shown.2) in
          bool-cases (uses.number == n) (λ q. inl (subst (λ (k : ℕ). interface_path r k ≡ Some path) (equal uses.number n q) uses.has_path))
          (λ q. inr (uses.number, used-dependency n i e entry.0 entry.1 uses.number uses.is q, uses.has_path))

-- what is used besides itself
pub others-used : (own : Option Text) (ps : List Text) (p : Text) → Contains (others_than own ps) p → Contains ps p × ((own ≡ Some p) → ⊥)
others-used None ps p c = (c, λ e. cc)
others-used (Some own) [] p c = none-in p c
others-used (Some own) (q ∷ ps) p c = go (others-used (Some own) ps p) (text_eq own q) refl c
  where
    go : (Contains (others_than (Some own) ps) p → Contains ps p × ((Some own ≡ Some p) → ⊥)) → (b : Bool) → text_eq own q ≡ b
        → Contains (cond b (others_than (Some own) ps) (q ∷ others_than (Some own) ps)) p → Contains (q ∷ ps) p × ((Some own ≡ Some p) → ⊥)
    go more true e c = let rest = more c in (contains-later q ps p rest.0, rest.1)
    go more false e (zero, l, h) = search std_rules
    go more false e (suc k, l, h) = let rest = more (k, omega (arith, l), h) in (contains-later q ps p rest.0, rest.1)
