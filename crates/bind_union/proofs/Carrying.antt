-- What is carried into another `Resolve` stands in the same places, for the same trees, and meets the same named types.
use Rattle.std.proofs.Common.{rules as std_rules, ◌≡◌, ◌⊎◌, refl, sym, ap, subst, ◌∙◌, ℕ, ◌<◌, ◌+◌, arith, true, ◌||◌, ◌==◌, nat_lt, ltb-true, List, [], ◌∷◌, ◌++◌, map, Option, Some, None, option_map, option_and_then, option_to_list, is_some}
use Rattle.std.proofs.lemmas.{Bool.or_right, Bool.and_from as both, List.Folds.list_all-append, List.map-append}
use Rattle.std.specs.{Prelude.String, List.list_all, List.flat_map, Option.option_map_or}
use Rattle.std.specs.declared.alloc.Global.{Global}
use Rattle.wit_model.specs.declared.model.{Resolve.Resolve, Package.Package, TypeDef.TypeDef, PackageName.PackageName, Interface.Interface, TypeOwner.TypeOwner, «Type».«Type» as ValueType}
use Rattle.wit_model.specs.{Text.Text, Text.optional_text, Names.path_in, Checks.references, Types.number_of, Types.number_tree, Types.type_tree, Valid.is_place, Valid.Keeps, Valid.KeepsRules, Valid.numbers_in_range, Parts.kind_numbers, Parts.met_by, Parts.met_of, Parts.used_by_type, Uses.has, Rules.passes, Rules.in_list, Rules.package_number}
use Rattle.wit_model.specs.Lookup.{package_at, interface_at, identity_of, path_in_package, path_of_interface, interface_path, place_of}
use Rattle.wit_model.proofs.{Entries.each_from_all, Entries.lists_pass, Entries.types_keep, TreeTable.kept_numbers, Elements.has-contains, RulesLemmas.each_at, Checks.below_at, Owners.met_step, OnePath.found-in}
use Rattle.bind_union.specs.{Views.renamed_type, Images.HasImageKind, Images.AreCarried, Images.RefersBelow}
use Rattle.bind_union.specs.Carried.{Renumbering, owner_under, carries_owner, IsSameName, IsNamesake, IsType, IsInterface, IsCarried}
use Rattle.bind_union.proofs.{Lists.by_less, Images.same_trees, Images.numbers_of_view, ViewTests.numbers_same}
use Rattle.base_lemmas.proofs.{Bools.left_of as first_true, Bools.right_of as second_true, Elements.all-contained, Numbers.same-number}

-- ---- rules of a valid one

pub references_of : (r : Resolve) → KeepsRules r → Keeps references r
unfolding references
references_of r v = types_keep (λ r n def. list_all (λ m. nat_lt m n) (kind_numbers def.kind)) r
    (each_from_all _ 0 r.types.items (λ n def is. let here : n ≡ 0 + n = omega arith in subst (λ m. list_all (λ k. nat_lt k m) (kind_numbers def.kind) ≡ true) here (kept_numbers r v n def is)))

pub refers_below : (r : Resolve) → Keeps references r → RefersBelow r
refers_below r h n def is = below_at r h n def is

-- the package of an interface is there
pub interface_package : (r : Resolve) → KeepsRules r → (n : ℕ) (i : Interface) → interface_at r n ≡ Some i → passes (in_list r.packages.items) (package_number i.«package») ≡ true
unfolding numbers_in_range
interface_package r v n i is = first_true _ _ (second_true (is_place n) _ (each_at (numbers_in_range.interface_ r) r.interfaces.items n i (lists_pass numbers_in_range r v.numbers_in_range).1 is))

-- ---- paths

pub same_identity : (a b : PackageName) → IsSameName a b → identity_of b ≡ identity_of a
same_identity a b h = search std_rules

abbrev pub path_by : Resolve → Option Text → Option ℕ → Option Text
path_by r name p = option_and_then (λ t. option_and_then (λ n. path_in_package r n t) p) name

pub path_parts : (r : Resolve) (i : Interface) → path_of_interface r i ≡ path_by r (optional_text i.name) (package_number i.«package»)
path_parts r i = search std_rules

module _ (r s : Resolve) (f : Renumbering) (valid : KeepsRules r) (is : IsCarried r s f) (below_s : Keeps references s) where
  abbrev below_r : Keeps references r
  below_r = references_of r valid

  pub same_path_by : (name : Option Text) (p : Option ℕ) → ((n : ℕ) → p ≡ Some n → (q : Package) × (package_at r n ≡ Some q)) → path_by s name (option_map f.packages p) ≡ path_by r name p
  same_path_by None p h = refl
  same_path_by (Some t) None h = refl
  same_path_by (Some t) (Some n) h =
      let q = h n refl in
      let image = is.packages n q.0 q.1 in
      ap (option_map (λ package_. path_in (identity_of package_.name) t)) image.at_image
      ∙ (ap (λ d. Some (path_in d t)) (same_identity q.0.name image.image.name image.name) ∙ sym (ap (option_map (λ package_. path_in (identity_of package_.name) t)) q.1))

  pub path_same : (n : ℕ) → f.carries_interface n ≡ true → interface_path s (f.interfaces n) ≡ interface_path r n
  path_same n c =
      let i = is.interfaces n c in
      ap (option_and_then (path_of_interface s)) i.at_image ∙ (path_parts s i.image
      ∙ (ap (λ t. path_by s t (package_number i.image.«package»)) i.name ∙ (go i i.old.name refl ∙ (sym (path_parts r i.old) ∙ sym (ap (option_and_then (path_of_interface r)) i.found)))))
    where
      go : (i : IsInterface r s f n) (o : Option (String Global)) → i.old.name ≡ o
          → path_by s (optional_text i.old.name) (package_number i.image.«package») ≡ path_by r (optional_text i.old.name) (package_number i.old.«package»)
      go i None e = ap (λ x. path_by s (optional_text x) (package_number i.image.«package»)) e ∙ sym (ap (λ x. path_by r (optional_text x) (package_number i.old.«package»)) e)
      go i (Some x) e = ap (path_by s (optional_text i.old.name)) (i.in_package (ap is_some e))
          ∙ same_path_by (optional_text i.old.name) (package_number i.old.«package»)
          (λ p e. found-in r.packages.items p (ap (passes (in_list r.packages.items)) (sym e) ∙ interface_package r valid n i.old i.found))

  pub place_same : (o : TypeOwner) → carries_owner f o ≡ true → place_of s (owner_under f o) ≡ place_of r o
  place_same x c = search (std_rules, path_same)

  -- ---- trees

  pub image_kind : (def image : TypeDef) → def.name ≡ None → HasImageKind f.types f.carries_type def image ⊎ IsNamesake f def image → HasImageKind f.types f.carries_type def image
  image_kind def image none x = search std_rules

  pub carried_types : AreCarried r s f.types f.carries_type
  carried_types n c = search (std_rules, place_same, image_kind)

  pub tree_same : (n : ℕ) → f.carries_type n ≡ true → number_tree s (f.types n) ≡ number_tree r n
  tree_same n c = same_trees r s f.types f.carries_type (refers_below r below_r) (refers_below s below_s) carried_types n c

  -- the numbers in a type
  pub type_tree_same : (t : ValueType) → list_all f.carries_type (option_to_list (number_of t)) ≡ true → type_tree s (renamed_type f.types t) ≡ type_tree r t
  type_tree_same x h = search (std_rules, tree_same, first_true)

  -- the numbers in a kind that is carried are carried
  pub kind_carried : (def image : TypeDef) → HasImageKind f.types f.carries_type def image → list_all f.carries_type (kind_numbers def.kind) ≡ true
  kind_carried def image k = ap (list_all f.carries_type) (sym (numbers_of_view def.kind)) ∙ k.parts

  -- ---- named types that are met

  all_met : (ns : List ℕ) → list_all f.carries_type ns ≡ true
      → ((n : ℕ) → has ns n ≡ true → (f.carries_type n ≡ true) → (met_by (met_of s) (f.types n) ≡ map f.types (met_by (met_of r) n)) × (list_all f.carries_type (met_by (met_of r) n) ≡ true))
      → (flat_map (met_by (met_of s)) (map f.types ns) ≡ map f.types (flat_map (met_by (met_of r)) ns)) × (list_all f.carries_type (flat_map (met_by (met_of r)) ns) ≡ true)
  all_met [] h each = (refl, refl)
  all_met (n ∷ ns) h each =
      let one = each n (ap (λ b. b || has ns n) (same-number n)) (first_true _ _ h) in
      let rest = all_met ns (second_true _ _ h) (λ m c. each m (or_right (n == m) (has ns m) c)) in (
        (λ i. one.0 i ++ rest.0 i) ∙ sym (map-append f.types (met_by (met_of r) n) (flat_map (met_by (met_of r)) ns)),
        list_all-append f.carries_type (met_by (met_of r) n) (flat_map (met_by (met_of r)) ns) ∙ both _ _ one.1 rest.1,
      )

  abbrev IsMetAlike : ℕ → Type 0
  IsMetAlike n = (met_by (met_of s) (f.types n) ≡ map f.types (met_by (met_of r) n)) × (list_all f.carries_type (met_by (met_of r) n) ≡ true)

  met_step_same : (n : ℕ) → f.carries_type n ≡ true → ((m : ℕ) → m < n → f.carries_type m ≡ true → IsMetAlike m) → IsMetAlike n
  met_step_same n c smaller = go t.def.name t.image.name refl refl t.name
    where
      t : IsType r s f n
      t = is.types n c

      old : met_by (met_of r) n ≡ option_map_or (λ name. n ∷ []) t.def.name (used_by_type r t.def)
      old = met_step r below_r n t.def t.found

      new : met_by (met_of s) (f.types n) ≡ option_map_or (λ name. f.types n ∷ []) t.image.name (used_by_type s t.image)
      new = met_step s below_s (f.types n) t.image t.at_image

      unnamed : HasImageKind f.types f.carries_type t.def t.image → (used_by_type s t.image ≡ map f.types (used_by_type r t.def)) × (list_all f.carries_type (used_by_type r t.def) ≡ true)
      unnamed k =
          let rest = all_met (kind_numbers t.def.kind) (kind_carried t.def t.image k)
          (λ m h d. smaller m (ltb-true m n (all-contained (λ x. nat_lt x n) (kind_numbers t.def.kind) m (below_at r below_r n t.def t.found) (has-contains (kind_numbers t.def.kind) m h))) d) in
          (ap (flat_map (met_by (met_of s))) (numbers_same f.types t.def.kind t.image.kind k.kinds) ∙ rest.0, rest.1)

      go : (x y : Option (String Global)) → t.def.name ≡ x → t.image.name ≡ y → optional_text t.image.name ≡ optional_text t.def.name → IsMetAlike n
      go z u e d same = search (std_rules, unnamed, image_kind, t, new, old, both)

  -- what is met at a new number are the new numbers of what is met
  pub met_same : (n : ℕ) → f.carries_type n ≡ true → IsMetAlike n
  met_same = by_less (λ n. f.carries_type n ≡ true → IsMetAlike n) (λ n smaller c. met_step_same n c smaller)

  pub used_same : (ns : List ℕ) → list_all f.carries_type ns ≡ true
      → (flat_map (met_by (met_of s)) (map f.types ns) ≡ map f.types (flat_map (met_by (met_of r)) ns)) × (list_all f.carries_type (flat_map (met_by (met_of r)) ns) ≡ true)
  used_same ns h = all_met ns h (λ n d c. met_same n c)
