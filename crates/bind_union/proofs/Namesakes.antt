-- Types of interfaces of one path and one sense stand for each other.
use Rattle.std.proofs.Common.{slice_get, rules as std_rules, ◌≡◌, ◌⊎◌, inl, inr, refl, sym, ap, subst, ◌∙◌, ℕ, arith, Bool, true, false, ◌&&◌, ◌||◌, ◌==◌, not, cond, List, [], ◌∷◌, map, nat_lt, Option, Some, None, option_map, is_some, unwrap_or}
use Rattle.std.proofs.lemmas.{Cmp.nat_list_cmp_total, Simd.map-map, Option.same_Some as same-some}
use Rattle.std.specs.{Prelude.String, Prelude.bytes_eq, Prelude.count_by, Option.option_map_or, FinMap.find, FinMap.from_entries, FinMap.get-from_entries, List.list_all, List.Contains, Map.lookup, HashMap.get_by_text}
use Rattle.std.specs.declared.alloc.Global.{Global}
use Rattle.wit_model.specs.declared.model.{Resolve.Resolve, Interface.Interface, TypeId.TypeId, TypeDef.TypeDef, TypeDefKind.TypeDefKind, TypeOwner.TypeOwner}
use Rattle.wit_model.specs.Text.{Text, text_of, text_eq, text_cmp, optional_text, TextMap}
use Rattle.wit_model.specs.Lookup.{interface_at, type_at, interface_path, place_of, place_of_path}
use Rattle.wit_model.specs.Tree.{Tree, Place, TypeDeclaration, type_, resource, named, primitive, node, of_interface, here}
use Rattle.wit_model.specs.Types.{no_tree, tree_at, declared_by, trees_of, declaration_of, tree_of_declaration}
use Rattle.wit_model.specs.Parts.{kind_numbers, same_owner, has_owner, met_by, met_of, used_by_type}
use Rattle.wit_model.specs.Uses.{has, alias_target, owner_interface}
use Rattle.wit_model.specs.{Meaning.TypeMeaning, Meaning.InterfaceSense, Meant.interface_meaning, Meant.type_meaning, Meant.type_meaning_at, Meant.no_type}
use Rattle.wit_model.specs.Rules.{passes, in_list, is_id, interface_type_numbers, is_listed, is_listed_in_interface, is_named_of, is_named_number, are_in_order, is_use, is_resource_itself, is_named_kind}
use Rattle.wit_model.specs.Valid.{IsValid, as_interface, order_of_types, owners, named_kinds}
use Rattle.wit_model.proofs.{AnyOrder.same-text, Functions.all_flat, Elements.contains-has, Elements.contains-get, Elements.has-contains, Owners.met_step, Owners.owned_stays, Chains.all_has as passes_at, OnePath.path-once, OnePath.named-path, OnePath.found-in, OnePath.interface-passes, PartsLemmas.owner_same as owner_equal, TreeTable.kept_trees_at, RulesLemmas.is_id_some as some_id, TextLemmas.text_same as text-same, ValidLemmas.type_passes}
use Rattle.bind_meaning.proofs.Listed.{from-map}
use Rattle.bind_union.specs.Matching.{type_names, IsMatch, AreMatched, AreNamesakes, MatchesAreNamesakes, MatchesAreOnto}
use Rattle.bind_union.proofs.{Lists.by_number, Lists.no_true, Carrying.references_of, Homes.alias_of_all, Itself.interface_range, Itself.type_range, WorldOrder.one_of_sum, Listed.under_text, Listed.found_by_text}
use Rattle.base_lemmas.proofs.{Options.there as some_of, Bools.left_of as first_true, Bools.right_of as second_true, Elements.contains-map, Elements.lookup_stands, Lists.mapped_get, Maps.lookup_of_map}
use Rattle.base_lemmas.proofs.Numbers.{equal, same-number}
use Rattle.wit_model.specs.declared.model.TypeOwner.TheVariants as owner

-- ---- kinds

-- an alias declares its target's tree
pub alias_declares : (trees : List Tree) (k : TypeDefKind) (t : ℕ) → alias_target k ≡ Some t → declared_by trees k ≡ type_ (tree_at trees t)
alias_declares trees x t h = search std_rules

-- what declares a name is an alias
pub name_is_alias : (trees : List Tree) (k : TypeDefKind) (p : Place) (n : Text) → declared_by trees k ≡ type_ (named p n) → (t : ℕ) × (alias_target k ≡ Some t) × (tree_at trees t ≡ named p n)
name_is_alias trees x p n h = search std_rules

abbrev pub declares_resource : TypeDeclaration → Bool
declares_resource (type_ t) = false
declares_resource resource = true

pub resource_declares : (trees : List Tree) (k : TypeDefKind) → is_resource_itself k ≡ declares_resource (declared_by trees k)
resource_declares trees x = search std_rules

-- ---- places

abbrev pub is_here : Place → Bool
is_here here = false
is_here (of_interface path) = true

abbrev pub path_of : Place → Option Text
path_of here = None
path_of (of_interface path) = Some path

abbrev pub place_in : Tree → Place
place_in (named p n) = p
place_in (primitive p) = here
place_in (node form ts) = here

abbrev pub name_in : Tree → Text
name_in (named p n) = n
name_in (primitive p) = []
name_in (node form ts) = []

-- ---- names in lists

-- what is found stands there
pub under_contains : (name : Text) (es : List (Text × ℕ)) (t : ℕ) → under_text name es ≡ Some t → Contains es (name, t)
under_contains name es t h = let x = lookup_stands (λ k. bytes_eq name k) es t h in subst (λ (k : Text). Contains es (k, t)) (sym (text-same name x.0 x.2)) x.1

pub number_listed : (es : List (Text × ℕ)) (name : Text) (t : ℕ) → Contains es (name, t) → has (map (λ (e : Text × ℕ). e.1) es) t ≡ true
number_listed es name t c = contains-has (map (λ (e : Text × ℕ). e.1) es) t (contains-map (λ (e : Text × ℕ). e.1) es (name, t) c)

abbrev often : ℕ → List (Text × ℕ) → ℕ
often t es = count_by (λ k. k == t) (map (λ (e : Text × ℕ). e.1) es)

-- what stands once stands at one place
one_place : (ns : List ℕ) (t : ℕ) → count_by (λ k. k == t) ns ≡ 1 → (i j : ℕ) → slice_get ns i ≡ Some t → slice_get ns j ≡ Some t → i ≡ j
one_place ns t h i j p q = here i p ∙ sym (here j q)
  where
    here : (m : ℕ) → slice_get ns m ≡ Some t → m ≡ (one_of_sum (λ k. cond (k == t) 1 0) ns h).0
    here m e =
        let once = one_of_sum (λ k. cond (k == t) 1 0) ns h in
        let one : cond (t == t) 1 0 ≡ 1 = ap {B = ℕ} (λ b. cond b 1 0) (same-number t) in
        by_number m once.0 (λ same. same) (λ apart. let none = once.4 m t e apart in absurd (omega (arith, one, none)))

-- and so under one name
one_name : (es : List (Text × ℕ)) (a b : Text) (t : ℕ) → Contains es (a, t) → Contains es (b, t) → often t es ≡ 1 → a ≡ b
one_name es a b t c d h =
    let i = contains-get es (a, t) c in
    let j = contains-get es (b, t) d in
    let number = λ (e : Text × ℕ). e.1 in
    let place = one_place (map number es) t h i.0 j.0 (mapped_get number es i.0 (a, t) i.1) (mapped_get number es j.0 (b, t) j.1) in
    ap (λ (e : Text × ℕ). e.0) (same-some (a, t) (b, t) (sym i.1 ∙ (ap (slice_get es) place ∙ j.1)))

pub numbers_are : (i : Interface) → interface_type_numbers i ≡ map (λ (e : Text × ℕ). e.1) (type_names i)
numbers_are i = map-map (λ (id : TypeId). id.0) (λ e. e.1) i.types.entries ∙ sym (map-map (λ (e : Text × ℕ). e.1) (λ e. (text_of e.0, e.1.0)) i.types.entries)

-- ---- in a valid one

module _ (r : Resolve) (v : IsValid r) where
  -- a named type of an interface is found there under its name, once
  pub home_listed : (t : ℕ) (def : TypeDef) → type_at r t ≡ Some def → (s : String Global) → def.name ≡ Some s → (n : ℕ) → def.owner ≡ as_interface n → (i : Interface) → interface_at r n ≡ Some i
      → (under_text (text_of s) (type_names i) ≡ Some t) × (often t (type_names i) ≡ 1)
  unfolding order_of_types
  home_listed t def e s named_ n home i at =
      let old = type_passes order_of_types r v.rules.order_of_types t def e in
      let listed : is_listed r t (text_of s) def.owner ≡ true = sym (ap (λ o. option_map_or (λ name. is_listed r t (text_of name) def.owner) o (same_owner def.owner owner.None)) named_) ∙ second_true
      (list_all (λ m. nat_lt m t) (kind_numbers def.kind)) _ old in
      let in_it : is_listed_in_interface t (text_of s) i ≡ true = sym (ap (passes (is_listed_in_interface t (text_of s))) at) ∙ (sym (ap (is_listed r t (text_of s)) home) ∙ listed) in (
        some_id t (under_text (text_of s) (type_names i)) (sym (ap (is_id t) (found_by_text i (text_of s))) ∙ first_true _ _ in_it),
        equal (often t (type_names i)) 1 (sym (ap (λ ns. count_by (λ k. k == t) ns == 1) (numbers_are i)) ∙ second_true (is_id t (option_map (λ id. id.0) (get_by_text i.types (text_of s)))) _ in_it),
      )

  pub record IsListedType (n : ℕ) (i : Interface) (name : Text) (t : ℕ) : Type 0 where
    pub def : TypeDef
    pub found : type_at r t ≡ Some def
    pub name_is : optional_text def.name ≡ Some name
    pub home : def.owner ≡ as_interface n
    pub under : under_text name (type_names i) ≡ Some t

  -- a type that stands under a name bears it
  pub listed_type : (n : ℕ) (i : Interface) → interface_at r n ≡ Some i → (name : Text) (t : ℕ) → Contains (type_names i) (name, t) → IsListedType n i name t
  unfolding order_of_types
  listed_type n i at name t c =
      let listed = ap (λ ns. has ns t) (numbers_are i) ∙ number_listed (type_names i) name t c in
      let d = found-in r.types.items t (passes_at (in_list r.types.items) (interface_type_numbers i) t (interface_range r v.rules n i at).0 listed) in
      let order : (list_all (is_named_of r (as_interface n)) (interface_type_numbers i) && are_in_order r (interface_type_numbers i)) ≡ true =
      interface-passes order_of_types r v.rules.order_of_types n i at in
      let ours : (is_some d.0.name && same_owner d.0.owner (as_interface n)) ≡ true = sym (ap (passes (λ def. is_some def.name && same_owner def.owner (as_interface n))) d.1)
      ∙ passes_at (is_named_of r (as_interface n)) (interface_type_numbers i) t (first_true _ _ order) listed in
      let home = owner_equal d.0.owner (as_interface n) (second_true (is_some d.0.name) _ ours) in
      let s = some_of d.0.name (first_true _ _ ours) in
      let x = home_listed t d.0 d.1 s.0 s.1 n home i at in
      let same : text_of s.0 ≡ name = one_name (type_names i) (text_of s.0) name t (under_contains (text_of s.0) (type_names i) t x.0) c x.1 in
      record { def = d.0; found = d.1; name_is = ap optional_text s.1 ∙ ap Some same; home = home; under = ap (λ y. under_text y (type_names i)) (sym same) ∙ x.0 }

  -- the tree of a named type is its name
  pub named_tree : (t : ℕ) (def : TypeDef) → type_at r t ≡ Some def → (s : String Global) → def.name ≡ Some s → tree_at (trees_of r) t ≡ named (place_of r def.owner) (text_of s)
  named_tree t def e s named_ = ap (λ o. unwrap_or o no_tree) (kept_trees_at r v.rules t def e)
      ∙ ap (λ o. option_map_or (λ name. named (place_of r def.owner) (text_of name)) o (tree_of_declaration (declared_by (trees_of r) def.kind))) named_

  pub record IsTarget (t : ℕ) : Type 0 where
    pub def : TypeDef
    pub found : type_at r t ≡ Some def
    pub name : String Global
    pub named_ : def.name ≡ Some name

  -- the target of an alias has a name
  pub target_named : (t : ℕ) (def : TypeDef) → type_at r t ≡ Some def → (u : ℕ) → alias_target def.kind ≡ Some u → IsTarget u
  unfolding named_kinds
  target_named t def e u alias =
      let d = found-in r.types.items u (sym (ap (passes (in_list r.types.items)) alias) ∙ alias_of_all (in_list r.types.items) def.kind (type_range r v.rules t def e).0) in
      let old : ((not (is_named_kind def.kind) || is_some def.name) && passes (is_named_number r) (alias_target def.kind)) ≡ true = type_passes named_kinds r v.rules.named_kinds t def e in
      let s = some_of d.0.name (sym (ap (passes (λ x. is_some x.name)) d.1) ∙ (sym (ap (passes (is_named_number r)) alias) ∙ second_true (not (is_named_kind def.kind) || is_some def.name) _ old)) in
      record { def = d.0; found = d.1; name = s.0; named_ = s.1 }

  -- what a type with an owner is another name of has the same owner, or belongs to an interface with a path
  pub target_owner : (t : ℕ) (def : TypeDef) → type_at r t ≡ Some def → same_owner def.owner owner.None ≡ false → (u : ℕ) → alias_target def.kind ≡ Some u
      → (x : IsTarget u) → (x.def.owner ≡ def.owner) ⊎ ((a : ℕ) × (x.def.owner ≡ as_interface a) × (is_some (interface_path r a) ≡ true))
  unfolding owners
  target_owner t def e owned u alias x = go (list_all (has_owner r def.owner) (used_by_type r def)) refl (owned_stays r def (type_passes owners r v.rules.owners t def e) owned)
    where
      in_another : TypeDef → Bool
      in_another target = not (same_owner target.owner def.owner) && option_map_or (λ i. option_map_or (λ other. is_some other.name) (interface_at r i) false) (owner_interface target.owner) false

      met : met_by (met_of r) u ≡ u ∷ []
      met = met_step r (references_of r v.rules) u x.def x.found ∙ ap (λ o. option_map_or (λ name. u ∷ []) o (used_by_type r x.def)) x.named_

      own_one : list_all (has_owner r def.owner) (used_by_type r def) ≡ true → x.def.owner ≡ def.owner
      own_one h =
          let all : list_all (λ m. list_all (has_owner r def.owner) (met_by (met_of r) m)) (kind_numbers def.kind) ≡ true =
          sym (all_flat (has_owner r def.owner) (met_by (met_of r)) (kind_numbers def.kind)) ∙ h in
          let one : list_all (has_owner r def.owner) (met_by (met_of r) u) ≡ true =
          sym (ap (passes (λ m. list_all (has_owner r def.owner) (met_by (met_of r) m))) alias) ∙ alias_of_all (λ m. list_all (has_owner r def.owner) (met_by (met_of r) m)) def.kind all in
          let here_ : has_owner r def.owner u ≡ true = first_true (has_owner r def.owner u) true (sym (ap (list_all (has_owner r def.owner)) met) ∙ one) in
          owner_equal x.def.owner def.owner (sym (ap (λ o. option_map_or (λ y. same_owner y.owner def.owner) o false) x.found) ∙ here_)

      by_owner : (o : TypeOwner) → x.def.owner ≡ o → option_map_or (λ i. option_map_or (λ other. is_some other.name) (interface_at r i) false) (owner_interface o) false ≡ true → (a : ℕ)
          × (x.def.owner ≡ as_interface a) × (is_some (interface_path r a) ≡ true)
      by_owner (owner.Interface id) k h = (id.0, k, named-path r v id.0 h)
      by_owner _ k h = no_true h

      go : (b : Bool) → list_all (has_owner r def.owner) (used_by_type r def) ≡ b → (b || is_use r def) ≡ true → (x.def.owner ≡ def.owner) ⊎ ((a : ℕ) × (x.def.owner ≡ as_interface a)
          × (is_some (interface_path r a) ≡ true))
      go true k h = inl (own_one k)
      go false k h = inr (by_owner x.def.owner refl (second_true (not (same_owner x.def.owner def.owner)) _
          (sym (ap (λ o. option_map_or in_another o false) x.found) ∙ (sym (ap (λ o. option_map_or (λ m. option_map_or in_another (type_at r m) false) o false) alias) ∙ h))))

  -- what a type of an interface with a path is another name of belongs to an interface with a path
  pub target_home : (t : ℕ) (def : TypeDef) → type_at r t ≡ Some def → (n : ℕ) → def.owner ≡ as_interface n → is_some (interface_path r n) ≡ true → (u : ℕ) → alias_target def.kind ≡ Some u
      → (x : IsTarget u) → (a : ℕ) × (x.def.owner ≡ as_interface a) × (is_some (interface_path r a) ≡ true)
  target_home t def e n home path u alias x = search (std_rules, target_owner t def e (ap (λ o. same_owner o owner.None) home) u alias x)

-- ---- maps of equal senses

module _ {X : Type 0} where
  abbrev pub entry_under : Text → List (Text × X) → Option X
  entry_under q es = lookup (text_eq q) es

  pub find_is : (q : Text) (es : List (Text × X)) → find text_cmp q es ≡ entry_under q es
  find_is q [] = refl
  find_is q (e ∷ es) = let rest = find_is q es in let key = same-text q e.0 in λ i. cond (key i) (Some e.1) (rest i)

  pub found_same : (es fs : List (Text × X)) → ◌≡◌ {A = TextMap X} (from_entries es) (from_entries fs) → (q : Text) → entry_under q es ≡ entry_under q fs
  found_same es fs same q =
      sym (find_is q es) ∙ (sym (get-from_entries nat_list_cmp_total es q) ∙ (ap (λ m. Rattle.std.specs.FinMap.get m q) same ∙ (get-from_entries nat_list_cmp_total fs q ∙ find_is q fs)))

-- what stands under a name means what its type does
pub meaning_under : (r : Resolve) (i : Interface) (name : Text) → entry_under name (interface_meaning r i).types ≡ option_map (type_meaning_at r) (under_text name (type_names i))
meaning_under r i name = simp map-map at (lookup_of_map (text_eq name) (λ (t : Text). t) (type_meaning_at r) (type_names i))

module _ (own other : Resolve) (interfaces types : ℕ → ℕ) (valid_own : IsValid own) (valid_other : IsValid other) where
  same_under : (n : ℕ) (is : IsMatch own other interfaces types n) (name : Text)
      → option_map (type_meaning_at own) (under_text name (type_names is.image)) ≡ option_map (type_meaning_at other) (under_text name (type_names is.old))
  same_under n is name = sym (meaning_under own is.image name) ∙ (found_same (interface_meaning own is.image).types (interface_meaning other is.old).types
      (ap (λ (s : InterfaceSense). s.types) is.sense) name ∙ meaning_under other is.old name)

  name_of_number : (i : Interface) (t : ℕ) → has (interface_type_numbers i) t ≡ true → (name : Text) × Contains (type_names i) (name, t)
  name_of_number i t h =
      let x = from-map (λ (e : Text × ℕ). e.1) (type_names i) t (has-contains (map (λ (e : Text × ℕ). e.1) (type_names i)) t (sym (ap (λ ns. has ns t) (numbers_are i)) ∙ h)) in
      (x.0.0, subst (λ (k : ℕ). Contains (type_names i) (x.0.0, k)) x.1.1 x.1.0)

  -- ---- onto

  onto : (n : ℕ) (is : IsMatch own other interfaces types n) (m : ℕ) → has (interface_type_numbers is.image) m ≡ true → (t : ℕ) × (has (interface_type_numbers is.old) t ≡ true) × (types t ≡ m)
  onto n is m h = go (under_text name.0 (type_names is.old)) refl (sym (same_under n is name.0) ∙ ap (option_map (type_meaning_at own)) there_.under)
    where
      name : (x : Text) × Contains (type_names is.image) (x, m)
      name = name_of_number is.image m h

      there_ : IsListedType own valid_own (interfaces n) is.image name.0 m
      there_ = listed_type own valid_own (interfaces n) is.image is.at_image name.0 m name.1

      go : (o : Option ℕ) → under_text name.0 (type_names is.old) ≡ o → option_map (type_meaning_at other) o ≡ Some (type_meaning_at own m) → (t : ℕ) × (has (interface_type_numbers is.old) t ≡ true)
          × (types t ≡ m)
      go None e k = let wrong : None ≡ Some (type_meaning_at own m) = k in absurd cc
      go (Some t) e k =
          let c = under_contains name.0 (type_names is.old) t e in
          let image = listed_type own valid_own (interfaces n) is.image is.at_image name.0 (types t) (is.by_name name.0 t c) in
          (t, ap (λ ns. has ns t) (numbers_are is.old) ∙ number_listed (type_names is.old) name.0 t c, same-some (types t) m (sym image.under ∙ there_.under))

  -- where two types declare the same, the own type that the own one names stands for the target of the other
  pub alias_alike : (m n : ℕ) (def image : TypeDef) → type_at other n ≡ Some def → type_at own m ≡ Some image → declaration_of own image ≡ declaration_of other def
      → ((u k : ℕ) (a : IsTarget other valid_other u) (b : IsTarget own valid_own k) → alias_target def.kind ≡ Some u → alias_target image.kind ≡ Some k
      → named (place_of own b.def.owner) (text_of b.name) ≡ named (place_of other a.def.owner) (text_of a.name) → types u ≡ k)
      → (o : Option ℕ) → alias_target def.kind ≡ o → alias_target image.kind ≡ option_map types o
  alias_alike m n def image found at same targets None e = none_there (alias_target image.kind) refl
    where
      none_there : (o : Option ℕ) → alias_target image.kind ≡ o → alias_target image.kind ≡ None
      none_there None k = k
      none_there (Some u) k =
          let x = target_named own valid_own m image at u k in
          let tree = alias_declares (trees_of own) image.kind u k ∙ ap type_ (named_tree own valid_own u x.def x.found x.name x.named_) in
          let back = name_is_alias (trees_of other) def.kind (place_of own x.def.owner) (text_of x.name) (sym same ∙ tree) in
          let wrong : None ≡ Some back.0 = sym e ∙ back.1 in absurd cc
  alias_alike m n def image found at same targets (Some u) e =
      let a = target_named other valid_other n def found u e in
      let tree = alias_declares (trees_of other) def.kind u e ∙ ap type_ (named_tree other valid_other u a.def a.found a.name a.named_) in
      let back = name_is_alias (trees_of own) image.kind (place_of other a.def.owner) (text_of a.name) (same ∙ tree) in
      let b = target_named own valid_own m image at back.0 back.1 in
      back.1 ∙ ap Some (sym (targets u back.0 a b e back.1 (sym (named_tree own valid_own back.0 b.def b.found b.name b.named_) ∙ back.2)))

  -- ---- namesakes

  module _ (matched : AreMatched own other interfaces types) where
    pub place_back : (o : TypeOwner) (path : Text) → place_of own o ≡ of_interface path → (b : ℕ) × (o ≡ as_interface b) × (interface_path own b ≡ Some path)
    place_back y path h = search std_rules

    -- what has one path and one name is one
    pub same_by_path : (u v a : ℕ) (x : IsTarget other valid_other u) → x.def.owner ≡ as_interface a → is_some (interface_path other a) ≡ true → (y : IsTarget own valid_own v)
        → named (place_of own y.def.owner) (text_of y.name) ≡ named (place_of other x.def.owner) (text_of x.name)
        → IsMatch own other interfaces types a ⊎ ((m : ℕ) → interface_path own m ≡ interface_path other a → ⊥) → types u ≡ v
    same_by_path u v a x there_ has_path y trees m =
        let path = some_of (interface_path other a) has_path in
        let b = place_back y.def.owner path.0 (ap place_in trees ∙ (ap (place_of other) there_ ∙ ap place_of_path path.1)) in
        elim m [
          | inr none_such ↦ absurd (none_such b.0 (b.2 ∙ sym path.1))
          | inl m ↦
              let here_ = path-once own valid_own (interfaces a) b.0 path.0 (m.path ∙ path.1) b.2 in
              let listed = home_listed other valid_other u x.def x.found x.name x.named_ a there_ m.old m.found in
              let c = under_contains (text_of x.name) (type_names m.old) u listed.0 in
              let image_ = listed_type own valid_own (interfaces a) m.image m.at_image (text_of x.name) (types u) (m.by_name (text_of x.name) u c) in
              let target = home_listed own valid_own v y.def y.found y.name y.named_ b.0 b.1 m.image (ap (interface_at own) (sym here_) ∙ m.at_image) in
              same-some (types u) v (sym image_.under ∙ (ap (λ s. under_text s (type_names m.image)) (sym (ap name_in trees)) ∙ target.0))
        ]

    same_target : (n : ℕ) (is : IsMatch own other interfaces types n) (t : ℕ) (def image : TypeDef) → type_at other t ≡ Some def → type_at own (types t) ≡ Some image → def.owner ≡ as_interface n
        → declaration_of own image ≡ declaration_of other def → (o : Option ℕ) → alias_target def.kind ≡ o → alias_target image.kind ≡ option_map types o
    same_target n is t def image found at home same = alias_alike (types t) t def image found at same
        (λ u v a b k l trees. let from = target_home other valid_other t def found n home is.has_path u k a in same_by_path u v from.0 a from.1 from.2 b trees (matched from.0 from.2))

    namesakes : (n : ℕ) (is : IsMatch own other interfaces types n) (t : ℕ) → has (interface_type_numbers is.old) t ≡ true → AreNamesakes own other interfaces types n t
    namesakes n is t h =
        let name = name_of_number is.old t h in
        let old = listed_type other valid_other n is.old is.found name.0 t name.1 in
        let new = listed_type own valid_own (interfaces n) is.image is.at_image name.0 (types t) (is.by_name name.0 t name.1) in
        let meanings : type_meaning_at own (types t) ≡ type_meaning_at other t = same-some (type_meaning_at own (types t)) (type_meaning_at other t)
        (sym (ap (option_map (type_meaning_at own)) new.under) ∙ (same_under n is name.0 ∙ ap (option_map (type_meaning_at other)) old.under)) in
        let declarations : declaration_of own new.def ≡ declaration_of other old.def = sym (ap (λ o. (option_map_or (type_meaning own) o no_type).declaration) new.found)
        ∙ (ap (λ (m : TypeMeaning). m.declaration) meanings ∙ ap (λ o. (option_map_or (type_meaning other) o no_type).declaration) old.found) in
        record {
          def = old.def;
          found = old.found;
          image = new.def;
          at_image = new.found;
          named = has_text old.def.name name.0 old.name_is;
          name = new.name_is ∙ sym old.name_is;
          home = old.home;
          image_home = new.home;
          resource = resource_declares (trees_of own) new.def.kind ∙ (ap declares_resource declarations ∙ sym (resource_declares (trees_of other) old.def.kind));
          alias = same_target n is t old.def new.def old.found new.found old.home declarations (alias_target old.def.kind) refl;
        }
      where
        has_text : (o : Option (String Global)) (name : Text) → optional_text o ≡ Some name → is_some o ≡ true
        has_text x name h = search std_rules

pub matches_are_namesakes : MatchesAreNamesakes
matches_are_namesakes own other interfaces types valid_own valid_other matched n is t h = namesakes own other interfaces types valid_own valid_other matched n is t h

pub matches_are_onto : MatchesAreOnto
matches_are_onto own other interfaces types valid_own valid_other n is m h = onto own other interfaces types valid_own valid_other n is m h
