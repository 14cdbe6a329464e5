-- Types of two `Resolve`s, and the paths of their interfaces.
use Rattle.std.proofs.Common.{rules as std_rules, arith, ◌≡◌, ◌↔◌, refl, sym, ap, subst, ◌∙◌, ◌⊎◌, inl, inr, ℕ, ◌+◌, ◌<◌, ◌≤◌, Bool, true, false, cond, List, [], ◌∷◌, ◌++◌, take, map, length, get_or, slice_get, Some, None, option_map, unwrap_or, is_some, IsTrue, String, Vec, Result, Ok, Err, IfOk}
use Rattle.std.proofs.{Math.ListN.length-map, lemmas.List.map-append, lemmas.List.take_all, lemmas.List.Elements.Contains-push_cases}
use Rattle.std.proofs.lemmas.Option.{slice_get-get_or, slice_get-map, slice_get_read, same_Some as some-same, slice_get_within as below_length}
use Rattle.std.specs.declared.alloc.{Global.Global, AllocError.AllocError}
use Rattle.std.specs.{List.Contains, Option.option_map_or}
use Rattle.wit_model.specs.declared.model.{Resolve.Resolve, TypeDef.TypeDef, TypeDefKind.TypeDefKind, «Type».«Type» as ValueType, PackageName.PackageName}
use Rattle.wit_model.specs.declared.model.TypeId.{TypeId}
use Rattle.wit_model.specs.{Lookup.identity_of, Lookup.place_of, Lookup.type_at, Names.is_identity, Names.is_label, Names.is_version, Names.path_in, Paths.full_name, Text.Text, Text.text_of, Rules.is_named_kind, Rules.passes, Rules.same_package_name, Valid.IsValid, Valid.named_kinds}
use Rattle.wit_model.specs.Tree.{Tree, Trees, Place, Form, node, named, children, child_list, list_of, fixed_list_of, option_of, own_of, borrow_of, map_of, tuple_of, result_of, future_of, stream_of}
use Rattle.wit_model.specs.Types.{number_of, number_tree, type_tree, tree_of, trees_of, no_tree, declared_by, tree_of_declaration, tree_of_definition}
use Rattle.wit_model.proofs.{Entries.each_from_at, Entries.lists_pass, TreeTable.kept_numbers, TreeTable.kept_trees_at, PathsLemmas.named_in_full, NameLaws.one_path, OnePath.has-path, OnePath.package-name, OnePath.path-label, TreeLemmas.child_list_of_children as children_back, PathParts.path_made, VersionLaws.same_name}
use Rattle.compat_meaning.specs.declared.{look.Look.Look, side.Path.Path}
use Rattle.compat_meaning.specs.{Opened.form_of, Opened.is_there, Opened.opened_kind, Opened.places_of, Table.AllInRange, Table.InRange, Table.is_alias, Walk.Pair}
use Rattle.compat_meaning.specs.TwoSides.{path_text, IsKnown, name_leaf, rank, AllSame, IsParted, SameType, Says}
use Rattle.compat_meaning.proofs.Alike.{below_number, is_below, node_children, node_form, places_below, primitive_back, primitive_in}
use Rattle.compat_meaning.proofs.OpenedTable.{built, opened_built}
use Rattle.base_lemmas.proofs.{Bools.left_of as first_true, Bools.not_or, Elements.all-contained as all_contained, Elements.get-contains as contains_at}
use Rattle.base_lemmas.proofs.Lists.{take_found as take_more_at, within_there as found_at}
use Rattle.wit_model.specs.declared.model.TypeDefKind.TheVariants as kind
use Rattle.wit_model.specs.declared.model.Handle.TheVariants as handle
use Rattle.wit_model.specs.declared.model.«Type».TheVariants as ty
use Rattle.compat_meaning.specs.declared.look.Look.TheVariants as look

-- ---- paths

abbrev path_of : PackageName × String Global → Text
path_of e = path_in (identity_of e.0) (text_of e.1)

-- the parts of a path are what a package and an interface may be called
abbrev pub ArePartsOfPath : PackageName × String Global → Type 0
ArePartsOfPath e = (passes is_version e.0.version ≡ true) × (is_identity (identity_of e.0) ≡ true) × (is_label (text_of e.1) ≡ true)

pub parts_known : (r : Resolve) → IsValid r → (n : ℕ) (e : PackageName × String Global) → full_name r n ≡ Some e → ArePartsOfPath e
parts_known r v n e at =
    let h = has-path r n (path_of e) (path_made r n ∙ ap (option_map path_of) at) in
    let same : (h.package_.name, h.name) ≡ e = some-same _ _ (sym (named_in_full r n (path_of e) h) ∙ at) in
    let p = package-name r v h.home.0 h.package_ h.stands in
    subst ArePartsOfPath same (p.version, p.identity, path-label r v n (path_of e) h)

module _ (p q : Path) (known : IsKnown p) (known' : IsKnown q) where
  parts_back : path_text p ≡ path_text q → (identity_of p.home.now ≡ identity_of q.home.now) × (text_of p.name.now ≡ text_of q.name.now)
  parts_back same = one_path (identity_of p.home.now) (identity_of q.home.now) (text_of p.name.now) (text_of q.name.now) known.identity known.label known'.identity known'.label same

  pub other_homes : (b : Bool) → b ≡ same_package_name p.home.now q.home.now → b ≡ false → IsTrue false ↔ (path_text p ≡ path_text q)
  other_homes b is differ = search (std_rules, same_name, parts_back)

  pub one_home : (b : Bool) → b ≡ same_package_name p.home.now q.home.now → b ≡ true → (y : Bool) → (IsTrue y ↔ (text_of p.name.now ≡ text_of q.name.now)) → IsTrue y ↔ (path_text p ≡ path_text q)
  one_home b is equal y h = search (std_rules, same_name, parts_back)

-- ---- trees

no_some : {A B : Type 0} (x : A) → None ≡ Some x → B
no_some x e = let wrong : ⊥ = cc in absurd wrong

pub number_case : (u : ValueType) → (number_of u ≡ None) ⊎ ((id : TypeId) × (u ≡ ty.Id id))
number_case x = search std_rules

no_rank : (t : ValueType) → number_of t ≡ None → rank t ≡ 0
no_rank x e = search std_rules

-- an unnamed kind has a form
form_there : (k : TypeDefKind) → is_named_kind k ≡ false → (f : Form) × (form_of k ≡ Some f)
    × ((leaf : Tree) (trees : List Tree) → tree_of_declaration (declared_by trees k) ≡ opened_kind leaf trees k) × (is_alias k ≡ false)
form_there (kind.Tuple x) h = (tuple_of, refl, λ leaf trees. refl, refl)
form_there (kind.Option t) h = (option_of, refl, λ leaf trees. refl, refl)
form_there (kind.Result x) h = (result_of (is_there x.ok) (is_there x.err), refl, λ leaf trees. refl, refl)
form_there (kind.List t) h = (list_of, refl, λ leaf trees. refl, refl)
form_there (kind.Map t u) h = (map_of, refl, λ leaf trees. refl, refl)
form_there (kind.FixedLengthList t n) h = (fixed_list_of n, refl, λ leaf trees. refl, refl)
form_there (kind.Future t) h = (future_of (is_there t), refl, λ leaf trees. refl, refl)
form_there (kind.Stream t) h = (stream_of (is_there t), refl, λ leaf trees. refl, refl)
form_there (kind.Handle (handle.Own id)) h = (own_of, refl, λ leaf trees. refl, refl)
form_there (kind.Handle (handle.Borrow id)) h = (borrow_of, refl, λ leaf trees. refl, refl)
form_there _ h = absurd (let z : ⊥ = cc in z)

module _ (r : Resolve) (v : IsValid r) (n : ℕ) (def : TypeDef) (at : type_at r n ≡ Some def) where
  tree_is : number_tree r n ≡ tree_of_definition r (trees_of r) def
  tree_is = ap (λ o. unwrap_or o no_tree) (kept_trees_at r v.rules n def at)

  pub named_is : is_some def.name ≡ true → number_tree r n ≡ name_leaf r def
  named_is h = search (std_rules, tree_is)

  unnamed_kind : is_some def.name ≡ false → is_named_kind def.kind ≡ false
  unfolding named_kinds
  unnamed_kind e = search (std_rules, not_or, first_true, each_from_at, lists_pass)

  -- an unnamed type is a form over what stands at its places
  pub unnamed_is : is_some def.name ≡ false → (f : Form) × (form_of def.kind ≡ Some f) × (number_tree r n ≡ node f (children (map (type_tree r) (places_of def.kind))))
  unnamed_is e = search (std_rules, form_there, unnamed_kind, tree_is, opened_built, built)

  pub no_primitive_at : primitive_in (number_tree r n) ≡ None
  no_primitive_at = search (std_rules, primitive_in, named_is, unnamed_is)

  -- what stands at its places is in range, and of smaller numbers
  pub parts_below : (x : ValueType) → Contains (places_of def.kind) x → rank x < n + 1
  parts_below x c = by (number_case x) (all_contained (is_below n) (places_of def.kind) x (places_below n def.kind (kept_numbers r v.rules n def at)) c)
    where
      by : (number_of x ≡ None) ⊎ ((id : TypeId) × (x ≡ ty.Id id)) → is_below n x ≡ true → rank x < n + 1
      by (inl e) h = let none = no_rank x e in omega (arith, none)
      by (inr (id, e)) h = let low = below_number n x h id e in let is : rank x ≡ id.0 + 1 = ap rank e in omega (arith, low, is)

  pub places_in_range : AllInRange r (places_of def.kind)
  places_in_range t c id e = search (std_rules, parts_below t c, below_length r.types.items n def at)

-- ---- two types

name_no_node : (p : Place) (name : Text) (f : Form) (ts : Trees) → named p name ≡ node f ts → ⊥
name_no_node p name f ts e = cc

module _ (a b : Resolve) (va : IsValid a) (vb : IsValid b) where
  -- a primitive is like the same primitive alone
  pub primitive_alone : (t u : ValueType) → number_of t ≡ None → InRange b u → SameType a b t u → t ≡ u
  primitive_alone t u none range same = by (number_case u)
    where
      by : (number_of u ≡ None) ⊎ ((id : TypeId) × (u ≡ ty.Id id)) → t ≡ u
      by (inl e) = ap (λ o. unwrap_or o t) (sym (primitive_back (trees_of a) t none) ∙ ap primitive_in same ∙ primitive_back (trees_of b) u e)
      by (inr (id, e)) =
          let found = found_at b.types.items id.0 (range id e) in
          let tree : tree_of (trees_of b) u ≡ number_tree b id.0 = ap (tree_of (trees_of b)) e in
          no_some t (sym (ap primitive_in (same ∙ tree) ∙ no_primitive_at b vb id.0 found.0 found.1) ∙ primitive_back (trees_of a) t none)

  pub primitive_exact : (t u : ValueType) (y : Bool) → (y ≡ true → t ≡ u) → (y ≡ false → t ≡ u → ⊥) → number_of t ≡ None → InRange b u → IsTrue y ↔ SameType a b t u
  primitive_exact t u true same differ none range = (λ h. ((search std_rules) ∙ ap (tree_of (trees_of b)) (same refl)), λ h. refl)
  primitive_exact t u false same differ none range = (λ h. absurd (let z : ⊥ = cc in z), λ h. absurd (differ refl (primitive_alone t u none range h)))

  module _ (n m : ℕ) (d e : TypeDef) (dat : type_at a n ≡ Some d) (eat : type_at b m ≡ Some e) where
    abbrev Equal : Type 0
    Equal = number_tree a n ≡ number_tree b m

    pub both_named : (y : Bool) → is_some d.name ≡ true → is_some e.name ≡ true → (IsTrue y ↔ (name_leaf a d ≡ name_leaf b e)) → IsTrue y ↔ Equal
    both_named y p q h = (λ t. named_is a va n d dat p ∙ h.0 t ∙ sym (named_is b vb m e eat q), λ same. h.1 (sym (named_is a va n d dat p) ∙ same ∙ named_is b vb m e eat q))

    pub first_named : is_some d.name ≡ true → is_some e.name ≡ false → Equal → ⊥
    first_named p q same = name_no_node (place_of a d.owner) (option_map_or text_of d.name []) (unnamed_is b vb m e eat q).0 (children (map (type_tree b) (places_of e.kind)))
        (sym (named_is a va n d dat p) ∙ same ∙ (unnamed_is b vb m e eat q).2)

    pub second_named : is_some d.name ≡ false → is_some e.name ≡ true → Equal → ⊥
    second_named p q same = name_no_node (place_of b e.owner) (option_map_or text_of e.name []) (unnamed_is a va n d dat p).0 (children (map (type_tree a) (places_of d.kind)))
        (sym (named_is b vb m e eat q) ∙ sym same ∙ (unnamed_is a va n d dat p).2)

    module _ (p : is_some d.name ≡ false) (q : is_some e.name ≡ false) where
      nodes : Equal → node (unnamed_is a va n d dat p).0 (children (map (type_tree a) (places_of d.kind))) ≡ node (unnamed_is b vb m e eat q).0 (children (map (type_tree b) (places_of e.kind)))
      nodes same = sym (unnamed_is a va n d dat p).2 ∙ same ∙ (unnamed_is b vb m e eat q).2

      pub forms_same : Equal → form_of d.kind ≡ form_of e.kind
      forms_same same = (unnamed_is a va n d dat p).1 ∙ ap Some (node_form _ _ _ _ (nodes same)) ∙ sym (unnamed_is b vb m e eat q).1

      pub parts_same : Equal → map (type_tree a) (places_of d.kind) ≡ map (type_tree b) (places_of e.kind)
      parts_same same = sym (children_back _) ∙ ap child_list (node_children _ _ _ _ (nodes same)) ∙ children_back _

      pub lengths_same : Equal → length (places_of d.kind) ≡ length (places_of e.kind)
      lengths_same same = sym (length-map (places_of d.kind) (type_tree a)) ∙ ap length (parts_same same) ∙ length-map (places_of e.kind) (type_tree b)

      equal_again : form_of d.kind ≡ form_of e.kind → map (type_tree a) (places_of d.kind) ≡ map (type_tree b) (places_of e.kind) → Equal
      equal_again f ts =
          let forms : (unnamed_is a va n d dat p).0 ≡ (unnamed_is b vb m e eat q).0 =
          ap (λ o. unwrap_or o (unnamed_is a va n d dat p).0) (sym (unnamed_is a va n d dat p).1 ∙ f ∙ (unnamed_is b vb m e eat q).1) in
          (unnamed_is a va n d dat p).2 ∙ (λ i. node (forms i) (children (ts i))) ∙ sym (unnamed_is b vb m e eat q).2

      pub parted : form_of d.kind ≡ form_of e.kind → length (places_of d.kind) ≡ length (places_of e.kind)
          → IsParted a b (ty.Id (record { 0 = n })) (ty.Id (record { 0 = m })) (places_of d.kind) (places_of e.kind)
      parted f l = record { alike = l; left = places_in_range a va n d dat; right = places_in_range b vb m e eat; below = parts_below a va n d dat; same = equal_again f; back = parts_same }

      pub looked : (x : Result Look AllocError)
          → IfOk x (λ l. (y : Bool) → l ≡ look.Known y → (y ≡ false) × (form_of d.kind ≡ form_of e.kind → length (places_of d.kind) ≡ length (places_of e.kind) → ⊥))
          → IfOk x (λ l. (ts us : Vec ValueType Global) → l ≡ look.Parts ts us → (form_of d.kind ≡ form_of e.kind) × (ts.items ≡ places_of d.kind) × (us.items ≡ places_of e.kind)
          × (length ts.items ≡ length us.items)) → IfOk x (Says a b (ty.Id (record { 0 = n })) (ty.Id (record { 0 = m })))
      looked (Err x) h k = tt
      looked (Ok (look.Known y)) h k =
          let w = h y refl in
          (λ t. absurd (let z : true ≡ false = sym t ∙ w.0 in let o : ⊥ = cc in o), λ same. absurd (w.1 (forms_same same) (lengths_same same)))
      looked (Ok (look.Parts ts us)) h k =
          let w = k ts us refl in
          subst (λ xs. IsParted a b (ty.Id (record { 0 = n })) (ty.Id (record { 0 = m })) xs us.items) (sym w.1)
          (subst (λ ys. IsParted a b (ty.Id (record { 0 = n })) (ty.Id (record { 0 = m })) (places_of d.kind) ys) (sym w.2) (parted w.0 (ap length (sym w.1) ∙ w.3 ∙ ap length w.2)))

-- a number isn't like a primitive
pub number_apart : (a b : Resolve) → IsValid a → IsValid b → (t u : ValueType) (n : ℕ) → number_of t ≡ Some n → InRange a t → number_of u ≡ None → SameType a b t u → ⊥
number_apart a b va vb t u n e range none same = no_some n (sym none ∙ ap number_of (primitive_alone b a vb va u t none range (sym same)) ∙ e)

-- what doesn't hold isn't claimed
pub never : (P : Type 0) → (P → ⊥) → IsTrue false ↔ P
never P h = (λ t. absurd (let z : ⊥ = cc in z), λ p. absurd (h p))

-- ---- place by place

pub tree_at_place : (a b : Resolve) (xs ys : List ValueType) (i : ℕ) (x y : ValueType) → slice_get xs i ≡ Some x → slice_get ys i ≡ Some y → map (type_tree a) xs ≡ map (type_tree b) ys
    → SameType a b x y
tree_at_place a b xs ys i x y xat yat e =
    let right = slice_get-map (type_tree b) ys i ∙ ap (option_map (type_tree b)) yat in
    ap (λ o. unwrap_or o (type_tree a x)) (sym (slice_get-map (type_tree a) xs i ∙ ap (option_map (type_tree a)) xat) ∙ (ap (λ zs. slice_get zs i) e) ∙ right)

-- what a look says of the lists that it gives
pub parts_said : (a b : Resolve) (t u : ValueType) (l : Look) (xs ys : Vec ValueType Global) (zs : List ValueType) → Says a b t u l → l ≡ look.Parts xs ys → zs ≡ xs.items
    → IsParted a b t u zs ys.items
parts_said a b t u l xs ys zs said is e = subst (λ ls. IsParted a b t u ls ys.items) (sym e) (subst (Says a b t u) is said)

module _ (a b : Resolve) (t u : ValueType) (xs ys : List ValueType) (w : IsParted a b t u xs ys) where
  module _ (i : ℕ) (y : ValueType) (lt : i < length xs) (is : y ≡ get_or ys i y) where
    abbrev x : ValueType
    x = get_or xs i ty.Bool

    xat : slice_get xs i ≡ Some x
    xat = slice_get-get_or xs i ty.Bool lt

    yat : slice_get ys i ≡ Some y
    yat = let l = w.alike in slice_get_read ys _ i y refl (omega (arith, lt, l)) is

    pub part_there : (rank x < rank t) × InRange a x × InRange b y
    part_there = (w.below x (contains_at xs i x xat), w.left x (contains_at xs i x xat), w.right y (contains_at ys i y yat))

    pub part_differs : (SameType a b x y → ⊥) → SameType a b t u → ⊥
    part_differs n same = n (tree_at_place a b xs ys i x y xat yat (w.back same))

    pub part_more : map (type_tree a) (take i xs) ≡ map (type_tree b) (take i ys) → SameType a b x y → map (type_tree a) (take (i + 1) xs) ≡ map (type_tree b) (take (i + 1) ys)
    part_more e same = ap (map (type_tree a)) (take_more_at xs i x xat) ∙ map-append (type_tree a) (take i xs) (x ∷ []) ∙ (λ j. e j ++ same j ∷ [])
        ∙ sym (ap (map (type_tree b)) (take_more_at ys i y yat) ∙ map-append (type_tree b) (take i ys) (y ∷ []))

  pub all_parts : (i : ℕ) → length xs ≤ i → map (type_tree a) (take i xs) ≡ map (type_tree b) (take i ys) → SameType a b t u
  all_parts i past e = search (std_rules, take_all)

pub not_same : {P : Type 0} (y : Bool) → (IsTrue y ↔ P) → y ≡ false → P → ⊥
not_same y h e p = let wrong : true ≡ false = sym (h.1 p) ∙ e in cc

pub remembered : (a b : Resolve) (t u : ValueType) (old new : List Pair) (n m : ℕ) → number_of t ≡ Some n → number_of u ≡ Some m → SameType a b t u → AllSame a b old
    → ((p : Pair) → Contains new p → Contains old p ⊎ ((n, m) ≡ p)) → AllSame a b new
remembered a b t u old new n m tn um same h k p c = by (k p c)
  where
    by : Contains old p ⊎ ((n, m) ≡ p) → number_tree a p.0 ≡ number_tree b p.1
    by x = search std_rules

pub inserted : (c : Bool) (old : List Pair) (k p : Pair) → Contains (cond c old (old ++ k ∷ [])) p → Contains old p ⊎ (k ≡ p)
inserted true old k p d = inl d
inserted false old k p d = Contains-push_cases old k p d
