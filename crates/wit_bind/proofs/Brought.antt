-- What both passes copy has its own documentation, stability and external ids in what is merged.
use Rattle.std.proofs.Common.{rules as std_rules, ◌≡◌, refl, sym, ap, subst, ◌∙◌, ◌⊎◌, inl, inr, arith, ℕ, zero, suc, Bool, true, false, not, cond, List, [], ◌∷◌, ◌++◌, map, Option, Some, None, is_none, option_map, option_to_list, String, Contains, ◌+◌, ◌≤◌, ◌<◌, length, append-nil, is_some, slice_get, take, nat_lt, ltb→lt, ltb-true, T}
use Rattle.std.proofs.lemmas.{List.map-append, List.length-append, List.length-map, Bool.and_from as both, List.Elements.Contains-append_right, Map.Made.IsDistinct-keys_filter, Simd.map-map, List.Folds.list_all-append, Map.Keys.any_passes_from_place as any_at, Option.same_Some as same-some, Option.slice_get-map, Option.slice_get_within}
use Rattle.std.specs.Prelude.{if◌then◌else◌, unwrap_or, option_and_then}
use Rattle.std.specs.{List.filter, List.filter_map, List.list_all, List.AllZip, List.IsDistinct, Map.keys_of, Option.option_map_or}
use Rattle.std.specs.declared.alloc.Global.{Global}
use Rattle.wit_model.specs.declared.model.{Function.Function, Resolve.Resolve, TypeDef.TypeDef, WorldKey.WorldKey, TypeOwner.TypeOwner, Package.Package, Interface.Interface, PackageId.PackageId, «Type».«Type» as ValueType, WorldItem.WorldItem, InterfaceId.InterfaceId, TypeId.TypeId, World.World}
use Rattle.wit_model.specs.Lookup.{interface_at, interface_path, key_text, resource_of, type_at, identity_of, package_at, path_in_package, path_of_interface, path_of_world, world_at}
use Rattle.wit_model.specs.{Parts.function_types, Parts.kind_numbers, Valid.IsValid, Valid.Keeps, Checks.references, Text.Text, Text.optional_text, Text.text_of, Text.text_eq, Types.number_of, Types.declaration_of, Types.number_tree, Types.grow, Names.path_in}
use Rattle.wit_model.specs.{Meaning.Entry, Meaning.InterfaceMeaning, Meaning.Item, Meant.interface_item}
use Rattle.bind_meaning.proofs.WorldBindings.{world-path}
use Rattle.wit_model.proofs.{Checks.below_at, Elements.contains-get, VersionLaws.same_text, OnePath.named-path, Tables.grow_at}
use Rattle.bind_copy.specs.Copies.{is_new_under, number_under, IsEntryUnder, IsFunctionUnder, IsInterfaceUnder, IsItemUnder, IsFunctionEntry as IsFunctionEntryUnder, become_one, IsTypeUnder, member_docs}
use Rattle.bind_union.specs.Carried.{stability_view, EntryBecomes, IsCarried, IsFunctionCopy, IsFunctionEntry, IsInterface, IsInterfaceCopy, IsType, ItemBecomes, KeyBecomes, Renumbering}
use Rattle.bind_union.specs.{Views.renamed_type, Merged.AreCopies, Joined.same_key, Joined.none, Joined.met, Joined.added, Joined.Joined, Joined.IsJoined}
use Rattle.bind_carry.specs.{ReadyItems.IsKeyReady, BoundGains.bound_fates, FirstPass.IsFirstPass, Fates.copies, Fates.is_carried, Fates.numbers_by, Fates.stood, Numbers.copied_count, Marked.AreChosen, Packaged.IsPackageCarried, Renumbered.first_of, Renumbered.is_copied, TooLong.CarriedThings, TooLong.TypeFates, First.first_fates, First.flag_under, Numbers.interface_number, Numbers.numbers_of, Numbers.package_number, Numbers.world_number, SecondPass.second_pass_of, SecondPass.IsSecondPass, Whole.home_under, Whole.IsInterfaceCarried, Whole.IsWorldCarried}
use Rattle.bind_carry.proofs.{Joined.new_same, FirstNumbers.names, FirstWorlds.first_is_copied, SecondCarried.type_from, SecondCarried.second_is_copied, UnionKeys.carried_path, CopiesPlaced.copied_home, CopiesPlaced.copy_placed, CopiesPlaced.flag_is_copied, Counting.carried_all, Counting.copied_long, Counting.inline_all, WorldEntries.export_keyed, WorldEntries.import_keyed, InsertedBehind.all_behind, InsertedBehind.filter_passes, SecondPass.known as second_known, SecondPass.stood_how as second_stood, FirstInterfaces.stood_how as first_stood, FirstWorlds.first_worlds_are_copied, KeptPlaced.kept_placed, KeptPlaced.IsKeptAt, SecondCarried.carried_number, SecondCarried.inline_at, SecondCarried.inline_place, SecondPass.chosen, SecondPass.long}
use Rattle.bind_union.proofs.{BoundMeanings.joined_mean, ViewTests.numbers_under, ViewTests.one_given, ViewTests.numbers_same, Images.same_declarations, Lists.by_less, Lists.no_true}
use Rattle.bind_union.proofs.Carrying.{carried_types, kind_carried, references_of, refers_below, same_identity, tree_same}
use Rattle.wit_bind.specs.Brings.{entry_notes, inline_notes, interface_notes, item_notes, noted, noted_by, noted_function, noted_number, noted_of, noted_parts, of_name, part, InterfaceNotes, NotedTree, Notes, key_texts, world_notes, BringsEntries, IsTypeOf}
use Rattle.wit_bind.specs.{Comes.is_one_of, OthersOrder.IsInterfaceBrought, OthersOrder.IsTypeBrought, OthersOrder.IsWorldBrought, OthersOrder.StandInOrder, OthersOrder.StandInTurn}
use Rattle.wit_bind.proofs.InOrder.{stand_in_order}
use Rattle.base_lemmas.proofs.{Bools.left_of as first_true, Bools.right_of as second_true, Elements.contains-later, Elements.get-contains, Lists.slice_take as slice_get-take, Numbers.same-number, Options.nameless as named_none, Options.there as some-of}
use Rattle.bind_clash.proofs.PathsMatched.{world-path-of, IsPathOf}
use Rattle.bind_match.specs.declared.matches.Matches.{Matches}
use Rattle.wit_model.specs.declared.model.WorldKey.TheVariants as key
use Rattle.bind_carry.proofs.SecondCarried as second_joined
use Rattle.bind_carry.proofs.SecondPass as second_pass
use Rattle.wit_model.specs.declared.model.Stability.TheVariants as stability
use Rattle.wit_model.specs.declared.model.WorldItem.TheVariants as item

-- ---- What is copied keeps its documentation, its stability and its external ids, in its order.

-- ---- noted trees

-- what is said of a type by itself
abbrev pub type_notes : TypeDef → Notes
type_notes t = record { docs = optional_text t.docs.contents; stability = stability_view t.stability; external_id = optional_text t.external_id; of_members = member_docs t.kind }

abbrev noted_step : List NotedTree → TypeDef → NotedTree
noted_step table t = if is_none t.name then noted_by table t else of_name

-- smaller numbers stand in front of a table
front_parts : (table : List NotedTree) (n : ℕ) (ns : List ℕ) → list_all (λ m. nat_lt m n) ns ≡ true → noted_parts (take n table) ns ≡ noted_parts table ns
front_parts table n [] h = refl
front_parts table n (m ∷ ns) h = λ i. part (unwrap_or (slice_get-take table n m (ltb→lt m n (subst T (sym (first_true (nat_lt m n) (list_all (λ k. nat_lt k n) ns) h)) tt)) i) of_name)
    (front_parts table n ns (second_true (nat_lt m n) (list_all (λ k. nat_lt k n) ns) h) i)

abbrev noted_at : Resolve → ℕ → NotedTree
noted_at r n = unwrap_or (slice_get (noted_of r) n) of_name

-- what the table has for a type
noted_here : (r : Resolve) (n : ℕ) (t : TypeDef) → type_at r n ≡ Some t → list_all (λ m. nat_lt m n) (kind_numbers t.kind) ≡ true → noted_at r n ≡ noted_step (noted_of r) t
unfolding noted_of
noted_here r n t at small = ap (λ o. unwrap_or o of_name) (grow_at noted_step r.types.items n t at)
    ∙ (λ i. if is_none t.name then noted (type_notes t) (front_parts (grow noted_step [] r.types.items) n (kind_numbers t.kind) small i) else of_name)

-- ---- names

-- interfaces are both inline, or neither is
inline_same : (a b : Option (String Global)) → optional_text b ≡ optional_text a → is_none b ≡ is_none a
inline_same x y e = search std_rules

-- one text is told from no other
one-distinct : (t : Text) → IsDistinct text_eq (t ∷ [])
unfolding IsDistinct
one-distinct t = (tt, tt)

-- ---- what is carried of one `Resolve` into another

module _ (r s : Resolve) (f : Renumbering) (interfaces numbers : List ℕ) (valid : IsValid r) (carried : IsCarried r s f) (below_s : Keeps references s)
    (by_interface : (n : ℕ) → f.carries_interface n ≡ true → number_under interfaces n ≡ f.interfaces n) (by_type : number_under numbers ≡ f.types)
    (types_noted : (n : ℕ) → f.copies_type n ≡ true → option_map type_notes (type_at s (f.types n)) ≡ option_map type_notes (type_at r n))
    (unnamed_copied : (n : ℕ) (t : TypeDef) → type_at r n ≡ Some t → f.carries_type n ≡ true → f.copies_type n ≡ false → is_none t.name ≡ false)
    (under : (n : ℕ) (i : Interface) → interface_at r n ≡ Some i → f.copies_interface n ≡ true → (home : Option PackageId) × (j : Interface) × (interface_at s (f.interfaces n) ≡ Some j)
    × IsInterfaceUnder numbers home i j) (inline_copied : (m : ℕ) (i : Interface) → f.carries_interface m ≡ true → interface_at r m ≡ Some i → i.name ≡ None → f.copies_interface m ≡ true) where
  -- ---- noted trees of types

  below_r : Keeps references r
  below_r = references_of r valid.rules

  -- what is copied has its noted tree, if its parts have theirs
  copy_noted : (n : ℕ) (t : IsType r s f n) → f.copies_type n ≡ true
      → noted_parts (noted_of s) (map f.types (kind_numbers t.def.kind)) ≡ noted_parts (noted_of r) (kind_numbers t.def.kind) → noted_by (noted_of s) t.image ≡ noted_by (noted_of r) t.def
  copy_noted n t copy parts =
      let notes : type_notes t.image ≡ type_notes t.def =
      same-some (type_notes t.image) (type_notes t.def) (sym (ap (option_map type_notes) t.at_image) ∙ (types_noted n copy ∙ ap (option_map type_notes) t.found)) in
      let all : noted_parts (noted_of s) (kind_numbers t.image.kind) ≡ noted_parts (noted_of r) (kind_numbers t.def.kind) =
      ap (noted_parts (noted_of s)) (numbers_same f.types t.def.kind t.image.kind (t.copied copy).kind.kinds) ∙ parts in
      λ i. noted (notes i) (all i)

  abbrev same_at : ℕ → Type 0
  same_at n = f.carries_type n ≡ true → noted_at s (f.types n) ≡ noted_at r n

  smaller_parts : (n : ℕ) → ((m : ℕ) → m < n → same_at m) → (ns : List ℕ) → list_all (λ m. nat_lt m n) ns ≡ true → list_all f.carries_type ns ≡ true
      → noted_parts (noted_of s) (map f.types ns) ≡ noted_parts (noted_of r) ns
  smaller_parts n smaller [] low h = refl
  smaller_parts n smaller (m ∷ ns) low h =
      let one = smaller m (ltb-true m n (first_true (nat_lt m n) (list_all (λ k. nat_lt k n) ns) low)) (first_true (f.carries_type m) (list_all f.carries_type ns) h) in
      let rest = smaller_parts n smaller ns (second_true (nat_lt m n) (list_all (λ k. nat_lt k n) ns) low) (second_true (f.carries_type m) (list_all f.carries_type ns) h) in
      λ i. part (one i) (rest i)

  one_noted : (n : ℕ) → ((m : ℕ) → m < n → same_at m) → same_at n
  one_noted n smaller c = noted_here s (f.types n) t.image t.at_image (below_at s below_s (f.types n) t.image t.at_image)
      ∙ (by (is_none t.def.name) refl ∙ sym (noted_here r n t.def t.found small))
    where
      t : IsType r s f n
      t = carried.types n c

      small : list_all (λ m. nat_lt m n) (kind_numbers t.def.kind) ≡ true
      small = below_at r below_r n t.def t.found

      names : is_none t.image.name ≡ is_none t.def.name
      names = inline_same t.def.name t.image.name t.name

      copied : (b : Bool) → f.copies_type n ≡ b → is_none t.def.name ≡ true → f.copies_type n ≡ true
      copied true e bare = e
      copied false e bare = no_true (sym (unnamed_copied n t.def t.found c e) ∙ bare)

      opened : is_none t.def.name ≡ true → noted_by (noted_of s) t.image ≡ noted_by (noted_of r) t.def
      opened bare =
          let copy = copied (f.copies_type n) refl bare in
          copy_noted n t copy (smaller_parts n smaller (kind_numbers t.def.kind) small (kind_carried r s f valid.rules carried below_s t.def t.image (t.copied copy).kind))

      by : (b : Bool) → is_none t.def.name ≡ b → noted_step (noted_of s) t.image ≡ noted_step (noted_of r) t.def
      by true e = ap (λ b. if b then noted_by (noted_of s) t.image else of_name) (names ∙ e)
          ∙ (opened e ∙ sym (ap (λ b. if b then noted_by (noted_of r) t.def else of_name) e))
      by false e = ap (λ b. if b then noted_by (noted_of s) t.image else of_name) (names ∙ e) ∙ sym (ap (λ b. if b then noted_by (noted_of r) t.def else of_name) e)

  number_same : (n : ℕ) → same_at n
  number_same = by_less same_at one_noted

  -- so have all of these numbers
  parts_noted : (ns : List ℕ) → list_all f.carries_type ns ≡ true → noted_parts (noted_of s) (map f.types ns) ≡ noted_parts (noted_of r) ns
  parts_noted [] h = refl
  parts_noted (n ∷ ns) h =
      let one = number_same n (first_true (f.carries_type n) (list_all f.carries_type ns) h) in
      let rest = parts_noted ns (second_true (f.carries_type n) (list_all f.carries_type ns) h) in
      λ i. part (one i) (rest i)

  -- what is copied has its noted tree, with a name or without
  pub type_same : (n : ℕ) (t : IsType r s f n) → f.copies_type n ≡ true → noted_by (noted_of s) t.image ≡ noted_by (noted_of r) t.def
  type_same n t copy = copy_noted n t copy (parts_noted (kind_numbers t.def.kind) (kind_carried r s f valid.rules carried below_s t.def t.image (t.copied copy).kind))

  number_noted : (n : ℕ) → f.copies_type n ≡ true → noted_number s (f.types n) ≡ noted_number r n
  number_noted n copy =
      let t = carried.types n (carried.copied_types n copy) in
      ap (option_map (noted_by (noted_of s))) t.at_image ∙ (ap Some (type_same n t copy) ∙ sym (ap (option_map (noted_by (noted_of r))) t.found))

  -- ---- functions

  function_types_noted : (old new : Function) → IsFunctionCopy f old new
      → noted_parts (noted_of s) (filter_map number_of (function_types new)) ≡ noted_parts (noted_of r) (filter_map number_of (function_types old))
  function_types_noted old new c = ap (λ ts. noted_parts (noted_of s) (filter_map number_of ts)) all
      ∙ (ap (noted_parts (noted_of s)) (numbers_under f.types (function_types old))
      ∙ parts_noted (filter_map number_of (function_types old))
      (first_true _ _ (sym (list_all-append f.carries_type (filter_map number_of (function_types old)) (option_to_list (resource_of old.kind))) ∙ c.parts)))
    where
      params : map (λ p. p.ty) new.params.items ≡ map (renamed_type f.types) (map (λ p. p.ty) old.params.items)
      params = sym (map-map (λ (x : Text × ValueType). x.1) (λ p. (text_of p.name, p.ty)) new.params.items)
          ∙ (ap (map (λ (x : Text × ValueType). x.1)) c.params ∙ (map-map (λ (x : Text × ValueType). x.1) (λ p. (text_of p.name, renamed_type f.types p.ty)) old.params.items
          ∙ sym (map-map (renamed_type f.types) (λ p. p.ty) old.params.items)))

      all : function_types new ≡ map (renamed_type f.types) (function_types old)
      all = (λ i. params i ++ (ap option_to_list c.result ∙ one_given (renamed_type f.types) old.result) i)
          ∙ sym (map-append (renamed_type f.types) (map (λ p. p.ty) old.params.items) (option_to_list old.result))

  function_noted : (old new : Function) → IsFunctionUnder numbers old new → IsFunctionCopy f old new → noted_function s new ≡ noted_function r old
  function_noted old new is c =
      let parts = function_types_noted old new c in
      λ i. noted (record { docs = is.docs i; stability = is.stability i; external_id = is.external_id i; of_members = [] }) (parts i)

  each_function : (olds news : List (String Global × Function)) → AllZip (IsFunctionEntryUnder numbers) olds news → AllZip (IsFunctionEntry f) olds news
      → map {B = Text × NotedTree} (λ e. (text_of e.0, noted_function s e.1)) news ≡ map (λ e. (text_of e.0, noted_function r e.1)) olds
  each_function [] [] u z = refl
  each_function [] (y ∷ ys) u z = absurd u
  each_function (x ∷ xs) [] u z = absurd u
  each_function (x ∷ xs) (y ∷ ys) u z =
      let one = function_noted x.1 y.1 u.0.1 z.0.1 in
      let rest = each_function xs ys u.1 z.1 in
      λ i. (u.0.0 i, one i) ∷ rest i

  -- ---- interfaces

  each_type : (es : List (Text × ℕ)) → list_all (λ (e : Text × ℕ). f.copies_type e.1) es ≡ true
      → map {B = Text × Option NotedTree} (λ (e : Text × ℕ). (e.0, noted_number s (f.types e.1))) es ≡ map (λ (e : Text × ℕ). (e.0, noted_number r e.1)) es
  each_type [] h = refl
  each_type (e ∷ es) h = λ i. (e.0, number_noted e.1 (first_true _ _ h) i) ∷ each_type es (second_true (f.copies_type e.1) _ h) i

  types_of : (old image : Interface) → IsInterfaceCopy f old image
      → map {B = Text × Option NotedTree} (λ e. (text_of e.0, noted_number s e.1.0)) image.types.entries ≡ map (λ e. (text_of e.0, noted_number r e.1.0)) old.types.entries
  types_of old image c = sym (map-map (λ (x : Text × ℕ). (x.0, noted_number s x.1)) (λ e. (text_of e.0, e.1.0)) image.types.entries)
      ∙ (ap (map (λ (x : Text × ℕ). (x.0, noted_number s x.1))) c.types ∙ (map-map (λ (x : Text × ℕ). (x.0, noted_number s x.1)) (λ e. (text_of e.0, f.types e.1.0)) old.types.entries
      ∙ (sym (map-map (λ (x : Text × ℕ). (x.0, noted_number s (f.types x.1))) (λ e. (text_of e.0, e.1.0)) old.types.entries)
      ∙ (each_type (map (λ e. (text_of e.0, e.1.0)) old.types.entries) (copied old.types.entries c.copies)
      ∙ map-map (λ (x : Text × ℕ). (x.0, noted_number r x.1)) (λ e. (text_of e.0, e.1.0)) old.types.entries))))
    where
      copied : (es : List (String Global × TypeId)) → list_all (λ (id : TypeId). f.copies_type id.0) (map (λ e. e.1) es) ≡ true
          → list_all (λ (e : Text × ℕ). f.copies_type e.1) (map (λ e. (text_of e.0, e.1.0)) es) ≡ true
      copied [] h = refl
      copied (e ∷ es) h = both _ _ (first_true _ _ h) (copied es (second_true (f.copies_type e.1.0) _ h))

  -- an interface that is copied has its notes
  pub interface_noted : (n : ℕ) (i : Interface) → interface_at r n ≡ Some i → f.copies_interface n ≡ true → (j : Interface) × (interface_at s (f.interfaces n) ≡ Some j)
      × (interface_notes s j ≡ interface_notes r i)
  interface_noted n i at copy = (
    u.1,
    u.2,
    λ k. record {
      docs = is.docs k;
      stability = is.stability k;
      functions = each_function i.functions.entries u.1.functions.entries (is.functions (valid.distinct_keys.interfaces n i at).1) copied.functions k;
      types = types_of i u.1 copied k;
    },
  )
    where
      u : (home : Option PackageId) × (j : Interface) × (interface_at s (f.interfaces n) ≡ Some j) × IsInterfaceUnder numbers home i j
      u = under n i at copy

      is : IsInterfaceUnder numbers u.0 i u.1
      is = u.3

      x : IsInterface r s f n
      x = carried.interfaces n (carried.copied_interfaces n copy)

      copied : IsInterfaceCopy f i u.1
      copied = subst (λ (y : Interface). IsInterfaceCopy f i y) (same-some x.image u.1 (sym x.at_image ∙ u.2))
          (subst (λ (y : Interface). IsInterfaceCopy f y x.image) (same-some x.old i (sym x.found ∙ at)) (x.copied copy))

  abbrev if_inline : Resolve → Bool → Interface → Option InterfaceNotes
  if_inline q b i = if b then Some (interface_notes q i) else None

  -- so has one that comes with the item that shows it
  inline_noted : (n : ℕ) → f.carries_interface n ≡ true → inline_notes s (f.interfaces n) ≡ inline_notes r n
  inline_noted n c = grind (arith, inline_same, interface_noted, same-some)

  -- ---- entries

  pub key_texts_same : (k l : WorldKey) → KeyBecomes f k l → key_text s l ≡ key_text r k
  key_texts_same x y z = search (std_rules, carried_path)

  item_noted : (i j : WorldItem) → IsItemUnder interfaces numbers i j → ItemBecomes f i j → item_notes s j ≡ item_notes r i
  item_noted x y u z = search (std_rules, inline_noted, function_noted, number_noted)

  entry_noted : (e x : WorldKey × WorldItem) → IsEntryUnder interfaces numbers e x → EntryBecomes f e x → entry_notes s x ≡ entry_notes r e
  entry_noted e x u z = λ i. (key_texts_same e.0 x.0 z.0 i, item_noted e.1 x.1 u.1 z.1 i)

  -- where nothing was there, all entries are copied, in their order
  pub entries_noted : (olds news : List (WorldKey × WorldItem)) → Joined f [] olds news
      → AllZip (IsEntryUnder interfaces numbers) (filter (λ (e : WorldKey × WorldItem). is_new_under interfaces [] e.0) olds) news → map (entry_notes s) news ≡ map (entry_notes r) olds
  entries_noted _ _ none zip = refl
  entries_noted _ _ (met old there olds news c k i rest) zip = let x = contains-get [] there c in let wrong : ⊥ = cc in absurd wrong
  entries_noted _ _ (added old new olds news n z rest) zip = λ i. entry_noted old new zip.0 z i ∷ entries_noted olds news rest zip.1 i

  -- ---- behind others

  ready : (k l : WorldKey) → KeyBecomes f k l → IsKeyReady f k
  ready x y z = search std_rules

  becomes_same : (k l : WorldKey) → KeyBecomes f k l → same_key f k l ≡ true
  becomes_same x y z = search (std_rules, same_text, same-number)

  module _ (own : List (WorldKey × WorldItem)) where
    abbrev test : WorldKey × WorldItem → Bool
    test e = is_new_under interfaces own e.0

    -- one that was there stands for an entry, or it's copied
    abbrev pub IsMetOrNoted : List (WorldKey × WorldItem) → WorldKey × WorldItem → Type 0
    IsMetOrNoted news e = ((there : WorldKey × WorldItem) × Contains own there × (key_text s there.0 ≡ key_text r e.0))
        ⊎ ((x : WorldKey × WorldItem) × Contains news x × (entry_notes s x ≡ entry_notes r e))

    later : (new : WorldKey × WorldItem) (news : List (WorldKey × WorldItem)) (e : WorldKey × WorldItem) → IsMetOrNoted news e → IsMetOrNoted (new ∷ news) e
    later new news e (inl h) = inl h
    later new news e (inr h) = inr (h.0, contains-later new news h.0 h.1, h.2)

    abbrev Copied : List (WorldKey × WorldItem) → List (WorldKey × WorldItem) → Type 0
    Copied olds news = AllZip (IsEntryUnder interfaces numbers) olds news

    pub met_or_noted : (olds news : List (WorldKey × WorldItem)) → Joined f own olds news → Copied (filter test olds) news → (e : WorldKey × WorldItem) → Contains olds e → IsMetOrNoted news e
    met_or_noted _ _ none zip e h = let x = contains-get [] e h in let wrong : ⊥ = cc in absurd wrong
    met_or_noted _ _ (met old there olds news c k i rest) zip e (zero, l, q) = inl (there, c, key_texts_same old.0 there.0 k ∙ ap (λ (y : WorldKey × WorldItem). key_text r y.0) q)
    met_or_noted _ _ (met old there olds news c k i rest) zip e (suc n, l, q) =
        let place = contains-get own there c in
        let known : test old ≡ false = new_same f interfaces numbers by_interface by_type own old.0 (ready old.0 there.0 k) ∙ ap not
        (any_at (λ (x : WorldKey × WorldItem). same_key f old.0 x.0) own place.0 there place.1 (becomes_same old.0 there.0 k)) in
        met_or_noted olds news rest (subst (λ b. Copied (cond b (old ∷ filter test olds) (filter test olds)) news) known zip) e (n, omega (arith, l), q)
    met_or_noted _ _ (added old new olds news fresh z rest) zip e h =
        let known : test old ≡ true = new_same f interfaces numbers by_interface by_type own old.0 (ready old.0 new.0 z.0) ∙ fresh in
        go h (subst (λ b. Copied (cond b (old ∷ filter test olds) (filter test olds)) (new ∷ news)) known zip) (λ k copied. met_or_noted olds news rest copied e k)
      where
        go : Contains (old ∷ olds) e → Copied (old ∷ filter test olds) (new ∷ news) → (Contains olds e → Copied (filter test olds) news → IsMetOrNoted news e) → IsMetOrNoted (new ∷ news) e
        go (zero, l, q) copied more = inr (new, (0, omega arith, refl), entry_noted old new copied.0 z ∙ ap (entry_notes r) q)
        go (suc n, l, q) copied more = later new news e (more (n, omega (arith, l), q) copied.1)

-- ---- what both passes copy has its own documentation, stability and external ids in what is merged

type_noted : (numbers : List ℕ) (home : TypeOwner) (old new : TypeDef) → IsTypeUnder numbers home old new → type_notes new ≡ type_notes old
type_noted numbers home old new is = λ i. record { docs = is.docs i; stability = is.stability i; external_id = is.external_id i; of_members = is.of_members i }

module _ (own other merged : Resolve) (valid_own : IsValid own) (valid_other : IsValid other) (world other_world : ℕ) (w v : World) (m : Matches) (c : CarriedThings) (first_numbers : List ℕ)
    (p : IsFirstPass own other merged m c first_numbers) (copied : List Bool) (interfaces types : List ℕ)
    (s : IsSecondPass own other merged world other_world w v m c first_numbers p copied interfaces types) (valid : IsValid merged) where
  abbrev fates : TypeFates
  fates = first_fates own other m.interfaces.items c

  abbrev later_fates : TypeFates
  later_fates = bound_fates other world other_world w v copied interfaces fates first_numbers

  abbrev pub first : Renumbering
  first = first_of m.interfaces.items c fates first_numbers

  abbrev pub second : Renumbering
  second = second_pass_of own other m c world other_world w v copied interfaces first_numbers types

  first_copies : AreCopies own other merged first
  first_copies = first_is_copied own other merged m c first_numbers valid_own valid_other p

  second_copies : AreCopies own other merged second
  second_copies = second_is_copied own other merged valid_own valid_other world other_world w v m c first_numbers p copied interfaces types s

  -- ---- types

  first_type : (n : ℕ) → is_copied fates n ≡ true → option_map type_notes (type_at merged (number_under first_numbers n)) ≡ option_map type_notes (type_at other n)
  first_type n h =
      let t = first_copies.carried.types n (first_copies.carried.copied_types n h) in
      let home = copied_home fates n h in
      let place = copy_placed own.types.items first_numbers other.types.items fates [] p.new_types p.more_types p.types n home.0 t.def home.1 t.found in
      ap (λ l. option_map type_notes (slice_get l (number_under first_numbers n))) p.types_here
      ∙ (ap (option_map type_notes) place.at_image ∙ (ap Some (type_noted first_numbers home.0 t.def place.image place.under) ∙ sym (ap (option_map type_notes) t.found)))

  second_type : (n : ℕ) → is_copied later_fates n ≡ true → option_map type_notes (type_at merged (number_under types n)) ≡ option_map type_notes (type_at other n)
  second_type n h =
      let t = second_copies.carried.types n (second_copies.carried.copied_types n h) in
      let home = copied_home later_fates n h in
      let place = copy_placed own.types.items types other.types.items later_fates p.new_types s.all_types [] s.types_copied n home.0 t.def home.1 t.found in
      ap (λ l. option_map type_notes (slice_get l (number_under types n))) (s.types_here ∙ ap (λ l. own.types.items ++ l) (sym (append-nil s.all_types)))
      ∙ (ap (option_map type_notes) place.at_image ∙ (ap Some (type_noted types home.0 t.def place.image place.under) ∙ sym (ap (option_map type_notes) t.found)))

  below : Keeps references merged
  below = references_of merged valid.rules

  -- what is carried without a copy has a name
  first_named : (n : ℕ) (t : TypeDef) → type_at other n ≡ Some t → is_carried fates n ≡ true → is_copied fates n ≡ false → is_none t.name ≡ false
  first_named n t at h bare = named_none t.name (first_stood own other valid_other m.interfaces.items c first_numbers all_chosen
      (names own other valid_own valid_other m.interfaces.items c first_numbers all_chosen p.same p.none long_flags p.numbered.interfaces (length own.types.items + length {A = TypeDef} [])
      p.types.numbers_are) n t at h bare).named
    where
      all_chosen : AreChosen other m.interfaces.items c.copied_worlds.items c.copied_interfaces.items
      all_chosen = chosen own other merged valid_own valid_other world other_world w v m c first_numbers p copied interfaces types s

      long_flags : length c.copied_interfaces.items ≡ length m.interfaces.items
      long_flags = long own other merged valid_own valid_other world other_world w v m c first_numbers p copied interfaces types s

  second_named : (n : ℕ) (t : TypeDef) → type_at other n ≡ Some t → is_carried later_fates n ≡ true → is_copied later_fates n ≡ false → is_none t.name ≡ false
  second_named n t at h bare = named_none t.name (elim (second_stood own other merged valid_own valid_other world other_world w v m c first_numbers p copied interfaces types s n t at h bare) [
    | inl x ↦ x.named
    | inr u ↦ ((second_known own other merged valid_own valid_other world other_world w v m c first_numbers p copied interfaces types s).imports n t at u).0
  ])

  -- ---- interfaces

  abbrev IsUnderAt : List ℕ → (ℕ → ℕ) → ℕ → Interface → Type 0
  IsUnderAt numbers f n i = (home : Option PackageId) × (j : Interface) × (interface_at merged (f n) ≡ Some j) × IsInterfaceUnder numbers home i j

  first_interface : (n : ℕ) (i : Interface) → interface_at other n ≡ Some i → flag_under c.copied_interfaces.items n ≡ true → IsUnderAt first_numbers (number_under c.interfaces.items) n i
  first_interface n i at set =
      let flags = p.numbered.interface_count ∙ (sym p.all.interfaces ∙ sym (length-map m.interfaces.items interface_number)) in
      let place = kept_placed (IsInterfaceCarried c first_numbers) c.copied_interfaces.items (map interface_number m.interfaces.items) other.interfaces.items p.new_interfaces p.interfaces flags
      (length own.interfaces.items) own.interfaces.items p.more_interfaces refl n i set at in (
        home_under c.packages.items i.«package»,
        place.image,
        ap (λ l. slice_get l (number_under c.interfaces.items n)) p.interfaces_here
            ∙ (ap (λ (l : List ℕ). slice_get (own.interfaces.items ++ (p.new_interfaces ++ p.more_interfaces)) (number_under l n)) p.numbered.interfaces ∙ place.at_image),
        place.is,
      )

  second_interface : (n : ℕ) (i : Interface) → interface_at other n ≡ Some i → flag_under copied n ≡ true → IsUnderAt types second.interfaces n i
  second_interface n i at set = (
    w.«package»,
    (inline_place own other merged valid_own valid_other world other_world w v m c first_numbers p copied interfaces types s n i at set).image,
    inline_at own other merged valid_own valid_other world other_world w v m c first_numbers p copied interfaces types s n i at set,
    (inline_place own other merged valid_own valid_other world other_world w v m c first_numbers p copied interfaces types s n i at set).is,
  )

  handed_on : (n : ℕ) → second.carries_interface n ≡ true → number_under interfaces n ≡ second.interfaces n
  handed_on n h = sym (carried_number own other merged valid_own valid_other world other_world w v m c first_numbers p copied interfaces types s n h)

  -- ---- types that come

  abbrev KeepsNoted : Renumbering → Type 0
  KeepsNoted f = (k : ℕ) (t : IsType other merged f k) → f.copies_type k ≡ true → noted_by (noted_of merged) t.image ≡ noted_by (noted_of other) t.def

  first_noted : KeepsNoted first
  first_noted = type_same other merged first c.interfaces.items first_numbers valid_other first_copies.carried below (λ k h. refl) refl first_type first_named first_interface
      first_copies.inline_copied

  second_noted : KeepsNoted second
  second_noted = type_same other merged second interfaces types valid_other second_copies.carried below handed_on refl second_type second_named second_interface second_copies.inline_copied

  -- what is copied is a type of the other's
  copy_brought : (f : Renumbering) (is : AreCopies own other merged f) → KeepsNoted f → (k : ℕ) → f.copies_type k ≡ true → (n : ℕ) → f.types k ≡ n → (y : TypeDef) → type_at merged n ≡ Some y
      → IsTypeOf other merged n y
  copy_brought f is keeps k copy n number y at =
      let carried = is.carried.copied_types k copy in
      let t = is.carried.types k carried in
      let image : t.image ≡ y = same-some t.image y (sym t.at_image ∙ (ap (type_at merged) number ∙ at)) in
      let all = carried_types other merged f valid_other.rules is.carried below in
      record {
        source = k;
        def = t.def;
        found = t.found;
        tree = ap (number_tree merged) (sym number) ∙ tree_same other merged f valid_other.rules is.carried below k carried;
        declares = ap (declaration_of merged) (sym image) ∙ same_declarations other merged f.types f.carries_type (refers_below other (references_of other valid_other.rules))
            (refers_below merged below) all t.def t.image (t.copied copy).kind;
        notes = ap (noted_by (noted_of merged)) (sym image) ∙ keeps k t copy;
      }

  -- so is each type behind own ones
  pub type_brought : (n : ℕ) (y : TypeDef) → length own.types.items ≤ n → type_at merged n ≡ Some y
      → (x : IsTypeOf other merged n y) × ((first.copies_type x.source ≡ true) ⊎ (second.copies_type x.source ≡ true))
  unfolding copy_brought
  type_brought n y high at = elim (type_from own other merged valid_own valid_other world other_world w v m c first_numbers p copied interfaces types s n high
      (slice_get_within merged.types.items n y at)) [
        | inl x ↦ (copy_brought first first_copies first_noted x.0 x.1 n x.2 y at, inl x.1)
        | inr x ↦ (copy_brought second second_copies second_noted x.0 x.1 n x.2 y at, inr x.1)
      ]

  -- what is copied stands under its number
  pub first_type_numbered : (k : ℕ) → is_copied fates k ≡ true → IsTypeBrought other merged k (number_under first_numbers k)
  unfolding copy_brought
  first_type_numbered k h =
      let t = first_copies.carried.types k (first_copies.carried.copied_types k h) in
      (t.image, t.at_image, copy_brought first first_copies first_noted k h (number_under first_numbers k) refl t.image t.at_image, refl)

  pub second_type_numbered : (k : ℕ) → is_copied later_fates k ≡ true → IsTypeBrought other merged k (number_under types k)
  unfolding copy_brought
  second_type_numbered k h =
      let t = second_copies.carried.types k (second_copies.carried.copied_types k h) in
      (t.image, t.at_image, copy_brought second second_copies second_noted k h (number_under types k) refl t.image t.at_image, refl)

  -- ---- interfaces that come

  -- what is carried is shown as the other's: by its path, or by what it means
  interface_shown : (f : Renumbering) → AreCopies own other merged f → (n : ℕ) → f.carries_interface n ≡ true → interface_item merged (f.interfaces n) ≡ interface_item other n
  interface_shown f is n h = ap shown (joined_mean other merged f valid_other.rules is.carried below is.inline_copied with_path [] [] refl (entry n ∷ []) (entry (f.interfaces n) ∷ [])
      (entry (f.interfaces n) ∷ []) refl (added (entry n) (entry (f.interfaces n)) [] [] refl ((refl, h), (refl, h, refl, refl)) none) (one-distinct (key_text merged (entry (f.interfaces n)).0)))
    where
      entry : ℕ → WorldKey × WorldItem
      entry k = (key.Interface (record { 0 = k }), item.Interface (record { 0 = k }) stability.Unknown (record { contents = None }) None)

      shown : List (Text × Entry InterfaceMeaning) → Item InterfaceMeaning
      shown [] = interface_item other n
      shown (e ∷ es) = e.1.item

      with_path : (k : ℕ) (i : Interface) → interface_at other k ≡ Some i → is_some i.name ≡ true → interface_path other k ≡ None → ⊥
      with_path k i at named without = no_true (sym (ap is_some without) ∙ named-path other valid_other k (ap (λ o. option_map_or (λ (z : Interface). is_some z.name) o false) at ∙ named))

  -- an interface that is copied stands under its number
  interface_numbered : (f : Renumbering) (is : AreCopies own other merged f) → ((n : ℕ) (i : Interface) → interface_at other n ≡ Some i → f.copies_interface n ≡ true
      → (j : Interface) × (interface_at merged (f.interfaces n) ≡ Some j) × (interface_notes merged j ≡ interface_notes other i)) → (n : ℕ) → f.copies_interface n ≡ true
      → IsInterfaceBrought other merged n (f.interfaces n)
  interface_numbered f is keeps n copy =
      let carries = is.carried.copied_interfaces n copy in
      let x = is.carried.interfaces n carries in
      let y = keeps n x.old x.found copy in
      record {
        shown = interface_shown f is n carries;
        notes = ap (option_map (interface_notes merged)) y.1 ∙ (ap Some y.2 ∙ sym (ap (option_map (interface_notes other)) x.found));
      }

  pub first_interface_numbered : (n : ℕ) → flag_under c.copied_interfaces.items n ≡ true → IsInterfaceBrought other merged n (number_under c.interfaces.items n)
  first_interface_numbered = interface_numbered first first_copies (interface_noted other merged first c.interfaces.items first_numbers valid_other first_copies.carried below (λ k h. refl)
      refl first_type first_named first_interface first_copies.inline_copied)

  pub second_interface_numbered : (n : ℕ) → flag_under copied n ≡ true → IsInterfaceBrought other merged n (number_under interfaces n)
  second_interface_numbered n set = subst (IsInterfaceBrought other merged n) (sym (handed_on n (second_copies.carried.copied_interfaces n set)))
      (interface_numbered second second_copies (interface_noted other merged second interfaces types valid_other second_copies.carried below handed_on refl second_type second_named
      second_interface second_copies.inline_copied) n set)

  -- an interface that is carried by path, with its notes
  pub interface_brought : (n : ℕ) (i : Interface) (path : Text) → interface_at other n ≡ Some i → flag_under c.copied_interfaces.items n ≡ true → path_of_interface other i ≡ Some path
      → (j : Interface) × Contains merged.interfaces.items j × (path_of_interface merged j ≡ Some path) × (interface_notes merged j ≡ interface_notes other i)
  interface_brought n i path at set is =
      let x = interface_noted other merged first c.interfaces.items first_numbers valid_other first_copies.carried below (λ k h. refl) refl first_type first_named first_interface
      first_copies.inline_copied n i at set in (
        x.0,
        get-contains merged.interfaces.items (number_under c.interfaces.items n) x.0 x.1,
        sym (ap (option_and_then (path_of_interface merged)) x.1) ∙ (carried_path other merged first valid_other first_copies.carried n (first_copies.carried.copied_interfaces n set)
            ∙ (ap (option_and_then (path_of_interface other)) at ∙ is)),
        x.2,
      )

  -- ---- packages

  pub package_brought : (n : ℕ) (o : Package) → package_at other n ≡ Some o → flag_under c.new_packages.items n ≡ true
      → (q : Package) × Contains merged.packages.items q × (identity_of q.name ≡ identity_of o.name) × (optional_text q.docs.contents ≡ optional_text o.docs.contents)
  package_brought n o at set =
      let flags = ap length p.numbered.new_packages ∙ (length-map m.packages.items is_none ∙ sym (length-map m.packages.items package_number)) in
      let place = kept_placed (IsPackageCarried c) c.new_packages.items (map package_number m.packages.items) other.packages.items p.new_packages p.packages flags (length own.packages.items) p.grown
      [] (sym p.gained.count) n o set at in (
        place.image,
        subst (λ l. Contains l place.image) (sym (p.packages_here ∙ ap (λ l. p.grown ++ l) (sym (append-nil p.new_packages))))
            (get-contains (p.grown ++ (p.new_packages ++ [])) _ place.image place.at_image),
        same_identity o.name place.image.name place.is.name,
        place.is.docs,
      )

  -- ---- worlds

  -- the path of a world that is copied
  world_here : (n : ℕ) (x y : World) (path : Text) → world_at other n ≡ Some x → path_of_world other x ≡ Some path → IsWorldCarried c first_numbers x y → path_of_world merged y ≡ Some path
  world_here n x y path at is copy =
      let h : IsPathOf other x.«package» (text_of x.name) path = world-path-of other valid_other n x at path is in
      let q = first_copies.carried.packages h.id.0 h.package_ h.stands in
      ap (option_and_then (λ (k : PackageId). path_in_package merged k.0 (text_of y.name))) (copy.in_package ∙ ap (home_under c.packages.items) h.home_is)
      ∙ (ap (option_map (λ (k : Package). path_in (identity_of k.name) (text_of y.name))) q.at_image
      ∙ ((λ i. Some (path_in (same_identity h.package_.name q.image.name q.name i) (copy.name i))) ∙ ap Some (sym h.spelled)))

  module _ (n : ℕ) (x : World) (path : Text) (at : world_at other n ≡ Some x) (set : flag_under c.copied_worlds.items n ≡ true) (path_is : path_of_world other x ≡ Some path)
      (apart : IsDistinct (become_one c.interfaces.items) (keys_of x.imports.entries) × IsDistinct (become_one c.interfaces.items) (keys_of x.exports.entries)) where
    place : IsKeptAt (IsWorldCarried c first_numbers) x (p.own_worlds ++ (p.new_worlds ++ []))
        (number_under (numbers_of (length own.worlds.items) c.copied_worlds.items (map world_number m.worlds.items)) n)
    place = kept_placed (IsWorldCarried c first_numbers) c.copied_worlds.items (map world_number m.worlds.items) other.worlds.items p.new_worlds p.worlds
        (p.numbered.world_count ∙ (sym p.all.worlds ∙ sym (length-map m.worlds.items world_number))) (length own.worlds.items) p.own_worlds [] (sym p.own_count) n x set at

    here : merged.worlds.items ≡ p.own_worlds ++ (p.new_worlds ++ [])
    here = p.worlds_here ∙ ap (λ l. p.own_worlds ++ l) (sym (append-nil p.new_worlds))

    at_place : world_at merged (number_under c.worlds.items n) ≡ Some place.image
    at_place = search (std_rules, here, place)

    j : IsJoined other merged first n [] []
    j = (first_worlds_are_copied own other merged m c first_numbers valid_own valid_other p n set).0.joined

    old : j.old ≡ x
    old = same-some j.old x (sym j.found ∙ at)

    image : j.image ≡ place.image
    image = same-some j.image place.image (sym j.at_image ∙ at_place)

    abbrev Entries : Type 0
    Entries = List (WorldKey × WorldItem)

    joined_imports : Joined first [] x.imports.entries place.image.imports.entries
    joined_imports = search (std_rules, place, old, j, image)

    joined_exports : Joined first [] x.exports.entries place.image.exports.entries
    joined_exports = search (std_rules, place, old, j, image)

    all_noted : (olds news : Entries) → Joined first [] olds news
        → AllZip (IsEntryUnder c.interfaces.items first_numbers) (filter (λ (e : WorldKey × WorldItem). is_new_under c.interfaces.items [] e.0) olds) news
        → map (entry_notes merged) news ≡ map (entry_notes other) olds
    all_noted = entries_noted other merged first c.interfaces.items first_numbers valid_other first_copies.carried below (λ k h. refl) refl first_type first_named first_interface
        first_copies.inline_copied

    world_noted : world_notes merged place.image ≡ world_notes other x
    world_noted = λ i. record {
      docs = place.is.docs i;
      stability = place.is.stability i;
      imports = all_noted x.imports.entries place.image.imports.entries joined_imports (place.is.imports apart.0) i;
      exports = all_noted x.exports.entries place.image.exports.entries joined_exports (place.is.exports apart.1) i;
    }

    -- a world that is copied, with its notes
    pub world_brought : (y : World) × Contains merged.worlds.items y × (path_of_world merged y ≡ Some path) × (world_notes merged y ≡ world_notes other x)
    world_brought = (place.image, get-contains merged.worlds.items (number_under c.worlds.items n) place.image at_place, world_here n x place.image path at path_is place.is, world_noted)

    -- it stands under its number
    pub world_numbered : IsWorldBrought other merged n (number_under c.worlds.items n)
    world_numbered = record {
      path = ap (option_and_then (path_of_world merged)) at_place ∙ (world_here n x place.image path at path_is place.is ∙ sym (ap (option_and_then (path_of_world other)) at ∙ path_is));
      notes = ap (option_map (world_notes merged)) at_place ∙ (ap Some world_noted ∙ sym (ap (option_map (world_notes other)) at));
    }

  -- ---- the bound world

  abbrev is_new_import : WorldKey × WorldItem → Bool
  is_new_import e = is_new_under interfaces w.imports.entries e.0

  abbrev is_new_export : WorldKey × WorldItem → Bool
  is_new_export e = is_new_under interfaces w.exports.entries e.0

  imports_behind : s.image.imports.entries ≡ w.imports.entries ++ s.new_imports
  imports_behind =
      let apart = second_joined.imports_apart own other merged valid_own valid_other world other_world w v m c first_numbers p copied interfaces types s in
      s.gained.imports ∙ all_behind interfaces types w.imports.entries (filter is_new_import v.imports.entries) s.new_imports (s.imports apart) (filter_passes is_new_import v.imports.entries)
      (IsDistinct-keys_filter (become_one interfaces) is_new_import v.imports.entries apart)

  exports_behind : s.image.exports.entries ≡ w.exports.entries ++ s.new_exports
  exports_behind =
      let apart = second_joined.exports_apart own other merged valid_own valid_other world other_world w v m c first_numbers p copied interfaces types s in
      s.gained.exports ∙ all_behind interfaces types w.exports.entries (filter is_new_export v.exports.entries) s.new_exports (s.exports apart) (filter_passes is_new_export v.exports.entries)
      (IsDistinct-keys_filter (become_one interfaces) is_new_export v.exports.entries apart)

  module _ (own_paths : (n : ℕ) (t : Text) → interface_path own n ≡ Some t → interface_path merged n ≡ Some t) where
    -- keys of own entries have the texts that they had
    own_text : (k : WorldKey) → ((id : InterfaceId) → k ≡ key.Interface id → is_some (interface_path own id.0) ≡ true) → key_text merged k ≡ key_text own k
    own_text (key.Name t) h = refl
    own_text (key.Interface id) h = let t = some-of (interface_path own id.0) (h id refl) in ap (λ o. unwrap_or o []) (own_paths id.0 t.0 t.1 ∙ sym t.1)

    with_path : (n : ℕ) (i : Interface) → interface_at own n ≡ Some i → is_some i.name ≡ true → is_some (interface_path own n) ≡ true
    with_path n i at named = named-path own valid_own n (ap (λ o. option_map_or (λ (z : Interface). is_some z.name) o false) at ∙ named)

    known : (here : List (WorldKey × WorldItem)) (t : Text) (there : WorldKey × WorldItem) → Contains here there → key_text own there.0 ≡ t → is_one_of (key_texts own here) t ≡ true
    known here t there held e =
        let place = contains-get here there held in
        any_at (text_eq t) (key_texts own here) place.0 (key_text own there.0)
        (slice_get-map (λ (x : WorldKey × WorldItem). key_text own x.0) here place.0 ∙ ap (option_map (λ (x : WorldKey × WorldItem). key_text own x.0)) place.1)
        (same_text t (key_text own there.0) (sym e))

    module _ (here olds news whole : List (WorldKey × WorldItem)) (behind : whole ≡ here ++ news)
        (keyed : (x : WorldKey × WorldItem) → Contains here x → (id : InterfaceId) → x.0 ≡ key.Interface id → is_some (interface_path own id.0) ≡ true)
        (join : Joined second here olds news) (zip : AllZip (IsEntryUnder interfaces types) (filter (λ (e : WorldKey × WorldItem). is_new_under interfaces here e.0) olds) news) where
      entries_brought : BringsEntries (key_texts own here) other olds merged whole
      entries_brought e held fresh = go (met_or_noted other merged second interfaces types valid_other second_copies.carried below handed_on refl second_type second_named second_interface
          second_copies.inline_copied here olds news join zip e held)
        where
          go : IsMetOrNoted other merged second interfaces types valid_other second_copies.carried below handed_on refl second_type second_named second_interface second_copies.inline_copied here
              news e → (x : WorldKey × WorldItem) × Contains whole x × (entry_notes merged x ≡ entry_notes other e)
          go (inl (there, h, same)) = no_true (sym fresh ∙ known here (key_text other e.0) there h (sym (own_text there.0 (keyed there h)) ∙ same))
          go (inr (x, h, same)) = (x, subst (λ (l : List (WorldKey × WorldItem)). Contains l x) (sym behind) (Contains-append_right here news x h), same)

    -- what the bound world gains, with its notes
    pub bound_brought : (x : World) → world_at merged world ≡ Some x → BringsEntries (key_texts own w.imports.entries) other v.imports.entries merged x.imports.entries
        × BringsEntries (key_texts own w.exports.entries) other v.exports.entries merged x.exports.entries
    bound_brought x at =
        let is : s.image ≡ x = same-some s.image x (sym s.at_image ∙ at) in (
          entries_brought w.imports.entries v.imports.entries s.new_imports x.imports.entries (ap (λ (z : World). z.imports.entries) (sym is) ∙ imports_behind)
              (λ y held id q. let k = import_keyed own valid_own world w s.own_at y held id q in with_path id.0 k.def k.found k.named)
              (second_joined.imports_join own other merged valid_own valid_other world other_world w v m c first_numbers p copied interfaces types s)
              (s.imports (second_joined.imports_apart own other merged valid_own valid_other world other_world w v m c first_numbers p copied interfaces types s)),
          entries_brought w.exports.entries v.exports.entries s.new_exports x.exports.entries (ap (λ (z : World). z.exports.entries) (sym is) ∙ exports_behind)
              (λ y held id q. let k = export_keyed own valid_own world w s.own_at y held id q in with_path id.0 k.def k.found k.named)
              (second_joined.exports_join own other merged valid_own valid_other world other_world w v m c first_numbers p copied interfaces types s)
              (s.exports (second_joined.exports_apart own other merged valid_own valid_other world other_world w v m c first_numbers p copied interfaces types s)),
        )

  -- ---- the order of what comes

  pub types_in_turn : (First Second : ℕ → Type 0) → ((k : ℕ) → is_copied fates k ≡ true → First k) → ((k : ℕ) → is_copied later_fates k ≡ true → Second k)
      → StandInTurn First Second (IsTypeBrought other merged) (length own.types.items) (length merged.types.items)
  types_in_turn First Second come gain =
      let none : length own.types.items + length {A = TypeDef} [] ≡ length own.types.items = omega arith in
      let many = copied_long (length own.types.items) first_numbers other.types.items fates [] p.new_types (second_pass.long_fates _ _ _ valid_own valid_other _ _ _ _ _ _ _ _ _ _ _ s) p.types in
      let more = copied_long (length own.types.items) types other.types.items later_fates p.new_types s.all_types (second_pass.fates_many _ _ _ valid_own valid_other _ _ _ _ _ _ _ _ _ _ _ s)
      s.types_copied in
      let all = ap length s.types_here ∙ length-append own.types.items s.all_types in
      record {
        between = length own.types.items + length p.new_types;
        first = stand_in_order First (IsTypeBrought other merged) (map copies fates) (map stood fates) first_numbers (length own.types.items) (length own.types.items + length p.new_types)
            (flagged fates) (p.types.numbers_are ∙ ap (λ k. numbers_by k fates) none) (omega (arith, many)) (λ k h. come k (sym (flag_is_copied fates k) ∙ h))
            (λ k h. first_type_numbered k (sym (flag_is_copied fates k) ∙ h));
        second = stand_in_order Second (IsTypeBrought other merged) (map copies later_fates) (map stood later_fates) types (length own.types.items + length p.new_types)
            (length merged.types.items) (flagged later_fates) s.types_copied.numbers_are (omega (arith, more, all)) (λ k h. gain k (sym (flag_is_copied later_fates k) ∙ h))
            (λ k h. second_type_numbered k (sym (flag_is_copied later_fates k) ∙ h));
      }
    where
      flagged : (fs : TypeFates) → length (map copies fs) ≡ length (map stood fs)
      flagged fs = length-map fs copies ∙ sym (length-map fs stood)

  pub interfaces_in_turn : (First Second : ℕ → Type 0) → ((n : ℕ) → flag_under c.copied_interfaces.items n ≡ true → First n) → ((n : ℕ) → flag_under copied n ≡ true → Second n)
      → StandInTurn First Second (IsInterfaceBrought other merged) (length own.interfaces.items) (length merged.interfaces.items)
  interfaces_in_turn First Second come gain =
      let long = second_pass.copied_long _ _ _ valid_own valid_other _ _ _ _ _ _ _ _ _ _ _ s in
      let many = carried_all (IsInterfaceCarried c first_numbers) c.copied_interfaces.items other.interfaces.items p.new_interfaces p.numbered.interface_count p.interfaces in
      let more = inline_all types w.«package» copied other.interfaces.items p.new_interfaces s.all_interfaces
      (long ∙ (sym p.numbered.whole.interfaces ∙ p.numbered.interface_count)) s.inline_copied in
      let all = ap length s.interfaces_here ∙ length-append own.interfaces.items s.all_interfaces in
      record {
        between = length own.interfaces.items + length p.new_interfaces;
        first = stand_in_order First (IsInterfaceBrought other merged) c.copied_interfaces.items (map interface_number m.interfaces.items) c.interfaces.items (length own.interfaces.items)
            (length own.interfaces.items + length p.new_interfaces) (p.numbered.interface_count ∙ (sym p.all.interfaces ∙ sym (length-map m.interfaces.items interface_number)))
            p.numbered.interfaces (omega (arith, many)) come first_interface_numbered;
        second = stand_in_order Second (IsInterfaceBrought other merged) copied c.interfaces.items interfaces (length own.interfaces.items + length p.new_interfaces)
            (length merged.interfaces.items) long s.interfaces_are (omega (arith, more, all)) gain second_interface_numbered;
      }

  pub worlds_in_order : (Comes : ℕ → Type 0) → ((n : ℕ) → flag_under c.copied_worlds.items n ≡ true → Comes n)
      → ((n : ℕ) (x : World) → world_at other n ≡ Some x
      → IsDistinct (become_one c.interfaces.items) (keys_of x.imports.entries) × IsDistinct (become_one c.interfaces.items) (keys_of x.exports.entries))
      → StandInOrder Comes (IsWorldBrought other merged) (length own.worlds.items) (length merged.worlds.items)
  worlds_in_order Comes come apart = stand_in_order Comes (IsWorldBrought other merged) c.copied_worlds.items (map world_number m.worlds.items) c.worlds.items (length own.worlds.items)
      (length merged.worlds.items) (p.numbered.world_count ∙ (sym p.all.worlds ∙ sym (length-map m.worlds.items world_number))) p.numbered.worlds count come one
    where
      count : length merged.worlds.items ≡ length own.worlds.items + copied_count c.copied_worlds.items
      count =
          let many = carried_all (IsWorldCarried c first_numbers) c.copied_worlds.items other.worlds.items p.new_worlds p.numbered.world_count p.worlds in
          let all = ap length p.worlds_here ∙ length-append p.own_worlds p.new_worlds in
          let same = p.own_count in
          omega (arith, many, all, same)

      one : (n : ℕ) → flag_under c.copied_worlds.items n ≡ true → IsWorldBrought other merged n (number_under c.worlds.items n)
      one n set =
          let x = (first_worlds_are_copied own other merged m c first_numbers valid_own valid_other p n set).0.joined in
          let path = world-path other valid_other n x.old x.found in
          world_numbered n x.old path.0 x.found set (sym (ap (option_and_then (path_of_world other)) x.found) ∙ path.1) (apart n x.old x.found)
