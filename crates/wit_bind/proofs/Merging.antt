-- What comes of two bindings that don't clash, once all that the one brings is added to the other.
use Rattle.std.proofs.Common.{rules as std_rules, ◌≡◌, ◌⊎◌, refl, sym, ap, ◌∙◌, inl, inr, arith, ℕ, zero, suc, ◌≤◌, Bool, true, false, ◌&&◌, List, [], ◌∷◌, ◌++◌, length, map, Option, Some, None, is_none, slice_get, slice_set, String, Contains, subst}
use Rattle.std.proofs.lemmas.{Bool.and_from as both, Bool.cases_lt as either, List.map-append, List.Folds.list_all-map, Option.slice_get_within, Option.same_Some as same-some}
use Rattle.std.specs.{List.filter, List.list_all, List.AllZip, List.IsDistinct, Map.keys_of, String.string_eq, Option.option_map_or}
use Rattle.std.specs.declared.alloc.Global.{Global}
use Rattle.indexmap.specs.IndexMap.{values, IsUnique}
use Rattle.wit_model.specs.declared.model.{Docs.Docs, World.World, WorldId.WorldId, Function.Function, Package.Package, Resolve.Resolve, TypeDef.TypeDef, WorldKey.WorldKey, WorldItem.WorldItem, Interface.Interface, PackageId.PackageId, Stability.Stability, TypeDefKind.TypeDefKind}
use Rattle.wit_model.specs.{Lookup.type_at, Lookup.world_at, Lookup.interface_path, Lookup.key_text, Text.Text, Text.optional_text, Valid.key_eq, Valid.IsValid}
use Rattle.wit_model.proofs.{Elements.contains-get, OnePath.has-path}
use Rattle.plan_meaning.specs.Built.{is_bare, is_bare_function, is_bare_interface, is_bare_item, is_bare_kind, is_bare_type, is_bare_world, is_undocumented, IsBare}
use Rattle.bind_add.specs.Growth.{HasGainedItems, IsAdded}
use Rattle.bind_add.specs.declared.added.Added.{Added}
use Rattle.bind_copy.specs.Copies.{become_one, is_new_under, member_docs, IsEntryUnder, IsFunctionUnder, IsInterfaceUnder, IsItemUnder, IsFunctionEntry as IsFunctionEntryUnder}
use Rattle.bind_match.specs.declared.matches.Matches.{Matches}
use Rattle.bind_union.specs.Carried.{stability_view}
use Rattle.bind_union.proofs.{BoundMeanings.bound_means, Valid.merged_is_valid}
use Rattle.bind_carry.specs.{MatchedSame.AreMatchedAt, MatchedSame.NoneOfPath, SecondPass.is_left_out, SecondPass.second_pass_of, SecondPass.IsSecondPass, Which.AreMatchedAll, TooLong.CarriedThings, AddedKeys.key_view, FirstPass.IsFirstPass, Renumbered.first_of, First.first_fates, First.flag_under, Whole.kept, Whole.IsInterfaceCarried, Whole.IsWorldCarried, Packaged.IsPackageCarried, AddedApart.AreMatchedByName, Apart.IsApart}
use Rattle.bind_carry.specs.{Bound.bound_interfaces, BoundGains.bound_fates, Fates.copies, Renumbered.is_copied, TooLong.gained_fates, TooLong.TypeFates, Union.IsUnionOf}
use Rattle.bind_carry.proofs.{MetTypes.copied_mark, Ready.fates_long, Ready.numbers_count}
use Rattle.wit_bind.specs.Comes.{InlineIsGained, InterfaceComes, TypeComes, TypeIsGained, WorldComes}
use Rattle.wit_bind.proofs.Coming.{copied-interface, copied-world, inline-gained, type-comes, type-gained}
use Rattle.bind_carry.proofs.KeysGained.{by_path_apart, exports_apart, exports_behind, imports_apart, imports_behind}
use Rattle.bind_carry.proofs.{FirstOfUnion.unions_have_the_second, NamesMerged.names_are_merged, MergedUnion.unions_are_merged, UnionDistinct.unions_are_apart, UnionDistinct.unions_have_distinct_keys, UnionKeys.exports_come_behind, UnionKeys.keys_keep_texts}
use Rattle.wit_bind.specs.Brings.{noted, key_texts, BringsEntries, BringsItsOwn, IsTypeOf, NotedTree, Notes}
use Rattle.wit_bind.specs.{Extends.Extends, Extends.listed_names, Extends.merged_names, Merges.export_keys, Merges.IsGrownBy, Merges.IsPlanOf, Bindings.binding_of, Bindings.IsBindgen, MergedLaws.AgreeByNumbers, MergedLaws.IsUnited, OthersOrder.KeepsOthersOrder}
use Rattle.base_lemmas.proofs.{Bools.left_of as first_true, Bools.right_of as second_true, Lists.front_at, Lists.within_there as element_at}
use Rattle.base_lemmas.proofs.Elements.{all-contained, all_by_number as all_by, all_get as at_all, contains-later, contains-map, filter_kept as from-filter, joined_well as joined_all}
use Rattle.bind_match.specs.Matching.{is_root_world}
use Rattle.bind_meaning.specs.{Clash.CanUnite, Union.union}
use Rattle.wit_bind.specs.declared.bindgen.Bindgen.{Bindgen}
use Rattle.wit_bind.proofs.{Extending.grown_extend, MatchedPaths.matches_have_paths, UnionBound.united_are_the_union, Bringing.new_interface_copied, Bringing.new_package_copied, Bringing.new_world_copied, NumbersAgree.united_agree_by_numbers}
use Rattle.wit_bind.proofs.Brought.{bound_brought, interface_brought, interfaces_in_turn, package_brought, type_brought, type_notes, types_in_turn, world_brought, worlds_in_order}
use Rattle.wit_model.specs.declared.model.TypeDefKind.TheVariants as kind

-- ---- Where there is no documentation and no known stability on either side, there is none in what is merged.

-- ---- documentation and stability

none_same : (old new : Option (String Global)) → optional_text new ≡ optional_text old → is_none old ≡ true → is_none new ≡ true
none_same x o e h = search std_rules

bare_same : (d e : Docs) (s t : Stability) → optional_text e.contents ≡ optional_text d.contents → stability_view t ≡ stability_view s → is_bare d s ≡ true → is_bare e t ≡ true
bare_same d e s t docs view h = search std_rules

-- ---- lists

zip_all : {X Y : Type 0} (R : X → Y → Type 0) (q : Y → Bool) (xs : List X) (ys : List Y) → ((x : X) (y : Y) → Contains xs x → R x y → q y ≡ true) → AllZip R xs ys → list_all q ys ≡ true
zip_all R q [] [] f zip = refl
zip_all R q (x ∷ xs) (y ∷ ys) f zip = both (q y) (list_all q ys) (f x y (0, omega arith, refl) zip.0) (zip_all R q xs ys (λ a b c r. f a b (contains-later x xs a c) r) zip.1)
zip_all R q _ _ f zip = absurd zip

set_all : {X : Type 0} (p : X → Bool) (xs : List X) (n : ℕ) (x : X) → list_all p xs ≡ true → p x ≡ true → list_all p (slice_set xs n x) ≡ true
set_all p [] n x h k = refl
set_all p (y ∷ ys) zero x h k = both (p x) (list_all p ys) k (second_true (p y) (list_all p ys) h)
set_all p (y ∷ ys) (suc n) x h k = both (p y) (list_all p (slice_set ys n x)) (first_true (p y) (list_all p ys) h) (set_all p ys n x (second_true (p y) (list_all p ys) h) k)

kept_from : {X : Type 0} (flags : List Bool) (xs : List X) (x : X) → Contains (kept flags xs) x → Contains xs x
kept_from (false ∷ bs) (y ∷ ys) x h = contains-later y ys x (kept_from bs ys x h)
kept_from (true ∷ bs) (y ∷ ys) x (zero, l, e) = (0, omega arith, e)
kept_from (true ∷ bs) (y ∷ ys) x (suc n, l, e) = contains-later y ys x (kept_from bs ys x (n, omega (arith, l), e))
kept_from _ _ x h = let k = contains-get [] x h in let wrong : ⊥ = cc in absurd wrong

-- ---- types

abbrev has_none : Option Text → Bool
has_none o = is_none o

text_none : (o : Option (String Global)) → is_none o ≡ is_none (optional_text o)
text_none x = search std_rules

docs_none : {X : Type 0} (docs : X → Docs) (xs : List X) → list_all (λ x. is_undocumented (docs x)) xs ≡ list_all has_none (map (λ x. optional_text (docs x).contents) xs)
docs_none docs [] = refl
docs_none docs (x ∷ xs) = λ i. text_none (docs x).contents i && docs_none docs xs i

members_bare : (k : TypeDefKind) → is_bare_kind k ≡ list_all has_none (member_docs k)
members_bare (kind.Record record_) = docs_none (λ f. f.docs) record_.fields.items
members_bare (kind.Variant variant) = docs_none (λ c. c.docs) variant.cases.items
members_bare (kind.Flags flags) = docs_none (λ f. f.docs) flags.flags.items
members_bare (kind.Enum enum) = docs_none (λ c. c.docs) enum.cases.items
members_bare _ = refl

-- what a noted tree says of the thing itself
abbrev of_itself : NotedTree → Option Notes
of_itself (noted notes parts) = Some notes
of_itself _ = None

-- a type with the notes of a bare one is bare
type_bare : (old new : TypeDef) → type_notes new ≡ type_notes old → is_bare_type old ≡ true → is_bare_type new ≡ true
type_bare old new is h = search (std_rules, both, bare_same, first_true, members_bare, second_true)

-- ---- interfaces

function_bare : (numbers : List ℕ) (old new : Function) → IsFunctionUnder numbers old new → is_bare_function old ≡ true → is_bare_function new ≡ true
function_bare numbers old new is h = bare_same old.docs new.docs old.stability new.stability is.docs is.stability h

functions_bare : (numbers : List ℕ) (olds news : List (String Global × Function)) → AllZip (IsFunctionEntryUnder numbers) olds news
    → list_all is_bare_function (map (λ (e : String Global × Function). e.1) olds) ≡ true → list_all is_bare_function (map (λ (e : String Global × Function). e.1) news) ≡ true
functions_bare numbers olds news zip h = list_all-map is_bare_function (λ (e : String Global × Function). e.1) news
    ∙ zip_all (IsFunctionEntryUnder numbers) (λ (e : String Global × Function). is_bare_function e.1) olds news
    (λ x y held z. function_bare numbers x.1 y.1 z.1 (all-contained is_bare_function (map (λ (e : String Global × Function). e.1) olds) x.1 h
    (contains-map (λ (e : String Global × Function). e.1) olds x held))) zip

interface_bare : (numbers : List ℕ) (home : Option PackageId) (old new : Interface) → IsInterfaceUnder numbers home old new → IsUnique string_eq old.functions → is_bare_interface old ≡ true
    → is_bare_interface new ≡ true
interface_bare numbers home old new is unique h = search (std_rules, both, bare_same, first_true, functions_bare, second_true)

-- ---- items

item_bare : (interfaces types : List ℕ) (i j : WorldItem) → IsItemUnder interfaces types i j → is_bare_item i ≡ true → is_bare_item j ≡ true
item_bare interfaces types x y is h = search std_rules

abbrev items : List (WorldKey × WorldItem) → List WorldItem
items es = map (λ (e : WorldKey × WorldItem). e.1) es

-- those of a list that pass a test, where all items of the list are bare
chosen_bare : (interfaces types : List ℕ) (test : WorldKey × WorldItem → Bool) (olds news : List (WorldKey × WorldItem)) → AllZip (IsEntryUnder interfaces types) (filter test olds) news
    → list_all is_bare_item (items olds) ≡ true → list_all is_bare_item (items news) ≡ true
chosen_bare interfaces types test olds news zip h = list_all-map is_bare_item (λ (e : WorldKey × WorldItem). e.1) news
    ∙ zip_all (IsEntryUnder interfaces types) (λ (e : WorldKey × WorldItem). is_bare_item e.1) (filter test olds) news
    (λ x y held z. item_bare interfaces types x.1 y.1 z.1 (all-contained is_bare_item (items olds) x.1 h
    (contains-map (λ (e : WorldKey × WorldItem). e.1) olds x (from-filter test olds x held).0))) zip

-- ---- worlds

abbrev own_bare : World → Bool
own_bare w = is_bare w.docs w.stability

abbrev both_bare : World → Bool
both_bare w = list_all is_bare_item (values w.imports) && list_all is_bare_item (values w.exports)

module _ (w : World) (h : is_bare_world w ≡ true) where
  own_is : own_bare w ≡ true
  own_is = first_true (own_bare w) (both_bare w) h

  imports_are : list_all is_bare_item (values w.imports) ≡ true
  imports_are = first_true (list_all is_bare_item (values w.imports)) (list_all is_bare_item (values w.exports)) (second_true (own_bare w) (both_bare w) h)

  exports_are : list_all is_bare_item (values w.exports) ≡ true
  exports_are = second_true (list_all is_bare_item (values w.imports)) (list_all is_bare_item (values w.exports)) (second_true (own_bare w) (both_bare w) h)

world_bare : (c : CarriedThings) (types : List ℕ) (old new : World) → IsWorldCarried c types old new → IsDistinct (become_one c.interfaces.items) (keys_of old.imports.entries)
    × IsDistinct (become_one c.interfaces.items) (keys_of old.exports.entries) → is_bare_world old ≡ true → is_bare_world new ≡ true
world_bare c types old new is apart h = search (std_rules, both, bare_same, own_is, chosen_bare, imports_are, exports_are)

module _ (own other merged : Resolve) (valid_own : IsValid own) (valid_other : IsValid other) (world k : ℕ) (m : Matches) (w v : World) (added : Added) (keys : List WorldKey)
    (u : IsUnionOf own other world k m w v added keys) (a : IsAdded key_eq world added own merged) (at_own : world_at own world ≡ Some w) (at : world_at other k ≡ Some v) (all : AreMatchedAll other m)
    (same : AreMatchedAt own other m.interfaces.items u.carried.packages.items) (none : NoneOfPath own other m.interfaces.items) (grown : Extends own merged world)
    (sourced : (n : ℕ) (y : TypeDef) → length own.types.items ≤ n → type_at merged n ≡ Some y → (k : ℕ) × (def : TypeDef) × (type_at other k ≡ Some def) × (type_notes y ≡ type_notes def))
    (ours : IsBare own) (theirs : IsBare other) where
  abbrev c : CarriedThings
  c = u.carried

  -- ---- packages

  abbrev test : Package → Bool
  test p = is_undocumented p.docs

  own_packages : list_all test a.packages.0 ≡ true
  own_packages = all_by test a.packages.0 one
    where
      one : (n : ℕ) (q : Package) → slice_get a.packages.0 n ≡ Some q → test q ≡ true
      one n q at_q =
          let within = slice_get_within a.packages.0 n q at_q in
          let count = a.packages.1.count in
          let p = element_at own.packages.items n (omega (arith, within, count)) in
          let x = grown.packages n p.0 p.1 in
          let here : q ≡ x.0 = same-some q x.0 (sym (ap (λ l. slice_get l n) a.packages.2 ∙ front_at a.packages.0 added.packages.items n q at_q) ∙ x.1) in
          ap test here ∙ (ap is_undocumented x.2.docs ∙ at_all test own.packages.items n p.0 ours.packages p.1)

  new_packages : list_all test added.packages.items ≡ true
  new_packages = ap (list_all test) u.second.packages ∙ zip_all (IsPackageCarried c) test (kept c.new_packages.items other.packages.items) u.before.packages.items
      (λ x y held is. none_same x.docs.contents y.docs.contents is.docs (all-contained test other.packages.items x theirs.packages (kept_from c.new_packages.items other.packages.items x held)))
      u.first.packages

  -- ---- interfaces

  abbrev Inline : List Interface → Type 0
  Inline is = list_all is_bare_interface is ≡ true

  one_interface : (flags : List Bool) (numbers : List ℕ) (home : Option PackageId) (x y : Interface) → Contains (kept flags other.interfaces.items) x → IsInterfaceUnder numbers home x y
      → is_bare_interface y ≡ true
  one_interface flags numbers home x y held is =
      let there = kept_from flags other.interfaces.items x held in
      let place = contains-get other.interfaces.items x there in
      interface_bare numbers home x y is (valid_other.distinct_keys.interfaces place.0 x place.1).1 (all-contained is_bare_interface other.interfaces.items x theirs.interfaces there)

  new_interfaces : Inline added.interfaces.items
  new_interfaces = ap (list_all is_bare_interface) u.second.inline_copied.behind
      ∙ joined_all is_bare_interface u.before.interfaces.items u.second.inline_copied.more
      (zip_all (IsInterfaceCarried c u.types) is_bare_interface (kept c.copied_interfaces.items other.interfaces.items) u.before.interfaces.items
      (λ x y held is. one_interface c.copied_interfaces.items u.types _ x y held is) u.first.interfaces)
      (zip_all (IsInterfaceUnder u.second.types w.«package») is_bare_interface (kept u.second.copied other.interfaces.items) u.second.inline_copied.more
      (λ x y held is. one_interface u.second.copied u.second.types w.«package» x y held is) u.second.inline_copied.copies)

  -- ---- types

  new_types : list_all is_bare_type merged.types.items ≡ true
  new_types = all_by is_bare_type merged.types.items one
    where
      one : (n : ℕ) (y : TypeDef) → type_at merged n ≡ Some y → is_bare_type y ≡ true
      one n y at_y = elim (either n (length own.types.items)) [
        | inl low ↦ (let t = element_at own.types.items n low in let here : y ≡ t.0 =
            same-some y t.0 (sym at_y ∙ (ap (λ l. slice_get l n) a.types ∙ front_at own.types.items added.types.items n t.0 t.1)) in
            ap is_bare_type here ∙ at_all is_bare_type own.types.items n t.0 ours.types t.1)
        | inr high ↦ (let x = sourced n y high at_y in type_bare x.1 y x.3 (at_all is_bare_type other.types.items x.0 x.1 theirs.types x.2))
      ]

  -- ---- worlds

  abbrev x : World
  x = (a.worlds w at_own).0

  gained : HasGainedItems key_eq added.imports.entries added.exports.entries w x
  gained = (a.worlds w at_own).1

  own_world : is_bare_world w ≡ true
  own_world = at_all is_bare_world own.worlds.items world w ours.worlds at_own

  other_world : is_bare_world v ≡ true
  other_world = at_all is_bare_world other.worlds.items k v theirs.worlds at

  behind : (whole here more : List (WorldKey × WorldItem)) → whole ≡ here ++ more → list_all is_bare_item (items here) ≡ true → list_all is_bare_item (items more) ≡ true
      → list_all is_bare_item (items whole) ≡ true
  behind whole here more is h l = search (std_rules, map-append, joined_all)

  bound_world : is_bare_world x ≡ true
  bound_world = both (own_bare x) (both_bare x) ((λ i. is_bare (gained.docs i) (gained.stability i)) ∙ own_is w own_world)
      (both (list_all is_bare_item (values x.imports)) (list_all is_bare_item (values x.exports))
      (behind x.imports.entries w.imports.entries added.imports.entries (gained.imports ∙ imports_behind own other valid_own valid_other world k m w v added keys u at all same none)
      (imports_are w own_world) (chosen_bare u.second.interfaces u.second.types (λ (e : WorldKey × WorldItem). is_new_under u.second.interfaces w.imports.entries e.0) v.imports.entries
      added.imports.entries (u.second.imports (imports_apart own other valid_own valid_other world k m w v added keys u at all same none)) (imports_are v other_world)))
      (behind x.exports.entries w.exports.entries added.exports.entries (gained.exports ∙ exports_behind own other valid_own valid_other world k m w v added keys u at all same none)
      (exports_are w own_world) (chosen_bare u.second.interfaces u.second.types (λ (e : WorldKey × WorldItem). is_new_under u.second.interfaces w.exports.entries e.0) v.exports.entries
      added.exports.entries (u.second.exports (exports_apart own other valid_own valid_other world k m w v added keys u at all same none)) (exports_are v other_world))))

  new_worlds : list_all is_bare_world added.worlds.items ≡ true
  new_worlds = ap (list_all is_bare_world) u.second.worlds ∙ zip_all (IsWorldCarried c u.types) is_bare_world (kept c.copied_worlds.items other.worlds.items) u.before.worlds.items one u.first.worlds
    where
      one : (y z : World) → Contains (kept c.copied_worlds.items other.worlds.items) y → IsWorldCarried c u.types y z → is_bare_world z ≡ true
      one y z held is =
          let there = kept_from c.copied_worlds.items other.worlds.items y held in
          let place = contains-get other.worlds.items y there in
          world_bare c u.types y z is (by_path_apart own other valid_own valid_other world k m w v added keys u at all same none place.0 y place.1)
          (all-contained is_bare_world other.worlds.items y theirs.worlds there)

  pub merged_is_bare : IsBare merged
  merged_is_bare = record {
    packages = ap (list_all test) a.packages.2 ∙ joined_all test a.packages.0 added.packages.items own_packages new_packages;
    interfaces = ap (list_all is_bare_interface) a.interfaces ∙ joined_all is_bare_interface own.interfaces.items added.interfaces.items ours.interfaces new_interfaces;
    worlds = ap (list_all is_bare_world) (a.worlds w at_own).2
        ∙ joined_all is_bare_world (slice_set own.worlds.items world x) added.worlds.items (set_all is_bare_world own.worlds.items world x ours.worlds bound_world) new_worlds;
    types = new_types;
  }

-- ---- what comes of two bindings that don't clash, once all that the one brings is added to the other

module _ (own other new : Bindgen) (o : IsBindgen own) (t : IsBindgen other) (can : CanUnite (binding_of own) (binding_of other)) (added : Added) (keys : List WorldKey) (p : IsPlanOf own other added keys) (g : IsGrownBy added other.metadata own new) where
  abbrev r : Resolve
  r = own.resolve

  abbrev s : Resolve
  s = other.resolve

  -- ---- what is given

  bound : (w : World) × (world_at r own.world.0 ≡ Some w)
  bound = element_at r.worlds.items own.world.0 o.in_range

  other-bound : (v : World) × (world_at s other.world.0 ≡ Some v)
  other-bound = element_at s.worlds.items other.world.0 t.in_range

  abbrev w : World
  w = bound.0

  abbrev v : World
  v = other-bound.0

  planned : IsUnionOf r s own.world.0 other.world.0 p.matches w v added keys
  planned = p.union w v bound.1 other-bound.1

  paths : AreMatchedAll s p.matches × AreMatchedAt r s p.matches.interfaces.items planned.carried.packages.items × NoneOfPath r s p.matches.interfaces.items
  paths = matches_have_paths own other o t can p.matches p.matched own.world.0 other.world.0 w v added keys planned

  agree : AgreeByNumbers r s w v
  agree = united_agree_by_numbers own other o t can w v bound.1 other-bound.1

  by-name : AreMatchedByName r s p.matches
  by-name = record { packages = p.matched.packages; interfaces = p.matched.interfaces; worlds = p.matched.worlds }

  -- ---- the union

  -- what is left out is the root world
  root-left-out : (n : ℕ) (x : World) → world_at s n ≡ Some x → is_left_out s n ≡ is_root_world s x
  root-left-out n x at = ap (λ y. option_map_or (is_root_world s) y false) at

  united : IsUnited own other new
  united = record {
    first = first_of p.matches.interfaces.items planned.carried (first_fates r s p.matches.interfaces.items planned.carried) planned.types;
    second = second_pass_of r s p.matches planned.carried own.world.0 other.world.0 w v planned.second.copied planned.second.interfaces planned.types planned.second.types;
    left_out = is_left_out s;
    merged = unions_are_merged r s new.resolve own.world.0 other.world.0 p.matches w v added keys planned o.valid t.valid g.all_added p.few bound.1 other-bound.1 p.matched.packages
        p.matched.interfaces p.matched.worlds paths.1 paths.2 agree.bound agree.no_world agree.no_interface;
    root = root-left-out;
    distinct = unions_have_distinct_keys r s new.resolve own.world.0 other.world.0 p.matches w v added keys planned o.valid t.valid g.all_added bound.1 other-bound.1 paths.0 paths.1 paths.2;
    world = g.world;
    imports = g.imports;
    exports = g.exports;
  }

  pub merged_are_the_union : IsBindgen new × (binding_of new ≡ union (binding_of own) (binding_of other))
  merged_are_the_union = united_are_the_union merged_is_valid bound_means own other new o t can united

  -- ---- what was there

  apart : IsApart added r own.world.0
  apart = unions_are_apart r s own.world.0 other.world.0 p.matches w v added keys planned o.valid t.valid bound.1 other-bound.1 by-name paths.1 paths.2

  pub merged_extend : Extends r new.resolve own.world.0
  merged_extend = grown_extend added other.metadata own new o.in_range apart g

  pub merged_order : listed_names new.resolve ≡ merged_names (listed_names r) (listed_names s)
  merged_order = names_are_merged r s new.resolve own.world.0 other.world.0 p.matches w v added keys planned o.valid t.valid g.all_added by-name

  -- ---- exports

  number : new.world.0 ≡ own.world.0
  number = ap (λ (k : WorldId). k.0) g.world

  -- the keys that are answered are those of the new ones
  pub merged_exports : map key_view (export_keys new.resolve new.world.0) ≡ map key_view (export_keys r own.world.0 ++ keys)
  merged_exports =
      let x = merged_extend.bound_world w bound.1 in
      ap (λ k. map key_view (export_keys new.resolve k)) number ∙ (ap (λ y. map key_view (option_map_or (λ (z : World). keys_of z.exports.entries) y [])) x.1
      ∙ (exports_come_behind r s new.resolve own.world.0 other.world.0 p.matches w v added keys planned o.valid t.valid g.all_added bound.1 other-bound.1 paths.0 paths.1 paths.2
      agree.bound.exports x.0 x.1 ∙ sym (ap (λ y. map key_view (option_map_or (λ (z : World). keys_of z.exports.entries) y [] ++ keys)) bound.1)))

  pub merged_answer : map (key_text new.resolve) keys ≡ map (key_text s) (export_keys s other.world.0)
  merged_answer = keys_keep_texts r s new.resolve own.world.0 other.world.0 p.matches w v added keys planned o.valid t.valid g.all_added bound.1 other-bound.1 paths.0 p.matched.packages paths.1
      paths.2 ∙ sym (ap (λ y. map (key_text s) (option_map_or (λ (x : World). keys_of x.exports.entries) y [])) other-bound.1)

  -- ---- what is said of what is new

  passes : (q : IsFirstPass r s new.resolve p.matches planned.carried planned.types)
      × IsSecondPass r s new.resolve own.world.0 other.world.0 w v p.matches planned.carried planned.types q planned.second.copied planned.second.interfaces planned.second.types
  passes = unions_have_the_second r s new.resolve own.world.0 other.world.0 p.matches w v added keys planned g.all_added bound.1 other-bound.1 agree.bound paths.0 p.matched.packages paths.1 paths.2

  -- own interfaces keep their paths
  own-paths : (n : ℕ) (t : Text) → interface_path r n ≡ Some t → interface_path new.resolve n ≡ Some t
  own-paths n t e = grind (arith, has-path, merged_extend, front_at)

  abbrev Gained : World → World → World → Type 0
  Gained a b x = BringsEntries (key_texts r a.imports.entries) s b.imports.entries new.resolve x.imports.entries
      × BringsEntries (key_texts r a.exports.entries) s b.exports.entries new.resolve x.exports.entries

  abbrev first-fates : TypeFates
  first-fates = first_fates r s p.matches.interfaces.items planned.carried

  abbrev second-fates : TypeFates
  second-fates = bound_fates s own.world.0 other.world.0 w v planned.second.copied planned.second.interfaces first-fates planned.types

  -- each new type is one of the other's
  type_from : (n : ℕ) (y : TypeDef) → length r.types.items ≤ n → type_at new.resolve n ≡ Some y
      → (x : IsTypeOf s new.resolve n y) × ((is_copied first-fates x.source ≡ true) ⊎ (is_copied second-fates x.source ≡ true))
  type_from = type_brought r s new.resolve o.valid t.valid own.world.0 other.world.0 w v p.matches planned.carried planned.types passes.0 planned.second.copied planned.second.interfaces
      planned.second.types passes.1 merged_are_the_union.0.valid

  -- what is copied comes, or is gained
  copied_comes : (k : ℕ) → is_copied first-fates k ≡ true → TypeComes r s k
  copied_comes k h = type-comes own other o t can p.matches p.matched planned.carried planned.numbered k (copied_mark first-fates k h)

  copied_gained : (k : ℕ) → is_copied second-fates k ≡ true → TypeIsGained own other k
  copied_gained k h =
      let copied = planned.second.copied_are in
      let numbers = planned.second.interfaces_are ∙ ap (bound_interfaces r (length planned.before.interfaces.items) planned.carried) copied in
      let same : slice_get (map copies later) k ≡ slice_get (map copies second-fates) k =
      λ i. slice_get (map copies (bound_fates s own.world.0 other.world.0 w v (sym copied i) (sym numbers i) first-fates planned.types)) k in
      type-gained own other o t can p.matches p.matched planned.carried planned.numbered w v bound.1 other-bound.1 (length planned.before.interfaces.items) planned.types numbers-long k
      (same ∙ copied_mark second-fates k h)
    where
      later : TypeFates
      later = gained_fates r s own.world.0 other.world.0 w v planned.carried first-fates planned.types (length planned.before.interfaces.items)

      numbers-long : length planned.types ≡ length s.types.items
      numbers-long = numbers_count (length r.types.items) planned.types s.types.items first-fates [] planned.defs planned.types_copied ∙ fates_long r s p.matches planned.carried

  type_comes : (n : ℕ) (y : TypeDef) → length r.types.items ≤ n → type_at new.resolve n ≡ Some y
      → (x : IsTypeOf s new.resolve n y) × (TypeComes r s x.source ⊎ TypeIsGained own other x.source)
  type_comes n y high at =
      let x = type_from n y high at in (x.0, elim x.1 [ inl h ↦ inl (copied_comes x.0.source h) | inr h ↦ inr (copied_gained x.0.source h) ])

  pub merged_brings : BringsItsOwn own other new
  merged_brings = record {
    packages = λ q held fresh.
        let k = contains-get s.packages.items q held in
        package_brought r s new.resolve o.valid t.valid own.world.0 other.world.0 w v p.matches planned.carried planned.types passes.0 planned.second.copied planned.second.interfaces
        planned.second.types passes.1 merged_are_the_union.0.valid k.0 q k.1
        (new_package_copied r s o.valid t.valid p.matches p.matched paths.0 planned.carried planned.numbered paths.1 k.0 q k.1 fresh);
    interfaces = λ i path held is fresh.
        let k = contains-get s.interfaces.items i held in
        interface_brought r s new.resolve o.valid t.valid own.world.0 other.world.0 w v p.matches planned.carried planned.types passes.0 planned.second.copied planned.second.interfaces
        planned.second.types passes.1 merged_are_the_union.0.valid k.0 i path k.1
        (new_interface_copied r s o.valid t.valid p.matches p.matched paths.0 planned.carried planned.numbered paths.1 k.0 i path k.1 is fresh) is;
    worlds = λ x path held is fresh.
        let k = contains-get s.worlds.items x held in
        world_brought r s new.resolve o.valid t.valid own.world.0 other.world.0 w v p.matches planned.carried planned.types passes.0 planned.second.copied planned.second.interfaces
        planned.second.types passes.1 merged_are_the_union.0.valid k.0 x path k.1
        (new_world_copied r s o.valid t.valid p.matches p.matched paths.0 planned.carried planned.numbered paths.1 k.0 x path k.1 is fresh) is
        (by_path_apart r s o.valid t.valid own.world.0 other.world.0 p.matches w v added keys planned other-bound.1 paths.0 paths.1 paths.2 k.0 x k.1);
    bound = λ a b x at_a at_b at_x.
        let ours : w ≡ a = same-some w a (sym bound.1 ∙ at_a) in
        let theirs : v ≡ b = same-some v b (sym other-bound.1 ∙ at_b) in
        subst (λ (y : World). Gained y b x) ours (subst (λ (y : World). Gained w y x) theirs
        (bound_brought r s new.resolve o.valid t.valid own.world.0 other.world.0 w v p.matches planned.carried planned.types passes.0 planned.second.copied planned.second.interfaces
        planned.second.types passes.1 merged_are_the_union.0.valid own-paths x (sym (ap (world_at new.resolve) number) ∙ at_x)));
    types = type_comes;
  }

  -- ---- the order of what is new

  pub merged_in_order : KeepsOthersOrder own other new
  merged_in_order = record {
    worlds = worlds_in_order r s new.resolve o.valid t.valid own.world.0 other.world.0 w v p.matches planned.carried planned.types passes.0 planned.second.copied planned.second.interfaces
        planned.second.types passes.1 merged_are_the_union.0.valid (WorldComes r s) (copied-world own other o t can p.matches p.matched planned.carried planned.numbered)
        (by_path_apart r s o.valid t.valid own.world.0 other.world.0 p.matches w v added keys planned other-bound.1 paths.0 paths.1 paths.2);
    interfaces = interfaces_in_turn r s new.resolve o.valid t.valid own.world.0 other.world.0 w v p.matches planned.carried planned.types passes.0 planned.second.copied
        planned.second.interfaces planned.second.types passes.1 merged_are_the_union.0.valid (InterfaceComes r s) (InlineIsGained own other)
        (copied-interface own other o t can p.matches p.matched planned.carried planned.numbered)
        (λ n h. inline-gained own other o t can p.matches p.matched planned.carried planned.numbered w v bound.1 other-bound.1 n (ap (λ l. flag_under l n) (sym planned.second.copied_are) ∙ h));
    types = types_in_turn r s new.resolve o.valid t.valid own.world.0 other.world.0 w v p.matches planned.carried planned.types passes.0 planned.second.copied planned.second.interfaces
        planned.second.types passes.1 merged_are_the_union.0.valid (TypeComes r s) (TypeIsGained own other) copied_comes copied_gained;
  }

  -- where neither side has documentation or a known stability, there is none
  pub merged_bare : IsBare r → IsBare s → IsBare new.resolve
  merged_bare = merged_is_bare r s new.resolve o.valid t.valid own.world.0 other.world.0 p.matches w v added keys planned g.all_added bound.1 other-bound.1 paths.0 paths.1 paths.2 merged_extend
      (λ n y high at. let is = (type_from n y high at).0 in (is.source, is.def, is.found, same-some (type_notes y) (type_notes is.def) (ap of_itself is.notes)))
