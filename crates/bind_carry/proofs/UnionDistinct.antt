-- No map of what was merged has a key twice: what is inserted keeps keys apart, and copies have the names of what they are of.
use Rattle.base_lemmas.proofs.{Bools.left_of as first_true, Elements.zip_at_right as zip_at, Lists.within_there}
use Rattle.bind_add.specs.{Growth.HasGained, Growth.HasGainedItems, Growth.IsAdded, declared.added.Added.Added, declared.added.Names.Names}
use Rattle.bind_carry.proofs.{CopiesPlaced.some_same, FirstOfUnion.some_gains, KeysGained.by_path_apart, KeysGained.chosen, KeysGained.exports_behind, KeysGained.imports_behind, NamesGained.IsGrownOf, NamesGained.IsHome, NamesGained.copied_interface, NamesGained.copied_world}
use Rattle.bind_carry.proofs.NamesGained.{copies_behind, distinct_along, distinct_by_names, grown_of, home_of, is_fresh, world_of}
use Rattle.bind_carry.specs.{AddedApart.AreMatchedByName, AddedApart.UnionsAreApart, AddedDistinct.UnionsHaveDistinctKeys, Marked.AreChosen, MatchedSame.AreMatchedAt, MatchedSame.NoneOfPath, Packaged.IsGained, Packaged.IsInterfaceName, Packaged.IsPackageCarried, Packaged.IsWorldName, Packaged.grown_packages, Packaged.is_copied_interface, Packaged.is_copied_world, Union.IsUnionOf, Which.AreMatchedAll, Which.IsNumbered, Whole.IsInterfaceCarried, Whole.IsWorldCarried, Whole.home_under, Whole.kept}
use Rattle.bind_carry.specs.declared.plan.Carried.{Carried}
use Rattle.bind_copy.proofs.{CopiesLemmas.names_alone_under, Gained.same_images}
use Rattle.bind_copy.specs.Copies.{AreNewCopied, IsEntryUnder, IsFunctionEntry, IsInterfaceUnder, IsKeyUnder, become_one, names_in, type_names}
use Rattle.bind_match.specs.{Matching.is_root_world, declared.matches.Matches.Matches}
use Rattle.indexmap.specs.IndexMap.{IsUnique, insert_all, insert_entry}
use Rattle.std.proofs.Common.{Bool, List, Option, Some, [], ap, arith, false, inl, inr, map, not, refl, rules as std_rules, slice_get, slice_set, string_eq, subst, suc, sym, true, zero, ℕ, ◌++◌, ◌∙◌, ◌∷◌, ◌≡◌, ◌⊎◌}
use Rattle.std.proofs.lemmas.{List.length-map, Map.Made.IsDistinct-keys_filter, Option.slice_get_within}
use Rattle.std.specs.{List.AllByRecursion, List.AllZip, List.IsDistinct, List.filter, Map.keys_of, Prelude.String, declared.alloc.Global.Global}
use Rattle.wit_model.proofs.Distinct.{text_eq_flip}
use Rattle.wit_model.specs.{Lookup.interface_at, Lookup.package_at, Lookup.world_at, Text.Text, Text.text_of, Valid.IsValid, Valid.key_eq}
use Rattle.wit_model.specs.declared.model.{Interface.Interface, Package.Package, PackageId.PackageId, Resolve.Resolve, TypeId.TypeId, World.World, WorldItem.WorldItem, WorldKey.WorldKey}

-- ---- What a union adds stands under keys that weren't there.

-- the tables are as long as what they are of
pub matched_all : (own other : Resolve) (m : Matches) → AreMatchedByName own other m → AreMatchedAll other m
matched_all own other m by_name = search (std_rules, length-map)

module _ (own other : Resolve) (valid_other : IsValid other) (m : Matches) (c : Carried) (by_name : AreMatchedByName own other m) (numbered : IsNumbered own other m c)
    (are : AreChosen other m.interfaces.items c.copied_worlds.items c.copied_interfaces.items)
    (gs : List Names) (zip : AllZip (IsGained c) (grown_packages c.new_packages.items c.packages.items other.packages.items) gs) (i : ℕ) (n : Names) (p : Package) (at : slice_get gs i ≡ Some n)
    (there : package_at own n.«package».0 ≡ Some p) where
  abbrev grown : List (ℕ × Package)
  grown = grown_packages c.new_packages.items c.packages.items other.packages.items

  gain : (e : ℕ × Package) × (slice_get grown i ≡ Some e) × IsGained c e n
  gain = zip_at (IsGained c) grown gs zip i n at

  abbrev old : Package
  old = gain.0.1

  x : IsGrownOf c.new_packages.items c.packages.items other.packages.items i gain.0
  x = grown_of c.new_packages.items c.packages.items other.packages.items i gain.0 gain.1

  unique : IsUnique string_eq old.interfaces × IsUnique string_eq old.worlds
  unique = valid_other.distinct_keys.packages x.place old x.at_place

  home : IsHome own other valid_other m c by_name numbered are x.place n.«package».0
  home = home_of own other valid_other m c by_name numbered are x.place n.«package».0 old x.at_place x.bare (x.number ∙ sym gain.2.number)

  pub interfaces_behind : insert_all string_eq p.interfaces.entries n.interfaces.entries ≡ p.interfaces.entries ++ n.interfaces.entries
  interfaces_behind = copies_behind (IsInterfaceName c.interfaces.items) (λ a b r. r.0) (is_copied_interface c.copied_interfaces.items) p.interfaces.entries old.interfaces.entries n.interfaces.entries
      (gain.2.interfaces unique.0) unique.0 (λ e held set. sym (copied_interface own other valid_other m c by_name numbered are x.place n.«package».0 old p x.at_place home there e held) ∙ set)

  pub worlds_behind : insert_all string_eq p.worlds.entries n.worlds.entries ≡ p.worlds.entries ++ n.worlds.entries
  worlds_behind = copies_behind (IsWorldName c.worlds.items) (λ a b r. r.0) (is_copied_world c.copied_worlds.items) p.worlds.entries old.worlds.entries n.worlds.entries (gain.2.worlds unique.1)
      unique.1 (λ e held set. first_true (is_fresh p.worlds.entries e) (not (is_root_world other (world_of other valid_other x.place old x.at_place e held).world))
      (sym (copied_world own other valid_other m c by_name numbered are x.place n.«package».0 old p x.at_place home there e held) ∙ set))

pub unions_are_apart : UnionsAreApart
unions_are_apart own other world other_world m w v added keys u valid_own valid_other at_own at_other by_name same none =
    let all = matched_all own other m by_name in
    let are = chosen own other valid_own valid_other world other_world m w v added keys u at_other all same none in
    let gains = subst (AllZip (IsGained u.carried) (grown_packages u.carried.new_packages.items u.carried.packages.items other.packages.items)) (sym u.second.names) u.first.names in
    record {
      interfaces = λ i n p at there. interfaces_behind own other valid_other m u.carried by_name u.numbered are added.names.items gains i n p at there;
      worlds = λ i n p at there. worlds_behind own other valid_other m u.carried by_name u.numbered are added.names.items gains i n p at there;
      imports = λ x at. subst (λ (y : World). insert_all key_eq y.imports.entries added.imports.entries ≡ y.imports.entries ++ added.imports.entries) (some_same w x (sym at_own ∙ at))
          (imports_behind own other valid_own valid_other world other_world m w v added keys u at_other all same none);
      exports = λ x at. subst (λ (y : World). insert_all key_eq y.exports.entries added.exports.entries ≡ y.exports.entries ++ added.exports.entries) (some_same w x (sym at_own ∙ at))
          (exports_behind own other valid_own valid_other world other_world m w v added keys u at_other all same none);
    }

-- ---- In what is merged no key stands twice.

-- ---- keys the other way round

pub key_flip : (a b : WorldKey) → key_eq a b ≡ key_eq b a
key_flip x y = search std_rules

string_flip : (a b : String Global) → string_eq a b ≡ string_eq b a
string_flip a b = text_eq_flip (text_of a) (text_of b)

-- ---- what is inserted keeps keys apart

module _ {K X : Type 0} (eq : K → K → Bool) (flip : (a b : K) → eq a b ≡ eq b a) where
  still_apart : (k : K) (es : List (K × X)) (l : K) (x : X) → eq k l ≡ false → AllByRecursion (λ y. eq k y ≡ false) (keys_of es)
      → AllByRecursion (λ y. eq k y ≡ false) (keys_of (insert_entry eq es l x))
  still_apart k [] l x one h = (one, tt)
  still_apart k (e ∷ es) l x one h = search (std_rules, still_apart k es l x one h.1)

  insert_apart : (es : List (K × X)) (l : K) (x : X) → IsDistinct eq (keys_of es) → IsDistinct eq (keys_of (insert_entry eq es l x))
  unfolding IsDistinct
  insert_apart [] l x h = (tt, tt)
  insert_apart (e ∷ es) l x h = search (std_rules, still_apart, insert_apart es l x h.1)

  pub all_apart : (es xs : List (K × X)) → IsDistinct eq (keys_of es) → IsDistinct eq (keys_of (insert_all eq es xs))
  all_apart es [] h = h
  all_apart es (x ∷ xs) h = all_apart (insert_entry eq es x.0 x.1) xs (insert_apart es x.0 x.1 h)

-- ---- copies have the names of what they are of

names_alone : (es : List (String Global × TypeId)) → map (λ (x : Text × ℕ). x.0) (type_names es) ≡ names_in es
names_alone [] = refl
names_alone (e ∷ es) = ap (λ l. text_of e.0 ∷ l) (names_alone es)

interface_distinct : (numbers : List ℕ) (home : Option PackageId) (old new : Interface) → IsInterfaceUnder numbers home old new → IsUnique string_eq old.types × IsUnique string_eq old.functions
    → IsUnique string_eq new.types × IsUnique string_eq new.functions
interface_distinct numbers home old new is unique = (
  distinct_by_names old.types.entries new.types.entries (sym (names_alone new.types.entries)
      ∙ (ap (map (λ (x : Text × ℕ). x.0)) (is.types unique.0) ∙ names_alone_under numbers old.types.entries)) unique.0,
  distinct_along (IsFunctionEntry numbers) (λ a b r. r.0) old.functions.entries new.functions.entries (is.functions unique.1) unique.1,
)

module _ (interfaces types : List ℕ) where
  image_apart : (k u : WorldKey) → IsKeyUnder interfaces k u → (olds news : List (WorldKey × WorldItem)) → AllZip (IsEntryUnder interfaces types) olds news
      → AllByRecursion (λ y. become_one interfaces k y ≡ false) (keys_of olds) → AllByRecursion (λ y. key_eq u y ≡ false) (keys_of news)
  image_apart k u is [] [] zip h = tt
  image_apart k u is (o ∷ os) (n ∷ ns) zip h = (key_flip u n.0 ∙ (same_images interfaces k o.0 u n.0 is zip.0.0 ∙ h.0), image_apart k u is os ns zip.1 h.1)
  image_apart k u is _ _ zip h = absurd zip

  -- keys of copies differ where no two keys become one
  pub images_distinct : (olds news : List (WorldKey × WorldItem)) → AllZip (IsEntryUnder interfaces types) olds news → IsDistinct (become_one interfaces) (keys_of olds)
      → IsDistinct key_eq (keys_of news)
  unfolding IsDistinct
  images_distinct [] [] zip h = tt
  images_distinct (o ∷ os) (n ∷ ns) zip h = (image_apart o.0 n.0 zip.0.0 os ns zip.1 h.0, images_distinct os ns zip.1 h.1)
  images_distinct _ _ zip h = absurd zip

  pub copied_distinct : (here olds news : List (WorldKey × WorldItem)) → AreNewCopied interfaces types here olds news → IsDistinct (become_one interfaces) (keys_of olds)
      → IsDistinct key_eq (keys_of news)
  copied_distinct here olds news are h = search (std_rules, images_distinct, IsDistinct-keys_filter)

-- ---- places in lists

either_part : {X : Type 0} (xs ys : List X) (n : ℕ) (x : X) → slice_get (xs ++ ys) n ≡ Some x → (slice_get xs n ≡ Some x) ⊎ ((k : ℕ) × (slice_get ys k ≡ Some x))
either_part [] ys n x e = inr (n, e)
either_part (z ∷ xs) ys zero x e = inl e
either_part (z ∷ xs) ys (suc n) x e = either_part xs ys n x e

kept_at : {X : Type 0} (flags : List Bool) (xs : List X) (k : ℕ) (x : X) → slice_get (kept flags xs) k ≡ Some x → (j : ℕ) × (slice_get xs j ≡ Some x)
kept_at (true ∷ bs) (y ∷ ys) zero x e = (zero, e)
kept_at (true ∷ bs) (y ∷ ys) (suc k) x e = let r = kept_at bs ys k x e in (suc r.0, r.1)
kept_at (false ∷ bs) (y ∷ ys) k x e = let r = kept_at bs ys k x e in (suc r.0, r.1)
kept_at _ _ k x e = let wrong : ⊥ = cc in absurd wrong

-- what a copy is of
copy_of : {X Y : Type 0} (R : X → Y → Type 0) (flags : List Bool) (xs : List X) (ys : List Y) → AllZip R (kept flags xs) ys → (k : ℕ) (y : Y) → slice_get ys k ≡ Some y → (j : ℕ) × (x : X)
    × (slice_get xs j ≡ Some x) × R x y
copy_of R flags xs ys zip k y at = search (std_rules, zip_at, kept_at)

set_cases : {X : Type 0} (ws : List X) (k n : ℕ) (v x : X) → slice_get (slice_set ws k v) n ≡ Some x → (v ≡ x) ⊎ (slice_get ws n ≡ Some x)
set_cases (z ∷ ws) zero zero v x e = inl (some_same v x e)
set_cases (z ∷ ws) (suc k) (suc n) v x e = set_cases ws k n v x e
set_cases _ _ _ v x e = inr e

-- ---- the whole

module _ (own other merged : Resolve) (world other_world : ℕ) (m : Matches) (w v : World) (added : Added) (keys : List WorldKey) (u : IsUnionOf own other world other_world m w v added keys)
    (valid_own : IsValid own) (valid_other : IsValid other) (a : IsAdded key_eq world added own merged) (at_own : world_at own world ≡ Some w) (at_other : world_at other other_world ≡ Some v)
    (all : AreMatchedAll other m) (same : AreMatchedAt own other m.interfaces.items u.carried.packages.items) (none : NoneOfPath own other m.interfaces.items) where
  abbrev c : Carried
  c = u.carried

  -- ---- packages

  abbrev IsDistinctPackage : Package → Type 0
  IsDistinctPackage p = IsUnique string_eq p.interfaces × IsUnique string_eq p.worlds

  grown_distinct : (g : Names) (p q : Package) → HasGained g p q → IsDistinctPackage p → IsDistinctPackage q
  grown_distinct g p q h d = search (std_rules, all_apart, string_flip)

  own_package : (n : ℕ) (p : Package) → slice_get a.packages.0 n ≡ Some p → IsDistinctPackage p
  own_package n p at =
      let there = within_there own.packages.items n (let less = slice_get_within a.packages.0 n p at in let count = a.packages.1.count in omega (arith, less, count)) in
      elim (some_gains added.names.items n) [
        | inl x ↦ let q = a.packages.1.gained x.0 x.1 there.0 x.2 (ap (slice_get own.packages.items) x.3 ∙ there.1) in
            subst IsDistinctPackage (some_same q.0 p (sym q.1 ∙ (ap (slice_get a.packages.0) x.3 ∙ at))) (grown_distinct x.1 there.0 q.0 q.2 (valid_own.distinct_keys.packages n there.0 there.1))
        | inr free ↦ valid_own.distinct_keys.packages n p (sym (a.packages.1.others n free) ∙ at)
      ]

  new_package : (k : ℕ) (p : Package) → slice_get added.packages.items k ≡ Some p → IsDistinctPackage p
  new_package k p at =
      let x = copy_of (IsPackageCarried c) c.new_packages.items other.packages.items u.before.packages.items u.first.packages k p (sym (ap (λ l. slice_get l k) u.second.packages) ∙ at) in
      let unique = valid_other.distinct_keys.packages x.0 x.1 x.2 in (
        distinct_along (IsInterfaceName c.interfaces.items) (λ e n r. r.0) (filter (is_copied_interface c.copied_interfaces.items) x.1.interfaces.entries) p.interfaces.entries
            (x.3.interfaces unique.0) (IsDistinct-keys_filter string_eq (is_copied_interface c.copied_interfaces.items) x.1.interfaces.entries unique.0),
        distinct_along (IsWorldName c.worlds.items) (λ e n r. r.0) (filter (is_copied_world c.copied_worlds.items) x.1.worlds.entries) p.worlds.entries (x.3.worlds unique.1)
            (IsDistinct-keys_filter string_eq (is_copied_world c.copied_worlds.items) x.1.worlds.entries unique.1),
      )

  -- ---- interfaces

  abbrev IsDistinctInterface : Interface → Type 0
  IsDistinctInterface i = IsUnique string_eq i.types × IsUnique string_eq i.functions

  new_interface : (k : ℕ) (i : Interface) → slice_get added.interfaces.items k ≡ Some i → IsDistinctInterface i
  new_interface k i at = elim (either_part u.before.interfaces.items u.second.inline_copied.more k i (sym (ap (λ l. slice_get l k) u.second.inline_copied.behind) ∙ at)) [
    | inl here ↦ (let x = copy_of (IsInterfaceCarried c u.types) c.copied_interfaces.items other.interfaces.items u.before.interfaces.items u.first.interfaces k i here in
        interface_distinct u.types (home_under c.packages.items x.1.«package») x.1 i x.3 (valid_other.distinct_keys.interfaces x.0 x.1 x.2))
    | inr later ↦ (let x = copy_of (IsInterfaceUnder u.second.types w.«package») u.second.copied other.interfaces.items u.second.inline_copied.more u.second.inline_copied.copies later.0 i later.1 in
        interface_distinct u.second.types w.«package» x.1 i x.3 (valid_other.distinct_keys.interfaces x.0 x.1 x.2))
  ]

  -- ---- worlds

  abbrev IsDistinctWorld : World → Type 0
  IsDistinctWorld x = IsUnique key_eq x.imports × IsUnique key_eq x.exports

  own_world : (n : ℕ) (x : World) → slice_get (slice_set own.worlds.items world (a.worlds w at_own).0) n ≡ Some x → IsDistinctWorld x
  own_world n x at = elim (set_cases own.worlds.items world n (a.worlds w at_own).0 x at) [ inl is ↦ subst IsDistinctWorld is gained | inr there ↦ valid_own.distinct_keys.worlds n x there ]
    where
      h : HasGainedItems key_eq added.imports.entries added.exports.entries w (a.worlds w at_own).0
      h = (a.worlds w at_own).1

      gained : IsDistinctWorld (a.worlds w at_own).0
      gained = (
        subst (λ es. IsDistinct key_eq (keys_of es)) (sym h.imports) (all_apart key_eq key_flip w.imports.entries added.imports.entries (valid_own.distinct_keys.worlds world w at_own).0),
        subst (λ es. IsDistinct key_eq (keys_of es)) (sym h.exports) (all_apart key_eq key_flip w.exports.entries added.exports.entries (valid_own.distinct_keys.worlds world w at_own).1),
      )

  new_world : (k : ℕ) (x : World) → slice_get added.worlds.items k ≡ Some x → IsDistinctWorld x
  new_world k x at =
      let y = copy_of (IsWorldCarried c u.types) c.copied_worlds.items other.worlds.items u.before.worlds.items u.first.worlds k x (sym (ap (λ l. slice_get l k) u.second.worlds) ∙ at) in
      let apart = by_path_apart own other valid_own valid_other world other_world m w v added keys u at_other all same none y.0 y.1 y.2 in (
        copied_distinct c.interfaces.items u.types [] y.1.imports.entries x.imports.entries y.3.imports apart.0,
        copied_distinct c.interfaces.items u.types [] y.1.exports.entries x.exports.entries y.3.exports apart.1,
      )

  packages_distinct : (n : ℕ) (p : Package) → package_at merged n ≡ Some p → IsDistinctPackage p
  packages_distinct n p at = elim (either_part a.packages.0 added.packages.items n p (sym (ap (λ l. slice_get l n) a.packages.2) ∙ at)) [
    | inl here ↦ own_package n p here
    | inr later ↦ new_package later.0 p later.1
  ]

  interfaces_distinct : (n : ℕ) (i : Interface) → interface_at merged n ≡ Some i → IsDistinctInterface i
  interfaces_distinct n i at = elim (either_part own.interfaces.items added.interfaces.items n i (sym (ap (λ l. slice_get l n) a.interfaces) ∙ at)) [
    | inl here ↦ valid_own.distinct_keys.interfaces n i here
    | inr later ↦ new_interface later.0 i later.1
  ]

  worlds_distinct : (n : ℕ) (x : World) → world_at merged n ≡ Some x → IsDistinctWorld x
  worlds_distinct n x at = elim (either_part (slice_set own.worlds.items world (a.worlds w at_own).0) added.worlds.items n x (sym (ap (λ l. slice_get l n) (a.worlds w at_own).2) ∙ at)) [
    | inl here ↦ own_world n x here
    | inr later ↦ new_world later.0 x later.1
  ]

pub unions_have_distinct_keys : UnionsHaveDistinctKeys
unions_have_distinct_keys own other merged world other_world m w v added keys u valid_own valid_other a at_own at_other all same none = record {
  packages = packages_distinct own other merged world other_world m w v added keys u valid_own valid_other a at_own at_other all same none;
  interfaces = interfaces_distinct own other merged world other_world m w v added keys u valid_own valid_other a at_own at_other all same none;
  worlds = worlds_distinct own other merged world other_world m w v added keys u valid_own valid_other a at_own at_other all same none;
}
