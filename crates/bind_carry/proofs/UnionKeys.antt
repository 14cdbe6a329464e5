-- All exports of the other's bound world are added, under the keys that are answered.
use Rattle.base_lemmas.proofs.{Elements.contains-later, Elements.get-contains, Lists.within_there, Numbers.equal}
use Rattle.bind_add.specs.declared.added.Added.{Added}
use Rattle.bind_carry.proofs.{CopiesPlaced.some_same, FirstNumbers.own_path as by_path, FirstOfUnion.set_at, FirstOfUnion.unions_have_the_first, FirstWorlds.first_is_carried, InsertedBehind.filter_whole, KeysGained.by_path_apart, KeysGained.chosen, KeysGained.export_named, KeysGained.exports_apart, KeysGained.exports_behind, KeysGained.named_carried, KeysGained.named_number, Ranges.is_in_range}
use Rattle.bind_carry.proofs.WorldEntries.{IsNumberedSame, IsPlacedIn, any_place, export_keyed}
use Rattle.bind_carry.specs.{AddedKeys.ExportsAreAdded, AddedKeys.ExportsComeBehind, AddedKeys.KeysKeepTexts, AddedKeys.key_view, First.first_fates, First.flag_under, Listed.IsHomeBelow, MatchedSame.AreMatchedAt, MatchedSame.NoneOfPath, Renumbered.first_of, Renumbered.is_matched, Union.IsUnionOf, Which.AreMatchedAll, declared.plan.Carried.Carried}
use Rattle.bind_copy.specs.Copies.{IsEntryUnder, IsKeyUnder, is_key_under, is_new_under, number_under}
use Rattle.bind_match.specs.declared.matches.Matches.{Matches}
use Rattle.bind_union.proofs.{Carrying.path_by, Carrying.path_parts, Carrying.same_identity, Lists.no_true}
use Rattle.bind_union.specs.Carried.{IsCarried, IsInterface, Renumbering}
use Rattle.std.proofs.Common.{Bool, List, None, Option, Some, [], ap, ap₂, arith, is_some, length, map, option_and_then, option_map, refl, rules as std_rules, slice_get, subst, sym, true, unwrap_or, ℕ, ◌++◌, ◌+◌, ◌||◌, ◌∙◌, ◌∷◌, ◌≡◌}
use Rattle.std.proofs.lemmas.{Bool.not-false as not_not, Bool.true_from_ne_false, List.map-append}
use Rattle.std.specs.{List.AllZip, List.Contains, List.list_any, Map.keys_of, Prelude.String, declared.alloc.Global.Global}
use Rattle.wit_model.proofs.TextLemmas.{text_same}
use Rattle.wit_model.specs.Lookup.{identity_of, interface_at, interface_path, key_text, package_at, path_of_interface, world_at}
use Rattle.wit_model.specs.{Names.path_in, Rules.package_number, Text.Text, Text.optional_text, Text.text_of, Valid.IsValid}
use Rattle.wit_model.specs.declared.model.{Interface.Interface, InterfaceId.InterfaceId, Package.Package, PackageId.PackageId, Resolve.Resolve, TypeDef.TypeDef, World.World, WorldItem.WorldItem, WorldKey.WorldKey}
use Rattle.wit_model.specs.declared.model.WorldKey.TheVariants as key

-- ---- copies of one key

module _ (a b : List ℕ) where
  one_view : (k x y : WorldKey) → IsKeyUnder a k x → IsKeyUnder b k y → IsNumberedSame a b k → key_view x ≡ key_view y
  one_view x y z r s same = search std_rules

  views_same : (types : List ℕ) (es news : List (WorldKey × WorldItem)) (keys : List WorldKey) → AllZip (IsEntryUnder a types) es news → AllZip (IsKeyUnder b) (keys_of es) keys
      → ((e : WorldKey × WorldItem) → Contains es e → IsNumberedSame a b e.0) → map key_view (keys_of news) ≡ map key_view keys
  views_same types [] [] [] z y same = refl
  views_same types [] (n ∷ ns) ks z y same = absurd z
  views_same types (e ∷ es) [] ks z y same = absurd z
  views_same types (e ∷ es) (n ∷ ns) (k ∷ ks) z y same = ap₂ (λ p q. p ∷ q) (one_view e.0 n.0 k z.0.0 y.0 (same e (0, omega arith, refl)))
      (views_same types es ns ks z.1 y.1 (λ x held. same x (contains-later e es x held)))
  views_same types _ _ _ z y same = absurd y

texts_same : (r s : Resolve) (numbers : List ℕ) (es : List (WorldKey × WorldItem)) (keys : List WorldKey) → AllZip (IsKeyUnder numbers) (keys_of es) keys
    → ((e : WorldKey × WorldItem) → Contains es e → (id : InterfaceId) → e.0 ≡ key.Interface id → interface_path s (number_under numbers id.0) ≡ interface_path r id.0)
    → map (key_text s) keys ≡ map (key_text r) (keys_of es)
texts_same r s numbers [] [] z paths = refl
texts_same r s numbers (e ∷ es) (k ∷ ks) z paths = ap₂ (λ p q. p ∷ q) (one e.0 k z.0 (paths e (0, omega arith, refl)))
    (texts_same r s numbers es ks z.1 (λ x held. paths x (contains-later e es x held)))
  where
    one : (a b : WorldKey) → IsKeyUnder numbers a b → ((id : InterfaceId) → a ≡ key.Interface id → interface_path s (number_under numbers id.0) ≡ interface_path r id.0) → key_text s b ≡ key_text r a
    one (key.Name a) (key.Name b) is path = is
    one (key.Interface a) (key.Interface b) is path = ap (λ (n : ℕ). unwrap_or (interface_path s n) []) is ∙ ap (λ o. unwrap_or o []) (path a refl)
    one _ _ is path = absurd is
texts_same r s numbers _ _ z paths = absurd z

-- ---- all exports are new

module _ (own other : Resolve) (valid_own : IsValid own) (valid_other : IsValid other) (world other_world : ℕ) (m : Matches) (w v : World) (added : Added) (keys : List WorldKey)
    (u : IsUnionOf own other world other_world m w v added keys) (at_own : world_at own world ≡ Some w) (at : world_at other other_world ≡ Some v) (all : AreMatchedAll other m)
    (same : AreMatchedAt own other m.interfaces.items u.carried.packages.items) (none : NoneOfPath own other m.interfaces.items) where
  abbrev c : Carried
  c = u.carried

  -- an own interface that has the number of one with a name has its path
  own_path : (n : ℕ) (i : Interface) → interface_at other n ≡ Some i → is_some i.name ≡ true → (j : ℕ) (d : Interface) → interface_at own j ≡ Some d → number_under c.interfaces.items n ≡ j
      → interface_path own j ≡ interface_path other n
  own_path n i there named = by_path own other valid_own valid_other m.interfaces.items c u.types (chosen own other valid_own valid_other world other_world m w v added keys u at all same none)
      same none (u.numbered.interface_count ∙ sym all.interfaces) u.numbered.interfaces (length own.types.items + length {A = TypeDef} []) u.types_copied.numbers_are n
      (named_carried own other valid_own valid_other world other_world m w v added keys u at all same none n i there named)

  same_number : (e : WorldKey × WorldItem) → Contains v.exports.entries e → IsNumberedSame u.second.interfaces c.interfaces.items e.0
  same_number e held id is =
      let i = export_named own other valid_own valid_other world other_world m w v added keys u at all same none e held id is in
      named_number own other valid_own valid_other world other_world m w v added keys u at all same none id.0 i.0 i.1 i.2

  -- a key that stands here has its text
  same_text : (e x : WorldKey × WorldItem) → Contains v.exports.entries e → Contains w.exports.entries x → (k l : WorldKey) → e.0 ≡ k → x.0 ≡ l → is_key_under u.second.interfaces k l ≡ true
      → key_text own l ≡ key_text other k
  same_text e x held here (key.Name a) (key.Name b) p q h = sym (text_same (text_of a) (text_of b) h)
  same_text e x held here (key.Interface a) (key.Interface b) p q h =
      let i = export_named own other valid_own valid_other world other_world m w v added keys u at all same none e held a p in
      let d = export_keyed own valid_own world w at_own x here b q in
      ap (λ o. unwrap_or o []) (own_path a.0 i.0 i.1 i.2 b.0 d.def d.found (sym (same_number e held a p) ∙ equal (number_under u.second.interfaces a.0) b.0 h))
  same_text e x held here _ _ p q h = no_true h

  abbrev is_new : WorldKey × WorldItem → Bool
  is_new e = is_new_under u.second.interfaces w.exports.entries e.0

  pub all_new : ((x e : WorldKey × WorldItem) → Contains w.exports.entries x → Contains v.exports.entries e → key_text own x.0 ≡ key_text other e.0 → ⊥) → (e : WorldKey × WorldItem)
      → Contains v.exports.entries e → is_new e ≡ true
  all_new apart e held = true_from_ne_false (is_new e) (λ q.
      let x : IsPlacedIn (λ (x : WorldKey × WorldItem). is_key_under u.second.interfaces e.0 x.0) w.exports.entries =
      any_place (λ (x : WorldKey × WorldItem). is_key_under u.second.interfaces e.0 x.0) w.exports.entries
      (not_not (list_any (λ (x : WorldKey × WorldItem). is_key_under u.second.interfaces e.0 x.0) w.exports.entries) q) in
      let here = get-contains w.exports.entries x.place x.thing x.there in
      apart x.thing e here held (same_text e x.thing held here e.0 x.thing.0 refl refl x.passes_it))

  key_copies : AllZip (IsKeyUnder c.interfaces.items) (keys_of v.exports.entries) keys
  key_copies = u.keys_are (by_path_apart own other valid_own valid_other world other_world m w v added keys u at all same none other_world v at).1

  pub views_added : ((x e : WorldKey × WorldItem) → Contains w.exports.entries x → Contains v.exports.entries e → key_text own x.0 ≡ key_text other e.0 → ⊥)
      → map key_view (keys_of added.exports.entries) ≡ map key_view keys
  views_added apart =
      let copies = subst (λ l. AllZip (IsEntryUnder u.second.interfaces u.second.types) l added.exports.entries) (filter_whole is_new v.exports.entries (all_new apart))
      (u.second.exports (exports_apart own other valid_own valid_other world other_world m w v added keys u at all same none)) in
      views_same u.second.interfaces c.interfaces.items u.second.types v.exports.entries added.exports.entries keys copies key_copies same_number

  pub texts_kept : (merged : Resolve) (f : Renumbering) → f.interfaces ≡ number_under c.interfaces.items
      → ((n : ℕ) → (flag_under c.copied_interfaces.items n || is_matched m.interfaces.items n) ≡ true → interface_path merged (f.interfaces n) ≡ interface_path other n)
      → map (key_text merged) keys ≡ map (key_text other) (keys_of v.exports.entries)
  texts_kept merged f by paths = texts_same other merged c.interfaces.items v.exports.entries keys key_copies
      (λ e held id is. let i = export_named own other valid_own valid_other world other_world m w v added keys u at all same none e held id is in
      ap (λ g. interface_path merged (g id.0)) (sym by) ∙ paths id.0 (named_carried own other valid_own valid_other world other_world m w v added keys u at all same none id.0 i.0 i.1 i.2))

pub exports_are_added : ExportsAreAdded
exports_are_added own other world other_world m w v added keys u valid_own valid_other at_own at all same none apart = search (std_rules, views_added)

-- ---- paths under new numbers

module _ (r s : Resolve) (f : Renumbering) (valid : IsValid r) (is : IsCarried r s f) where
  home_there : (o : Option PackageId) → IsHomeBelow (length r.packages.items) o → (p : ℕ) → package_number o ≡ Some p → (q : Package) × (package_at r p ≡ Some q)
  home_there None h p e = let wrong : ⊥ = cc in absurd wrong
  home_there (Some id) h p e = let x = within_there r.packages.items id.0 h in (x.0, ap (package_at r) (sym (some_same id.0 p e)) ∙ x.1)

  by_parts : (name : Option Text) (p : Option ℕ) → ((n : ℕ) → p ≡ Some n → (q : Package) × (package_at r n ≡ Some q)) → path_by s name (option_map f.packages p) ≡ path_by r name p
  by_parts (Some t) (Some n) h =
      let q = h n refl in
      let image = is.packages n q.0 q.1 in
      ap (option_map (λ package_. path_in (identity_of package_.name) t)) image.at_image
      ∙ (ap (λ d. Some (path_in d t)) (same_identity q.0.name image.image.name image.name) ∙ sym (ap (option_map (λ package_. path_in (identity_of package_.name) t)) q.1))
  by_parts _ _ h = refl

  pub carried_path : (n : ℕ) → f.carries_interface n ≡ true → interface_path s (f.interfaces n) ≡ interface_path r n
  carried_path n c = ap (option_and_then (path_of_interface s)) i.at_image
      ∙ (path_parts s i.image ∙ (ap (λ t. path_by s t (package_number i.image.«package»)) i.name
      ∙ (go i.old.name refl ∙ (sym (path_parts r i.old) ∙ sym (ap (option_and_then (path_of_interface r)) i.found)))))
    where
      i : IsInterface r s f n
      i = is.interfaces n c

      go : (o : Option (String Global)) → i.old.name ≡ o
          → path_by s (optional_text i.old.name) (package_number i.image.«package») ≡ path_by r (optional_text i.old.name) (package_number i.old.«package»)
      go None e = ap (λ x. path_by s (optional_text x) (package_number i.image.«package»)) e ∙ sym (ap (λ x. path_by r (optional_text x) (package_number i.old.«package»)) e)
      go (Some x) e = ap (path_by s (optional_text i.old.name)) (i.in_package (ap is_some e))
          ∙ by_parts (optional_text i.old.name) (package_number i.old.«package») (home_there i.old.«package» ((is_in_range r valid).interface_homes n i.old i.found))

pub keys_keep_texts : KeysKeepTexts
keys_keep_texts own other merged world other_world m w v added keys u valid_own valid_other a at_own at all by_name same none =
    let p = unions_have_the_first own other merged world other_world m w v added keys u a at_own all by_name same none in
    let f : Renumbering = first_of m.interfaces.items u.carried (first_fates own other m.interfaces.items u.carried) u.types in
    texts_kept own other valid_own valid_other world other_world m w v added keys u at_own at all same none merged f refl
    (carried_path other merged f valid_other (first_is_carried own other merged m u.carried u.types valid_own valid_other p))

-- ---- behind own exports

views_append : (es fs : List (WorldKey × WorldItem)) → map key_view (keys_of (es ++ fs)) ≡ map key_view (keys_of es) ++ map key_view (keys_of fs)
views_append [] fs = refl
views_append (e ∷ es) fs = ap (λ l. key_view e.0 ∷ l) (views_append es fs)

pub exports_come_behind : ExportsComeBehind
exports_come_behind own other merged world other_world m w v added keys u valid_own valid_other a at_own at all same none apart x at_x =
    let h = a.worlds w at_own in
    ap (λ (y : World). map key_view (keys_of y.exports.entries)) (sym (some_same h.0 x (sym (ap (λ l. slice_get l world) h.2 ∙ set_at own.worlds.items added.worlds.items world w h.0 at_own) ∙ at_x)))
    ∙ (ap (λ es. map key_view (keys_of es)) (h.1.exports ∙ exports_behind own other valid_own valid_other world other_world m w v added keys u at all same none)
    ∙ (views_append w.exports.entries added.exports.entries ∙ (ap (λ l. map key_view (keys_of w.exports.entries) ++ l)
    (views_added own other valid_own valid_other world other_world m w v added keys u at_own at all same none apart) ∙ sym (map-append key_view (keys_of w.exports.entries) keys))))
