-- Imports of one key and one sense stand for each other.
use Rattle.std.proofs.Common.{rules as std_rules, arith, ◌≡◌, ◌⊎◌, inl, inr, refl, sym, ap, ◌∙◌, ℕ, Bool, true, false, ◌&&◌, ◌==◌, nat_lt, Option, Some, None, option_map, option_and_then, is_some}
use Rattle.std.proofs.lemmas.Option.{same_Some as same-some}
use Rattle.std.specs.{Prelude.String, Prelude.count_by, List.list_all, List.Contains, Option.option_map_or, Map.lookup, HashMap.get_by}
use Rattle.std.specs.declared.alloc.Global.{Global}
use Rattle.wit_model.specs.declared.model.{Resolve.Resolve, World.World, WorldKey.WorldKey, WorldItem.WorldItem, TypeDef.TypeDef}
use Rattle.wit_model.specs.{Text.Text, Text.text_of, Text.optional_text, Types.trees_of, Types.declaration_of, Parts.kind_numbers, Parts.same_owner, Uses.alias_target, Uses.item_interface, Valid.IsValid, Valid.as_interface, Valid.as_world, Valid.order_of_types, Valid.world_items}
use Rattle.wit_model.specs.{Lookup.world_at, Lookup.type_at, Lookup.interface_path, Lookup.place_of, Lookup.key_text, Tree.TypeDeclaration, Tree.named}
use Rattle.wit_model.specs.Meaning.{Item, interface, inline, function, declares, Entry, InterfaceSense, item_sense}
use Rattle.wit_model.specs.Meant.{type_meaning, type_meaning_at, no_type, interface_item, interface_meaning_at, item_meaning}
use Rattle.wit_model.specs.Rules.{passes, is_id, text_is, is_name_key, item_type, key_in_range, item_in_range, world_type_numbers, is_listed, is_listed_in_world, import_stands, export_stands}
use Rattle.wit_model.proofs.{OnePath.path-once, OnePath.found-in, RulesLemmas.is_id_some as some_id, TextLemmas.text_same as text-same, PartsLemmas.owner_same as owner_equal, ValidLemmas.type_passes, ValidLemmas.world_passes as world-passes}
use Rattle.bind_union.specs.{Carried.Renumbering, Joined.ItemStandsFor}
use Rattle.bind_union.specs.Matching.{IsMatch, AreMatched, WorldsAgree, AreWorldNamesakes, MetImportsStand}
use Rattle.bind_union.proofs.{Lists.no_true, Itself.world_range}
use Rattle.bind_union.proofs.Namesakes.{resource_declares, declares_resource, name_in, IsTarget, same_by_path, target_owner, alias_alike}
use Rattle.base_lemmas.proofs.{Bools.left_of as first_true, Bools.right_of as second_true, Elements.all-contained, Elements.lookup_stands}
use Rattle.wit_model.specs.declared.model.WorldKey.TheVariants as key
use Rattle.wit_model.specs.declared.model.WorldItem.TheVariants as item
use Rattle.wit_model.specs.declared.model.TypeOwner.TheVariants as owner

-- ---- types of a world

module _ (r : Resolve) (v : IsValid r) (n : ℕ) (w : World) (at : world_at r n ≡ Some w) where
  pub record IsWorldType (k : WorldKey) (t : ℕ) : Type 0 where
    pub def : TypeDef
    pub found : type_at r t ≡ Some def
    pub label : String Global
    pub keyed : k ≡ key.Name label
    pub name : String Global
    pub named_ : def.name ≡ Some name
    pub same_name : text_of name ≡ text_of label
    pub home : def.owner ≡ as_world n

  named_so : (o : Option (String Global)) (t : Text) → text_is o t ≡ true → (s : String Global) × (o ≡ Some s) × (text_of s ≡ t)
  named_so None t h = no_true h
  named_so (Some s) t h = (s, refl, text-same (text_of s) t h)

  range_at : (k : WorldKey) (i : WorldItem) → Contains w.imports.entries (k, i) → item_in_range r i ≡ true
  range_at k i c = second_true (key_in_range r k) (item_in_range r i) (all-contained (λ (e : WorldKey × WorldItem). key_in_range r e.0 && item_in_range r e.1) w.imports.entries (k, i)
      (world_range r v.rules n w at).0 c)

  pub world_type : (k : WorldKey) (i : WorldItem) → Contains w.imports.entries (k, i) → (t : ℕ) → item_type i ≡ Some t → IsWorldType k t
  unfolding world_items
  world_type k i c t e = go k i e (all-contained (λ (e : WorldKey × WorldItem). import_stands r n e.0 e.1) w.imports.entries (k, i) (first_true _ _ rule) c) (range_at k i c)
    where
      rule : (list_all (λ (e : WorldKey × WorldItem). import_stands r n e.0 e.1) w.imports.entries && list_all (λ (e : WorldKey × WorldItem). export_stands r e.0 e.1) w.exports.entries) ≡ true
      rule = world-passes world_items r v.rules.world_items n w at

      go : (k : WorldKey) (i : WorldItem) → item_type i ≡ Some t → import_stands r n k i ≡ true → item_in_range r i ≡ true → IsWorldType k t
      go (key.Name label) (item.Type_ m) e h low =
          let same : m.0 ≡ t = same-some m.0 t e in
          let d = found-in r.types.items m.0 low in
          let ours : (text_is d.0.name (text_of label) && same_owner d.0.owner (as_world n)) ≡ true =
          sym (ap (passes (λ def. text_is def.name (text_of label) && same_owner def.owner (as_world n))) d.1) ∙ h in
          let s = named_so d.0.name (text_of label) (first_true _ _ ours) in
          record {
            def = d.0;
            found = ap (type_at r) (sym same) ∙ d.1;
            label = label;
            keyed = refl;
            name = s.0;
            named_ = s.1;
            same_name = s.2;
            home = owner_equal d.0.owner (as_world n) (second_true (text_is d.0.name (text_of label)) _ ours);
          }
      go (key.Interface id) (item.Type_ m) e h low = no_true h
      go _ _ e h low = absurd cc

  -- a named type of the world stands in its imports
  pub record IsImported (s : Text) (t : ℕ) : Type 0 where
    pub entry : WorldKey × WorldItem
    pub held : Contains w.imports.entries entry
    pub is_type : item_type entry.1 ≡ Some t
    pub text : key_text r entry.0 ≡ s

  pub type_imported : (t : ℕ) (def : TypeDef) → type_at r t ≡ Some def → (s : String Global) → def.name ≡ Some s → def.owner ≡ as_world n → IsImported (text_of s) t
  unfolding order_of_types
  type_imported t def e s named_ home = go (lookup (is_name_key (text_of s)) w.imports.entries) refl (first_true _ _ in_it)
    where
      listed : is_listed r t (text_of s) def.owner ≡ true
      listed = sym (ap (λ o. option_map_or (λ name. is_listed r t (text_of name) def.owner) o (same_owner def.owner owner.None)) named_) ∙ second_true
          (list_all (λ m. nat_lt m t) (kind_numbers def.kind)) _ (type_passes order_of_types r v.rules.order_of_types t def e)

      in_it : (is_id t (option_and_then item_type (get_by (is_name_key (text_of s)) w.imports)) && (count_by (λ m. m == t) (world_type_numbers w) == 1)) ≡ true
      in_it = sym (ap (passes (is_listed_in_world t (text_of s))) at) ∙ (sym (ap (is_listed r t (text_of s)) home) ∙ listed)

      key_is : (k : WorldKey) → is_name_key (text_of s) k ≡ true → key_text r k ≡ text_of s
      key_is x h = search std_rules

      go : (o : Option WorldItem) → lookup (is_name_key (text_of s)) w.imports.entries ≡ o → is_id t (option_and_then item_type o) ≡ true → IsImported (text_of s) t
      go None k h = no_true h
      go (Some i) k h =
          let x = lookup_stands (is_name_key (text_of s)) w.imports.entries i k in
          record { entry = (x.0, i); held = x.1; is_type = some_id t (item_type i) h; text = key_is x.0 x.2 }

  -- what a type of the world is another name of is the world's, or that of an interface with a path
  pub target_home : (t : ℕ) (def : TypeDef) → type_at r t ≡ Some def → def.owner ≡ as_world n → (u : ℕ) → alias_target def.kind ≡ Some u → (x : IsTarget r v u) → (x.def.owner ≡ as_world n)
      ⊎ ((a : ℕ) × (x.def.owner ≡ as_interface a) × (is_some (interface_path r a) ≡ true))
  target_home t def e home u alias x = search (std_rules, target_owner r v t def e (ap (λ o. same_owner o owner.None) home) u alias x)

-- ---- items of one sense

abbrev pub is_declared : Item InterfaceSense → Bool
is_declared (declares d) = true
is_declared _ = false

abbrev sort : Item InterfaceSense → ℕ
sort (declares d) = 1
sort (function s) = 2
sort _ = 0

abbrev sort_of_item : WorldItem → ℕ
sort_of_item (item.Type_ t) = 1
sort_of_item (item.Function g) = 2
sort_of_item _ = 0

abbrev declared_so : Item InterfaceSense → Option TypeDeclaration
declared_so (declares d) = Some d
declared_so _ = None

abbrev pub path_so : Item InterfaceSense → Option Text
path_so (interface path) = Some path
path_so _ = None

-- what holds of a path and of an inline interface
by_path : {X : Type 0} (test : Item InterfaceSense → X) (found : Option Text → X) (r : Resolve) (n : ℕ) → ((path : Text) → test (interface path) ≡ found (Some path))
    → test (item_sense (inline (interface_meaning_at r n))) ≡ found None → test (item_sense (interface_item r n)) ≡ found (interface_path r n)
by_path test found r n some none = search std_rules

pub not_declared : (r : Resolve) (n : ℕ) → is_declared (item_sense (interface_item r n)) ≡ false
not_declared r n = by_path is_declared (λ o. false) r n (λ p. refl) refl

pub path_is : (r : Resolve) (n : ℕ) → path_so (item_sense (interface_item r n)) ≡ interface_path r n
path_is r n = by_path path_so (λ o. o) r n (λ p. refl) refl

sort_is : (r : Resolve) (i : WorldItem) → sort (item_sense (item_meaning r i)) ≡ sort_of_item i
sort_is r x = search std_rules

module _ (own other : Resolve) (f : Renumbering) (bound other_bound : ℕ) (valid_own : IsValid own) (valid_other : IsValid other) (matched : AreMatched own other f.interfaces f.types) (is : WorldsAgree own other f bound other_bound) (x e : WorldKey × WorldItem) (held_x : Contains is.own_world.imports.entries x) (held_e : Contains is.other_world.imports.entries e) (keys : key_text own x.0 ≡ key_text other e.0) where
  senses : item_sense (item_meaning own x.1) ≡ item_sense (item_meaning other e.1)
  senses = ap (λ (s : Entry InterfaceSense). s.item) (is.senses x e held_x held_e keys)

  senses_at : (j i : WorldItem) → e.1 ≡ j → x.1 ≡ i → item_sense (item_meaning own i) ≡ item_sense (item_meaning other j)
  senses_at j i p q = sym (ap (λ y. item_sense (item_meaning own y)) q) ∙ (senses ∙ ap (λ y. item_sense (item_meaning other y)) p)

  same_sort : (j i : WorldItem) → e.1 ≡ j → x.1 ≡ i → sort_of_item i ≡ sort_of_item j
  same_sort j i p q = sym (sort_is own i) ∙ (ap sort (senses_at j i p q) ∙ sort_is other j)

  -- ---- items

  stands : (j i : WorldItem) → e.1 ≡ j → x.1 ≡ i → ItemStandsFor f j i
  stands (item.Function g) (item.Function h) p q = tt
  stands (item.Type_ a) (item.Type_ b) p q = sym (is.types x e held_x held_e keys b.0 a.0 (ap item_type q) (ap item_type p))
  stands (item.Interface a st docs ext) (item.Interface b st2 docs2 ext2) p q = by (interface_path other a.0) refl
    where
      paths : interface_path own b.0 ≡ interface_path other a.0
      paths = sym (path_is own b.0) ∙ (ap path_so (senses_at _ _ p q) ∙ path_is other a.0)

      by : (o : Option Text) → interface_path other a.0 ≡ o → b.0 ≡ f.interfaces a.0
      by None k = sym (is.inline x e held_x held_e keys b.0 a.0 (ap item_interface q) (ap item_interface p) k)
      by (Some path) k = to (matched a.0 (ap is_some k))
        where
          to : IsMatch own other f.interfaces f.types a.0 ⊎ ((m : ℕ) → interface_path own m ≡ interface_path other a.0 → ⊥) → b.0 ≡ f.interfaces a.0
          to (inl m) = path-once own valid_own b.0 (f.interfaces a.0) path (paths ∙ k) (m.path ∙ k)
          to (inr none_such) = absurd (none_such b.0 paths)
  stands j i p q = let same = same_sort j i p q in absurd (omega (arith, same))

  -- ---- types

  own_type : (j i : WorldItem) → e.1 ≡ j → x.1 ≡ i → (t : ℕ) → item_type j ≡ Some t → (item_type i ≡ Some (f.types t))
  own_type (item.Type_ a) (item.Type_ b) p q t k = ap Some (sym (is.types x e held_x held_e keys b.0 t (ap item_type q) (ap item_type p ∙ k)))
  own_type (item.Type_ a) i p q t k = let same = same_sort (item.Type_ a) i p q in absurd (omega (arith, same))
  own_type _ i p q t k = absurd cc

  declared_is : (r : Resolve) (i : WorldItem) (t : ℕ) → item_type i ≡ Some t → declared_so (item_sense (item_meaning r i)) ≡ Some (type_meaning_at r t).declaration
  declared_is r x t k = search std_rules

  module _ (t : ℕ) (is_type : item_type e.1 ≡ Some t) where
    old : IsWorldType other valid_other other_bound is.other_world is.other_at e.0 t
    old = world_type other valid_other other_bound is.other_world is.other_at e.0 e.1 held_e t is_type

    its_own : item_type x.1 ≡ Some (f.types t)
    its_own = own_type e.1 x.1 refl refl t is_type

    new : IsWorldType own valid_own bound is.own_world is.own_at x.0 (f.types t)
    new = world_type own valid_own bound is.own_world is.own_at x.0 x.1 held_x (f.types t) its_own

    same_declarations : declaration_of own new.def ≡ declaration_of other old.def
    same_declarations = sym (ap (λ o. (option_map_or (type_meaning own) o no_type).declaration) new.found)
        ∙ (same-some _ _ (sym (declared_is own x.1 (f.types t) its_own) ∙ (ap declared_so senses ∙ declared_is other e.1 t is_type))
        ∙ ap (λ o. (option_map_or (type_meaning other) o no_type).declaration) old.found)

    -- the own world's type that bears the name of the target stands for it
    same_in_world : (u v : ℕ) (a : IsTarget other valid_other u) (b : IsTarget own valid_own v) → a.def.owner ≡ as_world other_bound
        → named (place_of own b.def.owner) (text_of b.name) ≡ named (place_of other a.def.owner) (text_of a.name)
        → (b.def.owner ≡ as_world bound) ⊎ ((c : ℕ) × (b.def.owner ≡ as_interface c) × (is_some (interface_path own c) ≡ true)) → f.types u ≡ v
    same_in_world u v a b home trees (inl ours) =
        let p = type_imported other valid_other other_bound is.other_world is.other_at u a.def a.found a.name a.named_ home in
        let q = type_imported own valid_own bound is.own_world is.own_at v b.def b.found b.name b.named_ ours in
        is.types q.entry p.entry q.held p.held (q.text ∙ (ap name_in trees ∙ sym p.text)) v u q.is_type p.is_type
    same_in_world u v a b home trees (inr c) = search std_rules

    alias_same : (o : Option ℕ) → alias_target old.def.kind ≡ o → alias_target new.def.kind ≡ option_map f.types o
    alias_same = alias_alike own other f.interfaces f.types valid_own valid_other (f.types t) t old.def new.def old.found new.found same_declarations targets
      where
        targets : (u v : ℕ) (a : IsTarget other valid_other u) (b : IsTarget own valid_own v) → alias_target old.def.kind ≡ Some u → alias_target new.def.kind ≡ Some v
            → named (place_of own b.def.owner) (text_of b.name) ≡ named (place_of other a.def.owner) (text_of a.name) → f.types u ≡ v
        targets u v a b k l trees = elim (target_home other valid_other other_bound is.other_world is.other_at t old.def old.found old.home u k a) [
          | inl home ↦ same_in_world u v a b home trees (target_home own valid_own bound is.own_world is.own_at (f.types t) new.def new.found new.home v l b)
          | inr c ↦ same_by_path own other f.interfaces f.types valid_own valid_other matched u v c.0 a c.1 c.2 b trees (matched c.0 c.2)
        ]

    key_names : (k l : WorldKey) (a b : String Global) → k ≡ key.Name a → l ≡ key.Name b → key_text own k ≡ key_text other l → text_of a ≡ text_of b
    key_names k l a b p q h = sym (ap (key_text own) p) ∙ (h ∙ ap (key_text other) q)

    world_namesakes : passes f.carries_type (option_and_then (λ def. alias_target def.kind) (type_at other t)) ≡ true → AreWorldNamesakes own other f bound other_bound t
    world_namesakes carried = record {
      def = old.def;
      found = old.found;
      image = new.def;
      at_image = new.found;
      name = ap optional_text new.named_ ∙ (ap Some (new.same_name ∙ (key_names x.0 e.0 new.label old.label new.keyed old.keyed keys ∙ sym old.same_name)) ∙ sym (ap optional_text old.named_));
      home = old.home;
      image_home = new.home;
      namesakes = record {
        named = ap is_some old.named_;
        resource = resource_declares (trees_of own) new.def.kind ∙ (ap declares_resource same_declarations ∙ sym (resource_declares (trees_of other) old.def.kind));
        alias = alias_same (alias_target old.def.kind) refl;
        target = sym (ap (λ o. passes f.carries_type (option_and_then (λ def. alias_target def.kind) o)) old.found) ∙ carried;
      };
    }

pub met_imports_stand : MetImportsStand
met_imports_stand own other f bound other_bound valid_own valid_other matched is x e held_x held_e keys = (
  stands own other f bound other_bound valid_own valid_other matched is x e held_x held_e keys e.1 x.1 refl refl,
  λ t is_type carried. world_namesakes own other f bound other_bound valid_own valid_other matched is x e held_x held_e keys t is_type carried,
)
