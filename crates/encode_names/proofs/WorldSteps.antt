-- One declaration more in the component type of a world, followed, shows one import or export more.
use Rattle.std.proofs.Common.{rules as std_rules, ◌≡◌, ◌⊎◌, inl, inr, refl, sym, ap, ◌∙◌, ℕ, ◌+◌, ◌<◌, ◌≤◌, Bool, true, false, not, ◌==◌, nat_lt, List, [], ◌∷◌, ◌++◌, length, length-append, take, append-nil, append_assoc, Option, Some, None, slice_get, unwrap_or, arith}
use Rattle.std.proofs.{Math.Seq.take-append_seam, lemmas.List.Elements.Contains-append_cases, lemmas.List.Folds.list_all-append}
use Rattle.std.proofs.lemmas.{Bool.ltb-true, Bool.lt-ltb, Bool.and_from as both}
use Rattle.std.specs.{Prelude.is_some, List.AllZip, List.Contains, List.flat_map, List.list_all, List.list_any}
use Rattle.wit_model.specs.{Text.Text, Tree.Place, Tree.here, Lookup.interface_path, Lookup.key_text, Meant.signature_of, Meant.type_meaning_at}
use Rattle.wit_model.specs.{Meaning.Signature, Uses.item_interface, Valid.IsValid}
use Rattle.wit_model.specs.declared.model.{Resolve.Resolve, WorldKey.WorldKey, WorldItem.WorldItem}
use Rattle.wit_model.proofs.Elements.{zip-push}
use Rattle.comp_bytes.specs.{Raw.Declaration, Raw.ExternName, Reading.◌>>=◌}
use Rattle.comp_bytes.specs.declared.forms.ComponentTypeRef.{ComponentTypeRef}
use Rattle.comp_meaning.specs.Follow.{Direction, import_, export_, Instance, Key, Scope, Seen, Shown, Slot, View, component_step, function_in, in_scope, instance_types, instance_view, interface_of, is_simple, key_of, named_like, named_type, provided, see, used_view, when}
use Rattle.encode_shown.specs.Views.{IsViewOf, ShowsInterface, ShowsItem, home_of, instance_key, instances_of, shown_item}
use Rattle.encode_shown.proofs.Entries.{IsEntry, import-entry, export-entry}
use Rattle.encode_shown.proofs.Items.{entry-home, has_home, instance-home, path-home}
use Rattle.encode_names.specs.{WorldNames.name_of_item, NameLaws.IsKeyAlone, NameLaws.ReadsAs, NameLaws.Says}
use Rattle.encode_names.specs.WorldSteps.{Entries, Entry, FunctionsAreShown, InterfacesAreShown, IsEntryOf, IsTurnOf, NothingIsShown, ShowsEntries, SlotsLeaveEntries, TypesAreShown, WorldsAreShown, declared_towards, seen_function, seen_instance, seen_type, with_entry, with_instance}
use Rattle.encode_names.proofs.NamesRead.{names_are_read}
use Rattle.base_lemmas.proofs.{Bools.left_of as first_true, Bools.right_of as second_true, Numbers.apart}
use Rattle.wit_model.specs.Tree as tree
use Rattle.wit_model.specs.declared.model.WorldKey.TheVariants as key
use Rattle.wit_model.specs.declared.model.WorldItem.TheVariants as item
use Rattle.comp_bytes.specs.declared.forms.ComponentTypeRef.TheVariants as refs
use Rattle.comp_meaning.specs.Follow as follow

-- ---- slots

pub types-appended : (xs ys : List Slot) → instance_types (xs ++ ys) ≡ instance_types xs + instance_types ys
types-appended [] ys = omega arith
types-appended (Slot.value t ∷ xs) ys = types-appended xs ys
types-appended (Slot.resource p t ∷ xs) ys = types-appended xs ys
types-appended (Slot.function f ∷ xs) ys = types-appended xs ys
types-appended (Slot.instance ds n ∷ xs) ys = let more = types-appended xs ys in omega (arith, more)

abbrev pub AreBelow : ℕ → List ℕ → Type 0
AreBelow n used = list_all (λ m. nat_lt m n) used ≡ true

pub below-more : (n m : ℕ) (used : List ℕ) → n ≤ m → AreBelow n used → AreBelow m used
below-more n m [] l h = refl
below-more n m (k ∷ ks) l h = search (std_rules, ltb-true, first_true, both, lt-ltb, second_true, below-more n m ks l (second_true (nat_lt k n) _ h))

-- an index beyond all that have been used
pub unused : (n : ℕ) (used : List ℕ) → AreBelow n used → list_any (λ m. m == n) used ≡ false
unused n [] h = refl
unused n (m ∷ ms) h = search (std_rules, apart, ltb-true, first_true, second_true, unused n ms (second_true (nat_lt m n) _ h))

pub slot-behind : (xs : List Slot) (x : Slot) → slice_get (xs ++ x ∷ []) (length xs) ≡ Some x
slot-behind [] x = refl
slot-behind (y ∷ ys) x = slot-behind ys x

-- ---- lists that grow

pub flat-appended : (xs ys : List Seen) → flat_map (λ s. instances_of s.shown) (xs ++ ys) ≡ flat_map (λ s. instances_of s.shown) xs ++ flat_map (λ s. instances_of s.shown) ys
flat-appended [] ys = refl
flat-appended (x ∷ xs) ys = search (std_rules, append_assoc, flat-appended xs ys)

abbrev pub shown_instances : List Seen → List Instance
shown_instances xs = flat_map (λ s. instances_of s.shown) xs

-- what brings no instance may stand anywhere
none-brought : (xs ys : List Seen) (s : Seen) → instances_of s.shown ≡ [] → shown_instances ((xs ++ s ∷ []) ++ ys) ≡ shown_instances (xs ++ ys)
none-brought xs ys s e = search (std_rules, flat-appended, append-nil)

none-behind : (xs ys : List Seen) (s : Seen) → instances_of s.shown ≡ [] → shown_instances (xs ++ (ys ++ s ∷ [])) ≡ shown_instances (xs ++ ys)
none-behind xs ys s e = search (std_rules, append_assoc, flat-appended, append-nil)

-- what is seen behind all brings its instances behind all
brought-behind : (xs : List Seen) (s : Seen) → shown_instances (xs ++ s ∷ []) ≡ shown_instances xs ++ instances_of s.shown
brought-behind xs s = flat-appended xs (s ∷ []) ∙ ap (λ t. shown_instances xs ++ t) (append-nil (instances_of s.shown))

no-exports : (r : Resolve) (es : List Entry) (ss : List Seen) → es ≡ [] → AllZip (ShowsItem r) es ss → ss ≡ []
no-exports r x ss e z = search std_rules

-- ---- what is shown so far

pub nothing_is_shown : NothingIsShown
nothing_is_shown r = record { imports = tt; exports = tt; instances = refl; used = refl; in_range = refl }

pub slots_leave_entries : SlotsLeaveEntries
slots_leave_entries r done scope x none h =
    let more : length (scope.slots ++ x ∷ []) ≡ length scope.slots + 1 = length-append scope.slots (x ∷ []) in
    let types : instance_types (scope.slots ++ x ∷ []) ≡ instance_types scope.slots + instance_types (x ∷ []) = types-appended scope.slots (x ∷ []) in
    let used : length scope.used ≡ instance_types scope.slots = h.used in
    record {
      imports = h.imports;
      exports = h.exports;
      instances = h.instances;
      used = omega (arith, more, types, used, none);
      in_range = below-more (length scope.slots) (length (scope.slots ++ x ∷ [])) scope.used (omega (arith, more)) h.in_range;
    }

-- one more that brings no instance
module _ (r : Resolve) (done : Entries) (scope : Scope) (e : Entry) (s : Seen) (none : instances_of s.shown ≡ []) (h : ShowsEntries r done scope) (shows : ShowsItem r e s) where
  seen-too : (direction : Direction) → ShowsEntries r (with_entry direction done e) (see direction s scope)
  seen-too import_ = search (std_rules, zip-push, none-brought)
  seen-too export_ = search (std_rules, zip-push, none-behind)

-- ---- names

entry-named : (r : Resolve) (canonical : Bool) → IsValid r → (e : Entry) → IsEntryOf r e → ReadsAs r e (name_of_item r canonical e)
entry-named r canonical v e is = names_are_read r is.number is.world e canonical v is.there is.listed

pub entry-of : (r : Resolve) → IsValid r → (e : Entry) (is : IsEntryOf r e) → IsEntry r is.number e
entry-of r v e is = go (Contains-append_cases is.world.imports.entries is.world.exports.entries e is.listed)
  where
    go : Contains is.world.imports.entries e ⊎ Contains is.world.exports.entries e → IsEntry r is.number e
    go (inl c) = import-entry r v is.number is.world is.there e c
    go (inr c) = export-entry r v is.number is.world is.there e c

-- ---- functions

function-step : (direction : Direction) (name : ExternName) (n : ℕ) (f : Signature) (scope : Scope) → function_in (slice_get scope.slots n) ≡ Some f → is_simple name ≡ true
    → component_step scope (declared_towards direction name (refs.Func n)) ≡ Some (see direction (seen_function name f) scope)
function-step import_ name n f scope e simple = search std_rules
function-step export_ name n f scope e simple = search std_rules

no-view : View
no-view = record { types = []; functions = [] }

pub functions_are_shown : FunctionsAreShown
functions_are_shown r canonical direction done scope k f n v is h e =
    let read = entry-named r canonical v (k, item.Function f) is in
    let name = name_of_item r canonical (k, item.Function f) in
    let alone : IsKeyAlone r k name = read.says in
    record {
      step = function-step direction name n (signature_of r f) scope e alone.simple;
      shows = seen-too r done scope (k, item.Function f) (seen_function name (signature_of r f)) refl h
          (record { view = no-view; is_view = tt; is = λ j. record { key = alone.text j; shown = Shown.function (signature_of r f); external_id = read.external_id j } }) direction;
    }

-- ---- types

abbrev named-as : Place → Text → Slot → tree.TypeDeclaration → Option (tree.TypeDeclaration × Slot)
named-as place name slot d = Some (d, named_like slot place name)

-- the slot of a named type is no instance type
pub named-slot : (slots : List Slot) (place : Place) (name : Text) (described : ComponentTypeRef) (d : tree.TypeDeclaration) (x : Slot) → named_type slots place name described ≡ Some (d, x)
    → instance_types (x ∷ []) ≡ 0
named-slot slots place name z d x e = search std_rules

abbrev seen_next : ExternName → Scope → tree.TypeDeclaration × Slot → Option Scope
seen_next name scope found = provided (is_simple name) (see import_ (seen_type name found.0) (in_scope found.1 scope))

type-seen : (name : ExternName) (described : ComponentTypeRef) (scope : Scope) (d : tree.TypeDeclaration) (x : Slot) → named_type scope.slots here name.text described ≡ Some (d, x)
    → is_simple name ≡ true
    → follow.see_type name described scope ≡ Some (see import_ (seen_type name d) (in_scope x scope))
type-seen name described scope d x e simple = ap (λ o. o >>= seen_next name scope) e ∙ ap (λ b. provided b (see import_ (seen_type name d) (in_scope x scope))) simple

pub type-step : (name : ExternName) (described : ComponentTypeRef) (scope : Scope) (d : tree.TypeDeclaration) (x : Slot) → named_type scope.slots here name.text described ≡ Some (d, x)
    → is_simple name ≡ true → component_step scope (Declaration.imported name described) ≡ Some (see import_ (seen_type name d) (in_scope x scope))
type-step name y scope d x e simple = search std_rules

pub types_are_shown : TypesAreShown
types_are_shown r canonical done scope k id described x v is h e =
    let read = entry-named r canonical v (k, item.Type_ id) is in
    let name = name_of_item r canonical (k, item.Type_ id) in
    let alone : IsKeyAlone r k name = read.says in
    let d = (type_meaning_at r id.0).declaration in
    let more = slots_leave_entries r done scope x (named-slot scope.slots here name.text described d x e) h in
    record {
      step = type-step name described scope d x e alone.simple;
      shows = seen-too r done (in_scope x scope) (k, item.Type_ id) (seen_type name d) refl more
          (record { view = no-view; is_view = tt; is = λ j. record { key = alone.text j; shown = Shown.declares d; external_id = read.external_id j } }) import_;
    }

-- ---- interfaces

-- an instance under a key, of an instance type that nothing has used
module _ (name : ExternName) (n : ℕ) (scope : Scope) where
  abbrev seen-by : Direction → Key → View → Option Scope
  seen-by direction k view = Some (see direction (seen_instance name k view) (with_instance k view n scope))

  abbrev after : Direction → Key → Option Scope
  after direction k = when (not (list_any (λ m. m == n) scope.used)) (used_view scope.slots (follow.instance_place (interface_of k)) (slice_get scope.slots n)) >>= seen-by direction k

  module _ (k : Key) (view : View) (named : key_of name ≡ Some k) (fresh : list_any (λ m. m == n) scope.used ≡ false) (used : used_view scope.slots (follow.instance_place (interface_of k)) (slice_get scope.slots n) ≡ Some view) where
    instance-seen : (direction : Direction) → follow.see_instance direction name n scope ≡ seen-by direction k view
    instance-seen direction = ap (λ o. o >>= after direction) named ∙ ap (λ b. when (not b) (used_view scope.slots (follow.instance_place (interface_of k)) (slice_get scope.slots n)) >>=
        seen-by direction
        k) fresh ∙ ap (λ o. o >>= seen-by direction k) used

    pub instance-step : (direction : Direction) → component_step scope (declared_towards direction name (refs.Instance n)) ≡ seen-by direction k view
    instance-step import_ = instance-seen import_
    instance-step export_ = instance-seen export_

-- the key of an instance has the text of the item's key
key-shown : (r : Resolve) (k : WorldKey) (i : ℕ) → has_home k (interface_path r i) ≡ true → ((j : ℕ) → k ≡ key.Interface (record { 0 = j }) → j ≡ i)
    → follow.text_of_key (instance_key k (interface_path r i)) ≡ key_text r k
key-shown r (key.Name name) i h same = search std_rules
key-shown r (key.Interface id) i h same = go (interface_path r i) h ∙ ap (λ j. unwrap_or (interface_path r j) []) (sym (same id.0 refl))
  where
    go : (o : Option Text) → is_some o ≡ true → follow.text_of_key (instance_key (key.Interface id) o) ≡ unwrap_or o []
    go None h = let wrong : ⊥ = cc in absurd wrong
    go (Some path) h = refl

interface-shown : (r : Resolve) (k : WorldKey) (i : WorldItem) (n : ℕ) (view : View) → item_interface i ≡ Some n → ShowsInterface r n view
    → IsViewOf r i view × (shown_item r k i view ≡ Shown.instance (instance_key k (interface_path r n)) view)
interface-shown r k x n view e shows = search std_rules

interface-named : (r : Resolve) (k : WorldKey) (i : WorldItem) (n : ℕ) (name : ExternName) → item_interface i ≡ Some n → Says r k i name → key_of name ≡ Some (instance_key k (interface_path r n))
interface-named r k x n name e says = search std_rules

abbrev number-of : ℕ → WorldKey → ℕ
number-of d (key.Interface other) = other.0
number-of d (key.Name name) = d

-- the interface that a key names is the item's
keyed-alike : (r : Resolve) (m : ℕ) (k : WorldKey) (i : WorldItem) (n : ℕ) → IsEntry r m (k, i) → item_interface i ≡ Some n → (j : ℕ) → k ≡ key.Interface (record { 0 = j }) → j ≡ n
keyed-alike r m x i n is e j q = search std_rules

-- a scope with an instance type behind, which is used
module _ (r : Resolve) (done : Entries) (scope : Scope) (ds : List Declaration) (h : ShowsEntries r done scope) where
  abbrev opened : Scope
  opened = in_scope (Slot.instance ds (length scope.slots)) scope

  used-once : (n : ℕ) → length (scope.used ++ n ∷ []) ≡ instance_types opened.slots
  used-once n = search (std_rules, length-append, types-appended)

  all-below : list_all (λ n. nat_lt n (length opened.slots)) (scope.used ++ length scope.slots ∷ []) ≡ true
  all-below =
      let more : length opened.slots ≡ length scope.slots + 1 = length-append scope.slots (Slot.instance ds (length scope.slots) ∷ []) in
      let less : length scope.slots < length opened.slots = omega (arith, more) in
      list_all-append (λ n. nat_lt n (length opened.slots)) scope.used (length scope.slots ∷ [])
      ∙ both (list_all (λ n. nat_lt n (length opened.slots)) scope.used) _ (below-more (length scope.slots) (length opened.slots) scope.used (omega (arith, more)) h.in_range)
      (both (nat_lt (length scope.slots) (length opened.slots)) true (lt-ltb (length scope.slots) (length opened.slots) less) refl)

  module _ (e : Entry) (k : Key) (view : View) (name : ExternName) (shows : ShowsItem r e (seen_instance name k view)) where
    seen-instance : (direction : Direction) → IsTurnOf direction done
        → ShowsEntries r (with_entry direction done e) (see direction (seen_instance name k view) (with_instance k view (length scope.slots) opened))
    seen-instance import_ turn =
        let none = no-exports r done.1 scope.exports turn h.exports in
        record {
          imports = zip-push (ShowsItem r) done.0 scope.imports e (seen_instance name k view) h.imports shows;
          exports = h.exports;
          instances = ap (λ t. t ++ instances_of (Shown.instance k view)) (h.instances ∙ ap (λ t. shown_instances (scope.imports ++ t)) none ∙ ap shown_instances (append-nil scope.imports))
              ∙ sym (brought-behind scope.imports (seen_instance name k view)) ∙ ap shown_instances (sym (append-nil (scope.imports ++ seen_instance name k view ∷ [])))
              ∙ ap (λ t. shown_instances ((scope.imports ++ seen_instance name k view ∷ []) ++ t)) (sym none);
          used = used-once (length scope.slots);
          in_range = all-below;
        }
    seen-instance export_ turn = record {
      imports = h.imports;
      exports = zip-push (ShowsItem r) done.1 scope.exports e (seen_instance name k view) h.exports shows;
      instances = ap (λ t. t ++ instances_of (Shown.instance k view)) h.instances ∙ sym (brought-behind (scope.imports ++ scope.exports) (seen_instance name k view))
          ∙ ap shown_instances (append_assoc scope.imports scope.exports (seen_instance name k view ∷ []));
      used = used-once (length scope.slots);
      in_range = all-below;
    }

pub interfaces_are_shown : InterfacesAreShown
interfaces_are_shown r canonical direction done scope e i ds view v is at h turn viewed shows =
    let name = name_of_item r canonical e in
    let read = entry-named r canonical v e is in
    let entry = entry-of r v e is in
    let k = instance_key e.0 (interface_path r i) in
    let home = entry-home r v is.number e.0 e.1 entry i at in
    let x = Slot.instance ds (length scope.slots) in
    let sight = interface-shown r e.0 e.1 i view at shows in
    let place : follow.instance_place (interface_of k) ≡ home_of r i = ap follow.instance_place (instance-home e.0 (interface_path r i) home) ∙ path-home (interface_path r i) in
    let slots : used_view (scope.slots ++ x ∷ []) (follow.instance_place (interface_of k)) (slice_get (scope.slots ++ x ∷ []) (length scope.slots)) ≡ Some view =
    ap (used_view (scope.slots ++ x ∷ []) (follow.instance_place (interface_of k))) (slot-behind scope.slots x) ∙ ap (λ p. instance_view p (take (length scope.slots) (scope.slots ++ x ∷ [])) ds) place
    ∙ ap (λ around. instance_view (home_of r i) around ds) (take-append_seam scope.slots (x ∷ [])) ∙ viewed in
    record {
      step = instance-step name (length scope.slots) (in_scope x scope) k view (interface-named r e.0 e.1 i name at read.says) (unused (length scope.slots) scope.used h.in_range) slots direction;
      shows = seen-instance r done scope ds h e k view name (record {
        view = view;
        is_view = sight.0;
        is = λ j. record { key = key-shown r e.0 i home (keyed-alike r is.number e.0 e.1 i entry at) j; shown = sym sight.1 j; external_id = read.external_id j };
      }) direction turn;
    }

-- ---- the whole world

pub worlds_are_shown : WorldsAreShown
worlds_are_shown r w ds scope h e = search std_rules
