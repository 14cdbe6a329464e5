-- What a component type has imported, after aliases, and after one instance type more and the import or export that uses it.
use Rattle.std.proofs.Common.{rules as std_rules, ◌≡◌, inl, inr, refl, sym, subst, ap, ◌∙◌, ℕ, ◌+◌, ◌==◌, nat_lt, nat_cmp, Bool, true, List, [], ◌∷◌, ◌++◌, length, length-append, Some, None, slice_get, arith}
use Rattle.std.proofs.{Math.Seq.take-append_seam, lemmas.List.map-append, lemmas.List.Elements.Contains-append_left, lemmas.List.Elements.Contains-append_right}
use Rattle.std.proofs.lemmas.{Bool.lt-ltb, Bool.and_from as both, List.Folds.list_all-append, Bool.cases_Bool}
use Rattle.std.specs.{List.Contains, List.list_all, Option.option_map_or, BTreeMap.insert_entry, BTreeMap.is_at, FinMap.nat_cmp-IsAntisymmetric}
use Rattle.wit_model.specs.{Text.Text, Lookup.interface_path, Lookup.place_of_path, Valid.IsValid}
use Rattle.wit_model.specs.declared.model.{Resolve.Resolve, Interface.Interface, InterfaceId.InterfaceId, Function.Function}
use Rattle.wit_model.proofs.Elements.{zip-push}
use Rattle.comp_bytes.specs.{Raw.Declarations, Raw.append, Raw.ExternName, Held.type_slots_of, Reading.◌>>=◌}
use Rattle.comp_meaning.specs.Follow.{Direction, import_, export_, Key, Scope, Slot, View, component_scope, component_step, in_scope, instance_types, instance_view, is_foreign_name, new_scope, provided, see, used_view}
use Rattle.encode_shown.specs.Views.{ShowsImport}
use Rattle.encode_names.specs.{WorldNames.name_of_interface, WorldSteps.declared_towards, WorldSteps.seen_instance, WorldSteps.with_instance}
use Rattle.encode_names.proofs.PathsRead.{path-key}
use Rattle.encode_names.proofs.WorldSteps.{below-more, instance-step, slot-behind, types-appended, unused}
use Rattle.encode_types.specs.Known.{Aliased, AreAliases, Around, IsAlias, are_right, known_instance, outer_scope, outer_slots, with_alias, with_aliases}
use Rattle.encode_types.proofs.Tables.{equal-is}
use Rattle.wit_encode.specs.Instance.{EncodesPart}
use Rattle.wit_encode.specs.Dependencies.{AliasesLeaveImports, ExportsEnd, HasImported, ImportsGrow, NothingIsImported, imported_instance, seen_import, with_export, with_import}
use Rattle.wit_encode.proofs.{Components.steps-count, Components.steps-instance, Components.steps-more, LatestInstances.found-new, LatestInstances.found-other}
use Rattle.wit_encode.proofs.Importing.{right-more, stands, still-right, wide}
use Rattle.base_lemmas.proofs.{Bools.left_of as first_true, Elements.contains-one, Numbers.same-number, Lists.front_or_end}
use Rattle.comp_bytes.specs.declared.forms.ComponentTypeRef.TheVariants as refs
use Rattle.comp_meaning.specs.Follow as follow

pub nothing_is_imported : NothingIsImported
nothing_is_imported r = record {
  scope = new_scope;
  followed = refl;
  views = [];
  shown = tt;
  imports = refl;
  exports = refl;
  instances = refl;
  used = refl;
  in_range = refl;
  right = refl;
  listed = λ k n e. absurd cc;
  alone = λ n k e. absurd cc;
}

-- ---- aliases

no-instance : (x : Slot) → is_foreign_name x ≡ true → instance_types (x ∷ []) ≡ 0
no-instance x h = search std_rules

alias-leaves : (r : Resolve) (a : Around) (al : Aliased) (ns : List ℕ) → HasImported r a ns → IsAlias r a al → HasImported r (with_alias a al) ns
alias-leaves r a al ns h is =
    let s = stands r a al is in
    let x = s.slot in
    let more : length (h.scope.slots ++ x ∷ []) ≡ length h.scope.slots + 1 = length-append h.scope.slots (x ∷ []) in
    let used : length h.scope.used ≡ instance_types h.scope.slots = h.used in
    record {
      scope = in_scope x h.scope;
      followed = (wide r a al is).scope h.scope h.followed;
      views = h.views;
      shown = h.shown;
      imports = h.imports;
      exports = h.exports;
      instances = h.instances;
      used = omega (arith, types-appended h.scope.slots (x ∷ []), no-instance x (first_true (is_foreign_name x) _ s.fits), used);
      in_range = below-more (length h.scope.slots) (length (h.scope.slots ++ x ∷ [])) h.scope.used (omega (arith, more)) h.in_range;
      right = still-right r a al is;
      listed = h.listed;
      alone = h.alone;
    }

each-leaves : (r : Resolve) (a : Around) (made : List Aliased) (ns : List ℕ) → HasImported r a ns → AreAliases r a made → HasImported r (with_aliases a made) ns
each-leaves r a [] ns h are = h
each-leaves r a (x ∷ made) ns h are = each-leaves r (with_alias a x) made ns (alias-leaves r a x ns h are.0) are.1

pub aliases_leave_imports : AliasesLeaveImports
aliases_leave_imports r around around' numbers h g = subst (λ (z : Around). HasImported r z numbers) (sym g.is) (each-leaves r around g.made numbers h g.are)

pub at-same : (n m : ℕ) → is_at (nat_cmp n) m ≡ true → n ≡ m
at-same n m h = nat_cmp-IsAntisymmetric n m (equal-is (nat_cmp n m) h)

module _ (i : ℕ) (ns : List ℕ) (es : List (ℕ × ℕ)) (first : known_instance es i ≡ None) where
  abbrev after : List (ℕ × ℕ)
  after = insert_entry nat_cmp es i (length ns)

  listed-more : ((k n : ℕ) → slice_get ns k ≡ Some n → known_instance es n ≡ Some k) → (k n : ℕ) → slice_get (ns ++ i ∷ []) k ≡ Some n → known_instance after n ≡ Some k
  listed-more all k n e = elim (front_or_end ns i k n e) [
    | inl h ↦ elim (cases_Bool (is_at (nat_cmp n) i)) [ inl q ↦ cc (sym (all k n h) ∙ ap (known_instance es) (at-same n i q) ∙ first) | inr q ↦ found-other i (length ns) n es q ∙ all k n h ]
    | inr h ↦ ap (known_instance after) (sym h.1) ∙ found-new i (length ns) es ∙ ap Some (sym h.0)
  ]

  alone-more : ((n k : ℕ) → known_instance es n ≡ Some k → Contains ns n) → (n k : ℕ) → known_instance after n ≡ Some k → Contains (ns ++ i ∷ []) n
  alone-more all n k e = elim (cases_Bool (is_at (nat_cmp n) i)) [
    | inl q ↦ subst (Contains (ns ++ i ∷ [])) (sym (at-same n i q)) (Contains-append_right ns (i ∷ []) i (contains-one i))
    | inr q ↦ Contains-append_left ns (i ∷ []) n (all n k (sym (found-other i (length ns) n es q) ∙ e))
  ]

-- ---- one instance type more, and what uses it

module _ (r : Resolve) (v : IsValid r) (canonical : Bool) (a a' : Around) (ns : List ℕ) (i : InterfaceId) (def : Interface) (path : Text) (written : List (Text × Function))
    (fs : List Function) (k : ℕ) (is : interface_path r i.0 ≡ Some path) (h : HasImported r a ns) (e : EncodesPart r a a' i def written fs k) where
  before : HasImported r e.before ns
  before = aliases_leave_imports r a e.before ns h e.aliases.grown

  abbrev s : Scope
  s = before.scope

  abbrev x : Slot
  x = Slot.instance e.declared (length s.slots)

  abbrev name : ExternName
  name = name_of_interface r canonical i.0

  abbrev view : View
  view = e.is_instance.view

  declared-after : outer_scope a'.declared ≡ Some (in_scope x s)
  declared-after = ap (λ (z : Around). outer_scope z.declared) e.one_more ∙ steps-instance new_scope s e.before.declared e.declared before.followed

  around-slots : outer_slots e.before.declared ≡ s.slots
  around-slots = ap (λ o. option_map_or (λ (t : Scope). t.slots) o []) before.followed

  number : k ≡ length s.slots
  number =
      let count : length s.slots ≡ length new_scope.slots + type_slots_of e.before.declared = steps-count new_scope s e.before.declared before.followed in
      e.index ∙ (let same : type_slots_of e.before.declared ≡ length s.slots = omega (arith, count) in same)

  viewed : used_view (in_scope x s).slots (follow.instance_place (Some path)) (slice_get (in_scope x s).slots (length s.slots)) ≡ Some view
  viewed = ap (used_view (in_scope x s).slots (follow.instance_place (Some path))) (slot-behind s.slots x)
      ∙ ap (λ slots. instance_view (follow.instance_place (Some path)) slots e.declared) (take-append_seam s.slots (x ∷ []) ∙ sym around-slots)
      ∙ ap (λ o. instance_view (place_of_path o) (outer_slots e.before.declared) e.declared) (sym is) ∙ e.is_instance.followed

  abbrev next : Direction → Scope
  next direction = see direction (seen_instance name (Key.path path) view) (with_instance (Key.path path) view (length s.slots) (in_scope x s))

  stepped : (direction : Direction) → component_step (in_scope x s) (declared_towards direction name (refs.Instance k)) ≡ Some (next direction)
  stepped direction = ap (λ m. component_step (in_scope x s) (declared_towards direction name (refs.Instance m))) number
      ∙ instance-step name (length s.slots) (in_scope x s) (Key.path path) view (path-key r v i.0 path is canonical) (unused (length s.slots) s.used before.in_range) viewed direction

  described : (direction : Direction) → outer_scope (append a'.declared (Declarations.declares (declared_towards direction name (refs.Instance k)) Declarations.no_more)) ≡ Some (next direction)
  described direction = steps-more new_scope (in_scope x s) (next direction) a'.declared (declared_towards direction name (refs.Instance k)) declared-after (stepped direction)

  used-once : length (s.used ++ length s.slots ∷ []) ≡ instance_types (s.slots ++ x ∷ [])
  used-once = omega (arith, length-append s.used (length s.slots ∷ []), types-appended s.slots (x ∷ []), before.used)

  all-below : list_all (λ n. nat_lt n (length (s.slots ++ x ∷ []))) (s.used ++ length s.slots ∷ []) ≡ true
  all-below =
      let more : length (s.slots ++ x ∷ []) ≡ length s.slots + 1 = length-append s.slots (x ∷ []) in
      list_all-append (λ n. nat_lt n (length (s.slots ++ x ∷ []))) s.used (length s.slots ∷ [])
      ∙ both (list_all (λ n. nat_lt n (length (s.slots ++ x ∷ []))) s.used) _ (below-more (length s.slots) (length (s.slots ++ x ∷ [])) s.used (omega (arith, more)) before.in_range)
      (both (nat_lt (length s.slots) (length (s.slots ++ x ∷ []))) true (lt-ltb (length s.slots) (length (s.slots ++ x ∷ [])) (omega (arith, more))) refl)

  abbrev imported : Around
  imported = with_import r canonical i k (length ns) a'

  slots-after : outer_slots imported.declared ≡ outer_slots e.before.declared ++ x ∷ []
  slots-after = ap (λ o. option_map_or (λ (t : Scope). t.slots) o []) (described import_) ∙ ap (λ xs. xs ++ x ∷ []) (sym around-slots)

  import-more : known_instance a.instances i.0 ≡ None → ShowsImport r i.0 (path, view) → HasImported r imported (ns ++ i.0 ∷ [])
  import-more first shows = record {
    scope = next import_;
    followed = described import_;
    views = before.views ++ (path, view) ∷ [];
    shown = zip-push (ShowsImport r) ns before.views i.0 (path, view) before.shown shows;
    imports = ap (λ t. t ++ seen_import (path, view) ∷ []) before.imports ∙ sym (map-append seen_import before.views ((path, view) ∷ []));
    exports = before.exports;
    instances = ap (λ t. t ++ imported_instance (path, view) ∷ []) before.instances ∙ sym (map-append imported_instance before.views ((path, view) ∷ []));
    used = used-once;
    in_range = all-below;
    right = ap (are_right r imported.known) slots-after
        ∙ ap (λ (z : Around). are_right r z.known (outer_slots e.before.declared ++ x ∷ [])) e.one_more ∙ right-more r e.before.known (outer_slots e.before.declared) x before.right;
    listed = subst (λ es. (k n : ℕ) → slice_get (ns ++ i.0 ∷ []) k ≡ Some n → known_instance (insert_entry nat_cmp es i.0 (length ns)) n ≡ Some k) same-listed
        (listed-more i.0 ns e.before.instances missing before.listed);
    alone = subst (λ es. (n k : ℕ) → known_instance (insert_entry nat_cmp es i.0 (length ns)) n ≡ Some k → Contains (ns ++ i.0 ∷ []) n) same-listed
        (alone-more i.0 ns e.before.instances missing before.alone);
  }
    where
      same-listed : e.before.instances ≡ a'.instances
      same-listed = sym (ap (λ (z : Around). z.instances) e.one_more)

      kept : (b : Around) (made : List Aliased) → (with_aliases b made).instances ≡ b.instances
      kept b [] = refl
      kept b (y ∷ made) = kept (with_alias b y) made

      missing : known_instance e.before.instances i.0 ≡ None
      missing = ap (λ es. known_instance es i.0) (ap (λ (z : Around). z.instances) e.aliases.grown.is ∙ kept a e.aliases.grown.made) ∙ first

  export-ends : component_scope (with_export r canonical i k a'.declared) ≡ Some (next export_)
  export-ends = ap (λ o. o >>= λ t. provided (length t.used == instance_types t.slots) t) (described export_)
      ∙ ap (λ b. provided b (next export_)) (ap (λ n. length (s.used ++ length s.slots ∷ []) == n) (sym used-once) ∙ same-number (length (s.used ++ length s.slots ∷ [])))

pub imports_grow : ImportsGrow
imports_grow r canonical around around' numbers i def path k v is h first e =
    import-more r v canonical around around' numbers i def path [] [] k is h e.part first (record { path = is; shows = e.shows })

pub exports_end : ExportsEnd
exports_end r canonical around around' numbers i def path k v is h reached e =
    let b = before r v canonical around around' numbers i def path _ _ k is h e.part in
    record {
      scope = next r v canonical around around' numbers i def path _ _ k is h e.part export_;
      follows = export-ends r v canonical around around' numbers i def path _ _ k is h e.part;
      imports = b.views;
      exported = e.part.is_instance.view;
      shows =
          let exports_are = ap (λ t. t ++ seen_import (path, e.part.is_instance.view) ∷ []) b.exports in
          record { reached = record { numbers = numbers; reached = reached; shown_imports = b.shown; shows = e.shows }; imports_are = b.imports; exports_are = exports_are };
    }
