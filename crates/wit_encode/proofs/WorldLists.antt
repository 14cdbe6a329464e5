-- A type of a world, imported behind what has been: nothing else that is named in the world is learnt with it.
use Rattle.std.proofs.Common.{rules as std_rules, ◌≡◌, refl, sym, subst, ap, ◌∙◌, ℕ, ◌+◌, ◌≤◌, ◌⊎◌, inl, inr, nat_cmp, Bool, true, false, List, [], ◌∷◌, ◌++◌, length, map, Some, None, is_some, arith, append-nil, append_assoc, Option, ◌==◌, cond, filter_map, slice_get, take, option_map, option_and_then, String, count_by, option_to_list}
use Rattle.std.proofs.{lemmas.List.length-map, lemmas.List.Sums.sum_by-append, lemmas.Option.same_Some as same-some, Math.Seq.take-append_seam}
use Rattle.std.proofs.lemmas.List.Elements.{Contains-append_left, Contains-append_right, Contains-append_cases, filter_map-append}
use Rattle.std.specs.{BTreeMap.insert_entry, List.AllZip, List.Contains, Prelude.is_none, Option.option_map_or}
use Rattle.wit_model.specs.{Lookup.interface_at, Lookup.key_text, Lookup.type_at, Meant.no_type, Meant.type_meaning, Meant.type_meaning_at, Meaning.TypeMeaning}
use Rattle.wit_model.specs.Rules.{item_type, is_id, is_listed, is_listed_in_world, passes, world_type_numbers}
use Rattle.wit_model.specs.{Uses.item_interface, Uses.items_of, Text.Text, Text.text_of, Parts.same_owner, Valid.IsValid, Parts.met_by, Parts.met_of}
use Rattle.wit_model.specs.declared.model.{Resolve.Resolve, World.World, WorldKey.WorldKey, TypeDef.TypeDef, TypeId.TypeId}
use Rattle.wit_model.specs.declared.model.{Interface.Interface, InterfaceId.InterfaceId, WorldItem.WorldItem, TypeOwner.TypeOwner}
use Rattle.comp_bytes.specs.Raw.{Declaration, Declarations, ExternName, append, declaration_count, from_list}
use Rattle.comp_bytes.specs.{Held.type_slots_of, Fits.fits_name}
use Rattle.comp_meaning.specs.Follow.{Direction, import_, export_, Shown, View}
use Rattle.encode_types.specs.declared.maps.TypeEncodingMaps.{TypeEncodingMaps}
use Rattle.encode_types.specs.{Aliases.IsMetElsewhere, MetKinds.LearnsFrom, Room.limit, Kinds.parts_of, Leaves.Leaves, Fits.CanEncode}
use Rattle.encode_types.specs.{Maps.IsOnce, Maps.IsKnown, Maps.IsReady, Maps.LearnsOnly, Maps.by_number, Distinct.is_value_type, Distinct.is_function_type}
use Rattle.encode_types.specs.{Known.Around, Known.GrowsAround, Known.known_instance, Known.known_slot, Table.declaration_in, Table.named_declaration}
use Rattle.encode_types.specs.{Counts.Shows, Counts.own_name, Counts.name_of_own, Plan.foreign_owner, Plan.MetFrom}
use Rattle.encode_types.proofs.{Lists.none-in}
use Rattle.encode_names.specs.WorldNames.{name_of_item}
use Rattle.encode_names.specs.WorldSteps.{Entry, Entries, declared_towards, interfaces_among, with_entry}
use Rattle.wit_encode.specs.{Encoders.InterfaceLacksRoom, Encoders.declared_after, WorldAliases.KeepsBehind, WorldAliases.place_and_number}
use Rattle.wit_encode.specs.{Instance.EncodesInterface, Instance.LacksInstanceRoom, Instance.whole_interface, Extents.item_extent, OwnerScope.IsTypeOf}
use Rattle.wit_encode.specs.{WorldHolds.HoldsFew, WorldHolds.LacksDeclaration, WorldHolds.HoldsAll, WorldHolds.LacksRoomTowards, WrittenNames.NamesMore}
use Rattle.wit_encode.specs.WorldItems.{IsNext, ListsInstance, all_done, AwaitsAll, EncodesAll, HasShown, begun, entries_of, types_among}
use Rattle.wit_encode.specs.WorldCounts.{DefinesInterface, HasDefined, IsAskedBy, no_interface, DefinesAll}
use Rattle.wit_encode.specs.WorldRoom.{functions_among, count_among, entries_in, WorldLacksRoom, an_interface, a_name}
use Rattle.wit_encode.specs.Worlds.{WorldEncoder, brought_numbers, instances_declared, world_around, world_definitions, world_encoder_view, world_view_of}
use Rattle.wit_encode.specs.WrittenBytes.{AddsLearnt, items_extent}
use Rattle.wit_encode.proofs.{Counting.adds-alike, Counting.adds-nothing, BytesWritten.learnt-most, BytesWritten.learnt-nothing, BytesWritten.learnt-then}
use Rattle.wit_encode.proofs.{Aliases.keeps-instance, Aliases.keeps-aliases, Aliases.known-among, Aliases.none-since, WorldInterfaces.among-one}
use Rattle.wit_encode.proofs.{WrittenNames.interface-name, WrittenNames.names-nothing, WrittenNames.names-then, Numbers.once-before, Numbers.one-mapped}
use Rattle.wit_encode.proofs.Placed.{grown-few, grown-listed, listed-cases, one-behind, placed-few, placed-instances, placed-targets, placed-slots}
use Rattle.wit_encode.proofs.{Referring.from-none, Refusing.counts-refused, Refusing.outer-slots-few, OwnerScope.types_encode, Owned.named-listed}
use Rattle.wit_encode.proofs.WorldHolding.{defines-behind, interfaces-more, towards-function, towards-target, count-both, full, known-number, known-numbers, known-once, met-before, towards-plain}
use Rattle.wit_encode.proofs.WorldShown.{type_seen, types-shown, items_meet_standing, no-type-exported, own-type, parts-listed, type-key}
use Rattle.wit_encode.proofs.WorldFunctions.{before-next, done_items, next-place, scope-of, second, stand-before, types-given}
use Rattle.wit_encode.proofs.Directions.{done-next, next-entry}
use Rattle.wit_encode.proofs.{WorldHolding.by-name, WorldHolding.defines-own, Exporting.met-no-other, Exporting.one-name as only-name}
use Rattle.base_lemmas.proofs.Lists.{middle_get}
use Rattle.base_lemmas.proofs.Elements.{zip-append, contains-one, first-contained as contains-first, last_of as one-contained}
use Rattle.base_lemmas.proofs.{Bools.left_of as first_true, Bools.right_of as second_true, Numbers.equal, Numbers.same-number, Options.there as some-of}
use Rattle.std.specs.declared.alloc.Global.{Global}
use Rattle.encode_shown.proofs.{Used.contains-flat-from}
use Rattle.wit_model.proofs.{Elements.contains-get, PartsLemmas.owner_same as same-owner, OnePath.one-number, Elements.contains-flat}
use Rattle.wit_model.specs.declared.model.WorldItem.TheVariants as item
use Rattle.comp_bytes.specs.declared.forms.ComponentTypeRef.TheVariants as refs
use Rattle.wit_model.specs.declared.model.TypeOwner.TheVariants as owner
use Rattle.wit_model.specs.declared.model.«Type».TheVariants as ty

-- ---- An interface of a world, imported or exported: what its instance type defines, how much is held behind it, and why there is no room for it.

-- ---- one interface among the entries

no-function : (x : Entry) (n : ℕ) → item_interface x.1 ≡ Some n → functions_among (x ∷ []) ≡ []
no-function x n e = search std_rules

no-type : (x : Entry) (n : ℕ) → item_interface x.1 ≡ Some n → item_type x.1 ≡ None
no-type x n e = search std_rules

count-one : (x : Entry) (n : ℕ) → item_interface x.1 ≡ Some n → count_among (x ∷ []) ≡ 1
count-one x n e = search std_rules

-- ---- the instance type and its import or export, listed

module _ (r : Resolve) (e e' e'' : WorldEncoder) (x : Entry) (i : InterfaceId) (def : Interface) (k : ℕ) (direction : Direction) (name : ExternName) (outer : Declarations)
    (is : item_interface x.1 ≡ Some i.0) (there : interface_at r i.0 ≡ Some def)
    (rest : e' ≡ record e { outer = e'.outer; foreign = e'.foreign }) (encodes : EncodesInterface r (world_around e) (world_around e') i def k)
    (made : outer ≡ declared_after e'.outer (declared_towards direction name (refs.Instance k))) (lists : ListsInstance (record e' { outer = outer }) e'' i) where
  abbrev before : Around
  before = encodes.part.before

  abbrev inner : Declarations
  inner = from_list encodes.part.declared

  abbrev described : Declaration
  described = declared_towards direction name (refs.Instance k)

  same-maps : e''.maps ≡ e.maps
  same-maps = ap (λ (z : WorldEncoder). z.maps) lists.rest ∙ ap (λ (z : WorldEncoder). z.maps) rest

  outer-then : e''.outer ≡ declared_after (append before.declared (Declarations.instance inner Declarations.no_more)) described
  outer-then = ap (λ (z : WorldEncoder). z.outer) lists.rest ∙ made ∙ ap (λ (z : Around). declared_after z.declared described) encodes.part.one_more

  known-then : e''.foreign.known.entries ≡ before.known
  known-then = ap (λ (z : WorldEncoder). z.foreign.known.entries) lists.rest ∙ ap (λ (z : Around). z.known) encodes.part.one_more

  listed-then : e''.foreign.instances.entries ≡ insert_entry nat_cmp e.foreign.instances.entries i.0 e'.instances
  listed-then = lists.listed ∙ ap (λ (es : List (ℕ × ℕ)). insert_entry nat_cmp es i.0 e'.instances)
      (ap (λ (z : Around). z.instances) encodes.part.one_more ∙ grown-listed r (world_around e) before encodes.part.aliases.grown)

  instances-then : instances_declared e''.outer ≡ instances_declared e.outer ++ (before.declared, inner) ∷ []
  instances-then = placed-instances r (world_around e) before encodes.part.aliases.grown inner described e''.outer outer-then

  among-then : (es : List Entry) → interfaces_among (es ++ x ∷ []) ≡ interfaces_among es ++ i.0 ∷ []
  among-then es = interfaces-more es (x ∷ []) ∙ ap (λ (ns : List ℕ). interfaces_among es ++ ns) (among-one x i.0 is)

  -- nothing is defined beside the instance type
  pub interface-defined : (es : List Entry) → HasDefined r e es → HasDefined r e'' (es ++ x ∷ [])
  interface-defined es h = defines-behind r e e'' es h x [] [] (no-function x i.0 is) (λ t c. none-in t c)
      (adds-alike refl same-maps refl refl refl (placed-slots r (world_around e) before encodes.part.aliases.grown inner described e''.outer outer-then is_value_type (λ a. refl)
      (towards-plain direction name (refs.Instance k)).0) (placed-targets r (world_around e) before encodes.part.aliases.grown inner described e''.outer outer-then
      (towards-target direction name (refs.Instance k) refl)) (placed-slots r (world_around e) before encodes.part.aliases.grown inner described e''.outer outer-then is_function_type (λ a. refl)
      (towards-function direction name (refs.Instance k))) (adds-nothing r (no_interface r) e.maps (world_definitions e.outer)))
      (subst (λ (m : TypeEncodingMaps). LearnsFrom r None [] e.maps m) (sym same-maps) (from-none r None [] e.maps))
      (subst (λ (ns : List ℕ). AllZip (DefinesInterface r) ns (instances_declared e''.outer)) (sym (among-then es))
      (subst (AllZip (DefinesInterface r) (interfaces_among es ++ i.0 ∷ [])) (sym instances-then)
      (zip-append (DefinesInterface r) (interfaces_among es) (instances_declared e.outer) (i.0 ∷ []) ((before.declared, inner) ∷ []) h.inside
      (defines-own r (world_around e) (world_around e') i def k there encodes, tt))))
      (subst (λ (ns : List ℕ). KeepsBehind r e''.instances (world_around e'') ns (map place_and_number h.keeps.has.made) (length (interfaces_among es))) (sym (among-then es)) keeps-then) asked-then
    where
      counted : e'.instances ≡ e.instances
      counted = ap (λ (z : WorldEncoder). z.instances) rest

      keeps-before : KeepsBehind r e.instances before (interfaces_among es) (map place_and_number h.keeps.has.made) (length (interfaces_among es))
      keeps-before = subst (λ (z : Around). KeepsBehind r e.instances z (interfaces_among es) (map place_and_number h.keeps.has.made) (length (interfaces_among es)))
          (sym encodes.part.aliases.grown.is) (keeps-aliases r e.instances (interfaces_among es) (map place_and_number h.keeps.has.made) (world_around e) encodes.part.aliases.grown.made
          encodes.part.aliases.grown.are (none-since h.keeps))

      keeps-then : KeepsBehind r e''.instances (world_around e'') (interfaces_among es ++ i.0 ∷ []) (map place_and_number h.keeps.has.made) (length (interfaces_among es))
      keeps-then = subst (λ (n : ℕ). KeepsBehind r n (world_around e'') (interfaces_among es ++ i.0 ∷ []) (map place_and_number h.keeps.has.made) (length (interfaces_among es)))
          (sym (ap (λ (z : WorldEncoder). z.instances) lists.rest ∙ ap (λ n. n + 1) counted))
          (keeps-instance r e.instances (interfaces_among es) i.0 (map place_and_number h.keeps.has.made) before (world_around e'')
          inner described outer-then (towards-plain direction name (refs.Instance k)).1 (ap length (interface-name direction name k))
          (listed-then ∙ (λ j. insert_entry nat_cmp (sym (grown-listed r (world_around e) before encodes.part.aliases.grown) j) i.0 (counted j))) known-then keeps-before)

      asked-then : (t : ℕ) → is_some (known_slot e''.foreign.known.entries t) ≡ true → (is_some (known_slot e.foreign.known.entries t) ≡ true) ⊎ IsAskedBy r x t
      asked-then t known = elim (known-among (world_around e) encodes.part.aliases.grown.made t
          (ap (λ (z : Around). is_some (known_slot z.known t)) (sym encodes.part.aliases.grown.is) ∙ ap (λ ks. is_some (known_slot ks t)) (sym known-then) ∙ known)) [
            | inl known ↦ inl known
            | inr n ↦ inr (inr (i.0, is, record { def = def; there = there; met = subst (λ (m : ℕ). IsMetElsewhere r (Some i) (whole_interface def) m) n.2 (encodes.part.aliases.met n.0 n.1) }))
          ]

  pub interface-few : (es : List Entry) → HoldsFew r e es → HoldsFew r e'' (es ++ x ∷ [])
  interface-few es h = record {
    listed = λ j f. subst (λ (ns : List ℕ). Contains ns j) (sym (among-then es))
        (elim (listed-cases i.0 e'.instances e.foreign.instances.entries j (ap (λ xs. is_some (known_instance xs j)) (sym listed-then) ∙ f)) [
          | inl same ↦ subst (Contains (interfaces_among es ++ i.0 ∷ [])) (sym same) (Contains-append_right (interfaces_among es) (i.0 ∷ []) i.0 (contains-one i.0))
          | inr old ↦ Contains-append_left (interfaces_among es) (i.0 ∷ []) j (h.listed j old)
        ]);
    held = (let few = h.held in
        let a : declaration_count e''.outer + length (brought_numbers r (world_around e)) ≤ declaration_count e.outer + (length (brought_numbers r (world_around e'')) + 2) =
        placed-few r (world_around e) before encodes.part.aliases.grown inner described e''.outer outer-then i.0 e'.instances e''.foreign.instances.entries e''.foreign.known.entries listed-then
        known-then in
        omega (arith, few, a, ap (λ (z : TypeEncodingMaps). length z.id_to_index.entries) same-maps, count-both es (x ∷ []), count-one x i.0 is));
  }

-- ---- no room

module _ (r : Resolve) (w : World) (e : WorldEncoder) (done : Entries) (direction : Direction) (x : Entry) (n : IsNext r w direction done x) (d : HasDefined r e (all_done done))
    (h : HoldsFew r e (all_done done)) (once : IsOnce e.maps) (i : InterfaceId) (is : item_interface x.1 ≡ Some i.0) where
  abbrev known : List ℕ
  known = known-numbers e.maps

  -- behind aliases, and one declaration more, the component type is full
  over-behind : (a : Around) → GrowsAround r (world_around e) a → (more : Declarations) → declaration_count more ≤ declaration_count a.declared + 1 → limit ≤ declaration_count more
      → WorldLacksRoom r w
  over-behind a g more one over =
      full r w e done direction x n d h (record a { declared = more }) (grown-listed r (world_around e) a g) known (known-once e.maps once)
      (λ m c. met-before r w e done direction x n d h m (known-number e.maps m c))
      (let o : length known ≡ length e.maps.id_to_index.entries = length-map e.maps.id_to_index.entries (λ (y : ℕ × ℕ). y.0) in
      let same : length (brought_numbers r (record a { declared = more })) ≡ length (brought_numbers r a) = refl in
      omega (arith, h.held, grown-few r (world_around e) a g, o, count-one x i.0 is, one, same)) over

  -- the instance type has none, or there is none for it
  pub instance-lacks : (def : Interface) → interface_at r i.0 ≡ Some def → InterfaceLacksRoom r i def ⊎ LacksInstanceRoom r i (whole_interface def) (world_around e) → WorldLacksRoom r w
  instance-lacks def there (inl l) = an_interface i def (contains-flat (λ (e : Entry). option_to_list (item_interface e.1)) (entries_in w) x i.0 (next-entry r w direction done x n)
      (subst (λ (o : Option ℕ). Contains (option_to_list o) i.0) (sym is) (contains-one i.0))) there l
  instance-lacks def there (inr l) =
      let few = outer-slots-few l.after.declared in
      over-behind l.after l.grown.grown l.after.declared (omega arith) (counts-refused (declaration_count l.after.declared) (type_slots_of l.after.declared + 1) (omega (arith, few)) l.full)

  -- its import or export has none
  pub placed-lacks : (canonical : Bool) (name : ExternName) (k : ℕ) (a : Around) (def : Interface) → EncodesInterface r (world_around e) a i def k → name ≡ name_of_item r canonical x
      → LacksDeclaration a.declared (declared_towards direction name (refs.Instance k)) → WorldLacksRoom r w
  placed-lacks canonical name k a def encodes named =
      by-name direction name (refs.Instance k) a.declared refl (λ u. a_name canonical x (next-entry r w direction done x n) (no-type x i.0 is) (ap fits_name (sym named) ∙ u))
      (over-behind encodes.part.before encodes.part.aliases.grown a.declared
      (one-behind encodes.part.before (from_list encodes.part.declared) a.declared (ap (λ (z : Around). z.declared) encodes.part.one_more)))

-- ---- The imports of a world, or its exports, one after the other.

-- where these are done
abbrev pub so_far : Direction → World → List Entry → Entries
so_far import_ w front = (front, [])
so_far export_ w front = (w.imports.entries, front)

-- What holds before each of the imports, or exports: those before it are done.
pub record Goes (r : Resolve) (canonical : Bool) (e e' : WorldEncoder) (direction : Direction) (entries rest : List Entry) : Type 0 where
  pub front : List Entry
  pub split : entries ≡ front ++ rest
  pub shown : (w : World) → HasShown r w e (begun direction w) → HasShown r w e' (so_far direction w front)
  pub names : NamesMore r canonical front e.outer e'.outer
  pub defines : DefinesAll r e e' front
  pub holds : HoldsAll r e e' front
  pub written : AddsLearnt r (items_extent r canonical front) e.maps e'.maps e.outer e'.outer

pub goes-first : (r : Resolve) (canonical : Bool) (e : WorldEncoder) (direction : Direction) (entries rest : List Entry) → rest ≡ entries → Goes r canonical e e direction entries rest
goes-first r canonical e direction entries rest same = record {
  front = [];
  split = sym same;
  shown = begins direction;
  names = names-nothing r canonical e.outer;
  defines = λ es h. subst (HasDefined r e) (sym (append-nil es)) h;
  holds = λ es h. subst (HoldsFew r e) (sym (append-nil es)) h;
  written = learnt-nothing r e.maps e.outer;
}
  where
    begins : (direction : Direction) (w : World) → HasShown r w e (begun direction w) → HasShown r w e (so_far direction w [])
    begins import_ w h = h
    begins export_ w h = h

-- the next one
pub record NextEntry (r : Resolve) (e' : WorldEncoder) (direction : Direction) (x : Entry) : Type 0 where
  pub world : World
  pub done : Entries
  pub shown : HasShown r world e' done
  pub next : IsNext r world direction done x

world-of : (r : Resolve) (e : WorldEncoder) (w v : World) (d d' : Entries) → HasShown r w e d → HasShown r v e d' → v ≡ w
world-of r e w v d d' h k = search std_rules

with-behind : (direction : Direction) (w : World) (front : List Entry) (x : Entry) → with_entry direction (so_far direction w front) x ≡ so_far direction w (front ++ x ∷ [])
with-behind import_ w front x = refl
with-behind export_ w front x = refl

done-behind : (direction : Direction) (w : World) (front : List Entry) → all_done (begun direction w) ++ front ≡ all_done (so_far direction w front)
done-behind import_ w front = sym (append-nil front)
done-behind export_ w front = ap (λ (es : List Entry). es ++ front) (append-nil w.imports.entries)

module _ (r : Resolve) (canonical : Bool) (e e' : WorldEncoder) (direction : Direction) (entries rest : List Entry) where
  next-is : (more : List Entry) (x : Entry) → AwaitsAll r e direction entries → (g : Goes r canonical e e' direction entries rest) → rest ≡ x ∷ more → (w : World)
      → HasShown r w e (begun direction w) → IsNext r w direction (so_far direction w g.front) x
  next-is more x a g is w h = by direction (sym (a.are ∙ ap (entries_of direction) (sym (world-of r e a.world w _ _ a.shown h))) ∙ g.split ∙ ap (λ (xs : List Entry). g.front ++ xs) is)
    where
      by : (direction : Direction) → entries_of direction w ≡ g.front ++ x ∷ more → IsNext r w direction (so_far direction w g.front) x
      by import_ q = record { rest = more; next = q; begun = refl }
      by export_ q = record { rest = more; next = q; begun = refl }

  pub goes-next : (more : List Entry) (x : Entry) → AwaitsAll r e direction entries → Goes r canonical e e' direction entries rest → rest ≡ x ∷ more → NextEntry r e' direction x
  goes-next more x a g is = record { world = a.world; done = so_far direction a.world g.front; shown = g.shown a.world a.shown; next = next-is more x a g is a.world a.shown }

  -- the next one has no room
  pub goes-lacks : (more : List Entry) (x : Entry) → AwaitsAll r e direction entries → Goes r canonical e e' direction entries rest → rest ≡ x ∷ more
      → ((w : World) (done : Entries) → HasShown r w e' done → IsNext r w direction done x → HasDefined r e' (all_done done) → HoldsFew r e' (all_done done) → WorldLacksRoom r w)
      → LacksRoomTowards r e direction
  goes-lacks more x a g is lacks w h d few = lacks w (so_far direction w g.front) (g.shown w h) (next-is more x a g is w h)
      (subst (HasDefined r e') (done-behind direction w g.front) (g.defines (all_done (begun direction w)) d))
      (subst (HoldsFew r e') (done-behind direction w g.front) (g.holds (all_done (begun direction w)) few))

  pub goes-whole : AwaitsAll r e direction entries → Goes r canonical e e' direction entries rest → rest ≡ [] → EncodesAll r e e' direction
  goes-whole a g none w h = search std_rules

  module _ (g : Goes r canonical e e' direction entries rest) (none : rest ≡ []) where
    pub names-whole : NamesMore r canonical entries e.outer e'.outer
    names-whole = search std_rules

    pub defines-whole : DefinesAll r e e' entries
    defines-whole = subst (DefinesAll r e e') (sym (g.split ∙ ap (λ (xs : List Entry). g.front ++ xs) none ∙ append-nil g.front)) g.defines

    pub holds-whole : HoldsAll r e e' entries
    holds-whole = subst (HoldsAll r e e') (sym (g.split ∙ ap (λ (xs : List Entry). g.front ++ xs) none ∙ append-nil g.front)) g.holds

    pub written-whole : AddsLearnt r (items_extent r canonical entries) e.maps e'.maps e.outer e'.outer
    written-whole = search std_rules

pub goes-on : (r : Resolve) (canonical : Bool) (e e' e'' : WorldEncoder) (direction : Direction) (entries rest more : List Entry) (x : Entry) → AwaitsAll r e direction entries
    → Goes r canonical e e' direction entries rest → rest ≡ x ∷ more
    → ((w : World) (done : Entries) → HasShown r w e' done → IsNext r w direction done x → HasShown r w e'' (with_entry direction done x)) → NamesMore r canonical (x ∷ []) e'.outer e''.outer
    → DefinesAll r e' e'' (x ∷ []) → HoldsAll r e' e'' (x ∷ []) → AddsLearnt r (items_extent r canonical (x ∷ [])) e'.maps e''.maps e'.outer e''.outer → Goes r canonical e e'' direction entries more
goes-on r canonical e e' e'' direction entries rest more x a g is encodes named defines holds written = record {
  front = g.front ++ x ∷ [];
  split = g.split ∙ ap (λ (xs : List Entry). g.front ++ xs) is ∙ sym (append_assoc g.front (x ∷ []) more);
  shown = λ w h. subst (HasShown r w e'') (with-behind direction w g.front x)
      (encodes w (so_far direction w g.front) (g.shown w h) (next-is r canonical e e' direction entries rest more x a g is w h));
  names = names-then r canonical g.front (x ∷ []) e.outer e'.outer e''.outer g.names named;
  defines = λ es h. subst (HasDefined r e'') (append_assoc es g.front (x ∷ [])) (defines (es ++ g.front) (g.defines es h));
  holds = λ es h. subst (HoldsFew r e'') (append_assoc es g.front (x ∷ [])) (holds (es ++ g.front) (g.holds es h));
  written = learnt-most (omega (arith, sum_by-append (item_extent r canonical) g.front (x ∷ []))) (learnt-then g.written written);
}

-- ---- a type of a world, imported behind what has been

module _ (r : Resolve) (v : IsValid r) (w : World) (e : WorldEncoder) (done : Entries) (h : HasShown r w e done) (k : WorldKey) (id : TypeId) (n : IsNext r w import_ done (k, item.Type_ id)) where
  abbrev entry : Entry
  entry = (k, item.Type_ id)

  abbrev place : ℕ
  place = length (done_items done)

  abbrev home : TypeOwner
  home = owner.World e.world

  at : slice_get (items_of w) place ≡ Some (item.Type_ id)
  at = next-place r w import_ done entry n

  own : IsTypeOf r home id
  own = own-type r v e.world w h.world_ place id at

  found : (x : String Global) × (own.def.name ≡ Some x)
  found = some-of own.def.name own.named_

  abbrev name : String Global
  name = found.0

  name-is : own.def.name ≡ Some name
  name-is = found.1

  -- ---- it can be encoded

  pub can-encode-type : CanEncode r (world_view_of r e).scope (ty.Id id ∷ [])
  can-encode-type = types_encode r home (world_view_of r e).scope id v (scope-of r v w e done h import_ entry n) own
      (items_meet_standing r e.world w place (item.Type_ id) (world_view_of r e).scope v h.world_ at (scope-of r v w e done h import_ entry n) (stand-before r v w e done h import_ entry n))

  -- ---- it is listed once, and alone under its name

  listed-at : (m : ℕ) (def : TypeDef) (x : String Global) → type_at r m ≡ Some def → def.name ≡ Some x → def.owner ≡ home → is_listed_in_world m (text_of x) w ≡ true
  listed-at m def x there named owned =
      let listed : is_listed r m (text_of x) home ≡ true = sym (λ i. option_map_or (λ y. is_listed r m (text_of y) (owned i)) (named i) (same_owner (owned i) owner.None)) ∙ named-listed r v m
      def there in
      subst (λ (o : Option World). passes (is_listed_in_world m (text_of x)) o ≡ true) h.world_ listed

  -- a declaration of the world under this name is that of the type
  declared-alone : (y : Text × TypeMeaning) → Contains (world_view_of r e).scope.declarations y → y.0 ≡ text_of name → y ≡ (text_of name, type_meaning r own.def)
  declared-alone y c same =
      let found = contains-flat-from (declaration_in r home) r.types.items y c in
      let spot = contains-get r.types.items found.0 found.1 in
      by-owner found.0 spot.0 spot.1 (same_owner home found.0.owner) refl found.2
    where
      by-name : (def : TypeDef) (m : ℕ) → type_at r m ≡ Some def → def.owner ≡ home → (o : Option (String Global)) → def.name ≡ o → Contains (named_declaration r o def) y
          → y ≡ (text_of name, type_meaning r own.def)
      by-name def m there owned None named c = none-in y c
      by-name def m there owned (Some x) named c =
          let is : (text_of x, type_meaning r def) ≡ y = one-contained (text_of x, type_meaning r def) y c in
          let text : text_of x ≡ text_of name = ap (λ (z : Text × TypeMeaning). z.0) is ∙ same in
          let theirs : is_listed_in_world m (text_of name) w ≡ true = subst (λ (t : Text). is_listed_in_world m t w ≡ true) text (listed-at m def x there named owned) in
          let ours : is_listed_in_world id.0 (text_of name) w ≡ true = listed-at id.0 own.def name own.there name-is own.owned in
          let one : m ≡ id.0 = one-number m id.0 _ (first_true (is_id m _) _ theirs) (first_true (is_id id.0 _) _ ours) in
          sym is ∙ (λ i. (text i, type_meaning r ((same-some def own.def (sym there ∙ ap (type_at r) one ∙ own.there)) i)))

      by-owner : (def : TypeDef) (m : ℕ) → type_at r m ≡ Some def → (b : Bool) → same_owner home def.owner ≡ b → Contains (cond b (named_declaration r def.name def) []) y
          → y ≡ (text_of name, type_meaning r own.def)
      by-owner def m there false q c = none-in y c
      by-owner def m there true q c = by-name def m there (sym (same-owner home def.owner q)) def.name refl c

  -- ---- it isn't known yet, and nothing else of the world is met that isn't known

  named : own_name r (world_view_of r e).scope id.0 ≡ Some (text_of name)
  named =
      let at_home : foreign_owner None own.def.owner ≡ None = ap (foreign_owner None) own.owned in
      ap (option_and_then (name_of_own (world_view_of r e).scope)) own.there ∙ (λ i. cond (is_none (at_home i)) (option_map text_of (name-is i)) None)

  types-of-world : world_type_numbers w ≡ types_among done.0 ++ (id.0 ∷ types_among n.rest)
  types-of-world = ap (λ (es : List Entry). filter_map item_type (map second es)) n.next ∙ types-given (done.0 ++ entry ∷ n.rest) ∙ filter_map-append _ done.0 (entry ∷ n.rest)

  fresh : IsKnown e.maps id.0 → ⊥
  fresh q = elim (h.alone id.0 q) [
    | inl none ↦ (cc (sym named ∙ none))
    | inr c ↦ (let ours = listed-at id.0 own.def name own.there name-is own.owned in
        let once : (count_by (λ m. m == id.0) (world_type_numbers w) == 1) ≡ true = second_true (is_id id.0 _) _ ours in
        let before : Contains (types_among done.0) id.0 = subst (λ (es : List Entry). Contains (types_among es) id.0) (ap (λ (es : List Entry). done.0 ++ es) n.begun ∙ append-nil done.0) c in
        once-before (world_type_numbers w) (length (types_among done.0)) id.0
        (ap (λ ns. slice_get ns (length (types_among done.0))) types-of-world ∙ middle_get (types_among done.0) id.0 (types_among n.rest)) once
        (subst (λ (ns : List ℕ). Contains ns id.0) (sym (ap (take (length (types_among done.0))) types-of-world ∙ take-append_seam (types_among done.0) (id.0 ∷ types_among n.rest))) before))
  ]

  parts-known : (part : TypeId) → Contains (parts_of own.def.kind) (ty.Id part) → (def' : TypeDef) → type_at r part.0 ≡ Some def' → foreign_owner None def'.owner ≡ None → (y : ℕ)
      → Contains (met_by (met_of r) part.0) y → IsKnown e.maps y
  parts-known part c def' at' at_home y met = h.known y (subst (λ (ns : List ℕ). Contains ns y) (ap (filter_map item_type) (before-next r w import_ done entry n) ∙ types-given (all_done done))
      (parts-listed r v e.world w h.world_ place id at own part c def' at' at_home y met))

  -- ---- what a call learns

  module _ (e' : WorldEncoder) (leaves : Leaves r (world_encoder_view e) (world_encoder_view e')) (only : LearnsOnly (MetFrom r None e.maps (ty.Id id ∷ [])) e.maps e'.maps)
      (shows : Shows r (world_encoder_view e).scope e.maps e'.maps (world_definitions e.outer) (world_definitions e'.outer)) (ready : IsReady e'.maps (ty.Id id)) where
    one-name : filter_map (λ y. own_name r (world_view_of r e).scope y.0) shows.learnt ≡ text_of name ∷ []
    one-name = only-name r v (world_encoder_view e).scope e.maps id own.def own.there parts-known (text_of name) named fresh e'.maps (world_definitions e.outer) (world_definitions e'.outer)
        leaves.agree.once ready only shows

    one-shown : shows.shown ≡ (text_of name, type_meaning r own.def) ∷ []
    one-shown =
        let one = one-mapped (λ (y : Text × TypeMeaning). y.0) shows.shown (text_of name) (shows.names ∙ one-name) in
        let declared : Contains (world_view_of r e).scope.declarations one.0 = subst (λ (z : Resolve). Contains (world_view_of z e).scope.declarations one.0) h.packages_
        (shows.declared one.0 (subst (λ (ys : List (Text × TypeMeaning)). Contains ys one.0) (sym one.1) (contains-one one.0))) in
        one.1 ∙ ap (λ y. y ∷ []) (declared-alone one.0 declared one.2)

    imported : Contains w.imports.entries entry
    imported = elim (Contains-append_cases w.imports.entries w.exports.entries entry (next-entry r w import_ done entry n)) [
      | inl c ↦ c
      | inr c ↦ absurd (no-type-exported r v e.world w h.world_ k id c)
    ]

    seen-right : type_seen (text_of name, type_meaning r own.def) ≡ record
        { key = key_text r k; shown = Shown.declares (type_meaning_at r id.0).declaration; external_id = (type_meaning_at r id.0).external_id }
    seen-right =
        let meaning : type_meaning r own.def ≡ type_meaning_at r id.0 = ap (λ (o : Option TypeDef). option_map_or (type_meaning r) o no_type) (sym own.there) in
        λ i. type_seen ((type-key r v e.world w h.world_ k id imported own name name-is) i, meaning i)

    abbrev nothing_viewed : View
    nothing_viewed = record { types = []; functions = [] }

    types-then : types_among (all_done (done.0 ++ entry ∷ [], done.1)) ≡ types_among (all_done done) ++ (id.0 ∷ [])
    types-then = ap types_among (done-next r w import_ done entry n) ∙ filter_map-append _ (all_done done) (entry ∷ [])

    pub type-imported : HasShown r w e' (done.0 ++ entry ∷ [], done.1)
    type-imported = types-shown r w e e' done h leaves.scope_stays leaves.grows ((text_of name, type_meaning r own.def) ∷ [])
        (shows.exports ∙ ap (λ ys. (world_definitions e.outer).exports ++ ys) one-shown) (entry ∷ []) (record { view = nothing_viewed; is_view = tt; is = seen-right }, tt) refl (inl n.begun)
        leaves.agree (λ m c. elim (Contains-append_cases (types_among (all_done done)) (id.0 ∷ []) m (subst (λ (ns : List ℕ). Contains ns m) types-then c)) [
          | inl q ↦ (let old = h.known m q in (old.0, leaves.maps_grow.keeps (by_number m) old.0 old.1))
          | inr q ↦ subst (λ (x : ℕ). IsKnown e'.maps x) (one-contained id.0 m q) (ready id refl)
        ]) (λ m q. elim (only.each m q.0 q.1) [
          | inl old ↦ elim (h.alone m (q.0, old)) [
            | inl nothing ↦ inl nothing
            | inr c ↦ inr (subst (λ (ns : List ℕ). Contains ns m) (sym types-then) (Contains-append_left (types_among (all_done done)) (id.0 ∷ []) m c))
          ]
          | inr met ↦ by-number m met (m == id.0) refl
        ])
      where
        by-number : (m : ℕ) → MetFrom r None e.maps (ty.Id id ∷ []) m → (b : Bool) → (m == id.0) ≡ b → (own_name r (world_view_of r e).scope m ≡ None)
            ⊎ Contains (types_among (all_done (done.0 ++ entry ∷ [], done.1))) m
        by-number m met true q = inr (subst (λ (ns : List ℕ). Contains ns m) (sym types-then)
            (Contains-append_right (types_among (all_done done)) (id.0 ∷ []) m (subst (λ (x : ℕ). Contains (id.0 ∷ []) x) (sym (equal m id.0 q)) (contains-one id.0))))
        by-number m met false q = inl (met-no-other r v (world_view_of r e).scope e.maps id own.def own.there parts-known m met
            (λ same. cc (sym (subst (λ (x : ℕ). (m == x) ≡ true) same (same-number m)) ∙ q)))

-- ---- the call, by the item and the list that it stands in

-- a type is no export
type-next : (r : Resolve) → IsValid r → (w : World) (e : WorldEncoder) (done : Entries) → HasShown r w e done → (k : WorldKey) (id : TypeId) (direction : Direction)
    → IsNext r w direction done (k, item.Type_ id) → direction ≡ import_
type-next r v w e done h k id import_ n = refl
type-next r v w e done h k id export_ n = absurd (no-type-exported r v e.world w h.world_ k id
    (subst (λ (es : List Entry). Contains es (k, item.Type_ id)) (sym n.next)
    (Contains-append_right done.1 ((k, item.Type_ id) ∷ n.rest) (k, item.Type_ id) (contains-first (k, item.Type_ id) n.rest))))

pub type-encodable : (r : Resolve) → IsValid r → (w : World) (e : WorldEncoder) (done : Entries) → HasShown r w e done → (k : WorldKey) (id : TypeId) (i : WorldItem) → i ≡ item.Type_ id
    → (direction : Direction) → IsNext r w direction done (k, i) → CanEncode r (world_view_of r e).scope (ty.Id id ∷ [])
type-encodable r v w e done h k id i is direction n =
    let m : IsNext r w direction done (k, item.Type_ id) = subst (λ (j : WorldItem). IsNext r w direction done (k, j)) is n in
    can-encode-type r v w e done h k id (subst (λ (z : Direction). IsNext r w z done (k, item.Type_ id)) (type-next r v w e done h k id direction m) m)

pub type-encoded : (r : Resolve) → IsValid r → (w : World) (e e' : WorldEncoder) (done : Entries) → HasShown r w e done → (k : WorldKey) (id : TypeId) (i : WorldItem) → i ≡ item.Type_ id
    → (direction : Direction) → IsNext r w direction done (k, i) → Leaves r (world_encoder_view e) (world_encoder_view e') → LearnsOnly (MetFrom r None e.maps (ty.Id id ∷ [])) e.maps e'.maps
    → Shows r (world_encoder_view e).scope e.maps e'.maps (world_definitions e.outer) (world_definitions e'.outer) → IsReady e'.maps (ty.Id id) → HasShown r w e' (with_entry direction done (k, i))
type-encoded r v w e e' done h k id i is direction n leaves only shows ready =
    let m : IsNext r w direction done (k, item.Type_ id) = subst (λ (j : WorldItem). IsNext r w direction done (k, j)) is n in
    let d : direction ≡ import_ = type-next r v w e done h k id direction m in
    let made : HasShown r w e' (with_entry import_ done (k, item.Type_ id)) =
    type-imported r v w e done h k id (subst (λ (z : Direction). IsNext r w z done (k, item.Type_ id)) d m) e' leaves only shows ready in
    subst (λ (j : WorldItem). HasShown r w e' (with_entry direction done (k, j))) (sym is) (subst (λ (z : Direction). HasShown r w e' (with_entry z done (k, item.Type_ id))) (sym d) made)
