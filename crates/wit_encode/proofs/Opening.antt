-- An interface that is opened, encoded and closed again.
use Rattle.std.proofs.Common.{rules as std_rules, ◌≡◌, refl, sym, ap, ◌∙◌, true, List, [], ◌++◌, Option, Some, None, Result, Ok, Err, ℕ, ◌∷◌, Contains, subst, Bool, false, OnErr, if◌then◌else◌, filter, length, arith}
use Rattle.std.proofs.lemmas.{List.Elements.All-contains, List.Elements.filter_passes, List.Sorted.IsPermutation-map, Option.same_Some as some-same}
use Rattle.std.proofs.lemmas.List.Sorted.{Contains-permutation, IsPermutation-sym}
use Rattle.std.specs.{Prelude.IsPermutation, Prelude.IfOk, Prelude.map, Prelude.String, Borrow.Bor, List.list_all, Option.option_map_or}
use Rattle.std.specs.declared.alloc.Global.{Global}
use Rattle.wit_model.specs.declared.model.{Interface.Interface, Function.Function, Resolve.Resolve, InterfaceId.InterfaceId, TypeId.TypeId}
use Rattle.comp_bytes.specs.{Held.type_slots_of, Raw.Declaration, Raw.Declarations, Raw.append, Raw.from_list}
use Rattle.wit_model.specs.{Text.Text, Tree.Place, Meaning.FunctionMeaning, Meant.interface_meaning_at, Lookup.place_of, Lookup.interface_at, Valid.IsValid}
use Rattle.comp_meaning.specs.Follow.{View, instance_view, Slot, new_scope, in_scope}
use Rattle.encode_types.specs.declared.maps.TypeEncodingMaps.{TypeEncodingMaps}
use Rattle.wit_encode.specs.declared.interface.{OpenInterface.OpenInterface, Foreign.Foreign}
use Rattle.encode_types.specs.Known.{Around, GrowsAround, stands_around, are_right, below, outer_scope, outer_instances}
use Rattle.encode_types.specs.{Scope.Scope, Slots.Keeps}
use Rattle.wit_encode.proofs.{Components.steps-instance, Outside.instance-keeps, ShownSlots.interface-shown, Calls.InnerAt, Calls.inner-at, Importing.grown-keeps, Importing.grown-stands, Importing.right-more}
use Rattle.wit_encode.specs.Exports.{AreTypesOf}
use Rattle.wit_encode.specs.Instance.{is_slot_of, no_view, outer_slots, inner_contents, outer_contents, stands_in, SlotsStand, own_of, around_at, standing_instances, resources_in, contents_of, encoder_scope, opened, keyed, placed_function, is_sound_in, IsInstance, Continues, definitions_with}
use Rattle.indexmap.specs.IndexMap.{values}
use Rattle.base_lemmas.proofs.{Bools.left_of as first_true, Bools.right_of as second_true, Lists.map_of_map as map-twice}
use Rattle.wit_model.specs.declared.model.TypeOwner.TheVariants as owner
use Rattle.comp_meaning.specs.Follow as follow

-- another component type, and what is listed beside it
pub around-moves : {o o' : Declarations} {f f' : Foreign} → o ≡ o' → f ≡ f' → around_at o f ≡ around_at o' f'
around-moves p q = λ j. around_at (p j) (q j)

pub opened-sound : (r : Resolve) (outer : Declarations) (i : InterfaceId) (known : Foreign) → (encoder_scope r outer (opened i known)).is_sound ≡ true
unfolding inner_contents
opened-sound r outer i known = refl

pub opened-around : (r : Resolve) (outer : Declarations) (i : InterfaceId) (known : Foreign) (j : ℕ) → Contains (standing_instances r (around_at outer known)) j
    → Contains (encoder_scope r outer (opened i known)).instances j
unfolding inner_contents
opened-around r outer i known j c = c

pub opened-shows : (r : Resolve) (outer : Declarations) (i : InterfaceId) (known : Foreign) → (contents_of r outer (opened i known)).shown.functions ≡ []
unfolding inner_contents
opened-shows r outer i known = refl

pub opened-exports : (r : Resolve) (outer : Declarations) (i : InterfaceId) (known : Foreign) → (definitions_with (contents_of r outer (opened i known))).exports ≡ []
unfolding inner_contents
opened-exports r outer i known = refl

view-at : (place : Place) (outer : Declarations) (ds : List Declaration) → (inner_contents place outer ds).is_followed ≡ true
    → instance_view place (outer_slots outer) ds ≡ Some (inner_contents place outer ds).shown
unfolding inner_contents
view-at place outer ds e = search std_rules

shown-at : (place : Place) (outer : Declarations) (ds : List Declaration) (a : InnerAt place outer ds) → (inner_contents place outer ds).shown ≡ a.scope.shown
unfolding inner_contents
shown-at place outer ds a = ap (λ o. option_map_or (λ s. s.shown) o no_view) a.is

-- what has been declared in it when it is closed, which can be followed
pub record Closed (r : Resolve) (outer' : Declarations) (i : InterfaceId) (inner' : Option OpenInterface) (current : OpenInterface) : Type 0 where
  pub at : contents_of r outer' inner' ≡ inner_contents (place_of r (owner.Interface i)) outer' current.declared
  pub sound : is_sound_in r (Some i) (inner_contents (place_of r (owner.Interface i)) outer' current.declared) ≡ true

pub closed : (r : Resolve) (outer outer' : Declarations) (i : InterfaceId) (known : Foreign) (inner' : Option OpenInterface) (current : OpenInterface) (m m' : TypeEncodingMaps) → inner' ≡ Some current
    → own_of inner' ≡ Some i → Continues r r outer outer' (opened i known) inner' m m' → Closed r outer' i inner' current
closed r outer outer' i known inner' current m m' is own c =
    let same : current.interface ≡ i = (let e : Some current.interface ≡ Some i = sym (ap own_of is) ∙ own in let z : current.interface ≡ i = cc in z) in
    let at : contents_of r outer' inner' ≡ inner_contents (place_of r (owner.Interface i)) outer' current.declared =
    (λ j. contents_of r outer' (is j)) ∙ ap (λ (k : InterfaceId). inner_contents (place_of r (owner.Interface k)) outer' current.declared) same in
    record { at = at; sound = (λ j. is_sound_in r (sym own j) (sym at j)) ∙ (ap (λ (s : Scope). s.is_sound) c.scope_stays ∙ opened-sound r outer i known) }

-- what is closed is an instance type that can be followed
pub closed-instance : (r : Resolve) → IsValid r → (outer outer' : Declarations) (i : InterfaceId) (def : Interface) → interface_at r i.0 ≡ Some def
    → (known : Foreign) (inner' : Option OpenInterface) (current : OpenInterface) (m m' : TypeEncodingMaps) (fs : List (Text × FunctionMeaning)) → inner' ≡ Some current → own_of inner' ≡ Some i
    → Continues r r outer outer' (opened i known) inner' m m' → (contents_of r outer' inner').shown.functions ≡ (contents_of r outer (opened i known)).shown.functions ++ fs
    → (definitions_with (contents_of r outer' inner')).exports ≡ (interface_meaning_at r i.0).types → IsInstance r outer' i current.declared fs
closed-instance r v outer outer' i def there known inner' current m m' fs is own c h exported =
    let place = place_of r (owner.Interface i) in
    let inside = inner_contents place outer' current.declared in
    let there_ = closed r outer outer' i known inner' current m m' is own c in
    let at : contents_of r outer' inner' ≡ inside = there_.at in
    let all : is_sound_in r (Some i) inside ≡ true = there_.sound in
    let followed : inside.is_followed ≡ true = first_true inside.is_followed _ all in
    let a = inner-at place outer' current.declared followed in
    let shown = shown-at place outer' current.declared a in
    record {
      view = inside.shown;
      followed = view-at place outer' current.declared followed;
      shows = sym (ap (λ z. z.shown.functions) at) ∙ h ∙ ap (λ zs. zs ++ fs) (opened-shows r outer i known);
      types = ap (λ (w : View). w.types) shown ∙ interface-shown r v i def there (outer_slots outer') current.declared a.scope a.is
          (ap (list_all (is_slot_of (resources_in r (Some i)))) (sym a.slots) ∙ second_true inside.is_followed _ all)
          (ap (λ (w : View). map (λ t. (t.name, t.meaning)) w.types) (sym shown) ∙ sym (ap (λ z. (definitions_with z).exports) at) ∙ exported);
    }

-- the interface whose types are listed
pub listed-there : (r : Resolve) (i : InterfaceId) (types : List TypeId) (h : AreTypesOf r (Some i) types) → interface_at r i.0 ≡ Some h.def
listed-there r i types h = ap (λ (x : InterfaceId). interface_at r x.0) (some-same i h.id h.is) ∙ h.there

-- an interface is opened with what is known
pub opened-with : (i : InterfaceId) (ds : List Declaration) (known known' : Foreign) → ds ≡ [] → known ≡ known'
    → ◌≡◌ {A = Option OpenInterface} (Some (record { interface = i; declared = ds; foreign = known })) (opened i known')
opened-with i ds known known' e f = λ j. Some (record { interface = i; declared = e j; foreign = f j })

abbrev pub Placed : Type 0
Placed = ℕ × Bor (String Global) × Bor Function

pub values-permuted : (def : Interface) (fs : List Placed) → IsPermutation (map keyed def.functions.entries) (map placed_function fs) → IsPermutation (values def.functions) (map (λ f. f.2.now) fs)
values-permuted def fs p = subst (λ (xs : List Function). IsPermutation xs (map (λ f. f.2.now) fs)) (map-twice (λ (x : Text × Function). x.1) keyed def.functions.entries)
    (subst (λ (xs : List Function). IsPermutation (map (λ x. x.1) (map keyed def.functions.entries)) xs)
    (map-twice (λ (x : Text × Function). x.1) placed_function fs) (IsPermutation-map (λ (x : Text × Function). x.1) _ _ p))

-- what stands in a list stands in those that it is a permutation of
pub permuted-contains : {A : Type 0} (xs ys : List A) (y : A) → IsPermutation xs ys → Contains ys y → Contains xs y
permuted-contains xs ys y p c = Contains-permutation ys xs y (IsPermutation-sym xs ys p) c

-- what follows of what is answered

pub close-each : {E D : Type 0} (res : Result ℕ E) (is : D → Type 0) (P : D → ℕ → Type 0) (d : D) → is d → ((d : D) → is d → IfOk res (P d)) → IfOk res (λ k. (d : D) → is d → P d k)
close-each x is y d h all = search std_rules

outer-slots : (outer : Declarations) → (outer_contents outer).slots ≡ outer_slots outer
unfolding outer_contents
outer-slots outer = refl

-- what old slots stand for stays behind aliases
grown-slots : (r : Resolve) (a : Around) (outer : Declarations) (foreign : Foreign) → GrowsAround r a (around_at outer foreign)
    → Keeps (SlotsStand (outer_contents a.declared).slots) (SlotsStand (outer_contents outer).slots)
grown-slots r a outer foreign grown =
    let aliases : Keeps (SlotsStand (outer_slots a.declared)) (SlotsStand (outer_slots outer)) =
    subst (λ (z : Around). Keeps (SlotsStand (outer_slots a.declared)) (SlotsStand (outer_slots z.declared))) (sym grown.is) (grown-keeps r a grown.made grown.are) in
    λ i m s. subst (λ xs. SlotsStand xs i m) (sym (outer-slots outer)) (aliases i m (subst (λ xs. SlotsStand xs i m) (outer-slots a.declared) s))

-- where no interface is open
outside-keeps : (r r' : Resolve) (outer outer' : Declarations) (inner inner' : Option OpenInterface) → inner ≡ None → inner' ≡ None
    → Keeps (SlotsStand (outer_contents outer).slots) (SlotsStand (outer_contents outer').slots) → Keeps (stands_in r outer inner) (stands_in r' outer' inner')
outside-keeps r r' outer outer' inner inner' x y keeps = search std_rules

pub reached-keeps : (r r' : Resolve) (a : Around) (outer : Declarations) (foreign : Foreign) (inner inner' : Option OpenInterface) → inner ≡ None → inner' ≡ None
    → GrowsAround r a (around_at outer foreign) → Keeps (stands_in r a.declared inner) (stands_in r' outer inner')
reached-keeps r r' a outer foreign inner inner' x y grown = outside-keeps r r' a.declared outer inner inner' x y (grown-slots r a outer foreign grown)

-- and behind one instance type more, or none
pub closed-keeps : {E : Type 0} (res : Result ℕ E) (r r' : Resolve) (a : Around) (outer outer' : Declarations) (foreign : Foreign) (inner inner' : Option OpenInterface) (es : List Declaration)
    → inner ≡ None → inner' ≡ None → GrowsAround r a (around_at outer foreign)
    → IfOk res (λ k. (k ≡ type_slots_of outer) × (outer' ≡ append outer (Declarations.instance (from_list es) Declarations.no_more))) → OnErr res (outer' ≡ outer)
    → Keeps (stands_in r a.declared inner) (stands_in r' outer' inner')
closed-keeps (Err e) r r' a outer outer' foreign inner inner' es x y grown h err =
    subst (λ (z : Declarations). Keeps (stands_in r a.declared inner) (stands_in r' z inner')) (sym err) (reached-keeps r r' a outer foreign inner inner' x y grown)
closed-keeps (Ok k) r r' a outer outer' foreign inner inner' es x y grown h err =
    let before = grown-slots r a outer foreign grown in
    outside-keeps r r' a.declared outer' inner inner' x y
    (subst (λ (z : Declarations). Keeps (SlotsStand (outer_contents a.declared).slots) (SlotsStand (outer_contents z).slots)) (sym h.1) (λ i m s. instance-keeps outer es i m (before i m s)))

-- ---- instances that stand around

none-stands : (r : Resolve) (listed : List (ℕ × ℕ)) (j : ℕ) → stands_around r listed [] j ≡ true → ⊥
none-stands r listed j h = search std_rules

module _ (r : Resolve) (foreign : Foreign) (outer : Declarations) (es : List Declaration) where
  abbrev one-more : Declarations
  one-more = append outer (Declarations.instance (from_list es) Declarations.no_more)

  instances-then : (j : ℕ) → (o : Option follow.Scope) → outer_scope outer ≡ o → (b : Bool) → are_right r foreign.known.entries (outer_slots outer) ≡ b
      → Contains (if b then filter (stands_around r foreign.instances.entries (outer_instances outer)) (below (length r.interfaces.items)) else []) j
      → Contains (standing_instances r (around_at one-more foreign)) j
  instances-then j o q false right (k, l, e) = absurd (omega (arith, l))
  instances-then j None q true right h =
      let test = stands_around r foreign.instances.entries (outer_instances outer) in
      let passes : test j ≡ true = All-contains (λ x. test x ≡ true) (filter test (below (length r.interfaces.items))) j (filter_passes test (below (length r.interfaces.items))) h in
      absurd (none-stands r foreign.instances.entries j (ap (λ z. stands_around r foreign.instances.entries (option_map_or (λ s. s.instances) z []) j) (sym q) ∙ passes))
  instances-then j (Some s) q true right h =
      let x = Slot.instance es (length s.slots) in
      let next : outer_scope one-more ≡ Some (in_scope x s) = steps-instance new_scope s outer es q in
      let slots : outer_slots one-more ≡ outer_slots outer ++ x ∷ [] = ap (λ z. option_map_or (λ s. s.slots) z []) next ∙ ap (λ xs. xs ++ x ∷ [])
      (sym (ap (λ z. option_map_or (λ s. s.slots) z []) q)) in
      let instances : outer_instances one-more ≡ outer_instances outer = ap (λ z. option_map_or (λ s. s.instances) z []) next ∙ sym (ap (λ z. option_map_or (λ s. s.instances) z []) q) in
      let still : are_right r foreign.known.entries (outer_slots one-more) ≡ true = ap (are_right r foreign.known.entries) slots ∙ right-more r foreign.known.entries (outer_slots outer) x right in
      let same : standing_instances r (around_at one-more foreign) ≡ filter (stands_around r foreign.instances.entries (outer_instances outer)) (below (length r.interfaces.items)) =
      ap (λ b. if b then filter (stands_around r foreign.instances.entries (outer_instances one-more)) (below (length r.interfaces.items)) else []) still
      ∙ ap (λ xs. filter (stands_around r foreign.instances.entries xs) (below (length r.interfaces.items))) instances in
      subst (λ xs. Contains xs j) (sym same) h

pub grown-stay : (r : Resolve) (a a' : Around) → GrowsAround r a a' → (j : ℕ) → Contains (standing_instances r a) j → Contains (standing_instances r a') j
grown-stay r a a' g j h = subst (λ xs. Contains xs j) (sym (ap (standing_instances r) g.is ∙ grown-stands r a g.made g.are)) h

pub closed-stay : {E : Type 0} (res : Result ℕ E) (r : Resolve) (a : Around) (outer outer' : Declarations) (foreign foreign' : Foreign) (es : List Declaration)
    → GrowsAround r a (around_at outer foreign) → foreign' ≡ foreign → IfOk res (λ k. (k ≡ type_slots_of outer) × (outer' ≡ append outer (Declarations.instance (from_list es) Declarations.no_more)))
    → OnErr res (outer' ≡ outer) → (j : ℕ) → Contains (standing_instances r a) j → Contains (standing_instances r (around_at outer' foreign')) j
closed-stay (Ok k) r a outer outer' foreign foreign' es g e ok err j h = subst (λ (z : Around). Contains (standing_instances r z) j) (λ i. around_at (sym ok.1 i) (sym e i))
    (instances-then r foreign outer es j (outer_scope outer) refl (are_right r foreign.known.entries (outer_slots outer)) refl (grown-stay r a (around_at outer foreign) g j h))
closed-stay (Err x) r a outer outer' foreign foreign' es g e ok err j h =
    subst (λ (z : Around). Contains (standing_instances r z) j) (λ i. around_at (sym err i) (sym e i)) (grown-stay r a (around_at outer foreign) g j h)
