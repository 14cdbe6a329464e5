-- What is met from the types and functions of an interface, or of a world, is counted in its weight.
use Rattle.std.proofs.Common.{inl, inr, ◌≡◌, refl, sym, subst, ap, ◌∙◌, ℕ, zero, suc, ◌+◌, ◌<◌, Bool, true, false, not, ◌&&◌, nat_lt, if◌then◌else◌, List, [], ◌∷◌, ◌++◌, map, flat_map, take, slice_get, unwrap_or, Option, Some, None, is_some, String, option_and_then, arith}
use Rattle.std.proofs.lemmas.{Bool.ltb-true, List.Elements.Contains-append_left, List.Elements.Contains-append_right, List.Elements.Contains-append_cases}
use Rattle.std.proofs.lemmas.Option.{same_Some as same-some, slice_get_within as within}
use Rattle.std.specs.declared.alloc.Global.{Global}
use Rattle.std.specs.{List.Contains, HashMap.get_by, Option.option_map_or}
use Rattle.indexmap.specs.IndexMap.{values}
use Rattle.wit_model.specs.{Lookup.type_at, Lookup.interface_at, Lookup.world_at, Weight.inside_at, Weight.inside_of, Weight.inside_number, Weight.inside_kind, Text.text_of, Uses.owner_interface, Uses.items_of, Valid.IsValid, Valid.functions_of_interface, Valid.functions_of_world}
use Rattle.wit_model.specs.Parts.{kind_numbers, function_types, function_numbers, numbered_from, met_by, same_owner}
use Rattle.wit_model.specs.Rules.{passes, in_list, is_id, is_use, is_listed, is_listed_in_world, is_name_key, item_type, interface_type_numbers, world_type_numbers}
use Rattle.wit_model.specs.declared.model.{Resolve.Resolve, World.World, WorldId.WorldId, Function.Function, TypeDef.TypeDef, TypeId.TypeId, Interface.Interface, WorldItem.WorldItem, InterfaceId.InterfaceId, TypeOwner.TypeOwner, «Type».«Type» as ValueType}
use Rattle.wit_model.proofs.{Tables.grow_at, Checks.below_at, InOrder.found_stands, OnePath.found-in, PartsLemmas.owner_same as same-owner, Owners.named_met, Owners.numbered_at as numbered-at, Elements.contains-get, Elements.contains-flat, Elements.has-contains}
use Rattle.encode_types.specs.Kinds.{parts_of}
use Rattle.encode_types.specs.{Plan.foreign_owner, Plan.Reaches, Plan.itself, Plan.through, MetKinds.ReachedFrom, MetKinds.referred, Table.interface_of_owner}
use Rattle.encode_shown.proofs.{Items.typed-item, Zips.given-contains, Basics.valid-references, Used.contains-flat-from as from-flat}
use Rattle.wit_encode.specs.OwnerScope.{IsTypeOf, functions_of}
use Rattle.encode_types.proofs.{Planning.part-number}
use Rattle.wit_encode.proofs.Owned.{stays, part-met, own-interface, alias-part, named-listed}
use Rattle.wit_encode.proofs.ListedTypes.{owned-listed, listed-type}
use Rattle.wit_encode.proofs.{OwnerScope.function-ranges, OwnerScope.function-refers, OwnerScope.type-stays, OwnerScope.types-stay, WorldShown.own-type}
use Rattle.base_lemmas.proofs.Bools.{left_of as first_true, not-false, right_of as second_true}
use Rattle.base_lemmas.proofs.Elements.{all-contained, contains-later, contains-one, flat-same, last_of as one-contained, map_from as from-map}
use Rattle.base_lemmas.proofs.Lists.{slice_take as get-take, within_there as there-at}
use Rattle.wit_model.specs.declared.model.WorldItem.TheVariants as item
use Rattle.wit_model.specs.declared.model.TypeOwner.TheVariants as owner
use Rattle.wit_model.specs.declared.model.«Type».TheVariants as ty

-- ---- what stands inside a number

module _ (r : Resolve) (v : IsValid r) where
  inside-step : (n : ℕ) (def : TypeDef) → type_at r n ≡ Some def → inside_number r n ≡ n ∷ (if is_some def.name then [] else flat_map (inside_number r) (kind_numbers def.kind))
  unfolding inside_of
  inside-step n def is = ap (λ o. unwrap_or o []) (grow_at inside_at (numbered_from 0 r.types.items) n (n, def) here)
      ∙ ap (λ xs. n ∷ (if is_some def.name then [] else xs)) (flat-same (met_by (take n (inside_of r))) (met_by (inside_of r)) n (kind_numbers def.kind)
      (λ m low. ap (λ o. unwrap_or o []) (get-take (inside_of r) n m low)) (below_at r (valid-references r v) n def is))
    where
      here : slice_get (numbered_from 0 r.types.items) n ≡ Some (n, def)
      here = subst (λ (m : ℕ). slice_get (numbered_from 0 r.types.items) n ≡ Some (m, def)) (omega arith) (numbered-at 0 r.types.items n def is)

  named-inside : (n : ℕ) (def : TypeDef) → type_at r n ≡ Some def → is_some def.name ≡ true → inside_number r n ≡ n ∷ []
  named-inside n def is named = inside-step n def is ∙ ap (λ b. n ∷ (if b then [] else flat_map (inside_number r) (kind_numbers def.kind))) named

  unnamed-inside : (n : ℕ) (def : TypeDef) → type_at r n ≡ Some def → is_some def.name ≡ false → inside_number r n ≡ n ∷ flat_map (inside_number r) (kind_numbers def.kind)
  unnamed-inside n def is none = inside-step n def is ∙ ap (λ b. n ∷ (if b then [] else flat_map (inside_number r) (kind_numbers def.kind))) none

  inside-itself : (n : ℕ) (def : TypeDef) → type_at r n ≡ Some def → Contains (inside_number r n) n
  inside-itself n def is = subst (λ (xs : List ℕ). Contains xs n) (sym (inside-step n def is)) (0, omega arith, refl)

  smaller : (n : ℕ) (def : TypeDef) → type_at r n ≡ Some def → (m : ℕ) → Contains (kind_numbers def.kind) m → m < n
  smaller n def is m c = ltb-true m n (all-contained (λ m. nat_lt m n) (kind_numbers def.kind) m (below_at r (valid-references r v) n def is) c)

  pub part-at : (n : ℕ) (def : TypeDef) → type_at r n ≡ Some def → (m : ℕ) → Contains (kind_numbers def.kind) m → (d : TypeDef) × (type_at r m ≡ Some d)
  part-at n def is m c = there-at r.types.items m (omega (arith, smaller n def is m c, within r.types.items n def is))

  -- what a type refers to that stands unnamed inside a number stands inside it too
  inside-down : (fuel a : ℕ) → a < fuel → (da : TypeDef) → type_at r a ≡ Some da → (k : ℕ) (dk : TypeDef) → type_at r k ≡ Some dk → is_some dk.name ≡ false → (j : ℕ)
      → Contains (kind_numbers dk.kind) j → Contains (inside_number r a) k → Contains (inside_number r a) j
  inside-down zero a l da is k dk at none j c h = absurd (omega (arith, l))
  inside-down (suc fuel) a l da is k dk at none j c h = go (λ b low d isd inside. inside-down fuel b low d isd k dk at none j c inside) (is_some da.name) refl
    where
      at-head : a ≡ k → da ≡ dk
      at-head e = same-some da dk (sym is ∙ (ap (type_at r) e ∙ at))

      go : ((b : ℕ) → b < fuel → (d : TypeDef) → type_at r b ≡ Some d → Contains (inside_number r b) k → Contains (inside_number r b) j) → (b : Bool) → is_some da.name ≡ b
          → Contains (inside_number r a) j
      go down true named =
          let e = one-contained a k (subst (λ (xs : List ℕ). Contains xs k) (named-inside a da is named) h) in
          let wrong : true ≡ false = sym named ∙ (ap (λ (d : TypeDef). is_some d.name) (at-head e) ∙ none) in absurd cc
      go down false bare = subst (λ (xs : List ℕ). Contains xs j) (sym (unnamed-inside a da is bare))
          (contains-later a _ j (parts (subst (λ (xs : List ℕ). Contains xs k) (unnamed-inside a da is bare) h)))
        where
          parts : Contains (a ∷ flat_map (inside_number r) (kind_numbers da.kind)) k → Contains (flat_map (inside_number r) (kind_numbers da.kind)) j
          parts (zero, m, e) =
              let c' : Contains (kind_numbers da.kind) j = subst (λ (d : TypeDef). Contains (kind_numbers d.kind) j) (sym (at-head e)) c in
              let p = part-at a da is j c' in
              contains-flat (inside_number r) (kind_numbers da.kind) j j c' (inside-itself j p.0 p.1)
          parts (suc i, m, e) =
              let f = from-flat (inside_number r) (kind_numbers da.kind) k (i, omega (arith, m), e) in
              let p = part-at a da is f.0 f.1 in
              contains-flat (inside_number r) (kind_numbers da.kind) f.0 j f.1 (down f.0 (omega (arith, smaller a da is f.0 f.1, l)) p.0 p.1 f.2)

  -- ---- the way down

  -- an interface or a world, with the numbers of its types and its functions
  pub record IsOwner (o : TypeOwner) (ns : List ℕ) (fs : List Function) : Type 0 where
    pub types : (n : ℕ) → Contains ns n → IsTypeOf r o (record { 0 = n })
    pub listed : (n : ℕ) (def : TypeDef) → type_at r n ≡ Some def → is_some def.name ≡ true → same_owner def.owner o ≡ true → Contains ns n
    pub functions : (f : Function) → Contains fs f → Contains (functions_of r o) f

  module _ (o : TypeOwner) (ns : List ℕ) (gs : List Function) (h : IsOwner o ns gs) where
    -- the numbers of the owner, some of them more than once
    abbrev pub all-numbers : List ℕ
    all-numbers = ns ++ (flat_map (inside_kind r) ns ++ flat_map (λ f. flat_map (inside_number r) (function_numbers f)) gs)

    -- a number inside one whose inside is counted
    pub record IsCounted (k : ℕ) : Type 0 where
      pub root : ℕ
      pub def : TypeDef
      pub there : type_at r root ≡ Some def
      pub all : (j : ℕ) → Contains (inside_number r root) j → Contains all-numbers j
      pub inside : Contains (inside_number r root) k
      pub own_def : TypeDef
      pub own_there : type_at r k ≡ Some own_def

    abbrev pub Stays : ℕ → Type 0
    Stays k = (def : TypeDef) → type_at r k ≡ Some def → foreign_owner (interface_of_owner o) def.owner ≡ None → stays r v o k ≡ true

    of-kind : (m : ℕ) → Contains ns m → (def : TypeDef) → type_at r m ≡ Some def → (n : ℕ) → Contains (kind_numbers def.kind) n → (j : ℕ) → Contains (inside_number r n) j → Contains all-numbers j
    of-kind m listed def at n c j d = Contains-append_right ns _ j (Contains-append_left (flat_map (inside_kind r) ns) _ j
        (contains-flat (inside_kind r) ns m j listed (subst (λ (xs : List ℕ). Contains xs j)
        (sym (ap (λ t. option_map_or (λ d. flat_map (inside_number r) (kind_numbers d.kind)) t []) at)) (contains-flat (inside_number r) (kind_numbers def.kind) n j c d))))

    use-foreign : (def : TypeDef) → same_owner def.owner o ≡ true → is_use r def ≡ true → (id : TypeId) → Contains (parts_of def.kind) (ty.Id id) → (d : TypeDef) → type_at r id.0 ≡ Some d
        → foreign_owner (interface_of_owner o) d.owner ≡ None → ⊥
    use-foreign def owned u id c d is f =
        let at = alias-part _ def.kind id u c in
        let target = sym (ap (λ t. option_map_or (λ target. not (same_owner target.owner def.owner) && option_map_or
        (λ j. option_map_or (λ other. is_some other.name) (interface_at r j) false) (owner_interface target.owner) false) t false) is) ∙ at in
        not-false (same_owner d.owner def.owner) (first_true _ _ target)
        (subst (λ (a : TypeOwner). same_owner d.owner a ≡ true) (sym (same-owner def.owner o owned)) (belongs (owner_interface d.owner) refl (second_true _ _ target)))
      where
        belongs : (j : Option ℕ) → owner_interface d.owner ≡ j → option_map_or (λ j. option_map_or (λ other. is_some other.name) (interface_at r j) false) j false ≡ true → same_owner d.owner o ≡ true
        belongs None q g = absurd cc
        belongs (Some j) q g = own-interface o d.owner j q f

    walk : (t : ValueType) (n : ℕ) → Reaches r (interface_of_owner o) t n → ((id : TypeId) → t ≡ ty.Id id → IsCounted id.0 × Stays id.0) → IsCounted n × Stays n
    walk _ _ (itself id) p = p id refl
    walk _ _ (through id def t n at f c re) p = walk t n re (λ id' e. further id' (subst (λ (x : ValueType). Contains (parts_of def.kind) x) e c))
      where
        counted : IsCounted id.0
        counted = (p id refl).0

        stay : stays r v o id.0 ≡ true
        stay = (p id refl).1 def at f

        further : (id' : TypeId) → Contains (parts_of def.kind) (ty.Id id') → IsCounted id'.0 × Stays id'.0
        further id' c = (go (is_some def.name) refl, part-met r v o id.0 def at id' c stay (λ s d is q. s) (λ named owned uses. λ d is q. absurd (use-foreign def owned uses id' c d is q)))
          where
            number : Contains (kind_numbers def.kind) id'.0
            number = part-number def.kind id' c

            go : (b : Bool) → is_some def.name ≡ b → IsCounted id'.0
            go false none = record {
              root = counted.root;
              def = counted.def;
              there = counted.there;
              all = counted.all;
              inside = inside-down (suc counted.root) counted.root (omega arith) counted.def counted.there id.0 def at none id'.0 number counted.inside;
              own_def = (part-at id.0 def at id'.0 number).0;
              own_there = (part-at id.0 def at id'.0 number).1;
            }
            go true named =
                let listed = h.listed id.0 def at named (named_met r (valid-references r v) id.0 def at o named ∙ stay) in
                let part = part-at id.0 def at id'.0 number in
                record { root = id'.0; def = part.0; there = part.1; all = of-kind id.0 listed def at id'.0 number; inside = inside-itself id'.0 part.0 part.1; own_def = part.0; own_there = part.1 }

    -- ---- where it begins

    from-type : (t : TypeId) → Contains ns t.0 → IsCounted t.0 × Stays t.0
    from-type t c = (
      record { root = t.0; def = own.def; there = own.there; all = alone; inside = inside-itself t.0 own.def own.there; own_def = own.def; own_there = own.there },
      λ d is f. type-stays r v o t own t (contains-one (ty.Id t)),
    )
      where
        own : IsTypeOf r o t
        own = h.types t.0 c

        alone : (j : ℕ) → Contains (inside_number r t.0) j → Contains all-numbers j
        alone j d = Contains-append_left ns _ j (subst (λ (m : ℕ). Contains ns m) (one-contained t.0 j (subst (λ (xs : List ℕ). Contains xs j) (named-inside t.0 own.def own.there own.named_) d)) c)

    from-function : (f : Function) → Contains gs f → (id : TypeId) → Contains (function_types f) (ty.Id id) → IsCounted id.0 × Stays id.0
    from-function f among id c =
        let number = function-refers r v f id c in
        let found = found-in r.types.items id.0 (all-contained (in_list r.types.items) (function_numbers f) id.0 (function-ranges r v o f (h.functions f among)) number) in (
          record {
            root = id.0;
            def = found.0;
            there = found.1;
            all = λ j d. Contains-append_right ns _ j (Contains-append_right (flat_map (inside_kind r) ns) _ j
                (contains-flat (λ g. flat_map (inside_number r) (function_numbers g)) gs f j among (contains-flat (inside_number r) (function_numbers f) id.0 j number d)));
            inside = inside-itself id.0 found.0 found.1;
            own_def = found.0;
            own_there = found.1;
          },
          λ d is q. types-stay r v o f (h.functions f among) id c,
        )

    -- what is met from some types and functions of the owner is one of its numbers
    pub met-counted : (ts : List TypeId) (fs : List Function) → ((t : TypeId) → Contains ts t → Contains ns t.0) → ((f : Function) → Contains fs f → Contains gs f)
        → (n : ℕ) → ReachedFrom r (interface_of_owner o) (referred ts fs) n → IsCounted n × Stays n
    met-counted ts fs listed among n x = walk x.0 n x.2 (λ id e. elim (Contains-append_cases (map (λ t. ty.Id t) ts) (flat_map function_types fs) (ty.Id id)
        (subst (λ (t : ValueType). Contains (referred ts fs) t) e x.1)) [
          | inl a ↦ (let y = from-map (λ (t : TypeId). ty.Id t) ts (ty.Id id) a in let q = y.2 in let same : y.0 ≡ id = cc in
              from-type id (subst (λ (t : TypeId). Contains ns t.0) same (listed y.0 y.1)))
          | inr b ↦ (let y = from-flat function_types fs (ty.Id id) b in from-function y.0 (among y.0 y.1) id y.2)
        ])

    pub counted-in : (n : ℕ) → IsCounted n → Contains all-numbers n
    counted-in n c = c.all n c.inside

    -- a named type that is met and isn't foreign is of the owner
    pub named-own : (n : ℕ) (def : TypeDef) → type_at r n ≡ Some def → Stays n → foreign_owner (interface_of_owner o) def.owner ≡ None → is_some def.name ≡ true → same_owner def.owner o ≡ true
    named-own n def at stay f named = named_met r (valid-references r v) n def at o named ∙ stay def at f

  -- ---- interfaces and worlds

  pub interface-owner : (i : InterfaceId) (interface : Interface) → interface_at r i.0 ≡ Some interface
      → IsOwner (owner.Interface i) (interface_type_numbers interface) (functions_of_interface interface)
  interface-owner i interface home = record {
    types = λ n c.
        let x = from-map (λ (id : TypeId). id.0) (values interface.types) n c in
        let y = from-map (λ (e : String Global × TypeId). e.1) interface.types.entries x.0 x.1 in
        subst (λ (m : ℕ). IsTypeOf r (owner.Interface i) (record { 0 = m })) (ap (λ (t : TypeId). t.0) y.2 ∙ x.2) (of-entry y.0 y.1);
    listed = λ n def at named owned.
        has-contains (interface_type_numbers interface) n (owned-listed r v i.0 interface home n (ap (λ t. option_map_or (λ d. same_owner d.owner (owner.Interface i)) t false) at ∙ owned));
    functions = λ f c. subst (λ (x : Option Interface). Contains (option_map_or functions_of_interface x []) f) (sym home) c;
  }
    where
      of-entry : (e : String Global × TypeId) → Contains interface.types.entries e → IsTypeOf r (owner.Interface i) e.1
      of-entry e c =
          let place = contains-get interface.types.entries e c in
          let t = listed-type r v i.0 interface home place.0 e place.1 in
          record { def = t.def; there = t.there; named_ = ap is_some t.named_; owned = same-owner t.def.owner (owner.Interface i) t.owned }

  pub world-owner : (w : WorldId) (world : World) → world_at r w.0 ≡ Some world → IsOwner (owner.World w) (world_type_numbers world) (functions_of_world world)
  world-owner w world home = record {
    types = λ n c.
        let x = given-contains item_type (values world.imports) n c in
        let t = typed-item x.0 n x.2 in
        let item_there = subst (λ (i : WorldItem). Contains (items_of world) i) t.1 (Contains-append_left (values world.imports) (values world.exports) x.0 x.1) in
        let place = contains-get (items_of world) (item.Type_ t.0) item_there in
        subst (λ (m : ℕ). IsTypeOf r (owner.World w) (record { 0 = m })) t.2 (own-type r v w world home place.0 t.0 place.1);
    listed = λ n def at named owned. there n def at def.name refl named (subst (λ (a : TypeOwner). option_map_or (λ name. is_listed r n (text_of name) a) def.name (same_owner a owner.None) ≡ true)
        (same-owner def.owner (owner.World w) owned) (named-listed r v n def at));
    functions = λ f c. subst (λ (x : Option World). Contains (option_map_or functions_of_world x []) f) (sym home) c;
  }
    where
      there : (n : ℕ) (def : TypeDef) → type_at r n ≡ Some def → (x : Option (String Global)) → def.name ≡ x → is_some x ≡ true
          → option_map_or (λ name. is_listed r n (text_of name) (owner.World w)) x false ≡ true → Contains (world_type_numbers world) n
      there n def at None e named listed = absurd cc
      there n def at (Some name) e named listed = has-contains (world_type_numbers world) n
          (found_stands (is_name_key (text_of name)) item_type n world.imports.entries (first_true (is_id n (option_and_then item_type (get_by (is_name_key (text_of name)) world.imports))) _
          (subst (λ (o : Option World). passes (is_listed_in_world n (text_of name)) o ≡ true) home listed)))
