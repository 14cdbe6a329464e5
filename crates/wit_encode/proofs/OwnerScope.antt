-- All that is met from the types and functions of an owner can be encoded in its scope, where an instance of each interface that it
-- uses stands. It is of the owner, or of such an interface.
use Rattle.std.proofs.Common.{rules as std_rules, ◌≡◌, refl, sym, subst, ap, ◌∙◌, ℕ, ◌<◌, ◌⊎◌, inl, inr, Bool, true, false, not, ◌&&◌, List, [], ◌∷◌, length, option_to_list, Option, Some, None, String, unwrap_or, is_some, arith}
use Rattle.std.proofs.lemmas.Bool.{ltb-true, and_from as both, not-true, or_left as or-first, or_right as or-second}
use Rattle.std.proofs.lemmas.{List.Folds.list_all-append, Option.slice_get_within, Option.same_Some as some-same, List.Elements.Contains-append_left}
use Rattle.std.specs.declared.alloc.Global.{Global}
use Rattle.std.specs.{List.Contains, List.list_all, Option.option_map_or, Prelude.map, Prelude.option_and_then, Prelude.filter_map}
use Rattle.indexmap.specs.IndexMap.{values}
use Rattle.wit_model.specs.{Text.text_of, Types.number_of, Meant.type_meaning, Uses.alias_target, Uses.owner_interface, Uses.used_interface}
use Rattle.wit_model.specs.Lookup.{type_at, interface_at, world_at, place_of, is_async}
use Rattle.wit_model.specs.Parts.{met_by, met_of, same_owner, has_owner, function_types, function_numbers, kind_numbers, is_resource_type}
use Rattle.wit_model.specs.Rules.{in_list, is_use, owner_in_range, passes, package_number, function_in_range, function_stays, item_in_range, key_in_range, entries_in_range}
use Rattle.wit_model.specs.Valid.{IsValid, numbers_in_range, owners, handles, is_place, functions_of_interface, functions_of_world, item_function}
use Rattle.wit_model.specs.declared.model.{Resolve.Resolve, WorldId.WorldId, WorldItem.WorldItem, Function.Function, TypeDef.TypeDef, TypeOwner.TypeOwner, Interface.Interface, WorldKey.WorldKey, InterfaceId.InterfaceId, TypeDefKind.TypeDefKind, «Type».«Type» as ValueType, World.World, TypeId.TypeId}
use Rattle.wit_model.proofs.{Lists.list_all_filter_map, Functions.all_flat, Elements.contains-filter_map, OnePath.interface-passes as interface_passes, PartsLemmas.owner_itself as owner-itself, PartsLemmas.owner_same as same-owner, ValidLemmas.type_passes, ValidLemmas.world_passes}
use Rattle.wit_model.proofs.Owners.{named_met}
use Rattle.encode_types.specs.{Kinds.parts_of, Resources.is_named_interface, Resources.is_met_owner, Table.interface_of_owner, Table.has_named_owner, Plan.foreign_owner, Plan.AllInRange, Plan.Reaches, Plan.itself, Plan.through, Scope.Scope, Scope.IsDeclared, Scope.IsImportable}
use Rattle.encode_types.specs.Fits.{FitsScope, CanEncode}
use Rattle.wit_encode.specs.OwnerScope.{IsScopeOf, IsMet, IsOfInstance, NamesStand, InstancesStand, IsUsedBy, UsesStand, IsTypeOf, functions_of, NamesEncode, TypesEncode, FunctionsEncode, TypesUse, FunctionsUse, TableScope, TableUsesStand}
use Rattle.wit_encode.proofs.{Forming.Agree, ImportsStand.below-there, Owned.stays, Owned.part-met, Owned.alias-part, Naming.one-home, Naming.named-owner, Naming.names-agree}
use Rattle.wit_encode.proofs.Validity.{OwnersMet, valid-layered, valid-unnamed, valid-ownerless, valid-formed, signature-formed, has-name, named-agree, named-parts, named-alike, foreign-interface, declared-there}
use Rattle.encode_shown.proofs.Basics.{valid-references}
use Rattle.base_lemmas.proofs.{Bools.left_of as first_true, Bools.right_of as second_true, Lists.given-some, Options.there as some-of, Elements.all-contained, Elements.contains-one, Elements.last_of as one-contained}
use Rattle.wit_model.specs.declared.model.TypeOwner.TheVariants as owner
use Rattle.wit_model.specs.declared.model.«Type».TheVariants as ty

-- ---- owners

is-owned : (a o : TypeOwner) → a ≡ o → same_owner a o ≡ true
is-owned a o e = subst (λ (x : TypeOwner). same_owner x o ≡ true) (sym e) (owner-itself o)

own-met : (r : Resolve) (o a : TypeOwner) → a ≡ o → is_met_owner r o a ≡ true
own-met r o a e = or-first (same_owner o a) (is_named_interface r a) (is-owned o a (sym e))

-- a type of the owner isn't foreign
at-home : (o a : TypeOwner) → a ≡ o → foreign_owner (interface_of_owner o) a ≡ None
at-home o a e = search std_rules

-- nor is an unnamed one
pub unnamed-home : (r : Resolve) → IsValid r → (own : Option InterfaceId) (n : ℕ) (def : TypeDef) → type_at r n ≡ Some def → def.name ≡ None → foreign_owner own def.owner ≡ None
unnamed-home r v own n def is e = ap (foreign_owner own) (same-owner def.owner owner.None (valid-ownerless r v n def is e))

no-some : {A P : Type 0} {x : A} (o : Option A) → o ≡ None → o ≡ Some x → P
no-some o e f = absurd (cc (sym e ∙ f))

-- a type of another interface has a name
foreign-named : (r : Resolve) → IsValid r → (own : Option InterfaceId) (n : ℕ) (def : TypeDef) (i : InterfaceId) → type_at r n ≡ Some def → foreign_owner own def.owner ≡ Some i
    → (name : String Global) × (def.name ≡ Some name)
foreign-named r v own n def i is f = go def.name refl
  where
    go : (o : Option (String Global)) → def.name ≡ o → (name : String Global) × (def.name ≡ Some name)
    go None e = no-some (foreign_owner own def.owner) (unnamed-home r v own n def is e) f
    go (Some name) e = (name, e)

-- ---- what is met

-- a part of what is met is met, where it isn't a type of another interface
part-reached : (r : Resolve) (own : Option InterfaceId) (t : ValueType) (n : ℕ) → Reaches r own t n → (def : TypeDef) → type_at r n ≡ Some def → foreign_owner own def.owner ≡ None
    → (id : TypeId) → Contains (parts_of def.kind) (ty.Id id) → Reaches r own t id.0
part-reached r own _ _ (itself x) def is f id c = through x def (ty.Id id) id.0 is f c (itself id)
part-reached r own _ _ (through x d t n at g p re) def is f id c = through x d t id.0 at g p (part-reached r own t n re def is f id c)

module _ (r : Resolve) (v : IsValid r) (o : TypeOwner) (scope : Scope) (s : IsScopeOf r o scope) where
  -- the same owner, where a type of an interface isn't foreign
  own-home : (def : TypeDef) → (def.owner ≡ o) ⊎ IsOfInstance r scope def → foreign_owner scope.own_interface def.owner ≡ None → def.owner ≡ o
  own-home def y f = search std_rules

  met-owner : (def : TypeDef) → (def.owner ≡ o) ⊎ IsOfInstance r scope def → is_met_owner r o def.owner ≡ true
  met-owner def x = search (std_rules, own-met, or-second)

  module _ (ts : List ValueType) (stand : NamesStand r o scope ts) where
    -- the parts of what is met belong to owners that are met
    parts-met : (n : ℕ) (def : TypeDef) → IsMet r scope ts n → type_at r n ≡ Some def → foreign_owner scope.own_interface def.owner ≡ None → OwnersMet r (is_met_owner r o) (parts_of def.kind)
    parts-met n def m is f t c id e def' is' named =
        let met : Reaches r scope.own_interface m.0 id.0 = part-reached r scope.own_interface m.0 n m.2 def is f id (subst (λ (x : ValueType). Contains (parts_of def.kind) x) e c) in
        met-owner def' (stand id.0 def' (m.0, m.1, met) is' named)

    imports : (n : ℕ) (def : TypeDef) → IsMet r scope ts n → type_at r n ≡ Some def → (i : InterfaceId) → foreign_owner scope.own_interface def.owner ≡ Some i → IsImportable scope i.0 n
    imports n def m is i f = go (stand n def m is (has-name def.name name.0 name.1))
      where
        name : (name : String Global) × (def.name ≡ Some name)
        name = foreign-named r v scope.own_interface n def i is f

        owned : def.owner ≡ owner.Interface i
        owned = foreign-interface scope.own_interface def.owner i f

        go : (def.owner ≡ o) ⊎ IsOfInstance r scope def → IsImportable scope i.0 n
        go (inl e) = no-some (foreign_owner scope.own_interface def.owner) (ap (λ x. foreign_owner x def.owner) s.own ∙ at-home o def.owner e) f
        go (inr h) = record {
          def = def;
          name = name.0;
          there = ap (λ p. type_at p n) s.packages_ ∙ is;
          named_ = name.1;
          owned = owned;
          stands = subst (λ (k : ℕ). Contains scope.instances k) (some-same h.interface.0 i.0 (sym (ap owner_interface h.owned) ∙ ap owner_interface owned)) h.stands;
        }

    declared : (n : ℕ) (def : TypeDef) → IsMet r scope ts n → type_at r n ≡ Some def → foreign_owner scope.own_interface def.owner ≡ None → (name : String Global) → def.name ≡ Some name
        → IsDeclared scope (text_of name, type_meaning r def)
    declared n def m is f name e =
        let here : def.owner ≡ o = own-home def (stand n def m is (has-name def.name name e)) f in
        record {
          there = s.declares n def name is e here;
          alike = ap (λ p. scope.resources p (text_of name)) (s.place_ ∙ ap (place_of r) (sym here))
              ∙ named-alike r v scope.resources (is_met_owner r o) s.names n def is name e (own-met r o def.owner here) (parts-met n def m is f);
          sound = s.sound;
        }

    fits : (n : ℕ) (def : TypeDef) → IsMet r scope ts n → type_at r n ≡ Some def → FitsScope r scope n def
    fits n def m is = record {
      foreign = imports n def m is;
      unnamed = λ f none. valid-unnamed r v n def is none;
      placed = λ f name e. ap (place_of r) (own-home def (stand n def m is (has-name def.name name e)) f) ∙ sym s.place_;
      declared = declared n def m is;
      formed = λ f d. record { sound = s.sound; formed = valid-formed r scope.resources v n def is (named-parts r v scope.resources (is_met_owner r o) s.names n def is (parts-met n def m is f)) d };
    }

    encodes : AllInRange r ts → CanEncode r scope ts
    encodes inside = record { packages_ = s.packages_; layered = valid-layered r v; in_range = inside; fits = λ t c n re def is. fits n def (t, c, re) is }

    agree : AllInRange r ts → Agree r scope.resources ts
    agree inside = named-agree r v scope.resources (is_met_owner r o) s.names ts inside
        (λ t c id e def is named. met-owner def (stand id.0 def (t, c, subst (λ (x : ValueType). Reaches r scope.own_interface x id.0) (sym e) (itself id)) is named))

-- ---- what the types of an owner meet

-- the target of an alias
pub target-is : (k : TypeDefKind) (m : ℕ) (id : TypeId) → alias_target k ≡ Some m → Contains (parts_of k) (ty.Id id) → alias_target k ≡ Some id.0
target-is k m id e c = search std_rules

module _ (r : Resolve) (v : IsValid r) (o : TypeOwner) where
  -- each named type that is met through unnamed ones has the owner
  abbrev pub Stay : ℕ → Type 0
  Stay n = stays r v o n ≡ true

  -- a type of another interface, which the owner uses
  pub record IsUse (def : TypeDef) : Type 0 where
    pub interface : InterfaceId
    pub owns : def.owner ≡ owner.Interface interface
    pub other : same_owner def.owner o ≡ false
    pub named_ : has_named_owner r def ≡ true
    pub used : IsUsedBy r o interface.0

  pub use-at : (n : ℕ) (def : TypeDef) → type_at r n ≡ Some def → (id : TypeId) → Contains (parts_of def.kind) (ty.Id id) → is_some def.name ≡ true → same_owner def.owner o ≡ true
      → is_use r def ≡ true → (def' : TypeDef) → type_at r id.0 ≡ Some def' → IsUse def'
  use-at n def is id c named here uses def' is' = go def'.owner refl passed
    where
      home : def.owner ≡ o
      home = same-owner def.owner o here

      tests : TypeDef → Bool
      tests target = not (same_owner target.owner def.owner) && option_map_or (λ i. option_map_or (λ other. is_some other.name) (interface_at r i) false) (owner_interface target.owner) false

      passed : tests def' ≡ true
      passed = sym (ap (λ t. option_map_or tests t false) is') ∙ alias-part (λ t. option_map_or tests (type_at r t) false) def.kind id uses c

      target : alias_target def.kind ≡ Some id.0
      target = let t = some-of (alias_target def.kind) (given-some (λ t. option_map_or tests (type_at r t) false) (alias_target def.kind) uses) in target-is def.kind t.0 id t.1 c

      go : (a : TypeOwner) → def'.owner ≡ a → tests def' ≡ true → IsUse def'
      go (owner.Interface i) e h = record {
        interface = i;
        owns = e;
        other = ap (same_owner def'.owner) (sym home) ∙ not-true (same_owner def'.owner def.owner) (first_true (not (same_owner def'.owner def.owner)) _ h);
        named_ = second_true (not (same_owner def'.owner def.owner)) _ h;
        used = record {
          number = n;
          def = def;
          there = is;
          named_ = named;
          owned = home;
          uses = uses;
          interface = ap (option_and_then (λ t. option_and_then (λ target. owner_interface target.owner) (type_at r t))) target
              ∙ (ap (option_and_then (λ target. owner_interface target.owner)) is' ∙ ap owner_interface e);
        };
      }
      go other e h = let wrong : false ≡ true = (rw e at (second_true (not (same_owner def'.owner def.owner)) _ h)) in absurd cc

  abbrev Meets : ℕ → Type 0
  Meets n = Stay n ⊎ ((def : TypeDef) → type_at r n ≡ Some def → IsUse def)

  pub use-foreign : (def : TypeDef) → IsUse def → foreign_owner (interface_of_owner o) def.owner ≡ None → ⊥
  use-foreign def u f = search std_rules

  reached-meets : (t : ValueType) (n : ℕ) → ((id : TypeId) → t ≡ ty.Id id → Meets id.0) → Reaches r (interface_of_owner o) t n → Meets n
  reached-meets _ _ p (itself id) = p id refl
  reached-meets _ _ p (through id def t n at f c re) = reached-meets t n (λ id' e. further (p id refl) id' (subst (λ (x : ValueType). Contains (parts_of def.kind) x) e c)) re
    where
      further : Meets id.0 → (id' : TypeId) → Contains (parts_of def.kind) (ty.Id id') → Meets id'.0
      further (inl h) id' c = part-met r v o id.0 def at id' c h inl (λ named here uses. inr (use-at id.0 def at id' c named here uses))
      further (inr u) id' c = absurd (use-foreign def (u def at) f)

  -- types from which each named type that is met has the owner
  abbrev pub AllStay : List ValueType → Type 0
  AllStay ts = (id : TypeId) → Contains ts (ty.Id id) → Stay id.0

  pub named-stays : (n : ℕ) (def : TypeDef) → type_at r n ≡ Some def → Stay n → is_some def.name ≡ true → def.owner ≡ o
  named-stays n def is h named = same-owner def.owner o (named_met r (valid-references r v) n def is o named ∙ h)

  module _ (scope : Scope) (s : IsScopeOf r o scope) (ts : List ValueType) (all : AllStay ts) where
    meets : (n : ℕ) → IsMet r scope ts n → Meets n
    meets n m = reached-meets m.0 n (λ id e. inl (all id (subst (λ (x : ValueType). Contains ts x) e m.1))) (subst (λ x. Reaches r x m.0 n) s.own m.2)

    -- a type of another interface that is met is of one that the owner uses
    pub foreign-used : (n : ℕ) (def : TypeDef) (i : InterfaceId) → IsMet r scope ts n → type_at r n ≡ Some def → foreign_owner scope.own_interface def.owner ≡ Some i → IsUsedBy r o i.0
    foreign-used n def i m is f = go (meets n m)
      where
        go : Meets n → IsUsedBy r o i.0
        go (inl h) =
            let name = foreign-named r v scope.own_interface n def i is f in
            no-some (foreign_owner scope.own_interface def.owner) (ap (λ x. foreign_owner x def.owner) s.own ∙ at-home o def.owner (named-stays n def is h (has-name def.name name.0 name.1))) f
        go (inr u) =
            let use_ = u def is in
            subst (λ (k : ℕ). IsUsedBy r o k) (some-same use_.interface.0 i.0 (sym (ap owner_interface use_.owns) ∙ ap owner_interface (foreign-interface scope.own_interface def.owner i f))) use_.used

    pub stay-stand : InstancesStand r scope ts → NamesStand r o scope ts
    stay-stand stand n def m is named = go (meets n m)
      where
        go : Meets n → (def.owner ≡ o) ⊎ IsOfInstance r scope def
        go (inl h) = inl (named-stays n def is h named)
        go (inr u) =
            let use_ = u def is in
            inr (record { interface = use_.interface; owned = use_.owns; named_ = named-owner r v def use_.named_; stands = there use_ (foreign_owner scope.own_interface def.owner) refl })
          where
            there : (use_ : IsUse def) → (x : Option InterfaceId) → foreign_owner scope.own_interface def.owner ≡ x → Contains scope.instances use_.interface.0
            there use_ None f = absurd (use-foreign def use_ (sym (ap (λ x. foreign_owner x def.owner) s.own) ∙ f))
            there use_ (Some i) f = subst (λ (k : ℕ). Contains scope.instances k)
                (some-same i.0 use_.interface.0 (sym (ap owner_interface (foreign-interface scope.own_interface def.owner i f)) ∙ ap owner_interface use_.owns)) (stand n def i m is f)

    pub uses-stand : UsesStand r o scope → InstancesStand r scope ts
    uses-stand stand n def i m is f = stand i.0 (foreign-used n def i m is f)

  pub type-stays : (id : TypeId) → IsTypeOf r o id → AllStay (ty.Id id ∷ [])
  type-stays id t id' c = one-id (one-contained (ty.Id id) (ty.Id id') c) (sym (named_met r (valid-references r v) id.0 t.def t.there o t.named_) ∙ is-owned t.def.owner o t.owned)
    where
      one-id : ty.Id id ≡ ty.Id id' → Stay id.0 → Stay id'.0
      one-id e h = subst (λ (n : ℕ). Stay n) (ap (λ x. unwrap_or (number_of x) id.0) e) h

  type-inside : (id : TypeId) → IsTypeOf r o id → AllInRange r (ty.Id id ∷ [])
  type-inside id t u c id' e = grind (arith, unwrap_or, one-contained, slice_get_within)

-- ---- functions

none-there : {X P : Type 0} (x : X) → Contains [] x → P
none-there x c = absurd (omega (arith, c.1))

in-home : {X : Type 0} (fs : X → List Function) (q : Function → Bool) (x : Option X) → ((home : X) → x ≡ Some home → list_all q (fs home) ≡ true) → (f : Function) → Contains (option_map_or fs x []) f
    → q f ≡ true
in-home fs q None h f c = none-there f c
in-home fs q (Some home) h f c = all-contained q (fs home) f (h home refl) c

module _ (r : Resolve) (v : IsValid r) (p : TypeOwner → Function → Bool)
    (of_interface : (i : InterfaceId) (home : Interface) → interface_at r i.0 ≡ Some home → list_all (p (owner.Interface i)) (functions_of_interface home) ≡ true)
    (of_world : (w : WorldId) (home : World) → world_at r w.0 ≡ Some home → list_all (p (owner.World w)) (functions_of_world home) ≡ true) where
  each-function : (o : TypeOwner) (f : Function) → Contains (functions_of r o) f → p o f ≡ true
  each-function owner.None f c = none-there f c
  each-function (owner.Interface i) f c = in-home functions_of_interface (p (owner.Interface i)) (interface_at r i.0) (of_interface i) f c
  each-function (owner.World w) f c = in-home functions_of_world (p (owner.World w)) (world_at r w.0) (of_world w) f c

-- the functions of a world are in range
abbrev fits-item : Resolve → WorldItem → Bool
fits-item r i = list_all (function_in_range r) (option_to_list (item_function i))

item-fits : (r : Resolve) (i : WorldItem) → item_in_range r i ≡ true → fits-item r i ≡ true
item-fits r x h = search std_rules

entries-fit : (r : Resolve) (es : List (WorldKey × WorldItem)) → entries_in_range r es ≡ true → list_all (fits-item r) (map (λ e. e.1) es) ≡ true
entries-fit r [] h = refl
entries-fit r (e ∷ es) h = search (std_rules, first_true, both, item-fits, second_true, entries-fit r es (second_true (key_in_range r e.0 && item_in_range r e.1) (entries_in_range r es) h))

world-fits : (r : Resolve) (w : World) → entries_in_range r w.imports.entries ≡ true → entries_in_range r w.exports.entries ≡ true → list_all (function_in_range r) (functions_of_world w) ≡ true
world-fits r w a b = search (std_rules, list_all_filter_map, list_all-append, both, entries-fit)

module _ (r : Resolve) (v : IsValid r) where
  function-stays : (o : TypeOwner) (f : Function) → Contains (functions_of r o) f → function_stays r o f ≡ true
  unfolding owners
  function-stays = each-function r v (function_stays r) (λ i home e. first_true (list_all (function_stays r (owner.Interface i)) (functions_of_interface home)) _
      (interface_passes owners r v.rules.owners i.0 home e)) (λ w home e. world_passes owners r v.rules.owners w.0 home e)

  function-values : (o : TypeOwner) (f : Function) → Contains (functions_of r o) f → list_all (λ t. not (is_resource_type r t)) (function_types f) ≡ true
  unfolding handles
  function-values = each-function r v (λ o f. list_all (λ t. not (is_resource_type r t)) (function_types f))
      (λ i home e. interface_passes handles r v.rules.handles i.0 home e) (λ w home e. world_passes handles r v.rules.handles w.0 home e)

  pub function-ranges : (o : TypeOwner) (f : Function) → Contains (functions_of r o) f → function_in_range r f ≡ true
  unfolding numbers_in_range
  function-ranges = each-function r v (λ o. function_in_range r) (λ i home e. second_true (list_all (λ id. in_list r.types.items id.0) (values home.types)) _
      (second_true (passes (in_list r.packages.items) (package_number home.package)) _ (second_true (is_place i.0) _ (interface_passes numbers_in_range r v.rules.numbers_in_range i.0 home e))))
      (λ w home e.
      let entries : (entries_in_range r home.imports.entries && entries_in_range r home.exports.entries) ≡ true =
      second_true (passes (in_list r.packages.items) (package_number home.package)) _ (second_true (is_place w.0) _ (world_passes numbers_in_range r v.rules.numbers_in_range w.0 home e)) in
      world-fits r home (first_true (entries_in_range r home.imports.entries) _ entries) (second_true (entries_in_range r home.imports.entries) _ entries))

  pub function-refers : (f : Function) (id : TypeId) → Contains (function_types f) (ty.Id id) → Contains (function_numbers f) id.0
  function-refers f id c = search (std_rules, Contains-append_left, contains-filter_map, contains-one)

  function-inside : (o : TypeOwner) (f : Function) → Contains (functions_of r o) f → AllInRange r (function_types f)
  function-inside o f c t d id e =
      let refers = function-refers f id (subst (λ (x : ValueType). Contains (function_types f) x) e d) in
      ltb-true id.0 (length r.types.items) (all-contained (in_list r.types.items) (function_numbers f) id.0 (function-ranges o f c) refers)

  pub types-stay : (o : TypeOwner) (f : Function) → Contains (functions_of r o) f → AllStay r v o (function_types f)
  types-stay o f c id d = all-contained (stays r v o) (filter_map number_of (function_types f)) id.0
      (sym (all_flat (has_owner r o) (met_by (met_of r)) (filter_map number_of (function_types f))) ∙ function-stays o f c)
      (contains-filter_map number_of (function_types f) (ty.Id id) id.0 d (contains-one id.0))

-- ---- laws

pub names_encode : NamesEncode
names_encode r o scope ts v s inside stand = encodes r v o scope s ts stand inside

pub types_encode : TypesEncode
types_encode r o scope id v s t stand = encodes r v o scope s (ty.Id id ∷ []) (stay-stand r v o scope s (ty.Id id ∷ []) (type-stays r v o id t) stand) (type-inside r v o id t)

pub types_use : TypesUse
types_use r o scope id v s t stand = uses-stand r v o scope s (ty.Id id ∷ []) (type-stays r v o id t) stand

pub functions_encode : FunctionsEncode
functions_encode r o scope f v s c stand =
    let names = stay-stand r v o scope s (function_types f) (types-stay r v o f c) stand in
    let inside = function-inside r v o f c in
    record {
      types = encodes r v o scope s (function_types f) names inside;
      formed = signature-formed r scope f.params.items f.result s.sound (is_async f.kind) (function-values r v o f c) (agree r v o scope s (function_types f) names inside);
    }

pub functions_use : FunctionsUse
functions_use r o scope f v s c stand = uses-stand r v o scope s (function_types f) (types-stay r v o f c) stand

pub table_is_scope : TableScope
table_is_scope r o v = search (std_rules, declared-there, is-owned, names-agree, one-home)

owner-inside : (r : Resolve) → IsValid r → (t : ℕ) (def : TypeDef) → type_at r t ≡ Some def → owner_in_range r def.owner ≡ true
unfolding numbers_in_range
owner-inside r v t def at = second_true (list_all (in_list r.types.items) (kind_numbers def.kind)) _ (second_true (is_place t) _ (type_passes numbers_in_range r v.rules.numbers_in_range t def at))

-- the interface that an alias names is in the list
used-inside : (r : Resolve) → IsValid r → (def : TypeDef) (j : ℕ) → used_interface r def ≡ Some j → j < length r.interfaces.items
used-inside r v def j used = at-target (alias_target def.kind) used
  where
    by-owner : (o : TypeOwner) → owner_interface o ≡ Some j → owner_in_range r o ≡ true → j < length r.interfaces.items
    by-owner (owner.Interface i) e h = subst (λ (n : ℕ). n < length r.interfaces.items) (some-same i.0 j e) (ltb-true i.0 (length r.interfaces.items) h)
    by-owner other e h = absurd cc

    at-type : (t : ℕ) (o : Option TypeDef) → type_at r t ≡ o → option_and_then (λ (target : TypeDef). owner_interface target.owner) o ≡ Some j → j < length r.interfaces.items
    at-type t None at e = absurd cc
    at-type t (Some target) at e = by-owner target.owner e (owner-inside r v t target at)

    at-target : (o : Option ℕ) → option_and_then (λ t. option_and_then (λ (target : TypeDef). owner_interface target.owner) (type_at r t)) o ≡ Some j → j < length r.interfaces.items
    at-target None e = absurd cc
    at-target (Some t) e = at-type t (type_at r t) refl e

pub table_uses_stand : TableUsesStand
table_uses_stand r o v j u = below-there (length r.interfaces.items) j (used-inside r v u.def j u.interface)
