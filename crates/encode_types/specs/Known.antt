-- What stands in the scope around an instance type: instances of other interfaces, and aliases of their types, for which an outer alias in
-- the instance type can stand (Component Model Explainer.md, "Alias Definitions").
use Rattle.std.specs.Prelude.{ℕ, ◌≡◌, Bool, false, not, ◌&&◌, ◌||◌, if◌then◌else◌, List, [], ◌∷◌, length, Option, Some, None, String, slice_get, is_some}
use Prim.Native.Nat.{zero, suc}
use Rattle.std.specs.{List.Contains, List.filter, List.list_all, Map.lookup, BTreeMap.is_at, BTreeMap.insert_entry, Ordering.nat_cmp, Option.option_map_or}
use Rattle.std.specs.declared.alloc.Global.{Global}
use Rattle.wit_model.specs.{Text.Text, Text.text_eq, Text.text_of, Lookup.interface_path, Lookup.type_at, Parts.same_owner, Parts.numbered_from, Tree.Tree, Tree.named, Types.number_tree, Uses.direct_deps}
use Rattle.wit_model.specs.declared.model.{Resolve.Resolve, TypeDef.TypeDef, TypeId.TypeId, InterfaceId.InterfaceId}
use Rattle.comp_bytes.specs.{Raw.Alias, Raw.Declaration, Raw.Declarations, Raw.append, Held.type_slots_of}
use Rattle.comp_meaning.specs.Same.{same_place}
use Rattle.comp_meaning.specs.Follow.{Slot, Instance, find_type, is_foreign_name, component_steps, new_scope}
use Rattle.encode_types.specs.{Resources.Names, Resources.named_resources, Standing.is_slot_of}
use Rattle.wit_model.specs.declared.model.TypeOwner.TheVariants as owner
use Rattle.comp_meaning.specs.Follow as follow

-- ---- what stands around

-- What stands around a scope: declarations, instances of interfaces, and aliases of their types.
pub record Around : Type 0 where
  -- what has been declared there
  pub declared : Declarations
  -- numbers of interfaces, each with the number of an instance there
  pub instances : List (ℕ × ℕ)
  -- numbers of types of other interfaces that have an alias there, each with its slot
  pub known : List (ℕ × ℕ)

-- what stands around a scope that has none around it
abbrev pub no_around : Around
no_around = record { declared = Declarations.no_more; instances = []; known = [] }

-- the instance of an interface, if one is listed
abbrev pub known_instance : List (ℕ × ℕ) → ℕ → Option ℕ
known_instance instances i = lookup (is_at (nat_cmp i)) instances

-- the slot of a type number, if one is listed
abbrev pub known_slot : List (ℕ × ℕ) → ℕ → Option ℕ
known_slot known n = lookup (is_at (nat_cmp n)) known

-- ---- which interfaces stand

-- whether a slot is that of a name
abbrev pub is_name_slot : Tree → Slot → Bool
is_name_slot (named place name) (Slot.value (named p x)) = same_place place p && text_eq name x
is_name_slot (named place name) (Slot.resource p x) = same_place place p && text_eq name x
is_name_slot _ _ = false

-- whether a slot around is one of the type's name, of a resource exactly where the name stands for one
abbrev pub is_known_as : Names → Tree → Slot → Bool
is_known_as resources t slot = is_foreign_name slot && (is_slot_of resources slot && is_name_slot t slot)

-- whether a slot stands for the type of this number under its name
abbrev pub is_slot_for : Resolve → ℕ → Option Slot → Bool
is_slot_for r n slot = option_map_or (is_known_as (named_resources r) (number_tree r n)) slot false

-- whether a type is a named one of an interface
abbrev pub is_named_of : ℕ → TypeDef → Bool
is_named_of i def = same_owner (owner.Interface (record { 0 = i })) def.owner && is_some def.name

-- whether an instance is one of the named interface of this path
abbrev pub is_instance_of : Option Text → Instance → Bool
is_instance_of path instance = option_map_or (λ p. option_map_or (text_eq p) instance.interface false) path false

-- whether an instance shows a type under its name
abbrev pub shows_type : Resolve → Instance → ℕ × TypeDef → Bool
shows_type r instance e = option_map_or (λ name. is_slot_for r e.0 (find_type (text_of name) instance.view.types)) e.1.name false

-- whether an instance is one of an interface, and shows each of its named types
abbrev pub is_standing : Resolve → ℕ → Instance → Bool
is_standing r i instance =
    is_instance_of (interface_path r i) instance && list_all (λ e. not (is_named_of i e.1) || shows_type r instance e) (numbered_from 0 r.types.items)

-- whether an interface is listed with an instance that is its own and shows each of its named types
abbrev pub stands_around : Resolve → List (ℕ × ℕ) → List Instance → ℕ → Bool
stands_around r listed instances i = option_map_or (λ k. option_map_or (is_standing r i) (slice_get instances k) false) (known_instance listed i) false

-- whether each type that is listed with a slot has that slot around
abbrev pub are_right : Resolve → List (ℕ × ℕ) → List Slot → Bool
are_right r known slots = list_all (λ e. is_slot_for r e.0 (slice_get slots e.1)) known

-- the numbers below n
abbrev pub below : ℕ → List ℕ
below zero = []
below (suc n) = n ∷ below n

-- what has been declared in a component type, followed
abbrev pub outer_scope : Declarations → Option follow.Scope
outer_scope outer = component_steps new_scope outer

-- the slots of a component type, followed
abbrev pub outer_slots : Declarations → List Slot
outer_slots outer = option_map_or (λ s. s.slots) (outer_scope outer) []

-- the instances of a component type, followed
abbrev pub outer_instances : Declarations → List Instance
outer_instances outer = option_map_or (λ s. s.instances) (outer_scope outer) []

-- the interfaces whose instances stand, where what is listed of aliases is right
abbrev pub standing_instances : Resolve → Around → List ℕ
standing_instances r around =
    if are_right r around.known (outer_slots around.declared) then filter (stands_around r around.instances (outer_instances around.declared))
    (below (length r.interfaces.items)) else []

-- ---- aliases

-- an alias of the type that an instance shows under a name, for a type number
pub record Aliased : Type 0 where
  pub number : TypeId
  pub instance : ℕ
  pub name : Text

-- the declaration of an alias
abbrev pub alias_declared : Aliased → Declaration
alias_declared a = Declaration.alias_of (Alias.of_export a.instance a.name)

-- what stands around, with one alias more
abbrev pub with_alias : Around → Aliased → Around
with_alias around a = record {
  declared = append around.declared (Declarations.declares (alias_declared a) Declarations.no_more);
  instances = around.instances;
  known = insert_entry nat_cmp around.known a.number.0 (type_slots_of around.declared);
}

-- the alias of a named type that had none, by the instance that stands for its interface
pub record IsAlias (r : Resolve) (around : Around) (a : Aliased) : Type 0 where
  pub def : TypeDef
  pub name : String Global
  pub interface : InterfaceId
  pub there : type_at r a.number.0 ≡ Some def
  pub named_ : def.name ≡ Some name
  pub owned : def.owner ≡ owner.Interface interface
  pub text : a.name ≡ text_of name
  pub stands : Contains (standing_instances r around) interface.0
  pub instance : known_instance around.instances interface.0 ≡ Some a.instance
  pub first : known_slot around.known a.number.0 ≡ None

-- what stands around, with these aliases more, one after the other
abbrev pub with_aliases : Around → List Aliased → Around
with_aliases around [] = around
with_aliases around (a ∷ more) = with_aliases (with_alias around a) more

-- These aliases can be made around, one after the other, each of a type that had none.
abbrev pub AreAliases : Resolve → Around → List Aliased → Type 0
AreAliases r around [] = Unit {0}
AreAliases r around (a ∷ more) = IsAlias r around a × AreAliases r (with_alias around a) more

-- Nothing has been declared around but aliases, each of a type that had none.
pub record GrowsAround (r : Resolve) (a a' : Around) : Type 0 where
  pub made : List Aliased
  pub are : AreAliases r a made
  pub is : a' ≡ with_aliases a made

-- a named type of an interface whose instance stands
pub record IsSource (r : Resolve) (around : Around) (i n : ℕ) : Type 0 where
  pub def : TypeDef
  pub name : String Global
  pub there : type_at r n ≡ Some def
  pub named_ : def.name ≡ Some name
  pub owned : def.owner ≡ owner.Interface (record { 0 = i })
  pub stands : Contains (standing_instances r around) i

-- Nothing has been declared around but one alias at most, of this type, which had none.
pub data ReachesAround (r : Resolve) (id : TypeId) (a a' : Around) : Type 0 where
  as_before : a' ≡ a → ReachesAround r id a a'
  aliased : (x : Aliased) → IsAlias r a x → x.number ≡ id → a' ≡ with_alias a x → ReachesAround r id a a'

-- each interface that an interface uses is one of those around
abbrev pub UsedStand : Resolve → List ℕ → ℕ → Type 0
UsedStand r around i = (j : ℕ) → Contains (direct_deps r i) j → Contains around j
