-- What holds of a plan that was read. Each is a test of numbers and labels along one list of the plan
-- (WIT.md; Binary.md, "Type Validation" and "Import and Export Definitions").
use Rattle.std.specs.Prelude.{◌≡◌, ℕ, Bool, true, false, ◌&&◌, ◌||◌, not, ◌==◌, nat_lt, nat_le, if◌then◌else◌, List, [], ◌∷◌, ◌++◌, map, filter, filter_map, length, count_by, sum_by, codes, Option, Some, None, option_and_then, option_to_list, is_some, is_none, slice_get}
use Rattle.std.specs.{Option.option_map_or, Option.option_eq, List.list_all, List.list_any, Map.lookup}
use Rattle.wit_model.specs.declared.model.{TypeOwner.TypeOwner, FunctionKind.FunctionKind}
use Rattle.wit_model.specs.{Text.Text, Text.text_eq, Tree.Form, Tree.levels, Lookup.resource_of, Parts.same_owner, Uses.has, Uses.once, Uses.owner_interface}
use Rattle.wit_model.specs.{Names.is_label, Names.is_identity, Names.constructor_name, Names.method_name, Names.static_name, Valid.as_interface, Valid.as_world}
use Rattle.wit_model.specs.Rules.{in_list, passes, are_distinct, after_prefix, each_from, each_after, is_id, are_member_labels, has_items, is_freestanding}
use Rattle.comp_meaning.specs.{Follow.is_key_primitive, Rules.is_named_form, Rules.form_labels, Rules.most_levels, Same.same_identity}
use Rattle.plan_meaning.specs.Shapes.{primitives, part_tree}
use Rattle.plan_meaning.specs.Plan.{Plan, PlannedKind, resource, alias, formed, PlannedType, PlannedFunction, PlannedInterface, PlannedKey, label, path_of, PlannedItem, interface, function, declares, PlannedWorld, PlannedPackage, package_in, interface_in, world_in, type_in, number_under, numbers_of, part_number, kind_numbers, function_parts, function_numbers, used_by_numbers, has_owner, is_resource, trees_in, alias_number, interface_used_by, interfaces_used_by, item_interface, item_function, item_type, items_of, world_types}
use Rattle.wit_model.specs.declared.model.TypeOwner.TheVariants as owner
use Rattle.wit_model.specs.declared.model.FunctionKind.TheVariants as call

-- ---- small words

-- each number is smaller than all that follow
abbrev pub are_rising : List ℕ → Bool
are_rising [] = true
are_rising (n ∷ ns) = list_all (nat_lt n) ns && are_rising ns

abbrev pub fits : {A : Type 0} → List A → Bool
fits xs = nat_le (length xs) 4294967295

abbrev pub names_of : {A : Type 0} → List (Text × A) → List Text
names_of es = map (λ e. e.0) es

abbrev pub bears : Text → Option Text → Bool
bears name given = option_map_or (λ t. text_eq t name) given false

-- the names of the interfaces that have one
abbrev pub has_name : Plan → ℕ → Bool
has_name p n = option_map_or (λ i. is_some i.name) (interface_in p n) false

-- ---- packages

-- no two packages have one identity
abbrev pub is_alone : Plan → ℕ → PlannedPackage → Bool
is_alone p n k = each_from (λ m other. (m == n) || not (same_identity k.identity other.identity)) 0 p.packages

-- what a package lists is a named interface, or a world, of the package
abbrev pub lists_interface : Plan → ℕ → Text × ℕ → Bool
lists_interface p n e = option_map_or (λ i. bears e.0 i.name && is_id n i.package_) (interface_in p e.1) false

abbrev pub lists_world : Plan → ℕ → Text × ℕ → Bool
lists_world p n e = option_map_or (λ w. text_eq w.name e.0 && is_id n w.package_) (world_in p e.1) false

abbrev pub lists_members : Plan → ℕ → PlannedPackage → Bool
lists_members p n k = list_all (lists_interface p n) k.interfaces && list_all (lists_world p n) k.worlds

abbrev pub members_differ : PlannedPackage → Bool
members_differ k = are_distinct (names_of k.interfaces ++ names_of k.worlds)

-- ---- interfaces

-- how many items of a world are the interface
abbrev pub times_shown : ℕ → PlannedWorld → ℕ
times_shown n w = count_by (λ x. is_id n (item_interface x)) (items_of w)

-- A named interface stands in its package's list under its name; an inline one is one item of one world, of the same package.
abbrev pub is_placed : Plan → ℕ → PlannedInterface → Bool
is_placed p n i = option_map_or
    (λ name. option_map_or (λ k. is_id n (number_under name k.interfaces)) (option_and_then (package_in p) i.package_) false) i.name
    (option_map_or (in_list p.packages) i.package_ false
    && ((sum_by (times_shown n) p.worlds == 1) && list_all (λ w. (times_shown n w == 0) || option_eq ◌==◌ w.package_ i.package_) p.worlds))

-- a type of this name and owner
abbrev pub is_type_of : Plan → TypeOwner → Text × ℕ → Bool
is_type_of p o e = option_map_or (λ t. bears e.0 t.name && same_owner t.owner o) (type_in p e.1) false

abbrev pub interface_labels : PlannedInterface → Bool
interface_labels i = passes is_label i.name && are_distinct (names_of i.types ++ names_of i.functions)

-- the other interfaces that an interface uses, each once
abbrev pub direct_uses : Plan → ℕ → List ℕ
direct_uses p n = filter (λ m. not (m == n)) (once (option_map_or (interfaces_used_by p) (interface_in p n) []))

-- ---- types

abbrev pub is_under_label : Text → PlannedKey → Bool
is_under_label t (label l) = text_eq l t
is_under_label t (path_of n) = false

-- A named type stands in its owner's list under its name.
abbrev pub is_listed_in : Plan → ℕ → Text → TypeOwner → Bool
is_listed_in p n name (owner.Interface id) = option_map_or (λ i. is_id n (number_under name i.types)) (interface_in p id.0) false
is_listed_in p n name (owner.World id) = option_map_or (λ w. is_id n (option_and_then item_type (lookup (is_under_label name) w.imports)))
    (world_in p id.0) false
is_listed_in p n name owner.None = false

abbrev pub is_listed : Plan → ℕ → PlannedType → Bool
is_listed p n t = option_map_or (λ name. is_listed_in p n name t.owner) t.name (same_owner t.owner owner.None)

abbrev pub kind_labels : PlannedKind → List Text
kind_labels (formed form ks) = form_labels form
kind_labels _ = []

abbrev pub type_labels : PlannedType → Bool
type_labels t = passes is_label t.name && are_member_labels (kind_labels t.kind)

-- an alias of a type of another interface, a named one
abbrev pub is_use : Plan → PlannedType → Bool
is_use p t = option_map_or (λ m. option_map_or (λ u. not (same_owner u.owner t.owner) && option_map_or (has_name p) (owner_interface u.owner) false)
    (type_in p m) false) (alias_number t.kind) false

-- the names in a type of an owner are the owner's, or it is another name for one of another interface
abbrev pub type_stays : Plan → PlannedType → Bool
type_stays p t = same_owner t.owner owner.None || (list_all (has_owner p t.owner) (used_by_numbers p (kind_numbers t.kind)) || (is_some t.name && is_use p t))

abbrev pub is_key_part : ℕ → Bool
is_key_part k = option_map_or is_key_primitive (slice_get primitives k) false

abbrev pub begins_with_key : List ℕ → Bool
begins_with_key [] = false
begins_with_key (k ∷ ks) = is_key_part k

abbrev pub is_form : Form → List ℕ → Bool
is_form (Form.record_of names) ks = has_items names
is_form (Form.variant_of cases) ks = has_items cases
is_form (Form.flags_of names) ks = has_items names
is_form (Form.enum_of names) ks = has_items names
is_form Form.tuple_of ks = has_items ks
is_form (Form.fixed_list_of n) ks = nat_le 1 n && nat_lt n 4294967296
is_form Form.map_of ks = begins_with_key ks
is_form _ ks = true

abbrev pub has_shape : PlannedKind → Bool
has_shape (formed form ks) = is_form form ks
has_shape _ = true

-- a kind that only a named type has
abbrev pub is_named_kind : PlannedKind → Bool
is_named_kind resource = true
is_named_kind (alias k) = true
is_named_kind (formed form ks) = is_named_form form

abbrev pub is_named_number : Plan → ℕ → Bool
is_named_number p n = option_map_or (λ t. is_some t.name) (type_in p n) false

abbrev pub kind_is_named : Plan → PlannedType → Bool
kind_is_named p t = (not (is_named_kind t.kind) || is_some t.name) && passes (is_named_number p) (alias_number t.kind)

abbrev pub is_handle_form : Form → Bool
is_handle_form Form.own_of = true
is_handle_form Form.borrow_of = true
is_handle_form _ = false

-- a handle is of a resource, and no other form has one as a part
abbrev pub handles_resources : Plan → PlannedKind → Bool
handles_resources p (formed form ks) =
    if is_handle_form form then list_all (is_resource p) (filter_map part_number ks) else list_all (λ m. not (is_resource p m)) (filter_map part_number ks)
handles_resources p _ = true

abbrev pub is_shallow : Plan → ℕ → Bool
is_shallow p k = nat_le (levels (part_tree (trees_in p) k)) most_levels

abbrev pub parts_are_shallow : Plan → PlannedKind → Bool
parts_are_shallow p (formed form ks) = list_all (is_shallow p) ks
parts_are_shallow p _ = true

-- ---- functions

abbrev pub function_in_range : Plan → PlannedFunction → Bool
function_in_range p f = list_all (in_list p.types) (function_numbers f)

abbrev pub function_labels : PlannedFunction → Bool
function_labels f = (not (is_freestanding f.kind) || is_label f.name) && are_member_labels (names_of f.params)

abbrev pub function_stays : Plan → TypeOwner → PlannedFunction → Bool
function_stays p o f = list_all (has_owner p o) (used_by_numbers p (filter_map part_number (function_parts f)))

abbrev pub takes_values : Plan → PlannedFunction → Bool
takes_values p f = list_all (λ m. not (is_resource p m)) (filter_map part_number (function_parts f))

abbrev pub function_is_shallow : Plan → PlannedFunction → Bool
function_is_shallow p f = list_all (is_shallow p) (function_parts f)

abbrev pub is_resource_kind : PlannedKind → Bool
is_resource_kind resource = true
is_resource_kind _ = false

-- the name of the resource of this owner that has this number
abbrev pub resource_name : Plan → TypeOwner → ℕ → Option Text
resource_name p o n = option_and_then (λ t. if is_resource_kind t.kind && same_owner t.owner o then t.name else None) (type_in p n)

abbrev pub is_own_kind : ℕ → PlannedKind → Bool
is_own_kind n (formed Form.own_of (k ∷ ks)) = is_id n (part_number k)
is_own_kind n _ = false

abbrev pub is_borrow_kind : ℕ → PlannedKind → Bool
is_borrow_kind n (formed Form.borrow_of (k ∷ ks)) = is_id n (part_number k)
is_borrow_kind n _ = false

abbrev pub is_own_of : ℕ → PlannedType → Bool
is_own_of n t = is_none t.name && is_own_kind n t.kind

abbrev pub is_borrow_of : ℕ → PlannedType → Bool
is_borrow_of n t = is_none t.name && is_borrow_kind n t.kind

abbrev pub part_is : Plan → (PlannedType → Bool) → ℕ → Bool
part_is p test k = option_map_or (λ n. option_map_or test (type_in p n) false) (part_number k) false

abbrev pub has_own_ok : Plan → ℕ → PlannedKind → Bool
has_own_ok p n (formed (Form.result_of true err) (k ∷ ks)) = part_is p (is_own_of n) k
has_own_ok p n _ = false

abbrev pub is_result_of_own : Plan → ℕ → PlannedType → Bool
is_result_of_own p n t = is_none t.name && has_own_ok p n t.kind

-- a constructor gives a new resource, or may fail in place of it
abbrev pub constructs : Plan → ℕ → PlannedFunction → Bool
constructs p n f = option_map_or (λ k. part_is p (is_own_of n) k || part_is p (is_result_of_own p n) k) f.result false

-- the first parameter of a method is the resource itself
abbrev pub takes_self : Plan → ℕ → PlannedFunction → Bool
takes_self p n f = option_map_or (λ x. text_eq x.0 (codes "self") && part_is p (is_borrow_of n) x.1) (slice_get f.params 0) false

abbrev pub is_member_name : Text → PlannedFunction → Bool
is_member_name prefix f = option_map_or is_label (after_prefix prefix f.name) false

abbrev pub is_member_of : Plan → ℕ → Text → PlannedFunction → FunctionKind → Bool
is_member_of p n name f (call.Constructor id) = text_eq f.name (constructor_name name) && constructs p n f
is_member_of p n name f (call.Method id) = is_member_name (method_name name []) f && takes_self p n f
is_member_of p n name f (call.AsyncMethod id) = is_member_name (method_name name []) f && takes_self p n f
is_member_of p n name f (call.Static id) = is_member_name (static_name name []) f
is_member_of p n name f (call.AsyncStatic id) = is_member_name (static_name name []) f
is_member_of p n name f call.Freestanding = true
is_member_of p n name f call.AsyncFreestanding = true

-- a function of a resource belongs to a resource of the same owner
abbrev pub is_member : Plan → TypeOwner → PlannedFunction → Bool
is_member p o f = passes (λ n. option_map_or (λ name. is_member_of p n name f f.kind) (resource_name p o n) false) (resource_of f.kind)

abbrev pub functions_of : PlannedInterface → List PlannedFunction
functions_of i = map (λ e. e.1) i.functions

abbrev pub world_functions : PlannedWorld → List PlannedFunction
world_functions w = filter_map item_function (items_of w)

-- each function of an interface and of a world passes the test, which is given its owner
pub record FunctionsPass (p : Plan) (test : TypeOwner → PlannedFunction → Bool) : Type 0 where
  pub of_interfaces : each_from (λ n i. list_all (test (as_interface n)) (functions_of i)) 0 p.interfaces ≡ true
  pub of_worlds : each_from (λ n w. list_all (test (as_world n)) (world_functions w)) 0 p.worlds ≡ true

-- ---- worlds

abbrev pub is_world_placed : Plan → ℕ → PlannedWorld → Bool
is_world_placed p n w = option_map_or (λ k. is_id n (number_under w.name k.worlds)) (option_and_then (package_in p) w.package_) false

abbrev pub same_key : PlannedKey → PlannedKey → Bool
same_key (label a) (label b) = text_eq a b
same_key (path_of m) (path_of n) = m == n
same_key _ _ = false

abbrev pub keys_differ : List (PlannedKey × PlannedItem) → Bool
keys_differ [] = true
keys_differ (e ∷ es) = not (list_any (λ other. same_key e.0 other.0) es) && keys_differ es

-- a function stands under its name, which is a label if it belongs to no resource
abbrev pub is_function_key : Text → PlannedFunction → Bool
is_function_key t f = text_eq t f.name && (not (is_freestanding f.kind) || is_label t)

abbrev pub import_stands : Plan → ℕ → PlannedKey × PlannedItem → Bool
import_stands p w e = stands e.0 e.1
  where
    stands : PlannedKey → PlannedItem → Bool
    stands (path_of n) x = is_id n (item_interface x) && has_name p n
    stands (label t) (interface n external_id) = is_label t && in_list p.interfaces n
    stands (label t) (function f) = is_function_key t f
    stands (label t) (declares n) = is_label t && is_type_of p (as_world w) (t, n)

abbrev pub export_stands : Plan → PlannedKey × PlannedItem → Bool
export_stands p e = stands e.0 e.1
  where
    stands : PlannedKey → PlannedItem → Bool
    stands (path_of n) x = is_id n (item_interface x) && has_name p n
    stands (label t) (interface n external_id) = is_label t && in_list p.interfaces n
    stands (label t) (function f) = is_function_key t f && is_freestanding f.kind
    stands (label t) (declares n) = false

-- the interfaces and the types of the world that an item uses
abbrev pub used_interfaces : Plan → PlannedItem → List ℕ
used_interfaces p (interface n external_id) = direct_uses p n
used_interfaces p (declares n) = option_to_list (interface_used_by p n)
used_interfaces p (function f) = []

abbrev pub used_types : Plan → ℕ → PlannedItem → List ℕ
used_types p w (interface n external_id) = []
used_types p w (declares n) = filter (has_owner p (as_world w)) (option_map_or (λ t. used_by_numbers p (kind_numbers t.kind)) (type_in p n) [])
used_types p w (function f) = filter (has_owner p (as_world w)) (used_by_numbers p (function_numbers f))

-- what an item uses stands before it
abbrev pub uses_stand_before : Plan → ℕ → List PlannedItem → PlannedItem → Bool
uses_stand_before p w before x = list_all (has (filter_map item_interface before)) (used_interfaces p x) && list_all (has (filter_map item_type before))
    (used_types p w x)

-- ---- a plan that was read

pub record IsPlan (p : Plan) : Type 0 where
  -- no list is longer than 4,294,967,295
  pub packages_fit : fits p.packages ≡ true
  pub interfaces_fit : fits p.interfaces ≡ true
  pub worlds_fit : fits p.worlds ≡ true
  pub types_fit : fits p.types ≡ true
  -- Packages are named, apart, and list what is theirs, under names that differ.
  pub identities : list_all (λ k. is_identity k.identity) p.packages ≡ true
  pub alone : each_from (is_alone p) 0 p.packages ≡ true
  pub members : each_from (lists_members p) 0 p.packages ≡ true
  pub members_differ : list_all members_differ p.packages ≡ true
  -- Interfaces stand in their places, under labels; their types are theirs, their numbers rise, and they use smaller interfaces alone.
  pub interfaces_placed : each_from (is_placed p) 0 p.interfaces ≡ true
  pub interface_labels : list_all interface_labels p.interfaces ≡ true
  pub interface_types : each_from (λ n i. list_all (is_type_of p (as_interface n)) i.types) 0 p.interfaces ≡ true
  pub types_rise : list_all (λ i. are_rising (numbers_of i.types)) p.interfaces ≡ true
  pub uses_fall : each_from (λ n i. list_all (λ m. nat_le m n) (interfaces_used_by p i)) 0 p.interfaces ≡ true
  pub function_keys : list_all (λ i. list_all (λ e. text_eq e.0 e.1.name) i.functions) p.interfaces ≡ true
  -- Worlds stand in their places, under labels; so do their items, behind what they use.
  pub worlds_placed : each_from (is_world_placed p) 0 p.worlds ≡ true
  pub world_labels : list_all (λ w. is_label w.name) p.worlds ≡ true
  pub imports_stand : each_from (λ n w. list_all (import_stands p n) w.imports) 0 p.worlds ≡ true
  pub exports_stand : list_all (λ w. list_all (export_stands p) w.exports) p.worlds ≡ true
  pub keys_differ : list_all (λ w. keys_differ w.imports && keys_differ w.exports) p.worlds ≡ true
  pub world_types_rise : list_all (λ w. are_rising (world_types w)) p.worlds ≡ true
  pub items_in_order : each_from (λ n w. each_after (uses_stand_before p n) [] (items_of w)) 0 p.worlds ≡ true
  -- Types refer to smaller numbers. A named one stands in its owner's list, and an unnamed one has no owner.
  pub types_fall : each_from (λ n t. list_all (λ m. nat_lt m n) (kind_numbers t.kind)) 0 p.types ≡ true
  pub types_listed : each_from (is_listed p) 0 p.types ≡ true
  pub type_labels : list_all type_labels p.types ≡ true
  pub types_stay : list_all (type_stays p) p.types ≡ true
  pub types_shaped : list_all (λ t. has_shape t.kind) p.types ≡ true
  pub kinds_named : list_all (kind_is_named p) p.types ≡ true
  pub handles : list_all (λ t. handles_resources p t.kind) p.types ≡ true
  pub depths : list_all (λ t. parts_are_shallow p t.kind) p.types ≡ true
  -- Functions of interfaces and worlds
  pub functions_in_range : FunctionsPass p (λ o f. function_in_range p f)
  pub functions_labelled : FunctionsPass p (λ o f. function_labels f)
  pub functions_stay : FunctionsPass p (function_stays p)
  pub functions_take_values : FunctionsPass p (λ o f. takes_values p f)
  pub functions_shallow : FunctionsPass p (λ o f. function_is_shallow p f)
  pub functions_belong : FunctionsPass p (is_member p)

-- ---- a plan of a package, and of one world

abbrev pub is_shown_in : PlannedWorld → ℕ → Bool
is_shown_in w n = has (filter_map item_interface (items_of w)) n

-- an interface of another package
abbrev pub is_foreign : Plan → PlannedInterface → Bool
is_foreign p i = is_some i.name && not (is_id p.main i.package_)

-- Why an interface is there: a world shows it, or another interface uses it.
pub data IsWanted (p : Plan) (n : ℕ) : Type 0 where
  shown : (m : ℕ) (w : PlannedWorld) → world_in p m ≡ Some w → is_shown_in w n ≡ true → IsWanted p n
  used : (m : ℕ) → has (direct_uses p m) n ≡ true → IsWanted p n

-- a part of a type, or of a function
abbrev pub is_part : Plan → ℕ → Bool
is_part p n = list_any (λ t. has (kind_numbers t.kind) n) p.types
    || (list_any (λ i. list_any (λ f. has (function_numbers f) n) (functions_of i)) p.interfaces || list_any
    (λ w. list_any (λ f. has (function_numbers f) n) (world_functions w)) p.worlds)

-- no type stands there but named ones and parts, which have no external id, and no package but the main one and those of interfaces
pub record HoldsNoMore (p : Plan) : Type 0 where
  pub types : each_from (λ n t. is_some t.name || (is_part p n && is_none t.external_id)) 0 p.types ≡ true
  pub packages : each_from (λ n k. (n == p.main) || has_items k.interfaces) 0 p.packages ≡ true

-- The plan of a package: each world is one of the package, each interface of another package is there for a reason, and has functions
-- only where a world shows it.
pub record IsPackagePlan (p : Plan) : Type 0 where
  pub plan : IsPlan p
  pub no_more : HoldsNoMore p
  pub main : is_some (package_in p p.main) ≡ true
  pub worlds : list_all (λ w. is_id p.main w.package_) p.worlds ≡ true
  pub wanted : (n : ℕ) (i : PlannedInterface) → interface_in p n ≡ Some i → is_foreign p i ≡ true → IsWanted p n
  pub bare : (n : ℕ) (i : PlannedInterface) → interface_in p n ≡ Some i → is_foreign p i ≡ true → list_any (λ w. is_shown_in w n) p.worlds ≡ false
      → i.functions ≡ []

-- The plan of one world: it shows each interface that has a name.
pub record IsWorldPlan (p : Plan) : Type 0 where
  pub plan : IsPlan p
  pub no_more : HoldsNoMore p
  pub world : PlannedWorld
  pub alone : p.worlds ≡ world ∷ []
  pub home : is_id p.main world.package_ ≡ true
  pub shows : (n : ℕ) (i : PlannedInterface) → interface_in p n ≡ Some i → is_some i.name ≡ true → is_shown_in world n ≡ true
