-- Where declarations stand (Component Model Binary.md, "Import and Export Definitions"). Types stand before functions, and the type of a
-- function just before the first import or export of one that has it. An instance type stands just before the import or export of its instance.
use Rattle.std.specs.Prelude.{ℕ, ◌≡◌, ◌+◌, ◌++◌, nat_eq, Bool, true, false, not, ◌&&◌, ◌||◌, List, Option, Some, None}
use Rattle.std.specs.{List.list_all, Option.option_map_or}
use Rattle.comp_bytes.specs.declared.forms.ComponentTypeRef.{ComponentTypeRef}
use Rattle.comp_bytes.specs.{Raw.Declaration, Raw.Declarations, Raw.append, Raw.from_list, Held.declaration_slots}
use Rattle.encode_types.specs.Distinct.{is_function_type}
use Rattle.comp_bytes.specs.declared.forms.ComponentTypeRef.TheVariants as refs

-- ---- what a declaration imports or exports

-- what it imports or exports, if it does
abbrev pub described_by : Declaration → Option ComponentTypeRef
described_by (Declaration.defined d) = None
described_by (Declaration.function f) = None
described_by (Declaration.alias_of a) = None
described_by (Declaration.imported name described) = Some described
described_by (Declaration.exported name described) = Some described

-- whether it is a function
abbrev pub is_function : ComponentTypeRef → Bool
is_function (refs.Func i) = true
is_function (refs.TypeEq i) = false
is_function refs.SubResource = false
is_function (refs.Component i) = false
is_function (refs.Instance i) = false

-- whether it is a type
abbrev pub is_type : ComponentTypeRef → Bool
is_type (refs.Func i) = false
is_type (refs.TypeEq i) = true
is_type refs.SubResource = true
is_type (refs.Component i) = false
is_type (refs.Instance i) = false

-- whether it is a function of the type at this index
abbrev pub is_function_of : ℕ → ComponentTypeRef → Bool
is_function_of n (refs.Func i) = nat_eq n i
is_function_of n (refs.TypeEq i) = false
is_function_of n refs.SubResource = false
is_function_of n (refs.Component i) = false
is_function_of n (refs.Instance i) = false

-- whether it is an instance of the type at this index
abbrev pub is_instance_at : ℕ → ComponentTypeRef → Bool
is_instance_at n (refs.Func i) = false
is_instance_at n (refs.TypeEq i) = false
is_instance_at n refs.SubResource = false
is_instance_at n (refs.Component i) = false
is_instance_at n (refs.Instance i) = nat_eq n i

-- whether a declaration imports or exports something of which this holds
abbrev pub describes : (ComponentTypeRef → Bool) → Declaration → Bool
describes test d = option_map_or test (described_by d) false

-- whether the first of these declarations does
abbrev pub begins_with : (ComponentTypeRef → Bool) → Declarations → Bool
begins_with test Declarations.no_more = false
begins_with test (Declarations.declares d rest) = describes test d
begins_with test (Declarations.component inner rest) = false
begins_with test (Declarations.instance inner rest) = false

-- ---- where they stand

-- Whether what stands next behind each type of a function, at the first level, is the import or the export of a function of that type, and next
-- behind each instance type that of an instance of it. So many type indexes are taken before.
abbrev pub are_beside : ℕ → Declarations → Bool
are_beside n Declarations.no_more = true
are_beside n (Declarations.declares d rest) =
    (not (is_function_type d) || begins_with (is_function_of n) rest) && are_beside (n + declaration_slots d) rest
are_beside n (Declarations.component inner rest) = are_beside (n + 1) rest
are_beside n (Declarations.instance inner rest) = begins_with (is_instance_at n) rest && are_beside (n + 1) rest

-- The declarations of an instance type: no function is exported before its types, and no type behind its functions. The type of a function that
-- is defined stands just before the export of a function that has it.
pub record StandInOrder (declared : List Declaration) : Type 0 where
  pub types : List Declaration
  pub functions : List Declaration
  pub are : declared ≡ types ++ functions
  pub no_function : list_all (λ d. not (describes is_function d)) types ≡ true
  pub no_type : list_all (λ d. not (describes is_type d)) functions ≡ true
  pub beside : are_beside 0 (from_list declared) ≡ true

-- ---- between two declarations

-- whether a declaration takes a type index
abbrev pub takes_index : Declaration → Bool
takes_index d = nat_eq (declaration_slots d) 1

-- Behind these declarations there are others now, each of which takes a type index.
pub record GrowsBy (before after : Declarations) : Type 0 where
  pub more : List Declaration
  pub are : after ≡ append before (from_list more)
  pub indexes : list_all takes_index more ≡ true

-- where each type of a function and each instance type stands just before what has it, so it is after this
abbrev pub StaysBeside : Declarations → Declarations → Type 0
StaysBeside before after = are_beside 0 before ≡ true → are_beside 0 after ≡ true
