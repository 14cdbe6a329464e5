-- Two `Resolve`s side by side: which of their types stand for the same.
use Rattle.std.specs.Prelude.{◌≡◌, ◌↔◌, ◌⊎◌, ℕ, ◌+◌, ◌<◌, true, List, [], ◌∷◌, ◌++◌, length, map, Option, Some, None, String, IsSome, IsTrue}
use Rattle.std.specs.{Borrow.Bor, FinMap.from_entries, List.Contains, Map.lookup, Option.option_map_or}
use Rattle.std.specs.declared.alloc.Global.{Global}
use Rattle.indexmap.specs.IndexMap.{values}
use Rattle.wit_model.specs.declared.model.{Resolve.Resolve, TypeDef.TypeDef, TypeId.TypeId}
use Rattle.wit_model.specs.declared.model.{Interface.Interface, «Type».«Type» as ValueType, TypeDefKind.TypeDefKind, Function.Function, WorldItem.WorldItem}
use Rattle.wit_model.specs.{Lookup.identity_of, Lookup.place_of, Lookup.type_at, Text.Text, Text.TextMap, Text.optional_text, Text.text_eq, Text.text_of}
use Rattle.wit_model.specs.Names.{is_identity, is_label, is_version, path_in}
use Rattle.wit_model.specs.{Tree.Tree, Tree.named, Parts.function_types, Types.number_tree, Types.type_tree, Types.trees_of, Types.declared_by, Valid.IsValid}
use Rattle.wit_model.specs.Meaning.{Entry, FunctionMeaning, InterfaceSense, TypeMeaning, entry_sense, item_sense}
use Rattle.wit_model.specs.{Meant.entry_meaning, Meant.function_meaning, Meant.interface_item, Meant.type_meaning_at, Rules.item_in_range, Rules.passes}
use Rattle.compat_meaning.specs.declared.{side.Path.Path, side.Side.Side, look.Look.Look}
use Rattle.compat_meaning.specs.{Table.AllInRange, Walk.Pair}
use Rattle.wit_model.specs.declared.model.«Type».TheVariants as ty
use Rattle.wit_model.specs.declared.model.TypeDefKind.TheVariants as kind
use Rattle.compat_meaning.specs.declared.look.Look.TheVariants as look

-- ---- paths

-- a path by its parts
abbrev pub path_text : Path → Text
path_text p = path_in (identity_of p.home.now) (text_of p.name.now)

-- its parts are what a package and an interface may be called
pub record IsKnown (p : Path) : Type 0 where
  pub version : passes is_version p.home.now.version ≡ true
  pub identity : is_identity (identity_of p.home.now) ≡ true
  pub label : is_label (text_of p.name.now) ≡ true

-- a valid `Resolve`
pub record IsSide (s : Side) : Type 0 where
  pub valid : IsValid s.resolve.now

-- ---- types

-- the types stand for the same
abbrev pub SameType : Resolve → Resolve → ValueType → ValueType → Type 0
SameType a b t u = type_tree a t ≡ type_tree b u

-- each pair of numbers is of two types that stand for the same
abbrev pub AllSame : Resolve → Resolve → List Pair → Type 0
AllSame a b pairs = (p : Pair) → Contains pairs p → number_tree a p.0 ≡ number_tree b p.1

-- a named type where it is used: its place and its name
abbrev pub name_leaf : Resolve → TypeDef → Tree
name_leaf r def = named (place_of r def.owner) (option_map_or text_of def.name [])

-- one more than a type's number, if it has one
abbrev pub rank : ValueType → ℕ
rank (ty.Id id) = id.0 + 1
rank _ = 0

-- The types stand for the same exactly where those at equal places do.
pub record IsParted (a b : Resolve) (t u : ValueType) (ts us : List ValueType) : Type 0 where
  pub alike : length ts ≡ length us
  pub left : AllInRange a ts
  pub right : AllInRange b us
  pub below : (x : ValueType) → Contains ts x → rank x < rank t
  pub same : map (type_tree a) ts ≡ map (type_tree b) us → SameType a b t u
  pub back : SameType a b t u → map (type_tree a) ts ≡ map (type_tree b) us

-- what a look at two types says
abbrev pub Says : Resolve → Resolve → ValueType → ValueType → Look → Type 0
Says a b t u (look.Known y) = IsTrue y ↔ SameType a b t u
Says a b t u (look.Parts ts us) = IsParted a b t u ts.items us.items

-- ---- declarations

-- what an alias stands for
abbrev pub aliased : TypeDefKind → Option ValueType
aliased (kind.Type_ t) = Some t
aliased _ = None

-- the kind of a type of the `Resolve`
abbrev pub IsKindOf : Resolve → TypeDefKind → Type 0
IsKindOf r k = (n : ℕ) × (def : TypeDef) × (type_at r n ≡ Some def) × (def.kind ≡ k)

-- the kinds declare the same
abbrev pub SameDeclared : Resolve → Resolve → TypeDefKind → TypeDefKind → Type 0
SameDeclared a b d e = declared_by (trees_of a) d ≡ declared_by (trees_of b) e

-- The kinds declare the same exactly where the types at equal places stand for the same.
pub record AreParted (a b : Resolve) (d e : TypeDefKind) (ts us : List ValueType) : Type 0 where
  pub left : AllInRange a ts
  pub right : AllInRange b us
  pub same : map (type_tree a) ts ≡ map (type_tree b) us → SameDeclared a b d e
  pub back : SameDeclared a b d e → map (type_tree a) ts ≡ map (type_tree b) us

-- what a look at two kinds says
abbrev pub SaysDeclared : Resolve → Resolve → TypeDefKind → TypeDefKind → Look → Type 0
SaysDeclared a b d e (look.Known y) = IsTrue y ↔ SameDeclared a b d e
SaysDeclared a b d e (look.Parts ts us) = AreParted a b d e ts.items us.items

-- it says so of the types of any two valid `Resolve`s
abbrev pub TellsDeclared : TypeDefKind → TypeDefKind → Look → Type 0
TellsDeclared d e l = (a b : Resolve) → IsValid a → IsValid b → IsKindOf a d → IsKindOf b e → SaysDeclared a b d e l

-- ---- interfaces and worlds

-- the numbers in an interface are of types
pub record HasTypesInRange (r : Resolve) (i : Interface) : Type 0 where
  pub types : (id : TypeId) → Contains (values i.types) id → id.0 < length r.types.items
  pub functions : (f : Function) → Contains (values i.functions) f → AllInRange r (function_types f)

-- the types, and the functions, of an interface by name
abbrev pub types_sense : Resolve → List (String Global × TypeId) → TextMap TypeMeaning
types_sense r es = from_entries (map (λ e. (text_of e.0, type_meaning_at r e.1.0)) es)

abbrev pub functions_sense : Resolve → List (String Global × Function) → TextMap FunctionMeaning
functions_sense r es = from_entries (map (λ e. (text_of e.0, function_meaning r e.1)) es)

-- an interface as an item, with an external id
abbrev pub interface_entry : Resolve → ℕ → Option (String Global) → Entry InterfaceSense
interface_entry r n i = record { item = item_sense (interface_item r n); external_id = optional_text i }

-- two interfaces are the same item with the same external id
abbrev pub SameInterfaceEntries : Resolve → Resolve → ℕ → ℕ → Option (String Global) → Option (String Global) → Type 0
SameInterfaceEntries a b n m i j = interface_entry a n i ≡ interface_entry b m j

abbrev pub BorrowedEntry : Type 0
BorrowedEntry = String Global × Bor WorldItem

-- the entries of a list of imports or exports by the texts of their keys, as a map of senses
abbrev pub sense_entry : Resolve → BorrowedEntry → Text × Entry InterfaceSense
sense_entry r e = (text_of e.0, entry_sense (entry_meaning r e.1.now))

abbrev pub indexed_sense : Resolve → List BorrowedEntry → TextMap (Entry InterfaceSense)
indexed_sense r es = from_entries (map (sense_entry r) es)

-- an entry is there unless its key was
abbrev pub PutsFirst : List BorrowedEntry → List BorrowedEntry → BorrowedEntry → Type 0
PutsFirst old new e = ((new ≡ old) × IsSome (lookup (λ k. text_eq (text_of e.0) (text_of k)) old)) ⊎ (new ≡ old ++ e ∷ [])

abbrev pub AllItemsInRange : Resolve → List BorrowedEntry → Type 0
AllItemsInRange r es = (e : BorrowedEntry) → Contains es e → item_in_range r e.1.now ≡ true
