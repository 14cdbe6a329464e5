-- What is asked of interfaces, keys, items and functions by their calls (WIT.md; Binary.md, "Import and Export Definitions").
use Rattle.std.specs.Prelude.{◌≡◌, ℕ, Bool, false, ◌++◌, ◌==◌, [], codes, Option, Some, None, option_map, option_and_then, unwrap_or}
use Rattle.std.specs.{List.after_first, Option.option_map_or}
use Rattle.wit_model.specs.declared.model.Resolve.{Resolve}
use Rattle.wit_model.specs.declared.model.{WorldKey.WorldKey, WorldItem.WorldItem, Stability.Stability, Function.Function, FunctionKind.FunctionKind}
use Rattle.wit_model.specs.{Text.Text, Text.text_of, Lookup.interface_at, Lookup.type_at, Lookup.interface_path, Lookup.canonical_path, Lookup.canonical_suffix}
use Rattle.wit_model.specs.{Uses.item_interface, Rules.is_own_of, Rules.type_is}
use Rattle.wit_model.specs.declared.model.WorldKey.TheVariants as key
use Rattle.wit_model.specs.declared.model.WorldItem.TheVariants as item
use Rattle.wit_model.specs.declared.model.FunctionKind.TheVariants as kind

-- ---- keys and items

-- the interface of this number, where it has a name
abbrev pub named_interface : Resolve → ℕ → Option ℕ
named_interface r n = option_and_then (λ i. option_map (λ name. n) i.name) (interface_at r n)

-- the named interface that an item under a label implements
abbrev pub implemented : Resolve → WorldKey → WorldItem → Option ℕ
implemented r (key.Name name) i = option_and_then (named_interface r) (item_interface i)
implemented r (key.Interface id) i = None

-- the stability of an item: the interface item's own, the function's or the type's
abbrev pub item_stability : Resolve → WorldItem → Option Stability
item_stability r (item.Interface id stability docs external_id) = Some stability
item_stability r (item.Function f) = Some f.stability
item_stability r (item.Type_ id) = option_map (λ def. def.stability) (type_at r id.0)

-- ---- functions

-- what follows the first dot of a name
abbrev pub after_dot : Text → Text
after_dot name = after_first (λ b. b == 46) name

-- a function's own name: that of a method or a static function stands after its resource's and a dot
abbrev pub own_name_of : FunctionKind → Text → Text
own_name_of kind.Freestanding name = name
own_name_of kind.AsyncFreestanding name = name
own_name_of (kind.Method id) name = after_dot name
own_name_of (kind.AsyncMethod id) name = after_dot name
own_name_of (kind.Static id) name = after_dot name
own_name_of (kind.AsyncStatic id) name = after_dot name
own_name_of (kind.Constructor id) name = codes "constructor"

-- a function's own name in WIT, without its resource's
abbrev pub item_name : Function → Text
item_name f = own_name_of f.kind (text_of f.name)

-- whether what a function gives is an unnamed own of the resource
abbrev pub gives_own : Resolve → ℕ → Function → Bool
gives_own r n f = option_map_or (type_is r (is_own_of n)) f.result false

-- whether a function is a constructor that gives its resource, and nothing that could fail
abbrev pub is_shorthand : Resolve → Function → FunctionKind → Bool
is_shorthand r f (kind.Constructor id) = gives_own r id.0 f
is_shorthand r f kind.Freestanding = false
is_shorthand r f kind.AsyncFreestanding = false
is_shorthand r f (kind.Method id) = false
is_shorthand r f (kind.AsyncMethod id) = false
is_shorthand r f (kind.Static id) = false
is_shorthand r f (kind.AsyncStatic id) = false

-- whether a function can be written as a constructor that gives its resource and can't fail
abbrev pub is_constructor_shorthand : Resolve → Function → Bool
is_constructor_shorthand r f = is_shorthand r f f.kind

-- ---- paths

-- A canonical path joined with its suffix is the plain path. Only an interface with a path has either.
abbrev pub CanonicalPathsJoin : Type 0
CanonicalPathsJoin = (r : Resolve) (n : ℕ) → interface_path r n ≡ option_map (λ path. path ++ unwrap_or (canonical_suffix r n) []) (canonical_path r n)
