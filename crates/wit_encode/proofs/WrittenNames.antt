-- The names under which instances have been imported and exported stay, but for that of a new one.
use Rattle.std.proofs.Common.{rules as std_rules, ◌≡◌, refl, sym, ap, ◌∙◌, append-nil, append_assoc, ℕ, Bool, if◌then◌else◌, is_some, List, [], ◌∷◌, ◌++◌, map, Option, Some, None}
use Rattle.std.proofs.lemmas.{List.map-append, List.Concat.flat_map-append}
use Rattle.wit_model.specs.{Text.Text, Uses.item_interface}
use Rattle.wit_model.specs.declared.model.{Resolve.Resolve, Interface.Interface, InterfaceId.InterfaceId, Function.Function, TypeId.TypeId}
use Rattle.comp_bytes.specs.Raw.{Declaration, Declarations, ExternName, append}
use Rattle.comp_meaning.specs.Follow.{Direction, import_, export_}
use Rattle.encode_types.specs.Known.{Aliased, AreAliases, Around, GrowsAround, with_alias, with_aliases}
use Rattle.encode_reach.specs.Reach.{reached_in_order}
use Rattle.encode_names.specs.{WorldNames.name_of_interface, WorldNames.name_of_item, WorldSteps.Entry, WorldSteps.declared_towards}
use Rattle.wit_encode.specs.{Encoders.declared_after, Dependencies.ImportsTypes, Instance.EncodesInterface, Instance.EncodesPart}
use Rattle.wit_encode.specs.WrittenNames.{NamesInterfaces, NamesMore, WritesPaths, if_named, instance_declarations, instance_name, instance_names, instances_around, names_among}
use Rattle.wit_model.specs.declared.model.WorldItem.TheVariants as item
use Rattle.comp_bytes.specs.declared.forms.ComponentTypeRef.TheVariants as refs

-- ---- one declaration more

pub instances-left : (ds : Declarations) (d : Declaration) → instance_name d ≡ [] → instance_declarations (append ds (Declarations.declares d Declarations.no_more)) ≡ instance_declarations ds
instances-left Declarations.no_more d plain = ap (λ (ns : List ExternName). if_named ns d Declarations.no_more) plain
instances-left (Declarations.declares x rest) d plain = ap (if_named (instance_name x) x) (instances-left rest d plain)
instances-left (Declarations.component inner rest) d plain = instances-left rest d plain
instances-left (Declarations.instance inner rest) d plain = ap (λ (z : Declarations). Declarations.instance inner z) (instances-left rest d plain)

pub names-more : (ds : Declarations) (d : Declaration) → instance_names (append ds (Declarations.declares d Declarations.no_more)) ≡ instance_names ds ++ instance_name d
names-more Declarations.no_more d = append-nil (instance_name d)
names-more (Declarations.declares x rest) d = ap (λ (ns : List ExternName). instance_name x ++ ns) (names-more rest d) ∙ sym (append_assoc (instance_name x) (instance_names rest) (instance_name d))
names-more (Declarations.component inner rest) d = names-more rest d
names-more (Declarations.instance inner rest) d = names-more rest d

pub names-behind : (ds inner : Declarations) → instance_names (append ds (Declarations.instance inner Declarations.no_more)) ≡ instance_names ds
names-behind Declarations.no_more inner = refl
names-behind (Declarations.declares x rest) inner = ap (λ (ns : List ExternName). instance_name x ++ ns) (names-behind rest inner)
names-behind (Declarations.component i rest) inner = names-behind rest inner
names-behind (Declarations.instance i rest) inner = names-behind rest inner

names-aliased : (a : Around) (made : List Aliased) → instance_names (with_aliases a made).declared ≡ instance_names a.declared
names-aliased a [] = refl
names-aliased a (x ∷ made) = names-aliased (with_alias a x) made ∙ names-more a.declared _ ∙ append-nil (instance_names a.declared)

-- ---- a call of the encoder of types

named-alone : (ds : Declarations) → instance_names (instance_declarations ds) ≡ instance_names ds
named-alone Declarations.no_more = refl
named-alone (Declarations.declares d rest) = search (std_rules, named-alone rest)
named-alone (Declarations.component inner rest) = named-alone rest
named-alone (Declarations.instance inner rest) = named-alone rest

pub names-stay : (q : Resolve) (ds es : Declarations) → GrowsAround q (instances_around ds) (instances_around es) → instance_names es ≡ instance_names ds
names-stay q ds es g = sym (named-alone es) ∙ ap (λ (a : Around). instance_names a.declared) (g.is ∙ none g.made g.are) ∙ named-alone ds
  where
    none : (made : List Aliased) → AreAliases q (instances_around ds) made → with_aliases (instances_around ds) made ≡ instances_around ds
    none [] are = refl
    none (x ∷ made) are = cc are.0.instance

-- ---- items

pub no-function-name : (direction : Direction) (name : ExternName) (k : ℕ) → instance_name (declared_towards direction name (refs.Func k)) ≡ []
no-function-name import_ name k = refl
no-function-name export_ name k = refl

pub interface-name : (direction : Direction) (name : ExternName) (k : ℕ) → instance_name (declared_towards direction name (refs.Instance k)) ≡ name ∷ []
interface-name import_ name k = refl
interface-name export_ name k = refl

none-among : (r : Resolve) (canonical : Bool) (x : Entry) → item_interface x.1 ≡ None → names_among r canonical (x ∷ []) ≡ []
none-among r canonical x e = ap (λ (o : Option ℕ). (if is_some o then name_of_item r canonical x ∷ [] else []) ++ []) e

one-among : (r : Resolve) (canonical : Bool) (x : Entry) (n : ℕ) → item_interface x.1 ≡ Some n → names_among r canonical (x ∷ []) ≡ name_of_item r canonical x ∷ []
one-among r canonical x n e = ap (λ (o : Option ℕ). (if is_some o then name_of_item r canonical x ∷ [] else []) ++ []) e

pub type-names : (r q : Resolve) (canonical : Bool) (x : Entry) (id : TypeId) (ds es : Declarations) → x.1 ≡ item.Type_ id → GrowsAround q (instances_around ds) (instances_around es)
    → NamesMore r canonical (x ∷ []) ds es
type-names r q canonical x id ds es is g =
    names-stay q ds es g ∙ sym (append-nil (instance_names ds)) ∙ ap (λ (ns : List ExternName). instance_names ds ++ ns) (sym (none-among r canonical x (ap item_interface is)))

pub function-names : (r q : Resolve) (canonical : Bool) (x : Entry) (f : Function) (ds es outer : Declarations) (direction : Direction) (name : ExternName) (k : ℕ) → x.1 ≡ item.Function f
    → GrowsAround q (instances_around ds) (instances_around es) → outer ≡ declared_after es (declared_towards direction name (refs.Func k)) → NamesMore r canonical (x ∷ []) ds outer
function-names r q canonical x f ds es outer direction name k is g declared =
    ap instance_names declared ∙ names-more es (declared_towards direction name (refs.Func k)) ∙ ap (λ (ns : List ExternName). instance_names es ++ ns) (no-function-name direction name k)
    ∙ append-nil (instance_names es) ∙ names-stay q ds es g ∙ sym (append-nil (instance_names ds)) ∙ ap (λ (ns : List ExternName). instance_names ds ++ ns)
    (sym (none-among r canonical x (ap item_interface is)))

-- an instance type has no name
part-names : (q : Resolve) (a a' : Around) (i : InterfaceId) (def : Interface) (written : List (Text × Function)) (functions : List Function) (k : ℕ) → EncodesPart q a a' i def written functions k
    → instance_names a'.declared ≡ instance_names a.declared
part-names q a a' i def written functions k part = search (std_rules, names-behind, names-aliased)

pub interface-names : (r q : Resolve) (canonical : Bool) (x : Entry) (i : InterfaceId) (a a' : Around) (def : Interface) (outer : Declarations) (direction : Direction) (name : ExternName) (k : ℕ)
    → item_interface x.1 ≡ Some i.0 → EncodesInterface q a a' i def k → outer ≡ declared_after a'.declared (declared_towards direction name (refs.Instance k)) → name ≡ name_of_item r canonical x
    → NamesMore r canonical (x ∷ []) a.declared outer
interface-names r q canonical x i a a' def outer direction name k is encodes declared named = ap instance_names declared ∙ names-more a'.declared (declared_towards direction name (refs.Instance k))
    ∙ (λ j. part-names q a a' i def _ _ k encodes.part j
    ++ (interface-name direction name k ∙ ap (λ (n : ExternName). n ∷ []) named ∙ sym (one-among r canonical x i.0 is)) j)

-- ---- one entry after the other

pub names-nothing : (r : Resolve) (canonical : Bool) (ds : Declarations) → NamesMore r canonical [] ds ds
names-nothing r canonical ds = sym (append-nil (instance_names ds))

pub names-then : (r : Resolve) (canonical : Bool) (xs ys : List Entry) (ds es fs : Declarations) → NamesMore r canonical xs ds es → NamesMore r canonical ys es fs
    → NamesMore r canonical (xs ++ ys) ds fs
names-then r canonical xs ys ds es fs one more = search (std_rules, append_assoc, flat_map-append)

-- ---- the component type of an interface

module _ (r : Resolve) (canonical : Bool) where
  abbrev name : ℕ → ExternName
  name n = name_of_interface r canonical n

  -- one import more
  pub import-named : (a a' : Around) (i : InterfaceId) (number : ℕ) → ImportsTypes r canonical a a' i number → instance_names a'.declared ≡ instance_names a.declared ++ name i.0 ∷ []
  import-named a a' i number t = search (std_rules, names-more t.encoded.declared (Declaration.imported (name i.0) (refs.Instance t.slot)), part-names r a t.encoded i t.def _ _ t.slot t.encodes.part)

  pub imports-named : (a a' : Around) (i : InterfaceId) (number : ℕ) (ns : List ℕ) (start : Declarations) → ImportsTypes r canonical a a' i number → NamesInterfaces r canonical ns start a.declared
      → NamesInterfaces r canonical (ns ++ i.0 ∷ []) start a'.declared
  imports-named a a' i number ns start t named = search (std_rules, import-named a a' i number t, append_assoc (instance_names start) (map name ns) (name i.0 ∷ []), map-append name ns (i.0 ∷ []))

  -- behind all that it reaches, the interface itself
  pub all-named : (a a' : Around) (ns : List ℕ) (i : InterfaceId) (def : Interface) (k : ℕ) (start outer : Declarations) → start ≡ Declarations.no_more
      → NamesInterfaces r canonical ns start a.declared → ns ≡ reached_in_order r i.0 → EncodesInterface r a a' i def k
      → outer ≡ append a'.declared (Declarations.declares (Declaration.exported (name i.0) (refs.Instance k)) Declarations.no_more) → WritesPaths r canonical i.0 outer
  all-named a a' ns i def k start outer nothing named order encodes is =
      search (std_rules, names-more a'.declared (Declaration.exported (name i.0) (refs.Instance k)), part-names r a a' i def _ _ k encodes.part, map-append name ns (i.0 ∷ []))
