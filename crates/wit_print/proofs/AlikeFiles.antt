-- Where two `Resolve`s differ in documentation alone, so does what is shown of their packages, and the calls without documentation are the same.
use Rattle.std.proofs.Common.{rules as std_rules, ◌≡◌, refl, sym, ap, ◌∙◌, ℕ, Bool, true, false, List, [], ◌∷◌, ◌++◌, map, filter, filter_map, Option, Some, None, option_map, option_and_then, unwrap_or}
use Rattle.std.specs.{Prelude.String, Prelude.is_some, Prelude.if◌then◌else◌, Option.option_map_or, List.AllZip, List.cons_option}
use Rattle.std.specs.declared.alloc.Global.{Global}
use Rattle.wit_model.specs.declared.model.{Resolve.Resolve, PackageId.PackageId, Interface.Interface, WorldKey.WorldKey, TypeOwner.TypeOwner, Function.Function}
use Rattle.wit_model.specs.declared.model.{Package.Package, World.World, WorldId.WorldId, TypeDef.TypeDef, TypeId.TypeId}
use Rattle.wit_model.specs.declared.model.{InterfaceId.InterfaceId, WorldItem.WorldItem as Item, TypeDefKind.TypeDefKind, «Type».«Type» as ValueType}
use Rattle.wit_model.specs.{Text.Text, Text.text_of, Lookup.package_at, Lookup.interface_at, Lookup.world_at, Lookup.type_at, Rules.is_freestanding}
use Rattle.wit_model.specs.{Parts.same_owner, Valid.item_function}
use Rattle.wit_print.specs.Documentation.{AlikeKinds, AlikeTypes, AlikeFunctions, AlikeEntries, AlikeInterfaces, AlikeKeys, AlikeItems, AlikeWorldEntries, AlikeWorlds, AlikePackages, DifferInDocumentation}
use Rattle.wit_print.specs.Documentation.AlikeKinds.{records, resources, handles, flags, tuples, variants, enums, options, results, lists, maps, fixed_lists, futures, streams, aliases}
use Rattle.wit_print.specs.Documentation.{AlikeKeys.labels, AlikeKeys.interfaces, AlikeItems.interface_items, AlikeItems.function_items, AlikeItems.type_items}
use Rattle.print_grammar.specs.{Tree.PathTree.Local, Tree.ExternTree.Path, Tree.ExternTree.NamedPath, Tree.ExternTree.NamedInterface, Calls.file_calls}
use Rattle.print_grammar.specs.{Tree.MemberTree.UseMember, Tree.MemberTree.TypeMember, Tree.MemberTree.FunctionMember, Tree.ItemTree.InterfaceItem, Tree.ItemTree.WorldItem}
use Rattle.print_grammar.specs.Tree.WorldMember.{WorldUse, WorldType, WorldImport, WorldExport}
use Rattle.print_grammar.specs.AsRead.{bare_prefix, bare_signature, bare_declared, bare_member, bare_extern, bare_world_member, bare_item, bare_package, bare_file}
use Rattle.print_items.specs.Shown.{shown_docs, shown_prefix, shown_gates, full_path, path_from, shown_path, own_name, used_of, grouped, Listed, shown_uses, DeclaredWith, shown_declared, declared_with, shown_declarations, path_from_owner, listed_types, listed_functions, shown_function, shown_interface, shown_extern, extern_prefix, WorldEntry, shown_import, shown_export, is_interface_item, is_freestanding_item, type_of_entry, listed_imports, imported_functions, shown_world_in, shown_world, shown_interface_item, shown_world_item, shown_package_of, no_package, shown_package, shown_file}
use Rattle.wit_print.proofs.AlikeTypes.{same, Both, at_both, or_alike, then_alike, map_alike, bare_map_alike, filter_alike, name_alike, external_id_alike, gates_alike, types_at, signature_alike, function_prefix_alike, declared_alike}
use Rattle.wit_print.proofs.UndocumentedCalls.{undocumented_calls}
use Rattle.base_lemmas.proofs.Lists.{append_of_map as map_joined}
use Rattle.wit_model.proofs.TextLemmas.{some_alike}
use Rattle.wit_model.specs.declared.model.WorldKey.TheVariants as key
use Rattle.wit_model.specs.declared.model.WorldItem.TheVariants as item
use Rattle.wit_model.specs.declared.model.TypeDefKind.TheVariants as defined
use Rattle.wit_model.specs.declared.model.TypeOwner.TheVariants as owner
use Rattle.wit_model.specs.declared.model.«Type».TheVariants as value

-- ---- lists

joined_alike : {X Y : Type 0} (f : X → Y) (xs xs' ys ys' : List X) → map f xs ≡ map f xs' → map f ys ≡ map f ys' → map f (xs ++ ys) ≡ map f (xs' ++ ys')
joined_alike f xs xs' ys ys' h g = map_joined f xs ys ∙ ((λ i. h i ++ g i) ∙ sym (map_joined f xs' ys'))

-- what is given by elements that give alike
given_map_alike : {X Y Z : Type 0} (R : X → X → Type 0) (bare : Y → Z) (f g : X → Option Y) → ((x y : X) → R x y → option_map bare (f x) ≡ option_map bare (g y)) → (xs ys : List X) → AllZip R xs ys
    → map bare (filter_map f xs) ≡ map bare (filter_map g ys)
given_map_alike R bare f g each [] [] h = refl
given_map_alike R bare f g each [] (y ∷ ys) h = absurd h
given_map_alike R bare f g each (x ∷ xs) [] h = absurd h
given_map_alike R bare f g each (x ∷ xs) (y ∷ ys) h = search (std_rules, unwrap_or, given_map_alike R bare f g each xs ys h.1)

same_lists : {X : Type 0} (xs : List X) → AllZip (λ x y. x ≡ y) xs xs
same_lists [] = tt
same_lists (x ∷ xs) = (refl, same_lists xs)

-- the same of equal elements
given_alike : {X Y : Type 0} (R : X → X → Type 0) (f g : X → Option Y) → ((x y : X) → R x y → f x ≡ g y) → (xs ys : List X) → AllZip R xs ys → filter_map f xs ≡ filter_map g ys
given_alike R f g each [] [] h = refl
given_alike R f g each [] (y ∷ ys) h = absurd h
given_alike R f g each (x ∷ xs) [] h = absurd h
given_alike R f g each (x ∷ xs) (y ∷ ys) h = λ i. cons_option (each x y h.0 i) (given_alike R f g each xs ys h.1 i)

-- a declared type without its documentation
abbrev bare_with : DeclaredWith → DeclaredWith
bare_with d = record { prefix = bare_prefix same d.prefix; declared = bare_declared same d.declared }

types_bare_in : (ds : List DeclaredWith) → map (bare_world_member same) (map (λ d. WorldType d.prefix d.declared) ds) ≡ map (λ d. WorldType d.prefix d.declared) (map bare_with ds)
types_bare_in [] = refl
types_bare_in (d ∷ ds) = ap (λ ms. WorldType (bare_prefix same d.prefix) (bare_declared same d.declared) ∷ ms) (types_bare_in ds)

-- ---- entries of worlds

interface_item_alike : (x y : Item) → AlikeItems x y → is_interface_item x ≡ is_interface_item y
interface_item_alike x y z = search std_rules

freestanding_item_alike : (x y : Item) → AlikeItems x y → is_freestanding_item x ≡ is_freestanding_item y
freestanding_item_alike x y (interface_items g e) = refl
freestanding_item_alike x y (function_items h) = ap is_freestanding h.kind
freestanding_item_alike x y type_items = refl

listed_alike : (k l : WorldKey) (x y : Item) → AlikeKeys k l → AlikeItems x y → type_of_entry k x ≡ type_of_entry l y
listed_alike k l x y interfaces items = refl
listed_alike k l x y (labels q) (interface_items g e) = refl
listed_alike k l x y (labels q) (function_items h) = refl
listed_alike k l x y (labels q) (type_items {id = id}) = λ i. Some (record { name = q i; id = id })

imported_alike : (es fs : List WorldEntry) → AllZip AlikeWorldEntries es fs → AllZip AlikeFunctions (filter_map (λ e. item_function e.1) es) (filter_map (λ e. item_function e.1) fs)
imported_alike [] [] h = tt
imported_alike [] (f ∷ fs) h = absurd h
imported_alike (e ∷ es) [] h = absurd h
imported_alike (e ∷ es) (f ∷ fs) h = go e.1 f.1 h.0.1 (imported_alike es fs h.1)
  where
    go : (x y : Item) → AlikeItems x y → AllZip AlikeFunctions (filter_map (λ d. item_function d.1) es) (filter_map (λ d. item_function d.1) fs)
        → AllZip AlikeFunctions (cons_option (item_function x) (filter_map (λ d. item_function d.1) es)) (cons_option (item_function y) (filter_map (λ d. item_function d.1) fs))
    go x y (interface_items g k) rest = rest
    go x y (function_items k) rest = (k, rest)
    go x y type_items rest = rest

module _ (a b : Resolve) (alike : DifferInDocumentation a b) where
  -- ---- paths

  interfaces_at : (n : ℕ) → Both AlikeInterfaces (interface_at a n) (interface_at b n)
  interfaces_at n = at_both AlikeInterfaces a.interfaces.items b.interfaces.items n alike.interfaces

  full_alike : (s t : Text) → s ≡ t → (n : ℕ) → option_map_or (full_path s) (package_at a n) (Local s) ≡ option_map_or (full_path t) (package_at b n) (Local t)
  full_alike s t e n = search (std_rules, at_both AlikePackages a.packages.items b.packages.items n alike.packages)

  path_from_alike : (here : PackageId) (x y : Interface) → AlikeInterfaces x y → path_from a here x ≡ path_from b here y
  path_from_alike here x y h = search (std_rules, name_alike, full_alike)

  path_alike : (here : PackageId) (id : InterfaceId) → shown_path a here id ≡ shown_path b here id
  path_alike here id = or_alike AlikeInterfaces (path_from a here) (path_from b here) (Local []) (path_from_alike here) (interface_at a id.0) (interface_at b id.0) (interfaces_at id.0)

  owner_path_alike : (here : Option PackageId) (id : InterfaceId) → path_from_owner a here id ≡ path_from_owner b here id
  owner_path_alike x id = search (std_rules, path_alike)

  -- ---- uses

  use_alike : (o : TypeOwner) (own : Text) (d e : TypeDef) → AlikeTypes d e → used_of a o own d ≡ used_of b o own e
  use_alike o own d e h = go d.kind e.kind h.kind
    where
      by_owner : (t : TypeId) (x y : TypeDef) → AlikeTypes x y → type_at a t.0 ≡ Some x → type_at b t.0 ≡ Some y → (w : TypeOwner) → x.owner ≡ w → y.owner ≡ w
          → used_of a o own (record d { kind = defined.Type_ (value.Id t) }) ≡ used_of b o own (record e { kind = defined.Type_ (value.Id t) })
      by_owner t x y k p q (owner.World id) r s = rw (p, q, r, s) refl
      by_owner t x y k p q owner.None r s = rw (p, q, r, s) refl
      by_owner t x y k p q (owner.Interface id) r s = rw (p, q, r, s) (λ i. (if same_owner o (owner.Interface id) then None else Some (record {
        interface = id;
        prefix = record { docs = []; gates = gates_alike d.stability e.stability h.gates i; external_id = external_id_alike d.external_id e.external_id h.external_id i };
        names = record { other = name_alike x.name y.name k.name i; own = own_name own (name_alike x.name y.name k.name i) } ∷ [];
      })))

      by_target : (t : TypeId) (x y : Option TypeDef) → Both AlikeTypes x y → type_at a t.0 ≡ x → type_at b t.0 ≡ y
          → used_of a o own (record d { kind = defined.Type_ (value.Id t) }) ≡ used_of b o own (record e { kind = defined.Type_ (value.Id t) })
      by_target t None None k p q = rw (p, q) refl
      by_target t None (Some y) k p q = absurd k
      by_target t (Some x) None k p q = absurd k
      by_target t (Some x) (Some y) k p q = by_owner t x y k p q y.owner k.owner refl

      by_type : (t : ValueType) → used_of a o own (record d { kind = defined.Type_ t }) ≡ used_of b o own (record e { kind = defined.Type_ t })
      by_type (value.Id t) = by_target t (type_at a t.0) (type_at b t.0) (types_at a b alike t.0) refl refl
      by_type t = refl

      go : (k l : TypeDefKind) → AlikeKinds k l → used_of a o own (record d { kind = k }) ≡ used_of b o own (record e { kind = l })
      go (defined.Type_ t) (defined.Type_ u) aliases = by_type t
      go k l (records q) = refl
      go k l resources = refl
      go k l handles = refl
      go k l (flags q) = refl
      go k l (tuples q) = refl
      go k l (variants q) = refl
      go k l (enums q) = refl
      go k l options = refl
      go k l (results q p) = refl
      go k l lists = refl
      go k l maps = refl
      go k l fixed_lists = refl
      go k l futures = refl
      go k l streams = refl

  uses_alike : (o : TypeOwner) (types : List Listed) → shown_uses a o types ≡ shown_uses b o types
  uses_alike o types = ap grouped (given_alike (λ x y. x ≡ y) (λ l. option_and_then (used_of a o l.name) (type_at a l.id.0)) (λ l. option_and_then (used_of b o l.name) (type_at b l.id.0)) each types
      types (same_lists types))
    where
      one : (l : Listed) → option_and_then (used_of a o l.name) (type_at a l.id.0) ≡ option_and_then (used_of b o l.name) (type_at b l.id.0)
      one l = then_alike AlikeTypes (used_of a o l.name) (used_of b o l.name) (use_alike o l.name) (type_at a l.id.0) (type_at b l.id.0) (types_at a b alike l.id.0)

      each : (x y : Listed) → x ≡ y → option_and_then (used_of a o x.name) (type_at a x.id.0) ≡ option_and_then (used_of b o y.name) (type_at b y.id.0)
      each x y e = one x ∙ ap (λ l. option_and_then (used_of b o l.name) (type_at b l.id.0)) e

  declarations_alike : (o : TypeOwner) (fs gs : List Function) → AllZip AlikeFunctions fs gs → (types : List Listed)
      → map bare_with (shown_declarations a o fs types) ≡ map bare_with (shown_declarations b o gs types)
  declarations_alike o fs gs functions types = given_map_alike (λ x y. x ≡ y) bare_with (λ l. option_and_then (declared_with a o fs l) (type_at a l.id.0))
      (λ l. option_and_then (declared_with b o gs l) (type_at b l.id.0)) each types types (same_lists types)
    where
      pick : (m n : Bool) → m ≡ n → (x y : DeclaredWith) → bare_with x ≡ bare_with y → option_map bare_with (if m then None else Some x) ≡ option_map bare_with (if n then None else Some y)
      pick true true e x y h = refl
      pick false false e x y h = ap Some h
      pick true false e x y h = absurd cc
      pick false true e x y h = absurd cc

      one : (l : Listed) (x y : Option TypeDef) → Both AlikeTypes x y
          → option_map bare_with (option_and_then (declared_with a o fs l) x) ≡ option_map bare_with (option_and_then (declared_with b o gs l) y)
      one l None None h = refl
      one l None (Some y) h = absurd h
      one l (Some x) None h = absurd h
      one l (Some x) (Some y) h = pick (is_some (used_of a o l.name x)) (is_some (used_of b o l.name y)) (ap is_some (use_alike o l.name x y h))
          (record { prefix = shown_prefix x.docs x.stability x.external_id; declared = shown_declared a fs l.id x })
          (record { prefix = shown_prefix y.docs y.stability y.external_id; declared = shown_declared b gs l.id y }) (λ i. record {
            prefix = record { docs = []; gates = gates_alike x.stability y.stability h.gates i; external_id = external_id_alike x.external_id y.external_id h.external_id i };
            declared = declared_alike a b alike fs gs functions l.id x y h i;
          })

      each : (x y : Listed) → x ≡ y
          → option_map bare_with (option_and_then (declared_with a o fs x) (type_at a x.id.0)) ≡ option_map bare_with (option_and_then (declared_with b o gs y) (type_at b y.id.0))
      each x y e = one x (type_at a x.id.0) (type_at b x.id.0) (types_at a b alike x.id.0) ∙ ap (λ l. option_map bare_with (option_and_then (declared_with b o gs l) (type_at b l.id.0))) e

  -- ---- interfaces

  function_alike : (f g : Function) → AlikeFunctions f g → bare_member same (shown_function a f) ≡ bare_member same (shown_function b g)
  function_alike f g h = λ i. FunctionMember (function_prefix_alike a b alike f g h i) (h.name i) (bare_signature same (signature_alike a b alike f g h i))

  -- without documentation, what is declared stands as it is declared without documentation
  types_bare : (ds : List DeclaredWith) → map (bare_member same) (map (λ d. TypeMember d.prefix d.declared) ds) ≡ map (λ d. TypeMember d.prefix d.declared) (map bare_with ds)
  types_bare [] = refl
  types_bare (d ∷ ds) = ap (λ ms. TypeMember (bare_prefix same d.prefix) (bare_declared same d.declared) ∷ ms) (types_bare ds)

  entry_functions : (es fs : List (String Global × Function)) → AllZip (λ d e. (text_of d.0 ≡ text_of e.0) × AlikeFunctions d.1 e.1) es fs
      → AllZip AlikeFunctions (map (λ e. e.1) es) (map (λ e. e.1) fs)
  entry_functions [] [] h = tt
  entry_functions [] (f ∷ fs) h = absurd h
  entry_functions (e ∷ es) [] h = absurd h
  entry_functions (e ∷ es) (f ∷ fs) h = (h.0.1, entry_functions es fs h.1)

  members_alike : (id : InterfaceId) (x y : Interface) → AlikeInterfaces x y → map (bare_member same) (shown_interface a id x) ≡ map (bare_member same) (shown_interface b id y)
  members_alike id x y h = joined_alike (bare_member same) (map (λ used. UseMember used.prefix (path_from_owner a x.«package» used.interface) used.names)
      (shown_uses a (owner.Interface id) (listed_types x)) ++ map (λ d. TypeMember d.prefix d.declared) (shown_declarations a (owner.Interface id) (listed_functions x) (listed_types x)))
      (map (λ used. UseMember used.prefix (path_from_owner b y.«package» used.interface) used.names) (shown_uses b (owner.Interface id) (listed_types y))
      ++ map (λ d. TypeMember d.prefix d.declared) (shown_declarations b (owner.Interface id) (listed_functions y) (listed_types y)))
      (map (shown_function a) (filter (λ f. is_freestanding f.kind) (listed_functions x))) (map (shown_function b) (filter (λ f. is_freestanding f.kind) (listed_functions y)))
      (joined_alike (bare_member same) (map (λ used. UseMember used.prefix (path_from_owner a x.«package» used.interface) used.names) (shown_uses a (owner.Interface id) (listed_types x)))
      (map (λ used. UseMember used.prefix (path_from_owner b y.«package» used.interface) used.names) (shown_uses b (owner.Interface id) (listed_types y)))
      (map (λ d. TypeMember d.prefix d.declared) (shown_declarations a (owner.Interface id) (listed_functions x) (listed_types x)))
      (map (λ d. TypeMember d.prefix d.declared) (shown_declarations b (owner.Interface id) (listed_functions y) (listed_types y)))
      (λ i. map (bare_member same) (map (λ used. UseMember used.prefix (paths used.interface i) used.names) (uses i)))
      (types_bare (shown_declarations a (owner.Interface id) (listed_functions x) (listed_types x))
      ∙ (ap (map (λ d. TypeMember d.prefix d.declared)) declared ∙ sym (types_bare (shown_declarations b (owner.Interface id) (listed_functions y) (listed_types y))))))
      (bare_map_alike AlikeFunctions (bare_member same) (shown_function a) (shown_function b) function_alike (filter (λ f. is_freestanding f.kind) (listed_functions x))
      (filter (λ f. is_freestanding f.kind) (listed_functions y)) (filter_alike AlikeFunctions (λ f. is_freestanding f.kind) (λ f g k. ap is_freestanding k.kind) (listed_functions x)
      (listed_functions y) functions))
    where
      functions : AllZip AlikeFunctions (listed_functions x) (listed_functions y)
      functions = entry_functions x.functions.entries y.functions.entries h.functions

      types : listed_types x ≡ listed_types y
      types = map_alike {Y = Listed} AlikeEntries (λ e. record { name = text_of e.0; id = e.1 }) (λ e. record { name = text_of e.0; id = e.1 }) (λ d e k. λ i. record { name = k.0 i; id = k.1 i })
          x.types.entries y.types.entries h.types

      paths : (other : InterfaceId) → path_from_owner a x.«package» other ≡ path_from_owner b y.«package» other
      paths other = owner_path_alike x.«package» other ∙ ap (λ p. path_from_owner b p other) h.in_package

      uses : shown_uses a (owner.Interface id) (listed_types x) ≡ shown_uses b (owner.Interface id) (listed_types y)
      uses = uses_alike (owner.Interface id) (listed_types x) ∙ ap (shown_uses b (owner.Interface id)) types

      declared : map bare_with (shown_declarations a (owner.Interface id) (listed_functions x) (listed_types x)) ≡ map bare_with
          (shown_declarations b (owner.Interface id) (listed_functions y) (listed_types y))
      declared = declarations_alike (owner.Interface id) (listed_functions x) (listed_functions y) functions (listed_types x) ∙ ap
          (λ l. map bare_with (shown_declarations b (owner.Interface id) (listed_functions y) l)) types

  -- ---- imports and exports

  extern_alike : (here : PackageId) (k l : WorldKey) (x y : Item) → AlikeKeys k l → AlikeItems x y → bare_extern same (shown_extern a here k x) ≡ bare_extern same (shown_extern b here l y)
  extern_alike here k l x y (interfaces {id = id}) items = λ i. Path (path_alike here id i)
  extern_alike here (key.Name s) (key.Name t) x y (labels q) (interface_items {id = id} g e) = go (interface_at a id.0) (interface_at b id.0) (interfaces_at id.0)
    where
      named : (u v : Interface) → AlikeInterfaces u v → (m n : Bool) → m ≡ n
          → bare_extern same (if m then NamedPath (text_of s) (shown_path a here id) else NamedInterface (text_of s) (shown_interface a id u)) ≡ bare_extern same
          (if n then NamedPath (text_of t) (shown_path b here id) else NamedInterface (text_of t) (shown_interface b id v))
      named u v h true true same_ = λ i. NamedPath (q i) (path_alike here id i)
      named u v h false false same_ = λ i. NamedInterface (q i) (members_alike id u v h i)
      named u v h true false same_ = absurd cc
      named u v h false true same_ = absurd cc

      go : (o p : Option Interface) → Both AlikeInterfaces o p
          → bare_extern same (if option_map_or (λ i. is_some i.name) o false then NamedPath (text_of s) (shown_path a here id) else NamedInterface (text_of s)
          (option_map_or (shown_interface a id) o [])) ≡ bare_extern same (if option_map_or (λ i. is_some i.name) p false then NamedPath (text_of t) (shown_path b here id) else NamedInterface
          (text_of t) (option_map_or (shown_interface b id) p []))
      go None None h = λ i. NamedInterface (q i) []
      go None (Some v) h = absurd h
      go (Some u) None h = absurd h
      go (Some u) (Some v) h = named u v h (is_some u.name) (is_some v.name) (some_alike u.name v.name h.name)
  extern_alike here (key.Name s) (key.Name t) (item.Function f) (item.Function g) (labels q) (function_items h) = search (std_rules, same, signature_alike)
  extern_alike here (key.Name s) (key.Name t) x y (labels q) type_items = refl

  prefix_alike : (k l : WorldKey) (x y : Item) → AlikeItems x y → bare_prefix same (extern_prefix a k x) ≡ bare_prefix same (extern_prefix b l y)
  prefix_alike k l (item.Interface m s c u) (item.Interface n t d v) (interface_items g e) = λ i. record { docs = []; gates = gates_alike s t g i; external_id = external_id_alike u v e i }
  prefix_alike k l (item.Function f) (item.Function g) (function_items h) = function_prefix_alike a b alike f g h
  prefix_alike k l x y type_items = refl

  import_alike : (here : PackageId) (d e : WorldEntry) → AlikeWorldEntries d e → bare_world_member same (shown_import a here d) ≡ bare_world_member same (shown_import b here e)
  import_alike here d e h = λ i. WorldImport (prefix_alike d.0 e.0 d.1 e.1 h.1 i) (extern_alike here d.0 e.0 d.1 e.1 h.0 h.1 i)

  export_alike : (here : PackageId) (d e : WorldEntry) → AlikeWorldEntries d e → bare_world_member same (shown_export a here d) ≡ bare_world_member same (shown_export b here e)
  export_alike here d e h = λ i. WorldExport (prefix_alike d.0 e.0 d.1 e.1 h.1 i) (extern_alike here d.0 e.0 d.1 e.1 h.0 h.1 i)

  -- ---- worlds

  members_in_alike : (id : WorldId) (x y : World) (here : PackageId) → AlikeWorlds x y
      → map (bare_world_member same) (shown_world_in a id x here) ≡ map (bare_world_member same) (shown_world_in b id y here)
  members_in_alike id x y here h = joined_alike (bare_world_member same) _ _ (map (shown_export a here) x.exports.entries) (map (shown_export b here) y.exports.entries)
      (joined_alike (bare_world_member same) _ _ (map (shown_import a here) (filter (λ e. is_freestanding_item e.1) x.imports.entries))
      (map (shown_import b here) (filter (λ e. is_freestanding_item e.1) y.imports.entries))
      (joined_alike (bare_world_member same) _ _ (map (λ d. WorldType d.prefix d.declared) (shown_declarations a (owner.World id) (imported_functions x) (listed_imports x)))
      (map (λ d. WorldType d.prefix d.declared) (shown_declarations b (owner.World id) (imported_functions y) (listed_imports y)))
      (joined_alike (bare_world_member same) (map (shown_import a here) (filter (λ e. is_interface_item e.1) x.imports.entries))
      (map (shown_import b here) (filter (λ e. is_interface_item e.1) y.imports.entries))
      (map (λ used. WorldUse used.prefix (shown_path a here used.interface) used.names) (shown_uses a (owner.World id) (listed_imports x)))
      (map (λ used. WorldUse used.prefix (shown_path b here used.interface) used.names) (shown_uses b (owner.World id) (listed_imports y)))
      (imports (λ e. is_interface_item e.1) (λ d e k. interface_item_alike d.1 e.1 k.1))
      (λ i. map (bare_world_member same) (map (λ used. WorldUse used.prefix (path_alike here used.interface i) used.names) (uses i))))
      (types_bare_in (shown_declarations a (owner.World id) (imported_functions x) (listed_imports x))
      ∙ (ap (map (λ d. WorldType d.prefix d.declared)) declared ∙ sym (types_bare_in (shown_declarations b (owner.World id) (imported_functions y) (listed_imports y))))))
      (imports (λ e. is_freestanding_item e.1) (λ d e k. freestanding_item_alike d.1 e.1 k.1)))
      (bare_map_alike AlikeWorldEntries (bare_world_member same) (shown_export a here) (shown_export b here) (export_alike here) x.exports.entries y.exports.entries h.exports)
    where
      imports : (p : WorldEntry → Bool) → ((d e : WorldEntry) → AlikeWorldEntries d e → p d ≡ p e)
          → map (bare_world_member same) (map (shown_import a here) (filter p x.imports.entries)) ≡ map (bare_world_member same) (map (shown_import b here) (filter p y.imports.entries))
      imports p each = bare_map_alike AlikeWorldEntries (bare_world_member same) (shown_import a here) (shown_import b here) (import_alike here) (filter p x.imports.entries)
          (filter p y.imports.entries) (filter_alike AlikeWorldEntries p each x.imports.entries y.imports.entries h.imports)

      types : listed_imports x ≡ listed_imports y
      types = given_alike AlikeWorldEntries (λ e. type_of_entry e.0 e.1) (λ e. type_of_entry e.0 e.1) (λ d e k. listed_alike d.0 e.0 d.1 e.1 k.0 k.1) x.imports.entries y.imports.entries h.imports

      functions : AllZip AlikeFunctions (imported_functions x) (imported_functions y)
      functions = imported_alike x.imports.entries y.imports.entries h.imports

      uses : shown_uses a (owner.World id) (listed_imports x) ≡ shown_uses b (owner.World id) (listed_imports y)
      uses = uses_alike (owner.World id) (listed_imports x) ∙ ap (shown_uses b (owner.World id)) types

      declared : map bare_with (shown_declarations a (owner.World id) (imported_functions x) (listed_imports x)) ≡ map bare_with
          (shown_declarations b (owner.World id) (imported_functions y) (listed_imports y))
      declared = declarations_alike (owner.World id) (imported_functions x) (imported_functions y) functions (listed_imports x) ∙ ap
          (λ l. map bare_with (shown_declarations b (owner.World id) (imported_functions y) l)) types

  world_alike : (id : WorldId) (x y : World) → AlikeWorlds x y → map (bare_world_member same) (shown_world a id x) ≡ map (bare_world_member same) (shown_world b id y)
  world_alike id x y h = search (std_rules, same, members_in_alike)

  -- ---- packages

  interface_entry_alike : (d e : String Global × InterfaceId) → AlikeEntries d e → option_map (bare_item same) (shown_interface_item a d) ≡ option_map (bare_item same) (shown_interface_item b e)
  interface_entry_alike d e h = go (interface_at a d.1.0) (interface_at b d.1.0) (interfaces_at d.1.0) ∙ ap (λ id. option_map (bare_item same) (shown_interface_item b (e.0, id))) h.1
    where
      go : (o p : Option Interface) → Both AlikeInterfaces o p
          → option_map (bare_item same) (option_map (λ i. InterfaceItem (shown_docs i.docs) (shown_gates i.stability) (text_of d.0) (shown_interface a d.1 i)) o)
          ≡ option_map (bare_item same) (option_map (λ i. InterfaceItem (shown_docs i.docs) (shown_gates i.stability) (text_of e.0) (shown_interface b d.1 i)) p)
      go None None k = refl
      go None (Some y) k = absurd k
      go (Some x) None k = absurd k
      go (Some x) (Some y) k = λ i. Some (InterfaceItem [] (gates_alike x.stability y.stability k.gates i) (h.0 i) (members_alike d.1 x y k i))

  world_entry_alike : (d e : String Global × WorldId) → AlikeEntries d e → option_map (bare_item same) (shown_world_item a d) ≡ option_map (bare_item same) (shown_world_item b e)
  world_entry_alike d e h = go (world_at a d.1.0) (world_at b d.1.0) (at_both AlikeWorlds a.worlds.items b.worlds.items d.1.0 alike.worlds) ∙ ap
      (λ id. option_map (bare_item same) (shown_world_item b (e.0, id))) h.1
    where
      go : (o p : Option World) → Both AlikeWorlds o p
          → option_map (bare_item same) (option_map (λ w. WorldItem (shown_docs w.docs) (shown_gates w.stability) (text_of d.0) (shown_world a d.1 w)) o)
          ≡ option_map (bare_item same) (option_map (λ w. WorldItem (shown_docs w.docs) (shown_gates w.stability) (text_of e.0) (shown_world b d.1 w)) p)
      go None None k = refl
      go None (Some y) k = absurd k
      go (Some x) None k = absurd k
      go (Some x) (Some y) k = λ i. Some (WorldItem [] (gates_alike x.stability y.stability k.gates i) (h.0 i) (world_alike d.1 x y k i))

  package_of_alike : (p q : Package) → AlikePackages p q → bare_package same (shown_package_of a p) ≡ bare_package same (shown_package_of b q)
  package_of_alike p q h = search (std_rules, same, joined_alike, given_map_alike, interface_entry_alike, world_entry_alike)

  package_alike : (id : PackageId) → bare_package same (shown_package a id) ≡ bare_package same (shown_package b id)
  package_alike id = go (package_at a id.0) (package_at b id.0) (at_both AlikePackages a.packages.items b.packages.items id.0 alike.packages)
    where
      go : (o p : Option Package) → Both AlikePackages o p → bare_package same (option_map_or (shown_package_of a) o no_package) ≡ bare_package same (option_map_or (shown_package_of b) p no_package)
      go None None k = refl
      go None (Some q) k = absurd k
      go (Some p) None k = absurd k
      go (Some p) (Some q) k = package_of_alike p q k

  packages_alike : (ids : List PackageId) → map (bare_package same) (map (shown_package a) ids) ≡ map (bare_package same) (map (shown_package b) ids)
  packages_alike [] = refl
  packages_alike (id ∷ ids) = λ i. package_alike id i ∷ packages_alike ids i

  file_alike : (main : PackageId) (nested : List PackageId) → bare_file same (shown_file a main nested) ≡ bare_file same (shown_file b main nested)
  file_alike main nested = λ i. record { main = package_alike main i; nested = packages_alike nested i }

-- Without documentation, packages that differ in documentation alone make the same calls.
pub undocumented_packages_alike : (a b : Resolve) (main : PackageId) (nested : List PackageId) → DifferInDocumentation a b
    → file_calls false (shown_file a main nested) ≡ file_calls false (shown_file b main nested)
undocumented_packages_alike a b main nested alike = undocumented_calls (shown_file a main nested) (shown_file b main nested) (file_alike a b alike main nested)
