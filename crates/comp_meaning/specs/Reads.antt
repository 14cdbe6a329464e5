-- What the bytes of a package mean: every index followed, what each import and each export shows, and what all of it says together.
-- A package is a component whose types are exported: for each interface a component type that exports it, and for each world
-- a component type that wraps it (Component Model WIT.md, "Package Format").
use Rattle.std.specs.Prelude.{◌≡◌, ℕ, zero, Bool, true, false, not, ◌&&◌, ◌||◌, ◌==◌, if◌then◌else◌, List, [], ◌∷◌, ◌++◌, length, map, Option, Some, None, slice_get, is_none}
use Rattle.std.specs.{List.list_all, List.list_any, List.flat_map, List.filter, FinMap.from_entries, Cmp.Lexicographic.pointwise}
use Rattle.wit_model.specs.{Text.Text, Text.text_eq, Tree.Place, Names.PackageIdentity, Names.is_label, Names.read_path, Names.path_in}
use Rattle.wit_model.specs.Meaning.{FunctionMeaning, InterfaceMeaning, Item, Entry, WorldMeaning, PackageMeaning, WorldPackage}
use Rattle.comp_bytes.specs.Raw.{ExternName, Declaration, Declarations, TopType, TopExport, Section}
use Rattle.comp_bytes.specs.{Spelling.IsComponent, Reading.◌>>=◌}
use Rattle.comp_meaning.specs.Follow.{each, when, provided, is_filled, complete_path, View, ShownType, Seen, Shown, Key, Instance, Scope, component_scope}
use Rattle.comp_meaning.specs.Same.{same_type, same_function, same_identity, stand_in}
use Rattle.comp_meaning.specs.Rules.{distinct, used_by_view, is_interface, is_world}
use Rattle.comp_bytes.specs.declared.forms.ComponentTypeRef.TheVariants as refs

-- ---- the top

-- The types and the exports at the top, as far as they have been followed. An index stands for one of the types, by its number:
-- the next index is taken by each type, and by each export, which stands for what it exports.
pub record Top : Type 0 where
  pub types : List Declarations
  pub slots : List ℕ
  pub exported : List (Text × ℕ)

-- a type at the top, which has to be a component type
abbrev pub top_type : Top → TopType → Option Top
top_type top (TopType.component ds) = Some (record { types = top.types ++ ds ∷ []; slots = top.slots ++ length top.types ∷ []; exported = top.exported })
top_type top _ = None

-- whether a name has no attribute
abbrev pub is_bare_name : ExternName → Bool
is_bare_name name = is_none name.implements && (is_none name.version_suffix && is_none name.external_id)

-- an export at the top: it has a label, and exports a type that none before it has exported
abbrev pub top_export : Top → TopExport → Option Top
top_export top e =
    slice_get top.slots e.type_index >>= λ n.
    provided (is_bare_name e.exported_as && (is_label e.exported_as.text && not (list_any (λ x. x.1 == n) top.exported)))
    (record { types = top.types; slots = top.slots ++ n ∷ []; exported = top.exported ++ (e.exported_as.text, n) ∷ [] })

-- follows a list one element at a time, and stops where a step fails
abbrev pub steps : {S A : Type 0} → (S → A → Option S) → S → List A → Option S
steps step state [] = Some state
steps step state (x ∷ xs) = step state x >>= λ next. steps step next xs

-- the sections of a component, one by one: types, exports, and custom sections, which are passed over
abbrev pub top_section : Top → Section → Option Top
top_section top (Section.custom name contents) = Some top
top_section top (Section.types ts) = steps top_type top ts
top_section top (Section.exports es) = steps top_export top es

-- The component types by the labels under which they are exported, in the order of the exports. Each type is exported once.
abbrev pub exported_types : List Section → Option (List (Text × Declarations))
exported_types sections =
    steps top_section (record { types = []; slots = []; exported = [] }) sections >>= λ top.
    when (length top.exported == length top.types && distinct (map (λ x. x.0) top.exported))
    (each (λ x. slice_get top.types x.1 >>= λ ds. Some (x.0, ds)) top.exported)

-- ---- interfaces and worlds

-- what is exported at the top: a world by what its component type shows, or an interface by its view and those of its imports
pub data Part : Type 0 where
  world : Scope → Part
  interface : View → List (Text × View) → Part

-- the world in a wrapper and the name that the wrapper exports it under: two declarations, of the world's component type
-- and of its export
abbrev pub wrapped : Declarations → Option (Declarations × ExternName)
wrapped (Declarations.component inner (Declarations.declares (Declaration.exported name (refs.Component zero)) Declarations.no_more)) = Some (inner, name)
wrapped _ = None

-- an import of an interface's component type: an instance under a path, without functions
abbrev pub imported_view : Seen → Option (Text × View)
imported_view seen = import_of seen.shown
  where
    import_of : Shown → Option (Text × View)
    import_of (Shown.instance (Key.path path) view) = provided (is_none seen.external_id && not (is_filled view.functions)) (path, view)
    import_of _ = None

-- the one export of an interface's component type: an instance under a path
abbrev pub exported_view : List Seen → Option (Text × View)
exported_view (seen ∷ []) = export_of seen.shown
  where
    export_of : Shown → Option (Text × View)
    export_of (Shown.instance (Key.path path) view) = provided (is_none seen.external_id) (path, view)
    export_of _ = None
exported_view _ = None

-- Whether each import is used by a later one or by the export. Since one uses only earlier ones, the export reaches them all, and only them.
abbrev pub are_reached : List (Text × View) → View → Bool
are_reached [] exported = true
are_reached (i ∷ later) exported =
    list_any (text_eq i.0) (flat_map (λ l. used_by_view l.1) later ++ used_by_view exported) && are_reached later exported

-- the package and the name of a part, whose last name is the label
abbrev pub labelled_path : Text → Text → Option PackageIdentity
labelled_path label path = read_path path >>= λ p. provided (text_eq p.1 label) p.0

-- a world at the top: its wrapper exports it under a path that ends in the label
abbrev pub world_part : Text → Declarations × ExternName → Option (PackageIdentity × Part)
world_part label w =
    when (is_none w.1.implements && is_none w.1.external_id) (complete_path w.1.text w.1.version_suffix) >>= λ path.
    labelled_path label path >>= λ package_.
    component_scope w.0 >>= λ scope.
    provided (is_world scope) (package_, world scope)

-- an interface at the top: its component type imports what it uses and exports it under a path that ends in the label
abbrev pub interface_part : Text → Declarations → Option (PackageIdentity × Part)
interface_part label ds =
    component_scope ds >>= λ scope.
    exported_view scope.exports >>= λ exported.
    each imported_view scope.imports >>= λ imports.
    labelled_path label exported.0 >>= λ package_.
    provided (distinct (exported.0 ∷ map (λ i. i.0) imports) && are_reached imports exported.1) (package_, interface exported.1 imports)

-- a part at the top, under its label: a world in a wrapper, or an interface
abbrev pub part_of : Text → Declarations → Option (PackageIdentity × Part)
part_of label ds = by_wrapper (wrapped ds)
  where
    by_wrapper : Option (Declarations × ExternName) → Option (PackageIdentity × Part)
    by_wrapper (Some w) = world_part label w
    by_wrapper None = interface_part label ds

-- a part of the package, under its label
pub record Member : Type 0 where
  pub label : Text
  pub package_ : PackageIdentity
  pub part : Part

-- a component type exported under a label, followed as a part
abbrev pub member : Text × Declarations → Option Member
member x = part_of x.0 x.1 >>= λ p. Some (record { label = x.0; package_ = p.0; part = p.1 })

-- ---- views

-- what is shown of an interface in one place, and whether its functions are shown too
pub record Sight : Type 0 where
  pub path : Text
  pub view : View
  pub whole : Bool

-- the view that an instance gives of a named interface
abbrev pub of_instance : Instance → List Sight
of_instance i = with_path i.interface
  where
    with_path : Option Text → List Sight
    with_path None = []
    with_path (Some path) = record { path = path; view = i.view; whole = true } ∷ []

-- the views that a part gives
abbrev pub sights : Member → List Sight
sights m = of_part m.part
  where
    of_part : Part → List Sight
    of_part (world scope) = flat_map of_instance scope.instances
    of_part (interface exported imports) =
        map (λ i. record { path = i.0; view = i.1; whole = false }) imports ++ record { path = path_in m.package_ m.label; view = exported; whole = true } ∷ []

-- whether two shown types have the same name, declaration and external id
abbrev pub same_shown : ShownType → ShownType → Bool
same_shown a b = text_eq a.name b.name && same_type a.meaning b.meaning

-- whether two lists have the same functions by name, in whatever order
abbrev pub same_functions : List (Text × FunctionMeaning) → List (Text × FunctionMeaning) → Bool
same_functions xs ys = length xs == length ys && stand_in same_function xs ys

-- Whether two views of one path agree: in their types, in order, and in their functions if both show them.
abbrev pub agree : Sight → Sight → Bool
agree a b =
    not (text_eq a.path b.path)
    || (pointwise same_shown a.view.types b.view.types && (not (a.whole && b.whole) || same_functions a.view.functions b.view.functions))

-- whether all views of one path agree
abbrev pub all_agree : List Sight → Bool
all_agree [] = true
all_agree (s ∷ rest) = list_all (agree s) rest && all_agree rest

-- whether each interface that is seen is well-formed
abbrev pub are_interfaces : List Sight → Bool
are_interfaces seen = list_all (λ s. is_interface (Place.of_interface s.path) s.view) seen

-- ---- what it means

-- the functions of an interface, from the first view that shows them
abbrev pub functions_of : Text → List Sight → List (Text × FunctionMeaning)
functions_of path [] = []
functions_of path (s ∷ rest) = if text_eq path s.path && s.whole then s.view.functions else functions_of path rest

-- the meaning of an interface by a view of it, with these functions
abbrev pub meaning_of_view : View → List (Text × FunctionMeaning) → InterfaceMeaning
meaning_of_view view functions = record { types = map (λ t. (t.name, t.meaning)) view.types; functions = from_entries functions }

-- the meaning of an interface that is seen, with the functions of the views that show them
abbrev pub seen_meaning : List Sight → Sight → Text × InterfaceMeaning
seen_meaning all s = (s.path, meaning_of_view s.view (functions_of s.path all))

-- what an import or an export means
abbrev pub item_of : Shown → Item InterfaceMeaning
item_of (Shown.instance (Key.path path) view) = Item.interface path
item_of (Shown.instance (Key.implementing label path) view) = Item.interface path
item_of (Shown.instance (Key.label label) view) = Item.inline (meaning_of_view view view.functions)
item_of (Shown.function f) = Item.function f
item_of (Shown.declares d) = Item.declares d

-- an import or an export under its key, with its external id
abbrev pub entry : Seen → Text × Entry InterfaceMeaning
entry seen = (seen.key, record { item = item_of seen.shown; external_id = seen.external_id })

-- what a world means by what it shows: its imports and exports, in order
abbrev pub meaning_of_scope : Scope → WorldMeaning
meaning_of_scope scope = record { imports = map entry scope.imports; exports = map entry scope.exports }

-- the world that a part is, under its label, if it is one
abbrev pub worlds_of_member : Member → List (Text × WorldMeaning)
worlds_of_member m = of_part m.part
  where
    of_part : Part → List (Text × WorldMeaning)
    of_part (world scope) = (m.label, meaning_of_scope scope) ∷ []
    of_part (interface exported imports) = []

-- the interface that a part is, under its label, if it is one
abbrev pub interfaces_of : Member → List (Text × InterfaceMeaning)
interfaces_of m = of_part m.part
  where
    of_part : Part → List (Text × InterfaceMeaning)
    of_part (world scope) = []
    of_part (interface exported imports) = (m.label, meaning_of_view exported exported.functions) ∷ []

-- whether a part is an interface
abbrev pub is_interface_part : Part → Bool
is_interface_part (world scope) = false
is_interface_part (interface exported imports) = true

-- whether a path is of this package
abbrev pub is_of : PackageIdentity → Text → Bool
is_of package_ path = of_read (read_path path)
  where
    of_read : Option (PackageIdentity × Text) → Bool
    of_read None = false
    of_read (Some p) = same_identity package_ p.0

-- whether an interface that is seen stands at the top, if it is one of the package
abbrev pub stands_at_top : PackageIdentity → List Member → Sight → Bool
stands_at_top package_ members s =
    not (is_of package_ s.path) || list_any (λ m. is_interface_part m.part && text_eq s.path (path_in package_ m.label)) members

-- ---- the package

-- The parts at the top have one package. The views of each interface agree, and each of the package's own stands at the top.
abbrev pub package_with : PackageIdentity → List Member → Option PackageMeaning
package_with package_ members =
    let seen = flat_map sights members in
    provided (list_all (λ m. same_identity package_ m.package_) members
    && (list_all (stands_at_top package_ members) seen && (all_agree seen && are_interfaces seen)))
    (record {
      identity = package_;
      interfaces = flat_map interfaces_of members;
      worlds = flat_map worlds_of_member members;
      foreign = from_entries (map (seen_meaning seen) (filter (λ s. not (is_of package_ s.path)) seen));
    })

-- what these parts mean as a package. The first one says which package it is
abbrev pub package_of_members : List Member → Option PackageMeaning
package_of_members [] = None
package_of_members (m ∷ ms) = package_with m.package_ (m ∷ ms)

-- what the sections of a component mean as a package, if they are one
abbrev pub package_of_sections : List Section → Option PackageMeaning
package_of_sections sections = exported_types sections >>= λ types. each member types >>= λ members. package_of_members members

-- The one world of a component, with the interfaces that it shows. None of them has its path.
abbrev pub world_with : PackageIdentity → Text → Scope → Option WorldPackage
world_with package_ name scope =
    let seen = flat_map of_instance scope.instances in
    provided (all_agree seen && (are_interfaces seen && not (list_any (λ s. text_eq s.path (path_in package_ name)) seen)))
    (record { identity = package_; name = name; world = meaning_of_scope scope; shown = from_entries (map (seen_meaning seen) seen) })

-- what one part means as a world by itself
abbrev pub world_of_members : List Member → Option WorldPackage
world_of_members (m ∷ []) = of_part m.part
  where
    of_part : Part → Option WorldPackage
    of_part (world scope) = world_with m.package_ m.label scope
    of_part (interface exported imports) = None
world_of_members _ = None

-- what the sections of a component mean as one world
abbrev pub world_of_sections : List Section → Option WorldPackage
world_of_sections sections = exported_types sections >>= λ types. each member types >>= λ members. world_of_members members

-- The bytes mean the package m.
pub record Reads (bytes : List ℕ) (m : PackageMeaning) : Type 0 where
  pub sections : List Section
  pub spelled : IsComponent sections bytes
  pub means : package_of_sections sections ≡ Some m

-- The bytes mean the world m.
pub record ReadsWorld (bytes : List ℕ) (m : WorldPackage) : Type 0 where
  pub sections : List Section
  pub spelled : IsComponent sections bytes
  pub means : world_of_sections sections ≡ Some m
