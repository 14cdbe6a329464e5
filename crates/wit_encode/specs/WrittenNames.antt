-- The names under which a component type imports and exports instances (Component Model Binary.md, "Import and Export Definitions").
-- Whether they are canonical can't be told from what they mean.
use Rattle.std.specs.Prelude.{◌≡◌, Bool, if◌then◌else◌, is_some, ℕ, List, [], ◌∷◌, ◌++◌, flat_map, map}
use Rattle.wit_model.specs.Uses.{item_interface}
use Rattle.wit_model.specs.declared.model.{Resolve.Resolve, World.World}
use Rattle.comp_bytes.specs.Raw.{Declaration, Declarations, ExternName}
use Rattle.comp_bytes.specs.declared.forms.ComponentTypeRef.{ComponentTypeRef}
use Rattle.encode_types.specs.Known.{Around}
use Rattle.encode_names.specs.{WorldNames.name_of_interface, WorldNames.name_of_item, WorldSteps.Entry}
use Rattle.encode_reach.specs.Reach.{reached_in_order}
use Rattle.comp_bytes.specs.declared.forms.ComponentTypeRef.TheVariants as refs

-- the name of an import or an export, if that is an instance
abbrev pub described_name : ExternName → ComponentTypeRef → List ExternName
described_name name (refs.Instance n) = name ∷ []
described_name name (refs.Func n) = []
described_name name (refs.TypeEq n) = []
described_name name refs.SubResource = []
described_name name (refs.Component n) = []

-- the name of a declaration, if it imports or exports an instance
abbrev pub instance_name : Declaration → List ExternName
instance_name (Declaration.defined d) = []
instance_name (Declaration.function f) = []
instance_name (Declaration.alias_of a) = []
instance_name (Declaration.imported name described) = described_name name described
instance_name (Declaration.exported name described) = described_name name described

-- the names of the instances that are imported and exported at the first level, in order
abbrev pub instance_names : Declarations → List ExternName
instance_names Declarations.no_more = []
instance_names (Declarations.declares d rest) = instance_name d ++ instance_names rest
instance_names (Declarations.component inner rest) = instance_names rest
instance_names (Declarations.instance inner rest) = instance_names rest

-- the declaration in front of the others, if there is a name
abbrev pub if_named : List ExternName → Declaration → Declarations → Declarations
if_named [] d rest = rest
if_named (n ∷ ns) d rest = Declarations.declares d rest

-- the instance types of a component type, and its imports and exports of instances
abbrev pub instance_declarations : Declarations → Declarations
instance_declarations Declarations.no_more = Declarations.no_more
instance_declarations (Declarations.declares d rest) = if_named (instance_name d) d (instance_declarations rest)
instance_declarations (Declarations.component inner rest) = instance_declarations rest
instance_declarations (Declarations.instance inner rest) = Declarations.instance inner (instance_declarations rest)

-- what an encoder of types leaves: it declares no instance type, and imports and exports no instance
abbrev pub instances_around : Declarations → Around
instances_around outer = record { declared = instance_declarations outer; instances = []; known = [] }

-- the names of the interfaces among these entries
abbrev pub names_among : Resolve → Bool → List Entry → List ExternName
names_among r canonical es = flat_map (λ e. if is_some (item_interface e.1) then name_of_item r canonical e ∷ [] else []) es

-- The instances are those of the interfaces of the world, each under its name, whole or canonical: imports, and then exports.
abbrev pub WritesNames : Resolve → Bool → World → Declarations → Type 0
WritesNames r canonical w declared = instance_names declared ≡ names_among r canonical (w.imports.entries ++ w.exports.entries)

-- behind those of before, the interfaces among these entries
abbrev pub NamesMore : Resolve → Bool → List Entry → Declarations → Declarations → Type 0
NamesMore r canonical es before after = instance_names after ≡ instance_names before ++ names_among r canonical es

-- behind those of before, these interfaces
abbrev pub NamesInterfaces : Resolve → Bool → List ℕ → Declarations → Declarations → Type 0
NamesInterfaces r canonical ns before after = instance_names after ≡ instance_names before ++ map (name_of_interface r canonical) ns

-- The instances are those of the interfaces that interface n reaches, in order, and then its own, each under its path, whole or canonical.
abbrev pub WritesPaths : Resolve → Bool → ℕ → Declarations → Type 0
WritesPaths r canonical n declared = instance_names declared ≡ map (name_of_interface r canonical) (reached_in_order r n ++ n ∷ [])
