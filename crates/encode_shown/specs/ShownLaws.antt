-- Laws of what is shown of a valid `Resolve`.
use Rattle.std.specs.Prelude.{◌≡◌, ◌↔◌, ℕ, map, List, [], ◌∷◌, true, Some, String}
use Rattle.std.specs.List.{Contains, list_all}
use Rattle.std.specs.declared.alloc.Global.{Global}
use Rattle.wit_model.specs.{Text.Text, Text.text_of, Lookup.package_at, Lookup.world_at, Lookup.identity_of, Meaning.PackageMeaning, Meaning.WorldPackage}
use Rattle.wit_model.specs.{Names.is_label, Names.path_in, Meant.interface_meaning_at, Meant.types_alone, Meant.package_of_world, Meant.Meant, Meant.MeantWorld}
use Rattle.wit_model.specs.Valid.{IsValid}
use Rattle.wit_model.specs.declared.model.{Resolve.Resolve, Package.Package, InterfaceId.InterfaceId, WorldId.WorldId, World.World}
use Rattle.comp_bytes.specs.{Raw.Declarations, Raw.Section, Spelling.IsComponent}
use Rattle.comp_meaning.specs.{Follow.View, Follow.Scope, Follow.component_scope, Follow.is_filled, Rules.distinct, Rules.is_interface, Rules.is_world}
use Rattle.comp_meaning.specs.Reads.{meaning_of_view, meaning_of_scope, world_with, Part, Member, interface_part, world_part, package_of_members, exported_types, Reads, ReadsWorld}
use Rattle.encode_shown.specs.PackageTypes.{plain_name, IsWorldType, ArePackageTypes}
use Rattle.encode_shown.specs.Views.{home_of, ShowsTypes, ShowsInterface, ShowsWorld, ShowsDependencies, ShowsPackage}
use Rattle.wit_model.specs.Meant as meant
use Rattle.comp_meaning.specs.Reads as reads

-- What shows an interface obeys the rules of interfaces in its place, and means the interface.
abbrev pub InterfacesObey : Type 0
InterfacesObey = (r : Resolve) (n : ℕ) (view : View) → IsValid r → ShowsInterface r n view → is_interface (home_of r n) view ≡ true

abbrev pub InterfacesMean : Type 0
InterfacesMean = (r : Resolve) (n : ℕ) (view : View) → IsValid r → ShowsInterface r n view → meaning_of_view view view.functions ≡ interface_meaning_at r n

-- So it is with the types alone.
abbrev pub TypesObey : Type 0
TypesObey = (r : Resolve) (n : ℕ) (view : View) → IsValid r → ShowsTypes r n view → is_interface (home_of r n) view ≡ true

abbrev pub TypesMean : Type 0
TypesMean = (r : Resolve) (n : ℕ) (view : View) → ShowsTypes r n view → meaning_of_view view view.functions ≡ types_alone (interface_meaning_at r n)

-- What shows a world obeys the rules of worlds, and means the world.
abbrev pub WorldsObey : Type 0
WorldsObey = (r : Resolve) (n : ℕ) (w : World) (scope : Scope) → IsValid r → world_at r n ≡ Some w → ShowsWorld r w scope → is_world scope ≡ true

abbrev pub WorldsMean : Type 0
WorldsMean = (r : Resolve) (n : ℕ) (w : World) (scope : Scope) → IsValid r → world_at r n ≡ Some w → ShowsWorld r w scope
    → meaning_of_scope scope ≡ meant.world_meaning r w

-- By itself it means the world of its package, with each interface that it shows.
abbrev pub WorldsAloneMean : Type 0
WorldsAloneMean = (r : Resolve) (n : ℕ) (w : World) (p : Package) (scope : Scope) → IsValid r → world_at r n ≡ Some w → package_of_world r w ≡ Some p
    → ShowsWorld r w scope
    → world_with (identity_of p.name) (text_of w.name) scope ≡ Some (meant.world_package r p w)

-- ---- packages

-- What imports the interfaces that an interface of a package reaches, and exports it, is read as a part of the package.
abbrev pub InterfacePartsAreRead : Type 0
InterfacePartsAreRead = (r : Resolve) (n : ℕ) (p : Package) (e : String Global × InterfaceId) (ds : Declarations) (scope : Scope) (imports : List (Text × View))
    (exported : View)
    → IsValid r → package_at r n ≡ Some p → Contains p.interfaces.entries e → component_scope ds ≡ Some scope
    → ShowsDependencies r e.1.0 (path_in (identity_of p.name) (text_of e.0)) scope imports exported
    → interface_part (text_of e.0) ds ≡ Some (identity_of p.name, Part.interface exported imports)

-- So is what shows a world of the package, exported under its path.
abbrev pub WorldPartsAreRead : Type 0
WorldPartsAreRead = (r : Resolve) (n : ℕ) (p : Package) (e : String Global × WorldId) (w : World) (ds : Declarations) (scope : Scope)
    → IsValid r → package_at r n ≡ Some p → Contains p.worlds.entries e → world_at r e.1.0 ≡ Some w → component_scope ds ≡ Some scope → ShowsWorld r w scope
    → world_part (text_of e.0) (ds, plain_name (path_in (identity_of p.name) (text_of w.name))) ≡ Some (identity_of p.name, Part.world scope)

-- The parts together mean the package, each interface of another package that it reaches included.
abbrev pub PackagesMean : Type 0
PackagesMean = (r : Resolve) (n : ℕ) (p : Package) (members : List Member) → IsValid r → package_at r n ≡ Some p → ShowsPackage r p members
    → is_filled members ≡ true
    → package_of_members members ≡ Some (meant.package_meaning r n p)

-- So do the sections of a component that exports the component types of the package, each under its label.
abbrev pub SectionsMean : Type 0
SectionsMean = (r : Resolve) (n : ℕ) (p : Package) (xs : List (Text × Declarations)) (sections : List Section) → IsValid r → package_at r n ≡ Some p
    → ArePackageTypes r p xs
    → is_filled xs ≡ true → exported_types sections ≡ Some xs → reads.package_of_sections sections ≡ Some (meant.package_meaning r n p)

-- A component that exports the wrapper of one world alone, under its name, means the world.
abbrev pub WorldSectionsMean : Type 0
WorldSectionsMean = (r : Resolve) (n : ℕ) (w : World) (p : Package) (x : Text × Declarations) (sections : List Section) → IsValid r → world_at r n ≡ Some w
    → package_of_world r w ≡ Some p → IsWorldType r p n (text_of w.name) x → exported_types sections ≡ Some (x ∷ [])
    → reads.world_of_sections sections ≡ Some (meant.world_package r p w)

-- So bytes that spell such a component mean exactly what the package means, or what the world means.
abbrev pub BytesMean : Type 0
BytesMean = (r : Resolve) (n : ℕ) (p : Package) (xs : List (Text × Declarations)) (sections : List Section) (bytes : List ℕ) → IsValid r
    → package_at r n ≡ Some p → ArePackageTypes r p xs
    → is_filled xs ≡ true → exported_types sections ≡ Some xs → IsComponent sections bytes → (m : PackageMeaning) → Meant r n m ↔ Reads bytes m

abbrev pub WorldBytesMean : Type 0
WorldBytesMean = (r : Resolve) (n : ℕ) (w : World) (p : Package) (x : Text × Declarations) (sections : List Section) (bytes : List ℕ) → IsValid r
    → world_at r n ≡ Some w
    → package_of_world r w ≡ Some p → IsWorldType r p n (text_of w.name) x → exported_types sections ≡ Some (x ∷ []) → IsComponent sections bytes
    → (m : WorldPackage) → MeantWorld r n m ↔ ReadsWorld bytes m

-- The names under which the component types are exported are labels, and none stands twice.
abbrev pub LabelsDiffer : Type 0
LabelsDiffer = (r : Resolve) (n : ℕ) (p : Package) (xs : List (Text × Declarations)) → IsValid r → package_at r n ≡ Some p → ArePackageTypes r p xs
    → (list_all (λ x. is_label x.0) xs ≡ true) × (distinct (map (λ x. x.0) xs) ≡ true)
