-- Laws of what is followed (Binary.md, "Index Spaces" and "Import and Export Definitions").
use Rattle.std.specs.Prelude.{◌≡◌, ◌⊎◌, ℕ, true, List, Some}
use Rattle.std.specs.List.{AllByRecursion, Contains, flat_map}
use Rattle.wit_model.specs.{Text.Text, Meaning.PackageMeaning, Meaning.WorldPackage, Tree.Place}
use Rattle.comp_bytes.specs.{Raw.Declaration, Raw.Declarations, Levels.Entry, Levels.PartType}
use Rattle.comp_meaning.specs.Follow.{each, Slot, Instance, InstanceScope, Scope, component_scope, instance_steps, is_foreign_name, new_instance, instance_place}
use Rattle.comp_meaning.specs.{Rules.used_by_view, ByLevels.entry_scope, ByLevels.member_by_levels}
use Rattle.comp_meaning.specs.Reads.{Member, all_agree, are_interfaces, member, package_of_members, sights, world_of_members}
use Rattle.read_shown.specs.{Trees.AllAt, Trees.SlotStands, Instances.InstancesAreSeen, Kinds.NamesHaveKinds}
use Rattle.read_shown.specs.{Views.InstanceScopeStands, Views.ViewStands, Scopes.IsInstanceBefore, Scopes.IsShownBefore, Scopes.ScopeStands, Parts.MemberStands}

-- A scope of a component type is well-formed: each form, each handle, each name.
abbrev pub EachScopeStands : Type 0
EachScopeStands = (ds : Declarations) (scope : Scope) → component_scope ds ≡ Some scope → ScopeStands scope

-- Its instances are its imports and its exports that are instances.
abbrev pub EachInstanceIsSeen : Type 0
EachInstanceIsSeen = (ds : Declarations) (scope : Scope) → component_scope ds ≡ Some scope → InstancesAreSeen scope

-- A scope of an instance type is well-formed, where the names of interfaces that stand around are shown by as many instances.
abbrev pub EachInstanceScopeStands : Type 0
EachInstanceScopeStands = (instances : List Instance) (count : ℕ) (own : Place) (outer : List Slot)
    → AllAt (λ n (slot : Slot). is_foreign_name slot ≡ true → SlotStands (IsShownBefore instances count) slot) outer
    → (ds : List Declaration) (scope : InstanceScope) → instance_steps own outer new_instance ds ≡ Some scope
    → InstanceScopeStands (IsShownBefore instances count) own scope

-- Each interface that a well-formed view uses is its own, or that of an instance before it.
abbrev pub EachUseStandsBefore : Type 0
EachUseStandsBefore = (instances : List Instance) (count : ℕ) (x : Instance) → ViewStands (IsShownBefore instances count) (instance_place x.interface) x.view
    → (path : Text) → Contains (used_by_view x.view) path → (x.interface ≡ Some path) ⊎ IsInstanceBefore instances count path

-- Each part at the top is well-formed.
abbrev pub EachMemberStands : Type 0
EachMemberStands = (types : List (Text × Declarations)) (members : List Member) → each member types ≡ Some members → AllByRecursion MemberStands members

-- Scopes and parts that are read by levels are well-formed too.
abbrev pub EachEntryScopeStands : Type 0
EachEntryScopeStands = (es : List Entry) (scope : Scope) → entry_scope es ≡ Some scope → ScopeStands scope × InstancesAreSeen scope

abbrev pub EachMemberByLevelsStands : Type 0
EachMemberByLevelsStands = (parts : List (Text × PartType)) (members : List Member) → each member_by_levels parts ≡ Some members
    → AllByRecursion MemberStands members

-- Where the views of each interface agree, and each may be one, a name is a resource wherever it is met, or nowhere.
abbrev pub EachNameHasOneKind : Type 0
EachNameHasOneKind = (members : List Member) → AllByRecursion MemberStands members → all_agree (flat_map sights members) ≡ true
    → are_interfaces (flat_map sights members) ≡ true → NamesHaveKinds members

-- So it is where the parts are a package, and where they are one world.
abbrev pub PackagesHaveKinds : Type 0
PackagesHaveKinds = (members : List Member) (m : PackageMeaning) → AllByRecursion MemberStands members → package_of_members members ≡ Some m
    → NamesHaveKinds members

abbrev pub WorldsHaveKinds : Type 0
WorldsHaveKinds = (members : List Member) (m : WorldPackage) → AllByRecursion MemberStands members → world_of_members members ≡ Some m → NamesHaveKinds members
