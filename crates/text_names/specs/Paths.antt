-- What paths mean: an interface of a package, or why there is none.
use Rattle.std.specs.Prelude.{◌≡◌, ◌∷◌, ◌++◌, ℕ, List, [], Contains, Option, Some, None, Vec, slice_get}
use Rattle.std.specs.Global.{Global}
use Rattle.std.specs.List.{AllZip, filter_map}
use Rattle.text_trees.specs.Seen.{cut}
use Rattle.text_trees.specs.TreesSeen.{head_of}
use Rattle.text_trees.specs.declared.tree.{MemberTree.MemberTree, PathTree.PathTree, Span.Span}
use Rattle.text_trees.specs.declared.tree.MemberTree.TheVariants.{UseMember, TypeMember, FunctionMember}
use Rattle.text_trees.specs.declared.tree.PathTree.TheVariants.{Local, Full}
use Rattle.text_names.specs.declared.error.Fault.{Fault}
use Rattle.text_names.specs.declared.error.Fault.TheVariants.{Memory, Size, Refused, Broken}
use Rattle.text_names.specs.declared.error.Why.TheVariants.{NoInterface, NoPackage}
use Rattle.text_names.specs.declared.needs.Need.{Need}
use Rattle.text_names.specs.declared.sources.{Sources.Sources, InterfaceSource.InterfaceSource}
use Rattle.text_names.specs.Contents.{text_at}
use Rattle.text_names.specs.Tables.{IsNumberOf, interface_key}

-- where the name of an interface stands in a path
abbrev pub name_in : PathTree → Span
name_in (Local name) = name
name_in (Full namespace name interface version) = interface

-- The package of this number is the one that a path means, in a text and a package: its own, or the one of exactly that name.
abbrev pub IsHomeOf : Sources → ℕ → ℕ → PathTree → ℕ → Type 0
IsHomeOf s text own (Local name) home = home ≡ own
IsHomeOf s text own (Full namespace name interface version) home =
    IsNumberOf s (head_of (text_at s.texts.now text) (record { namespace = namespace; name = name; version = version })) home

-- The package of a path, and the place of the name behind it.
pub record IsHome (s : Sources) (text own : ℕ) (path : PathTree) (found : ℕ × Span) : Type 0 where
  pub home : IsHomeOf s text own path found.0
  pub name : found.1 ≡ name_in path

-- The interface of this number has the name, in the package of this number.
pub record IsNamed (s : Sources) (text home : ℕ) (name : Span) (n : ℕ) : Type 0 where
  pub interface : InterfaceSource
  pub stands : slice_get s.interfaces.items n ≡ Some interface
  pub named : interface_key s.texts.now interface ≡ (home, cut (text_at s.texts.now text) name)

-- The path means the interface of this number.
pub record IsInterfaceOf (s : Sources) (text own : ℕ) (path : PathTree) (n : ℕ) : Type 0 where
  pub home : ℕ
  pub means : IsHomeOf s text own path home
  pub named : IsNamed s text home (name_in path) n

-- The path means no interface: no package has the name in front, or the package has no interface of the name.
pub data IsRefusalOf (s : Sources) (text own : ℕ) : PathTree → Fault → Type 0 where
  no_package : (namespace name interface : Span) (version : Option Span)
      → ((n : ℕ) → IsHomeOf s text own (Full namespace name interface version) n → ⊥)
      → IsRefusalOf s text own (Full namespace name interface version)
      (Refused (record { text = text; at = record { start = namespace.start; end = name.end }; why = NoPackage }))
  no_interface : (path : PathTree) (home : ℕ) → IsHomeOf s text own path home → ((n : ℕ) → IsNamed s text home (name_in path) n → ⊥)
      → IsRefusalOf s text own path (Refused (record { text = text; at = name_in path; why = NoInterface }))

-- ---- needs

-- the path of a member, if it is a `use`
abbrev pub path_of_use : MemberTree → Option PathTree
path_of_use (UseMember prefix path names) = Some path
path_of_use (TypeMember prefix declared) = None
path_of_use (FunctionMember prefix name signature) = None

-- the paths of the `use`s, in order
abbrev pub paths_of : List MemberTree → List PathTree
paths_of members = filter_map path_of_use members

-- The need is the interface that the path means, and where the path names it.
pub record IsNeedOf (s : Sources) (text own : ℕ) (path : PathTree) (need : Need) : Type 0 where
  pub means : IsInterfaceOf s text own path need.number
  pub at : need.at ≡ name_in path

-- The needs of a member stand behind the others.
pub record AddsNeeds (s : Sources) (text own : ℕ) (member : MemberTree) (old new : List Need) : Type 0 where
  pub more : List Need
  pub is : new ≡ old ++ more
  pub needs : AllZip (IsNeedOf s text own) (paths_of (member ∷ [])) more

-- A `use` among the members has a path that means no interface.
pub record UsesNothing (s : Sources) (text own : ℕ) (members : List MemberTree) (fault : Fault) : Type 0 where
  pub member : MemberTree
  pub stands : Contains members member
  pub path : PathTree
  pub uses : path_of_use member ≡ Some path
  pub refused : IsRefusalOf s text own path fault

-- It is want of memory, or a `use` that means no interface.
abbrev pub RefusesNeed : Sources → ℕ → ℕ → List MemberTree → Fault → Type 0
RefusesNeed s text own members Memory = Unit {0}
RefusesNeed s text own members Size = ⊥
RefusesNeed s text own members (Refused refusal) = UsesNothing s text own members (Refused refusal)
RefusesNeed s text own members (Broken rule list number) = ⊥

-- The needs are those of the interface's members.
abbrev pub IsNeedsOf : Sources → InterfaceSource → Vec Need Global → Type 0
IsNeedsOf s it needs = AllZip (IsNeedOf s it.text it.«package») (paths_of it.members.now.items) needs.items

-- It is want of memory, or a `use` of an interface that means none.
abbrev pub RefusesAnyNeed : Sources → Fault → Type 0
RefusesAnyNeed s Memory = Unit {0}
RefusesAnyNeed s Size = ⊥
RefusesAnyNeed s (Refused refusal) =
    (n : ℕ) × (it : InterfaceSource) × (slice_get s.interfaces.items n ≡ Some it) × RefusesNeed s it.text it.«package» it.members.now.items (Refused refusal)
RefusesAnyNeed s (Broken rule list number) = ⊥
