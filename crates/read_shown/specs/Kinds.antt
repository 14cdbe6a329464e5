-- Each name is a resource wherever it is met, or nowhere (Explainer.md, "Type Definitions"; WIT.md, "Interfaces: use").
use Rattle.std.specs.{Prelude.◌≡◌, Prelude.ℕ, Prelude.Bool, Prelude.List, List.AllByRecursion}
use Rattle.wit_model.specs.{Text.Text, Tree.Place, Meaning.FunctionMeaning}
use Rattle.comp_meaning.specs.Follow.{Instance, ShownType, Seen, Shown, Scope, instance_place}
use Rattle.comp_meaning.specs.Reads.{Part, Member}
use Rattle.read_shown.specs.{Trees.AllAt, Trees.DeclarationStands, Trees.SignatureStands, Scopes.IsShownBefore, Scopes.IsMetInScope, Parts.instances_of}
use Rattle.read_shown.specs.Views.{named_slot, IsMetInView}

-- whether a name is a resource: one of an interface, by its path, or one of the world or the inline interface around
abbrev pub kind_at : (Text → Text → Bool) → (Text → Bool) → Place → Text → Bool
kind_at kinds own (Place.of_interface path) name = kinds path name
kind_at kinds own Place.here name = own name

-- it is, or it isn't, as the kind of the name says
abbrev pub OfKind : (Place → Text → Bool) → Place → Text → Bool → Type 0
OfKind kind place name is_resource = is_resource ≡ kind place name

-- what is met is of its kind
abbrev pub AreOfKind : (Place → Text → Bool → Type 0) → (Place → Text → Bool) → Type 0
AreOfKind Met kind = (place : Place) (name : Text) (is_resource : Bool) → Met place name is_resource → OfKind kind place name is_resource

-- A view behind as many instances of a part: its types are shown, declared and used by their kinds.
pub record ViewHasKinds (kinds : Text → Text → Bool) (instances : List Instance) (count : ℕ) (x : Instance) : Type 0 where
  pub own : Text → Bool
  pub shown : AllAt (λ n (t : ShownType). t.slot ≡ named_slot (instance_place x.interface) t.name (kind_at kinds own (instance_place x.interface) t.name))
      x.view.types
  pub met : (n : ℕ) → AreOfKind (IsMetInView (IsShownBefore instances count) (instance_place x.interface) x.view n) (kind_at kinds own)
  pub types : AllAt (λ n (t : ShownType). DeclarationStands (OfKind (kind_at kinds own)) t.meaning.declaration
      (kind_at kinds own (instance_place x.interface) t.name)) x.view.types
  pub functions : AllAt (λ n (f : Text × FunctionMeaning). SignatureStands (OfKind (kind_at kinds own)) f.1.signature) x.view.functions

-- what an import or an export of this key is
abbrev pub ShownHasKind : (Place → Text → Bool) → Text → Shown → Type 0
ShownHasKind kind key (Shown.instance k view) = Unit
ShownHasKind kind key (Shown.function f) = SignatureStands (OfKind kind) f
ShownHasKind kind key (Shown.declares d) = DeclarationStands (OfKind kind) d (kind Place.here key)

pub record WorldHasKinds (kinds : Text → Text → Bool) (scope : Scope) : Type 0 where
  pub own : Text → Bool
  pub met : (n : ℕ) → AreOfKind (IsMetInScope scope.instances scope.imports n) (kind_at kinds own)
  pub imports : AllAt (λ n (s : Seen). ShownHasKind (kind_at kinds own) s.key s.shown) scope.imports
  pub exports : AllAt (λ n (s : Seen). ShownHasKind (kind_at kinds own) s.key s.shown) scope.exports

abbrev pub PartHasKinds : (Text → Text → Bool) → Part → Type 0
PartHasKinds kinds (Part.world scope) = WorldHasKinds kinds scope
PartHasKinds kinds (Part.interface exported imports) = Unit

pub record MemberHasKinds (kinds : Text → Text → Bool) (m : Member) : Type 0 where
  pub views : AllAt (ViewHasKinds kinds (instances_of m)) (instances_of m)
  pub world : PartHasKinds kinds m.part

-- the names of interfaces have one kind in all parts
pub record NamesHaveKinds (members : List Member) : Type 0 where
  pub kinds : Text → Text → Bool
  pub each : AllByRecursion (MemberHasKinds kinds) members
