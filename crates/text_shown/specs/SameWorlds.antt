-- When the members of two worlds declare the same: order, grouping of uses and ways of writing aside (WIT.md, "Item: world", "Item: use").
-- The one may import interfaces beside, which the other only needs.
use Rattle.std.specs.Prelude.{◌≡◌, ◌⊎◌, ◌∷◌, List, [], None, Contains}
use Rattle.std.specs.List.{filter_map, flat_map}
use Rattle.wit_model.specs.Text.{Text}
use Rattle.print_grammar.specs.Tree.{Gates.Ungated, PackageHead, PathTree, Prefix, SignatureTree, ExternTree, MemberTree, MemberTree.FunctionMember}
use Rattle.print_grammar.specs.Tree.{WorldMember}
use Rattle.print_grammar.specs.Tree.ExternTree.{Path, NamedFunction, NamedPath, NamedInterface}
use Rattle.print_grammar.specs.Tree.WorldMember.{WorldUse, WorldType, WorldImport, WorldExport}
use Rattle.text_types.specs.Plain.{plain_signature}
use Rattle.text_shown.specs.Same.{plain_members, plain_path, SameMembers, Shuffled}
use Rattle.text_shown.specs.ShowsWorlds.{export_of, import_of, world_types, Stated}

-- ---- imports and exports

-- Two imports or two exports are the same.
pub data SameExtern (here : PackageHead) : ExternTree → ExternTree → Type 0 where
  same_path : {a b : PathTree} → plain_path here a ≡ plain_path here b → SameExtern here (Path a) (Path b)
  same_function : {name : Text} {s t : SignatureTree} → plain_signature s ≡ plain_signature t → SameExtern here (NamedFunction name s) (NamedFunction name t)
  same_named_path : {name : Text} {a b : PathTree} → plain_path here a ≡ plain_path here b → SameExtern here (NamedPath name a) (NamedPath name b)
  same_inline : {name : Text} {xs ys : List MemberTree} → SameMembers here xs ys → SameExtern here (NamedInterface name xs) (NamedInterface name ys)

-- The documentation that is shown in front of an import or an export is what is stated. But where none is stated in front of an interface by its path under
-- a label, that of the interface is shown, and left open here.
pub data SameDocs : ExternTree → List Text → List Text → Type 0 where
  as_stated : {extern : ExternTree} {lines : List Text} → SameDocs extern lines lines
  of_interface : {name : Text} {path : PathTree} {lines : List Text} → SameDocs (NamedPath name path) lines []

-- What is shown is the same as what is stated, with what stands in front of both.
pub record SameStated (here : PackageHead) (shown stated : Stated) : Type 0 where
  pub docs : SameDocs stated.extern shown.prefix.docs stated.prefix.docs
  pub gates : shown.prefix.gates ≡ stated.prefix.gates
  pub external_id : shown.prefix.external_id ≡ stated.prefix.external_id
  pub extern : SameExtern here shown.extern stated.extern

-- One of these is the same.
pub record IsAmong (Same : Stated → Type 0) (all : List Stated) : Type 0 where
  pub one : Stated
  pub there : Contains all one
  pub same : Same one

-- Each of the stated is shown, and each that is shown is stated, or else left open.
pub record AreSame (here : PackageHead) (Open : Stated → Type 0) (shown stated : List Stated) : Type 0 where
  pub stated_shown : (one : Stated) → Contains stated one → IsAmong (λ other. SameStated here other one) shown
  pub shown_stated : (one : Stated) → Contains shown one → IsAmong (λ other. SameStated here one other) stated ⊎ Open one

-- an interface that is imported by its path, with nothing in front of it
pub data IsBareImport : Stated → Type 0 where
  bare_import : (path : PathTree) → IsBareImport (record { prefix = record { docs = []; gates = Ungated; external_id = None }; extern = Path path })

-- ---- members

-- the function that a member imports
abbrev pub extern_function : Prefix → ExternTree → List MemberTree
extern_function prefix (NamedFunction name signature) = FunctionMember prefix name (plain_signature signature) ∷ []
extern_function prefix (Path path) = []
extern_function prefix (NamedPath name path) = []
extern_function prefix (NamedInterface name members) = []

abbrev pub imported_function : WorldMember → List MemberTree
imported_function (WorldUse prefix path names) = []
imported_function (WorldType prefix declared) = []
imported_function (WorldImport prefix extern) = extern_function prefix extern
imported_function (WorldExport prefix extern) = []

-- A world that is shown has what is stated: imported functions in their order, all else in any; and perhaps bare imports beside.
pub record SameWorlds (here : PackageHead) (shown stated : List WorldMember) : Type 0 where
  pub types : Shuffled (flat_map (plain_members here) (flat_map world_types shown)) (flat_map (plain_members here) (flat_map world_types stated))
  pub functions : flat_map imported_function shown ≡ flat_map imported_function stated
  pub imports : AreSame here IsBareImport (filter_map import_of shown) (filter_map import_of stated)
  pub exports : AreSame here (λ one. ⊥) (filter_map export_of shown) (filter_map export_of stated)
