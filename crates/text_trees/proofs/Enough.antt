-- Each text has room enough for its types.
use Rattle.std.proofs.Common.{◌≡◌, refl, ℕ, ◌≤◌, ◌&&◌, Bool, true, List, [], ◌∷◌, arith, max, suc, Option, Some, None}
use Rattle.std.specs.List.{list_all}
use Rattle.std.proofs.lemmas.Bool.{le-leb}
use Rattle.wit_model.specs.Rules.{passes}
use Rattle.print_grammar.specs.Tree.{TypeTree, ParamTree, CaseTree, SignatureTree, ResourceMember, Declared, MemberTree, ExternTree, WorldMember}
use Rattle.print_grammar.specs.Tree.{ResourceMember.Constructor, ResourceMember.Method, ResourceMember.Static}
use Rattle.print_grammar.specs.Tree.Declared.{RecordOf, VariantOf, FlagsOf, EnumOf, AliasOf, ResourceOf}
use Rattle.print_grammar.specs.Tree.{ExternTree.Path, ExternTree.NamedFunction, ExternTree.NamedPath, ExternTree.NamedInterface}
use Rattle.print_grammar.specs.Tree.{MemberTree.UseMember, MemberTree.TypeMember, MemberTree.FunctionMember}
use Rattle.print_grammar.specs.Tree.WorldMember.{WorldUse, WorldType, WorldImport, WorldExport}
use Rattle.text_trees.specs.TextTree.{NestedTree, TextItem, TextTree, WorldPart, TextItem.AnInterface, TextItem.AWorld, TextItem.AName, WorldPart.Has, WorldPart.Includes}
use Rattle.text_trees.specs.Levels.{levels, fits_type, fits_param, fits_signature, fits_case, fits_resource_member, fits_declared, fits_member, fits_extern, fits_world_member, fits_part, fits_item, fits_nested, fits_text}

-- a test passes from some number on
record FromSome (test : ℕ → Bool) : Type 0 where
  pub least : ℕ
  pub passes_from : (room : ℕ) → least ≤ room → test room ≡ true

at_once : FromSome (λ room. true)
at_once = record { least = 0; passes_from = λ room h. refl }

from_both : {a b : ℕ → Bool} → FromSome a → FromSome b → FromSome (λ room. a room && b room)
from_both {a} {b} p q = record { least = max p.least q.least; passes_from = λ room h. rw (p.passes_from room (omega arith), q.passes_from room (omega arith)) refl }

from_all : {X : Type 0} {test : ℕ → X → Bool} → ((x : X) → FromSome (λ room. test room x)) → (xs : List X) → FromSome (λ room. list_all (test room) xs)
from_all each [] = at_once
from_all each (x ∷ xs) = from_both (each x) (from_all each xs)

from_option : {X : Type 0} {test : ℕ → X → Bool} → ((x : X) → FromSome (λ room. test room x)) → (o : Option X) → FromSome (λ room. passes (test room) o)
from_option each None = at_once
from_option each (Some x) = each x

type-enough : (ty : TypeTree) → FromSome (λ room. fits_type room ty)
type-enough ty = record { least = levels ty; passes_from = λ room h. le-leb (levels ty) room h }

param-enough : (param : ParamTree) → FromSome (λ room. fits_param room param)
param-enough param = type-enough param.ty

signature-enough : (signature : SignatureTree) → FromSome (λ room. fits_signature room signature)
signature-enough signature = from_both (from_all param-enough signature.params) (from_option type-enough signature.result)

case-enough : (c : CaseTree) → FromSome (λ room. fits_case room c)
case-enough c = from_option type-enough c.payload

resource_member-enough : (member : ResourceMember) → FromSome (λ room. fits_resource_member room member)
resource_member-enough (Constructor prefix params result) = from_both (from_all param-enough params) (from_option type-enough result)
resource_member-enough (Method prefix name signature) = signature-enough signature
resource_member-enough (Static prefix name signature) = signature-enough signature

declared-enough : (declared : Declared) → FromSome (λ room. fits_declared room declared)
declared-enough (RecordOf name fields) = from_all (λ field. type-enough field.ty) fields
declared-enough (VariantOf name cases) = from_all case-enough cases
declared-enough (FlagsOf name flags) = at_once
declared-enough (EnumOf name cases) = at_once
declared-enough (AliasOf name ty) = record { least = levels ty; passes_from = λ room h. le-leb (levels ty) (suc room) (omega arith) }
declared-enough (ResourceOf name members) = from_all resource_member-enough members

member-enough : (member : MemberTree) → FromSome (λ room. fits_member room member)
member-enough (UseMember prefix path names) = at_once
member-enough (TypeMember prefix declared) = declared-enough declared
member-enough (FunctionMember prefix name signature) = signature-enough signature

extern-enough : (e : ExternTree) → FromSome (λ room. fits_extern room e)
extern-enough (Path path) = at_once
extern-enough (NamedFunction name signature) = signature-enough signature
extern-enough (NamedPath name path) = at_once
extern-enough (NamedInterface name members) = from_all member-enough members

world_member-enough : (member : WorldMember) → FromSome (λ room. fits_world_member room member)
world_member-enough (WorldUse prefix path names) = at_once
world_member-enough (WorldType prefix declared) = declared-enough declared
world_member-enough (WorldImport prefix e) = extern-enough e
world_member-enough (WorldExport prefix e) = extern-enough e

part-enough : (part : WorldPart) → FromSome (λ room. fits_part room part)
part-enough (Has it) = world_member-enough it
part-enough (Includes prefix path names) = at_once

item-enough : (item : TextItem) → FromSome (λ room. fits_item room item)
item-enough (AnInterface docs gates name members) = from_all member-enough members
item-enough (AWorld docs gates name parts) = from_all part-enough parts
item-enough (AName path own) = at_once

nested-enough : (tree : NestedTree) → FromSome (λ room. fits_nested room tree)
nested-enough tree = from_all item-enough tree.items

text-enough : (tree : TextTree) → FromSome (λ room. fits_text room tree)
text-enough tree = from_both (from_all item-enough tree.items) (from_all nested-enough tree.nested)

-- There is room for a text's types beside any other room.
pub text-room : (room : ℕ) (tree : TextTree) → (more : ℕ) × (room ≤ more) × (fits_text more tree ≡ true)
text-room room tree = let e = text-enough tree in (max room e.least, omega arith, e.passes_from (max room e.least) (omega arith))
