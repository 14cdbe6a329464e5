-- What is made of the members of an interface, or of a world. Serves members::members_of.
use Rattle.std.proofs.Common.{◌≡◌, ◌∙◌, sym, ap, subst, ℕ, ◌+◌, ◌<◌, List, [], ◌++◌, length, take, get_or, map, Option, String, Global}
use Rattle.std.specs.{List.flat_map}
use Rattle.wit_model.specs.Text.{Text}
use Rattle.wit_model.specs.declared.model.{TypeDef.TypeDef, TypeId.TypeId, Function.Function}
use Rattle.print_grammar.specs.Tree.{MemberTree}
use Rattle.text_names.specs.declared.sources.Sources.{Sources}
use Rattle.text_trees.specs.declared.tree.MemberTree.{MemberTree as CodeMember}
use Rattle.text_trees.specs.TreesSeen.{member_of}
use Rattle.text_types.specs.declared.{members.Interfaces.Interfaces, scope.Scope.Scope, texts.Text.Text as CodeText}
use Rattle.text_types.specs.{Begins.Begins, Each.EachIs, Targets.TargetIn}
use Rattle.text_types.specs.Made.{functions_of, types_of, FunctionIs, InSomeOrder, MembersAre, NameMap, TypeIs}
use Rattle.text_types.specs.Making.{AddsFunctions, AreTypesOf, IsTypeOf}
use Rattle.text_types.specs.Scopes.{made_under, text_in, types_in, AddsTypes, Agrees}
use Rattle.text_types.proofs.{Growth.begins_none, EachLaws.each_append, AddedLaws.flat_more}
use Rattle.text_types.proofs.MadeLaws.{functions_carried, order_weaker, type_carried}

-- the functions of members, one member more
pub functions_more : {old new : List TypeDef} (types : Text → Option TypeId) (text : Text) (members : List CodeMember) (i : ℕ) (m : CodeMember)
    (few more : NameMap Function) → Begins old new → EachIs (FunctionIs old types) (flat_map functions_of (map (member_of text) (take i members))) few.entries
    → AddsFunctions new types (functions_of (member_of text m)) few more → i < length members → m ≡ get_or members i m
    → EachIs (FunctionIs new types) (flat_map functions_of (map (member_of text) (take (i + 1) members))) more.entries
functions_more {new = new} types text members i m few more h each k within is =
    let trees = flat_map functions_of (map (member_of text) (take i members)) ++ functions_of (member_of text m) in
    let joined : EachIs (FunctionIs new types) trees (few.entries ++ k.more) = each_append (functions_carried h (λ name id found. found) each) k.each in
    subst (λ entries. EachIs (FunctionIs new types) (flat_map functions_of (map (member_of text) (take (i + 1) members))) entries) (sym k.is)
    (subst (λ trees. EachIs (FunctionIs new types) trees (few.entries ++ k.more)) (sym (flat_more functions_of (member_of text) members i m within is)) joined)

-- the types of members
types_made : {s : Sources} {interfaces : Interfaces} {old new : List TypeDef} (a b : Scope) (members : List MemberTree) (types : NameMap TypeId)
    → Begins old new → types_in a ≡ [] → AddsTypes a b members → AreTypesOf s interfaces old b types
    → InSomeOrder (TypeIs new (TargetIn s interfaces a.«package») a.owner) members types.entries
types_made {s = s} {interfaces = interfaces} {old = old} {new = new} a b members types h none adds k =
    let same : types_in b ≡ members = adds.types ∙ ap (λ l. l ++ members) none in
    let of = λ (m : MemberTree) (e : String Global × TypeId) (is : IsTypeOf s interfaces old b m e).
    subst (λ o. TypeIs new (TargetIn s interfaces a.«package») o m e) adds.keeps.owner
    (type_carried h (λ path name id t. subst (λ p. TargetIn s interfaces p path name id) adds.keeps.home t) m e is) in
    order_weaker of (subst (λ l. InSomeOrder (IsTypeOf s interfaces old b) l types.entries) same k)

-- types and functions of members
pub members_made : {s : Sources} {interfaces : Interfaces} {old : List TypeDef} (new : List TypeDef) (a b c : Scope) (members : List CodeMember)
    (types : NameMap TypeId) (functions : NameMap Function) → Begins old new → types_in a ≡ []
    → AddsTypes a b (flat_map types_of (map (member_of (text_in a)) members)) → AreTypesOf s interfaces old b types → c.text ≡ b.text → Agrees types c
    → EachIs (FunctionIs new (λ name. made_under c name)) (flat_map functions_of (map (member_of (text_in c)) members)) functions.entries
    → MembersAre new (TargetIn s interfaces a.«package») a.owner (map (member_of (text_in a)) members) types functions
members_made new a b c members types functions h none adds made stays agrees each =
    let same : text_in c ≡ text_in a = ap (λ (t : CodeText). t.text.now) (stays ∙ adds.keeps.text) in
    record {
      has_types = types_made a b (flat_map types_of (map (member_of (text_in a)) members)) types h none adds made;
      has_functions = functions_carried (begins_none new) (λ name id found. sym (agrees name) ∙ found)
          (subst (λ t. EachIs (FunctionIs new (λ name. made_under c name)) (flat_map functions_of (map (member_of t) members)) functions.entries) same each);
    }
