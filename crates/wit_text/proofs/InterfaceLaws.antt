-- What is made of members in a scope. Serves interfaces.
use Rattle.std.proofs.Common.{◌≡◌, ◌<◌, sym, subst, ℕ, List, length, map}
use Rattle.std.proofs.lemmas.Option.{slice_get_within}
use Rattle.wit_model.specs.Text.{Text}
use Rattle.wit_model.specs.declared.model.{TypeDef.TypeDef, TypeId.TypeId, TypeOwner.TypeOwner}
use Rattle.print_grammar.specs.Tree.{MemberTree, PathTree}
use Rattle.text_trees.specs.declared.tree.MemberTree.{MemberTree as CodeMember}
use Rattle.text_trees.specs.TreesSeen.{member_of}
use Rattle.text_names.specs.declared.sources.Sources.{Sources}
use Rattle.text_types.specs.declared.{members.Interfaces.Interfaces, members.Members.Members, scope.Scope.Scope}
use Rattle.text_types.specs.{Made.MembersAre, Making.MakesMembers, Scopes.text_in, Targets.TargetIn}
use Rattle.text_types.proofs.{Growth.begins_none, MadeLaws.members_carried}
use Rattle.wit_text.specs.MadeInterfaces.{UsedIn}

pub members_there : (s : Sources) (interfaces : Interfaces) (defs : List TypeDef) (scope : Scope) (home : ℕ) (owner : TypeOwner) (text : Text)
    (xs ys : List CodeMember) (m : Members) → scope.«package» ≡ home → scope.owner ≡ owner → text_in scope ≡ text → xs ≡ ys
    → MakesMembers s interfaces defs scope (map (member_of (text_in scope)) xs) m
    → MembersAre defs (TargetIn s interfaces home) owner (map (member_of text) ys) m.types m.functions
members_there s interfaces defs scope home owner text xs ys m same_home same_owner same_text same made =
    subst (λ h. MembersAre defs (TargetIn s interfaces h) owner (map (member_of text) ys) m.types m.functions) same_home
    (subst (λ o. MembersAre defs (TargetIn s interfaces scope.«package») o (map (member_of text) ys) m.types m.functions) same_owner
    (subst (λ t. MembersAre defs (TargetIn s interfaces scope.«package») scope.owner (map (member_of t) ys) m.types m.functions) same_text
    (subst (λ zs. MembersAre defs (TargetIn s interfaces scope.«package») scope.owner (map (member_of (text_in scope)) zs) m.types m.functions) same made)))

-- what is meant is of an interface that was made before
used_before : (s : Sources) (interfaces : Interfaces) (home number : ℕ) → number ≡ length interfaces.list.items → (path : PathTree) (name : Text) (id : TypeId)
    → TargetIn s interfaces home path name id → UsedIn s interfaces home number path name id
used_before s interfaces home number last path name id t =
    record {
      is = t;
      before =
          subst (λ n. t.has.made < n) (sym last) (slice_get_within interfaces.list.items t.has.made t.has.interface t.has.is.stands);
    }

pub members_used : {s : Sources} {interfaces : Interfaces} {defs : List TypeDef} {home : ℕ} {owner : TypeOwner} {members : List MemberTree} {m : Members}
    (number : ℕ) → number ≡ length interfaces.list.items → MembersAre defs (TargetIn s interfaces home) owner members m.types m.functions
    → MembersAre defs (UsedIn s interfaces home number) owner members m.types m.functions
members_used {s = s} {interfaces = interfaces} {defs = defs} {home = home} number last k =
    members_carried (begins_none defs) (used_before s interfaces home number last) k
