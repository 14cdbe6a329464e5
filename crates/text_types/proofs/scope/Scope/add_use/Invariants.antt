use Rattle.std.proofs.Common.{map, take}
use Rattle.print_grammar.specs.Tree.MemberTree.{UseMember}
use Rattle.text_trees.specs.TreesSeen.{path_of, prefix_of, used_name_of}
use Rattle.text_types.specs.{Made.types_of, Scopes.text_in, Scopes.AddsTypes}
use Rattle.text_types.proofs.scope.Scope.add_use.Given as goal

abbrev pub invariant-loop-used : goal.invariant-loop-used
invariant-loop-used l =
    AddsTypes l.initial.self l.self (types_of (UseMember (prefix_of (text_in l.initial.self) l.prefix) (path_of (text_in l.initial.self) l.path)
    (map (used_name_of (text_in l.initial.self)) (take l.used-index l.names))))
