use Rattle.std.proofs.Common.{ap, sym, subst, OnOk, List}
use Rattle.text_trees.specs.declared.tree.ResourceMember.{ResourceMember}
use Rattle.text_trees.specs.{Seen.cut, TreesSeen.declared_of}
use Rattle.text_types.specs.{Kept.defs_of, Made.functions_of_declared, Scopes.made_under, Scopes.text_in, Seen.EachMember}
use Rattle.wit_text.specs.Stages.{AddsCalls}
use Rattle.wit_text.proofs.StageLaws.{calls_empty, resource_calls}
use Rattle.wit_text.proofs.externs.add_declared.Goals as goal

pub returns-in_ok-callables-in-ResourceOf-clause-adds : goal.returns-in_ok-callables-in-ResourceOf-clause-adds
returns-in_ok-callables-in-ResourceOf-clause-adds c =
    let scope = c.args.scope.now in
    let name = cut (text_in c.args.scope.now) c.in-ResourceOf.name in
    let made : EachMember scope (defs_of c.functions_of_resource.new.types) name c.in-ResourceOf.inner.items c.in_ok-callables-in-ResourceOf.callables.items =
    subst (λ (ms : List ResourceMember). EachMember scope (defs_of c.functions_of_resource.new.types) name ms c.in_ok-callables-in-ResourceOf.callables.items)
    c.as_slice-inner.ensures.value c.in_ok-callables-in-ResourceOf.ensures.each in
    subst (λ d. OnOk c.add_callables.result (AddsCalls (defs_of c.functions_of_resource.new.types) (λ n. made_under scope n)
    (functions_of_declared (declared_of (text_in scope) d)) c.args.imports.now.entries c.add_callables.new.entries.entries))
    (sym c.in-ResourceOf.is)
    (resource_calls scope name c.in-ResourceOf.inner.items c.in_ok-callables-in-ResourceOf.callables.items c.args.imports.now.entries
    c.add_callables.new.entries.entries c.add_callables.result made c.add_callables.ensures.adds)

pub returns-in-RecordOf-clause-adds : goal.returns-in-RecordOf-clause-adds
returns-in-RecordOf-clause-adds c = calls_empty (ap (λ d. functions_of_declared (declared_of (text_in c.args.scope.now) d)) c.in-RecordOf.is)

pub returns-in-VariantOf-clause-adds : goal.returns-in-VariantOf-clause-adds
returns-in-VariantOf-clause-adds c = calls_empty (ap (λ d. functions_of_declared (declared_of (text_in c.args.scope.now) d)) c.in-VariantOf.is)

pub returns-in-FlagsOf-clause-adds : goal.returns-in-FlagsOf-clause-adds
returns-in-FlagsOf-clause-adds c = calls_empty (ap (λ d. functions_of_declared (declared_of (text_in c.args.scope.now) d)) c.in-FlagsOf.is)

pub returns-in-EnumOf-clause-adds : goal.returns-in-EnumOf-clause-adds
returns-in-EnumOf-clause-adds c = calls_empty (ap (λ d. functions_of_declared (declared_of (text_in c.args.scope.now) d)) c.in-EnumOf.is)

pub returns-in-AliasOf-clause-adds : goal.returns-in-AliasOf-clause-adds
returns-in-AliasOf-clause-adds c = calls_empty (ap (λ d. functions_of_declared (declared_of (text_in c.args.scope.now) d)) c.in-AliasOf.is)
