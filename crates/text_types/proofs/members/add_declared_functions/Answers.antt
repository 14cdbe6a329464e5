use Rattle.std.proofs.Common.{ap, sym, subst, OnOk}
use Rattle.text_trees.specs.{Seen.cut, TreesSeen.declared_of}
use Rattle.text_types.specs.{Kept.defs_of, Made.functions_of_declared, Making.AddsFunctions, Scopes.made_under, Scopes.text_in}
use Rattle.text_types.proofs.AddedFunctions.{adds_nothing, adds_of_resource}
use Rattle.text_types.proofs.members.add_declared_functions.Goals as goal

pub returns-in_ok-callables-in-ResourceOf-clause-adds : goal.returns-in_ok-callables-in-ResourceOf-clause-adds
returns-in_ok-callables-in-ResourceOf-clause-adds c =
    let text = text_in c.args.scope.now in
    let defs = defs_of c.functions_of_resource.new.types in
    let it = c.in-ResourceOf in
    subst (λ d. OnOk c.add_all.result (AddsFunctions defs (λ name. made_under c.args.scope.now name) (functions_of_declared (declared_of text d))
    c.args.functions.now c.add_all.new.functions)) (sym it.is)
    (adds_of_resource defs c.args.scope.now (cut text it.name) it.inner.items c.deref.result.now c.in_ok-callables-in-ResourceOf.callables.items
    c.args.functions.now c.add_all.new.functions c.add_all.result c.deref.ensures.value c.in_ok-callables-in-ResourceOf.ensures.each c.add_all.ensures.adds)

pub returns-in-RecordOf-clause-adds : goal.returns-in-RecordOf-clause-adds
returns-in-RecordOf-clause-adds c =
    adds_nothing (defs_of c.args.types.now) (λ name. made_under c.args.scope.now name) _ c.args.functions.now
    (ap (λ d. functions_of_declared (declared_of (text_in c.args.scope.now) d)) c.in-RecordOf.is)

pub returns-in-VariantOf-clause-adds : goal.returns-in-VariantOf-clause-adds
returns-in-VariantOf-clause-adds c =
    adds_nothing (defs_of c.args.types.now) (λ name. made_under c.args.scope.now name) _ c.args.functions.now
    (ap (λ d. functions_of_declared (declared_of (text_in c.args.scope.now) d)) c.in-VariantOf.is)

pub returns-in-FlagsOf-clause-adds : goal.returns-in-FlagsOf-clause-adds
returns-in-FlagsOf-clause-adds c =
    adds_nothing (defs_of c.args.types.now) (λ name. made_under c.args.scope.now name) _ c.args.functions.now
    (ap (λ d. functions_of_declared (declared_of (text_in c.args.scope.now) d)) c.in-FlagsOf.is)

pub returns-in-EnumOf-clause-adds : goal.returns-in-EnumOf-clause-adds
returns-in-EnumOf-clause-adds c =
    adds_nothing (defs_of c.args.types.now) (λ name. made_under c.args.scope.now name) _ c.args.functions.now
    (ap (λ d. functions_of_declared (declared_of (text_in c.args.scope.now) d)) c.in-EnumOf.is)

pub returns-in-AliasOf-clause-adds : goal.returns-in-AliasOf-clause-adds
returns-in-AliasOf-clause-adds c =
    adds_nothing (defs_of c.args.types.now) (λ name. made_under c.args.scope.now name) _ c.args.functions.now
    (ap (λ d. functions_of_declared (declared_of (text_in c.args.scope.now) d)) c.in-AliasOf.is)
