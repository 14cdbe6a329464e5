use Rattle.std.proofs.Common.{ap, sym, subst, OnOk}
use Rattle.text_trees.specs.{Seen.cut, TreesSeen.extern_of, TreesSeen.prefix_of, TreesSeen.signature_of}
use Rattle.text_types.specs.{Kept.defs_of, Scopes.made_under, Scopes.text_in}
use Rattle.text_shown.specs.ShowsWorlds.{extern_functions}
use Rattle.wit_text.specs.Stages.{AddsCalls}
use Rattle.wit_text.proofs.StageLaws.{calls_empty, free_calls}
use Rattle.wit_text.proofs.externs.add_extern.Goals as goal

pub returns-in_ok-function-in-NamedFunction-clause-adds : goal.returns-in_ok-function-in-NamedFunction-clause-adds
returns-in_ok-function-in-NamedFunction-clause-adds c =
    let text = text_in c.args.scope.now in
    subst (λ t. OnOk c.add_callable.result (AddsCalls (defs_of c.function_of.new.types) (λ name. made_under c.args.scope.now name)
    (extern_functions (prefix_of text c.args.prefix.now) (extern_of text t)) c.args.entries.now.entries c.add_callable.new.entries.entries))
    (sym c.in-NamedFunction.is)
    (free_calls (λ name. made_under c.args.scope.now name) (prefix_of text c.args.prefix.now) (cut text c.in-NamedFunction.name)
    (signature_of text c.in-NamedFunction.signature)
    (record { function = c.in_ok-function-in-NamedFunction.function; at = c.in-NamedFunction.name }) c.args.entries.now.entries
    c.add_callable.new.entries.entries
    c.add_callable.result c.in_ok-function-in-NamedFunction.ensures.stands c.add_callable.ensures.adds)

pub returns-in-Path-clause-adds : goal.returns-in-Path-clause-adds
returns-in-Path-clause-adds c =
    calls_empty (ap (λ t. extern_functions (prefix_of (text_in c.args.scope.now) c.args.prefix.now) (extern_of (text_in c.args.scope.now) t)) c.in-Path.is)

pub returns-in-NamedPath-clause-adds : goal.returns-in-NamedPath-clause-adds
returns-in-NamedPath-clause-adds c =
    calls_empty (ap (λ t. extern_functions (prefix_of (text_in c.args.scope.now) c.args.prefix.now) (extern_of (text_in c.args.scope.now) t)) c.in-NamedPath.is)

pub returns-in-NamedInterface-clause-adds : goal.returns-in-NamedInterface-clause-adds
returns-in-NamedInterface-clause-adds c =
    calls_empty (ap (λ t. extern_functions (prefix_of (text_in c.args.scope.now) c.args.prefix.now) (extern_of (text_in c.args.scope.now) t))
    c.in-NamedInterface.is)
