use Rattle.std.proofs.Common.{◌++◌, append_assoc}
use Rattle.print_grammar.specs.Calls.{doc_calls, gates_calls}
use Rattle.print_items.specs.Shown.{shown_docs, shown_gates}
use Rattle.print_items.proofs.Driven.{driven, driven_on}
use Rattle.print_packages.proofs.interface.write_head.Goals as goal

pub returns-clause-calls : goal.returns-clause-calls
returns-clause-calls g c = driven_on (driven (driven c.write_docs.ensures.calls c.write_gates.ensures.calls) c.keyword_and_blank.ensures.calls) c.name.ensures.calls
    (append_assoc (doc_calls c.args.emits_docs (shown_docs c.args.interface.now.docs) ++ gates_calls (shown_gates c.args.interface.now.stability)) _ _)
