use Rattle.std.specs.List.{list_all}
use Rattle.print_output.specs.OutputCall.{is_one_line}
use Rattle.print_items.specs.Shown.{shown_docs, shown_enum_case}
use Rattle.print_grammar.specs.{WellNamed.is_well_label, Calls.label_calls}
use Rattle.print_items.proofs.{Runs.passes_at, Driven.one_run, Driven.run_cut}
use Rattle.base_lemmas.proofs.Bools.{right_of as second_true}
use Rattle.print_items.proofs.labels.write_each_case.Goals as goal

pub write_label-requires : goal.write_label-requires
write_label-requires g c =
    let well = passes_at (λ x. is_well_label (shown_enum_case x)) c.args.cases.now c.loop-case.case-index c.case-item.result c.requires.well c.loop-case-test.true c.case-item.is in
    record { label = rw c.deref.ensures (second_true (list_all is_one_line (shown_docs c.case-item.result.docs)) _ well) }

pub loop-case-preserved : goal.loop-case-preserved
loop-case-preserved g c = record {
  calls = one_run (λ case. label_calls c.args.emits_docs (shown_enum_case case)) _ _ _ c.loop-case.invariant.calls c.loop-case-test.true c.case-item.is
      (rw c.deref.ensures at c.write_label.ensures.calls);
}

pub returns-then-driver : goal.returns-then-driver
returns-then-driver g c = record { calls = run_cut (λ case. label_calls c.args.emits_docs (shown_enum_case case)) c.args.cases.now c.loop-case.case-index c.loop-case.invariant.calls c.if-driver.true }
