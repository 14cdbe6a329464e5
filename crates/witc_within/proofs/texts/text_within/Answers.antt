use Rattle.std.proofs.Common.{◌≡◌, ◌≤◌, ◌<◌, ◌∙◌, subst, Bool, length, rules}
use Rattle.std.specs.Prelude.{OnErr, OnOk}
use Rattle.print_output.specs.{OutputCall.Begins, OutputCall.Moves, Render.writes}
use Rattle.print_grammar.specs.Calls.{file_calls}
use Rattle.wit_print.specs.{Files.FileReads, Shown.shown_file}
use Rattle.witc_within.proofs.WithinLaws.{all-within, some-beyond}
use Rattle.witc_within.proofs.texts.text_within.Goals as goal

pub returns-then-len-most-clause-within : goal.returns-then-len-most-clause-within
returns-then-len-most-clause-within c =
    let file = shown_file c.args.resolve.now c.args.id c.args.nested.now in
    let docs = c.new-printer.ensures.docs in
    let long : c.args.most < length c.print-printed.new.self.output.kept.text = search rules in
    some-beyond c.args.resolve.now c.args.id c.args.nested.now c.new-printer.result.output c.print-printed.new.self.output (c.new-printer.ensures.output ∙ c.new.ensures) c.args.most
    (subst (λ (b : Bool). FileReads b file) docs c.print-printed.ensures.reads) c.print-printed.result
    (subst (λ (b : Bool). OnOk c.print-printed.result (Moves writes c.new-printer.result.output (file_calls b file) c.print-printed.new.self.output)) docs c.print-printed.ensures.ok)
    (subst (λ (b : Bool). OnErr c.print-printed.result (Begins writes c.new-printer.result.output (file_calls b file) c.print-printed.new.self.output)) docs c.print-printed.ensures.err) long

pub returns-clause-within : goal.returns-clause-within
returns-clause-within c =
    let file = shown_file c.args.resolve.now c.args.id c.args.nested.now in
    let docs = c.new-printer.ensures.docs in
    let whole : c.into_bytes.result.items ≡ c.print-printed.new.self.output.kept.text = search rules in
    let short : length c.print-printed.new.self.output.kept.text ≤ c.args.most = search rules in
    all-within c.args.resolve.now c.args.id c.args.nested.now c.new-printer.result.output c.print-printed.new.self.output (c.new-printer.ensures.output ∙ c.new.ensures) c.args.most
    (subst (λ (b : Bool). FileReads b file) docs c.in_ok-printed.ensures.reads) c.into_bytes.result whole
    (subst (λ (b : Bool). Moves writes c.new-printer.result.output (file_calls b file) c.print-printed.new.self.output) docs c.in_ok-printed.ensures.ok) short
