use Rattle.std.proofs.Common.{◌∙◌, sym, subst, ℕ, Bool, true, List}
use Rattle.std.specs.String.{string_bytes}
use Rattle.print_output.specs.{OutputCall.Moves, Render.writes}
use Rattle.print_grammar.specs.{AsRead.file_as_read, Calls.file_calls, Reading.IsOnlyReading}
use Rattle.print_items.specs.Shown.{shown_file}
use Rattle.wit_print.specs.Files.{FileReads}
use Rattle.wit_print.proofs.PrintedTexts.{is-rendered}
use Rattle.wit_print.proofs.text.print_to_string.Goals as goal

pub returns-clause-reads : goal.returns-clause-reads
returns-clause-reads c =
    let file = shown_file c.args.resolve.now c.args.id c.args.nested.now in
    let docs = c.new-printer.ensures.docs in
    subst (λ (t : List ℕ). IsOnlyReading t (file_as_read file)) (sym (is-rendered (file_calls true file) (string_bytes c.from.result) c.new-printer.result.output c.print.new.self.output
    (c.new-printer.ensures.output ∙ c.new.ensures) (subst (λ (b : Bool). Moves writes c.new-printer.result.output (file_calls b file) c.print.new.self.output) docs c.in_ok-print.ensures.ok)
    c.from.ensures)) (subst (λ (b : Bool). FileReads b file) docs c.in_ok-print.ensures.reads)

pub returns-clause-rendered : goal.returns-clause-rendered
returns-clause-rendered c =
    let file = shown_file c.args.resolve.now c.args.id c.args.nested.now in
    is-rendered (file_calls true file) (string_bytes c.from.result) c.new-printer.result.output c.print.new.self.output (c.new-printer.ensures.output ∙ c.new.ensures)
    (subst (λ (b : Bool). Moves writes c.new-printer.result.output (file_calls b file) c.print.new.self.output) c.new-printer.ensures.docs c.in_ok-print.ensures.ok) c.from.ensures
