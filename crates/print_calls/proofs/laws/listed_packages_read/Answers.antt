use Rattle.std.proofs.Common.{subst, sym, List, ℕ}
use Rattle.print_grammar.specs.{AsRead.file_as_read, Calls.file_calls, Reading.IsOnlyReading}
use Rattle.print_items.specs.Shown.{shown_file}
use Rattle.print_packages.proofs.ValidFiles.{packages_read}
use Rattle.print_calls.proofs.Rendered.{list-renders}
use Rattle.print_calls.proofs.laws.listed_packages_read.Goals as goal

pub returns : goal.returns
returns c = λ emits_docs r main nested can list moved. subst (λ (text : List ℕ). IsOnlyReading text (file_as_read (shown_file r main nested)))
    (sym (list-renders (file_calls emits_docs (shown_file r main nested)) list moved)) (packages_read emits_docs r main nested can.valid can.in_range can.nested_)
