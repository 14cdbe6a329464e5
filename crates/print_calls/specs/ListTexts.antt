-- What a fresh list renders to, where calls have moved it.
use Rattle.std.specs.Prelude.{◌≡◌, Bool, List}
use Rattle.print_output.specs.Expansion.{appends}
use Rattle.print_output.specs.{OutputCall.Moves, OutputCall.OutputCall, OutputCall.OutputView, Render.Written, Render.blank, Render.render, Render.writes}
use Rattle.print_grammar.specs.{AsRead.file_as_read, Calls.file_calls, Reading.IsOnlyReading, Tree.FileTree}
use Rattle.print_calls.specs.Listed.{no_calls}

-- Where these calls have moved a fresh list and a fresh output that keeps a text, the list renders to that text.
abbrev pub ListRendersToText : List OutputCall → Type 0
ListRendersToText calls = (list : OutputView (List OutputCall)) (text : OutputView Written) → Moves appends no_calls calls list → Moves writes blank calls text
    → render list.kept ≡ text.kept.text

-- where the calls of a file have moved a fresh list, the text that it renders to is read as what is shown in the file, and as nothing else
abbrev pub ListedTextReads : Bool → FileTree → Type 0
ListedTextReads emits_docs file = (list : OutputView (List OutputCall)) → Moves appends no_calls (file_calls emits_docs file) list
    → IsOnlyReading (render list.kept) (file_as_read file)
