-- Packages that can be printed as a file, and what their text says.
use Rattle.std.specs.Prelude.{◌≡◌, ◌<◌, Bool, false, true, List, length}
use Rattle.std.specs.List.{list_all}
use Rattle.wit_model.specs.{Rules.in_list, Valid.IsValid}
use Rattle.wit_model.specs.declared.model.{PackageId.PackageId, Resolve.Resolve}
use Rattle.print_output.specs.{OutputCall.Moves, OutputCall.OutputView, Render.Written, Render.blank, Render.render, Render.writes}
use Rattle.print_grammar.specs.{AsRead.file_as_read, Calls.file_calls, Reading.IsOnlyReading, Tree.FileTree}
use Rattle.print_items.specs.Shown.{shown_file}

-- Of valid packages one can be printed as a file, with these others nested in it.
pub record ArePrintable (r : Resolve) (main : PackageId) (nested : List PackageId) : Type 0 where
  pub valid : IsValid r
  pub in_range : main.0 < length r.packages.items
  pub nested_ : list_all (λ id. in_list r.packages.items id.0) nested ≡ true

-- of each file of packages that can be printed: a main one, and others nested in it
abbrev pub OfPrintableFiles : (FileTree → Type 0) → Type 0
OfPrintableFiles Holds = (r : Resolve) (main : PackageId) (nested : List PackageId) → ArePrintable r main nested → Holds (shown_file r main nested)

-- the text of a file is read as what is shown in it, and as nothing else
abbrev pub FileReads : Bool → FileTree → Type 0
FileReads emits_docs file = IsOnlyReading (render (file_calls emits_docs file)) (file_as_read file)

-- so is the text of an output that kept it from the start
abbrev pub KeptTextReads : Bool → FileTree → Type 0
KeptTextReads emits_docs file = (new : OutputView Written) → Moves writes blank (file_calls emits_docs file) new
    → IsOnlyReading new.kept.text (file_as_read file)

-- without documentation each file of the one makes the same calls as that of the other
abbrev pub PrintAlike : Resolve → Resolve → Type 0
PrintAlike a b = (main : PackageId) (nested : List PackageId) → file_calls false (shown_file a main nested) ≡ file_calls false (shown_file b main nested)
