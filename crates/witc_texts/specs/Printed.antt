-- The text of packages (Component Model WIT.md).
use Rattle.std.specs.Prelude.{◌≡◌, ℕ, List, [], true}
use Rattle.wit_model.specs.declared.model.{PackageId.PackageId, Resolve.Resolve}
use Rattle.print_grammar.specs.{AsRead.file_as_read, Calls.file_calls, Reading.IsOnlyReading}
use Rattle.print_output.specs.Render.{render}
use Rattle.wit_component.specs.{Decoded.IsDecoded, Order.FollowsBytes}
use Rattle.wit_print.specs.Shown.{shown_file}

-- The text is what the package's calls render to, with documentation and these others nested, and its one reading is what is shown of them.
pub record IsTextOf (r : Resolve) (id : PackageId) (nested : List PackageId) (text : List ℕ) : Type 0 where
  pub rendered : text ≡ render (file_calls true (shown_file r id nested))
  pub reads : IsOnlyReading text (file_as_read (shown_file r id nested))

-- The bytes mean a package, and the text is of it, in the order in which they show it, with no others nested.
pub record PrintsBytes (bytes text : List ℕ) : Type 0 where
  pub resolve : Resolve
  pub id : PackageId
  pub decoded : IsDecoded bytes resolve id.0
  pub order : FollowsBytes bytes resolve
  pub is_text : IsTextOf resolve id [] text
