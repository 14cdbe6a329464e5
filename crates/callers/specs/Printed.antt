-- The text of packages (Component Model WIT.md).
use Rattle.std.specs.Prelude.{◌≡◌, ℕ, List, [], Some, false, true}
use Rattle.wit_model.specs.declared.model.{Interface.Interface, InterfaceId.InterfaceId, PackageId.PackageId, Resolve.Resolve}
use Rattle.print_output.specs.OutputCall.{OutputCall}
use Rattle.wit_component.specs.{AsRead.file_as_read, Lookup.interface_at, Render.render}
use Rattle.wit_component.specs.{Calls.file_calls, Calls.members_calls, GivenTypes.given_members, Reading.IsOnlyReading, Shown.listed_types, Shown.shown_file}
use Rattle.wit_model.specs.declared.model.TypeOwner.TheVariants as owner

-- The text is what the calls of the package's file render to, with documentation and no others nested; and that is read as what is shown of the
-- package, and as nothing else.
pub record IsTextOf (r : Resolve) (id : PackageId) (text : List ℕ) : Type 0 where
  pub rendered : text ≡ render (file_calls true (shown_file r id []))
  pub reads : IsOnlyReading text (file_as_read (shown_file r id []))

-- the calls for the types of an interface as they are declared, with documentation: for uses and then for the others, and for no functions
abbrev pub calls_of_types : Resolve → InterfaceId → Interface → List OutputCall
calls_of_types r id i = members_calls true false (given_members r (owner.Interface id) [] (listed_types i))

-- the text is what these calls render to
abbrev pub IsTextOfTypes : Resolve → InterfaceId → List ℕ → Type 0
IsTextOfTypes r id text = (i : Interface) → interface_at r id.0 ≡ Some i → text ≡ render (calls_of_types r id i)
