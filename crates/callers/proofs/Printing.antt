-- The text of the types of an interface that were printed.
use Rattle.std.proofs.Common.{rules as std_rules, ◌≡◌, ℕ, List, Some}
use Rattle.wit_model.specs.declared.model.{Interface.Interface, InterfaceId.InterfaceId, Resolve.Resolve}
use Rattle.print_output.proofs.RenderLaws.{Moves-writes}
use Rattle.print_output.specs.OutputCall.{Moves, OutputView}
use Rattle.wit_component.specs.{Lookup.interface_at, Render.Written, Render.blank, Render.render, Render.writes}
use Rattle.callers.specs.Printed.{calls_of_types}

-- what an output holds that was blank before the calls for the types of an interface
pub types-printed : (r : Resolve) (id : InterfaceId) (i j : Interface) (text : List ℕ) (new : OutputView Written) → interface_at r id.0 ≡ Some i → interface_at r id.0 ≡ Some j
    → Moves writes blank (calls_of_types r id i) new → text ≡ new.kept.text → text ≡ render (calls_of_types r id j)
types-printed r id i j text new at there moved is = search (std_rules, Moves-writes)
