-- The calls for what stands before the block of an interface, and for the block.
use Rattle.std.specs.{Prelude.Bool, Prelude.false, Prelude.List, Prelude.[], Option.option_map_or}
use Rattle.wit_model.specs.declared.model.{Resolve.Resolve, Interface.Interface, InterfaceId.InterfaceId}
use Rattle.wit_model.specs.{Lookup.interface_at, Text.Text}
use Rattle.print_output.specs.OutputCall.{OutputCall}
use Rattle.print_items.specs.Shown.{shown_docs, shown_gates, shown_interface}
use Rattle.print_grammar.specs.Calls.{interface_outer_calls, members_calls}

-- an interface's documentation and gates, and a name
abbrev pub head_calls : Bool → Interface → Text → List OutputCall
head_calls emits_docs interface name = interface_outer_calls emits_docs (shown_docs interface.docs) (shown_gates interface.stability) name

-- the documentation and gates of the interface of this number, and a name
abbrev pub interface_head_calls : Bool → Resolve → InterfaceId → Text → List OutputCall
interface_head_calls emits_docs r id name = option_map_or (λ interface. head_calls emits_docs interface name) (interface_at r id.0) []

-- what an interface has, in a block of its own
abbrev pub interface_block_calls : Bool → Resolve → InterfaceId → Interface → List OutputCall
interface_block_calls emits_docs r id interface = members_calls emits_docs false (shown_interface r id interface)

-- what the interface of this number has, in a block of its own
abbrev pub interface_body_calls : Bool → Resolve → InterfaceId → List OutputCall
interface_body_calls emits_docs r id = option_map_or (λ interface. interface_block_calls emits_docs r id interface) (interface_at r id.0) []
