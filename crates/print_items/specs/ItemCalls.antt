-- The calls for parts of items that are printed by themselves.
use Rattle.std.specs.Prelude.{Bool, false, List, ◌∷◌, ◌++◌, [], codes, drop, is_some, if◌then◌else◌}
use Rattle.std.specs.Option.{option_map_or}
use Rattle.wit_model.specs.declared.model.{Resolve.Resolve, InterfaceId.InterfaceId, PackageId.PackageId, Function.Function, Param.Param}
use Rattle.wit_model.specs.{Lookup.interface_at, Text.Text}
use Rattle.print_grammar.specs.{Keyword.escaped, Tree.ExternTree, Tree.Prefix, Tree.SignatureTree}
use Rattle.print_grammar.specs.{Tree.ExternTree.NamedInterface, Tree.ExternTree.NamedPath, Calls.prefix_calls, Calls.signature_calls, Calls.space}
use Rattle.print_output.specs.OutputCall.{OutputCall}
use Rattle.print_output.specs.OutputCall.OutputCall.{IndentStart, Keyword, Newline, Ty, Semicolon, Str}
use Rattle.print_items.specs.Shown.{is_method, shown_interface, shown_path}
use Rattle.print_output.specs.declared.type_kind.TypeKind.{TypeKind}
use Rattle.print_output.specs.declared.type_kind.TypeKind.TheVariants as kind

-- a function under a name
abbrev pub named_calls : Text → TypeKind → SignatureTree → List OutputCall
named_calls name of_kind signature = Ty (escaped name) of_kind ∷ Str (codes ": ") ∷ (signature_calls signature ++ (Semicolon ∷ []))

-- the parameters of a function that are written
abbrev pub written_params : Function → List Param
written_params f = if is_method f.kind then drop 1 f.params.items else f.params.items

-- what stands in front of an import or an export, and its word
abbrev pub front_calls : Bool → Prefix → Text → List OutputCall
front_calls emits_docs prefix word = prefix_calls emits_docs prefix ++ (Keyword word ∷ space ∷ [])

-- the start of an interface that has no name, under a label
abbrev pub inline_start_calls : Text → List OutputCall
inline_start_calls label = Ty (escaped label) kind.Other ∷ Str (codes ": ") ∷ Keyword (codes "interface") ∷ IndentStart ∷ []

-- what an interface under a label is: its path, or what it has where it has no name
abbrev pub labelled_tree : Resolve → PackageId → Text → InterfaceId → ExternTree
labelled_tree r here label id =
    if option_map_or (λ i. is_some i.name) (interface_at r id.0) false
    then NamedPath label (shown_path r here id)
    else NamedInterface label (option_map_or (shown_interface r id) (interface_at r id.0) [])

-- the feature under which an item is unstable, in a line of its own
abbrev pub feature_calls : Text → List OutputCall
feature_calls feature =
    Keyword (codes "@unstable") ∷ Str (codes "(") ∷ Keyword (codes "feature") ∷ Str (codes " = ") ∷ Str (escaped feature) ∷ Str (codes ")") ∷ Newline ∷ []
