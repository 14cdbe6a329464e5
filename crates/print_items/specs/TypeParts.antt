-- The calls for a kind without a name of its own, in three parts: before its types, its types with commas between, and behind them.
use Rattle.std.specs.Prelude.{Bool, false, true, List, [], ◌∷◌, ◌++◌, ◌&&◌, not, ℕ, zero, suc, Option, Some, None, codes, option_to_list}
use Rattle.std.specs.{Option.option_map_or, Fmt.decimal}
use Rattle.wit_model.specs.declared.model.{Resolve.Resolve, TypeDefKind.TypeDefKind, TypeId.TypeId, Handle.Handle as HandleKind, «Type».«Type» as ValueType}
use Rattle.wit_model.specs.{Text.Text, Names.is_label, Parts.handled, Rules.in_list, Rules.passes, Rules.is_named_kind, Lookup.type_at}
use Rattle.print_output.specs.OutputCall.{OutputCall}
use Rattle.print_output.specs.OutputCall.OutputCall.{PushStr, Ty, GenericArgsStart, GenericArgsEnd, Str}
use Rattle.print_grammar.specs.{Tree.TypeTree, Calls.name_calls, Calls.handle_calls, Calls.type_calls}
use Rattle.print_items.specs.Shown.{kind_tree, type_name, type_trees, used_type}
use Rattle.wit_model.specs.declared.model.TypeDefKind.TheVariants as defined
use Rattle.wit_model.specs.declared.model.Handle.TheVariants as handle
use Rattle.wit_model.specs.declared.model.«Type».TheVariants as value
use Rattle.print_output.specs.declared.type_kind.TypeKind.TheVariants as kind

-- a word and the start of what stands in angle brackets
abbrev pub word_start : Text → List OutputCall
word_start word = Ty word kind.BuiltIn ∷ GenericArgsStart ∷ []

abbrev pub handle_start : Resolve → HandleKind → List OutputCall
handle_start r (handle.Own id) = name_calls (type_name r id) kind.Resource
handle_start r (handle.Borrow id) = handle_calls (codes "borrow") (type_name r id)

abbrev pub result_start : Option ValueType → Option ValueType → List OutputCall
result_start None None = Ty (codes "result") kind.BuiltIn ∷ []
result_start None (Some err) = Ty (codes "result") kind.BuiltIn ∷ GenericArgsStart ∷ Str (codes "_, ") ∷ []
result_start (Some ok) err = word_start (codes "result")

-- a word alone, or with what stands before a payload
abbrev pub carrier_start : Text → Text → Option ValueType → List OutputCall
carrier_start alone with None = PushStr alone ∷ []
carrier_start alone with (Some payload) = PushStr with ∷ []

abbrev pub kind_start : Resolve → TypeDefKind → List OutputCall
kind_start r (defined.Handle h) = handle_start r h
kind_start r (defined.Tuple tuple) = word_start (codes "tuple")
kind_start r (defined.Option ty) = word_start (codes "option")
kind_start r (defined.Result result) = result_start result.ok result.err
kind_start r (defined.List ty) = word_start (codes "list")
kind_start r (defined.Map k v) = word_start (codes "map")
kind_start r (defined.FixedLengthList ty length) = word_start (codes "list")
kind_start r (defined.Future ty) = carrier_start (codes "future") (codes "future<") ty
kind_start r (defined.Stream ty) = carrier_start (codes "stream") (codes "stream<") ty
kind_start r k = []

abbrev pub result_end : Option ValueType → Option ValueType → List OutputCall
result_end None None = []
result_end None (Some err) = GenericArgsEnd ∷ []
result_end (Some ok) err = GenericArgsEnd ∷ []

abbrev pub carrier_end : Option ValueType → List OutputCall
carrier_end None = []
carrier_end (Some payload) = PushStr (codes ">") ∷ []

abbrev pub kind_end : TypeDefKind → List OutputCall
kind_end (defined.Tuple tuple) = GenericArgsEnd ∷ []
kind_end (defined.Option ty) = GenericArgsEnd ∷ []
kind_end (defined.Result result) = result_end result.ok result.err
kind_end (defined.List ty) = GenericArgsEnd ∷ []
kind_end (defined.Map k v) = GenericArgsEnd ∷ []
kind_end (defined.FixedLengthList ty length) = PushStr (codes ", " ++ decimal length) ∷ GenericArgsEnd ∷ []
kind_end (defined.Future ty) = carrier_end ty
kind_end (defined.Stream ty) = carrier_end ty
kind_end k = []

-- a comma before each type but the first
abbrev pub comma_calls : ℕ → List OutputCall
comma_calls zero = []
comma_calls (suc n) = Str (codes ", ") ∷ []

-- the types of a kind that has two at most
abbrev pub few_types : TypeDefKind → List ValueType
few_types (defined.Option ty) = ty ∷ []
few_types (defined.Result result) = option_to_list result.ok ++ option_to_list result.err
few_types (defined.List ty) = ty ∷ []
few_types (defined.Map k v) = k ∷ v ∷ []
few_types (defined.FixedLengthList ty length) = ty ∷ []
few_types (defined.Future ty) = option_to_list ty
few_types (defined.Stream ty) = option_to_list ty
few_types k = []

-- the types from this number on, by the trees of the type numbers
abbrev pub types_from : List TypeTree → ℕ → List ValueType → List OutputCall
types_from trees n [] = []
types_from trees n (ty ∷ types) = comma_calls n ++ (type_calls (used_type trees ty) ++ types_from trees (suc n) types)

-- a type number whose name is a label
abbrev pub is_labelled : Resolve → ℕ → Bool
is_labelled r n = in_list r.types.items n && is_label (type_name r (record { 0 = n }))

-- a handle is of such a number
abbrev pub handles_label : Resolve → TypeDefKind → Bool
handles_label r k = passes (is_labelled r) (handled k)

-- a type number whose kind needs no name
abbrev pub may_be_unnamed : Resolve → TypeId → Bool
may_be_unnamed r id = option_map_or (λ def. not (is_named_kind def.kind)) (type_at r id.0) false

-- the calls for the kind of a type number, without its name
abbrev pub kind_calls : Resolve → TypeId → List OutputCall
kind_calls r id = option_map_or (λ def. type_calls (kind_tree r (type_trees r) def.kind)) (type_at r id.0) []

-- whether a type has a word of its own
abbrev pub is_primitive : ValueType → Bool
is_primitive (value.Id id) = false
is_primitive ty = true
