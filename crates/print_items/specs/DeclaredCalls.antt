-- The calls for parts of declared types that are printed by themselves.
use Rattle.std.specs.Prelude.{Bool, true, false, List, [], ◌∷◌, ◌++◌, ℕ, Option, None, Some, codes}
use Rattle.std.specs.Fmt.{decimal}
use Rattle.wit_model.specs.Text.{Text}
use Rattle.print_grammar.specs.{Keyword.escaped, Calls.params_calls, Calls.signature_calls, Calls.space, Calls.type_calls}
use Rattle.print_grammar.specs.Tree.{TypeTree, SignatureTree, ParamTree, ResourceMember}
use Rattle.print_grammar.specs.Tree.{TypeTree.PrimitiveType, TypeTree.Name, ResourceMember.Constructor, ResourceMember.Method, ResourceMember.Static}
use Rattle.print_output.specs.OutputCall.{OutputCall}
use Rattle.print_output.specs.OutputCall.OutputCall.{IndentStart, Newline, Keyword, Ty, Semicolon, Str}
use Rattle.print_items.specs.ItemCalls.{named_calls}
use Rattle.print_output.specs.declared.type_kind.TypeKind.{TypeKind}
use Rattle.print_output.specs.declared.type_kind.TypeKind.TheVariants as kind

-- a word, a name and the start of a block
abbrev pub block_start_calls : Text → Text → TypeKind → List OutputCall
block_start_calls word name of_kind = Keyword word ∷ space ∷ Ty (escaped name) of_kind ∷ IndentStart ∷ []

-- the end of a member's line
abbrev pub line_end_calls : List OutputCall
line_end_calls = Str (codes ",") ∷ Newline ∷ []

-- ---- what `type` declares

-- a word and a bracket
abbrev pub angle_calls : Text → List OutputCall
angle_calls word = Ty word kind.BuiltIn ∷ Str (codes "<") ∷ []

-- a type in such brackets
abbrev pub angled_calls : Text → TypeTree → List OutputCall
angled_calls word ty = Ty word kind.BuiltIn ∷ Str (codes "<") ∷ (type_calls ty ++ (Str (codes ">") ∷ []))

-- a word alone, or with a payload
abbrev pub carrier_calls : Text → Option TypeTree → List OutputCall
carrier_calls word None = Ty word kind.BuiltIn ∷ []
carrier_calls word (Some ty) = angled_calls word ty

-- a type and a length in such brackets
abbrev pub fixed_list_calls : TypeTree → ℕ → List OutputCall
fixed_list_calls ty length = Ty (codes "list") kind.BuiltIn ∷ Str (codes "<") ∷ (type_calls ty ++ (Str (codes ", " ++ decimal length) ∷ Str (codes ">") ∷ []))

-- two types, with a comma between
abbrev pub two_calls : TypeTree → TypeTree → List OutputCall
two_calls first second = type_calls first ++ (Str (codes ", ") ∷ type_calls second)

-- two types in such brackets
abbrev pub map_calls : TypeTree → TypeTree → List OutputCall
map_calls key value = Ty (codes "map") kind.BuiltIn ∷ Str (codes "<") ∷ (type_calls key ++ (Str (codes ", ") ∷ (type_calls value ++ (Str (codes ">") ∷ []))))

-- a type that is a word alone
abbrev pub is_word : TypeTree → Bool
is_word (PrimitiveType p) = true
is_word (Name name) = true
is_word ty = false

-- a name for a type, up to the sign
abbrev pub alias_start_calls : Text → TypeKind → List OutputCall
alias_start_calls name of_kind = Keyword (codes "type") ∷ space ∷ Ty (escaped name) of_kind ∷ Str (codes " = ") ∷ []

-- a name for what stands behind the sign
abbrev pub alias_calls : Text → TypeKind → List OutputCall → List OutputCall
alias_calls name of_kind body = Keyword (codes "type") ∷ space ∷ Ty (escaped name) of_kind ∷ Str (codes " = ") ∷ (body ++ (Semicolon ∷ []))

-- ---- resources

-- a resource's word and name
abbrev pub resource_name_calls : Text → List OutputCall
resource_name_calls name = Ty (codes "resource") kind.BuiltIn ∷ space ∷ Ty (escaped name) kind.Resource ∷ []

abbrev pub static_start_calls : Text → List OutputCall
static_start_calls name = Ty (escaped name) kind.FunctionStatic ∷ Str (codes ": ") ∷ Keyword (codes "static") ∷ space ∷ []

abbrev pub static_calls : Text → SignatureTree → List OutputCall
static_calls name signature = Ty (escaped name) kind.FunctionStatic ∷ Str (codes ": ") ∷ Keyword (codes "static") ∷ space
    ∷ (signature_calls signature ++ (Semicolon ∷ []))

abbrev pub constructor_calls : List ParamTree → Option TypeTree → List OutputCall
constructor_calls params result = Keyword (codes "constructor") ∷ (params_calls params result ++ (Semicolon ∷ []))

-- a function of a resource, without what stands in front of it
abbrev pub bare_member_calls : ResourceMember → List OutputCall
bare_member_calls (Constructor prefix params result) = constructor_calls params result
bare_member_calls (Method prefix name signature) = named_calls name kind.FunctionMethod signature
bare_member_calls (Static prefix name signature) = static_calls name signature
