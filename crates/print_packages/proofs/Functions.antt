-- The functions of an interface, one after the other.
use Rattle.std.proofs.Common.{rules as std_rules, ◌≡◌, sym, ◌∙◌, Bool, true, ◌||◌, not, List, [], ◌∷◌, ◌++◌, Some}
use Rattle.std.proofs.lemmas.List.Folds.{list_all-map}
use Rattle.std.specs.{Prelude.String, List.list_all}
use Rattle.std.specs.declared.alloc.Global.{Global}
use Rattle.wit_model.specs.declared.model.{Resolve.Resolve, Function.Function, Interface.Interface, InterfaceId.InterfaceId}
use Rattle.wit_model.specs.{Lookup.interface_at, Rules.is_freestanding, Text.text_of, Valid.IsValid}
use Rattle.print_grammar.specs.{Tree.MemberTree, Calls.members_calls, Calls.prefix_calls, Calls.line_after_calls, WellNamed.is_well_member}
use Rattle.print_items.specs.{Shown.function_prefix, Shown.listed_functions, Shown.shown_function, Shown.shown_signature, ItemCalls.named_calls}
use Rattle.print_uses.specs.Printable.{is_printable_function, shown_functions}
use Rattle.print_output.specs.declared.type_kind.TypeKind.TheVariants.{FunctionFreestanding}
use Rattle.print_uses.proofs.{Valid.is_known_function, Valid.function_well, Valid.interface_functions}
use Rattle.base_lemmas.proofs.Elements.{all_weaker as weaker_all}
use Rattle.wit_model.specs.declared.model.TypeOwner.TheVariants as owner

-- one function in its block
pub function_alone : (emits printed : Bool) (r : Resolve) (f : Function)
    → line_after_calls printed ++ (prefix_calls emits (function_prefix f) ++ named_calls (text_of f.name) FunctionFreestanding (shown_signature r f)) ≡ members_calls emits printed
    (shown_function r f ∷ [])
function_alone emits x r f = search std_rules

-- one function and then others
one_and_more : (emits printed : Bool) (r : Resolve) (f : Function) (ms : List MemberTree)
    → members_calls emits printed (shown_function r f ∷ ms) ≡ members_calls emits printed (shown_function r f ∷ []) ++ members_calls emits true ms
one_and_more emits y r f ms = search std_rules

module _ (emits printed : Bool) (r : Resolve) (e : String Global × Function) (es : List (String Global × Function)) where
  -- a freestanding function is next
  pub next_shown : is_freestanding e.1.kind ≡ true
      → members_calls emits printed (shown_functions r (e ∷ es)) ≡ members_calls emits printed (shown_function r e.1 ∷ []) ++ members_calls emits true (shown_functions r es)
  next_shown h = rw h (one_and_more emits printed r e.1 (shown_functions r es))

pub printable_member : (r : Resolve) (f : Function) → is_printable_function r f ≡ true → is_freestanding f.kind ≡ true → is_well_member (shown_function r f) ≡ true
printable_member r f h free = search std_rules

-- ---- interfaces of a valid `Resolve`

implied_by : (a b : Bool) → (a ≡ true → b ≡ true) → (not a || b) ≡ true
implied_by x b f = search std_rules

pub functions_printable : (r : Resolve) (id : InterfaceId) (i : Interface) → IsValid r → interface_at r id.0 ≡ Some i → list_all (λ e. is_printable_function r e.1) i.functions.entries ≡ true
functions_printable r id i valid at = sym (list_all-map (is_printable_function r) (λ e. e.1) i.functions.entries)
    ∙ weaker_all (is_known_function r (owner.Interface id)) (is_printable_function r)
    (λ f known. implied_by (is_freestanding f.kind) (is_well_member (shown_function r f)) (λ free. function_well r valid (owner.Interface id) f known free))
    (listed_functions i) (interface_functions r valid id.0 i at)
