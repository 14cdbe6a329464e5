-- The types of an interface, as they are handed in to be printed.
use Rattle.std.proofs.Common.{rules as std_rules, ◌≡◌, subst, true, false, List, [], Some}
use Rattle.std.specs.List.{Contains, list_all}
use Rattle.wit_model.specs.declared.model.{Interface.Interface, InterfaceId.InterfaceId, Resolve.Resolve}
use Rattle.print_output.specs.OutputCall.{OutputView}
use Rattle.wit_component.specs.{Lookup.interface_at, Render.Written, Render.writes, Valid.IsValid}
use Rattle.wit_component.specs.{Given.TypesCanBeGiven, Printer.GivenTypes, Printer.Prints, Printer.PrintsTypes, Printer.block_has_printed, Printer.emits_docs}
use Rattle.wit_component.specs.{GivenTypes.Functions, GivenTypes.given_members, Shown.Listed, Shown.listed_types, UseGroups.is_listed_type, UseGroups.listed_of}
use Rattle.wit_print.specs.declared.printer.WitPrinter.{WitPrinter}
use Rattle.callers.specs.Printed.{calls_of_types}
use Rattle.wit_model.specs.declared.model.TypeOwner.TheVariants as owner

pub can-be-given : TypesCanBeGiven → (r : Resolve) (id : InterfaceId) (i : Interface) → IsValid r → interface_at r id.0 ≡ Some i → (xs : GivenTypes) → listed_of xs ≡ listed_types i
    → list_all (is_listed_type r (owner.Interface id)) (listed_of xs) ≡ true
can-be-given law r id i valid there xs same = law r id i valid there (listed_of xs) (λ t h. subst (λ (l : List Listed). Contains l t) same h)

-- what is printed where that is all that is handed in
pub all-printed : (r : Resolve) (id : InterfaceId) (i : Interface) (p p' : WitPrinter (OutputView Written)) (given : GivenTypes → Type 0) (entries : Functions)
    → ((xs : GivenTypes) → given xs → listed_of xs ≡ listed_types i) → entries ≡ [] → emits_docs p ≡ true → block_has_printed p ≡ false
    → PrintsTypes writes (λ it. it) p given (given_members r (owner.Interface id) entries) p' → Prints writes (λ it. it) p (calls_of_types r id i) p'
all-printed r id i p p' given entries are none docs first h = search std_rules
