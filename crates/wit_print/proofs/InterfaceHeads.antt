-- What stands before the block of an interface of a valid `Resolve`.
use Rattle.std.proofs.Common.{arith, ◌≡◌, sym, ap, ℕ, Bool, true, Some, []}
use Rattle.std.specs.Option.{option_map_or}
use Rattle.wit_model.specs.declared.model.{Resolve.Resolve, Interface.Interface, InterfaceId.InterfaceId}
use Rattle.wit_model.specs.{Lookup.interface_at, Rules.is_stability, Text.Text, Valid.IsValid, Valid.labels}
use Rattle.wit_model.proofs.Entries.{each_from_at, lists_pass}
use Rattle.print_packages.specs.Heads.{head_calls, interface_head_calls}
use Rattle.base_lemmas.proofs.Bools.{left_of as first_true, right_of as second_true}

-- its gates have labels and versions
pub interface_gates : (r : Resolve) (n : ℕ) (i : Interface) → IsValid r → interface_at r n ≡ Some i → is_stability i.stability ≡ true
unfolding labels
interface_gates r n i v e = grind (arith, each_from_at, lists_pass, first_true, second_true)

pub head_at : (emits_docs : Bool) (r : Resolve) (id : InterfaceId) (i : Interface) (name : Text) → interface_at r id.0 ≡ Some i
    → head_calls emits_docs i name ≡ interface_head_calls emits_docs r id name
head_at emits_docs r id i name e = sym (ap (λ o. option_map_or (λ interface. head_calls emits_docs interface name) o []) e)
