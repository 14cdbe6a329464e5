use Rattle.std.proofs.Common.{◌≡◌, not}
use Rattle.std.specs.List.{find}
use Rattle.wit_model.specs.{Text.text_of, Text.text_eq, Checks.has_name}
use Rattle.check_rules.proofs.listings.misnamed_in_interface.Given as goal

abbrev pub invariant-loop-key : goal.invariant-loop-key
invariant-loop-key l = find (λ e. not (has_name l.resolve (λ name. text_eq name (text_of e.0)) e.1.0)) l.key-iterator
    ≡ find (λ e. not (has_name l.resolve (λ name. text_eq name (text_of e.0)) e.1.0)) l.interface.types.entries
