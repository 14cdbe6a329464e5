use Rattle.std.proofs.Common.{◌≡◌, not}
use Rattle.std.specs.List.{find}
use Rattle.wit_model.specs.{Rules.passes, Rules.item_type, Checks.has_name, Checks.key_fits}
use Rattle.check_rules.proofs.listings.misnamed_in_world.Given as goal

abbrev pub invariant-loop-key : goal.invariant-loop-key
invariant-loop-key l = find (λ e. not (passes (has_name l.resolve (key_fits e.0)) (item_type e.1))) l.key-iterator
    ≡ find (λ e. not (passes (has_name l.resolve (key_fits e.0)) (item_type e.1))) l.world.imports.entries
