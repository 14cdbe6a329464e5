use Rattle.std.proofs.Common.{◌≡◌, drop, not, ◌||◌, ◌&&◌, is_some}
use Rattle.wit_model.specs.{Rules.each_from, Rules.is_named_kind, Rules.is_named_number, Rules.passes, Uses.alias_target}
use Rattle.check_rules.proofs.shapes.misnamed_kind.Given as goal

abbrev pub invariant-loop-number : goal.invariant-loop-number
invariant-loop-number l =
    each_from (λ n def. (not (is_named_kind def.kind) || is_some def.name) && passes (is_named_number l.resolve) (alias_target def.kind)) l.number (drop l.number l.resolve.types.items)
    ≡ each_from (λ n def. (not (is_named_kind def.kind) || is_some def.name) && passes (is_named_number l.resolve) (alias_target def.kind)) 0 l.resolve.types.items
