use Rattle.std.proofs.Common.{◌≡◌, drop}
use Rattle.wit_model.specs.Rules.{each_from, has_shape}
use Rattle.check_rules.proofs.shapes.misshapen.Given as goal

abbrev pub invariant-loop-number : goal.invariant-loop-number
invariant-loop-number l = each_from (λ n def. has_shape def.kind) l.number (drop l.number l.resolve.types.items) ≡ each_from (λ n def. has_shape def.kind) 0 l.resolve.types.items
