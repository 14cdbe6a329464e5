use Rattle.std.proofs.Common.{rules, ◌≤◌, length}
use Rattle.wit_model.specs.{Valid.shapes, Rules.has_shape}
use Rattle.wit_model.proofs.Entries.{types_keep, each_to_end}
use Rattle.check_rules.proofs.shapes.misshapen.Goals as goal

pub returns-clause-kept : goal.returns-clause-kept
unfolding shapes
returns-clause-kept c =
    let past : length c.args.resolve.now.types.items ≤ c.loop-number.number = search rules in
    types_keep (λ r n def. has_shape def.kind) c.args.resolve.now (each_to_end _ c.args.resolve.now.types.items c.loop-number.number past c.loop-number.invariant)
