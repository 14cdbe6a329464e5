use Rattle.std.proofs.Common.{rules, ◌≤◌, length, not, ◌||◌, ◌&&◌, is_some}
use Rattle.wit_model.specs.{Valid.named_kinds, Rules.is_named_kind, Rules.is_named_number, Rules.passes, Uses.alias_target}
use Rattle.wit_model.proofs.Entries.{types_keep, each_to_end}
use Rattle.check_rules.proofs.shapes.misnamed_kind.Goals as goal

pub returns-clause-kept : goal.returns-clause-kept
unfolding named_kinds
returns-clause-kept c =
    let past : length c.args.resolve.now.types.items ≤ c.loop-number.number = search rules in
    types_keep (λ r n def. (not (is_named_kind def.kind) || is_some def.name) && passes (is_named_number r) (alias_target def.kind)) c.args.resolve.now
    (each_to_end _ c.args.resolve.now.types.items c.loop-number.number past c.loop-number.invariant)
