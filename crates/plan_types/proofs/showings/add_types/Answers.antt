use Rattle.std.proofs.Common.{map, refl}
use Rattle.read_rules.specs.Views.{numbered_type}
use Rattle.plan_types.specs.Showings.{numbered_showing, showing_of}
use Rattle.read_exports.proofs.WalkLaws.{all_mapped, one_mapped}
use Rattle.plan_types.proofs.showings.add_types.Goals as goal

pub loop-ty-preserved : goal.loop-ty-preserved
loop-ty-preserved c = one_mapped numbered_type showing_of c.args.types.now c.loop-ty.ty-index (map numbered_showing c.loop-ty.all.items) c.loop-ty.invariant _ c.loop-ty-test.true numbered_showing
    c.loop-ty.all.items _ c.push.new.self.items refl c.shown_type.ensures c.in_ok-push.ensures.items

pub returns : goal.returns
returns c = all_mapped numbered_type showing_of c.args.types.now c.loop-ty.ty-index (map numbered_showing c.loop-ty.all.items) c.loop-ty.invariant c.loop-ty-test.false
