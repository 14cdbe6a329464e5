use Rattle.std.proofs.Common.{map}
use Rattle.read_rules.specs.Tables.{now_of}
use Rattle.read_rules.proofs.ResourceLaws.{resource_turn, resources_end}
use Rattle.read_rules.proofs.resources.resources_of.Goals as goal

pub loop-ty-preserved : goal.loop-ty-preserved
loop-ty-preserved c = λ test. resource_turn test c.args.types.now c.loop-ty.ty-index _ c.loop-ty-test.true (map now_of c.loop-ty.resources.keys) (map now_of c.add_resource.new.resources.keys)
    c.is_resource.result c.is_resource.ensures (c.in_ok-add_resource.ensures test) (c.loop-ty.invariant test)

pub returns : goal.returns
returns c = λ test. resources_end test c.args.types.now c.loop-ty.ty-index (map now_of c.loop-ty.resources.keys) c.loop-ty-test.false (c.loop-ty.invariant test)
