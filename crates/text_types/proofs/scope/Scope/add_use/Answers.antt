use Rattle.std.proofs.Common.{None}
use Rattle.text_types.proofs.AddedLaws.{use_more}
use Rattle.text_types.proofs.scope.Scope.add_use.Goals as goal

pub loop-used-preserved : goal.loop-used-preserved
loop-used-preserved c =
    use_more c.args.prefix.now c.args.path c.args.names.now c.loop-used.used-index (record { other = record { start = 0; end = 0 }; own = None })
    c.loop-used.invariant c.in_ok-add.ensures.adds c.loop-used-test.true
