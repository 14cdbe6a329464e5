use Rattle.std.proofs.{Common.rules, Math.Seq.take_all}
use Rattle.encode_types.specs.Key.{param_writes}
use Rattle.encode_types.proofs.KeySteps.{each_more}
use Rattle.encode_types.proofs.key.hash_params.Goals as goal

pub loop-i-preserved : goal.loop-i-preserved
loop-i-preserved g c = search (rules, each_more g.H.Hasher.write param_writes c.write_usize.new.self c.args.params.now c.loop-i.i c.index-params-i.result c.loop-i-test.true c.index-params-i.is)

pub returns : goal.returns
returns g c = search (rules, take_all)
