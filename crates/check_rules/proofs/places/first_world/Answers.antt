use Rattle.std.proofs.Common.{rules}
use Rattle.wit_model.specs.Valid.{places}
use Rattle.wit_model.proofs.Entries.{found_worlds}
use Rattle.check_rules.proofs.places.first_world.Goals as goal

pub returns : goal.returns
returns c = found_worlds places c.args.resolve.now c.deref.result.now c.deref.ensures.value c.first_failing.result (c.first_failing.ensures _ (λ n x b post. search rules))
