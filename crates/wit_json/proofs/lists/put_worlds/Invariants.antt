-- Those so far are written.
use Rattle.std.proofs.Common.{drop}
use Rattle.wit_json.specs.Listed.{world_tokens}
use Rattle.wit_json.proofs.Adding.{Lists}
use Rattle.wit_json.proofs.lists.put_worlds.Given as goal

abbrev pub invariant-loop-world : goal.invariant-loop-world
invariant-loop-world l = Lists (world_tokens l.resolve) l.worlds (drop l.world-index l.worlds) l.initial.w l.w
