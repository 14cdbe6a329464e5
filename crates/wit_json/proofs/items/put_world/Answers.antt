use Rattle.wit_json.specs.Listed.{world_tokens}
use Rattle.wit_json.proofs.Ending.{adds3_then}
use Rattle.wit_json.proofs.items.put_world.Goals as goal

pub returns : goal.returns
unfolding world_tokens
returns c = adds3_then _ c.in_ok-begin_world.ensures c.in_ok-put_entries.ensures c.in_ok-put_entries-2.ensures c.end_object.ensures (cc)
