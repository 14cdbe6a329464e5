use Rattle.comp_bytes.specs.Levels.{levels_of}
use Rattle.comp_read.proofs.ReadLaws.{no_levels}
use Rattle.comp_read.proofs.decoding.wanted_in.Goals as goal

pub returns-in-Err-clause-absent : goal.returns-in-Err-clause-absent
returns-in-Err-clause-absent c = no_levels c.args.wanted (levels_of c.args.bytes.now) c.in-Err.refusal c.in-Err.ensures.found
