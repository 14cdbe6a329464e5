use Rattle.std.proofs.Common.{sym, refl}
use Rattle.comp_bytes.specs.Levels.{pieces_in}
use Rattle.read_follow.proofs.SectionLaws.{other_preamble, too_long, behind_preamble}
use Rattle.read_follow.proofs.sections.component_of.Goals as goal

pub returns-then-not-starts_with-clause-found : goal.returns-then-not-starts_with-clause-found
returns-then-not-starts_with-clause-found c = other_preamble c.args.bytes.now (sym c.if-not-starts_with.ensures.value)

pub returns-then-bytes-clause-found : goal.returns-then-bytes-clause-found
returns-then-bytes-clause-found c = too_long c.args.bytes.now (sym c.if-not-starts_with.ensures.value) c.if-bytes.true

pub returns-clause-found : goal.returns-clause-found
returns-clause-found c = rw (behind_preamble c.args.bytes.now c.split_at.result.1.now (pieces_in c.split_at.result.1.now) (sym c.if-not-starts_with.ensures.value) c.if-bytes.false
    c.split_at.ensures.back refl) c.pieces_of.ensures.found
