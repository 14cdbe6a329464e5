use Rattle.comp_bytes.proofs.PartLaws.{name_law}
use Rattle.read_follow.proofs.FrontReaders.{because_of_bytes, found_at, refused_at}
use Rattle.std.proofs.Common.{◌∙◌, ap, sym, Some}
use Rattle.read_follow.proofs.front.name_of.Goals as goal

pub returns-in-Ok : goal.returns-in-Ok
returns-in-Ok c = found_at name_law c.args.bytes.now c.in-Ok.text.now c.in-Ok.end c.in-Ok.ensures.2 ∙ ap (λ rest. Some (c.in-Ok.text.now, rest)) (sym c.split_at.ensures.back)

pub returns-in-Err : goal.returns-in-Err
returns-in-Err c = rw c.refusal_of.ensures (refused_at name_law c.args.bytes.now _ c.in-Err.error c.in-Err.ensures)

pub refusal_of-requires : goal.refusal_of-requires
refusal_of-requires c = because_of_bytes c.in-Err.error _ _ c.in-Err.ensures
