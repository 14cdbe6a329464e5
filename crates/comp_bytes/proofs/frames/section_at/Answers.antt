use Rattle.std.proofs.Common.{◌∙◌, ap, sym, arith}
use Rattle.comp_bytes.specs.Reading.{frame_at}
use Rattle.comp_bytes.proofs.{ComponentLaws.frame_law, Readers.read_err, FrameLaws.found_behind, FrameLaws.some_left}
use Rattle.comp_bytes.proofs.frames.section_at.Goals as goal

pub returns-in-Ok : goal.returns-in-Ok
returns-in-Ok c =
    let f = found_behind c.args.bytes.now c.split_at.result.1.now c.args.at c.in-Ok.section.start c.in-Ok.section.id c.in-Ok.section.contents.now c.in-Ok.behind.now c.requires c.split_at.ensures.back
    c.in-Ok.ensures.found c.in-Ok.ensures.start in
    record { within = omega (arith, f.fits); spelled = f.spelled; ends = f.starts; part = f.part }

pub returns-in-Err : goal.returns-in-Err
returns-in-Err c = (
  some_left c.args.bytes.now c.split_at.result.1.now c.args.at c.split_at.ensures.back c.if-is_empty.ensures,
  read_err frame_law c.args.bytes.now c.args.at (ap frame_at (sym c.split_at.ensures.back) ∙ c.in-Err.ensures.found),
)
