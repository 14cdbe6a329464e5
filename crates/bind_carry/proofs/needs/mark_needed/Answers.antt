use Rattle.std.proofs.Common.{rules, ◌≡◌, ◌∙◌, ◌<◌, length}
use Rattle.bind_carry.proofs.Needed.{needed_more}
use Rattle.bind_carry.proofs.needs.mark_needed.Goals as goal

pub back-preserved : goal.back-preserved
back-preserved c =
    let types = c.args.types.now in
    let fates = c.args.fates.now in
    let count : length c.back.marks ≡ length types = c.back.invariant.count ∙ c.requires.marks in
    let low : 0 < c.back.left = search rules in
    record {
      within = search rules;
      marks = c.mark_parts_of.ensures.marks
          ∙ needed_more types fates c.args.marks.now c.back.marks c.back.left c.index-types-left.result low c.back.invariant.within c.requires.fates count c.index-types-left.is c.back.invariant.marks;
      count = search rules;
    }
