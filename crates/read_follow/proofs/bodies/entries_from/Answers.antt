use Rattle.std.proofs.Common.{◌∙◌, ap, sym, List, Some, ℕ, ◌-◌}
use Rattle.comp_bytes.specs.{Levels.entry_at, Levels.holds, Reading.sequence_at}
use Rattle.comp_bytes.proofs.LevelLaws.{entry_law}
use Rattle.read_follow.specs.Bodies.{behind, held_declaration_at, items_in}
use Rattle.read_follow.proofs.{BodyLaws.shorter, BodyLaws.is_body, BodyLaws.body_found, BodyLaws.none_found, Refusing.refused}
use Rattle.read_follow.proofs.FirstLaws.{all_passed, one_less, still_first}
use Rattle.read_follow.proofs.bodies.entries_from.Goals as goal

pub cut-body-requires : goal.cut-body-requires
cut-body-requires c =
    let e = holds (items_in held_declaration_at c.args.held) in
    let passed = all_passed c.args.bytes.now (c.args.count - 1) e c.args.others.now c.requires.first.1 c.args.count (one_less c.args.count c.requires.some) ∙ c.in-Ok.ensures in
    shorter entry_law c.args.count c.args.bytes.now c.in-Ok.rest.now passed

pub cut-requires : goal.cut-requires
cut-requires c = shorter entry_law (c.args.count - 1) c.args.others.now c.in-Ok.rest.now c.in-Ok.ensures

pub returns-in-Ok-clause-whole : goal.returns-in-Ok-clause-whole
returns-in-Ok-clause-whole c =
    let e = holds (items_in held_declaration_at c.args.held) in
    let passed = all_passed c.args.bytes.now (c.args.count - 1) e c.args.others.now c.requires.first.1 c.args.count (one_less c.args.count c.requires.some) ∙ c.in-Ok.ensures in
    record {
      whole = is_body entry_law c.args.count c.args.bytes.now c.in-Ok.rest.now passed c.cut-body.result c.cut-body.ensures.count c.cut-body.ensures.bytes;
      first = (
        c.requires.first.0,
        ap entry_at c.cut-body.ensures.bytes ∙ (still_first c.args.bytes.now (c.args.count - 1) e c.args.others.now c.requires.first.1 c.in-Ok.rest.now c.in-Ok.ensures
            ∙ ap (λ (ys : List ℕ). Some (e, ys)) (sym c.cut.ensures.bytes)),
      );
    }

pub returns-in-Ok-clause-found : goal.returns-in-Ok-clause-found
returns-in-Ok-clause-found c =
    let e = holds (items_in held_declaration_at c.args.held) in
    let passed = all_passed c.args.bytes.now (c.args.count - 1) e c.args.others.now c.requires.first.1 c.args.count (one_less c.args.count c.requires.some) ∙ c.in-Ok.ensures in
    body_found entry_law c.args.count c.args.bytes.now c.in-Ok.rest.now passed c.cut-body.result c.cut-body.ensures.count c.cut-body.ensures.bytes

pub returns-in-Err-clause-found : goal.returns-in-Err-clause-found
returns-in-Err-clause-found c =
    let e = holds (items_in held_declaration_at c.args.held) in
    let same = all_passed c.args.bytes.now (c.args.count - 1) e c.args.others.now c.requires.first.1 c.args.count (one_less c.args.count c.requires.some) in
    refused c.in-Err.refusal (behind (sequence_at entry_at (c.args.count - 1) c.args.others.now)) (sequence_at entry_at c.args.count c.args.bytes.now)
    (λ none. none_found (sequence_at entry_at c.args.count c.args.bytes.now) (same ∙ none)) c.in-Err.ensures
