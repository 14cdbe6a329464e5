use Rattle.std.proofs.Common.{refl, sym, ap, ◌∙◌}
use Rattle.comp_bytes.specs.{Levels.held_at, Levels.holds, Levels.plain, Reading.declaration_at}
use Rattle.read_follow.specs.Bodies.{behind}
use Rattle.read_follow.proofs.{EntryLaws.held_front, EntryLaws.plain_front, SkipLaws.behind_as}
use Rattle.read_follow.proofs.bodies.skip_entry.Goals as goal

pub returns-then-starts_with : goal.returns-then-starts_with
returns-then-starts_with c =
    let found = held_at c.split_at.result.1.now in
    rw (ap behind (held_front c.args.bytes.now c.split_at.result.1.now found (sym c.starts_with.ensures.value ∙ c.if-starts_with.true) c.split_at.ensures.back refl) ∙ behind_as holds found)
    c.skip_instance.ensures

pub returns-else-starts_with : goal.returns-else-starts_with
returns-else-starts_with c =
    let found = declaration_at c.args.bytes.now in
    rw (ap behind (plain_front c.args.bytes.now found (sym c.starts_with.ensures.value ∙ c.if-starts_with.false) refl) ∙ behind_as plain found) c.skip_declaration.ensures
