use Rattle.std.proofs.Common.{sym, ◌∙◌, None, Some, ◌-◌}
use Rattle.comp_bytes.specs.{Levels.held_at, Levels.entry_at, Reading.sequence_at}
use Rattle.read_follow.specs.Bodies.{held_declaration_at, items_in}
use Rattle.read_follow.proofs.{EntryLaws.held_front, FirstLaws.no_first, FirstLaws.one_less, Refusing.refused}
use Rattle.read_follow.proofs.bodies.entry_items.Goals as goal

pub entries_from-requires-clause-first : goal.entries_from-requires-clause-first
entries_from-requires-clause-first c = (
  c.in-Ok.ensures.whole,
  held_front c.args.bytes.now c.split_at.result.1.now (Some (items_in held_declaration_at c.in-Ok.held, c.in-Ok.others.now)) (sym c.starts_with.ensures.value ∙ c.if-starts_with.true)
      c.split_at.ensures.back c.in-Ok.ensures.found,
)

pub returns-in-Err-clause-found : goal.returns-in-Err-clause-found
returns-in-Err-clause-found c = refused c.in-Err.refusal (held_at c.split_at.result.1.now) (sequence_at entry_at c.args.count c.args.bytes.now)
    (λ none. no_first c.args.bytes.now c.args.count (c.args.count - 1) (one_less c.args.count c.if-count-gt0.true)
    (held_front c.args.bytes.now c.split_at.result.1.now None (sym c.starts_with.ensures.value ∙ c.if-starts_with.true) c.split_at.ensures.back none)) c.in-Err.ensures.found
