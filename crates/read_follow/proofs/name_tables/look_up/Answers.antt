use Rattle.std.proofs.Common.{sym, ◌∙◌}
use Rattle.read_follow.proofs.name_tables.look_up.Goals as goal

pub returns-in-Some : goal.returns-in-Some
returns-in-Some c = c.copied.ensures ∙ (c.get-in-Some.ensures.value ∙ c.requires c.in-Some.slots.now (sym c.in-Some.ensures.value) c.args.name.now)
