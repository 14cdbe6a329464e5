use Rattle.std.proofs.Common.{false, sym, ◌∙◌}
use Rattle.read_exports.specs.Members.{homes_in}
use Rattle.read_rules.specs.Tables.{known_in, numbered_tables}
use Rattle.comp_read.proofs.WorldReadLaws.{alone_by}
use Rattle.comp_read.proofs.worlds.one_world.Goals as goal

pub returns-then-branch : goal.returns-then-branch
returns-then-branch c = λ packages. record { one = c.in-Some.ensures; is = c.in-World.is; obeys = sym (c.in_ok-is_one_world.ensures packages) ∙ c.if-branch.true }

pub returns-else-branch : goal.returns-else-branch
returns-else-branch c = λ packages. alone_by (numbered_tables c.args.tables.now) (homes_in packages c.args.homes.now) (known_in c.args.tables.now) c.args.members.now c.in-Some.member c.in-Some.ensures
    c.in-World.scope c.in-World.is false (sym (c.in_ok-is_one_world.ensures packages) ∙ c.if-branch.false)
