use Rattle.std.proofs.Common.{sym, ◌∙◌}
use Rattle.read_exports.specs.Members.{homes_in}
use Rattle.read_rules.specs.Tables.{known_in, numbered_tables}
use Rattle.comp_read.proofs.ReadLaws.{of_first}
use Rattle.comp_read.proofs.packages.main_of.Goals as goal

pub returns-then-branch : goal.returns-then-branch
returns-then-branch c = λ packages. sym (c.in_ok-are_package.ensures packages) ∙ c.if-branch.true

pub returns-else-branch : goal.returns-else-branch
returns-else-branch c = λ packages. sym (of_first (numbered_tables c.args.tables.now) (homes_in packages c.args.homes.now) (known_in c.args.tables.now) c.args.members.now c.in-Some.first.now
    c.in-Some.ensures.value) ∙ (sym (c.in_ok-are_package.ensures packages) ∙ c.if-branch.false)
