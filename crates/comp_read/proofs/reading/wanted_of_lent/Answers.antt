use Rattle.std.proofs.Common.{map, subst, sym, List, ℕ, Option}
use Rattle.read_exports.specs.Members.{homes_in}
use Rattle.read_exports.specs.declared.members.Member.{Member}
use Rattle.read_rules.specs.Tables.{numbered_tables}
use Rattle.plan_meaning.specs.NumberedMembers.{NumberedMember}
use Rattle.read_members.specs.ReadMembers.{lent_member}
use Rattle.comp_read.specs.MembersRead.{AreReadOf}
use Rattle.comp_read.proofs.reading.wanted_of_lent.Goals as goal

pub wanted_of_members-requires-clause-read : goal.wanted_of_members-requires-clause-read
wanted_of_members-requires-clause-read c =
    let x = c.args.followed.now in
    let t = numbered_tables c.args.tables.now in
    let facts = c.args.tables.now.facts.now in
    let h = homes_in c.args.packages.now c.args.homes.now in
    subst (λ (ms : List Member). AreReadOf x t facts h (map lent_member ms)) (sym c.deref.ensures.value)
    (subst (λ (ns : List (NumberedMember × List (Option ℕ))). AreReadOf x t facts h ns) (sym c.in_ok-members.ensures) c.requires.read)
