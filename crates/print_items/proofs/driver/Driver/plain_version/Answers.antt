use Rattle.std.proofs.Common.{refl}
use Rattle.semver.specs.Identifiers.{version_text}
use Rattle.print_items.proofs.{OneLine.plain_version_may_stand, Driven.spelled_made, Driven.call_passed}
use Rattle.print_items.proofs.driver.Driver.plain_version.Goals as goal

pub print_plain_version-requires : goal.print_plain_version-requires
print_plain_version-requires g c = plain_version_may_stand _ (version_text c.args.version.now) _ refl (c.requires.same_line c.if-not-self.true) c.requires.version

pub returns-then-not-self-clause-calls : goal.returns-then-not-self-clause-calls
returns-then-not-self-clause-calls g c = spelled_made _ _ c.print_plain_version.result _ refl c.if-not-self.true c.is_err-self.ensures.value c.print_plain_version.ensures.ok
    c.print_plain_version.ensures.err

pub returns-else-not-self-clause-calls : goal.returns-else-not-self-clause-calls
returns-else-not-self-clause-calls g c = call_passed _ _ c.if-not-self.false
