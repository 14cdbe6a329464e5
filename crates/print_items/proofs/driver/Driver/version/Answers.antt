use Rattle.std.proofs.Common.{refl}
use Rattle.semver.specs.Identifiers.{version_text}
use Rattle.print_items.proofs.{OneLine.version_may_stand, Driven.spelled_made, Driven.call_passed}
use Rattle.print_items.proofs.driver.Driver.version.Goals as goal

pub print_marked_version-requires : goal.print_marked_version-requires
print_marked_version-requires g c = version_may_stand _ (version_text c.args.version.now) _ refl c.requires

pub returns-then-not-self-clause-calls : goal.returns-then-not-self-clause-calls
returns-then-not-self-clause-calls g c = spelled_made _ _ c.print_marked_version.result _ refl c.if-not-self.true c.is_err-self.ensures.value c.print_marked_version.ensures.ok
    c.print_marked_version.ensures.err

pub returns-else-not-self-clause-calls : goal.returns-else-not-self-clause-calls
returns-else-not-self-clause-calls g c = call_passed _ _ c.if-not-self.false
