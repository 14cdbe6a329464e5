use Rattle.std.proofs.Common.{rules}
use Rattle.wit_model.specs.{Names.is_version, Rules.passes}
use Rattle.plan_meaning.specs.Built.{is_undocumented, planned_package}
use Rattle.plan_build.specs.{Buildable.has_version, Buildable.package_differs, PlanOf.stated_package}
use Rattle.plan_build.proofs.Listing.{all_more, one_more_if, passes_here}
use Rattle.plan_build.proofs.packages.packages_of.Goals as goal

pub loop-entry-preserved : goal.loop-entry-preserved
loop-entry-preserved c =
    let xs = c.args.packages.now in
    let i = c.loop-entry.entry-index in
    let x = c.entry-item.result in
    record {
      built = one_more_if stated_package xs i x c.loop-entry-test.true c.entry-item.is planned_package c.loop-entry.built.items c.push.new.self.items c.in_ok-value.value c.in_ok-push.ensures.items
          package_differs c.loop-entry.invariant.built c.in_ok-value.ensures.built;
      versions = all_more (λ p. passes is_version p.name.version) c.loop-entry.built.items c.push.new.self.items c.in_ok-value.value c.loop-entry.invariant.versions c.in_ok-value.ensures.version
          c.in_ok-push.ensures.items;
      bare = all_more (λ p. is_undocumented p.docs) c.loop-entry.built.items c.push.new.self.items c.in_ok-value.value c.loop-entry.invariant.bare c.in_ok-value.ensures.bare
          c.in_ok-push.ensures.items;
    }

pub returns-in_err-value-clause-memory : goal.returns-in_err-value-clause-memory
returns-in_err-value-clause-memory c = λ all.
    let refused = c.in_err-value.ensures.memory (passes_here stated_package c.args.packages.now c.loop-entry.entry-index c.entry-item.result c.loop-entry-test.true c.entry-item.is has_version all) in
    search rules
