use Rattle.wit_text.specs.Listed.{IsBarePackage}
use Rattle.wit_text.proofs.Listing.{zip_next}
use Rattle.wit_text.proofs.packages.bare_packages.Goals as goal

pub loop-source-preserved : goal.loop-source-preserved
loop-source-preserved c =
    zip_next _ _ (IsBarePackage c.args.sources.now) c.args.sources.now.packages.items c.deref-source-items.result.now c.deref-source-items.ensures.value
    c.loop-source.source-index _ c.loop-source.packages.items c.push.new.self.items c.in_ok-package_of.field-0 c.loop-source-test.true
    c.loop-source.invariant c.in_ok-package_of.ensures c.in_ok-push.ensures.items
