use Rattle.indexmap.specs.IndexMap.{values}
use Rattle.plan_meaning.specs.{PlanRules.same_key, Built.is_bare_item, Built.planned_item, Built.planned_key}
use Rattle.plan_build.specs.PlanOf.{stated_entry}
use Rattle.plan_build.proofs.{Listing.all_more, Named.entries_apart, Named.key_test, Named.same_key_flip, Named.same_keys}
use Rattle.plan_build.proofs.Mapping.{entry_more, goes_last, values_more}
use Rattle.plan_build.proofs.worlds.entries_of.Goals as goal

pub loop-entry-preserved : goal.loop-entry-preserved
loop-entry-preserved c =
    let xs = c.args.entries.now in
    let i = c.loop-entry.entry-index in
    let x = c.entry-item.result in
    let es = c.loop-entry.built.entries in
    let new = c.insert.new.self.entries in
    let k = c.in_ok-key.key in
    let v = c.in_ok-item.item in
    record {
      built = λ apart. entry_more same_key same_key_flip key_test planned_key same_keys planned_item stated_entry es new xs i x k v c.loop-entry-test.true c.entry-item.is
          c.in_ok-insert.ensures.entries c.in_ok-key.ensures (entries_apart xs apart) (c.loop-entry.invariant.built apart) c.in_ok-item.ensures.built;
      bare = λ apart. all_more is_bare_item (values c.loop-entry.built) (values c.insert.new.self) v (c.loop-entry.invariant.bare apart) c.in_ok-item.ensures.bare
          (values_more es new k v (goes_last same_key same_key_flip key_test planned_key same_keys planned_item stated_entry es new xs i x k v c.loop-entry-test.true c.entry-item.is
          c.in_ok-insert.ensures.entries c.in_ok-key.ensures (entries_apart xs apart) (c.loop-entry.invariant.built apart)));
    }
