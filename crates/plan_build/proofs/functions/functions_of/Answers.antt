use Rattle.std.proofs.Common.{◌∙◌, refl, map}
use Rattle.std.specs.Prelude.{string_eq}
use Rattle.indexmap.specs.IndexMap.{values}
use Rattle.wit_model.specs.Text.{text_of, text_eq}
use Rattle.wit_model.proofs.Distinct.{text_eq_flip}
use Rattle.plan_meaning.specs.Built.{is_bare_function, planned_function}
use Rattle.plan_build.specs.PlanOf.{named_function}
use Rattle.plan_build.proofs.{Listing.all_more, Mapping.entry_more, Mapping.goes_last, Mapping.values_more, Named.texts_differ}
use Rattle.plan_build.proofs.functions.functions_of.Goals as goal

pub loop-function-preserved : goal.loop-function-preserved
loop-function-preserved c =
    let xs = c.args.functions.now in
    let i = c.loop-function.function-index in
    let x = c.function-item.result in
    let es = c.loop-function.built.entries in
    let new = c.insert.new.self.entries in
    let k = c.in_ok-name.name in
    let v = c.in_ok-value.value in
    record {
      built = λ apart. entry_more text_eq text_eq_flip string_eq text_of (λ a b. refl) planned_function named_function es new xs i x k v c.loop-function-test.true c.function-item.is
          c.in_ok-insert.ensures.entries c.in_ok-name.ensures (texts_differ (map (λ f. f.name.now) xs) ∙ apart) (c.loop-function.invariant.built apart) c.in_ok-value.ensures.built;
      bare = λ apart. all_more is_bare_function (values c.loop-function.built) (values c.insert.new.self) v (c.loop-function.invariant.bare apart) c.in_ok-value.ensures.bare
          (values_more es new k v (goes_last text_eq text_eq_flip string_eq text_of (λ a b. refl) planned_function named_function es new xs i x k v c.loop-function-test.true c.function-item.is
          c.in_ok-insert.ensures.entries c.in_ok-name.ensures (texts_differ (map (λ f. f.name.now) xs) ∙ apart) (c.loop-function.invariant.built apart)));
    }
