use Rattle.wit_bind.specs.Merges.{IsMergeRefusal, IsPlanOf}
use Rattle.wit_bind.proofs.{AsItWas.kept_itself, Growing.on_err, Growing.plan_addable, Growth.merged_grows, Growth.merged_nothing, MatchedPaths.all-matched}
use Rattle.wit_bind.proofs.Merging.{merged_answer, merged_bare, merged_brings, merged_are_the_union, merged_exports, merged_extend, merged_in_order, merged_order}
use Rattle.wit_bind.proofs.Outgrown.{refused-so}
use Rattle.base_lemmas.proofs.Options.{passed as err_is}
use Rattle.wit_bind.proofs.bindgen.merge_matched.Goals as goal

pub union_of-requires-clause-matches : goal.union_of-requires-clause-matches
union_of-requires-clause-matches c = all-matched c.args.own.now.resolve c.args.other.resolve c.in_ok-matches.matches c.in_ok-matches.ensures.matched

pub grow-requires : goal.grow-requires
grow-requires c =
    let plan : IsPlanOf c.args.own.now c.args.other c.in_ok-added.added c.in_ok-added.keys.keys = record {
      matches = c.in_ok-matches.matches;
      matched = c.in_ok-matches.ensures.matched;
      none = c.in_ok-matches.ensures.none;
      union = c.in_ok-added.ensures.union;
      few = c.in_ok-added.ensures.few;
    } in
    plan_addable c.args.own.now c.args.other c.requires.own c.requires.others c.in_ok-added.added c.in_ok-added.keys.keys plan

pub returns-clause-merged : goal.returns-clause-merged
returns-clause-merged c =
    let own = c.args.own.now in
    let other = c.args.other in
    let new = c.grow.new.self in
    let unites = c.in_ok-matches.ensures.united in
    let grown = c.in_ok-grow.ensures.ok in
    let added = c.in_ok-added.added in
    let keys = c.in_ok-added.keys.keys in
    let plan : IsPlanOf own other added keys = record {
      matches = c.in_ok-matches.matches;
      matched = c.in_ok-matches.ensures.matched;
      none = c.in_ok-matches.ensures.none;
      union = c.in_ok-added.ensures.union;
      few = c.in_ok-added.ensures.few;
    } in
    let all = merged_are_the_union own other new c.requires.own c.requires.others unites added keys plan grown in
    record {
      united = unites;
      union = all.1;
      valid = all.0;
      extends = merged_extend own other new c.requires.own c.requires.others unites added keys plan grown;
      brings = merged_brings own other new c.requires.own c.requires.others unites added keys plan grown;
      in_order = merged_in_order own other new c.requires.own c.requires.others unites added keys plan grown;
      bare = merged_bare own other new c.requires.own c.requires.others unites added keys plan grown;
      grows = merged_grows own other new c.requires.own c.requires.others unites added keys plan grown;
      nothing = merged_nothing own other new c.requires.own c.requires.others unites added keys plan grown;
      order = merged_order own other new c.requires.own c.requires.others unites added keys plan grown;
      added = merged_exports own other new c.requires.own c.requires.others unites added keys plan grown;
      answer_is = merged_answer own other new c.requires.own c.requires.others unites added keys plan grown;
    }

pub returns-in_err-matches-clause-kept : goal.returns-in_err-matches-clause-kept
returns-in_err-matches-clause-kept c = on_err (kept_itself c.args.own.now) c.from_residual.result

pub returns-in_err-added-clause-kept : goal.returns-in_err-added-clause-kept
returns-in_err-added-clause-kept c = on_err (kept_itself c.args.own.now) c.from_residual-in_err-added.result

pub returns-in_err-added-clause-refusal : goal.returns-in_err-added-clause-refusal
returns-in_err-added-clause-refusal c =
    let own = c.args.own.now in
    let other = c.args.other in
    let error = c.in_err-added.field-0.0 in
    err_is (IsMergeRefusal own other) c.from_residual-in_err-added.result error c.from_residual-in_err-added.ensures.1
    (refused-so own other c.requires.own c.requires.others c.in_ok-matches.ensures.united c.in_ok-matches.matches c.in_ok-matches.ensures.matched (IsMergeRefusal own other) tt (λ h. h)
    error c.in_err-added.ensures.refuses c.in_err-added.ensures.size)
