use Rattle.std.proofs.Common.{◌≤◌, List, length, subst, sym}
use Rattle.wit_model.specs.declared.model.Package.{Package}
use Rattle.wit_bind.proofs.{AsItWas.kept_itself, Growing.few_bound, Growing.on_err, Growing.so_ok}
use Rattle.base_lemmas.proofs.Options.{if_ok}
use Rattle.wit_bind.proofs.bindgen.Bindgen.merge.Goals as goal

pub matched_packages-requires : goal.matched_packages-requires
matched_packages-requires c = subst (λ (packages : List Package). length packages ≤ 4294967295) (sym c.deref.ensures.value) (few_bound c.args.self.now c.requires.own)

pub returns-in_err-packages-clause-kept : goal.returns-in_err-packages-clause-kept
returns-in_err-packages-clause-kept c = on_err (kept_itself c.args.self.now) c.from_residual.result

pub returns-clause-united : goal.returns-clause-united
returns-clause-united c = so_ok _ _ (λ answer h. h.united) c.merge_matched.result c.merge_matched.ensures.merged

pub returns-clause-union : goal.returns-clause-union
returns-clause-union c = so_ok _ _ (λ answer h. h.union) c.merge_matched.result c.merge_matched.ensures.merged

pub returns-clause-valid : goal.returns-clause-valid
returns-clause-valid c = so_ok _ _ (λ answer h. h.valid) c.merge_matched.result c.merge_matched.ensures.merged

pub returns-clause-extends : goal.returns-clause-extends
returns-clause-extends c = so_ok _ _ (λ answer h. h.extends) c.merge_matched.result c.merge_matched.ensures.merged

pub returns-clause-brings : goal.returns-clause-brings
returns-clause-brings c = so_ok _ _ (λ answer h. h.brings) c.merge_matched.result c.merge_matched.ensures.merged

pub returns-clause-in_order : goal.returns-clause-in_order
returns-clause-in_order c = so_ok _ _ (λ answer h. h.in_order) c.merge_matched.result c.merge_matched.ensures.merged

pub returns-clause-bare : goal.returns-clause-bare
returns-clause-bare c = so_ok _ _ (λ answer h. h.bare) c.merge_matched.result c.merge_matched.ensures.merged

pub returns-clause-growth : goal.returns-clause-growth
returns-clause-growth c = so_ok _ _ (λ answer h. h.grows) c.merge_matched.result c.merge_matched.ensures.merged

pub returns-clause-nothing : goal.returns-clause-nothing
returns-clause-nothing c = so_ok _ _ (λ answer h. h.nothing) c.merge_matched.result c.merge_matched.ensures.merged

pub returns-clause-order : goal.returns-clause-order
returns-clause-order c = so_ok _ _ (λ answer h. h.order) c.merge_matched.result c.merge_matched.ensures.merged

pub returns-clause-added : goal.returns-clause-added
returns-clause-added c = if_ok _ _ (λ answer h. h.added) c.merge_matched.result c.merge_matched.ensures.merged

pub returns-clause-answer : goal.returns-clause-answer
returns-clause-answer c = if_ok _ _ (λ answer h. h.answer_is) c.merge_matched.result c.merge_matched.ensures.merged
