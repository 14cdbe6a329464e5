use Rattle.std.proofs.lemmas.Result.{err_from_is_err_and}
use Rattle.std.proofs.Common.{ap, subst, sym, ◌∙◌, Bool, List, ℕ}
use Rattle.teasel_answers.specs.Kinds.{IsKnownOf, is_known_by}
use Rattle.witc_alike.specs.Kinds.{AreKinds}
use Rattle.wit_component.specs.Reached.{OutgrowsLists}
use Rattle.teasel_answers.proofs.Nothing.{unknown-outgrows}
use Rattle.teasel_answers.proofs.kinds.kind_of.Goals as goal

pub returns-clause-known : goal.returns-clause-known
returns-clause-known c = subst (λ (b : Bool). IsKnownOf b c.args.input.now.bytes.items c.is_known.result) (sym c.if-not-input.false) (
  c.in_ok-sum.sum,
  subst (λ (xs : List ℕ). AreKinds xs c.in_ok-sum.sum) c.deref.ensures.value c.in_ok-sum.ensures.kinds,
  c.is_known.ensures ∙ ap (is_known_by c.in_ok-sum.sum) c.deref-3.ensures.value,
)

pub returns-in_err-sum-clause-refused : goal.returns-in_err-sum-clause-refused
returns-in_err-sum-clause-refused c =
    let p = err_from_is_err_and c.from_residual.result c.from_residual.ensures.1 in
    rw (p.1, p.2) (λ other. subst OutgrowsLists c.deref.ensures.value (unknown-outgrows c.deref.result.now _ c.in_err-sum.ensures.unknown other))
