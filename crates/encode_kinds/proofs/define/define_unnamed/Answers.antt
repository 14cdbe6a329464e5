use Rattle.std.proofs.Common.{rules, inl, inr, arith}
use Rattle.encode_types.proofs.{Learning.kind-same, Agree.on_ok, Agree.learnt-one, Defining.counts-number, Defining.counts-trans, Defining.leaves-trans}
use Rattle.encode_types.proofs.Writing.{written-on}
use Rattle.std.proofs.lemmas.Result.{on_err_weaker}
use Rattle.encode_types.proofs.Stopping.{part-same, part-then}
use Rattle.encode_kinds.proofs.define.define_unnamed.Goals as goal

pub returns : goal.returns
returns g c = record {
  ok = on_ok c.remember_id.result _ _ (λ l. learnt-one _ _ _ c.args.id _ c.in_ok-index.ensures.numbers l) c.remember_id.ensures.ok;
  leaves = leaves-trans c.define_unnamed_kind.ensures.leaves c.remember_id.ensures.leaves;
  around_stays = search rules;
  imports_stay = search rules;
  counts =
      let s = c.define_unnamed_kind.ensures.leaves.scope_stays in
      on_ok c.remember_id.result _ _ (λ l. counts-trans s c.in_ok-index.ensures.counts
      (counts-number _ _ _ _ _ _ c.args.id c.in_ok-index.index l (rw s c.requires.not_shown) (rw s c.requires.no_name) c.remember_id.ensures.counts))
      c.remember_id.ensures.ok;
  stopped = on_err_weaker c.remember_id.result (λ s. part-then c.define_unnamed_kind.ensures.leaves.scope_stays c.in_ok-index.ensures.counts (part-same _ _ _ _ _ _ s c.remember_id.ensures.counts))
      c.remember_id.ensures.err;
  kinds = on_ok c.remember_id.result _ _ (λ l. kind-same _ _ _ _ l.rest.kinds c.in_ok-index.ensures.kinds) c.remember_id.ensures.ok;
  held =
      let same = c.remember_id.ensures.held in
      on_ok c.remember_id.result _ _ (λ l. elim c.in_ok-index.ensures.held [ inl few ↦ inl (omega (arith, same, few)) | inr more ↦ inr (more.0, (let few = more.1 in omega (arith, same, few))) ])
      c.remember_id.ensures.ok;
  written = on_ok c.remember_id.result _ _ (λ l. written-on c.in_ok-index.ensures.written c.remember_id.ensures.written) c.remember_id.ensures.ok;
  size = search rules;
  refuses = search rules;
}
