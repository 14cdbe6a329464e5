use Rattle.std.proofs.Common.{rules, refl, ◌∙◌}
use Rattle.encode_types.proofs.{Agree.on_ok, Agree.learnt-one, Defining.counts-number, Defining.leaves-before, Writing.written-on}
use Rattle.std.proofs.lemmas.Result.{on_err_weaker}
use Rattle.encode_types.proofs.Stopping.{part-same, same-when}
use Rattle.base_lemmas.proofs.Options.{at_err}
use Rattle.encode_kinds.proofs.define.import.Goals as goal

pub returns : goal.returns
returns g c = record {
  ok = on_ok c.remember_id.result _ _ (λ l. learnt-one _ _ _ c.args.id _ refl (rw c.import_type.ensures.maps_stay at l)) c.remember_id.ensures.ok;
  leaves = leaves-before c.remember_id.ensures.leaves c.requires.agree c.import_type.ensures.grows c.import_type.ensures.scope_stays c.import_type.ensures.maps_stay;
  reaches = rw c.remember_id.ensures.around_stays c.import_type.ensures.reaches;
  imports = rw c.remember_id.ensures.imports_stay c.import_type.ensures.imports;
  counts = on_ok c.remember_id.result _ _ (λ l. counts-number _ _ _ _ _ _ c.args.id c.in_ok-index.index (rw c.import_type.ensures.maps_stay at l) c.requires.not_shown
      c.requires.no_definition (c.remember_id.ensures.counts ∙ c.in_ok-index.ensures.counts)) c.remember_id.ensures.ok;
  stopped = on_err_weaker c.remember_id.result
      (λ s. part-same _ _ _ _ _ _ (rw c.import_type.ensures.maps_stay at s) (c.remember_id.ensures.counts ∙ c.in_ok-index.ensures.counts)) c.remember_id.ensures.err;
  kinds = on_ok c.remember_id.result _ _ (λ l. (rw c.import_type.ensures.maps_stay at l).rest.kinds) c.remember_id.ensures.ok;
  held = search rules;
  written = on_ok c.remember_id.result _ _ (λ l def at. written-on (c.in_ok-index.ensures.written def at) c.remember_id.ensures.written) c.remember_id.ensures.ok;
  size = search rules;
  refuses = search rules;
}

pub returns-in_err-index-clause-stopped : goal.returns-in_err-index-clause-stopped
returns-in_err-index-clause-stopped g c = at_err _ (part-same _ _ _ _ _ _ (same-when c.import_type.ensures.maps_stay) c.in_err-index.ensures.err)
