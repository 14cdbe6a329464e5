use Rattle.std.proofs.Common.{◌≡◌, sym, ap, ◌∙◌, ◌≤◌, length, rules, arith, unwrap_or}
use Rattle.std.proofs.lemmas.Option.{slice_get_past}
use Rattle.std.specs.List.{list_all}
use Rattle.wit_model.specs.Parts.{has_owner, met_by, met_of}
use Rattle.check_rules.specs.Owners.{stays, met_entry}
use Rattle.wit_model.proofs.{Checks.below_or_past, Owners.nothing_past}
use Rattle.check_rules.specs.declared.owners.Met.TheVariants as met
use Rattle.check_rules.proofs.owners.met_table.Goals as goal

pub returns : goal.returns
returns c =
    let r = c.args.resolve.now in
    let table = c.loop-number.table.items in
    let past : length r.types.items ≤ c.loop-number.number = search rules in
    λ n o. below_or_past (λ m. stays (met_entry table m) o ≡ list_all (has_owner r o) (met_by (met_of r) m)) c.loop-number.number (λ m h. c.loop-number.invariant.right m h o) (λ m h.
    ap (λ e. stays (unwrap_or e met.Nothing) o) (slice_get_past table m (omega (arith, h, c.loop-number.invariant.made)))
    ∙ sym (ap (list_all (has_owner r o)) (nothing_past r m (omega (arith, past, h)))))
    n
