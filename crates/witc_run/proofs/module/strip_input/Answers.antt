use Rattle.std.proofs.Common.{◌≡◌, subst}
use Rattle.wit_component.specs.{Bound.RefusesBindings, Reached.OutgrowsLists}
use Rattle.wit_model.specs.declared.error.Error.TheVariants.{Size}
use Rattle.witc_run.specs.Bindings.{RefusesModuleInput, bindings}
use Rattle.witc_run.proofs.{BindingsLaws.no-reading, InputLaws.strips-nothing, InputLaws.strips-part}
use Rattle.base_lemmas.proofs.Options.{passed}
use Rattle.witc_run.specs.declared.refusal.Refusal.TheVariants as refusals
use Rattle.witc_run.proofs.module.strip_input.Goals as goal

pub returns-in_err-bytes-clause-refused : goal.returns-in_err-bytes-clause-refused
returns-in_err-bytes-clause-refused g c =
    let left = g.R.Read.remaining c.args.reader.now in
    let rest = g.R.Read.remaining c.read_whole.new.reader in
    passed (RefusesModuleInput left rest) c.from_residual.result c.in_err-bytes.field-0.0 c.from_residual.ensures.1 (no-reading left rest c.in_err-bytes.field-0.0 c.in_err-bytes.ensures.refused)

pub returns-in_err-stripped-clause-refused : goal.returns-in_err-stripped-clause-refused
returns-in_err-stripped-clause-refused g c =
    let left = g.R.Read.remaining c.args.reader.now in
    let rest = g.R.Read.remaining c.read_whole.new.reader in
    let e = c.in_err-stripped.field-0.0 in
    passed (RefusesModuleInput left rest) c.from_residual-in_err-stripped.result (refusals.Error e) c.from_residual-in_err-stripped.ensures.1
    (bindings c.in_ok-bytes.bytes.items e c.in_ok-bytes.ensures.whole (subst (λ xs. RefusesBindings xs e) c.deref.ensures.value c.in_err-stripped.ensures.refused)
    (subst (λ xs. e ≡ Size → OutgrowsLists xs) c.deref.ensures.value c.in_err-stripped.ensures.size))

pub returns-in-Some-clause-stripped : goal.returns-in-Some-clause-stripped
returns-in-Some-clause-stripped g c = strips-part (g.R.Read.remaining c.args.reader.now) (g.R.Read.remaining c.read_whole.new.reader) c.in_ok-bytes.bytes.items c.in_ok-bytes.ensures.whole _
    c.deref.ensures.value _ _ c.in-Some.is c.in_ok-stripped.ensures.stripped

pub returns-in-None-clause-stripped : goal.returns-in-None-clause-stripped
returns-in-None-clause-stripped g c = strips-nothing (g.R.Read.remaining c.args.reader.now) (g.R.Read.remaining c.read_whole.new.reader) c.in_ok-bytes.bytes.items c.in_ok-bytes.ensures.whole _
    c.deref.ensures.value _ c.in-None.is c.in_ok-stripped.ensures.stripped
