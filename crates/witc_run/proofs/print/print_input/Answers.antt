use Rattle.std.proofs.Common.{List, ℕ, subst}
use Rattle.wit_component.specs.Decoded.{RefusesBytes}
use Rattle.witc_run.specs.Decodes.{RefusesInput, bytes}
use Rattle.witc_run.proofs.{InputLaws.prints, RefusedLaws.from-reading}
use Rattle.base_lemmas.proofs.Options.{passed}
use Rattle.witc_run.specs.declared.refusal.Refusal.TheVariants as refusals
use Rattle.witc_run.proofs.print.print_input.Goals as goal

pub returns-in_err-bytes-clause-refused : goal.returns-in_err-bytes-clause-refused
returns-in_err-bytes-clause-refused g c =
    let left = g.R.Read.remaining c.args.reader.now in
    let rest = g.R.Read.remaining c.read_whole.new.reader in
    passed (RefusesInput left rest) c.from_residual.result c.in_err-bytes.field-0.0 c.from_residual.ensures.1 (from-reading left rest c.in_err-bytes.field-0.0 c.in_err-bytes.ensures.refused)

pub returns-in_err-print-clause-refused : goal.returns-in_err-print-clause-refused
returns-in_err-print-clause-refused g c =
    let left = g.R.Read.remaining c.args.reader.now in
    let rest = g.R.Read.remaining c.read_whole.new.reader in
    let e = c.in_err-print.field-0.0 in
    passed (RefusesInput left rest) c.from_residual-in_err-print.result (refusals.Error e) c.from_residual-in_err-print.ensures.1
    (bytes c.in_ok-bytes.bytes.items e c.in_ok-bytes.ensures.whole (subst (λ (xs : List ℕ). RefusesBytes xs e) c.deref.ensures.value c.in_err-print.ensures.refused))

pub returns-clause-printed : goal.returns-clause-printed
returns-clause-printed g c = prints (g.R.Read.remaining c.args.reader.now) (g.R.Read.remaining c.read_whole.new.reader) c.in_ok-bytes.bytes.items c.in_ok-bytes.ensures.whole _ c.deref.ensures.value _
    c.in_ok-print.ensures.printed
