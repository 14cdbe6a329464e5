use Rattle.std.proofs.Common.{List, ℕ, subst}
use Rattle.witc_run.specs.Worlds.{RefusesWorlds, compared, unread}
use Rattle.witc_texts.specs.Worlds.{RefusesCompared}
use Rattle.witc_run.proofs.{InputLaws.compares, RefusedLaws.from-reading}
use Rattle.base_lemmas.proofs.Options.{passed}
use Rattle.witc_run.specs.declared.refusal.Refusal.TheVariants as refusals
use Rattle.witc_run.proofs.compat.compare_input.Goals as goal

pub returns-in_err-bytes-clause-refused : goal.returns-in_err-bytes-clause-refused
returns-in_err-bytes-clause-refused g c =
    let left = g.R.Read.remaining c.args.reader.now in
    let rest = g.R.Read.remaining c.read_whole.new.reader in
    let refusal = c.in_err-bytes.field-0.0 in
    passed (RefusesWorlds left rest c.args.prev.now c.args.new.now) c.from_residual.result refusal c.from_residual.ensures.1
    (unread refusal (from-reading left rest refusal c.in_err-bytes.ensures.refused))

pub returns-in_err-compat-clause-refused : goal.returns-in_err-compat-clause-refused
returns-in_err-compat-clause-refused g c =
    let left = g.R.Read.remaining c.args.reader.now in
    let rest = g.R.Read.remaining c.read_whole.new.reader in
    let e = c.in_err-compat.field-0.0 in
    passed (RefusesWorlds left rest c.args.prev.now c.args.new.now) c.from_residual-in_err-compat.result (refusals.Error e) c.from_residual-in_err-compat.ensures.1
    (compared c.in_ok-bytes.bytes.items e c.in_ok-bytes.ensures.whole
    (subst (λ (xs : List ℕ). RefusesCompared xs c.args.prev.now c.args.new.now e) c.deref.ensures.value c.in_err-compat.ensures.refused))

pub returns-clause-compared : goal.returns-clause-compared
returns-clause-compared g c = compares (g.R.Read.remaining c.args.reader.now) (g.R.Read.remaining c.read_whole.new.reader) c.args.prev.now c.args.new.now c.in_ok-bytes.bytes.items
    c.in_ok-bytes.ensures.whole _ c.deref.ensures.value _ c.in_ok-compat.ensures.compared
