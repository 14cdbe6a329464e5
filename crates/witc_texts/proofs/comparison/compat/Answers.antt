use Rattle.std.proofs.lemmas.Option.{slice_get_within}
use Rattle.witc_texts.specs.Worlds.{ComparesBytes, ComparesTo, RefusesCompared, RefusesNames, names, undecoded}
use Rattle.witc_texts.proofs.comparison.compat.Goals as goal
use Rattle.base_lemmas.proofs.Options.{err_said as if-err, if_ok as if-ok, passed}

pub returns-in_err-resolve-clause-refused : goal.returns-in_err-resolve-clause-refused
returns-in_err-resolve-clause-refused c =
    let e = c.in_err-resolve.field-0.0 in
    passed (RefusesCompared c.args.bytes.now c.args.prev.now c.args.new.now) c.from_residual.result e c.from_residual.ensures.1 (undecoded e c.in_err-resolve.ensures.refuses)

pub compare-requires-clause-in_range : goal.compare-requires-clause-in_range
compare-requires-clause-in_range c =
    let is = c.in_ok-resolve.ensures.decoded in
    slice_get_within c.in_ok-resolve.resolve.packages.items c.in_ok-resolve.id.0 is.package_ is.stands

pub returns-clause-compared : goal.returns-clause-compared
returns-clause-compared c =
    let r = c.in_ok-resolve.resolve in
    let n = c.in_ok-resolve.id.0 in
    if-ok (ComparesTo r n c.args.prev.now c.args.new.now) (ComparesBytes c.args.bytes.now c.args.prev.now c.args.new.now)
    (λ x is. record { resolve = r; number = n; decoded = c.in_ok-resolve.ensures.decoded; compares = is }) c.compare.result c.compare.ensures.compared

pub returns-clause-refused : goal.returns-clause-refused
returns-clause-refused c =
    let r = c.in_ok-resolve.resolve in
    let n = c.in_ok-resolve.id.0 in
    if-err (RefusesNames r n c.args.prev.now c.args.new.now) (RefusesCompared c.args.bytes.now c.args.prev.now c.args.new.now)
    (λ e is. names r n e c.in_ok-resolve.ensures.decoded c.in_ok-resolve.ensures.order is) c.compare.result c.compare.ensures.refused
