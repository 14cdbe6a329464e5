use Rattle.std.proofs.Common.{map, refl, subst, sym}
use Rattle.witc_read.specs.Packages.{IsTroubleOf}
use Rattle.witc_read.proofs.Troubles.{of-error}
use Rattle.witc_read.proofs.packages.encoded.Goals as goal

pub returns-in-Err-encode-clause-err : goal.returns-in-Err-encode-clause-err
returns-in-Err-encode-clause-err c =
    let texts = map (λ t. t.now) c.args.texts.now in
    subst (IsTroubleOf texts c.args.own) (sym c.of_encoding.ensures) (of-error texts c.args.own c.in-Err-encode.error
    (record { resolve = c.in-Ok.resolve; main = c.in-Ok.main; read = c.in-Ok.ensures.read; refuses = c.in-Err-encode.ensures.refuses }))

pub returns-in-Ok-encode-clause-ok : goal.returns-in-Ok-encode-clause-ok
returns-in-Ok-encode-clause-ok c =
    let is = c.in-Ok-encode.ensures in
    (record { resolve = c.in-Ok.resolve; main = c.in-Ok.main; read = c.in-Ok.ensures.read; means = is.means; spelled = is.holds; empty = is.empty }, refl, refl)
