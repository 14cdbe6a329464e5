use Rattle.std.proofs.Common.{◌∙◌, ap, subst, rules, take, List}
use Rattle.wit_model.specs.declared.model.PackageId.{PackageId}
use Rattle.witc_read.specs.Packages.{IsOther}
use Rattle.witc_read.proofs.Mains.{apart-in}
use Rattle.witc_read.proofs.packages.main_of.Goals as goal

pub returns-in-Some-other_among-clause-err : goal.returns-in-Some-other_among-clause-err
returns-in-Some-other_among-clause-err c =
    let mains = c.args.mains.now in
    apart-in mains c.args.own c.in-Some.main.now c.in-Some-other_among.number (search rules)
    (subst (λ (xs : List PackageId). IsOther c.in-Some.main.now xs c.in-Some-other_among.number) (c.split_at.ensures.front ∙ ap (λ k. take k mains) c.min.ensures)
    c.in-Some-other_among.ensures.some)
