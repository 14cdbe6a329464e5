use Rattle.std.proofs.Common.{map, subst, sym, List}
use Rattle.wit_model.specs.declared.model.PackageId.{PackageId}
use Rattle.witc_read.specs.Packages.{IsMainOf, IsNoMainOf, IsTroubleOf}
use Rattle.witc_read.proofs.{Mains.main-in-range, Mains.no-main, Troubles.of-fault}
use Rattle.witc_read.proofs.packages.read.Goals as goal

pub returns-in-Err-main_of-clause-err : goal.returns-in-Err-main_of-clause-err
returns-in-Err-main_of-clause-err c =
    no-main (map (λ t. t.now) c.args.texts.now) c.args.own c.in-Ok.resolve c.in-Ok.mains.items c.in-Ok.ensures.reads c.in-Err-main_of.trouble
    (subst (λ (ids : List PackageId). IsNoMainOf ids c.args.own c.in-Err-main_of.trouble) c.deref.ensures.value c.in-Err-main_of.ensures.err)

pub returns-in-Err-clause-err : goal.returns-in-Err-clause-err
returns-in-Err-clause-err c =
    let texts = map (λ t. t.now) c.args.texts.now in
    subst (IsTroubleOf texts c.args.own) (sym c.of_fault.ensures) (of-fault texts c.args.own c.in-Err.fault c.in-Err.ensures.refuses)

pub returns-in-Ok-main_of-clause-in_range : goal.returns-in-Ok-main_of-clause-in_range
returns-in-Ok-main_of-clause-in_range c =
    let mains = subst (λ (ids : List PackageId). IsMainOf ids c.args.own c.in-Ok-main_of.main) c.deref.ensures.value c.in-Ok-main_of.ensures.ok in
    main-in-range (map (λ t. t.now) c.args.texts.now) c.args.own c.in-Ok.resolve c.in-Ok.mains.items 0 c.in-Ok-main_of.main c.in-Ok.ensures.reads mains.first
