use Rattle.std.proofs.Common.{rules, ◌<◌, length, subst, sym}
use Rattle.wit_model.specs.declared.model.Package.{Package}
use Rattle.bind_match.proofs.SameNames.{number}
use Rattle.bind_names.specs.Named.{GainsName}
use Rattle.bind_names.proofs.Names.{one_more}
use Rattle.bind_names.proofs.named.add_packages.Goals as goal

pub loop-number-preserved : goal.loop-number-preserved
loop-number-preserved c =
    let n = c.loop-number.number in
    let old = c.loop-number.named in
    let new = c.add_package.new.named in
    let lt : n < length c.args.packages.now = search rules in
    let is = c.index-packages-number.is in
    one_more c.args.packages.now n c.index-packages-number.result old new lt is c.loop-number.invariant
    (subst (λ (p : Package). GainsName old p.name (number n) new) (sym is) c.in_ok-add_package.ensures.gains)
