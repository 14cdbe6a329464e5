use Rattle.std.proofs.Common.{map, subst, List}
use Rattle.wit_model.specs.Names.{PackageIdentity}
use Rattle.read_homes.specs.Homes.{identity_of, KeepsHomes}
use Rattle.read_homes.proofs.PackageLaws.{keeps_homes, put_grows}
use Rattle.read_homes.proofs.packages.Packages.number_of.Goals as goal

pub returns-clause-homes : goal.returns-clause-homes
returns-clause-homes c =
    let new = map identity_of c.put.new.packages.keys in
    let grown = put_grows c.put.result c.self.inside.texts.keys c.put.new.packages.keys (identity_of c.args.texts) c.put.ensures.joins c.put.ensures.err in
    subst (λ (ps : List PackageIdentity). KeepsHomes ps new) c.self.view_is (keeps_homes (map identity_of c.self.inside.texts.keys) new grown c.put.ensures.packages)
