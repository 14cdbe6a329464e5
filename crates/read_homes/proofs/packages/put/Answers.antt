use Rattle.std.proofs.Common.{◌∙◌, ap, sym, refl, map, Some}
use Rattle.read_homes.specs.Homes.{identity_of}
use Rattle.read_homes.proofs.PackageLaws.{joined_packages, joins, texts_same}
use Rattle.read_homes.proofs.packages.put.Goals as goal
use Rattle.base_lemmas.proofs.Lists.{mapped_get}

pub returns-clause-found : goal.returns-clause-found
returns-clause-found c =
    let s = c.in_ok-number.ensures.stored in
    mapped_get identity_of c.insert_full.new.self.keys c.in_ok-number.number s.0 s.1 ∙ ap Some (sym (texts_same c.args.texts s.0 s.2))

pub returns-clause-joins : goal.returns-clause-joins
returns-clause-joins c = joins c.args.packages.now.keys c.insert_full.new.self.keys c.args.texts _ refl c.in_ok-number.ensures.keys

pub returns-clause-packages : goal.returns-clause-packages
returns-clause-packages c = joined_packages (map identity_of c.args.packages.now.keys) (identity_of c.args.texts) c.requires.packages c.requires.read (map identity_of c.insert_full.new.self.keys)
    (joins c.args.packages.now.keys c.insert_full.new.self.keys c.args.texts _ refl c.in_ok-number.ensures.keys)
