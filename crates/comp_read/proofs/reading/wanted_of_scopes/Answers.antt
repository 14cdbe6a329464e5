use Rattle.std.proofs.Common.{ap, sym, map}
use Rattle.read_homes.specs.Homes.{given_home}
use Rattle.read_rules.specs.Tables.{numbered_tables}
use Rattle.plan_meaning.specs.NumberedViews.{Tables}
use Rattle.read_numbers.specs.NumberedInput.{tables_of}
use Rattle.read_members.proofs.PackageLaws.{none_meant}
use Rattle.comp_read.proofs.{Followed.none_read, ReadLaws.are_read_of}
use Rattle.comp_read.proofs.reading.wanted_of_scopes.Goals as goal

pub wanted_of_read-requires-clause-read : goal.wanted_of_read-requires-clause-read
wanted_of_read-requires-clause-read c =
    let x = c.args.followed.now in
    let homes = c.in_ok-homes.homes.items in
    let first = c.in_ok-homes.ensures.stand (tables_of x) (ap (λ (t : Tables). t.paths) (sym c.requires.tables)) c.requires.paths in
    are_read_of x (numbered_tables c.args.tables.now) c.requires.tables c.args.tables.now.facts.now c.requires.known c.new-packages.result c.homes_of.new.packages c.read_members.new.packages
    c.new-packages.ensures homes
    c.in_ok-homes.ensures.homes c.in_ok-homes.ensures.reasons c.in_ok-homes.ensures.order (c.in-Ok.ensures.homes (tables_of x) (map given_home homes) first) c.in-Ok.ensures.packages
    c.in-Ok.read.items c.in-Ok.ensures.reasons c.deref.result.now c.deref.ensures.value c.deref-2.result.now c.deref-2.ensures.value c.in-Ok.ensures.read
    c.deref-in-Ok.result.now c.deref-in-Ok.ensures.value c.deref-in-Ok-2.result.now c.deref-in-Ok-2.ensures.value

pub returns-clause-absent : goal.returns-clause-absent
returns-clause-absent c = λ pieces f.
    let x = c.args.followed.now in
    let homes = c.in_ok-homes.homes.items in
    let first = c.in_ok-homes.ensures.stand (tables_of x) (ap (λ (t : Tables). t.paths) (sym c.requires.tables)) c.requires.paths in
    none_read c.args.wanted pieces c.in-Err.refusal _
    (none_meant pieces x f c.args.tables.now.facts.now c.requires.known c.homes_of.new.packages homes first (numbered_tables c.args.tables.now) c.requires.tables
    c.deref.result.now c.deref.ensures.value c.deref-2.result.now c.deref-2.ensures.value) c.in-Err.ensures.absent
