use Rattle.std.proofs.Common.{subst}
use Rattle.read_exports.specs.Members.{homes_in}
use Rattle.read_rules.specs.Tables.{known_in, numbered_tables}
use Rattle.comp_read.specs.WorldsRead.{IsOneWorld}
use Rattle.comp_read.proofs.WorldReadLaws.{no_world, world_read}
use Rattle.comp_read.proofs.worlds.world_of_members.Goals as goal

pub built_world-requires-clause-read : goal.built_world-requires-clause-read
built_world-requires-clause-read c =
    let t = numbered_tables c.args.tables.now in
    let h = homes_in c.args.packages.now c.args.homes.now in
    let ms = c.args.members.now in
    world_read c.args.followed.now t c.args.tables.now.facts.now h ms c.requires.read c.requires.followed.pieces c.requires.followed.followed c.in-Some.world c.in-Some.scope
    (subst (IsOneWorld t h (known_in c.args.tables.now) ms) c.in-Some.is (c.in_ok-world.ensures c.args.packages.now))

pub returns-in_ok-cause_of_no_world-in-None-clause-absent : goal.returns-in_ok-cause_of_no_world-in-None-clause-absent
returns-in_ok-cause_of_no_world-in-None-clause-absent c = λ pieces followed.
    let t = numbered_tables c.args.tables.now in
    let h = homes_in c.args.packages.now c.args.homes.now in
    let ms = c.args.members.now in
    no_world c.args.followed.now t c.args.tables.now.facts.now h ms c.requires.read pieces followed
    (subst (IsOneWorld t h (known_in c.args.tables.now) ms) c.in-None.is (c.in_ok-world.ensures c.args.packages.now))
