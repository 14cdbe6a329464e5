use Rattle.std.proofs.Common.{◌∙◌, ap, sym, arith, length, map, List}
use Rattle.plan_meaning.specs.Shapes.{Shape}
use Rattle.read_parts.specs.Exported.{raw_exported}
use Rattle.read_parts.proofs.{InputLaws.some_there, MemberLaws.whole_meant}
use Rattle.read_parts.proofs.following.follow_all.Goals as goal

pub returns-in-Ok-clause-followed : goal.returns-in-Ok-clause-followed
returns-in-Ok-clause-followed c =
    let f = c.in-Ok.ensures.followed in
    let raws = map raw_exported c.args.parts.now in
    let none = ap (λ (ss : List Shape). length ss) c.new-table.ensures in
    let count = f.count in
    record {
      tables = f.tables;
      functions_apart = c.are_apart.ensures;
      paths_apart = c.are_apart-in-Ok.ensures;
      paths_read = c.are_read.ensures;
      stand = f.stand;
      count = omega (arith, none, count);
      numbers = c.in-Ok.ensures.numbered;
      placed = f.placed;
      names = f.names;
      met = f.met;
      order = f.order;
      formed = f.formed;
      staged = f.staged;
      shows = λ place of. some_there c.args.parts.now (sym c.if-is_empty.ensures) ∙ whole_meant (length c.new-table.result) raws c.follow_each.new.table c.follow_each.new.functions
          c.follow_each.new.places c.in-Ok.members.items f place of;
    }
