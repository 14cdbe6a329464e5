use Rattle.std.proofs.Common.{sym, ap, ◌∙◌}
use Rattle.bind_keys.specs.Tables.{number_at, TableValue}
use Rattle.bind_keys.proofs.TableKeys.{position_is}
use Rattle.bind_keys.proofs.table.Table.at.Goals as goal

pub returns-else-eq : goal.returns-else-eq
returns-else-eq c =
    let front = c.args.front.now in
    c.at_number.ensures front (c.get_index_of.ensures.index ∙ (position_is c.self.inside.fronts.keys front ∙ ap (λ (t : TableValue). number_at t.fronts front) c.self.view_is))
    (sym c.eq.ensures ∙ c.if-eq.false) c.requires.bare
