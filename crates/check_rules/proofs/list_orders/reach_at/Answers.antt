use Rattle.std.proofs.{Common.◌≡◌, Common.refl, Common.sym, Common.ap, Common.◌∙◌, Common.rules, Common.None, lemmas.Option.slice_get_read}
use Rattle.wit_model.specs.{Parts.kind_numbers, Checks.entry_of, Checks.highest, Checks.reach_of}
use Rattle.wit_model.proofs.Checks.{below_at}
use Rattle.check_rules.proofs.{LevelTable.highest_same, Ordered.reach_named, Ordered.reach_unnamed}
use Rattle.check_rules.proofs.list_orders.reach_at.Goals as goal

pub returns-in-Some : goal.returns-in-Some
returns-in-Some c =
    let r = c.args.resolve.now in
    let def = c.index-def.result.now in
    let at = slice_get_read r.types.items _ c.args.number def refl c.requires.in_range c.index-def.ensures in
    c.in_ok-rank.ensures ∙ sym (reach_named r c.requires.below c.args.number def at c.in-Some.name c.in-Some.is)

pub returns : goal.returns
returns c =
    let r = c.args.resolve.now in
    let def = c.index-def.result.now in
    let table = c.args.table.now in
    let at = slice_get_read r.types.items _ c.args.number def refl c.requires.in_range c.index-def.ensures in
    let lent : c.deref.result.now ≡ kind_numbers def.kind = cc (c.in_ok-numbers.ensures) in
    let unnamed : def.name ≡ None = search rules in
    c.highest.ensures ∙ (ap (highest (entry_of table)) lent ∙ (highest_same (entry_of table) (reach_of r) c.args.number (kind_numbers def.kind) c.requires.earlier
    (below_at r c.requires.below c.args.number def at) ∙ sym (reach_unnamed r c.requires.below c.args.number def at unnamed)))
