use Rattle.std.proofs.Common.{sym, ap, ◌∙◌}
use Rattle.std.specs.List.{list_all}
use Rattle.wit_model.specs.Uses.{has}
use Rattle.plan_meaning.specs.NumberedWorlds.{others_than, used_by}
use Rattle.read_rules.specs.Tables.{numbered_tables}
use Rattle.read_rules.proofs.AllLaws.{all_pass, one_fails, one_passes}
use Rattle.read_rules.proofs.uses.types_stand.Goals as goal

pub returns-then-not-stands : goal.returns-then-not-stands
returns-then-not-stands c = one_fails (λ x. list_all (has c.args.earlier.now.keys) (others_than c.args.own (used_by (numbered_tables c.args.tables.now) x.declared))) c.args.types.now
    c.loop-ty.ty-index c.loop-ty.invariant _ c.loop-ty-test.true (ap (list_all (has c.args.earlier.now.keys)) (ap (others_than c.args.own) (sym c.used_by.ensures) ∙ sym c.other_than.ensures)
    ∙ sym c.if-not-stands.ensures)

pub loop-ty-preserved : goal.loop-ty-preserved
loop-ty-preserved c = one_passes (λ x. list_all (has c.args.earlier.now.keys) (others_than c.args.own (used_by (numbered_tables c.args.tables.now) x.declared))) c.args.types.now c.loop-ty.ty-index
    c.loop-ty.invariant _ c.loop-ty-test.true (ap (list_all (has c.args.earlier.now.keys)) (ap (others_than c.args.own) (sym c.used_by.ensures) ∙ sym c.other_than.ensures)
    ∙ sym c.if-not-stands.ensures)

pub returns : goal.returns
returns c = all_pass (λ x. list_all (has c.args.earlier.now.keys) (others_than c.args.own (used_by (numbered_tables c.args.tables.now) x.declared))) c.args.types.now c.loop-ty.ty-index
    c.loop-ty.invariant c.loop-ty-test.false
