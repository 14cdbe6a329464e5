use Rattle.std.proofs.{Common.sym, lemmas.List.Folds.list_all-map}
use Rattle.plan_meaning.specs.NumberedRules.{is_type}
use Rattle.read_rules.specs.{Tables.known_in, Tables.numbered_tables, Views.numbered_type}
use Rattle.read_rules.proofs.AllLaws.{all_pass, one_fails, one_passes}
use Rattle.read_rules.proofs.interfaces.are_types.Goals as goal

pub loop-ty-init : goal.loop-ty-init
loop-ty-init c = sym (list_all-map (is_type (numbered_tables c.args.tables.now) (known_in c.args.tables.now) c.args.place) numbered_type c.args.types.now)

pub returns-then-not-is_type : goal.returns-then-not-is_type
returns-then-not-is_type c = one_fails (λ x. is_type (numbered_tables c.args.tables.now) (known_in c.args.tables.now) c.args.place (numbered_type x)) c.args.types.now c.loop-ty.ty-index
    c.loop-ty.invariant _ c.loop-ty-test.true (sym c.if-not-is_type.ensures)

pub loop-ty-preserved : goal.loop-ty-preserved
loop-ty-preserved c = one_passes (λ x. is_type (numbered_tables c.args.tables.now) (known_in c.args.tables.now) c.args.place (numbered_type x)) c.args.types.now c.loop-ty.ty-index c.loop-ty.invariant
    _ c.loop-ty-test.true (sym c.if-not-is_type.ensures)

pub returns : goal.returns
returns c =
    all_pass (λ x. is_type (numbered_tables c.args.tables.now) (known_in c.args.tables.now) c.args.place (numbered_type x)) c.args.types.now c.loop-ty.ty-index c.loop-ty.invariant c.loop-ty-test.false
