use Rattle.std.proofs.Common.{refl, arith, ◌+◌}
use Rattle.plan_meaning.specs.Built.{part_of}
use Rattle.wit_model.specs.Tree.{Form}
use Rattle.read_rules.specs.Tables.{numbered_shape}
use Rattle.plan_parts.proofs.KindLaws.{borrow_form, fixed_form, handle_part, list_form, option_form, own_form, single, single_part}
use Rattle.plan_parts.proofs.kinds.simple_kind.Goals as goal

pub part_at-requires-clause-there : goal.part_at-requires-clause-there
part_at-requires-clause-there c = let s = numbered_shape c.args.shape in omega (arith, single_part c.args.kept.now s c.requires.form Form.list_of (list_form s c.in-3.is) (λ n. refl))

pub part_at-requires-in-4-clause-there : goal.part_at-requires-in-4-clause-there
part_at-requires-in-4-clause-there c = let s = numbered_shape c.args.shape in
    omega (arith, single_part c.args.kept.now s c.requires.form (Form.fixed_list_of c.args.shape.number) (fixed_form s c.in-4.is) (λ n. refl))

pub part_at-requires-in-5-clause-there : goal.part_at-requires-in-5-clause-there
part_at-requires-in-5-clause-there c = let s = numbered_shape c.args.shape in omega (arith, single_part c.args.kept.now s c.requires.form Form.option_of (option_form s c.in-5.is) (λ n. refl))

pub held_type-requires-clause-there : goal.held_type-requires-clause-there
held_type-requires-clause-there c = let s = numbered_shape c.args.shape in single_part c.args.kept.now s c.requires.form Form.own_of (own_form s c.in-6.is) (λ n. refl)

pub held_type-requires-clause-type_ : goal.held_type-requires-clause-type_
held_type-requires-clause-type_ c = let s = numbered_shape c.args.shape in handle_part c.args.kept.now s c.requires.form Form.own_of (own_form s c.in-6.is) refl

pub held_type-requires-in-7-clause-there : goal.held_type-requires-in-7-clause-there
held_type-requires-in-7-clause-there c = let s = numbered_shape c.args.shape in single_part c.args.kept.now s c.requires.form Form.borrow_of (borrow_form s c.in-7.is) (λ n. refl)

pub held_type-requires-in-7-clause-type_ : goal.held_type-requires-in-7-clause-type_
held_type-requires-in-7-clause-type_ c = let s = numbered_shape c.args.shape in handle_part c.args.kept.now s c.requires.form Form.borrow_of (borrow_form s c.in-7.is) refl

pub returns-in-3 : goal.returns-in-3
returns-in-3 c = let s = numbered_shape c.args.shape in single c.args.kept.now s c.requires.form Form.list_of (list_form s c.in-3.is) (λ n. refl) (part_of c.part_at.result) c.part_at.ensures

pub returns-in-4 : goal.returns-in-4
returns-in-4 c = let s = numbered_shape c.args.shape in single c.args.kept.now s c.requires.form (Form.fixed_list_of c.args.shape.number) (fixed_form s c.in-4.is) (λ n. refl)
    (part_of c.part_at-in-4.result) c.part_at-in-4.ensures

pub returns-in-5 : goal.returns-in-5
returns-in-5 c = let s = numbered_shape c.args.shape in single c.args.kept.now s c.requires.form Form.option_of (option_form s c.in-5.is) (λ n. refl) (part_of c.part_at-in-5.result)
    c.part_at-in-5.ensures

pub returns-in-6 : goal.returns-in-6
returns-in-6 c = let s = numbered_shape c.args.shape in single c.args.kept.now s c.requires.form Form.own_of (own_form s c.in-6.is) (λ n. refl) (14 + c.held_type.result.0) c.held_type.ensures

pub returns-in-7 : goal.returns-in-7
returns-in-7 c = let s = numbered_shape c.args.shape in single c.args.kept.now s c.requires.form Form.borrow_of (borrow_form s c.in-7.is) (λ n. refl) (14 + c.held_type-in-7.result.0)
    c.held_type-in-7.ensures
