use Rattle.std.proofs.Common.{◌∙◌, refl, arith, true, false, ◌∷◌, []}
use Rattle.plan_meaning.specs.Built.{part_of}
use Rattle.wit_model.specs.Tree.{Form}
use Rattle.read_rules.specs.Tables.{numbered_shape}
use Rattle.plan_parts.proofs.KindLaws.{both_given, double_part, empty_part, first_alone, formed_over, neither, no_parts, result_form, second_alone, single, single_part, two_parts}
use Rattle.plan_parts.proofs.kinds.result_kind.Goals as goal

pub part_at-requires-clause-there : goal.part_at-requires-clause-there
part_at-requires-clause-there c =
    let s = numbered_shape c.args.shape in
    omega (arith, single_part c.args.kept.now s c.requires.form (Form.result_of true false) (result_form s c.requires.sort ∙ first_alone c.args.shape.number c.if-shape-eq1.true) (λ n. refl))

pub part_at-requires-then-shape-eq2-clause-there : goal.part_at-requires-then-shape-eq2-clause-there
part_at-requires-then-shape-eq2-clause-there c =
    let s = numbered_shape c.args.shape in
    omega (arith, single_part c.args.kept.now s c.requires.form (Form.result_of false true) (result_form s c.requires.sort ∙ second_alone c.args.shape.number c.if-shape-eq2.true) (λ n. refl))

pub part_at-first-requires-clause-there : goal.part_at-first-requires-clause-there
part_at-first-requires-clause-there c =
    let s = numbered_shape c.args.shape in
    omega (arith, double_part c.args.kept.now s c.requires.form (Form.result_of true true) (result_form s c.requires.sort ∙ both_given c.args.shape.number c.if-shape-eq3.true) (λ n. refl))

pub part_at-requires-then-shape-eq3-clause-there : goal.part_at-requires-then-shape-eq3-clause-there
part_at-requires-then-shape-eq3-clause-there c =
    let s = numbered_shape c.args.shape in
    omega (arith, double_part c.args.kept.now s c.requires.form (Form.result_of true true) (result_form s c.requires.sort ∙ both_given c.args.shape.number c.if-shape-eq3.true) (λ n. refl))

pub returns-then-shape-eq1 : goal.returns-then-shape-eq1
returns-then-shape-eq1 c =
    let s = numbered_shape c.args.shape in
    single c.args.kept.now s c.requires.form (Form.result_of true false) (result_form s c.requires.sort ∙ first_alone c.args.shape.number c.if-shape-eq1.true) (λ n. refl) (part_of c.part_at.result)
    c.part_at.ensures

pub returns-then-shape-eq2 : goal.returns-then-shape-eq2
returns-then-shape-eq2 c =
    let s = numbered_shape c.args.shape in
    single c.args.kept.now s c.requires.form (Form.result_of false true) (result_form s c.requires.sort ∙ second_alone c.args.shape.number c.if-shape-eq2.true) (λ n. refl)
    (part_of c.part_at-then-shape-eq2.result) c.part_at-then-shape-eq2.ensures

pub returns-then-shape-eq3 : goal.returns-then-shape-eq3
returns-then-shape-eq3 c =
    let s = numbered_shape c.args.shape in
    let is = result_form s c.requires.sort ∙ both_given c.args.shape.number c.if-shape-eq3.true in
    formed_over c.args.kept.now s c.requires.form (Form.result_of true true) (part_of c.part_at-first.result ∷ part_of c.part_at-then-shape-eq3.result ∷ []) is
    (two_parts c.args.kept.now s.parts _ _ (double_part c.args.kept.now s c.requires.form (Form.result_of true true) is (λ n. refl)) c.part_at-first.ensures c.part_at-then-shape-eq3.ensures)

pub returns-else-shape-eq3 : goal.returns-else-shape-eq3
returns-else-shape-eq3 c =
    let s = numbered_shape c.args.shape in
    let is = result_form s c.requires.sort ∙ neither c.args.shape.number c.if-shape-eq1.false c.if-shape-eq2.false c.if-shape-eq3.false in
    formed_over c.args.kept.now s c.requires.form (Form.result_of false false) [] is
    (no_parts c.args.kept.now s.parts (empty_part c.args.kept.now s c.requires.form (Form.result_of false false) is (λ n. refl)))
