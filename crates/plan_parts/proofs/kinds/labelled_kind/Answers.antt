use Rattle.std.proofs.{Common.◌≡◌, Common.◌∙◌, Common.ap, Common.sym, Common.refl, Common.map, Common.[], lemmas.Bool.eqb-true}
use Rattle.wit_model.specs.Tree.{Form}
use Rattle.read_rules.specs.Tables.{label_of, numbered_shape}
use Rattle.plan_parts.proofs.KindLaws.{counted, empty_part, enum_form, flags_form, formed_over, last_labelled, no_parts, record_form, variant_form}
use Rattle.plan_parts.proofs.kinds.labelled_kind.Goals as goal
use Rattle.base_lemmas.proofs.Lists.{length_of_map as length_mapped}

pub fields_of-requires-clause-many : goal.fields_of-requires-clause-many
fields_of-requires-clause-many c =
    let s = numbered_shape c.args.shape in
    eqb-true _ _ (counted c.args.kept.now s c.requires.form (Form.record_of (map (λ l. l.0) s.labels)) (record_form s c.if-shape-eq1.true))
    ∙ (length_mapped (λ l. l.0) (map label_of c.args.shape.labels.now) ∙ length_mapped label_of c.args.shape.labels.now)

pub cases_of-requires-clause-many : goal.cases_of-requires-clause-many
cases_of-requires-clause-many c = let s = numbered_shape c.args.shape in eqb-true _ _ (counted c.args.kept.now s c.requires.form (Form.variant_of s.labels) (variant_form s c.if-shape-eq2.true))

pub returns-then-shape-eq1 : goal.returns-then-shape-eq1
returns-then-shape-eq1 c =
    let s = numbered_shape c.args.shape in
    formed_over c.args.kept.now s c.requires.form _ _ (record_form s c.if-shape-eq1.true ∙ ap Form.record_of (sym c.in_ok-fields.ensures.names)) c.in_ok-fields.ensures.parts

pub returns-then-shape-eq2 : goal.returns-then-shape-eq2
returns-then-shape-eq2 c =
    let s = numbered_shape c.args.shape in
    formed_over c.args.kept.now s c.requires.form _ _ (variant_form s c.if-shape-eq2.true ∙ ap Form.variant_of (sym c.in_ok-cases.ensures.names)) c.in_ok-cases.ensures.parts

pub returns-then-shape-eq10 : goal.returns-then-shape-eq10
returns-then-shape-eq10 c =
    let s = numbered_shape c.args.shape in
    formed_over c.args.kept.now s c.requires.form _ [] (flags_form s c.if-shape-eq10.true ∙ ap Form.flags_of (sym c.in_ok-names.ensures))
    (no_parts c.args.kept.now s.parts (empty_part c.args.kept.now s c.requires.form _ (flags_form s c.if-shape-eq10.true) (λ n. refl)))

pub returns-else-shape-eq10 : goal.returns-else-shape-eq10
returns-else-shape-eq10 c =
    let s = numbered_shape c.args.shape in
    let last : s.sort ≡ 11 = last_labelled c.args.shape.sort c.requires.sort c.if-shape-eq1.false c.if-shape-eq2.false c.if-shape-eq10.false in
    formed_over c.args.kept.now s c.requires.form _ [] (enum_form s last ∙ ap Form.enum_of (sym c.in_ok-names.ensures))
    (no_parts c.args.kept.now s.parts (empty_part c.args.kept.now s c.requires.form _ (enum_form s last) (λ n. refl)))
