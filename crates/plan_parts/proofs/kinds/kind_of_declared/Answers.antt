use Rattle.std.proofs.Common.{refl, subst, option_map}
use Rattle.read_rules.specs.Tables.{numbered_shape, numbered_tables}
use Rattle.plan_parts.specs.Kinds.{IsFormAt, a_name}
use Rattle.plan_parts.proofs.KindLaws.{a_kept_part, an_over_form, form_kind}
use Rattle.plan_parts.proofs.kinds.kind_of_declared.Goals as goal

pub kind_of_form-requires : goal.kind_of_form-requires
kind_of_form-requires c =
    let t = numbered_tables c.args.tables.now in
    let at = subst (λ o. IsFormAt t c.in-Some.part (option_map numbered_shape o)) c.in-Some-form_at.is c.form_at.ensures in
    an_over_form t c.args.kept.now c.args.declared c.in-Some.part c.in-Some.is c.requires at.0 (numbered_shape c.in-Some-form_at.shape) at.1

pub returns-in-Some-form_at : goal.returns-in-Some-form_at
returns-in-Some-form_at c =
    let t = numbered_tables c.args.tables.now in
    let at = subst (λ o. IsFormAt t c.in-Some.part (option_map numbered_shape o)) c.in-Some-form_at.is c.form_at.ensures in
    form_kind t c.args.kept.now c.kind_of_form.result c.args.declared c.in-Some.part (numbered_shape c.in-Some-form_at.shape) c.in-Some.is at.0 at.1 c.kind_of_form.ensures

pub part-requires : goal.part-requires
part-requires c =
    let t = numbered_tables c.args.tables.now in
    a_kept_part t c.args.kept.now c.args.declared c.in-Some.part c.in-Some.is c.requires (subst (λ o. IsFormAt t c.in-Some.part (option_map numbered_shape o)) c.in-None.is c.form_at.ensures)

pub returns-in-None : goal.returns-in-None
returns-in-None c =
    let t = numbered_tables c.args.tables.now in
    a_name c.in-Some.part _ c.in-Some.is (subst (λ o. IsFormAt t c.in-Some.part (option_map numbered_shape o)) c.in-None.is c.form_at.ensures) c.part.ensures refl
