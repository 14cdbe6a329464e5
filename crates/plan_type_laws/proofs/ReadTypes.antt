-- The types of a plan of what was read, whole.
use Rattle.std.proofs.Common.{ℕ}
use Rattle.plan_types.specs.{FirstShown.first_showing, Showings.showings_of_members, Showings.signatures_of_members}
use Rattle.plan_type_laws.proofs.{FirstFound.firsts_found, FormsObeyed.forms_obeyed, PlanTypes.types_are_kept, ShownRules.names_obey, ShownRules.shown_obeys}
use Rattle.plan_type_laws.proofs.{KeptMarks.marks_kept, ShownMarks.names_marked}
use Rattle.plan_type_laws.specs.ReadTypes.{PlannedTypesAreRead}

pub types_are_read : PlannedTypesAreRead
types_are_read t h ms members input kept p owners plan =
    let showings = showings_of_members ms in
    let signatures = signatures_of_members ms in
    let find = λ (n : ℕ). first_showing n showings in
    let finds = (firsts_found showings).0 in
    let rules = shown_obeys t input.tables h input.homes ms members input.shown input.stand input.interfaces input.numbers input.placed.names in
    let marks = names_marked t input.tables h input.homes ms members input.shown input.stand input.kinds input.numbers input.placed in
    record {
      types = types_are_kept t input.tables showings rules.declared signatures rules.called (forms_obeyed t input.tables input.lengths h ms members input.shown input.stand) plan.marks plan.used kept
          plan.marked p owners find finds plan.types (names_obey t input.tables showings rules.names find finds p owners plan.marks plan.places);
      told = marks;
      marked = marks_kept t input.tables showings signatures marks plan.marks plan.used kept plan.marked p owners find finds plan.types;
    }
