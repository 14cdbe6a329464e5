use Rattle.std.proofs.Common.{[], ◌∷◌, ap, append_assoc}
use Rattle.std.specs.Prelude.{codes}
use Rattle.print_output.specs.OutputCall.OutputCall.{Str, Ty}
use Rattle.print_output.specs.declared.type_kind.TypeKind.TheVariants.{BuiltIn}
use Rattle.print_items.specs.Shown.{shown_type}
use Rattle.print_grammar.specs.Calls.{type_calls}
use Rattle.print_items.proofs.Driven.{driven3}
use Rattle.print_items.proofs.alias.write_map.Goals as goal

pub returns-clause-calls : goal.returns-clause-calls
returns-clause-calls g c =
    let key = type_calls (shown_type c.args.resolve.now c.args.key.now) in
    let value = type_calls (shown_type c.args.resolve.now c.args.value.now) in
    driven3 c.write_angle.ensures.calls c.write_two.ensures.calls c.str.ensures.calls
    (ap (λ x. Ty (codes "map") BuiltIn ∷ Str (codes "<") ∷ x) (append_assoc key (Str (codes ", ") ∷ value) (Str (codes ">") ∷ [])))
