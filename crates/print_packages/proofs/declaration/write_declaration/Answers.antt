use Rattle.std.proofs.Common.{◌∙◌, map, append_assoc}
use Rattle.print_items.specs.Shown.{declared_of, present_name, shown_prefix, shown_resource_member}
use Rattle.print_grammar.specs.Calls.{line_after_calls}
use Rattle.print_uses.proofs.Declarations.{declaration_alone}
use Rattle.print_items.proofs.Driven.{driven, driven_on}
use Rattle.print_packages.proofs.declaration.write_declaration.Goals as goal

pub write_declared-requires-clause-well : goal.write_declared-requires-clause-well
write_declared-requires-clause-well g c = rw c.present-name.ensures c.requires.well

pub returns : goal.returns
returns g c =
    let def = c.args.def.now in
    let members = map (λ f. shown_resource_member c.args.resolve.now f.now) c.args.functions.now in
    record {
      calls = driven_on (driven c.write_line_before.ensures.calls c.write_prefix.ensures.calls) (rw c.present-name.ensures at c.write_declared.ensures.calls)
          (append_assoc (line_after_calls c.args.has_printed) _ _ ∙ declaration_alone c.args.emits_docs c.args.has_printed (shown_prefix def.docs def.stability def.external_id)
          (declared_of c.args.resolve.now (present_name def.name) members def.kind));
    }
