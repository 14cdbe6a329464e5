use Rattle.std.proofs.Common.{ap, sym, ◌∙◌}
use Rattle.wit_model.specs.{Names.is_label, Text.text_of}
use Rattle.print_grammar.specs.Calls.{path_calls}
use Rattle.print_items.specs.Shown.{full_path, present_name}
use Rattle.print_uses.proofs.PathParts.{full_path_at, full_path_well}
use Rattle.print_items.proofs.Driven.{driven_as}
use Rattle.base_lemmas.proofs.Bools.{left_of, right_of}
use Rattle.print_uses.proofs.path.write_path_to.Goals as goal

pub write_full_path-requires : goal.write_full_path-requires
write_full_path-requires g c =
    let well = full_path_well c.args.resolve.now c.args.here c.args.interface.now c.in-Some.other c.index-owner.result.now c.requires.placed c.in-Some.is c.if-other-here.false c.index-owner.ensures
    c.requires.well in
    let named = right_of (is_label (text_of c.index-owner.result.now.name.namespace)) _ well in
    let rest = right_of (is_label (text_of c.index-owner.result.now.name.name)) _ named in
    record {
      namespace = left_of _ _ well;
      name = left_of _ _ named;
      version = right_of (is_label (present_name c.args.interface.now.name)) _ rest;
      interface = rw c.present-name.ensures (left_of _ _ rest);
    }

pub returns-clause-calls : goal.returns-clause-calls
returns-clause-calls g c =
    let same = full_path_at c.args.resolve.now c.args.here c.args.interface.now c.in-Some.other c.index-owner.result.now c.requires.placed c.in-Some.is c.if-other-here.false c.index-owner.ensures in
    driven_as c.write_full_path.ensures.calls (ap (λ t. path_calls (full_path t c.index-owner.result.now)) c.present-name.ensures ∙ ap path_calls (sym same))
