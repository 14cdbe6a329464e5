use Rattle.std.proofs.Common.{subst, OnOk, OnErr}
use Rattle.wit_model.specs.{Names.is_label, Rules.in_list, Rules.passes, Text.text_of}
use Rattle.print_output.specs.OutputCall.{Moves, Begins}
use Rattle.print_items.specs.Shown.{shown_gates, shown_interface_item}
use Rattle.print_items.proofs.TypeParts.{read_at}
use Rattle.print_grammar.specs.WellNamed.{is_well_gates, is_well_item}
use Rattle.print_packages.proofs.PackageCalls.{interface_calls_at, listed_interface_well}
use Rattle.base_lemmas.proofs.Bools.{left_of, right_of}
use Rattle.print_packages.proofs.package.print_listed_interface.Goals as goal

pub print_interface-requires : goal.print_interface-requires
print_interface-requires g c =
    let at = read_at _ _ _ (left_of (in_list c.args.resolve.now.interfaces.items c.args.id.now.0)
    (passes is_well_item (shown_interface_item c.args.resolve.now (c.args.name.now, c.args.id.now))) c.requires.printable) c.index-interface.ensures in
    let well = listed_interface_well c.args.resolve.now (c.args.name.now, c.args.id.now) c.index-interface.result.now at c.requires.printable in
    record {
      valid = c.requires.valid;
      at = at;
      gates = left_of (is_well_gates (shown_gates c.index-interface.result.now.stability)) (is_label (text_of c.args.name.now)) well;
      name = rw c.deref.ensures (right_of (is_well_gates (shown_gates c.index-interface.result.now.stability)) _ well);
    }

pub returns : goal.returns
returns g c =
    let at = read_at _ _ _ (left_of (in_list c.args.resolve.now.interfaces.items c.args.id.now.0)
    (passes is_well_item (shown_interface_item c.args.resolve.now (c.args.name.now, c.args.id.now))) c.requires.printable) c.index-interface.ensures in
    let same = interface_calls_at c.args.emits_docs c.args.is_main c.args.resolve.now (c.args.name.now, c.args.id.now) c.index-interface.result.now c.deref.result.now c.deref.ensures at in
    record {
      ok = subst (λ calls. OnOk c.print_interface.result (Moves g.O.Output.keeps (g.O.Output.view c.args.output.now) calls (g.O.Output.view c.print_interface.new.output))) same
          c.print_interface.ensures.ok;
      err = subst (λ calls. OnErr c.print_interface.result (Begins g.O.Output.keeps (g.O.Output.view c.args.output.now) calls (g.O.Output.view c.print_interface.new.output))) same
          c.print_interface.ensures.err;
      memory = c.print_interface.ensures.memory;
    }
