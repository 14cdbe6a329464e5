use Rattle.std.proofs.Common.{◌≡◌, ◌∙◌, subst, sym, true, OnOk, OnErr}
use Rattle.wit_model.specs.Names.{is_label}
use Rattle.print_output.specs.OutputCall.{Moves, Begins}
use Rattle.print_grammar.specs.{Calls.world_extern_calls, WellNamed.is_well_extern}
use Rattle.print_items.specs.Shown.{shown_prefix}
use Rattle.print_items.proofs.TypeParts.{read_at}
use Rattle.print_packages.proofs.PrintableItems.{inline_tree, named_tree}
use Rattle.base_lemmas.proofs.Bools.{right_of}
use Rattle.print_packages.proofs.extern_item.print_labelled.Goals as goal

pub print_labelled_path-requires-clause-path : goal.print_labelled_path-requires-clause-path
print_labelled_path-requires-clause-path g c =
    let at = read_at _ _ _ c.requires.in_range c.index-interface.ensures in
    let tree = named_tree c.args.resolve.now c.args.here c.args.label.now c.args.id c.index-interface.result.now at (sym c.is_some.ensures ∙ c.if-is_some.true) in
    right_of (is_label c.args.label.now) _ (subst (λ t. is_well_extern t ≡ true) tree c.requires.well)

pub returns-then-is_some : goal.returns-then-is_some
returns-then-is_some g c =
    let at = read_at _ _ _ c.requires.in_range c.index-interface.ensures in
    let tree = named_tree c.args.resolve.now c.args.here c.args.label.now c.args.id c.index-interface.result.now at (sym c.is_some.ensures ∙ c.if-is_some.true) in
    let prefix = shown_prefix c.args.docs.now c.args.stability.now c.args.external_id.now in
    record {
      ok = subst (λ t. OnOk c.print_labelled_path.result (Moves g.O.Output.keeps (g.O.Output.view c.args.output.now) (world_extern_calls c.args.emits_docs prefix c.args.word.now t)
          (g.O.Output.view c.print_labelled_path.new.output))) (sym tree) c.print_labelled_path.ensures.ok;
      err = subst (λ t. OnErr c.print_labelled_path.result (Begins g.O.Output.keeps (g.O.Output.view c.args.output.now) (world_extern_calls c.args.emits_docs prefix c.args.word.now t)
          (g.O.Output.view c.print_labelled_path.new.output))) (sym tree) c.print_labelled_path.ensures.err;
      memory = c.print_labelled_path.ensures.memory;
    }

pub print_inline-requires-clause-at : goal.print_inline-requires-clause-at
print_inline-requires-clause-at g c = read_at _ _ _ c.requires.in_range c.index-interface.ensures

pub returns : goal.returns
returns g c =
    let at = read_at _ _ _ c.requires.in_range c.index-interface.ensures in
    let tree = inline_tree c.args.resolve.now c.args.here c.args.label.now c.args.id c.index-interface.result.now at (sym c.is_some.ensures ∙ c.if-is_some.false) in
    let prefix = shown_prefix c.args.docs.now c.args.stability.now c.args.external_id.now in
    record {
      ok = subst (λ t. OnOk c.print_inline.result (Moves g.O.Output.keeps (g.O.Output.view c.args.output.now) (world_extern_calls c.args.emits_docs prefix c.args.word.now t)
          (g.O.Output.view c.print_inline.new.output))) (sym tree) c.print_inline.ensures.ok;
      err = subst (λ t. OnErr c.print_inline.result (Begins g.O.Output.keeps (g.O.Output.view c.args.output.now) (world_extern_calls c.args.emits_docs prefix c.args.word.now t)
          (g.O.Output.view c.print_inline.new.output))) (sym tree) c.print_inline.ensures.err;
      memory = c.print_inline.ensures.memory;
    }
