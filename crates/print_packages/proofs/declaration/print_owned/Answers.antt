use Rattle.std.proofs.Common.{◌≡◌, true, [], ◌∷◌, ◌∙◌, ap, filter, map, refl, sym, subst, OnOk, OnErr}
use Rattle.wit_model.specs.Rules.{in_list}
use Rattle.print_output.specs.{OutputCall.Moves, OutputCall.Begins, OutputCall.Begins.nothing_begun}
use Rattle.print_items.specs.Shown.{belongs_to, declared_of, present_name, shown_declared, shown_prefix}
use Rattle.print_grammar.specs.{Tree.MemberTree.TypeMember, Calls.members_calls, WellNamed.is_well_declared, WellNamed.is_well_prefix}
use Rattle.print_items.proofs.TypeParts.{read_at}
use Rattle.print_uses.proofs.Declarations.{declaration_at, members_shown, printable_at}
use Rattle.base_lemmas.proofs.{Bools.left_of, Bools.right_of, Options.at_err}
use Rattle.print_packages.proofs.declaration.print_owned.Goals as goal

pub returns-in_err-members-clause-err : goal.returns-in_err-members-clause-err
returns-in_err-members-clause-err g c = at_err c.from_residual.result (nothing_begun refl)

pub print_declaration-requires : goal.print_declaration-requires
print_declaration-requires g c =
    let r = c.args.resolve.now in
    let def = c.index-def.result.now in
    let fs = map (λ f. f.now) c.args.functions.now in
    let at = read_at _ _ _ (left_of (in_list r.types.items c.args.id.0) _ c.requires.printable) c.index-def.ensures in
    let members = members_shown r c.deref.result.now (filter (belongs_to c.args.id) fs) (ap (map (λ f. f.now)) c.deref.ensures.value ∙ c.in_ok-members.ensures) in
    let well = printable_at r fs c.args.id def at c.requires.printable in
    record {
      valid = c.requires.valid;
      at = at;
      prefix = left_of _ _ well;
      well = subst (λ ms. is_well_declared (declared_of r (present_name def.name) ms def.kind) ≡ true) (sym members)
          (right_of (is_well_prefix (shown_prefix def.docs def.stability def.external_id)) (is_well_declared (shown_declared r fs c.args.id def)) well);
    }

pub returns : goal.returns
returns g c =
    let r = c.args.resolve.now in
    let def = c.index-def.result.now in
    let fs = map (λ f. f.now) c.args.functions.now in
    let at = read_at _ _ _ (left_of (in_list r.types.items c.args.id.0) _ c.requires.printable) c.index-def.ensures in
    let members = members_shown r c.deref.result.now (filter (belongs_to c.args.id) fs) (ap (map (λ f. f.now)) c.deref.ensures.value ∙ c.in_ok-members.ensures) in
    let same = ap (λ ms. members_calls c.args.emits_docs c.args.has_printed (TypeMember (shown_prefix def.docs def.stability def.external_id) (declared_of r (present_name def.name) ms def.kind) ∷ []))
    members ∙ ap (members_calls c.args.emits_docs c.args.has_printed) (sym (declaration_at r fs c.args.id def at)) in
    record {
      ok = subst (λ calls. OnOk c.print_declaration.result (Moves g.O.Output.keeps (g.O.Output.view c.args.output.now) calls (g.O.Output.view c.print_declaration.new.output))) same
          c.print_declaration.ensures.ok;
      err = subst (λ calls. OnErr c.print_declaration.result (Begins g.O.Output.keeps (g.O.Output.view c.args.output.now) calls (g.O.Output.view c.print_declaration.new.output))) same
          c.print_declaration.ensures.err;
      memory = c.print_declaration.ensures.memory;
    }
