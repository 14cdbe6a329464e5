use Rattle.std.proofs.Common.{rules, ◌≡◌, ◌∙◌, sym, subst}
use Rattle.std.specs.List.{AllZip}
use Rattle.wit_model.specs.declared.model.World.{World}
use Rattle.bind_copy.specs.Copies.{IsInterfaceUnder}
use Rattle.bind_carry.specs.Whole.{kept}
use Rattle.bind_carry.proofs.CopiesPlaced.{some_same}
use Rattle.bind_unite.proofs.bound.copy_inline.Goals as goal

pub returns-clause-copied : goal.returns-clause-copied
returns-clause-copied c w at_w =
    let own = c.own_world-world.result.now in
    let copies = c.in_ok-copies.copies.items in
    let own_is : own ≡ w = some_same own w (sym c.own_world-world.ensures ∙ at_w) in
    record {
      more = copies;
      behind = search rules;
      copies = subst (λ (x : World). AllZip (IsInterfaceUnder c.args.types.now x.«package») (kept c.args.copied.now c.args.bound.other.now.interfaces.items) copies) own_is
          c.in_ok-copies.ensures.copies;
    }
