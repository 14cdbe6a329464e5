use Rattle.std.proofs.Common.{refl, subst, sym}
use Rattle.std.specs.Iterator.{Drains}
use Rattle.wit_print.specs.Printer.{nothing, some}
use Rattle.wit_print.proofs.printer.WitPrinter.print_types.Goals as goal
use Rattle.base_lemmas.proofs.Options.{at_err}

pub returns-in_err-types-clause-err : goal.returns-in_err-types-clause-err
returns-in_err-types-clause-err g c = at_err c.from_residual.result (nothing refl)

pub print_given_types-requires-clause-known : goal.print_given_types-requires-clause-known
print_given_types-requires-clause-known g c = c.requires.known c.deref.result.now (subst (λ xs. Drains g.I.Iterator.next_gives c.args.types xs) (sym c.deref.ensures.value) c.in_ok-types.ensures)

pub returns-in_err-printed-clause-err : goal.returns-in_err-printed-clause-err
returns-in_err-printed-clause-err g c = at_err c.from_residual-in_err-printed.result
    (some c.deref.result.now (subst (λ xs. Drains g.I.Iterator.next_gives c.args.types xs) (sym c.deref.ensures.value) c.in_ok-types.ensures) c.in_err-printed.ensures.err)

pub returns-clause-ok : goal.returns-clause-ok
returns-clause-ok g c = record {
  types = c.deref.result.now;
  are = subst (λ xs. Drains g.I.Iterator.next_gives c.args.types xs) (sym c.deref.ensures.value) c.in_ok-types.ensures;
  prints = c.in_ok-printed.ensures.ok;
  printed = c.in_ok-printed.ensures.printed;
}
