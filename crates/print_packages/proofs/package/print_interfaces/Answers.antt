use Rattle.std.proofs.{Common.◌≡◌, lemmas.Map.Iter.rest_more}
use Rattle.std.specs.Map.Iter.{deref_pair}
use Rattle.print_uses.specs.Printable.{is_printable_interface}
use Rattle.print_items.proofs.Moves.{underway, run_made, run_begun}
use Rattle.base_lemmas.proofs.{Bools.left_of, Bools.right_of, Options.at_err}
use Rattle.print_packages.proofs.package.print_interfaces.Goals as goal

pub loop-name-init : goal.loop-name-init
loop-name-init g c =
    let all : c.into_iter-name-iterator.result ≡ c.args.interfaces.now.entries = c.into_iter-name-iterator.ensures.into_iter_gives.0 in
    record { underway = underway _ _ _ all; printable = rw all c.requires.printable }

pub loop-name-preserved : goal.loop-name-preserved
loop-name-preserved g c =
    let next = rest_more deref_pair c.loop-name.name-iterator c.next.new.self c.next.result (c.in-Some.name, c.in-Some.id) c.in-Some.is c.next.ensures.steps in
    record {
      underway = run_made (c.in-Some.name.now, c.in-Some.id.now) c.next.new.self c.loop-name.invariant.underway next c.in_ok-print_listed_interface.ensures.ok;
      printable = right_of (is_printable_interface c.args.resolve.now (c.in-Some.name.now, c.in-Some.id.now)) _ (rw next at c.loop-name.invariant.printable);
    }

pub returns-in_err-print_listed_interface-clause-err : goal.returns-in_err-print_listed_interface-clause-err
returns-in_err-print_listed_interface-clause-err g c =
    let next = rest_more deref_pair c.loop-name.name-iterator c.next.new.self c.next.result (c.in-Some.name, c.in-Some.id) c.in-Some.is c.next.ensures.steps in
    at_err c.from_residual.result (run_begun (c.in-Some.name.now, c.in-Some.id.now) c.next.new.self c.loop-name.invariant.underway next c.in_err-print_listed_interface.ensures.err)

pub print_listed_interface-requires-clause-printable : goal.print_listed_interface-requires-clause-printable
print_listed_interface-requires-clause-printable g c =
    let next = rest_more deref_pair c.loop-name.name-iterator c.next.new.self c.next.result (c.in-Some.name, c.in-Some.id) c.in-Some.is c.next.ensures.steps in
    left_of (is_printable_interface c.args.resolve.now (c.in-Some.name.now, c.in-Some.id.now)) _ (rw next at c.loop-name.invariant.printable)
