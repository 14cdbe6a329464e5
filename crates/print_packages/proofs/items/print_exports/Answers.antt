use Rattle.std.proofs.{Common.◌≡◌, lemmas.Map.Iter.rest_more}
use Rattle.std.specs.Map.Iter.{deref_pair}
use Rattle.print_uses.specs.Printable.{is_printable_entry}
use Rattle.print_items.proofs.Moves.{underway, run_made, run_begun}
use Rattle.base_lemmas.proofs.{Bools.left_of, Bools.right_of, Options.at_err}
use Rattle.print_packages.proofs.items.print_exports.Goals as goal

pub loop-key-init : goal.loop-key-init
loop-key-init g c =
    let all : c.into_iter-key-iterator.result ≡ c.args.items.now.entries = c.into_iter-key-iterator.ensures.into_iter_gives.0 in
    record { underway = underway _ _ _ all; printable = rw all c.requires.printable }

pub loop-key-preserved : goal.loop-key-preserved
loop-key-preserved g c =
    let next = rest_more deref_pair c.loop-key.key-iterator c.next.new.self c.next.result (c.in-Some.key, c.in-Some.item) c.in-Some.is c.next.ensures.steps in
    record {
      underway = run_made (c.in-Some.key.now, c.in-Some.item.now) c.next.new.self c.loop-key.invariant.underway next c.in_ok-print_item.ensures.ok;
      printable = right_of (is_printable_entry c.args.resolve.now c.args.here (c.in-Some.key.now, c.in-Some.item.now)) _ (rw next at c.loop-key.invariant.printable);
    }

pub returns-in_err-print_item-clause-err : goal.returns-in_err-print_item-clause-err
returns-in_err-print_item-clause-err g c =
    let next = rest_more deref_pair c.loop-key.key-iterator c.next.new.self c.next.result (c.in-Some.key, c.in-Some.item) c.in-Some.is c.next.ensures.steps in
    at_err c.from_residual.result (run_begun (c.in-Some.key.now, c.in-Some.item.now) c.next.new.self c.loop-key.invariant.underway next c.in_err-print_item.ensures.err)

pub print_item-requires-clause-printable : goal.print_item-requires-clause-printable
print_item-requires-clause-printable g c =
    let next = rest_more deref_pair c.loop-key.key-iterator c.next.new.self c.next.result (c.in-Some.key, c.in-Some.item) c.in-Some.is c.next.ensures.steps in
    left_of (is_printable_entry c.args.resolve.now c.args.here (c.in-Some.key.now, c.in-Some.item.now)) _ (rw next at c.loop-key.invariant.printable)
