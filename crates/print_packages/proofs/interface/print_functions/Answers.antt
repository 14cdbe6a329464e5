use Rattle.std.proofs.{Common.◌≡◌, Common.[], Common.◌∷◌, Common.◌∙◌, Common.ap, Common.sym, Common.true, lemmas.Map.Iter.rest_more}
use Rattle.std.specs.Map.Iter.{deref_pair}
use Rattle.print_grammar.specs.Calls.{members_calls}
use Rattle.print_uses.specs.Printable.{is_printable_function, shown_functions}
use Rattle.print_items.specs.Shown.{shown_function}
use Rattle.print_packages.proofs.Functions.{next_shown, printable_member}
use Rattle.print_items.proofs.Moves.{going, made_on, refused_in}
use Rattle.base_lemmas.proofs.{Bools.left_of, Bools.right_of, Options.at_err}
use Rattle.print_packages.proofs.interface.print_functions.Goals as goal

pub loop-key-init : goal.loop-key-init
loop-key-init g c =
    let all : c.into_iter-key-iterator.result ≡ c.args.functions.now.entries = c.into_iter-key-iterator.ensures.into_iter_gives.0 in
    record {
      going = going _ _ _ (ap (λ es. members_calls c.args.emits_docs c.args.has_printed (shown_functions c.args.resolve.now es)) all);
      printable = rw all c.requires.printable;
    }

pub print_function-requires-clause-well : goal.print_function-requires-clause-well
print_function-requires-clause-well g c =
    let next = rest_more deref_pair c.loop-key.key-iterator c.next.new.self c.next.result (c.in-Some.key, c.in-Some.function) c.in-Some.is c.next.ensures.steps in
    let known = left_of (is_printable_function c.args.resolve.now c.in-Some.function.now) _ (rw next at c.loop-key.invariant.printable) in
    printable_member c.args.resolve.now c.in-Some.function.now known (sym c.is_freestanding.ensures ∙ c.if-is_freestanding.true)

pub returns-in_err-print_function-clause-err : goal.returns-in_err-print_function-clause-err
returns-in_err-print_function-clause-err g c =
    let next = rest_more deref_pair c.loop-key.key-iterator c.next.new.self c.next.result (c.in-Some.key, c.in-Some.function) c.in-Some.is c.next.ensures.steps in
    let run = members_calls c.args.emits_docs c.loop-key.has_printed (shown_function c.args.resolve.now c.in-Some.function.now ∷ []) in
    let rest = members_calls c.args.emits_docs true (shown_functions c.args.resolve.now c.next.new.self) in
    let whole = ap (λ es. members_calls c.args.emits_docs c.loop-key.has_printed (shown_functions c.args.resolve.now es)) next ∙ next_shown c.args.emits_docs c.loop-key.has_printed
    c.args.resolve.now (c.in-Some.key.now, c.in-Some.function.now) c.next.new.self (sym c.is_freestanding.ensures ∙ c.if-is_freestanding.true) in
    at_err c.from_residual.result (refused_in run rest c.loop-key.invariant.going whole c.in_err-print_function.ensures.err)

pub loop-key-preserved-then-is_freestanding : goal.loop-key-preserved-then-is_freestanding
loop-key-preserved-then-is_freestanding g c =
    let next = rest_more deref_pair c.loop-key.key-iterator c.next.new.self c.next.result (c.in-Some.key, c.in-Some.function) c.in-Some.is c.next.ensures.steps in
    let run = members_calls c.args.emits_docs c.loop-key.has_printed (shown_function c.args.resolve.now c.in-Some.function.now ∷ []) in
    let rest = members_calls c.args.emits_docs true (shown_functions c.args.resolve.now c.next.new.self) in
    let whole = ap (λ es. members_calls c.args.emits_docs c.loop-key.has_printed (shown_functions c.args.resolve.now es)) next ∙ next_shown c.args.emits_docs c.loop-key.has_printed
    c.args.resolve.now (c.in-Some.key.now, c.in-Some.function.now) c.next.new.self (sym c.is_freestanding.ensures ∙ c.if-is_freestanding.true) in
    record {
      going = made_on run rest c.loop-key.invariant.going whole c.in_ok-print_function.ensures.ok;
      printable = right_of (is_printable_function c.args.resolve.now c.in-Some.function.now) _ (rw next at c.loop-key.invariant.printable);
    }
