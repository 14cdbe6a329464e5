use Rattle.std.proofs.Common.{◌≡◌, ◌∙◌, ap, sym, subst, true}
use Rattle.std.specs.Prelude.{option_map}
use Rattle.wit_model.specs.Rules.{passes}
use Rattle.print_items.specs.Shown.{shown_path}
use Rattle.print_uses.specs.UseGroups.{is_printable_use, shown_use}
use Rattle.print_uses.proofs.UseGroups.{run_first, run_joined, run_next, use_labels}
use Rattle.print_items.proofs.Driven.{driven_as}
use Rattle.print_uses.proofs.use_group.write_use.Goals as goal
use Rattle.base_lemmas.proofs.Bools.{left_of}

pub same_group-requires-clause-left : goal.same_group-requires-clause-left
same_group-requires-clause-left g c =
    let known = subst (λ o. passes (is_printable_use c.args.resolve.now c.args.here) o ≡ true) c.in-Some.is c.requires.before in
    left_of _ _ (left_of _ _ known)

pub same_group-requires-clause-right : goal.same_group-requires-clause-right
same_group-requires-clause-right g c = left_of _ _ (left_of _ _ c.requires.printable)

pub write_one_more-requires-clause-own : goal.write_one_more-requires-clause-own
write_one_more-requires-clause-own g c = let labels = use_labels c.args.resolve.now c.args.here c.args.used c.requires.printable in labels.0

pub write_one_more-requires-clause-other : goal.write_one_more-requires-clause-other
write_one_more-requires-clause-other g c = let labels = use_labels c.args.resolve.now c.args.here c.args.used c.requires.printable in labels.1

pub returns-in-None-clause-calls : goal.returns-in-None-clause-calls
returns-in-None-clause-calls g c = driven_as c.write_new_group.ensures.calls
    (run_first (shown_path c.args.resolve.now c.args.here) (option_map shown_use c.args.before) (shown_use c.args.used) (ap (option_map shown_use) c.in-None.is))

pub returns-then-same_group-clause-calls : goal.returns-then-same_group-clause-calls
returns-then-same_group-clause-calls g c = driven_as c.write_one_more.ensures.calls
    (run_joined (shown_path c.args.resolve.now c.args.here) (option_map shown_use c.args.before) (shown_use c.args.used) (shown_use c.in-Some.other) (ap (option_map shown_use) c.in-Some.is)
    (sym c.same_group.ensures ∙ c.if-same_group.true))

pub returns-clause-calls : goal.returns-clause-calls
returns-clause-calls g c = driven_as c.write_next_group.ensures.calls (run_next (shown_path c.args.resolve.now c.args.here) (option_map shown_use c.args.before) (shown_use c.args.used)
    (shown_use c.in-Some.other) (ap (option_map shown_use) c.in-Some.is) (sym c.same_group.ensures ∙ c.if-same_group.false))
