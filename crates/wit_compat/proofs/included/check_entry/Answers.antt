use Rattle.std.proofs.Common.{sym, ap, ◌∙◌, Some, option_map}
use Rattle.compat_meaning.specs.{Flat.all_shown, Flat.shown, Parts.named_thing, Parts.thing_of, Walk.pairs_of_entry}
use Rattle.wit_compat.specs.{Index.indexed}
use Rattle.wit_compat.proofs.{Including.entry_differs, Including.entry_missing, Including.found_shown, Including.shown_entry, Signatures.reached_none}
use Rattle.wit_compat.proofs.included.check_entry.Goals as goal

pub returns-then-same-clause-stands : goal.returns-then-same-clause-stands
returns-then-same-clause-stands c =
    let r = c.args.resolve.now in
    found_shown r (named_thing c.args.entry.now).0 (indexed c.args.large.now.entries) ∙ ap (option_map (shown r)) (sym c.in-Some.ensures) ∙ ap Some (c.in_ok-same-in-Some.ensures.same c.if-same.true)

pub returns-else-same-clause-refuses : goal.returns-else-same-clause-refuses
returns-else-same-clause-refuses c =
    let r = c.args.resolve.now in
    let large = indexed c.args.large.now.entries in
    entry_differs (all_shown r large) (shown_entry r c.args.entry.now) (shown r (thing_of c.in-Some.found)) c.differs.result
    (found_shown r (named_thing c.args.entry.now).0 large ∙ ap (option_map (shown r)) (sym c.in-Some.ensures)) (c.in_ok-same-in-Some.ensures.differ c.if-same.false) c.differs.ensures

pub returns-in-None-clause-refuses : goal.returns-in-None-clause-refuses
returns-in-None-clause-refuses c =
    let r = c.args.resolve.now in
    let name = (named_thing c.args.entry.now).0 in
    let large = indexed c.args.large.now.entries in
    entry_missing (all_shown r large) (shown_entry r c.args.entry.now) c.missing.result (found_shown r name large ∙ ap (option_map (shown r)) (sym c.in-None.ensures)) c.missing.ensures

pub returns-in-None-clause-reached : goal.returns-in-None-clause-reached
returns-in-None-clause-reached c =
    reached_none c.args.resolve.now c.args.pairs.now.keys (pairs_of_entry c.args.resolve.now c.args.back (indexed c.args.large.now.entries) (named_thing c.args.entry.now))
