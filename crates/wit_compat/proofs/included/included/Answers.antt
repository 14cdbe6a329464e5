use Rattle.std.proofs.Common.{rules, arith, map}
use Rattle.compat_meaning.specs.{Parts.named_thing, Walk.pairs_shared}
use Rattle.wit_compat.specs.{Index.indexed}
use Rattle.wit_compat.proofs.Including.{all_hold, all_included, first_fault, reached_more, stand_all, stand_more}
use Rattle.wit_compat.proofs.Signatures.{reached_none}
use Rattle.wit_compat.proofs.included.included.Goals as goal

pub loop-entry-init : goal.loop-entry-init
loop-entry-init c = record {
  settled = c.requires.settled;
  stand = λ e d. absurd (let z = d.1 in omega (arith, z));
  kept = λ p d. d;
  reached = reached_none c.args.resolve.now c.args.pairs.now.keys (pairs_shared c.args.resolve.now c.args.back (map named_thing c.args.small.now) (indexed c.args.large.now.entries));
}

pub returns-in-Err-clause-refuses : goal.returns-in-Err-clause-refuses
returns-in-Err-clause-refuses c = first_fault c.args.resolve.now c.args.back (indexed c.args.large.now.entries) c.args.small.now c.loop-entry.entry-index c.entry-item.result (search rules)
    c.entry-item.is c.loop-entry.pairs.keys c.in-Err.error c.loop-entry.invariant.stand c.in-Err.ensures.refuses

pub returns-in-Err-clause-reached : goal.returns-in-Err-clause-reached
returns-in-Err-clause-reached c = reached_more c.args.resolve.now c.args.back (indexed c.args.large.now.entries) c.args.small.now c.loop-entry.entry-index c.entry-item.result (search rules)
    c.entry-item.is c.args.pairs.now.keys c.loop-entry.pairs.keys c.check_entry-checked.new.pairs.keys c.loop-entry.invariant.reached c.check_entry-checked.ensures.reached

pub loop-entry-preserved : goal.loop-entry-preserved
loop-entry-preserved c = record {
  settled = c.in_default.ensures.settled;
  stand = stand_more c.args.resolve.now c.args.back (indexed c.args.large.now.entries) c.args.small.now c.loop-entry.entry-index c.entry-item.result (search rules) c.entry-item.is
      c.loop-entry.pairs.keys c.check_entry-checked.new.pairs.keys c.loop-entry.invariant.stand c.check_entry-checked.ensures.kept (c.in_default.ensures.stands, c.in_default.ensures.holds);
  kept = λ p d. c.check_entry-checked.ensures.kept p (c.loop-entry.invariant.kept p d);
  reached = reached_more c.args.resolve.now c.args.back (indexed c.args.large.now.entries) c.args.small.now c.loop-entry.entry-index c.entry-item.result (search rules) c.entry-item.is
      c.args.pairs.now.keys c.loop-entry.pairs.keys c.check_entry-checked.new.pairs.keys c.loop-entry.invariant.reached c.check_entry-checked.ensures.reached;
}

pub returns-clause-includes : goal.returns-clause-includes
returns-clause-includes c = all_included c.args.resolve.now c.args.back (indexed c.args.large.now.entries) c.loop-entry.pairs.keys c.args.small.now
    (stand_all c.args.resolve.now c.args.back (indexed c.args.large.now.entries) c.loop-entry.pairs.keys c.args.small.now c.loop-entry.entry-index (search rules) c.loop-entry.invariant.stand)

pub returns-clause-holds : goal.returns-clause-holds
returns-clause-holds c = all_hold c.args.resolve.now c.args.back (indexed c.args.large.now.entries) c.loop-entry.pairs.keys c.args.small.now
    (stand_all c.args.resolve.now c.args.back (indexed c.args.large.now.entries) c.loop-entry.pairs.keys c.args.small.now c.loop-entry.entry-index (search rules) c.loop-entry.invariant.stand)
