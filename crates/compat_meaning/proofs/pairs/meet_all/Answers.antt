use Rattle.std.proofs.Common.{rules}
use Rattle.compat_meaning.proofs.Growing.{grows_more, place_pairs, apart_at, joined_more, all_joined_kept}
use Rattle.compat_meaning.proofs.pairs.meet_all.Goals as goal

pub returns-in_err-meet-clause-grows : goal.returns-in_err-meet-clause-grows
returns-in_err-meet-clause-grows c = grows_more _ _ _ _ _ c.loop-i.invariant.grown c.meet.ensures.grows
    (place_pairs c.args.heads.now c.args.prev.now c.args.new.now c.loop-i.i _ _ (search rules) (search rules) (search rules) (search rules))

pub returns-then-not-branch-clause-grows : goal.returns-then-not-branch-clause-grows
returns-then-not-branch-clause-grows c = grows_more _ _ _ _ _ c.loop-i.invariant.grown c.meet.ensures.grows
    (place_pairs c.args.heads.now c.args.prev.now c.args.new.now c.loop-i.i _ _ (search rules) (search rules) (search rules) (search rules))

pub returns-then-not-branch-clause-apart : goal.returns-then-not-branch-clause-apart
returns-then-not-branch-clause-apart c =
    λ e. apart_at c.args.heads.now c.args.prev.now c.args.new.now c.loop-i.i _ _ (search rules) (search rules) (search rules) (search rules) (c.in_ok-meet.ensures.apart (search rules))

pub loop-i-preserved : goal.loop-i-preserved
loop-i-preserved c = record {
  grown = grows_more _ _ _ _ _ c.loop-i.invariant.grown c.meet.ensures.grows
      (place_pairs c.args.heads.now c.args.prev.now c.args.new.now c.loop-i.i _ _ (search rules) (search rules) (search rules) (search rules));
  joined = joined_more c.args.heads.now c.meet.new.pairs.keys c.args.prev.now c.args.new.now c.loop-i.i _ _ (search rules) (search rules) (search rules) (search rules)
      (all_joined_kept c.args.heads.now _ _ _ c.meet.ensures.grows _ _ c.loop-i.invariant.joined) (c.in_ok-meet.ensures.joined (search rules));
}
