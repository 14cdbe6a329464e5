use Rattle.std.proofs.Common.{refl}
use Rattle.comp_bytes.specs.{Raw.Declaration, RawOf.raw_defined}
use Rattle.comp_bytes.proofs.HeldLaws.{push, counts_refused}
use Rattle.comp_bytes.proofs.instance.InstanceType.defined.Goals as goal

pub returns-in_err-count-clause-size : goal.returns-in_err-count-clause-size
returns-in_err-count-clause-size c _ = rw (← c.self.view_is) (counts_refused _ _ _ (Declaration.defined (raw_defined c.args.def.now)) c.self.invariant c.in_err-count.ensures.size)

pub invariant_of-self-2 : goal.invariant_of-self-2
invariant_of-self-2 c = rw (c.in_ok-count.ensures.ok.0, c.in_ok-count.ensures.ok.1, c.in_ok-declare_defined.ensures.ok)
    (push _ _ _ (Declaration.defined (raw_defined c.args.def.now)) c.self.invariant c.in_ok-declare_defined.ensures.spelled refl).holds

pub returns-clause-ok : goal.returns-clause-ok
returns-clause-ok c = rw (c.in_ok-count.ensures.ok.0, c.in_ok-declare_defined.ensures.ok, ← c.self.view_is)
    (push _ _ _ (Declaration.defined (raw_defined c.args.def.now)) c.self.invariant c.in_ok-declare_defined.ensures.spelled refl).shows
