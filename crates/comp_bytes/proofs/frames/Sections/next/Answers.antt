use Rattle.std.proofs.Common.{refl}
use Rattle.comp_bytes.proofs.frames.Sections.next.Goals as goal

pub returns-in-Err-clause-next : goal.returns-in-Err-clause-next
returns-in-Err-clause-next c = rw (← c.self.view_is) (λ e. record { inside = c.in-Err.ensures.0; none = c.in-Err.ensures.1; within = c.self.invariant.next; kept = refl })
