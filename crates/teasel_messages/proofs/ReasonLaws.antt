-- What follows from why something is refused.
use Rattle.teasel_messages.specs.Reasons.{RefusedFor, for_memory, for_reason}
use Rattle.teasel_messages.specs.declared.refusal.Refusal.{Refusal}

module _ (A B : Type 0) (r : Refusal) where
  -- another reason that follows from one
  pub refused-by : (A → B) → RefusedFor A r → RefusedFor B r
  refused-by f (for_memory is) = for_memory is
  refused-by f (for_reason a) = for_reason (f a)
