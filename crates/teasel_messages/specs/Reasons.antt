-- Why something is refused.
use Rattle.std.specs.Prelude.{◌≡◌, Bool, true, false}
use Rattle.wit_model.specs.declared.error.Error.{Error}
use Rattle.wit_model.specs.declared.error.Error.TheVariants as errors
use Rattle.teasel_messages.specs.declared.faults.ReadFault.{ReadFault}
use Rattle.teasel_messages.specs.declared.faults.ReadFault.TheVariants as faults
use Rattle.teasel_messages.specs.declared.refusal.Refusal.{Refusal}
use Rattle.teasel_messages.specs.declared.refusal.Refusal.TheVariants as refusals
use Rattle.teasel_words.specs.declared.asked.Misuse.{Misuse}
use Rattle.teasel_words.specs.declared.asked.Misuse.TheVariants as misuses

-- Memory was wanting, or this is why something is refused.
pub data RefusedFor (Why : Type 0) (r : Refusal) : Type 0 where
  for_memory : r ≡ refusals.Memory → RefusedFor Why r
  for_reason : Why → RefusedFor Why r

-- whether an error of a call is for want of memory
abbrev pub is_memory : Error → Bool
is_memory errors.Memory = true
is_memory _ = false

-- whether the fault of a file is
abbrev pub is_memory_fault : ReadFault → Bool
is_memory_fault faults.Memory = true
is_memory_fault _ = false

-- whether that of words is
abbrev pub is_memory_misuse : Misuse → Bool
is_memory_misuse misuses.Memory = true
is_memory_misuse _ = false
