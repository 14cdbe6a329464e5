use Rattle.std.proofs.Common.{arith}
use Rattle.comp_bytes.specs.{Spelling.ValueType, Writing.value_bytes}
use Rattle.comp_bytes.proofs.Sequences.{next}
use Rattle.comp_bytes.proofs.append.append_each_value_type.Goals as goal

pub loop-ty-preserved : goal.loop-ty-preserved
loop-ty-preserved c = next ValueType value_bytes c.args.types.now c.loop-ty.ty-index _ _ _ _ (omega arith) c.loop-ty.invariant c.in_ok-append_value_type.ensures.ok
