use Rattle.std.proofs.Common.{length, sym, ap, arith}
use Rattle.comp_bytes.proofs.Writes.{bytes_1, bytes_2, bytes_3, bytes_4, bytes_5}
use Rattle.comp_bytes.proofs.section.u32_length.Goals as goal

pub returns-then-number-lt128 : goal.returns-then-number-lt128
returns-then-number-lt128 c = sym (ap length (bytes_1 c.args.number (omega arith)))

pub returns-then-number-lt16384 : goal.returns-then-number-lt16384
returns-then-number-lt16384 c = sym (ap length (bytes_2 c.args.number (omega arith) (omega arith)))

pub returns-then-number-lt2097152 : goal.returns-then-number-lt2097152
returns-then-number-lt2097152 c = sym (ap length (bytes_3 c.args.number (omega arith) (omega arith)))

pub returns-then-number-lt268435456 : goal.returns-then-number-lt268435456
returns-then-number-lt268435456 c = sym (ap length (bytes_4 c.args.number (omega arith) (omega arith)))

pub returns-else-number-lt268435456 : goal.returns-else-number-lt268435456
returns-else-number-lt268435456 c = sym (ap length (bytes_5 c.args.number (omega arith) (omega arith)))
