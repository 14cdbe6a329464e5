use Rattle.std.proofs.Common.{subst, sym}
use Rattle.comp_read.specs.DecodedWorlds.{RefusesWorldBytes}
use Rattle.comp_read.proofs.{ReadLaws.decoded_world, ReadLaws.refuses_world, ReadOrder.follows_bytes}
use Rattle.comp_read.proofs.decoding.decode_world.Goals as goal

pub returns-in-Ok-clause-decoded : goal.returns-in-Ok-clause-decoded
returns-in-Ok-clause-decoded c = decoded_world c.args.bytes.now c.in-Ok.resolve c.in-Ok.field-0-1.0 c.in-Ok.ensures.read.holds c.in-Ok.ensures.few

pub returns-in-Ok-clause-order : goal.returns-in-Ok-clause-order
returns-in-Ok-clause-order c = follows_bytes c.args.bytes.now c.in-Ok.resolve c.in-Ok.ensures.read.follows

pub returns-in-Err-clause-refuses : goal.returns-in-Err-clause-refuses
returns-in-Err-clause-refuses c = subst (RefusesWorldBytes c.args.bytes.now) (sym c.error_of.ensures) (refuses_world c.args.bytes.now c.in-Err.refusal c.in-Err.ensures.absent)
