use Rattle.std.proofs.Common.{subst, sym}
use Rattle.comp_read.specs.Decoded.{RefusesBytes}
use Rattle.comp_read.proofs.{ReadLaws.decoded, ReadLaws.refuses, ReadOrder.follows_bytes}
use Rattle.comp_read.proofs.decoding.decode.Goals as goal

pub returns-in-Ok-clause-decoded : goal.returns-in-Ok-clause-decoded
returns-in-Ok-clause-decoded c = decoded c.args.bytes.now c.in-Ok.package.0 c.in-Ok.package.1.0 c.in-Ok.ensures.read.holds c.in-Ok.ensures.few

pub returns-in-Ok-clause-order : goal.returns-in-Ok-clause-order
returns-in-Ok-clause-order c = follows_bytes c.args.bytes.now c.in-Ok.package.0 c.in-Ok.ensures.read.follows

pub returns-in-Err-clause-refuses : goal.returns-in-Err-clause-refuses
returns-in-Err-clause-refuses c = subst (RefusesBytes c.args.bytes.now) (sym c.error_of.ensures) (refuses c.args.bytes.now c.in-Err.refusal c.in-Err.ensures.absent)
