use Rattle.std.proofs.Common.{◌<◌, ◌^◌, arith}
use Rattle.comp_bytes.proofs.{Appends.by_memory, Writes.spells_u32}
use Rattle.comp_bytes.proofs.name.append_count.Goals as goal

pub returns-in-Ok-clause-appends : goal.returns-in-Ok-clause-appends
returns-in-Ok-clause-appends c =
    let lt : c.args.count < 2 ^ 32 = omega arith in
    by_memory _ _ _ _ _ _ (spells_u32 c.args.count lt) (rw c.in-Ok.ensures.1 at c.write_u32.ensures.ok) c.write_u32.ensures.err c.write_u32.ensures.memory
