use Rattle.std.proofs.Common.{◌<◌, ◌^◌, arith}
use Rattle.comp_bytes.proofs.{Appends.by_memory, IndexWrites.spells_index}
use Rattle.comp_bytes.proofs.append.append_value_type.Goals as goal

pub returns-in-Type_ : goal.returns-in-Type_
returns-in-Type_ c =
    let lt : c.in-Type_.index < 2 ^ 32 = omega arith in
    rw c.in-Type_.is (by_memory _ _ _ _ _ _ (spells_index c.in-Type_.index lt) c.write_index.ensures.ok c.write_index.ensures.err c.write_index.ensures.memory)
