use Rattle.std.proofs.Common.{arith}
use Rattle.comp_bytes.proofs.IndexWrites.{bytes_1, bytes_2, bytes_3, bytes_4, bytes_5, spells_index}
use Rattle.comp_bytes.proofs.number.write_index.Goals as goal

pub returns-in_ok-extend_from_slice : goal.returns-in_ok-extend_from_slice
returns-in_ok-extend_from_slice c = record { ok = cc (c.in_ok-extend_from_slice.ensures.items, bytes_1 c.args.n (omega arith)); spelled = spells_index c.args.n (omega arith); err = tt; memory = tt }

pub returns-in_ok-extend_from_slice-2 : goal.returns-in_ok-extend_from_slice-2
returns-in_ok-extend_from_slice-2 c =
    record { ok = cc (c.in_ok-extend_from_slice-2.ensures.items, bytes_2 c.args.n (omega arith) (omega arith)); spelled = spells_index c.args.n (omega arith); err = tt; memory = tt }

pub returns-in_ok-extend_from_slice-3 : goal.returns-in_ok-extend_from_slice-3
returns-in_ok-extend_from_slice-3 c =
    record { ok = cc (c.in_ok-extend_from_slice-3.ensures.items, bytes_3 c.args.n (omega arith) (omega arith)); spelled = spells_index c.args.n (omega arith); err = tt; memory = tt }

pub returns-in_ok-extend_from_slice-4 : goal.returns-in_ok-extend_from_slice-4
returns-in_ok-extend_from_slice-4 c =
    record { ok = cc (c.in_ok-extend_from_slice-4.ensures.items, bytes_4 c.args.n (omega arith) (omega arith)); spelled = spells_index c.args.n (omega arith); err = tt; memory = tt }

pub returns-in_ok-extend_from_slice-5 : goal.returns-in_ok-extend_from_slice-5
returns-in_ok-extend_from_slice-5 c =
    record { ok = cc (c.in_ok-extend_from_slice-5.ensures.items, bytes_5 c.args.n (omega arith) (omega arith)); spelled = spells_index c.args.n (omega arith); err = tt; memory = tt }
