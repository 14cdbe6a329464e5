use Rattle.std.proofs.{Common.refl, lemmas.Option.slice_get_read}
use Rattle.bind_add.proofs.Packages.{others_more, room_end, room_more, same_then}
use Rattle.bind_add.proofs.room.reserve_names.Goals as goal

pub returns-in_err-reserve_named-clause-same : goal.returns-in_err-reserve_named-clause-same
returns-in_err-reserve_named-clause-same c = same_then c.args.packages.now c.loop-gained.packages c.reserve_named.new.packages c.loop-gained.invariant.0 c.reserve_named.ensures.same

pub returns-in_err-reserve_named-clause-others : goal.returns-in_err-reserve_named-clause-others
returns-in_err-reserve_named-clause-others c =
    let i = c.loop-gained.gained-index in
    let names = c.args.names.now in
    let n = c.gained-item.result in
    others_more i names c.args.packages.now c.loop-gained.packages c.reserve_named.new.packages n (slice_get_read names _ i n refl c.loop-gained-test.true c.gained-item.is) c.loop-gained.invariant.2
    c.reserve_named.ensures.others

pub loop-gained-preserved : goal.loop-gained-preserved
loop-gained-preserved c =
    let i = c.loop-gained.gained-index in
    let names = c.args.names.now in
    let n = c.gained-item.result in
    let at = slice_get_read names _ i n refl c.loop-gained-test.true c.gained-item.is in (
      same_then c.args.packages.now c.loop-gained.packages c.reserve_named.new.packages c.loop-gained.invariant.0 c.reserve_named.ensures.same,
      room_more i names c.loop-gained.packages c.reserve_named.new.packages n c.loop-gained.invariant.1 c.reserve_named.ensures.same at c.in_ok-reserve_named.ensures.ok,
      others_more i names c.args.packages.now c.loop-gained.packages c.reserve_named.new.packages n at c.loop-gained.invariant.2 c.reserve_named.ensures.others,
    )

pub returns-clause-ok : goal.returns-clause-ok
returns-clause-ok c = room_end c.loop-gained.gained-index c.args.names.now c.loop-gained.packages c.loop-gained-test.false c.loop-gained.invariant.1
