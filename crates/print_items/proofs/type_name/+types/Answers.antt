use Rattle.std.proofs.Common.{◌≡◌, ◌++◌, ◌+◌, ◌*◌, ◌<◌, refl, ap, sym, ◌∙◌, drop, arith}
use Rattle.std.specs.Prelude.{is_some}
use Rattle.wit_model.specs.Parts.{member_types}
use Rattle.print_grammar.specs.Calls.{type_calls}
use Rattle.print_items.specs.{Shown.shown_type, Shown.type_trees, TypeParts.comma_calls, TypeParts.kind_end, TypeParts.kind_start, TypeParts.types_from}
use Rattle.print_items.proofs.Driven.{driven, driven_on, line_driven, driving_first, driving_next, driving_done, driven_cut, driving_cut}
use Rattle.print_items.proofs.TypeParts.{rank, end_may_follow, handles_at, kind_at, kind_calls_at, label_at, name_calls_at, part_falls, part_in_range, read_at, types_next, types_past, unnamed_at, unnamed_calls_at}
use Rattle.base_lemmas.proofs.Lists.{within_there as one_there}
use Rattle.print_items.proofs.type_name.+types.Goals as goal

-- ---- a kind

pub write_unnamed-write_kind_start-requires : goal.write_unnamed-write_kind_start-requires
write_unnamed-write_kind_start-requires g t c = handles_at c.args.resolve.now c.requires.valid c.args.id c.index-def.result.now (read_at _ _ _ c.requires.in_range c.index-def.ensures)

pub write_unnamed-kind_types-types-requires-clause-unnamed : goal.write_unnamed-kind_types-types-requires-clause-unnamed
write_unnamed-kind_types-types-requires-clause-unnamed g t c =
    kind_at c.args.resolve.now c.requires.valid c.args.id c.index-def.result.now (read_at _ _ _ c.requires.in_range c.index-def.ensures) c.requires.unnamed

pub write_unnamed-unwrap-part-requires : goal.write_unnamed-unwrap-part-requires
write_unnamed-unwrap-part-requires g t c = ap is_some (c.one_of.ensures ∙ (one_there c.kind_types-types.result.now c.loop-number.number c.loop-number-test.true).1)

pub write_unnamed-write_type_name-requires : goal.write_unnamed-write_type_name-requires
write_unnamed-write_type_name-requires g t c κs within =
    let at = read_at _ _ _ c.requires.in_range c.index-def.ensures in
    let part = rw c.kind_types-types.ensures at (sym c.one_of.ensures ∙ c.unwrap-part.ensures) in
    let falls : rank c.unwrap-part.result < c.args.id.0 + 1 = part_falls c.args.resolve.now c.requires.valid c.args.id c.index-def.result.now at c.loop-number.number c.unwrap-part.result part in
    let m : 2 * c.args.id.0 + 1 ≡ t = c.decreases in
    (omega arith, (within, (c.requires.valid, part_in_range c.args.resolve.now c.requires.valid c.args.id c.index-def.result.now at c.loop-number.number c.unwrap-part.result part)))

pub write_unnamed-loop-number-init : goal.write_unnamed-loop-number-init
write_unnamed-loop-number-init g t c =
    let k = c.index-def.result.now.kind in
    driving_first (kind_start c.args.resolve.now k) (types_from (type_trees c.args.resolve.now) 0 (member_types k)) c.write_kind_start.ensures.calls refl

pub write_unnamed-loop-number-preserved : goal.write_unnamed-loop-number-preserved
write_unnamed-loop-number-preserved g t c =
    let r = c.args.resolve.now in
    let types = member_types c.index-def.result.now.kind in
    let n = c.loop-number.number in
    driving_next (comma_calls n ++ type_calls (shown_type r c.unwrap-part.result)) (types_from (type_trees r) (n + 1) (drop (n + 1) types)) c.loop-number.invariant
    (types_next (type_trees r) types n c.unwrap-part.result (rw c.kind_types-types.ensures at (sym c.one_of.ensures ∙ c.unwrap-part.ensures)))
    (driven c.write_comma.ensures.calls c.write_type_name.ensures.calls)

pub write_unnamed-write_kind_end-requires : goal.write_unnamed-write_kind_end-requires
write_unnamed-write_kind_end-requires g t c free =
    let r = c.args.resolve.now in
    let k = c.index-def.result.now.kind in
    let past = types_past (type_trees r) (member_types k) c.loop-number.number (rw c.kind_types-types.ensures at c.loop-number-test.false) in
    rw (line_driven (driving_done c.loop-number.invariant past) free) (end_may_follow r (type_trees r) (g.O.Output.view c.args.driver.now.output.now).line_begun k)

pub write_unnamed-returns-then-driver : goal.write_unnamed-returns-then-driver
write_unnamed-returns-then-driver g t c = record {
  calls = driven_cut (kind_end c.index-def.result.now.kind) (driving_cut c.loop-number.invariant c.if-driver.true) c.if-driver.true
      (kind_calls_at c.args.resolve.now c.requires.valid c.args.id c.index-def.result.now (read_at _ _ _ c.requires.in_range c.index-def.ensures) c.requires.unnamed);
}

pub write_unnamed-returns : goal.write_unnamed-returns
write_unnamed-returns g t c =
    let r = c.args.resolve.now in
    let past = types_past (type_trees r) (member_types c.index-def.result.now.kind) c.loop-number.number (rw c.kind_types-types.ensures at c.loop-number-test.false) in
    record {
      calls = driven_on (driving_done c.loop-number.invariant past) c.write_kind_end.ensures.calls
          (kind_calls_at r c.requires.valid c.args.id c.index-def.result.now (read_at _ _ _ c.requires.in_range c.index-def.ensures) c.requires.unnamed);
    }

-- ---- a type

pub write_type_name-name-requires : goal.write_type_name-name-requires
write_type_name-name-requires g t c =
    let at = read_at _ _ _ (rw c.in-Id.is at c.requires.in_range) c.index-def.ensures in
    rw c.deref.ensures (label_at c.args.resolve.now c.requires.valid c.in-Id.id c.index-def.result.now at c.in-Some.name c.in-Some.is)

pub write_type_name-write_unnamed-requires : goal.write_type_name-write_unnamed-requires
write_type_name-write_unnamed-requires g t c κs within =
    let r = c.args.resolve.now in
    let range = rw c.in-Id.is at c.requires.in_range in
    let m : 2 * (c.in-Id.id.0 + 1) ≡ t = rw c.in-Id.is at c.decreases in
    (omega arith, (within, (c.requires.valid, (range, unnamed_at r c.requires.valid c.in-Id.id c.index-def.result.now (read_at _ _ _ range c.index-def.ensures) c.in-None.is))))

pub write_type_name-returns-in-Some : goal.write_type_name-returns-in-Some
write_type_name-returns-in-Some g t c =
    let at = read_at _ _ _ (rw c.in-Id.is at c.requires.in_range) c.index-def.ensures in
    let calls = name_calls_at c.args.resolve.now c.requires.valid c.in-Id.id c.index-def.result.now at c.in-Some.name c.in-Some.is in
    record { calls = rw (c.in-Id.is, calls) (rw c.deref.ensures at c.name.ensures.calls) }

pub write_type_name-returns-in-None : goal.write_type_name-returns-in-None
write_type_name-returns-in-None g t c =
    let at = read_at _ _ _ (rw c.in-Id.is at c.requires.in_range) c.index-def.ensures in
    record { calls = rw (c.in-Id.is, ← unnamed_calls_at c.args.resolve.now c.requires.valid c.in-Id.id c.index-def.result.now at c.in-None.is) c.write_unnamed.ensures.calls }
