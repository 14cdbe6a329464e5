use Rattle.std.proofs.Common.{◌≡◌, ◌∙◌, ◌++◌, true, append-nil, refl, subst, sym, Some, [], rules, arith}
use Rattle.std.proofs.lemmas.{Option.slice_get_read, Option.same_Some as some-same, List.Sums.sum_by-append}
use Rattle.wit_model.specs.Lookup.{world_at}
use Rattle.wit_model.specs.declared.model.World.{World}
use Rattle.comp_bytes.specs.Raw.{Declarations}
use Rattle.comp_meaning.specs.Follow.{export_}
use Rattle.wit_encode.specs.{Places.are_beside, WorldItems.ended, WorldCounts.HasDefined, WorldHolds.HoldsFew, WrittenNames.NamesMore, WrittenNames.WritesNames, Extents.item_extent}
use Rattle.wit_encode.proofs.{WorldHolding.defines-once, WorldFunctions.lacking-worlds-heavy, WrittenNames.names-then, WholeWorlds.world-shown, world.encode_entries.Goals.After-index-def, BytesWritten.learnt-most, BytesWritten.learnt-then, BytesWritten.world-few}
use Rattle.wit_encode.proofs.world.encode_entries.Goals as goal

there : (c : After-index-def) → world_at c.args.resolve.now c.args.world.0 ≡ Some c.index-def.result.now
there c = slice_get_read _ _ _ _ refl c.requires.in_range c.index-def.ensures

pub encode_items-requires-clause-begins : goal.encode_items-requires-clause-begins
encode_items-requires-clause-begins c = record {
  world = c.index-def.result.now;
  shown = c.new-encoder.ensures.starts c.index-def.result.now (there (goal.at.encode_items-requires-clause-begins c).After-index-def);
  are = refl;
}

pub encode_items-requires-2-clause-begins : goal.encode_items-requires-2-clause-begins
encode_items-requires-2-clause-begins c = record {
  world = c.index-def.result.now;
  shown = c.in_ok-encode_items.ensures.ok c.index-def.result.now (c.new-encoder.ensures.starts c.index-def.result.now (there (goal.at.encode_items-requires-2-clause-begins c).After-index-def));
  are = refl;
}

pub returns : goal.returns
returns c =
    let last = c.encode_items-2.new.self in let first = c.in_ok-encode_items.ensures in let second = c.in_ok-encode_items-2.ensures in let new = c.new-encoder.ensures in
    let canonical = c.args.canonical_names in let own = c.index-def.result.now in let at = there (goal.at.returns c).After-index-def in let r = c.args.resolve.now in
    record {
      shows = λ w is. world-shown r c.requires.valid w last (second.ok w (first.ok w (new.starts w is)));
      once = λ w is.
          let same : own ≡ w = some-same own w (sym at ∙ is) in
          let imported = subst (λ (z : World). HasDefined r c.encode_items.new.self z.imports.entries) same (first.once [] new.defines) in
          let exported = subst (λ (z : World). HasDefined r last (w.imports.entries ++ z.exports.entries)) same (second.once w.imports.entries imported) in
          defines-once r c.requires.valid w last (ended export_ w) (second.ok w (first.ok w (new.starts w is))) exported
          (second.places (first.places (subst (λ (z : Declarations). are_beside 0 z ≡ true) (sym new.empty) refl)));
      light =
          let shown = second.ok own (first.ok own (new.starts own at)) in
          let exported : HasDefined r last (own.imports.entries ++ own.exports.entries) = second.once own.imports.entries (first.once [] new.defines) in
          let both = sum_by-append (item_extent r canonical) own.imports.entries own.exports.entries in
          world-few r c.requires.valid c.args.world own at canonical exported.began c.new-encoder.result.maps last.maps c.new-encoder.result.outer last.outer shown.agree.once exported.no_numbers
          exported.learns.only new.empty (learnt-most (omega (arith, both)) (learnt-then first.written second.written));
      size = search rules;
      names = λ w is.
          let same : own ≡ w = some-same own w (sym at ∙ is) in
          subst (λ (z : World). WritesNames r canonical z last.outer) same (subst (λ (ds : Declarations). NamesMore r canonical (own.imports.entries ++ own.exports.entries) ds last.outer) new.empty
          (names-then r canonical own.imports.entries own.exports.entries c.new-encoder.result.outer c.encode_items.new.self.outer last.outer first.names second.names));
      refuses = search rules;
    }

pub returns-in_err-encode_items-clause-size : goal.returns-in_err-encode_items-clause-size
returns-in_err-encode_items-clause-size c = λ h.
    let refused = c.encode_items.ensures.size (search rules) in
    let at = there (goal.at.returns-in_err-encode_items-clause-size c).After-index-def in
    lacking-worlds-heavy c.args.resolve.now c.args.world c.index-def.result.now c.requires.valid at
    (refused c.index-def.result.now (c.new-encoder.ensures.starts c.index-def.result.now at) c.new-encoder.ensures.defines c.new-encoder.ensures.few)

pub returns-in_err-encode_items-2-clause-size : goal.returns-in_err-encode_items-2-clause-size
returns-in_err-encode_items-2-clause-size c = λ h.
    let r = c.args.resolve.now in
    let w = c.index-def.result.now in
    let at = there (goal.at.returns-in_err-encode_items-2-clause-size c).After-index-def in
    lacking-worlds-heavy r c.args.world w c.requires.valid at ((c.encode_items-2.ensures.size (search rules)) w (c.in_ok-encode_items.ensures.ok w (c.new-encoder.ensures.starts w at))
    (subst (HasDefined r c.encode_items.new.self) (sym (append-nil w.imports.entries)) (c.in_ok-encode_items.ensures.once [] c.new-encoder.ensures.defines))
    (subst (HoldsFew r c.encode_items.new.self) (sym (append-nil w.imports.entries)) (c.in_ok-encode_items.ensures.few [] c.new-encoder.ensures.few)))
