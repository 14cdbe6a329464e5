use Rattle.std.proofs.Common.{◌≡◌, refl, sym, ap, subst, ◌∙◌, is_ok, MatchResult, unwrap_or}
use Rattle.std.proofs.lemmas.Option.{slice_get_read}
use Rattle.compat_meaning.specs.{Compatible.Accepts, Compatible.IsRefused, Walk.IsCounted}
use Rattle.compat_meaning.proofs.Validity.{world_items}
use Rattle.wit_compat.proofs.worlds.compare.Goals as goal

pub compare_worlds-requires-clause-prev : goal.compare_worlds-requires-clause-prev
compare_worlds-requires-clause-prev c =
    let r = c.args.resolve.now in
    world_items r c.requires.valid c.args.prev.0 c.index-prev.result.now (slice_get_read r.worlds.items _ c.args.prev.0 c.index-prev.result.now refl c.requires.prev c.index-prev.ensures)

pub compare_worlds-requires-clause-new : goal.compare_worlds-requires-clause-new
compare_worlds-requires-clause-new c =
    let r = c.args.resolve.now in
    world_items r c.requires.valid c.args.new.0 c.index-new.result.now (slice_get_read r.worlds.items _ c.args.new.0 c.index-new.result.now refl c.requires.new c.index-new.ensures)

pub returns-clause-accepts : goal.returns-clause-accepts
returns-clause-accepts c = λ p n pe ne.
    let r = c.args.resolve.now in
    let at = slice_get_read r.worlds.items _ c.args.prev.0 c.index-prev.result.now refl c.requires.prev c.index-prev.ensures in
    let bt = slice_get_read r.worlds.items _ c.args.new.0 c.index-new.result.now refl c.requires.new c.index-new.ensures in
    let e : c.index-prev.result.now ≡ p = ap (λ o. unwrap_or o p) (sym at ∙ pe) in
    let f : c.index-new.result.now ≡ n = ap (λ o. unwrap_or o n) (sym bt ∙ ne) in
    subst (λ x. MatchResult c.compare_worlds.result (λ u. Accepts r x n) (IsRefused r x n)) e
    (subst (λ y. MatchResult c.compare_worlds.result (λ u. Accepts r c.index-prev.result.now y) (IsRefused r c.index-prev.result.now y)) f c.compare_worlds.ensures.accepts)

pub returns-clause-counted : goal.returns-clause-counted
returns-clause-counted c = λ p n pe ne.
    let r = c.args.resolve.now in
    let at = slice_get_read r.worlds.items _ c.args.prev.0 c.index-prev.result.now refl c.requires.prev c.index-prev.ensures in
    let bt = slice_get_read r.worlds.items _ c.args.new.0 c.index-new.result.now refl c.requires.new c.index-new.ensures in
    let e : c.index-prev.result.now ≡ p = ap (λ o. unwrap_or o p) (sym at ∙ pe) in
    let f : c.index-new.result.now ≡ n = ap (λ o. unwrap_or o n) (sym bt ∙ ne) in
    subst (λ x. IsCounted r x n c.compare_worlds.new.steps.count (is_ok c.compare_worlds.result)) e
    (subst (λ y. IsCounted r c.index-prev.result.now y c.compare_worlds.new.steps.count (is_ok c.compare_worlds.result)) f c.compare_worlds.ensures.counted)
