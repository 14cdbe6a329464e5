use Rattle.std.proofs.{Common.ℕ, Common.List, Common.◌++◌, Common.ap, Common.sym, Common.◌∙◌}
use Rattle.encode_types.specs.NumberMaps.{NumberEntries, filled}
use Rattle.encode_types.proofs.{Ascending.filled-open, Planning.none-of}
use Rattle.encode_types.proofs.number_map.NumberMap.reserve.Goals as goal

pub returns-in_ok-insert-clause-same : goal.returns-in_ok-insert-clause-same
returns-in_ok-insert-clause-same c =
    let open_ = none-of _ (sym c.contains_key.ensures ∙ c.if-not-contains_key.true) in
    ap (λ (es : List (ℕ × ℕ)). c.self.inside.run.items ++ es) (ap filled c.in_ok-insert.ensures.entries ∙ filled-open c.self.inside.rest.entries c.args.number open_)
    ∙ ap (λ (m : NumberEntries). m.entries) c.self.view_is
