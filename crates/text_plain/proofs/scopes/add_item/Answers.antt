use Rattle.std.proofs.Common.{◌∙◌, ap, sym, ◌++◌, ◌∷◌, []}
use Rattle.text_plain.proofs.MapLaws.{entry_put}
use Rattle.text_plain.proofs.ScopeLaws.{alias_said, path_copied, route_added, span_copied}
use Rattle.text_plain.proofs.scopes.add_item.Goals as goal

pub returns-in-None : goal.returns-in-None
returns-in-None c = route_added c.args.place.now.whole.now c.args.place.now.from.now c.args.tops.now.routes.entries c.insert.new.self.entries c.cut.result c.copy_path-moved.result
    c.in-AName.path c.in-AName.own c.args.item.now c.in-AName.is
    (entry_put _ c.take_name-in-AName.new.tops.routes c.cut.result c.copy_path-moved.result c.insert.new.self.entries c.in_ok-insert-in-AName.ensures.entries
    (sym c.in_ok-insert-in-AName.ensures.old ∙ c.in-None.is) ∙ ap (λ m. m.entries ++ (c.cut.result, c.copy_path-moved.result) ∷ []) c.in_ok-take_name-in-AName.ensures)
    (c.cut.ensures ∙ (span_copied c.args.place.now _ _ c.moving_at-moving.result c.moving_at-moving.ensures c.unwrap_or-at.result c.copy_span-name.result c.copy_span-name.ensures
    ∙ alias_said c.args.place.now.from.now c.in-AName.path c.in-AName.own c.last_span.result c.unwrap_or-at.result c.last_span.ensures.last c.unwrap_or-at.ensures))
    (path_copied c.args.place.now _ _ c.moving_at-moving.result c.moving_at-moving.ensures c.in-AName.path c.copy_path-moved.result c.copy_path-moved.ensures)
