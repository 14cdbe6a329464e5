use Rattle.std.proofs.Common.{◌≡◌, ◌<◌, ◌++◌, ◌∙◌, ap, arith, ℕ, List, Option, None, drop, get_or, length, take}
use Rattle.std.proofs.lemmas.List.{take_at}
use Rattle.plan_parts.proofs.ViewLaws.{tells_first}
use Rattle.plan_parts.proofs.views.first_views.Goals as goal

pub returns-clause-told : goal.returns-clause-told
returns-clause-told c seen same =
    let new = c.note_views.new.table in
    let v = c.in_ok-table.table in
    let rest = drop (length new) v.items in
    let long : length new ≡ v.len = omega arith in
    tells_first c.args.wholes c.args.places seen c.args.sights.now (take v.len (new ++ rest)) same (λ p few.
    let room : p < length c.deref_mut.result.now = omega (arith, few, ap length c.deref_mut.ensures.value, c.in_ok-table.ensures.len) in
    ap (λ (ts : List (Option ℕ)). get_or ts p None) (take_at new rest v.len long) ∙ c.note_views.ensures p room)
