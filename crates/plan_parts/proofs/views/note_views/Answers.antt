use Rattle.std.proofs.Common.{rules, ◌≡◌, ◌<◌, ◌∙◌, ap, subst, ℕ, true, false, List, Option, Some, None, length, get_or, slice_set}
use Rattle.plan_parts.specs.declared.views.Sighted.{Sighted}
use Rattle.plan_parts.specs.Views.{earlier_of}
use Rattle.plan_parts.proofs.ViewLaws.{counts, counts_any, counts_no, counts_whole, noted_now, passed_by, place_fits}
use Rattle.plan_parts.proofs.views.note_views.Goals as goal
use Rattle.plan_parts.proofs.views.note_views.Goals.{then-sight, then-sight-via-then-sight, then-sight-via-else-sight+then-not-wholes, else-sight+else-not-wholes}
use Rattle.std.proofs.lemmas.List.{get_or_default as same_default}

pub loop-view-preserved : goal.loop-view-preserved
loop-view-preserved c =
    let xs = c.args.sights.now in
    let i = c.loop-view.view in
    let s : Sighted = get_or xs i (record { place = 0; whole = false }) in
    let old = c.loop-view.table in
    let many = length c.args.table.now in
    let within : i < length xs = c.loop-view-test.true in
    let is : s ≡ get_or xs i s = same_default xs i (record { place = 0; whole = false }) s within in
    elim c.if-sight.branch [
      | then-sight w ↦
          let set : c.if-sight.table ≡ slice_set old s.place (earlier_of (get_or old s.place None) (Some i)) = w.table-is ∙ w.note.ensures in
          let counted : counts c.args.wholes s.whole ≡ true = elim w.then-sight.branch [
            | then-sight-via-then-sight v ↦ counts_whole c.args.wholes s.whole v.if-sight.true
            | then-sight-via-else-sight+then-not-wholes v ↦ counts_any c.args.wholes s.whole v.if-not-wholes.true
          ] in
          let fits : s.place < length old = subst (λ (n : ℕ). s.place < n) (search rules) (place_fits many xs i (record { place = 0; whole = false }) within c.requires.places) in
          noted_now c.args.wholes many xs i s within is old c.loop-view.invariant counted fits c.if-sight.table set
      | else-sight+else-not-wholes w ↦
          let out = counts_no c.args.wholes s.whole w.if-sight.false w.if-not-wholes.false in
          λ p few. ap (λ (ts : List (Option ℕ)). get_or ts p None) w.table-is ∙ passed_by c.args.wholes many xs i s within is old c.loop-view.invariant out p few
    ]
