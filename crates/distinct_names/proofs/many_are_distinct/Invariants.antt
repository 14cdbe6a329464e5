use Rattle.std.proofs.Common.{◌≡◌, map, drop, []}
use Rattle.wit_model.specs.Text.{text_eq}
use Rattle.wit_model.proofs.Distinct.{adds_new}
use Rattle.distinct_names.proofs.many_are_distinct.Given as goal

-- what is left decides, after the names that were seen
abbrev pub invariant-loop-item : goal.invariant-loop-item
invariant-loop-item g l = adds_new text_eq (map (λ k. k.now) l.seen.keys) (drop l.item-index (map g.T.Named.name_of l.items)) ≡ adds_new text_eq [] (map g.T.Named.name_of l.items)
