use Rattle.std.proofs.Common.{◌≡◌, map, drop, []}
use Rattle.wit_model.specs.Text.{text_eq}
use Rattle.wit_model.proofs.Distinct.{adds_new}
use Rattle.check_rules.proofs.named.are_distinct.Given as goal

-- what is left decides, after the names that were seen
abbrev pub invariant-loop-member : goal.invariant-loop-member
invariant-loop-member g l = adds_new text_eq (map (λ k. k.now) l.seen.keys) (drop l.member-index (map g.T.Named.name_of l.members)) ≡ adds_new text_eq [] (map g.T.Named.name_of l.members)
