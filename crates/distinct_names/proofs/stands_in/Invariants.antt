use Rattle.std.proofs.Common.{◌≡◌, map, drop}
use Rattle.std.specs.List.{list_any}
use Rattle.wit_model.specs.Text.{text_eq}
use Rattle.distinct_names.proofs.stands_in.Given as goal

-- what is left decides
abbrev pub invariant-loop-other : goal.invariant-loop-other
invariant-loop-other g l = list_any (text_eq l.name) (map g.T.Named.name_of (drop l.other-index l.others)) ≡ list_any (text_eq l.name) (map g.T.Named.name_of l.others)
