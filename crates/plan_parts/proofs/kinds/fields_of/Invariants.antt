use Rattle.std.proofs.Common.{◌≡◌, map, take}
use Rattle.std.specs.List.{AllZip}
use Rattle.plan_meaning.specs.{Built.part_of, Renumbering.IsPart}
use Rattle.read_rules.specs.Tables.{label_of}
use Rattle.plan_parts.proofs.kinds.fields_of.Given as goal

-- so many fields
abbrev pub invariant-loop-number : goal.invariant-loop-number
invariant-loop-number l = record {
  names : map (λ f. f.0.now) l.fields.items ≡ map (λ x. x.0) (map label_of (take l.number l.labels));
  parts : AllZip (IsPart l.kept) (take l.number l.parts) (map (λ f. part_of f.1) l.fields.items);
}
