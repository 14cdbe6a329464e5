use Rattle.std.proofs.Common.{◌∙◌, ap, sym, subst, false, true, List, map, Option}
use Rattle.wit_model.specs.Text.{Text}
use Rattle.comp_bytes.specs.Levels.{PartType}
use Rattle.read_follow.specs.Found.{Gives}
use Rattle.comp_meaning.specs.Follow.{each}
use Rattle.read_parts.specs.declared.tops.Exported.{Exported}
use Rattle.read_parts.specs.{Exported.part_under, Exported.raw_exported, Tops.label_and_number, Tops.top_of}
use Rattle.read_parts.proofs.TopLaws.{distinct_is}
use Rattle.read_parts.proofs.exported.distinct_parts_of.Goals as goal

pub returns-then-branch-clause-found : goal.returns-then-branch-clause-found
returns-then-branch-clause-found c = subst (λ (found : Option (List (Text × PartType))). Gives (λ v. map raw_exported v.items) c.parts_of.result found)
    (ap (λ (xs : List Exported). each (part_under (top_of c.args.tops.now).types) (map label_and_number xs)) c.deref-then-branch.ensures.value
    ∙ sym (distinct_is c.args.tops.now c.deref.result.now c.in_ok-are_distinct.field-0 true c.deref.ensures.value c.in_ok-are_distinct.ensures c.if-branch.true)) c.parts_of.ensures.found

pub returns-else-branch-clause-found : goal.returns-else-branch-clause-found
returns-else-branch-clause-found c = distinct_is c.args.tops.now c.deref.result.now c.in_ok-are_distinct.field-0 false c.deref.ensures.value c.in_ok-are_distinct.ensures c.if-branch.false
