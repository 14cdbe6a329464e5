use Rattle.std.proofs.Common.{◌≤◌, ◌+◌, sym, subst, refl, ℕ}
use Rattle.plan_build.specs.PlanOf.{stated_number}
use Rattle.read_rules.specs.Views.{numbered_type}
use Rattle.plan_meaning.specs.Renumbering.{IsPart}
use Rattle.plan_parts.specs.{Functions.found_under, Interfaces.IsKeptSlot, Interfaces.ListsType, Kept.IsKeptPart}
use Rattle.plan_parts.proofs.InterfaceLaws.{mapped_at, resources_next, zip_next}
use Rattle.plan_parts.proofs.interfaces.types_of.Goals as goal

pub number-id-requires-clause-type_ : goal.number-id-requires-clause-type_
number-id-requires-clause-type_ c =
    subst (λ (k : ℕ). 14 ≤ k) (sym c.slot_part.ensures) (mapped_at (IsKeptSlot c.args.kept.now) numbered_type c.args.types.now c.loop-ty.ty-index _ c.loop-ty-test.true c.requires).0

pub number-id-requires-clause-kept : goal.number-id-requires-clause-kept
number-id-requires-clause-kept c = subst (λ (k : ℕ). IsKeptPart c.args.kept.now k) (sym c.slot_part.ensures)
    (mapped_at (IsKeptSlot c.args.kept.now) numbered_type c.args.types.now c.loop-ty.ty-index _ c.loop-ty-test.true c.requires).1

pub loop-ty-preserved : goal.loop-ty-preserved
loop-ty-preserved c =
    let is = subst (λ (k : ℕ). IsPart c.args.kept.now k (14 + c.number-id.result.0)) c.slot_part.ensures c.number-id.ensures in
    record {
      types = zip_next (ListsType c.args.kept.now) numbered_type stated_number c.args.types.now c.loop-ty.ty-index _ c.loop-ty.planned.items c.push.new.self.items _ c.loop-ty-test.true
          c.in_ok-push.ensures.items (refl, is) c.loop-ty.invariant.types;
      resources = resources_next c.args.kept.now numbered_type c.args.types.now c.loop-ty.ty-index _ (found_under c.loop-ty.resources.entries) (found_under c.note_resource.new.resources.entries)
          c.number-id.result c.loop-ty-test.true is c.in_ok-note_resource.ensures c.loop-ty.invariant.resources;
    }
