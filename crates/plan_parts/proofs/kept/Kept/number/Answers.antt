use Rattle.std.proofs.Common.{sym, subst, ◌<◌, ◌-◌, ◌+◌, ℕ, List}
use Rattle.plan_meaning.specs.Renumbering.{IsPart}
use Rattle.plan_parts.specs.Kept.{IsKeptPart}
use Rattle.plan_parts.proofs.KeptLaws.{part_read, part_within}
use Rattle.plan_parts.proofs.kept.Kept.number.Goals as goal

pub index-requires : goal.index-requires
index-requires c =
    let stays = subst (λ (ns : List ℕ). IsKeptPart ns c.args.part) (sym c.self.view_is) c.requires.kept in
    subst (λ (n : ℕ). c.args.part - 14 < n) (sym c.self.inside.numbers.ok.0) (part_within c.self.inside.shapes.items c.self.inside.numbers.items c.self.invariant c.args.part stays c.requires.type_)

pub returns : goal.returns
returns c =
    let stays = subst (λ (ns : List ℕ). IsKeptPart ns c.args.part) (sym c.self.view_is) c.requires.kept in
    subst (λ (ns : List ℕ). IsPart ns c.args.part (14 + c.index.result.now)) c.self.view_is
    (part_read c.self.inside.shapes.items c.self.inside.numbers.items c.self.invariant c.args.part stays c.requires.type_ c.index.result.now c.index.ensures)
