use Rattle.std.proofs.Common.{refl, arith, ◌∷◌, []}
use Rattle.plan_meaning.specs.Built.{part_of}
use Rattle.wit_model.specs.Tree.{Form}
use Rattle.read_rules.specs.Tables.{numbered_shape}
use Rattle.plan_parts.proofs.KindLaws.{double_part, formed_over, map_form, two_parts}
use Rattle.plan_parts.proofs.kinds.map_kind.Goals as goal

pub part_at-requires-clause-there : goal.part_at-requires-clause-there
part_at-requires-clause-there c = let s = numbered_shape c.args.shape in omega (arith, double_part c.args.kept.now s c.requires.form Form.map_of (map_form s c.requires.sort) (λ n. refl))

pub part_at-requires-2-clause-there : goal.part_at-requires-2-clause-there
part_at-requires-2-clause-there c = let s = numbered_shape c.args.shape in omega (arith, double_part c.args.kept.now s c.requires.form Form.map_of (map_form s c.requires.sort) (λ n. refl))

pub returns : goal.returns
returns c =
    let s = numbered_shape c.args.shape in
    formed_over c.args.kept.now s c.requires.form Form.map_of (part_of c.part_at.result ∷ part_of c.part_at-2.result ∷ []) (map_form s c.requires.sort)
    (two_parts c.args.kept.now s.parts _ _ (double_part c.args.kept.now s c.requires.form Form.map_of (map_form s c.requires.sort) (λ n. refl)) c.part_at.ensures c.part_at-2.ensures)
