use Rattle.std.proofs.Common.{◌∙◌, ap, cond, refl, ◌∷◌, [], ◌++◌}
use Rattle.read_parts.proofs.TopLaws.{any_flip}
use Rattle.read_parts.proofs.tops.push_export.Goals as goal

pub returns-clause-added : goal.returns-clause-added
returns-clause-added c = record {
  types = refl;
  slots = c.in_ok-push.ensures.items;
  exported = c.in_ok-push-2.ensures.items;
  numbers = let ks = c.args.tops.now.numbers.keys in c.in_ok-insert.ensures.keys ∙ ap (λ b. cond b ks (ks ++ c.args.number ∷ [])) (any_flip c.args.number ks ∙ c.requires);
}
