use Rattle.std.proofs.Common.{◌∙◌}
use Rattle.wit_model.specs.Text.{text_eq, text_of}
use Rattle.wit_model.proofs.Lists.{lookup_any}
use Rattle.check_rules.proofs.places.is_world_name.Goals as goal

pub returns : goal.returns
returns c = c.contains_key.ensures ∙ lookup_any (λ k. text_eq (text_of c.args.name.now) (text_of k)) c.args.owner.now.worlds.entries
