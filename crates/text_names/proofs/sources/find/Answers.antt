use Rattle.std.proofs.Common.{refl, ◌∙◌}
use Rattle.text_names.proofs.TableLaws.{same_found}
use Rattle.text_names.proofs.sources.find.Goals as goal

pub returns : goal.returns
returns c = c.copied.ensures ∙ (c.get.ensures.value ∙ same_found _ (c.args.key.0, c.args.key.1.now) (λ y. refl) c.args.names.now.entries)
