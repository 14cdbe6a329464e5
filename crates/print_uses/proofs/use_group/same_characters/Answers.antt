use Rattle.std.proofs.Common.{◌∙◌, ap}
use Rattle.wit_model.specs.Text.{text_eq, text_of}
use Rattle.print_uses.proofs.UseGroups.{chars_same}
use Rattle.print_uses.proofs.use_group.same_characters.Goals as goal

pub returns : goal.returns
returns c = c.same_text.ensures ∙ ap (λ t. text_eq t c.deref-2.result.now) c.deref.ensures ∙ ap (λ t. text_eq (text_of c.args.a.now) t) c.deref-2.ensures ∙ chars_same c.args.a.now c.args.b.now
