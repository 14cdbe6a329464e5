use Rattle.std.proofs.Common.{sym, ◌∙◌}
use Rattle.wit_model.specs.Text.{text_eq}
use Rattle.read_rules.specs.Tables.{now_of}
use Rattle.read_rules.proofs.functions.is_among.Goals as goal
use Rattle.base_lemmas.proofs.Elements.{any_of_map as list_any_mapped}

pub returns : goal.returns
returns c = c.contains.ensures ∙ sym (list_any_mapped (text_eq c.args.resource.now) now_of c.args.resources.now.keys)
