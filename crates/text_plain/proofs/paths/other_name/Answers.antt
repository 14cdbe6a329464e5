use Rattle.std.proofs.Common.{◌∙◌, ap, sym}
use Rattle.std.specs.Map.{lookup}
use Rattle.std.specs.Option.{option_map_or}
use Rattle.wit_model.specs.Text.{text_eq}
use Rattle.text_trees.specs.Seen.{cut}
use Rattle.text_plain.specs.Moved.{renamed}
use Rattle.text_plain.specs.Moves.{text_from, text_to, table_names}
use Rattle.text_plain.proofs.Tables.{name_there}
use Rattle.text_plain.proofs.paths.other_name.Goals as goal

pub returns-in-Some : goal.returns-in-Some
returns-in-Some c =
    let to = text_to c.args.moving.now in
    let name = cut (text_from c.args.moving.now) c.args.name in
    let entries = c.in-Some.names.now.entries in
    ap (λ t. renamed (table_names to t) name) c.in-Some.is
    ∙ (name_there to name entries
    ∙ ap (λ o. option_map_or (cut to) o name)
    (ap (λ t. lookup (λ k. text_eq t k.now) entries) (sym c.cut.ensures) ∙ sym (c.copied.ensures ∙ c.get.ensures.value)))
