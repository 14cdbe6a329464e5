use Rattle.std.proofs.Common.{ap, ◌∙◌, ◌&&◌, true, not, option_and_then, is_some}
use Rattle.std.specs.Option.{option_map_or}
use Rattle.wit_model.specs.{Text.text_of, Lookup.package_at, Rules.interface_is_listed, Rules.is_world_name, Rules.package_number, Valid.places}
use Rattle.check_rules.proofs.Found.{said}
use Rattle.check_rules.proofs.places.interface_keeps.Goals as goal

pub returns : goal.returns
unfolding places
returns c =
    let i = c.index.result.now in
    said (places.interface_ c.args.resolve.now) _ _ _ _ c.requires.in_range c.index.ensures (c.interface_is_placed.ensures ∙ ap (λ b. is_some i.package && option_map_or
    (λ name. option_map_or (λ p. interface_is_listed c.args.number (text_of name) p && not (is_world_name p (text_of name))) (option_and_then (package_at c.args.resolve.now)
    (package_number i.package)) true) i.name b) (c.requires.table c.args.number c.requires.in_range i.package))
