use Rattle.std.proofs.Common.{◌≡◌, sym, ap, ◌∙◌, ◌++◌, [], map, None, append-nil}
use Rattle.std.specs.Option.{option_map_or}
use Rattle.wit_model.specs.Lookup.{interface_at}
use Rattle.compat_meaning.specs.{Flat.members, Parts.numbered_thing, Parts.with_number}
use Rattle.wit_compat.proofs.things.push_interface.Goals as goal

pub returns-in-None : goal.returns-in-None
returns-in-None c =
    let none : interface_at c.args.resolve.now c.args.id.0 ≡ None = sym c.in-None.ensures in
    let xs = map numbered_thing c.args.entries.now.items in
    sym (append-nil xs) ∙ ap (λ o. xs ++ map (with_number c.args.key.number) (option_map_or (members c.args.key.text.now) o [])) (sym none)
