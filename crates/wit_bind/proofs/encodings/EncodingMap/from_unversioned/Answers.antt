use Rattle.std.proofs.Common.{◌≡◌, ap, ◌∙◌, subst, IfOk, []}
use Rattle.std.specs.Option.{option_map_or}
use Rattle.indexmap.specs.IndexMap.{get_by_text}
use Rattle.bind_keys.specs.{Functions.Items}
use Rattle.wit_bind.specs.{OldKeys.items_of, OldKeys.items_on, OldKeys.CarriesOver}
use Rattle.wit_bind.proofs.{FunctionKeys.all_carried, OneKey.all_each, Sides.at_number}
use Rattle.wit_bind.proofs.encodings.EncodingMap.from_unversioned.Goals as goal

pub returns-clause-carries : goal.returns-clause-carries
returns-clause-carries c =
    let r = c.args.resolve.now in
    let at = at_number r c.args.world.0 c.index.result.now c.requires.in_range c.index.ensures in
    let items : c.items_of-items.result.now.entries ≡ items_on c.args.side r c.args.world.0 = c.items_of-items.ensures ∙ ap (λ o. option_map_or (items_of c.args.side) o []) at in
    subst (λ (es : Items). IfOk c.wanted_encodings.result (CarriesOver (λ t. get_by_text c.args.unversioned.now t) r es)) items
    (all_carried (λ t. get_by_text c.args.unversioned.now t) r c.items_of-items.result.now.entries c.wanted_encodings.result c.wanted_encodings.ensures.ok)

pub returns-clause-each : goal.returns-clause-each
returns-clause-each c = λ valid. all_each (λ t. get_by_text c.args.unversioned.now t) c.args.resolve.now valid c.args.side c.args.world.0 c.wanted_encodings.result (returns-clause-carries c)
