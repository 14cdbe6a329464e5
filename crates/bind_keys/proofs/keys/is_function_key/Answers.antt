use Rattle.std.proofs.Common.{rules, ◌≡◌, refl, sym, ap, ◌∙◌, ◌∷◌, Some, None, false}
use Rattle.std.specs.Option.{option_map_or}
use Rattle.wit_model.specs.Text.{text_eq}
use Rattle.bind_keys.specs.{Keys.scope_of, Keys.text_under, KeyTests.after_scope}
use Rattle.bind_keys.proofs.KeyTexts.{is_behind}
use Rattle.bind_keys.proofs.keys.is_function_key.Goals as goal

pub returns-in-Some : goal.returns-in-Some
returns-in-Some c =
    let front = c.args.parts.front.now in
    let name = c.args.parts.name.now in
    let function = c.args.function.now in
    let found : Some c.in-Some.rest.now ≡ after_scope c.args.resolve.now c.args.key.now front = search rules in
    c.is_left.ensures ∙ ap (λ o. option_map_or (λ rest. text_eq (47 ∷ function) (text_under rest name)) o false) found
    ∙ sym (is_behind (scope_of c.args.resolve.now c.args.key.now) function (text_under front name) front name (record { is = refl; bare = c.requires.bare }))

pub returns-in-None : goal.returns-in-None
returns-in-None c =
    let front = c.args.parts.front.now in
    let name = c.args.parts.name.now in
    let function = c.args.function.now in
    let none : None ≡ after_scope c.args.resolve.now c.args.key.now front = search rules in
    ap (λ o. option_map_or (λ rest. text_eq (47 ∷ function) (text_under rest name)) o false) none
    ∙ sym (is_behind (scope_of c.args.resolve.now c.args.key.now) function (text_under front name) front name (record { is = refl; bare = c.requires.bare }))
