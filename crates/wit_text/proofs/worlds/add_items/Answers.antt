use Rattle.std.proofs.Common.{◌∙◌}
use Rattle.base_lemmas.proofs.Options.{on-both}
use Rattle.text_types.proofs.Growth.{placed}
use Rattle.text_types.proofs.ScopeLaws.{is_placed}
use Rattle.wit_text.proofs.{SideLaws.given_on, SideLaws.inline_join, Walking.on_ok, WorldLaws.has_items}
use Rattle.wit_text.proofs.worlds.add_items.Goals as goal

pub add_exports-requires-clause-placed : goal.add_exports-requires-clause-placed
add_exports-requires-clause-placed c = placed c.add_all_functions.ensures.grows (is_placed c.in_ok-make_types.ensures.placed)

pub add_exports-requires-clause-given : goal.add_exports-requires-clause-given
add_exports-requires-clause-given c = given_on c.in_ok-add_interfaces.ensures.keeps c.requires.given

pub add_exports-requires-clause-text : goal.add_exports-requires-clause-text
add_exports-requires-clause-text c = c.in_ok-make_types.ensures.placed.text ∙ c.new-scope.ensures.text

pub add_all_functions-requires-clause-text : goal.add_all_functions-requires-clause-text
add_all_functions-requires-clause-text c = c.in_ok-make_types.ensures.placed.text ∙ c.new-scope.ensures.text

pub returns-clause-keeps : goal.returns-clause-keeps
returns-clause-keeps c = on_ok _ _ c.add_exports.result (λ k. inline_join c.in_ok-add_interfaces.ensures.keeps k) c.add_exports.ensures.keeps

pub returns-clause-has : goal.returns-clause-has
returns-clause-has c =
    on-both c.add_exports.result _ _ _
    (λ k adds. has_items c.requires.given c.in_ok-add_interfaces.ensures.keeps k c.args.owner c.make_types.ensures.grows.defs
    c.add_all_functions.ensures.grows.defs
    c.add_exports.ensures.grows.defs c.requires.imports c.requires.exports c.new-scope.ensures.owner c.in_ok-add_interfaces.ensures.adds
    c.in_ok-make_types.ensures.made c.in_ok-add_all_functions.ensures.adds adds)
    c.add_exports.ensures.keeps c.add_exports.ensures.adds
