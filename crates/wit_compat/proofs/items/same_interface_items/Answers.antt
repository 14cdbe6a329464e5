use Rattle.std.proofs.Common.{sym, ap, ◌∙◌, option_map}
use Rattle.compat_meaning.specs.TwoSides.{path_text}
use Rattle.wit_compat.proofs.WorldContents.{both_inline, both_paths, first_inline, second_inline}
use Rattle.wit_compat.proofs.items.same_interface_items.Goals as goal
use Rattle.base_lemmas.proofs.Options.{if_ok as in_ok}

pub returns-in-Some-path_at-clause-exact : goal.returns-in-Some-path_at-clause-exact
returns-in-Some-path_at-clause-exact c = both_paths c.args.left.now.resolve.now c.args.right.now.resolve.now c.args.a.0 c.args.b.0 (path_text c.in-Some.path) (path_text c.in-Some-path_at.other)
    c.same_paths.result (sym c.path_at.ensures.path ∙ ap (option_map path_text) c.in-Some.is) (sym c.path_at-in-Some.ensures.path ∙ ap (option_map path_text) c.in-Some-path_at.is) c.same_paths.ensures

pub returns-in-None-path_at-clause-exact : goal.returns-in-None-path_at-clause-exact
returns-in-None-path_at-clause-exact c = second_inline c.args.left.now.resolve.now c.args.right.now.resolve.now c.args.a.0 c.args.b.0 (path_text c.in-Some.path)
    (sym c.path_at.ensures.path ∙ ap (option_map path_text) c.in-Some.is) (sym c.path_at-in-Some.ensures.path ∙ ap (option_map path_text) c.in-None-path_at.is)

pub returns-in-Some-path_at-2-clause-exact : goal.returns-in-Some-path_at-2-clause-exact
returns-in-Some-path_at-2-clause-exact c = first_inline c.args.left.now.resolve.now c.args.right.now.resolve.now c.args.a.0 c.args.b.0 _
    (sym c.path_at.ensures.path ∙ ap (option_map path_text) c.in-None.is) (sym c.path_at-in-None.ensures.path ∙ ap (option_map path_text) c.in-Some-path_at-2.is)

pub returns-in-None-path_at-2-clause-exact : goal.returns-in-None-path_at-2-clause-exact
returns-in-None-path_at-2-clause-exact c = in_ok _ _ (λ y. both_inline c.args.left.now.resolve.now c.args.right.now.resolve.now c.args.a.0 c.args.b.0 y
    (sym c.path_at.ensures.path ∙ ap (option_map path_text) c.in-None.is) (sym c.path_at-in-None.ensures.path ∙ ap (option_map path_text) c.in-None-path_at-2.is)) c.same_interfaces.result
    c.same_interfaces.ensures.exact
