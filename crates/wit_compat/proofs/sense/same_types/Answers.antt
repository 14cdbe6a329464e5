use Rattle.std.proofs.{Common.rules, Common.get_or, lemmas.Option.slice_get-get_or, lemmas.List.Elements.Contains-get_or}
use Rattle.wit_model.specs.declared.model.«Type».TheVariants as ty
use Rattle.compat_meaning.proofs.Sided.{never, not_same, tree_at_place}
use Rattle.wit_compat.proofs.sense.same_types.Goals as goal

pub same_type-requires-clause-a : goal.same_type-requires-clause-a
same_type-requires-clause-a c = c.requires.xs (get_or c.args.xs.now c.loop-i.i ty.Bool) (Contains-get_or c.args.xs.now c.loop-i.i ty.Bool (search rules))

pub same_type-requires-clause-b : goal.same_type-requires-clause-b
same_type-requires-clause-b c = c.requires.ys (get_or c.args.ys.now c.loop-i.i ty.Bool) (Contains-get_or c.args.ys.now c.loop-i.i ty.Bool (search rules))

pub returns-then-not-branch-clause-exact : goal.returns-then-not-branch-clause-exact
returns-then-not-branch-clause-exact c =
    let xs = c.args.xs.now in
    let ys = c.args.ys.now in
    let i = c.loop-i.i in
    never _ (λ same. not_same _ c.in_ok-same_type.ensures.exact (search rules)
    (tree_at_place c.args.left.now.resolve.now c.args.right.now.resolve.now xs ys i (get_or xs i ty.Bool) (get_or ys i ty.Bool)
    (slice_get-get_or xs i ty.Bool (search rules)) (slice_get-get_or ys i ty.Bool (search rules)) same))
