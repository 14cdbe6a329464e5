use Rattle.std.proofs.Common.{refl, sym, ap, ◌∙◌}
use Rattle.std.specs.Option.{option_copied}
use Rattle.compat_meaning.proofs.Ranges.{import_in_range}
use Rattle.wit_compat.proofs.Sorts.{other_sort}
use Rattle.wit_compat.proofs.senses.same_places.Goals as goal

pub same_items-requires-clause-a : goal.same_items-requires-clause-a
same_items-requires-clause-a c =
    import_in_range c.args.left.now.resolve.now c.requires.left.valid c.in-Import.a.0 c.in-Import.n c.in-Some.item.now (sym c.import_at.ensures ∙ ap option_copied c.in-Some.is)

pub same_items-requires-clause-b : goal.same_items-requires-clause-b
same_items-requires-clause-b c = import_in_range c.args.right.now.resolve.now c.requires.right.valid c.in-Import-other-3.b.0 c.in-Import-other-3.m c.in-Some-import_at.found.now
    (sym c.import_at-in-Some.ensures ∙ ap option_copied c.in-Some-import_at.is)

pub returns-in-World-other-clause-exact : goal.returns-in-World-other-clause-exact
returns-in-World-other-clause-exact c = other_sort c.args.left.now.resolve.now c.args.right.now.resolve.now c.requires.at c.requires.other c.in-Interface.is c.in-World-other.is refl

pub returns-in-Import-other-clause-exact : goal.returns-in-Import-other-clause-exact
returns-in-Import-other-clause-exact c = other_sort c.args.left.now.resolve.now c.args.right.now.resolve.now c.requires.at c.requires.other c.in-Interface.is c.in-Import-other.is refl

pub returns-in-Interface-other-2-clause-exact : goal.returns-in-Interface-other-2-clause-exact
returns-in-Interface-other-2-clause-exact c = other_sort c.args.left.now.resolve.now c.args.right.now.resolve.now c.requires.at c.requires.other c.in-World.is c.in-Interface-other-2.is refl

pub returns-in-Import-other-2-clause-exact : goal.returns-in-Import-other-2-clause-exact
returns-in-Import-other-2-clause-exact c = other_sort c.args.left.now.resolve.now c.args.right.now.resolve.now c.requires.at c.requires.other c.in-World.is c.in-Import-other-2.is refl

pub returns-in-Interface-other-3-clause-exact : goal.returns-in-Interface-other-3-clause-exact
returns-in-Interface-other-3-clause-exact c = other_sort c.args.left.now.resolve.now c.args.right.now.resolve.now c.requires.at c.requires.other c.in-Import.is c.in-Interface-other-3.is refl

pub returns-in-World-other-3-clause-exact : goal.returns-in-World-other-3-clause-exact
returns-in-World-other-3-clause-exact c = other_sort c.args.left.now.resolve.now c.args.right.now.resolve.now c.requires.at c.requires.other c.in-Import.is c.in-World-other-3.is refl
