use Rattle.std.proofs.Common.{◌↔◌, IsTrue, sym, ap, subst, ◌∙◌}
use Rattle.wit_model.specs.Rules.{item_in_range}
use Rattle.compat_meaning.proofs.{Validity.function_types_in_range}
use Rattle.wit_compat.proofs.{WorldContents.type_items, WorldContents.SameEntries}
use Rattle.base_lemmas.proofs.Options.{if_ok as in_ok}
use Rattle.wit_model.specs.declared.model.WorldItem.TheVariants as item
use Rattle.wit_compat.proofs.items.same_items.Goals as goal

pub same_function_senses-requires-clause-f : goal.same_function_senses-requires-clause-f
same_function_senses-requires-clause-f c =
    function_types_in_range c.args.left.now.resolve.now c.in-Function.function (ap (item_in_range c.args.left.now.resolve.now) (sym c.in-Function.is) ∙ c.requires.a)

pub same_function_senses-requires-clause-g : goal.same_function_senses-requires-clause-g
same_function_senses-requires-clause-g c =
    function_types_in_range c.args.right.now.resolve.now c.in-Function-b-2.other (ap (item_in_range c.args.right.now.resolve.now) (sym c.in-Function-b-2.is) ∙ c.requires.b)

pub returns-in-Type_-b-3-clause-exact : goal.returns-in-Type_-b-3-clause-exact
returns-in-Type_-b-3-clause-exact c =
    let a = c.args.left.now.resolve.now in
    let b = c.args.right.now.resolve.now in
    in_ok _ _ (λ y h. subst (λ i. IsTrue y ↔ SameEntries a b i c.args.b.now) (sym c.in-Type_.is)
    (subst (λ j. IsTrue y ↔ SameEntries a b (item.Type_ c.in-Type_.id) j) (sym c.in-Type_-b-3.is) (type_items a b c.in-Type_.id c.in-Type_-b-3.other y h)))
    c.same_type_meanings.result c.same_type_meanings.ensures.exact
