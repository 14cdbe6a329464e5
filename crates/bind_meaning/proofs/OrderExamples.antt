-- Worked examples: worlds that bind in every order, and one that binds in none.
use Rattle.std.proofs.Common.{◌≡◌, refl, sym, subst, List, [], ◌∷◌, None}
use Rattle.std.specs.Prelude.{codes}
use Rattle.wit_model.specs.{Names.cut, Meaning.WorldPackage}
use Rattle.bind_meaning.specs.{Binding.Binding, ByMeaning.binding_of_world, Clash.CanUnite, Lists.Listed, Lists.ListsAgree, Lists.binding_from, Orders.ArePairwise, Orders.Folds, Orders.IsReordered, Roots.root_binding}
use Rattle.bind_meaning.proofs.{EachOrder.every_order_folds, ListLaws.got, ListLaws.united_by_lists, WorldLists.binding_listed, WorldLists.world_lists}
use Rattle.bind_meaning.proofs.InterfaceExamples.{key_shown, showing, test_path, test_shown, under_its_path}
use Rattle.bind_meaning.proofs.Orders.{pairwise_folds}
use Rattle.wit_model.specs.declared.model.StringEncoding.TheVariants as encodings
use Rattle.bind_meaning.proofs.Examples as functions
use Rattle.bind_meaning.proofs.InterfaceExamples as interfaces

-- world w { import test:test/test; } of package c:d
abbrev other : WorldPackage
other = showing (record { namespace = codes "c"; name = codes "d"; version = None }) (codes "w") (under_its_path test_path ∷ []) [] test_path functions.unit_function

abbrev other_lists : Listed
other_lists = world_lists other test_shown (codes "test:test/test/f" ∷ []) [] encodings.UTF8

other_listed : binding_of_world other encodings.UTF8 ≡ binding_from other_lists
unfolding cut
other_listed = binding_listed other test_shown (codes "test:test/test/f" ∷ []) [] encodings.UTF8 refl tt (key_shown test_path functions.unit_function (got test_shown test_path)) refl

-- ---- three worlds

-- the empty root world, the world foo of `test:test`, that of `a:b`, and w, by lists
abbrev four : List Binding
four = binding_from functions.root_lists ∷ binding_from interfaces.foo_lists ∷ binding_from functions.foo_lists ∷ binding_from other_lists ∷ []

unites : (a b : Listed) → ListsAgree a b → ListsAgree b a → CanUnite (binding_from a) (binding_from b) × CanUnite (binding_from b) (binding_from a)
unites a b there back = (united_by_lists a b there, united_by_lists b a back)

four_pairwise : ArePairwise four
four_pairwise = (
  (
    unites functions.root_lists interfaces.foo_lists (assumption) (assumption),
    (unites functions.root_lists functions.foo_lists (assumption) (assumption), (unites functions.root_lists other_lists (assumption) (assumption), tt)),
  ),
  (
    (unites interfaces.foo_lists functions.foo_lists (assumption) (assumption), (unites interfaces.foo_lists other_lists (assumption) (assumption), tt)),
    ((unites functions.foo_lists other_lists (assumption) (assumption), tt), (tt, tt)),
  ),
)

-- the three by what they mean
abbrev three : List Binding
three = binding_of_world interfaces.foo encodings.UTF8 ∷ binding_of_world functions.foo encodings.UTF8 ∷ binding_of_world other encodings.UTF8 ∷ []

three_pairwise : ArePairwise (root_binding ∷ three)
three_pairwise = subst ArePairwise (sym (λ i. functions.root_by_lists i ∷ interfaces.foo_listed i ∷ functions.foo_listed i ∷ other_listed i ∷ [])) four_pairwise

-- they bind in all six orders
every_order : (bs : List Binding) → IsReordered three bs → (c : Binding) × Folds root_binding bs c
every_order bs order = (every_order_folds three bs order).0 ((pairwise_folds three).1 three_pairwise)

-- ---- one world twice

-- both export the interface
bar_itself : CanUnite (binding_from interfaces.bar_lists) (binding_from interfaces.bar_lists) → ⊥
bar_itself u = u.exports test_path tt

abbrev twice : List Binding
twice = binding_of_world interfaces.bar encodings.UTF8 ∷ binding_of_world interfaces.bar encodings.UTF8 ∷ three

-- with the world bar of `test:test` twice among them no order binds
no_order : (bs : List Binding) → IsReordered twice bs → (c : Binding) → Folds root_binding bs c → ⊥
no_order bs order c folds =
    let pairs = (pairwise_folds twice).0 ((every_order_folds twice bs order).1 (c, folds)) in
    bar_itself (subst (λ b. CanUnite b b) interfaces.bar_listed pairs.1.0.0.0)
