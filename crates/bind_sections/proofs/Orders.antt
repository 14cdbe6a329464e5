-- Bindings unite or clash, and lists of them are bound exactly where no two clash.
use Rattle.std.proofs.Common.{List, [], ◌∷◌}
use mathlib.Core.Logic.{inl, inr}
use Rattle.std.specs.Prelude.{◌⊎◌}
use Rattle.bind_meaning.specs.{Binding.Binding, Clash.CanUnite, Laws.SomeClash, Orders.AllUnited, Orders.ArePairwise, Roots.root_binding}
use Rattle.bind_meaning.proofs.{ClashLaws.united_have_no_clash, Orders.pairwise_folds, Searches.unite_or_clash}
use Rattle.bind_sections.specs.Orders.{BindsWhereNoTwoClash, ClashesWithNone, EachUnitesOrClashes, NoTwoClash}
use Rattle.wit_bind.proofs.Telling.{tell-entry, tell-interface, tell-world}

pub each_unites_or_clashes : EachUnitesOrClashes
each_unites_or_clashes = unite_or_clash tell-interface tell-world tell-entry

no-clash : (a b : Binding) → CanUnite a b → SomeClash a b → ⊥
no-clash a b u c = united_have_no_clash a b c.0 c.1 u c.2

or-else : (a b : Binding) → (SomeClash a b → ⊥) → CanUnite a b
or-else a b never = by (each_unites_or_clashes a b)
  where
    by : CanUnite a b ⊎ SomeClash a b → CanUnite a b
    by (inl u) = u
    by (inr c) = absurd (never c)

with-none : (a : Binding) (bs : List Binding) → AllUnited a bs → ClashesWithNone a bs
with-none a [] all = tt
with-none a (b ∷ bs) all = ((no-clash a b all.0.0, no-clash b a all.0.1), with-none a bs all.1)

all-united : (a : Binding) (bs : List Binding) → ClashesWithNone a bs → AllUnited a bs
all-united a [] all = tt
all-united a (b ∷ bs) all = ((or-else a b all.0.0, or-else b a all.0.1), all-united a bs all.1)

no-two : (bs : List Binding) → ArePairwise bs → NoTwoClash bs
no-two [] all = tt
no-two (b ∷ bs) all = (with-none b bs all.0, no-two bs all.1)

pairwise : (bs : List Binding) → NoTwoClash bs → ArePairwise bs
pairwise [] all = tt
pairwise (b ∷ bs) all = (all-united b bs all.0, pairwise bs all.1)

pub binds_where_no_two_clash : BindsWhereNoTwoClash
binds_where_no_two_clash bs = (λ h. no-two (root_binding ∷ bs) ((pairwise_folds bs).0 h), λ h. (pairwise_folds bs).1 (pairwise (root_binding ∷ bs) h))
