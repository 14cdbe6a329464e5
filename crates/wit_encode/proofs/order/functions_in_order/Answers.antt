use Rattle.std.proofs.Common.{rules, ◌≡◌, ◌∙◌, sym, ℕ, List, map, subst}
use Rattle.std.proofs.lemmas.{Fn.always_returns_same, Result.IfOk-weaker, List.Sorted.IsPermutation-map, List.Sorted.IsNonDecreasingBy-from_sort_by_key}
use Rattle.std.specs.{Prelude.All, Prelude.IsPermutation, Prelude.String, Borrow.Bor}
use Rattle.std.specs.declared.alloc.Global.{Global}
use Rattle.wit_model.specs.Text.{Text}
use Rattle.wit_model.specs.declared.model.{TypeId.TypeId, Function.Function}
use Rattle.indexmap.specs.IndexMap.{values}
use Rattle.wit_encode.specs.{Instance.keyed, Instance.placed_function, Order.by_resource, Order.place_among}
use Rattle.wit_encode.proofs.Ordering.{in-list-order, sorted-in-order}
use Rattle.wit_encode.proofs.order.functions_in_order.Goals as goal

pub returns-clause-all : goal.returns-clause-all
returns-clause-all c = subst (λ (xs : List (Text × Function)). IsPermutation xs (map placed_function c.sort_by_key.new.self.items)) c.in_ok-all.ensures.functions
    (IsPermutation-map placed_function _ _ c.sort_by_key.ensures.permutation)

pub returns-clause-order : goal.returns-clause-order
returns-clause-order c =
    let key : ℕ × Bor (String Global) × Bor Function → ℕ = λ e. e.0 in
    sorted-in-order c.in_ok-types.types.items c.in_ok-all.all.items c.sort_by_key.new.self.items
    (subst (λ (ts : List TypeId). All (λ (e : ℕ × Bor (String Global) × Bor Function). e.0 ≡ place_among ts e.2.now) c.in_ok-all.all.items)
    c.deref-2.ensures.value c.in_ok-all.ensures.places) c.sort_by_key.ensures.permutation (IsNonDecreasingBy-from_sort_by_key key _ c.in_ok-sort_by_key.ensures.sorted (λ a r q k. search rules))
    (c.sort_by_key.ensures.stable key (always_returns_same _ (λ a r. r ≡ key a.0.now) _ (λ a r q k. search rules))) ∙ (λ i. by_resource (c.in_ok-types.ensures i) (c.in_ok-all.ensures.functions i))

pub returns-then-not-has_resource-clause-order : goal.returns-then-not-has_resource-clause-order
returns-then-not-has_resource-clause-order c = IfOk-weaker c.placed.result _ _
    (λ v h. h ∙ sym (in-list-order (values c.args.interface.now.types) (map keyed c.args.interface.now.functions.entries) (sym c.has_resource.ensures ∙ c.if-not-has_resource.true)))
    c.placed.ensures.functions
