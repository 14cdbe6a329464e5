-- What types need, by their places. Serves needs, scope.
use Rattle.std.proofs.Common.{◌≡◌, ◌∙◌, sym, subst, refl, ℕ, zero, suc, ◌<◌, List, [], ◌∷◌, Some, slice_get, length, Vec, map}
use Rattle.std.specs.Global.{Global}
use Rattle.std.proofs.lemmas.{List.length-map, Option.slice_get_read}
use Rattle.text_names.specs.declared.needs.Need.{Need}
use Rattle.text_names.specs.declared.order.Order.{Order}
use Rattle.text_names.specs.declared.order.Order.TheVariants.{Numbers}
use Rattle.text_names.specs.Orders.{links_of, IsOrder, Orders}
use Rattle.text_types.specs.declared.scope.Scope.{Scope}
use Rattle.text_types.specs.Scopes.{types_in, OrdersTypes}
use Rattle.text_types.specs.Needed.{AreAllBelow, AreBelow, StayBelow}
use Rattle.text_plain.specs.Orders.{AreWithin, needed}

pub below_none : {k : ℕ} (a : List Need) → StayBelow k a a
below_none a = record { stay = λ h. h }

pub below_join : {k : ℕ} {a b c : List Need} → StayBelow k a b → StayBelow k b c → StayBelow k a c
below_join h j = record { stay = λ x. j.stay (h.stay x) }

pub ruleset below = (below_none, below_join)

number_below : (k : ℕ) (own : List Need) (i m : ℕ) → AreBelow k own → slice_get (map (λ need. need.number) own) i ≡ Some m → m < k
number_below k [] i m h e = absurd (cc e)
number_below k (x ∷ xs) zero m h e = let same : x.number ≡ m = cc e in subst (λ n. n < k) same h.0
number_below k (x ∷ xs) (suc i) m h e = number_below k xs i m h.1 e

link_below : (k : ℕ) (all : List (Vec Need Global)) (n i m : ℕ) → AreAllBelow k all → slice_get (needed (links_of all) n) i ≡ Some m → m < k
link_below k [] n i m h e = absurd (cc e)
link_below k (x ∷ xs) zero i m h e = number_below k x.items i m h.0 e
link_below k (x ∷ xs) (suc n) i m h e = link_below k xs n i m h.1 e

-- what is needed is among as many
pub all_within : (k : ℕ) (all : List (Vec Need Global)) → length all ≡ k → AreAllBelow k all → AreWithin (links_of all)
all_within k all long h n m need =
    let low : m < k = link_below k all n need.0 m h (slice_get_read (needed (links_of all) n) _ need.0 m refl need.1 (sym need.2)) in
    subst (λ c. m < c) (sym long ∙ sym (length-map all _)) low

-- an order of as many as there are types is one of the types
orders_types : (scope : Scope) (all : List (Vec Need Global)) (order : List ℕ) → length all ≡ length scope.types.items → IsOrder (links_of all) order
    → OrdersTypes scope order
orders_types scope all order long o =
    let many : length (links_of all) ≡ length (types_in scope) = length-map all _ ∙ long ∙ sym (length-map scope.types.items _) in
    record {
      all = λ n h. o.all n (subst (λ k. n < k) (sym many) h);
      within = λ n h. subst (λ k. n < k) many (o.within n h);
      once = o.once;
    }

pub found_order : (scope : Scope) (all needs : List (Vec Need Global)) (found : Order) (order : Vec ℕ Global) → needs ≡ all → found ≡ Numbers order
    → length all ≡ length scope.types.items → Orders needs found → OrdersTypes scope order.items
found_order scope all needs found order same is long o =
    orders_types scope all order.items long (subst (λ them. Orders them (Numbers order)) same (subst (Orders needs) is o))
