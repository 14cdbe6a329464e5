-- Orders in which each stands behind what it needs. What needs what is a list that has, for each number, the numbers that it needs.
use Rattle.std.specs.Prelude.{◌≡◌, ◌<◌, ℕ, List, [], map, length, Some, Vec, Contains, slice_get, unwrap_or}
use Rattle.std.specs.Global.{Global}
use Rattle.text_names.specs.declared.needs.Need.{Need}
use Rattle.text_names.specs.declared.order.Order.{Order}
use Rattle.text_names.specs.declared.order.Order.TheVariants.{Numbers, Cycle}
use Rattle.text_plain.specs.Orders.{AreApart, AreWithin, Needs, needed}

-- the numbers that each needs
abbrev pub links_of : List (Vec Need Global) → List (List ℕ)
links_of needs = map (λ own. map (λ need. need.number) own.items) needs

-- From the one number the other is reached along needs, in any number of steps.
pub data Reaches (links : List (List ℕ)) : ℕ → ℕ → Type 0 where
  here : (n : ℕ) → Reaches links n n
  onward : (n m k : ℕ) → Needs links n m → Reaches links m k → Reaches links n k

-- The other stands before this place.
pub record StandsBefore (ns : List ℕ) (i m : ℕ) : Type 0 where
  pub place : ℕ
  pub before : place < i
  pub stands : slice_get ns place ≡ Some m

-- Each stands behind all that it needs.
abbrev pub StandBehind : List (List ℕ) → List ℕ → Type 0
StandBehind links ns = (i n m : ℕ) → slice_get ns i ≡ Some n → Needs links n m → StandsBefore ns i m

-- All numbers stand there, each once and behind all that it needs.
pub record IsOrder (links : List (List ℕ)) (order : List ℕ) : Type 0 where
  pub all : (n : ℕ) → n < length links → Contains order n
  pub within : (n : ℕ) → Contains order n → n < length links
  pub once : AreApart order
  pub behind : StandBehind links order

-- The one of this number has the need, and is reached again from there.
pub record ClosesCycle (needs : List (Vec Need Global)) (n : ℕ) (need : Need) : Type 0 where
  pub place : ℕ
  pub own : Vec Need Global
  pub has : slice_get needs n ≡ Some own
  pub is : slice_get own.items place ≡ Some need
  pub back : Reaches (links_of needs) need.number n

-- an order, or a need that closes a cycle
abbrev pub Orders : List (Vec Need Global) → Order → Type 0
Orders needs (Numbers order) = IsOrder (links_of needs) order.items
Orders needs (Cycle n need) = ClosesCycle needs n need
