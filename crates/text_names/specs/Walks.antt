-- Walks along needs, depth first: how far each number has come, the path that the walk is on, and what is done.
use Rattle.std.specs.Prelude.{◌≡◌, ◌<◌, ◌≤◌, ◌+◌, ◌-◌, ℕ, List, [], ◌∷◌, ◌++◌, length, Option, Some, None, Vec, Contains, slice_get, sum_by}
use Rattle.std.specs.Global.{Global}
use Rattle.text_names.specs.declared.needs.Need.{Need}
use Rattle.text_names.specs.declared.order.State.{State}
use Rattle.text_names.specs.declared.order.State.TheVariants.{New, Open, Done}
use Rattle.text_names.specs.declared.order.Walk.{Walk}
use Rattle.text_names.specs.Orders.{links_of, StandBehind, ClosesCycle}
use Rattle.text_plain.specs.Orders.{AreApart, needed}

-- The number stands on the path.
pub record IsOnPath (path : List (ℕ × ℕ)) (n : ℕ) : Type 0 where
  pub place : ℕ
  pub at : ℕ
  pub stands : slice_get path place ≡ Some (n, at)

-- The walk is on this path: what stands there is open, each with so many of its needs done, and needs what stands behind it; what is done stands in order.
pub record IsWalk (links : List (List ℕ)) (states : List State) (path : List (ℕ × ℕ)) (done : List ℕ) : Type 0 where
  pub many : length states ≡ length links
  pub open_there : (i n at : ℕ) → slice_get path i ≡ Some (n, at) → slice_get states n ≡ Some Open
  pub on_path : (n : ℕ) → slice_get states n ≡ Some Open → IsOnPath path n
  pub once : (i j n a b : ℕ) → slice_get path i ≡ Some (n, a) → slice_get path j ≡ Some (n, b) → i ≡ j
  pub fits : (i n at : ℕ) → slice_get path i ≡ Some (n, at) → at ≤ length (needed links n)
  pub linked : (i n a m b : ℕ) → slice_get path i ≡ Some (n, a) → slice_get path (i + 1) ≡ Some (m, b) → slice_get (needed links n) a ≡ Some m
  pub seen : (i n at k m : ℕ) → slice_get path i ≡ Some (n, at) → slice_get (needed links n) k ≡ Some m → k < at → slice_get states m ≡ Some Done
  pub stands : (n : ℕ) → slice_get states n ≡ Some Done → Contains done n
  pub is_done : (i n : ℕ) → slice_get done i ≡ Some n → slice_get states n ≡ Some Done
  pub apart : AreApart done
  pub behind : StandBehind links done

-- the needs that are left at numbers that are new
abbrev pub left_new : List (List ℕ) → List State → ℕ
left_new [] states = 0
left_new (own ∷ links) [] = 0
left_new (own ∷ links) (New ∷ states) = length own + 2 + left_new links states
left_new (own ∷ links) (Open ∷ states) = left_new links states
left_new (own ∷ links) (Done ∷ states) = left_new links states

-- the steps that are left
abbrev pub steps_left : List (List ℕ) → List State → List (ℕ × ℕ) → ℕ
steps_left links states path = left_new links states + sum_by (λ e. (length (needed links e.0) + 1) - e.1) path

-- The number was met.
pub record IsMet (states : List State) (n : ℕ) : Type 0 where
  pub state : State
  pub is : slice_get states n ≡ Some state
  pub old : state ≡ New → ⊥

-- What was met stays so.
abbrev pub KeepsMet : List State → List State → Type 0
KeepsMet old new = (n : ℕ) → IsMet old n → IsMet new n

-- A step leads to a walk with fewer steps left.
pub record Goes (links : List (List ℕ)) (states : List State) (path : List (ℕ × ℕ)) (new : Walk) : Type 0 where
  pub walks : IsWalk links new.states.items new.path.items new.done.items
  pub less : steps_left links new.states.items new.path.items < steps_left links states path
  pub met : KeepsMet states new.states.items

-- a step from the end of the path: it goes on, or a need closes a cycle
abbrev pub Steps : List (Vec Need Global) → List State → List (ℕ × ℕ) → ℕ → ℕ → Walk → Option Need → Type 0
Steps needs states path n at new None = Goes (links_of needs) states (path ++ (n, at) ∷ []) new
Steps needs states path n at new (Some need) = ClosesCycle needs n need

-- The path is walked to its end.
pub record Arrives (links : List (List ℕ)) (states : List State) (new : Walk) : Type 0 where
  pub walks : IsWalk links new.states.items [] new.done.items
  pub empty : new.path.items ≡ []
  pub met : KeepsMet states new.states.items

-- a walk to the end of its path: it arrives, or a need closes a cycle
abbrev pub WalksOn : List (Vec Need Global) → List State → Walk → Option (ℕ × Need) → Type 0
WalksOn needs states new None = Arrives (links_of needs) states new
WalksOn needs states new (Some x) = ClosesCycle needs x.0 x.1
