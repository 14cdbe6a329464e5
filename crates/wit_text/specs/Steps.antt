-- The steps of a walk that puts interfaces.
use Rattle.std.specs.Prelude.{◌≡◌, ◌+◌, true, false, ℕ, nat_eq, List, [], ◌∷◌, ◌++◌, Some, None, map, slice_get}
use Rattle.indexmap.specs.IndexMap.{get}
use Rattle.text_names.specs.declared.needs.Need.{Need}
use Rattle.wit_model.specs.declared.model.WorldItem.{WorldItem}
use Rattle.wit_text.specs.Items.{WorldEntry, path_key}
use Rattle.wit_text.specs.Puts.{goes_to, links, number_at, stands, IsDeclared, IsFronted}
use Rattle.wit_text.specs.declared.shown.Walk.{Walk}
use Rattle.text_plain.specs.Orders.{needed}

-- an interface on the path of a walk, and how many of its needs are done
abbrev pub Frame : Type 0
Frame = ℕ × ℕ

-- the interfaces that are needed
abbrev pub numbers_of : List Need → List ℕ
numbers_of needs = map (λ need. need.number) needs

-- The interface is put behind all entries.
pub record PutsOne (walk : Walk) (n : ℕ) (old new : List WorldEntry) : Type 0 where
  pub item : WorldItem
  pub declared : IsDeclared walk n
  pub fronted : IsFronted walk (get nat_eq walk.mine.now n) (number_at walk.numbers.now n) item
  pub grows : new ≡ old ++ (path_key (number_at walk.numbers.now n), item) ∷ []

-- One step, at an interface that was taken from the end of the path with so many of its needs done.
pub data Goes (walk : Walk) (es : List WorldEntry) (path : List Frame) (n at : ℕ) : List WorldEntry → List Frame → Type 0 where
  is_there : stands walk es n ≡ true → Goes walk es path n at es path
  goes_on : (m : ℕ) → slice_get (needed (links walk) n) at ≡ Some m → goes_to walk m ≡ true
      → Goes walk es path n at es ((path ++ (n, at + 1) ∷ []) ++ (m, 0) ∷ [])
  passes : (m : ℕ) → slice_get (needed (links walk) n) at ≡ Some m → goes_to walk m ≡ false
      → Goes walk es path n at es (path ++ (n, at + 1) ∷ [])
  is_put : (fs : List WorldEntry) → stands walk es n ≡ false → slice_get (needed (links walk) n) at ≡ None → PutsOne walk n es fs
      → Goes walk es path n at fs path
