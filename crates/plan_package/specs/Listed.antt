-- What is listed in a package: exactly the places whose homes are there (WIT.md, "Package declaration"), and worlds by their order.
use Rattle.std.specs.Prelude.{◌≡◌, ◌<◌, ℕ, true, List, map, Option, Some, slice_get}
use Rattle.std.specs.List.{AllByRecursion}
use Rattle.wit_model.specs.Text.{Text}
use Rattle.read_rules.specs.declared.scopes.Scope.{Scope}
use Rattle.plan_meaning.specs.NumberedWorlds.{are_once}
use Rattle.plan_package.specs.{WholeInterfaces.Home, WholePackages.entries_from, WholePackages.numbered_labels}

-- the place of this number has its home in the package, under the name
pub record IsHomeAt (homes : ℕ → Option Home) (q : ℕ) (places : List ℕ) (e : Text × ℕ) : Type 0 where
  pub place : ℕ
  pub there : slice_get places e.1 ≡ Some place
  pub home : homes place ≡ Some (q, e.0)

-- Each place whose home is in the package stands under the name of its home, by its own number, and nothing else does. They stand in the order of
-- their numbers, none of them twice.
pub record ListsHomes (homes : ℕ → Option Home) (q : ℕ) (places : List ℕ) (es : List (Text × ℕ)) : Type 0 where
  pub among : AllByRecursion (IsHomeAt homes q places) es
  pub stand : (n place : ℕ) (name : Text) → slice_get places n ≡ Some place → homes place ≡ Some (q, name) → (j : ℕ) × (slice_get es j ≡ Some (name, n))
  pub rise : (i j : ℕ) (e f : Text × ℕ) → slice_get es i ≡ Some e → slice_get es j ≡ Some f → i < j → e.1 < f.1
  pub once : are_once (map (λ (e : Text × ℕ). e.1) es) ≡ true

-- the world of this number has the name
pub record IsWorldAt (ws : List (Text × Scope)) (e : Text × ℕ) : Type 0 where
  pub world : Text × Scope
  pub there : slice_get ws e.1 ≡ Some world
  pub name : e.0 ≡ world.0

-- All worlds stand under their labels, in order, each by its own number.
pub record ListsWorlds (ws : List (Text × Scope)) (es : List (Text × ℕ)) : Type 0 where
  pub among : AllByRecursion (IsWorldAt ws) es
  pub names : map (λ (e : Text × ℕ). e.0) es ≡ map (λ (w : Text × Scope). w.0) ws
  pub stand : (n : ℕ) (w : Text × Scope) → slice_get ws n ≡ Some w → slice_get es n ≡ Some (w.0, n)

-- ---- laws

abbrev pub HomesAreListed : Type 0
HomesAreListed = (homes : ℕ → Option Home) (q : ℕ) (places : List ℕ) → ListsHomes homes q places (entries_from homes q 0 places)

abbrev pub WorldsAreListed : Type 0
WorldsAreListed = (ws : List (Text × Scope)) → ListsWorlds ws (numbered_labels 0 ws)
