-- The worlds of a whole plan are those that were read, each by what it was followed as (WIT.md, "Worlds"; Binary.md, "Index Spaces" and "Import and
-- Export Definitions").
use Rattle.std.specs.Prelude.{◌≡◌, ◌<◌, ◌≤◌, ◌+◌, ℕ, true, List, length, Some, slice_get}
use Rattle.std.specs.List.{AllByRecursion}
use Rattle.wit_model.specs.{Names.is_label, Text.Text}
use Rattle.plan_meaning.specs.{NumberedMembers.Homes, NumberedMembers.home_at, ReadFunctions.Beside, ReadFunctions.FunctionsAreRead, ReadWorlds.WorldsAreRead}
use Rattle.plan_meaning.specs.{NumberedRules.Fact, Plan.Plan, Plan.PlannedWorld, Plan.world_in, Shapes.named_shape}
use Rattle.plan_meaning.specs.NumberedViews.{NumberedView, PartsOf, Tables, function_at, path_text}
use Rattle.plan_meaning.specs.NumberedWorlds.{NumberedScope, NumberedSeen, NumberedShown, declares, function, implementing, instance, label, path}
use Rattle.read_exports.specs.declared.members.Member.{Member}
use Rattle.read_rules.specs.declared.scopes.Scope.{Scope}
use Rattle.read_rules.specs.Scopes.{numbered_scope}
use Rattle.plan_package.specs.{PlanWhole.PlansWhole, WholeWorlds.worlds_in}
use Rattle.plan_laws.specs.{FirstViews.ViewsAreOrdered, Owners.owners_of, ViewedInterfaces.views_read, Whole.IsPackageInput, WorldItems.WorldsAreApart}
use Rattle.comp_meaning.specs.Reads as reads

-- ---- what was followed of a world

-- an instance stands under the text of its key: the path of its interface, or a label
abbrev pub IsUnderKey : Tables → Text → NumberedShown → Type 0
IsUnderKey t key (instance (path q) v) = key ≡ path_text t q
IsUnderKey t key (instance (label l q) v) = (key ≡ l) × (is_label l ≡ true)
IsUnderKey t key (instance (implementing l q) v) = (key ≡ l) × (is_label l ≡ true)
IsUnderKey t key (function n) = Unit {0}
IsUnderKey t key (declares d) = Unit {0}

-- the name in the place is the last of so many types, behind all that were there before
pub record IsLastType (t : Tables) (home : ℕ) (counts : List ℕ) (j c : ℕ) (name : Text) : Type 0 where
  pub number : ℕ
  pub shape : slice_get t.shapes number ≡ Some (named_shape home name)
  pub last : c ≡ number + 1
  pub behind : (i b : ℕ) → slice_get counts i ≡ Some b → i < j → b < c

-- so many types are there once this import was followed: those that a function is over, and a type as the last
abbrev pub IsCounted : Tables → ℕ → List ℕ → ℕ → ℕ → Text → NumberedShown → Type 0
IsCounted t home counts j c key (instance k v) = Unit {0}
IsCounted t home counts j c key (function n) = PartsOf (λ k. k < 14 + c) (function_at t n)
IsCounted t home counts j c key (declares d) = IsLastType t home counts j c key

-- How many types there were once each import was followed: no fewer than before it.
pub record ImportsAreCounted (t : Tables) (w : NumberedScope) : Type 0 where
  pub counts : List ℕ
  pub many : length counts ≡ length w.imports
  pub rising : (i j b c : ℕ) → slice_get counts i ≡ Some b → slice_get counts j ≡ Some c → i < j → b ≤ c
  pub counted : (j c : ℕ) (s : NumberedSeen) → slice_get w.imports j ≡ Some s → slice_get counts j ≡ Some c → IsCounted t w.home counts j c s.key s.shown

-- The instances of a world stand under the texts of their keys, and its imports came into the table in their order.
pub record WorldIsFollowed (t : Tables) (w : NumberedScope) : Type 0 where
  pub imports : AllByRecursion (λ (s : NumberedSeen). IsUnderKey t s.key s.shown) w.imports
  pub exports : AllByRecursion (λ (s : NumberedSeen). IsUnderKey t s.key s.shown) w.exports
  pub counted : ImportsAreCounted t w

abbrev pub WorldsAreFollowed : Tables → List Member → Type 0
WorldsAreFollowed t ms = AllByRecursion (λ (w : Text × Scope). WorldIsFollowed t (numbered_scope w.1)) (worlds_in ms)

-- ---- the worlds of a plan

-- the world was read by what the member of its number shows
pub record IsReadAs (ms : List Member) (m : ℕ) (scope : NumberedScope) : Type 0 where
  pub world : Text × Scope
  pub there : slice_get (worlds_in ms) m ≡ Some world
  pub same : scope ≡ numbered_scope world.1

-- All worlds were read so.
pub record WorldsAreReadAs (t : Tables) (ms : List Member) (kept : List ℕ) (p : Plan) (b : Beside) (views : ℕ → NumberedView) : Type 0 where
  pub worlds : WorldsAreRead t kept p b views
  pub followed : (m : ℕ) (x : PlannedWorld) (e : world_in p m ≡ Some x) → IsReadAs ms m (worlds m x e).scope

-- They are, where their functions are read.
abbrev pub PlannedWorldsAreRead : Type 0
PlannedWorldsAreRead = (t : Tables) (h : Homes) (known : ℕ → Fact) (n : ℕ) (ms : List Member) (members : List reads.Member)
    → IsPackageInput t h known n ms members → ViewsAreOrdered t ms → WorldsAreApart ms → WorldsAreFollowed t ms
    → (p : Plan) (planned : PlansWhole t h.packages (home_at h) n ms p) (b : Beside) → b.known ≡ known → b.owners ≡ owners_of ms
    → FunctionsAreRead t planned.kept p b → WorldsAreReadAs t ms planned.kept p b (views_read ms)
