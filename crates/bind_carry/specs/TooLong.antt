-- A list would get too long, by how many are copied.
use Rattle.std.specs.Prelude.{ℕ, ◌+◌, ◌<◌, ◌⊎◌, Bool, List, length, map, is_none}
use Rattle.wit_model.specs.declared.model.{Resolve.Resolve, World.World}
use Rattle.bind_match.specs.declared.matches.Matches.{Matches}
use Rattle.bind_carry.specs.{Bound.bound_interfaces, BoundGains.bound_fates, BoundGains.gained_inline, Which.new_interfaces, Which.new_worlds, Which.IsNumbered, Fates.copies, Fates.numbers_by, First.first_fates, Marked.mark_worlds, Numbers.copied_count}
use Rattle.bind_carry.specs.declared.{fate.Fate.Fate, plan.Carried.Carried}

-- what is carried, and what becomes of types, by names that callers' proofs can use
abbrev pub CarriedThings : Type 0
CarriedThings = Carried

abbrev pub TypeFates : Type 0
TypeFates = List Fate

-- so many types of these fates are copied
abbrev pub copies_of : List Fate → ℕ
copies_of fates = copied_count (map copies fates)

-- ---- what is carried by path

abbrev pub carried_packages : Matches → List Bool
carried_packages m = map is_none m.packages.items

abbrev pub carried_worlds : Resolve → Matches → List Bool
carried_worlds other m = new_worlds other m.worlds.items other.worlds.items

abbrev pub carried_interfaces : Resolve → Matches → List Bool
carried_interfaces other m = mark_worlds other (new_interfaces m.interfaces.items other.interfaces.items) (carried_worlds other m) other.worlds.items

-- One of the lists of packages, worlds and interfaces would get too long.
abbrev pub AreTooManyByPath : Resolve → Resolve → Matches → Type 0
AreTooManyByPath own other m =
    (4294967295 < length own.packages.items + copied_count (carried_packages m))
    ⊎ ((4294967295 < length own.worlds.items + copied_count (carried_worlds other m))
    ⊎ (4294967295 < length own.interfaces.items + copied_count (carried_interfaces other m)))

-- ---- what the bound world gains

-- which types are copied with it, behind so many interfaces that were added before
abbrev pub gained_fates : Resolve → Resolve → ℕ → ℕ → World → World → Carried → List Fate → List ℕ → ℕ → List Fate
gained_fates own other world other_world w v c fates types before =
    bound_fates other world other_world w v (gained_inline other c.interfaces.items w v)
    (bound_interfaces own before c (gained_inline other c.interfaces.items w v)) fates types

-- One of the lists of interfaces and types would get too long, behind so many interfaces and types that were added before.
abbrev pub AreTooManyGained : Resolve → Resolve → ℕ → ℕ → World → World → Carried → List Fate → List ℕ → ℕ → ℕ → Type 0
AreTooManyGained own other world other_world w v c fates types before before_types =
    (4294967295 < (length own.interfaces.items + before) + copied_count (gained_inline other c.interfaces.items w v))
    ⊎ (4294967295 < (length own.types.items + before_types) + copies_of (gained_fates own other world other_world w v c fates types before))

-- ---- all of it

-- So are the types that are carried by path, or what the bound world gains behind them.
abbrev pub AreTooManyCarried : Resolve → Resolve → ℕ → ℕ → World → World → Carried → List Fate → Type 0
AreTooManyCarried own other world other_world w v c fates =
    (4294967295 < length own.types.items + copies_of fates)
    ⊎ AreTooManyGained own other world other_world w v c fates (numbers_by (length own.types.items) fates) (copied_count c.copied_interfaces.items)
    (copies_of fates)

-- One of the lists would get too long with what a union adds.
abbrev pub IsTooLong : Resolve → Resolve → ℕ → ℕ → Matches → World → World → Type 0
IsTooLong own other world other_world m w v =
    AreTooManyByPath own other m ⊎ ((c : Carried) × IsNumbered own other m c
    × AreTooManyCarried own other world other_world w v c (first_fates own other m.interfaces.items c))
