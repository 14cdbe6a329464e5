-- The parts of a world as the code sees them, with borrowed names.
use Rattle.std.specs.Prelude.{◌≡◌, ℕ, List, [], ◌∷◌, Some}
use Rattle.std.specs.List.{Contains}
use Rattle.wit_model.specs.declared.model.Resolve.{Resolve}
use Rattle.wit_model.specs.Parts.{function_types}
use Rattle.compat_meaning.specs.declared.part.{Part.Part, Entry.Entry}
use Rattle.compat_meaning.specs.Flat.{FlatName, Thing, interface, of_type, of_function, find_named}
use Rattle.compat_meaning.specs.Table.{AllInRange}
use Rattle.compat_meaning.specs.declared.part.Part.TheVariants as part

abbrev pub thing_of : Part → Thing
thing_of part.Interface = interface
thing_of (part.Type_ t) = of_type t
thing_of (part.Function f) = of_function f.now

abbrev pub named_thing : Entry → FlatName × Thing
named_thing e = ((e.key.text.now, e.name.now), thing_of e.part)

-- a thing with the number of its key
abbrev pub with_number : ℕ → FlatName × Thing → ℕ × (FlatName × Thing)
with_number n x = (n, x)

abbrev pub numbered_thing : Entry → ℕ × (FlatName × Thing)
numbered_thing e = with_number e.key.number (named_thing e)

-- the types in a thing are in range
abbrev pub ThingInRange : Resolve → Thing → Type 0
ThingInRange r interface = Unit {0}
ThingInRange r (of_type t) = AllInRange r (t ∷ [])
ThingInRange r (of_function f) = AllInRange r (function_types f)

abbrev pub EntriesInRange : Resolve → List Entry → Type 0
EntriesInRange r es = (e : Entry) → Contains es e → ThingInRange r (thing_of e.part)

-- what is found under a name is in range
abbrev pub FoundInRange : Resolve → List (FlatName × Thing) → Type 0
FoundInRange r xs = (name : FlatName) (t : Thing) → find_named name xs ≡ Some t → ThingInRange r t
