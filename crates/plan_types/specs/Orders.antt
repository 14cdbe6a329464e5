-- Places in the order in which they are met first (Component Model WIT.md, "Package Format").
use Rattle.std.specs.Prelude.{ℕ, cond, List, [], ◌∷◌, ◌++◌, map}
use Rattle.std.specs.List.{flat_map}
use Rattle.wit_model.specs.Uses.{has}
use Rattle.plan_meaning.specs.NumberedMembers.{NumberedMember, NumberedPart, interface, world}
use Rattle.plan_meaning.specs.{NumberedViews.NumberedView, NumberedWorlds.NumberedInstance}

-- the place comes behind the others, unless it is there
abbrev pub joined : List ℕ → ℕ → List ℕ
joined met p = cond (has met p) met (met ++ p ∷ [])

abbrev pub joined_all : List ℕ → List ℕ → List ℕ
joined_all met [] = met
joined_all met (p ∷ ps) = joined_all (joined met p) ps

-- the places of the instances of a world, or of the imports and the export of an interface's component type
abbrev pub places_of_part : NumberedPart → List ℕ
places_of_part (world w) = map (λ (i : NumberedInstance). i.place) w.instances
places_of_part (interface p v imports) = map (λ (i : ℕ × NumberedView). i.0) imports ++ p ∷ []

-- all that are met, in order, each once
abbrev pub places_met : List NumberedMember → List ℕ
places_met ms = joined_all [] (flat_map (λ m. places_of_part m.part) ms)

-- the worlds' own places
abbrev pub home_of_part : NumberedPart → List ℕ
home_of_part (world w) = w.home ∷ []
home_of_part (interface p v imports) = []

abbrev pub homes_met : List NumberedMember → List ℕ
homes_met ms = joined_all [] (flat_map (λ m. home_of_part m.part) ms)
