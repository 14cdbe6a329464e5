-- What a walk along the types of an interface has still to list of the interfaces that it uses.
use Rattle.std.specs.Prelude.{ℕ, Bool, not, ◌&&◌, ◌++◌, ◌==◌, List, filter, map}
use Rattle.wit_model.specs.declared.model.InterfaceId.{InterfaceId}
use Rattle.wit_model.specs.Uses.{once}

abbrev pub number_of_interface : InterfaceId → ℕ
number_of_interface id = id.0

-- what is neither the user's own number nor listed, each once, in the order of first use
abbrev pub yet_unlisted : ℕ → (ℕ → Bool) → List ℕ → List ℕ
yet_unlisted own listed ns = filter (λ m. not (m == own) && not (listed m)) (once ns)

-- what is listed, and behind it what a walk along these has still to list
abbrev pub listed_with : List InterfaceId → ℕ → (ℕ → Bool) → List ℕ → List ℕ
listed_with deps own listed ns = map number_of_interface deps ++ yet_unlisted own listed ns
