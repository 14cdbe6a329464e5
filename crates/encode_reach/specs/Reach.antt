-- The order in which the interfaces that an interface reaches are written (WIT.md, "Interfaces: use").
use Rattle.std.specs.Prelude.{ℕ, zero, suc, if◌then◌else◌, List, [], ◌∷◌, ◌++◌, fold}
use Rattle.wit_model.specs.declared.model.Resolve.{Resolve}
use Rattle.wit_model.specs.Uses.{has, direct_deps}

-- a number behind the others, where it isn't listed yet
abbrev pub add : List ℕ → ℕ → List ℕ
add ns n = if has ns n then ns else ns ++ n ∷ []

-- What is listed once interface n is: behind what is listed already, first what it uses, in order of first use, each behind what it uses
-- itself, and then n; nothing, where n is listed already. At most so many uses follow on one another.
unfoldable pub listed_with : Resolve → ℕ → List ℕ → ℕ → List ℕ
listed_with r zero listed n = listed
listed_with r (suc k) listed n = if has listed n then listed else add (fold (listed_with r k) listed (direct_deps r n)) n

-- The interfaces that interface n reaches. Numbers fall along the uses of a valid `Resolve`, so no more than n uses follow on one another.
abbrev pub reached_in_order : Resolve → ℕ → List ℕ
reached_in_order r n = fold (listed_with r n) [] (direct_deps r n)
