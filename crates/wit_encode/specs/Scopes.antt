-- Which canonical names clash in the component type of an interface: those of its imports, for it has one export.
use Rattle.std.specs.Prelude.{◌≡◌, ℕ, Bool, true}
use Rattle.wit_model.specs.declared.{error.Error.Error, model.Resolve.Resolve}
use Rattle.comp_bytes.specs.Refusal.{IsMemoryOrSize}
use Rattle.encode_reach.specs.Reach.{reached_in_order}
use Rattle.encode_names.specs.Clashes.{canonical_paths_of, AreDifferent, RefusesPaths}

-- no two of the interfaces that interface n reaches have one canonical path
abbrev pub HasNoEqualPaths : Resolve → ℕ → Type 0
HasNoEqualPaths r n = AreDifferent (canonical_paths_of r (reached_in_order r n))

-- What the component type of interface n is refused for. Where canonical names are asked for, it is the first canonical path that repeats an
-- earlier one, of the interfaces that it reaches, in the order in which they are imported. Else it is want of memory or what is too large.
pub data RefusesInterface (r : Resolve) (n : ℕ) (canonical : Bool) (e : Error) : Type 0 where
  of_paths : RefusesPaths r (reached_in_order r n) canonical e → RefusesInterface r n canonical e
  of_room : (canonical ≡ true → HasNoEqualPaths r n) → IsMemoryOrSize e → RefusesInterface r n canonical e
