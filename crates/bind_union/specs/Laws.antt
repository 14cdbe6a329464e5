-- Laws of merging.
use Rattle.std.specs.Prelude.{ℕ, Bool}
use Rattle.wit_model.specs.declared.model.Resolve.{Resolve}
use Rattle.wit_model.specs.Valid.{HasDistinctKeys, IsValid}
use Rattle.bind_union.specs.{Carried.Renumbering, Merged.IsMerged}

-- What is merged of two valid ones is valid. That no map has a key twice is shown by reading the maps.
abbrev pub MergedIsValid : Type 0
MergedIsValid = (own other merged : Resolve) (bound other_bound : ℕ) (first second : Renumbering) (left_out : ℕ → Bool) → IsValid own → IsValid other
    → HasDistinctKeys merged →
    IsMerged own other merged bound other_bound first second left_out → IsValid merged
