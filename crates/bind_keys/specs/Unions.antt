-- Two maps of encodings: where they differ, and what both are together.
use Rattle.std.specs.Prelude.{◌≡◌, ◌==◌, not, if◌then◌else◌, Bool, false, Option, Some, None}
use Rattle.std.specs.Option.{option_map_or}
use Rattle.wit_model.specs.declared.model.StringEncoding.{StringEncoding}
use Rattle.wit_model.specs.Text.{Text}
use Rattle.bind_keys.specs.Encodings.{Encodings, encoding_at, number_of_encoding}

-- whether another encoding stands under a key
abbrev pub has_another : Encodings → Text → StringEncoding → Bool
has_another m key e = option_map_or (λ f. not (number_of_encoding f == number_of_encoding e)) (encoding_at m key) false

-- the key, if it has another encoding
abbrev pub conflict_at : Encodings → Text → StringEncoding → Option Text
conflict_at m key e = if has_another m key e then Some key else None

-- the first, or else the second
abbrev pub or_else : {X : Type 0} → Option X → Option X → Option X
or_else (Some x) o = Some x
or_else None o = o

-- The encodings of one map are added to another: they stand under their keys, and all others stay.
abbrev pub Gains : Encodings → Encodings → Encodings → Type 0
Gains more old new = (k : Text) → encoding_at new k ≡ or_else (encoding_at more k) (encoding_at old k)
