-- A scan of labels: fragments, with dashes between.
use Rattle.std.specs.Prelude.{ℕ, Bool, true, false, ◌&&◌, ◌||◌, ◌==◌, not, if◌then◌else◌}
use Rattle.wit_model.specs.Names.{is_lower_byte, is_upper_byte}
use Rattle.text_tokens.specs.declared.word.Word.{Word}

-- before the first byte
abbrev pub word_start : Word
word_start = record { alive = true; some = false; lower = true; upper = true }

-- whether the bytes so far are fragments
abbrev pub word_ok : Word → Bool
word_ok s = s.alive && (s.some && (s.lower || s.upper))

-- whether no more bytes can make fragments of them
abbrev pub word_is_dead : Word → Bool
word_is_dead s = not (s.alive && (s.lower || s.upper))

-- a byte more
abbrev pub word_step : Word → ℕ → Word
word_step s c =
    if c == 45
    then record { alive = word_ok s; some = false; lower = true; upper = true }
    else record { alive = s.alive; some = true; lower = s.lower && is_lower_byte c; upper = s.upper && is_upper_byte c }
