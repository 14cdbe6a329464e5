-- What the words behind the program's name ask for.
use Rattle.std.specs.Prelude.{ℕ, Bool, ◌&&◌, nat_eq, List, [], ◌∷◌, codes, Vec, Option, Some, None, if◌then◌else◌}
use Rattle.std.specs.{Cmp.Lexicographic.pointwise, Str.is_utf8}
use Rattle.std.specs.declared.alloc.Global.{Global}

-- What is asked for. `demo_text` and `demo_hex`: the demo's package as text or as digits. `print`: the text of a package. `module_text`:
-- the text of what a module binds. `strip`: a module without the sections that carry worlds. `compat`: whether the world of the second name
-- may take the place of the one of the first.
pub data Asked : Type 0 where
  demo_text : Asked
  demo_hex : Asked
  print : Asked
  module_text : Asked
  strip : Asked
  compat : List ℕ → List ℕ → Asked

-- whether a word is this text
abbrev pub is_word : Vec ℕ Global → List ℕ → Bool
is_word word text = pointwise nat_eq word.items text

-- what follows `demo`
abbrev pub demo_of : Vec ℕ Global → Option Asked
demo_of second = if is_word second (codes "text") then Some demo_text else (if is_word second (codes "hex") then Some demo_hex else None)

-- what one word asks for
abbrev pub plain_of : Vec ℕ Global → Option Asked
plain_of word = if is_word word (codes "print") then Some print else
    (if is_word word (codes "module") then Some module_text else (if is_word word (codes "strip") then Some strip else None))

-- what the words ask for, or none where they are no command: `demo text`, `demo hex`, `print`, `module`, `strip`, and `compat` with two words that are
-- UTF-8
abbrev pub asked_of : List (Vec ℕ Global) → Option Asked
asked_of (first ∷ []) = plain_of first
asked_of (first ∷ second ∷ []) = if is_word first (codes "demo") then demo_of second else None
asked_of (first ∷ prev ∷ new ∷ []) = if is_word first (codes "compat") && (is_utf8 prev.items && is_utf8 new.items) then Some
    (compat prev.items new.items) else None
asked_of _ = None
