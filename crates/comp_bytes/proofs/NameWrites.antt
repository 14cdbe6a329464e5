-- What is written of a name is its shortest spelling.
use Rattle.std.proofs.Common.{ℕ, ◌^◌, ◌<◌, List, [], ◌∷◌, ◌++◌, length, refl, arith, subst, ap, length-append}
use Rattle.std.specs.{List.AllByRecursion, Str.IsUtf8}
use Rattle.comp_bytes.specs.{Form.Name, Writing.u32_bytes, Writing.name_bytes, FormatLaws.ShortestName}
use Rattle.comp_bytes.proofs.Writes.{spells_u32, shortest_number}

-- the front of small bytes is small
front_of : (front rest : List ℕ) → AllByRecursion (λ b. b < 256) (front ++ rest) → AllByRecursion (λ b. b < 256) front
front_of [] rest f = tt
front_of (b ∷ front) rest f = (f.0, front_of front rest f.1)

pub spells_name : (text : List ℕ) → IsUtf8 text → length text < 2 ^ 32 → Name text (name_bytes text)
spells_name text utf8 lt = ((u32_bytes (length text), text, refl, spells_u32 (length text) lt, refl), utf8)

pub shortest_name : ShortestName
shortest_name text utf8 lt = (
  spells_name text utf8 lt,
  λ bytes small s.
      let all = subst (AllByRecursion (λ b. b < 256)) s.0.2 small in
      let fewer = (shortest_number (length text) lt).1 s.0.0 (front_of s.0.0 s.0.1 all) s.0.3 in
      omega (arith, fewer, ap length s.0.2, ap length s.0.4, length-append s.0.0 s.0.1, length-append (u32_bytes (length text)) text),
)
