-- The first bytes of a text as a number, and the order of texts that compares it first.
use Rattle.std.specs.Prelude.{[], ◌∷◌, List, Option, ℕ, get_or}
use Rattle.std.specs.{BTreeMap.is_at, Borrow.Bor, Cmp.Lexicographic.slice_cmp, Int.from_be_bytes, Int.w64, Map.lookup, Ordering.nat_cmp, Ordering.ordering_then}
use Rattle.std.specs.declared.cmp.Ordering.{Ordering}
use Rattle.wit_model.specs.Text.{Text}

-- the first eight bytes of a text as a number, the first byte as its highest: 0 stands for each that the text lacks
unfoldable pub head_of : Text → ℕ
head_of t = from_be_bytes w64
    (get_or t 0 0 ∷ get_or t 1 0 ∷ get_or t 2 0 ∷ get_or t 3 0 ∷ get_or t 4 0 ∷ get_or t 5 0 ∷ get_or t 6 0 ∷ get_or t 7 0 ∷ [])

-- the order of names as keys: by their heads, then by all of them
abbrev pub name_order : Bor Text → Bor Text → Ordering
name_order a b = ordering_then (nat_cmp (head_of a.now) (head_of b.now)) (slice_cmp nat_cmp a.now b.now)

-- the number that a name has among the entries of a map, if any
abbrev pub known_number : List (Bor Text × ℕ) → Bor Text → Option ℕ
known_number es k = lookup (is_at (name_order k)) es
