-- How WebAssembly files begin (Core Specification, "Modules" of the binary format), and how WIT text does.
use Rattle.std.specs.Prelude.{ℕ, Bool, ◌&&◌, ◌||◌, ◌==◌, List, [], ◌∷◌, length, map, codes, nat_eq, nat_le, if◌then◌else◌}
use Rattle.std.specs.List.{list_any, starts_with}

-- the first four bytes of each: a zero and `asm`
abbrev pub begins_as_wasm : List ℕ → Bool
begins_as_wasm bytes = starts_with nat_eq bytes (0 ∷ 97 ∷ 115 ∷ 109 ∷ [])

-- the same, and as many bytes as the preamble has, at least
abbrev pub has_preamble : List ℕ → Bool
has_preamble bytes = begins_as_wasm bytes && nat_le 8 (length bytes)

-- the first eight of a core module: the same, and version 1
abbrev pub begins_as_module : List ℕ → Bool
begins_as_module bytes = starts_with nat_eq bytes (0 ∷ 97 ∷ 115 ∷ 109 ∷ 1 ∷ 0 ∷ 0 ∷ 0 ∷ [])

-- the first eight of a component: version 13, and layer 1
abbrev pub begins_as_component : List ℕ → Bool
begins_as_component bytes = starts_with nat_eq bytes (0 ∷ 97 ∷ 115 ∷ 109 ∷ 13 ∷ 0 ∷ 1 ∷ 0 ∷ [])

-- ---- WIT text

-- a space, a tab, or what ends a line
abbrev pub is_blank_byte : ℕ → Bool
is_blank_byte b = (b == 32) || ((b == 9) || ((b == 10) || (b == 13)))

-- what stands behind blanks
unfoldable pub behind_blanks : List ℕ → List ℕ
behind_blanks [] = []
behind_blanks (b ∷ bs) = if is_blank_byte b then behind_blanks bs else b ∷ bs

-- how WIT text begins: with what names its package, or with an item (WIT.md, "Package declaration", "Top-level items")
abbrev pub text_items : List (List ℕ)
text_items = map codes ("package " ∷ "world " ∷ "interface " ∷ "use " ∷ [])

-- or with a comment, or an attribute of an item (WIT.md, "Comments", "Feature gates")
abbrev pub text_before_items : List (List ℕ)
text_before_items = map codes ("//" ∷ "/*" ∷ "@since" ∷ "@unstable" ∷ "@deprecated" ∷ [])

-- whether a text begins with one of these
abbrev pub begins_with : List (List ℕ) → List ℕ → Bool
begins_with fronts text = list_any (starts_with nat_eq text) fronts

-- whether bytes begin as WIT text does, behind blanks
abbrev pub begins_as_text : List ℕ → Bool
begins_as_text bytes = begins_with text_items (behind_blanks bytes) || begins_with text_before_items (behind_blanks bytes)
