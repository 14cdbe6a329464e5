-- Comments of WIT text (WIT.md, "Comments"): from `//` to the end of the line, and from `/*` to its `*/`, with others in `/* */` within.
use Rattle.std.specs.Prelude.{◌==◌, ◌&&◌, Bool, true, false, ℕ, zero, suc, List, [], ◌∷◌, Option, None, Some, if◌then◌else◌}
use Rattle.print_grammar.specs.Token.{Front, Front.Ended, Front.Skipped, Front.Unknown, is_blank, begins_comment, after_comment, found, longest}

-- whether a text begins with an asterisk
abbrev pub begins_with_star : List ℕ → Bool
begins_with_star [] = false
begins_with_star (c ∷ cs) = c == 42

-- whether a comment in `/* */` begins
abbrev pub begins_block : List ℕ → Bool
begins_block [] = false
begins_block (c ∷ cs) = (c == 47) && begins_with_star cs

-- what follows the first character
abbrev pub behind_one : List ℕ → List ℕ
behind_one [] = []
behind_one (c ∷ cs) = cs

-- what follows a comment in `/* */` that is open, with so many more open within it, if all of them are closed
unfoldable pub after_block : ℕ → List ℕ → Option (List ℕ)
after_block inner [] = None
after_block inner (c ∷ []) = None
after_block zero (c ∷ d ∷ cs) =
    if (c == 42) && (d == 47) then Some cs
    else (if (c == 47) && (d == 42) then after_block 1 cs else after_block 0 (d ∷ cs))
after_block (suc inner) (c ∷ d ∷ cs) =
    if (c == 42) && (d == 47) then after_block inner cs
    else (if (c == 47) && (d == 42) then after_block (suc (suc inner)) cs else after_block (suc inner) (d ∷ cs))

-- a comment is passed over up to what follows it, or it isn't closed
abbrev pub skipped : Option (List ℕ) → Front
skipped None = Unknown
skipped (Some rest) = Skipped rest

-- What stands at the front of a text: its end, a blank, a comment, a token, or nothing that may.
abbrev pub front_in_text : List ℕ → Front
front_in_text [] = Ended
front_in_text (c ∷ cs) =
    elim (is_blank c) [
      | true ↦ Skipped cs
      | false ↦ elim (begins_comment (c ∷ cs)) [
        | true ↦ Skipped (after_comment cs)
        | false ↦ elim (begins_block (c ∷ cs)) [
          | true ↦ skipped (after_block 0 (behind_one cs))
          | false ↦ found (longest [] (c ∷ cs))
        ]
      ]
    ]
