-- Documentation in a gap between tokens (WIT.md, "Comments"): the lines of comments that begin with `///`, or with `/**`, and no more such characters.
use Rattle.std.specs.Prelude.{◌==◌, ◌+◌, ◌-◌, ◌++◌, true, false, ℕ, zero, suc, List, [], ◌∷◌, length, map, take, None, Some, if◌then◌else◌}
use Rattle.std.specs.{List.list_all, Option.option_map_or, Str.trim, Str.Lines.lines}
use Rattle.wit_model.specs.Text.{Text, text_of}
use Rattle.wit_model.specs.declared.model.Docs.{Docs}
use Rattle.print_grammar.specs.Token.{begins_comment, begins_with_slash, after_comment}
use Rattle.text_tokens.specs.Comments.{after_block, begins_block, begins_with_star, behind_one}

-- the lines that documentation has
abbrev pub lines_of : Docs → List Text
lines_of docs = option_map_or (λ contents. lines (text_of contents)) docs.contents []

-- ---- one line

-- a text without the carriage returns at its end
abbrev pub without_returns : Text → Text
without_returns [] = []
without_returns (c ∷ cs) = if list_all (λ b. b == 13) (c ∷ cs) then [] else c ∷ without_returns cs

-- a text without the space that it begins with
abbrev pub without_space : Text → Text
without_space [] = []
without_space (c ∷ cs) = if c == 32 then cs else c ∷ cs

-- a text up to its first line feed
abbrev pub first_line : Text → Text
first_line [] = []
first_line (c ∷ cs) = if c == 10 then [] else c ∷ first_line cs

-- ---- one comment

-- the line of a comment, by what stands behind its `//`: `/` and no second one, and then the line, from which a space is left out
abbrev pub line_docs : Text → List Text
line_docs [] = []
line_docs (c ∷ cs) = if c == 47 then (if begins_with_slash cs then [] else without_returns (without_space cs) ∷ []) else []

-- the lines of a comment in `/* */`, by what stands in it: `*` and no second one, and then lines, without the blanks around them
abbrev pub block_docs : Text → List Text
block_docs [] = []
block_docs (c ∷ cs) = if c == 42 then (if begins_with_star cs then [] else map without_returns (lines (trim cs))) else []

-- what stands in a comment that is open, where this follows its `*/`
abbrev pub within : List ℕ → List ℕ → List ℕ
within text rest = take (length text - (length rest + 2)) text

-- ---- a gap

-- the documentation in a text of blanks and comments that has at most so many characters
unfoldable pub docs_from : ℕ → List ℕ → List Text
docs_from zero text = []
docs_from (suc n) [] = []
docs_from (suc n) (c ∷ cs) =
    elim (begins_comment (c ∷ cs)) [
      | true ↦ line_docs (first_line (behind_one cs)) ++ docs_from n (after_comment cs)
      | false ↦ elim (begins_block (c ∷ cs)) [
        | true ↦ elim (after_block 0 (behind_one cs)) [
          | None ↦ []
          | Some rest ↦ block_docs (within (behind_one cs) rest) ++ docs_from n rest
        ]
        | false ↦ docs_from n cs
      ]
    ]

-- The lines of documentation in a gap, in order.
abbrev pub docs_in : List ℕ → List Text
docs_in gap = docs_from (length gap) gap
