-- The text that comes of calls, for an output that keeps a text.
use Rattle.std.specs.Prelude.{◌+◌, ◌-◌, ◌*◌, Bool, true, false, List, [], ◌∷◌, ◌++◌, ℕ, codes, replicate}
use Rattle.print_output.specs.OutputCall.{OutputCall, OutputView, after_all}
use Rattle.print_output.specs.OutputCall.OutputCall.{PushStr, IndentIfNeeded, IndentStart, IndentEnd, Newline, IndentAndPrint, Keyword, Ty, Param, Case, GenericArgsStart, GenericArgsEnd, Doc, Semicolon, Str}

-- a text, and how many levels its next line is indented by
pub record Written : Type 0 where
  pub text : List ℕ
  pub level : ℕ

-- two spaces a level
abbrev pub indentation : ℕ → List ℕ
indentation level = replicate (2 * level) 32

-- what is in front of text that is printed now
abbrev pub front_of : Bool → ℕ → List ℕ
front_of true level = indentation level
front_of false level = []

-- the text with this at its end, as it stands
abbrev pub pushed : OutputView Written → List ℕ → Written
pushed view text = record { text = view.kept.text ++ text; level = view.kept.level }

-- the text with this at its end, and the indentation before it where a line has just begun
abbrev pub printed : OutputView Written → List ℕ → Written
printed view text = record { text = (view.kept.text ++ front_of view.line_begun view.kept.level) ++ text; level = view.kept.level }

-- a line of documentation, with its line end
abbrev pub doc_text : List ℕ → List ℕ
doc_text [] = codes "///" ++ (10 ∷ [])
doc_text (c ∷ cs) = (codes "/// " ++ (c ∷ cs)) ++ (10 ∷ [])

-- What is written after a call. A block's end is indented as the block's start is.
abbrev pub writes : OutputView Written → OutputCall → Written
writes view (PushStr text) = pushed view text
writes view IndentIfNeeded = printed view []
writes view IndentStart = record { text = view.kept.text ++ (codes " {" ++ (10 ∷ [])); level = view.kept.level + 1 }
writes view IndentEnd = record {
  text = (view.kept.text ++ front_of view.line_begun (view.kept.level - 1)) ++ (codes "}" ++ (10 ∷ []));
  level =
      view.kept.level - 1;
}
writes view Newline = pushed view (10 ∷ [])
writes view (IndentAndPrint text) = printed view text
writes view (Keyword text) = printed view text
writes view (Ty text kind) = printed view text
writes view (Param text) = printed view text
writes view (Case text) = printed view text
writes view GenericArgsStart = printed view (codes "<")
writes view GenericArgsEnd = printed view (codes ">")
writes view (Doc line) = printed view (doc_text line)
writes view Semicolon = printed view (codes ";" ++ (10 ∷ []))
writes view (Str text) = printed view text

-- nothing written yet, and no line begun
abbrev pub blank : OutputView Written
blank = record { line_begun = false; kept = record { text = []; level = 0 } }

-- the text that comes of calls, from the start
abbrev pub render : List OutputCall → List ℕ
render calls = (after_all writes blank calls).kept.text
