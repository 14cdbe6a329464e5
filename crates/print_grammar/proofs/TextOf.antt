-- The text that calls append, from the front on.
use Rattle.std.proofs.Common.{◌≡◌, sym, ◌∙◌, ℕ, ◌+◌, ◌-◌, Bool, true, false, List, [], ◌∷◌, ◌++◌, append-nil, append_assoc}
use Rattle.print_output.specs.OutputCall.{OutputCall, OutputView, after, after_all}
use Rattle.print_output.specs.OutputCall.OutputCall.{PushStr, IndentIfNeeded, IndentStart, IndentEnd, Newline, IndentAndPrint, Keyword, Ty, Param, Case, GenericArgsStart, GenericArgsEnd, Doc, Semicolon, Str}
use Rattle.print_output.specs.Render.{Written, writes, front_of, doc_text, render}

-- the text that calls append, by whether a line has just begun, and by the level
abbrev pub text_of : Bool → ℕ → List OutputCall → List ℕ
text_of begun level [] = []
text_of begun level (PushStr text ∷ calls) = text ++ text_of begun level calls
text_of begun level (IndentIfNeeded ∷ calls) = front_of begun level ++ text_of false level calls
text_of begun level (IndentStart ∷ calls) = 32 ∷ 123 ∷ 10 ∷ text_of true (level + 1) calls
text_of begun level (IndentEnd ∷ calls) = front_of begun (level - 1) ++ (125 ∷ 10 ∷ text_of true (level - 1) calls)
text_of begun level (Newline ∷ calls) = 10 ∷ text_of true level calls
text_of begun level (IndentAndPrint text ∷ calls) = front_of begun level ++ (text ++ text_of false level calls)
text_of begun level (Keyword text ∷ calls) = front_of begun level ++ (text ++ text_of false level calls)
text_of begun level (Ty text kind ∷ calls) = front_of begun level ++ (text ++ text_of false level calls)
text_of begun level (Param text ∷ calls) = front_of begun level ++ (text ++ text_of false level calls)
text_of begun level (Case text ∷ calls) = front_of begun level ++ (text ++ text_of false level calls)
text_of begun level (GenericArgsStart ∷ calls) = front_of begun level ++ (60 ∷ text_of false level calls)
text_of begun level (GenericArgsEnd ∷ calls) = front_of begun level ++ (62 ∷ text_of false level calls)
text_of begun level (Doc line ∷ calls) = front_of begun level ++ (doc_text line ++ text_of true level calls)
text_of begun level (Semicolon ∷ calls) = front_of begun level ++ (59 ∷ 10 ∷ text_of true level calls)
text_of begun level (Str text ∷ calls) = front_of begun level ++ (text ++ text_of false level calls)

-- one call and what follows it
one_call : (view : OutputView Written) (call : OutputCall) (calls : List OutputCall) → let next = after writes view call in
    next.kept.text ++ text_of next.line_begun next.kept.level calls ≡ view.kept.text ++ text_of view.line_begun view.kept.level (call ∷ calls)
one_call v (PushStr text) calls = simp append_assoc
one_call v _ calls = simp append_assoc

pub text_after : (view : OutputView Written) (calls : List OutputCall) → (after_all writes view calls).kept.text ≡ view.kept.text ++ text_of view.line_begun view.kept.level calls
text_after v [] = sym (append-nil v.kept.text)
text_after v (call ∷ calls) = text_after (after writes v call) calls ∙ one_call v call calls

-- the text of calls from the start
pub rendered : (calls : List OutputCall) → render calls ≡ text_of false 0 calls
rendered calls = text_after (record { line_begun = false; kept = record { text = []; level = 0 } }) calls
