-- The calls that a printer makes of an output, and how an output counts them.
use Rattle.std.specs.Prelude.{◌≡◌, ◌⊎◌, Bool, true, false, ◌&&◌, not, ◌==◌, List, [], ◌∷◌, ℕ, codes}
use Rattle.print_output.specs.declared.type_kind.TypeKind.{TypeKind}

-- One call, with the bytes of its text.
pub data OutputCall : Type 0 where
  PushStr : List ℕ → OutputCall
  IndentIfNeeded : OutputCall
  IndentStart : OutputCall
  IndentEnd : OutputCall
  Newline : OutputCall
  IndentAndPrint : List ℕ → OutputCall
  Keyword : List ℕ → OutputCall
  Ty : List ℕ → TypeKind → OutputCall
  Param : List ℕ → OutputCall
  Case : List ℕ → OutputCall
  GenericArgsStart : OutputCall
  GenericArgsEnd : OutputCall
  Doc : List ℕ → OutputCall
  Semicolon : OutputCall
  Str : List ℕ → OutputCall

-- The calls that the body of a function in the trait makes. A function without a body counts as itself.
abbrev pub body_calls : OutputCall → List OutputCall
body_calls (IndentAndPrint text) = IndentIfNeeded ∷ PushStr text ∷ []
body_calls (Keyword text) = IndentIfNeeded ∷ PushStr text ∷ []
body_calls (Ty text kind) = IndentIfNeeded ∷ PushStr text ∷ []
body_calls (Param text) = IndentIfNeeded ∷ PushStr text ∷ []
body_calls (Case text) = IndentIfNeeded ∷ PushStr text ∷ []
body_calls (Str text) = IndentIfNeeded ∷ PushStr text ∷ []
body_calls GenericArgsStart = IndentIfNeeded ∷ PushStr (codes "<") ∷ []
body_calls GenericArgsEnd = IndentIfNeeded ∷ PushStr (codes ">") ∷ []
body_calls Semicolon = IndentIfNeeded ∷ PushStr (codes ";") ∷ Newline ∷ []
body_calls (Doc []) = IndentIfNeeded ∷ PushStr (codes "///") ∷ Newline ∷ []
body_calls (Doc (c ∷ cs)) = IndentIfNeeded ∷ PushStr (codes "///") ∷ PushStr (codes " ") ∷ PushStr (c ∷ cs) ∷ Newline ∷ []
body_calls call = call ∷ []

-- Whether a line has just begun after a call, by whether one had before it.
abbrev pub line_begun_after : OutputCall → Bool → Bool
line_begun_after (PushStr text) begun = begun
line_begun_after Newline begun = true
line_begun_after IndentStart begun = true
line_begun_after IndentEnd begun = true
line_begun_after (Doc line) begun = true
line_begun_after Semicolon begun = true
line_begun_after call begun = false

-- whether no line end stands in a text
abbrev pub is_one_line : List ℕ → Bool
is_one_line [] = true
is_one_line (c ∷ cs) = not (c == 10) && is_one_line cs

-- whether no space stands at the front of a text
abbrev pub has_no_space_first : List ℕ → Bool
has_no_space_first [] = true
has_no_space_first (c ∷ cs) = not (c == 32)

-- Text may stand here: where a line has just begun it has no space at its front.
abbrev pub may_begin : Bool → List ℕ → Bool
may_begin true text = has_no_space_first text
may_begin false text = true

-- the same after calls in turn
abbrev pub lines_begun_after : Bool → List OutputCall → Bool
lines_begun_after begun [] = begun
lines_begun_after begun (call ∷ calls) = lines_begun_after (line_begun_after call begun) calls

-- The condition of a call, by whether a line has just begun.
abbrev pub may_stand : Bool → OutputCall → Bool
may_stand begun (PushStr text) = true
may_stand begun IndentIfNeeded = true
may_stand begun IndentEnd = true
may_stand begun Newline = true
may_stand begun (Doc line) = is_one_line line
may_stand begun IndentStart = not begun
may_stand begun GenericArgsStart = not begun
may_stand begun GenericArgsEnd = not begun
may_stand begun Semicolon = not begun
may_stand begun (IndentAndPrint text) = is_one_line text && may_begin begun text
may_stand begun (Keyword text) = is_one_line text && may_begin begun text
may_stand begun (Ty text kind) = is_one_line text && may_begin begun text
may_stand begun (Param text) = is_one_line text && may_begin begun text
may_stand begun (Case text) = is_one_line text && may_begin begun text
may_stand begun (Str text) = is_one_line text && may_begin begun text

-- Each of these calls, in order, meets its condition.
abbrev pub may_follow : Bool → List OutputCall → Bool
may_follow begun [] = true
may_follow begun (call ∷ calls) = may_stand begun call && may_follow (line_begun_after call begun) calls

-- What is seen of an output: whether a line has just begun, and what it keeps of the calls so far, as their list or as what came of them.
pub record OutputView (Kept : Type 0) : Type 0 where
  pub line_begun : Bool
  pub kept : Kept

module _ {Kept : Type 0} (keeps : OutputView Kept → OutputCall → Kept) where
  -- the view after a call
  abbrev pub after : OutputView Kept → OutputCall → OutputView Kept
  after view call = record { line_begun = line_begun_after call view.line_begun; kept = keeps view call }

  -- the view after calls in turn
  abbrev pub after_all : OutputView Kept → List OutputCall → OutputView Kept
  after_all view [] = view
  after_all view (call ∷ calls) = after_all (after view call) calls

  -- One call moved the view: it counts as itself, or as the calls that its body makes.
  abbrev pub Counts : OutputView Kept → OutputCall → OutputView Kept → Type 0
  Counts old call new = (new ≡ after old call) ⊎ (new ≡ after_all old (body_calls call))

  -- A beginning of the calls, none or more, moved the view, each counted as itself.
  abbrev pub Reaches : OutputView Kept → List OutputCall → OutputView Kept → Type 0
  Reaches old [] new = new ≡ old
  Reaches old (call ∷ calls) new = (new ≡ old) ⊎ Reaches (after old call) calls new

-- The calls moved the view, in order.
pub data Moves {Kept : Type 0} (keeps : OutputView Kept → OutputCall → Kept) : OutputView Kept → List OutputCall → OutputView Kept → Type 0 where
  nothing_moved : {old new : OutputView Kept} → new ≡ old → Moves keeps old [] new
  then_moved : {old between new : OutputView Kept} {call : OutputCall} {calls : List OutputCall} → Counts keeps old call between → Moves keeps between calls new
      → Moves keeps old (call ∷ calls) new

-- A beginning of the calls moved the view: some calls in order, and then a beginning of the calls that the body of the next one makes.
pub data Begins {Kept : Type 0} (keeps : OutputView Kept → OutputCall → Kept) : OutputView Kept → List OutputCall → OutputView Kept → Type 0 where
  nothing_begun : {old new : OutputView Kept} {calls : List OutputCall} → new ≡ old → Begins keeps old calls new
  begun_in : {old new : OutputView Kept} {call : OutputCall} {calls : List OutputCall} → Reaches keeps old (body_calls call) new
      → Begins keeps old (call ∷ calls) new
  then_begun : {old between new : OutputView Kept} {call : OutputCall} {calls : List OutputCall} → Counts keeps old call between
      → Begins keeps between calls new
      → Begins keeps old (call ∷ calls) new
