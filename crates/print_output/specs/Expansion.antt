-- Lists of recorded calls.
use Rattle.std.specs.Prelude.{◌≡◌, ◌⊎◌, Bool, true, false, List, [], ◌∷◌, ◌++◌}
use Rattle.print_output.specs.{OutputCall.OutputCall, OutputCall.OutputView, OutputCall.body_calls, OutputCall.OutputCall.IndentIfNeeded}

-- what a recording output keeps: the calls in order
abbrev pub appends : OutputView (List OutputCall) → OutputCall → List OutputCall
appends view call = view.kept ++ call ∷ []

-- The second list is the first, each call as itself or as the calls of its body.
abbrev pub Expands : List OutputCall → List OutputCall → Type 0
Expands [] recorded = recorded ≡ []
Expands (call ∷ calls) recorded = (rest : List OutputCall) × ((recorded ≡ call ∷ rest) ⊎ (recorded ≡ body_calls call ++ rest)) × Expands calls rest

-- An output that lists its calls has listed these behind those from before, each as itself or as the calls of its body.
abbrev pub ListsOn : OutputView (List OutputCall) → List OutputCall → OutputView (List OutputCall) → Type 0
ListsOn old calls new = (listed : List OutputCall) × Expands calls listed × (new.kept ≡ old.kept ++ listed)

-- No body was run: each begins with `indent_if_needed`, which the printer never calls.
abbrev pub is_whole : List OutputCall → Bool
is_whole [] = true
is_whole (IndentIfNeeded ∷ calls) = false
is_whole (call ∷ calls) = is_whole calls
