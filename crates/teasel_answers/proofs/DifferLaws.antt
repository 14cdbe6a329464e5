-- What comes of a difference of two texts.
use Rattle.std.proofs.Common.{◌≡◌, ◌↔◌, ◌∙◌, refl, rules, ℕ, List, Bool, Option, Some, None, IsNone, IfSome, Vec}
use Rattle.std.specs.declared.alloc.Global.{Global}
use Rattle.line_diff.specs.{Script.LeadsTo, Unified.unified_text}
use Rattle.line_diff.specs.declared.script.Edit.{Edit}
use Rattle.teasel_answers.specs.Answers.{IsDifference, IsTold, alike, unlike}
use Rattle.teasel_files.specs.declared.answer.Answer.{Answer}
use Rattle.teasel_words.specs.Table.{Text}

module _ (old_name new_name : Text) (old new : List ℕ) (color : Bool) where
  -- what is made, where it is that of two texts
  pub told-difference : (made : Option (Vec ℕ Global)) (a : Answer) → IsNone made ↔ (old ≡ new)
      → IfSome made (λ text. (script : List Edit) × LeadsTo script old new × (text.items ≡ unified_text color old_name new_name script)) → IsTold made a
      → IsDifference old_name new_name old new color a
  told-difference None a same some told = alike told.0 told.1 (same.0 refl)
  told-difference (Some t) a same some told = unlike told.0 (λ equal. let wrong : IsNone (Some t) = same.1 equal in search rules) some.0 some.1 (told.1 ∙ some.2)
