-- All parts of an input.
use Rattle.std.proofs.Common.{◌≡◌, refl, ap, ◌∙◌, ◌==◌, false, List, [], ◌∷◌, map, length, Some, IfOk, IfErr, Result, Ok, Err}
use Rattle.wit_model.specs.Text.{Text}
use Rattle.comp_bytes.specs.{Levels.PartType, Levels.Piece, Reading.◌>>=◌}
use Rattle.comp_meaning.specs.{ByLevels.exported_parts, Follow.each}
use Rattle.read_follow.specs.declared.refusal.Refusal.{Refusal}
use Rattle.read_follow.specs.Found.{Refuses}
use Rattle.read_follow.proofs.{FollowingLaws.if_err, Refusing.refused}
use Rattle.read_parts.specs.declared.{exported.ExportedPart.ExportedPart, following.Followed.Followed}
use Rattle.read_parts.specs.{Exported.raw_exported, Followed.labelled_scope, Followed.scopes_in, Followed.scopes_of, Input.ArePartsFollowed, Input.IsFollowed}

pub some_there : (xs : List ExportedPart) → (length xs == 0) ≡ false → scopes_in (map raw_exported xs) ≡ each labelled_scope (map raw_exported xs)
some_there [] e = absurd cc
some_there (x ∷ xs) e = refl

module _ (pieces : List Piece) where
  pub input_absent : (e : Refusal) → Refuses e (exported_parts pieces) → Refuses e (scopes_of pieces)
  unfolding scopes_of
  input_absent e r = refused e (exported_parts pieces) (scopes_of pieces) (λ none. ap (λ o. o >>= scopes_in) none) r

  module _ (parts : List (Text × PartType)) (found : exported_parts pieces ≡ Some parts) where
    scopes_are : scopes_of pieces ≡ scopes_in parts
    unfolding scopes_of
    scopes_are = ap (λ o. o >>= scopes_in) found

    pub input_followed : (r : Result Followed Refusal) → IfOk r (ArePartsFollowed parts) → IfOk r (IsFollowed pieces)
    input_followed (Ok x) f = record { parts = parts; exported = found; followed = f; shows = λ place of. scopes_are ∙ f.shows place of }
    input_followed (Err e) f = tt

    pub parts_absent : (r : Result Followed Refusal) → IfErr r (λ e. Refuses e (scopes_in parts)) → IfErr r (λ e. Refuses e (scopes_of pieces))
    parts_absent r h = if_err (λ e. Refuses e (scopes_in parts)) (λ e. Refuses e (scopes_of pieces)) r (λ e g. refused e (scopes_in parts) (scopes_of pieces) (λ none. scopes_are ∙ none) g) h
