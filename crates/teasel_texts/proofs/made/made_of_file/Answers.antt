use Rattle.std.proofs.Common.{◌≡◌, ◌∷◌, [], true, rules, subst, List, ℕ}
use Rattle.base_lemmas.proofs.Options.{if_ok}
use Rattle.teasel_messages.specs.Looks.{begins_as_text}
use Rattle.teasel_texts.specs.Made.{IsFileTaken, IsFileTaken.for_text, IsMade}
use Rattle.teasel_texts.proofs.made.made_of_file.Goals as goal

pub returns : goal.returns
returns c =
    let text : begins_as_text c.args.file.bytes.items ≡ true = search rules in
    if_ok (IsMade (c.deref-2.result.now ∷ []) 1) (IsFileTaken c.args.file)
    (λ taken made. for_text text (subst (λ (bytes : List ℕ). IsMade (bytes ∷ []) 1 taken) c.deref-2.ensures.value made)) c.made_of.result c.made_of.ensures
