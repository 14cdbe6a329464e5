use Rattle.std.proofs.Common.{◌∙◌, refl, sym}
use Rattle.teasel_texts.specs.Made.{IsMade.for_nothing, IsMade.for_package}
use Rattle.teasel_texts.proofs.made.made_of.Goals as goal

pub returns-in-Ok : goal.returns-in-Ok
returns-in-Ok c = for_package _ refl refl c.in-Ok.ensures.ok

pub returns : goal.returns
returns c =
    for_nothing c.without_package.ensures
    (record { trouble = c.in-Err.trouble; no_memory = sym c.is_memory.ensures ∙ c.if-is_memory.false; is = c.in-Err.ensures.err })
