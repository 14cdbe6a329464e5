use Rattle.std.proofs.Common.{◌≡◌, ◌++◌, ℕ, List}
use Rattle.teasel_answers.specs.Refusals.{IsLeft}
use Rattle.wit_metadata.specs.Modules.{module_preamble}
use Rattle.teasel_answers.proofs.sections.all_sections.Given as goal

abbrev pub invariant-loop : goal.invariant-loop
invariant-loop l = (sections : List ℕ) × (l.bytes ≡ module_preamble ++ sections) × IsLeft sections l.rest
