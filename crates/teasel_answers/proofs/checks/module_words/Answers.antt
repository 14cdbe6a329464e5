use Rattle.base_lemmas.proofs.Options.{at_ok as at-ok}
use Rattle.teasel_answers.proofs.checks.module_words.Goals as goal

pub returns-in-Ok-Some-clause-binds : goal.returns-in-Ok-Some-clause-binds
returns-in-Ok-Some-clause-binds c = at-ok c.of_words.result (c.in-Ok-Some.ensures.stripped.bound, c.in-Ok-Some.ensures.stripped.binds)

pub returns-in-Ok-None-clause-binds : goal.returns-in-Ok-None-clause-binds
returns-in-Ok-None-clause-binds c = at-ok c.of_words-in-Ok-None.result (c.in-Ok-None.ensures.stripped.bound, c.in-Ok-None.ensures.stripped.binds)
