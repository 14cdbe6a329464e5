use Rattle.std.proofs.Common.{ap, refl}
use Rattle.base_lemmas.proofs.Options.{on_ok}
use Rattle.teasel_files.specs.Delivered.{to_file}
use Rattle.teasel_words.specs.Given.{text_if}
use Rattle.teasel_files.proofs.delivery.deliver.Goals as goal

pub returns-else-eq-clause-delivered : goal.returns-else-eq-clause-delivered
returns-else-eq-clause-delivered g c = on_ok c.write_file.result _ _ c.write_file.ensures.put (λ put. to_file c.in-Some.name.now (ap text_if c.in-Some.is) put refl)
