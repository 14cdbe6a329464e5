use Rattle.text_names.proofs.TableLaws.{nothing_yet}
use Rattle.text_names.proofs.sources.Sources.new.Goals as goal

pub returns-clause-declares : goal.returns-clause-declares
returns-clause-declares c = nothing_yet _ c.new.ensures.items c.new-2.ensures.items c.new-3.ensures.items c.new-4.ensures.items
