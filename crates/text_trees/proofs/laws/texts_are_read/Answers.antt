use Rattle.text_trees.proofs.Texts.{one_reading, texts_are_read, refused_texts_are_not_read}
use Rattle.text_trees.proofs.laws.texts_are_read.Goals as goal

pub returns-clause-found : goal.returns-clause-found
returns-clause-found c = texts_are_read

pub returns-clause-refused : goal.returns-clause-refused
returns-clause-refused c = refused_texts_are_not_read

pub returns-clause-one : goal.returns-clause-one
returns-clause-one c = one_reading
