use Rattle.std.proofs.lemmas.Str.Pattern.{split_once_first}
use Rattle.wit_model.proofs.CutLaws.{split_cuts}
use Rattle.read_homes.proofs.paths.cut_at.Goals as goal

pub returns : goal.returns
returns c = split_cuts c.args.c c.args.text.now c.split_once.result (split_once_first c.args.c c.args.text.now c.split_once.result c.split_once.ensures.cases c.requires)
