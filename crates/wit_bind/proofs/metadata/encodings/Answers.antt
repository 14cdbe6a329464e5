use Rattle.wit_bind.proofs.FunctionKeys.{all_functions}
use Rattle.wit_bind.proofs.metadata.encodings.Goals as goal

pub returns-clause-ok : goal.returns-clause-ok
returns-clause-ok c = all_functions c.args.resolve.now c.args.items.now.entries c.args.encoding c.wanted_encodings.result c.wanted_encodings.ensures.ok
