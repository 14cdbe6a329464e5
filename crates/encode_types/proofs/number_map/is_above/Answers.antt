use Rattle.std.proofs.{Common.sym, lemmas.Bool.ltb-true}
use Rattle.encode_types.proofs.Ascending.{above-last}
use Rattle.encode_types.proofs.number_map.is_above.Goals as goal

pub returns-in-Some-clause-below : goal.returns-in-Some-clause-below
returns-in-Some-clause-below c = λ lt. above-last c.args.run.now c.requires c.args.number c.in-Some.last.now (sym c.in-Some.ensures.value) (ltb-true _ _ lt)
