use Rattle.std.proofs.{Common.◌∙◌, Common.ap, Common.true, Common.false, Common.Some, lemmas.Bool.eq-eqb}
use Rattle.read_follow.proofs.PlaceLaws.{not_zero, path_at, path_nowhere}
use Rattle.read_follow.proofs.places.Places.path.Goals as goal

pub returns-then-key-eq0 : goal.returns-then-key-eq0
returns-then-key-eq0 c = ap Some c.as_str.ensures.value ∙ path_at c.self.inside.keys.keys c.args.self.now c.self.view_is c.args.place c.in-Some.key.now true c.in-Some.ensures.key
    (eq-eqb c.in-Some.key.now.number 0 c.if-key-eq0.true)

pub returns-else-key-eq0 : goal.returns-else-key-eq0
returns-else-key-eq0 c = path_at c.self.inside.keys.keys c.args.self.now c.self.view_is c.args.place c.in-Some.key.now false c.in-Some.ensures.key
    (not_zero c.in-Some.key.now.number c.if-key-eq0.false)

pub returns-in-None : goal.returns-in-None
returns-in-None c = path_nowhere c.self.inside.keys.keys c.args.self.now c.self.view_is c.args.place c.in-None.ensures.key
