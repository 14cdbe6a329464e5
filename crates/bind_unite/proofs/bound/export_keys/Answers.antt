use Rattle.std.proofs.Common.{◌∙◌, sym, subst}
use Rattle.wit_model.specs.declared.model.World.{World}
use Rattle.bind_carry.specs.BoundGains.{AreKeysUnder}
use Rattle.bind_carry.proofs.CopiesPlaced.{some_same}
use Rattle.bind_unite.proofs.bound.export_keys.Goals as goal
use Rattle.base_lemmas.proofs.Options.{if_ok}

pub returns-clause-keys : goal.returns-clause-keys
returns-clause-keys c =
    let interfaces = c.args.interfaces.now in
    let other = c.other_world-other.result.now in
    if_ok _ _ (λ keys is v at. subst (λ (x : World). AreKeysUnder interfaces x.exports.entries keys.keys) (some_same other v (sym c.other_world-other.ensures ∙ at)) is)
    c.keys_under.result c.keys_under.ensures.keys
