use Rattle.std.proofs.Common.{map}
use Rattle.text_plain.specs.Places.{placed_of}
use Rattle.text_plain.specs.Scopes.{IsTextScope}
use Rattle.text_plain.proofs.ScopeLaws.{its_place, own_place, text_scope_there, zip_turn}
use Rattle.text_plain.proofs.scopes.scopes_of.Goals as goal

pub text_scopes-requires : goal.text_scopes-requires
text_scopes-requires c = own_place (its_place c.args.whole.now c.args.texts.now c.loop-it.it-index c.it-item.result c.requires c.loop-it-test.true c.it-item.is)

pub loop-it-preserved : goal.loop-it-preserved
loop-it-preserved c =
    let here = its_place c.args.whole.now c.args.texts.now c.loop-it.it-index c.it-item.result c.requires c.loop-it-test.true c.it-item.is in
    zip_turn (IsTextScope (map placed_of c.args.texts.now) c.args.whole.now) placed_of c.args.texts.now c.loop-it.it-index c.it-item.result
    c.loop-it.scopes.items c.push.new.self.items c.in_ok-text_scopes.field-0 c.loop-it-test.true c.it-item.is c.loop-it.invariant c.in_ok-push.ensures.items
    (text_scope_there c.args.whole.now c.it-item.result.place.whole.now c.in_ok-heads.heads.entries (map placed_of c.args.texts.now) (placed_of c.it-item.result) c.in_ok-text_scopes.field-0
    here.is c.in_ok-heads.ensures c.in_ok-text_scopes.ensures)
