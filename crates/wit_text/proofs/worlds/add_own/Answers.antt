use Rattle.std.proofs.Common.{◌≡◌, ◌∷◌, []}
use Rattle.std.proofs.lemmas.Map.Iter.{rest_all, rest_more}
use Rattle.std.specs.{Prelude.String, Map.Iter.deref_pair}
use Rattle.std.specs.declared.alloc.Global.{Global}
use Rattle.wit_model.specs.declared.model.TypeId.{TypeId}
use Rattle.wit_text.proofs.StageLaws.{own_all, own_more, own_none}
use Rattle.wit_text.proofs.worlds.add_own.Goals as goal

pub loop-name-init : goal.loop-name-init
loop-name-init c =
    let same : c.into_iter-name-iterator.result ≡ c.args.own.now.entries = c.into_iter-name-iterator.ensures.into_iter_gives.0 in
    own_none c.args.own.now.entries c.into_iter-name-iterator.result c.args.imports.now.entries same

pub loop-name-preserved : goal.loop-name-preserved
loop-name-preserved c =
    let rest = c.next.new.self in
    let e : String Global × TypeId = (c.in-Some.name.now, c.in-Some.id.now) in
    let step : c.loop-name.name-iterator ≡ e ∷ rest = rest_more deref_pair c.loop-name.name-iterator rest c.next.result (c.in-Some.name, c.in-Some.id)
    c.in-Some.is
    c.next.ensures.steps in
    own_more c.in-Some.name.now c.in-Some.id.now c.deref.result.now c.loop-name.invariant step c.deref.ensures c.in_ok-add_named.ensures.adds

pub returns : goal.returns
returns c =
    let ended : c.loop-name.name-iterator ≡ [] = rest_all deref_pair c.loop-name.name-iterator c.next.new.self c.next.result c.in-None.is c.next.ensures.steps
    in
    record { adds = own_all c.loop-name.invariant ended }
