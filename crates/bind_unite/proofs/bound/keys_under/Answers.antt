use Rattle.std.proofs.Common.{rules, ◌≡◌, ◌∷◌, ◌∙◌, [], ap, true, length}
use Rattle.std.proofs.lemmas.Map.Iter.{rest_all, rest_more}
use Rattle.std.specs.Map.Iter.{deref_pair}
use Rattle.indexmap.specs.IndexSet.{insert_key}
use Rattle.wit_model.specs.declared.model.{WorldItem.WorldItem, WorldKey.WorldKey}
use Rattle.bind_copy.proofs.Gained.{test_is}
use Rattle.bind_carry.specs.Shown.{are_keys_below}
use Rattle.bind_carry.proofs.KeysGained.{key_more, keys_all}
use Rattle.bind_unite.proofs.bound.keys_under.Goals as goal

pub loop-key-preserved : goal.loop-key-preserved
loop-key-preserved c =
    let interfaces = c.args.interfaces.now in
    let rest = c.next.new.self in
    let e : WorldKey × WorldItem = (c.in-Some.key.now, c.in-Some.field-0-1.now) in
    let step : c.loop-key.key-iterator ≡ e ∷ rest = rest_more deref_pair c.loop-key.key-iterator rest c.next.result (c.in-Some.key, c.in-Some.field-0-1) c.in-Some.is c.next.ensures.steps in
    let below : are_keys_below (length interfaces) rest ≡ true = search rules in
    let added = c.in_ok-insert.ensures.keys ∙ ap (λ q. insert_key q c.loop-key.keys.keys c.in_ok-copy_key.field-0) test_is in (
      below,
      key_more interfaces c.args.items.now.entries c.loop-key.key-iterator rest c.loop-key.keys.keys c.insert.new.self.keys e c.in_ok-copy_key.field-0 step c.in_ok-copy_key.ensures.key added
          c.loop-key.invariant.1,
    )

pub returns-clause-keys : goal.returns-clause-keys
returns-clause-keys c =
    let ended : c.loop-key.key-iterator ≡ [] = rest_all deref_pair c.loop-key.key-iterator c.next.new.self c.next.result c.in-None.is c.next.ensures.steps in
    keys_all c.args.interfaces.now c.args.items.now.entries c.loop-key.key-iterator c.loop-key.keys.keys ended c.loop-key.invariant.1
