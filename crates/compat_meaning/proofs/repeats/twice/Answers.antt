use Rattle.compat_meaning.specs.Compatible.{keys_of_world, HasKeysOnce, IsRepeatedIn, IsTwice}
use Rattle.compat_meaning.proofs.Repeating.{given, keys_once, none_given, ok_either_way, repeated_behind, repeated_in_front}
use Rattle.compat_meaning.proofs.repeats.twice.Goals as goal

pub returns-in-Some : goal.returns-in-Some
returns-in-Some c =
    let r = c.args.resolve.now in
    let prev = c.args.prev.now in
    repeated_in_front (keys_of_world r prev) (keys_of_world r c.args.new.now) c.in-Some.key.now
    (given (HasKeysOnce r prev) (λ s. IsRepeatedIn (keys_of_world r prev) s.now) c.in_ok-key.field-0 c.in-Some.key c.in_ok-key.ensures c.in-Some.is)

pub returns-in-None : goal.returns-in-None
returns-in-None c =
    let r = c.args.resolve.now in
    let prev = c.args.prev.now in
    let new = c.args.new.now in
    let once = none_given (HasKeysOnce r prev) (λ s. IsRepeatedIn (keys_of_world r prev) s.now) c.in_ok-key.field-0 c.in_ok-key.ensures c.in-None.is in
    ok_either_way (HasKeysOnce r new) (HasKeysOnce r prev × HasKeysOnce r new) (λ s. IsRepeatedIn (keys_of_world r new) s.now) (λ s. IsTwice r prev new s.now) c.repeated_in_world-in-None.result
    (λ h. (once, h)) (λ s f. repeated_behind (keys_of_world r prev) (keys_of_world r new) s.now (keys_once r prev once) f)
    c.repeated_in_world-in-None.ensures
