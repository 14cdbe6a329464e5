-- What is shown of component types, as the numbers and texts that it stands for.
use Rattle.std.specs.Prelude.{map}
use Rattle.plan_meaning.specs.NumberedWorlds.{NumberedInstance, NumberedKey, NumberedScope, NumberedSeen, NumberedShown}
use Rattle.read_rules.specs.declared.scopes.{Instance.Instance, InstanceKey.InstanceKey, Scope.Scope, Seen.Seen, Shown.Shown}
use Rattle.read_rules.specs.{Tables.given_text, Views.numbered_view}
use Rattle.plan_meaning.specs.NumberedWorlds as worlds
use Rattle.read_rules.specs.declared.scopes.InstanceKey.TheVariants as keys
use Rattle.read_rules.specs.declared.scopes.Shown.TheVariants as shown

abbrev pub numbered_key : InstanceKey → NumberedKey
numbered_key (keys.Path p) = worlds.path p
numbered_key (keys.Label l p) = worlds.label l.now p
numbered_key (keys.Implementing l p) = worlds.implementing l.now p

abbrev pub numbered_shown : Shown → NumberedShown
numbered_shown (shown.Instance key v) = worlds.instance (numbered_key key) (numbered_view v)
numbered_shown (shown.Function n) = worlds.function n
numbered_shown (shown.Declares part d) = worlds.declares d

abbrev pub numbered_seen : Seen → NumberedSeen
numbered_seen s = record { key = s.key.now; shown = numbered_shown s.shown; external_id = given_text s.external_id }

abbrev pub numbered_instance : Instance → NumberedInstance
numbered_instance i = record { place = i.place; view = numbered_view i.view }

abbrev pub numbered_scope : Scope → NumberedScope
numbered_scope w =
    record {
      home = w.home;
      imports = map numbered_seen w.imports.now;
      exports = map numbered_seen w.exports.now;
      instances =
          map numbered_instance w.instances.now;
    }
