-- Names of interfaces and worlds as keys of tables.
use Rattle.std.specs.Prelude.{[]}
use Rattle.std.specs.Option.{option_map}
use Rattle.text_plain.specs.declared.keys.Key.{Key}
use Rattle.text_plain.specs.Plain.{Named}

-- what a key names
abbrev pub named_there : Key → Named
named_there key =
    record {
      home = record { docs = []; namespace = key.namespace.now; name = key.home.now; version = option_map (λ v. v.now) key.version };
      name = key.name.now;
    }
