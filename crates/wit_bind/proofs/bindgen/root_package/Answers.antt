use Rattle.std.proofs.Common.{◌≡◌, refl, [], rules}
use Rattle.wit_bind.proofs.bindgen.root_package.Goals as goal

pub returns-clause-ok : goal.returns-clause-ok
returns-clause-ok c =
    let none : c.new-worlds.result.entries ≡ [] = search rules in
    record {
      namespace = search rules;
      name = search rules;
      unversioned = refl;
      undocumented = search rules;
      no_interfaces = search rules;
      label = c.in_ok-from_str.field-0;
      lists = rw none at c.in_ok-insert.ensures.entries;
      labelled = search rules;
      distinct = (c.new.ensures.unique, c.in_ok-insert.ensures.unique);
    }
