use Rattle.std.proofs.Common.{◌≡◌, [], map, drop, take}
use Rattle.plan_meaning.specs.NumberedWorlds.{are_imports, resources_seen}
use Rattle.read_rules.specs.{Resources.AreSame, Scopes.numbered_seen, Tables.known_in, Tables.now_of, Tables.numbered_tables}
use Rattle.read_rules.proofs.items.are_imports.Given as goal

-- the resources are those that were seen, and the imports that are left decide
abbrev pub invariant-loop-import : goal.invariant-loop-import
invariant-loop-import l = record {
  seen : AreSame (map now_of l.resources.keys) (resources_seen (map numbered_seen (take l.import-index l.imports)));
  kept : are_imports (numbered_tables l.tables) (known_in l.tables) l.home (map numbered_seen (take l.import-index l.imports)) (map numbered_seen (drop l.import-index l.imports))
      ≡ are_imports (numbered_tables l.tables) (known_in l.tables) l.home [] (map numbered_seen l.imports);
}
