use Rattle.wit_model.specs.Lookup.{identity_of}
use Rattle.wit_encode.proofs.Packages.{WorldsBegun}
use Rattle.wit_encode.proofs.package.add_worlds.Given as goal

-- the wrappers of the first worlds have been added, and the others follow
abbrev pub invariant-loop-name : goal.invariant-loop-name
invariant-loop-name l = WorldsBegun l.resolve (identity_of l.package) l.canonical_names l.worlds.entries l.name-iterator l.fn.builder l.builder
