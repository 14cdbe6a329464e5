use Rattle.std.proofs.Common.{◌≡◌, None, [], map, take}
use Rattle.wit_encode.specs.{Encoders.outside, Dependencies.HasImported, DependencyRoom.HoldsImports, WrittenNames.NamesInterfaces}
use Rattle.wit_encode.specs.{DependencyCounts.DefinesImports, DependencyAliases.HasImportAliases, WrittenBytes.AddsBytes, WrittenBytes.imports_extent}
use Rattle.wit_encode.proofs.component_types.import_dependencies.Given as goal

abbrev pub invariant-loop-number : goal.invariant-loop-number
invariant-loop-number l = record {
  closed : l.encoder.inner ≡ None;
  packages_ : l.encoder.resolve.now ≡ l.fn.encoder.resolve.now;
  imported : HasImported l.encoder.resolve.now (outside l.encoder) (take l.number (map (λ id. id.0) l.interfaces));
  named : NamesInterfaces l.fn.encoder.resolve.now l.canonical_names (take l.number (map (λ id. id.0) l.interfaces)) l.fn.encoder.outer l.encoder.outer;
  written : AddsBytes (imports_extent l.fn.encoder.resolve.now l.canonical_names (take l.number (map (λ id. id.0) l.interfaces))) l.fn.encoder.outer l.encoder.outer;
  held : HoldsImports l.fn.encoder.resolve.now (outside l.fn.encoder) [] → HoldsImports l.fn.encoder.resolve.now (outside l.encoder) (take l.number (map (λ id. id.0) l.interfaces));
  aliases : HasImportAliases l.fn.encoder.resolve.now (outside l.fn.encoder) [] → HasImportAliases l.fn.encoder.resolve.now (outside l.encoder) (take l.number (map (λ id. id.0) l.interfaces));
  defines : DefinesImports l.fn.encoder.resolve.now l.fn.encoder.outer [] → DefinesImports l.fn.encoder.resolve.now l.encoder.outer (take l.number (map (λ id. id.0) l.interfaces));
}
