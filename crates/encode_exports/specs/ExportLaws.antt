-- What components export that were given component types, each with its export.
use Rattle.std.specs.{Prelude.◌≡◌, Prelude.true, Prelude.List, Prelude.Some, Prelude.map, List.list_all}
use Rattle.wit_model.specs.{Text.Text, Names.is_label}
use Rattle.comp_bytes.specs.{Raw.Declarations, Parts.sections_of_parts}
use Rattle.comp_meaning.specs.{Rules.distinct, Reads.exported_types}
use Rattle.encode_exports.specs.ExportedParts.{exporting}

-- Labels that stand once: then the sections export these component types, in order.
abbrev pub TypesAreExported : Type 0
TypesAreExported = (xs : List (Text × Declarations)) → list_all (λ x. is_label x.0) xs ≡ true → distinct (map (λ x. x.0) xs) ≡ true
    → exported_types (sections_of_parts (exporting xs)) ≡ Some xs
