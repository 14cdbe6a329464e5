use Rattle.std.proofs.Common.{◌≡◌, ◌≤◌, ◌++◌, map, take, length}
use Rattle.encode_types.specs.{View.HoldsLearnt, View.WritesLearnt, Extents.function_extent, MetKinds.LearnsFrom, Counts.names_defined, Distinct.AddsFunctions}
use Rattle.encode_types.specs.{Aliases.AliasesMet, Maps.MapsGrow}
use Rattle.wit_encode.specs.{Encoders.declared_inside, Encoders.encoder_view, Places.StandInOrder}
use Rattle.wit_encode.specs.Instance.{placed_function, meaning_of, own_of, around_of, contents_of, encoder_scope, definitions_with, Continues, exports_in}
use Rattle.std.specs.{List.flat_map, Prelude.sum_by}
use Rattle.wit_model.specs.Parts.{function_types}
use Rattle.wit_encode.proofs.interface.InstanceEncoderOf+TypeEncodingMaps.encode_functions.Given as goal

abbrev pub invariant-loop-entry : goal.invariant-loop-entry
invariant-loop-entry l = record {
  packages_ : l.self.resolve.now ≡ l.resolve;
  own : own_of l.self.inner ≡ own_of l.fn.self.inner;
  continues : Continues l.resolve l.resolve l.fn.self.outer l.self.outer l.fn.self.inner l.self.inner l.fn.self.maps l.self.maps;
  aliases : AliasesMet l.resolve (own_of l.fn.self.inner) (flat_map function_types (map (λ f. f.2.now) l.functions)) (around_of l.fn.self.outer l.fn.self.inner) (around_of l.self.outer l.self.inner);
  shows : (contents_of l.resolve l.self.outer l.self.inner).shown.functions ≡ (contents_of l.resolve l.fn.self.outer l.fn.self.inner).shown.functions ++ map
      (λ f. meaning_of l.resolve (placed_function f)) (take l.entry-index l.functions);
  counts : AddsFunctions l.resolve (encoder_scope l.resolve l.fn.self.outer l.fn.self.inner) l.fn.self.maps l.self.maps (definitions_with (contents_of l.resolve l.fn.self.outer l.fn.self.inner))
      (definitions_with (contents_of l.resolve l.self.outer l.self.inner)) (map (λ f. f.2.now) (take l.entry-index l.functions));
  learns : LearnsFrom l.resolve (own_of l.fn.self.inner) (flat_map function_types (map (λ f. f.2.now) (take l.entry-index l.functions))) l.fn.self.maps l.self.maps;
  names : names_defined l.resolve (encoder_scope l.resolve l.fn.self.outer l.fn.self.inner) l.self.maps ≡ names_defined l.resolve
      (encoder_scope l.resolve l.fn.self.outer l.fn.self.inner) l.fn.self.maps;
  within : l.entry-index ≤ length l.functions;
  held : HoldsLearnt l.resolve l.entry-index (encoder_view l.fn.self) (encoder_view l.self);
  written : WritesLearnt l.resolve (sum_by (function_extent l.resolve) (map placed_function (take l.entry-index l.functions))) (encoder_view l.fn.self) (encoder_view l.self);
  grow : MapsGrow l.fn.self.maps l.self.maps;
  types_stay : exports_in l.resolve l.self.outer l.self.inner ≡ exports_in l.resolve l.fn.self.outer l.fn.self.inner;
  places : StandInOrder (declared_inside l.fn.self.inner) → StandInOrder (declared_inside l.self.inner);
}
