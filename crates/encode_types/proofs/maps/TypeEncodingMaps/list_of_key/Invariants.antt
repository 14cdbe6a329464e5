use Rattle.std.proofs.Common.{◌≡◌, [], ◌∷◌, length}
use Rattle.encode_types.specs.{Codes.names_of, Codes.async_code, Codes.AddsParams, Codes.HaveNumbers, Maps.AddsNames}
use Rattle.encode_types.proofs.maps.TypeEncodingMaps.list_of_key.Given as goal

abbrev pub invariant-loop-i : goal.invariant-loop-i
invariant-loop-i l = record {
  names : AddsNames l.initial.self l.self;
  known : HaveNumbers (names_of l.initial.self.names) l.key.params.0.now → l.self.names.entries ≡ l.initial.self.names.entries;
  adds : AddsParams (names_of l.self.names) l.i (async_code l.key.async_ ∷ length l.key.params.0.now ∷ []) l.list.items l.key.params.0.now;
}
