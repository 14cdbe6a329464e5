use Rattle.std.proofs.Common.{◌≡◌, take}
use Rattle.text_types.specs.{Each.EachIs, Kept.defs_of, Kept.Grows, Made.IsOfPlace, Making.IsTypeOf}
use Rattle.text_types.specs.Scopes.{types_in, Agrees, StaysIn}
use Rattle.text_types.proofs.scope.Scope.make_all.Given as goal

abbrev pub invariant-loop-place : goal.invariant-loop-place
invariant-loop-place l = record {
  grows : Grows l.initial.types l.types;
  placed : StaysIn l.initial.self l.self (defs_of l.types);
  types : types_in l.self ≡ types_in l.initial.self;
  each : EachIs (IsOfPlace (IsTypeOf l.sources l.interfaces (defs_of l.types) l.initial.self) (types_in l.initial.self)) (take l.place-index l.place-items)
      l.all.entries;
  agrees : Agrees l.all l.self;
}
