use Rattle.std.proofs.Common.{map}
use Rattle.wit_model.specs.declared.model.TypeId.{TypeId}
use Rattle.wit_model.specs.{Meant.type_meaning_at, Text.text_of}
use Rattle.compat_meaning.specs.TwoSides.{AllSame}
use Rattle.wit_compat.proofs.SameMaps.{entry, IsAlong}
use Rattle.wit_compat.proofs.interfaces.same_named_types.Given as goal

-- those so far are found among the others
abbrev pub invariant-loop-name : goal.invariant-loop-name
invariant-loop-name l = record {
  along : IsAlong text_of (λ (id : TypeId). type_meaning_at l.left.resolve.now id.0) (map (entry text_of (λ (id : TypeId). type_meaning_at l.right.resolve.now id.0)) l.others.entries) l.types.entries
      l.name-iterator;
  kept : AllSame l.left.resolve.now l.right.resolve.now l.pairs.keys;
}
