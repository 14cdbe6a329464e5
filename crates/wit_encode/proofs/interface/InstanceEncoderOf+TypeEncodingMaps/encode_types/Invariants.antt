use Rattle.std.proofs.Common.{map, take}
use Rattle.encode_types.specs.{MetKinds.LearnsFrom, Aliases.MakesMet, Leaves.Leaves, Leaves.CountsTypes, View.HoldsLearnt, View.WritesLearnt}
use Rattle.wit_encode.specs.{Instance.own_of, Exports.ShowsFirst, Encoders.encoder_view}
use Rattle.wit_model.specs.declared.model.«Type».TheVariants as ty
use Rattle.wit_encode.proofs.interface.InstanceEncoderOf+TypeEncodingMaps.encode_types.Given as goal

abbrev pub invariant-loop-id : goal.invariant-loop-id
invariant-loop-id l = record {
  leaves : Leaves l.resolve (encoder_view l.fn.self) (encoder_view l.self);
  aliases : MakesMet l.resolve (map (λ t. ty.Id t) l.types) (encoder_view l.fn.self) (encoder_view l.self);
  counts : CountsTypes l.resolve (encoder_view l.fn.self) (encoder_view l.self);
  held : HoldsLearnt l.resolve 0 (encoder_view l.fn.self) (encoder_view l.self);
  written : WritesLearnt l.resolve 0 (encoder_view l.fn.self) (encoder_view l.self);
  learns : LearnsFrom l.resolve (own_of l.fn.self.inner) (map (λ t. ty.Id t) (take l.id-index l.types)) l.fn.self.maps l.self.maps;
  first : ShowsFirst l.resolve (encoder_view l.fn.self).scope l.types l.id-index l.self.maps (encoder_view l.self).definitions;
}
