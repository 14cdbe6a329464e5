use Rattle.std.proofs.Common.{rules, ◌≡◌, ◌⊎◌, sym, subst, Some, [], OnErr, OnOk}
use Rattle.std.specs.Prelude.{IfOk}
use Rattle.wit_model.specs.Lookup.{interface_at}
use Rattle.wit_model.specs.declared.model.Interface.{Interface}
use Rattle.encode_types.specs.{Known.Around, Known.UsedStand, Known.standing_instances, Room.HasNoRoom}
use Rattle.wit_encode.specs.Instance.{EncodesDependency, AliasesForTypes, LacksInstanceRoom, types_alone_of, around_at}
use Rattle.wit_encode.specs.WrittenBytes.{AddsBytes, types_extent}
use Rattle.comp_bytes.specs.Raw.{Declarations}
use Rattle.wit_encode.proofs.Opening.{around-moves}
use Rattle.wit_encode.proofs.world.WorldEncoderOf+TypeEncodingMaps.define_dependency.Goals as goal

pub encode_dependency-outcome-requires-clause-around : goal.encode_dependency-outcome-requires-clause-around
encode_dependency-outcome-requires-clause-around c =
    let q = c.args.self.now.resolve.now in
    subst (λ (z : Around). UsedStand q (standing_instances q z) c.args.interface.0) (around-moves (sym c.replace.ensures.value) (sym c.replace-2.ensures.value)) c.requires.around

pub returns : goal.returns
returns c =
    let q = c.args.self.now.resolve.now in
    let after = c.encode_dependency-outcome.new.self in
    record {
      ok = subst (λ (z : Around). IfOk c.encode_dependency-outcome.result (λ k. (def : Interface) → interface_at q c.args.interface.0 ≡ Some def
          → EncodesDependency q z (around_at after.outer after.foreign) c.args.interface def k))
          (around-moves c.replace.ensures.value c.replace-2.ensures.value) c.encode_dependency-outcome.ensures.ok;
      err = subst (λ (z : Around). OnErr c.encode_dependency-outcome.result (AliasesForTypes q c.args.interface z (around_at after.outer after.foreign)))
          (around-moves c.replace.ensures.value c.replace-2.ensures.value) c.encode_dependency-outcome.ensures.err;
      written = subst (λ (z : Declarations). OnOk c.encode_dependency-outcome.result
          (AddsBytes (types_extent c.args.self.now.resolve.now c.args.interface.0) z c.encode_dependency-outcome.new.self.outer)) c.replace.ensures.value c.encode_dependency-outcome.ensures.written;
      size = λ refused. subst (λ (z : Around). (def : Interface) → interface_at q c.args.interface.0 ≡ Some def → HasNoRoom q (Some c.args.interface) (types_alone_of def) []
          ⊎ LacksInstanceRoom q c.args.interface (types_alone_of def) z) (around-moves c.replace.ensures.value c.replace-2.ensures.value) (c.encode_dependency-outcome.ensures.size refused);
      rest = search rules;
      refuses = search rules;
    }
