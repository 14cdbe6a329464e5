use Rattle.std.proofs.Common.{◌≡◌, ◌∙◌, ap, refl, zero, ◌∷◌, Result, Err, rules, arith}
use Rattle.encode_types.specs.{View.Told, Scope.Scope}
use Rattle.wit_model.specs.declared.error.Error.{Error}
use Rattle.comp_bytes.specs.declared.forms.ComponentValType.{ComponentValType}
use Rattle.wit_encode.specs.{WorldItems.entry_of, WorldItems.towards, Worlds.world_encoder_view, WrittenBytes.AddsLearnt}
use Rattle.wit_encode.proofs.{WorldHolding.type-defined, WorldHolding.type-few, WorldHolding.type-lacks, WorldLists.type-encodable, WorldLists.type-encoded, WrittenNames.type-names, BytesWritten.learnt-most, Places.grows-none, Places.types-beside}
use Rattle.wit_model.specs.declared.error.Error.TheVariants as errors
use Rattle.wit_encode.proofs.world.WorldEncoderOf+TypeEncodingMaps.encode_type.Goals as goal

pub encode_valtype-requires : goal.encode_valtype-requires
encode_valtype-requires c =
    let next = c.requires.next in
    let can = type-encodable c.args.resolve.now c.requires.valid next.world c.args.self.now next.done next.shown c.args.placed.key.now c.args.id c.args.placed.item.now c.requires.item
    (towards c.args.placed.direction) next.next in
    λ _. ((refl, tt), rw next.shown.packages_ (can, next.shown.agree))

pub returns : goal.returns
returns c =
    let r = c.args.resolve.now in let start = c.args.self.now in let end = c.encode_valtype.new.enc in let key = c.args.placed.key.now in let leaves = c.encode_valtype.ensures.leaves in
    let counts = c.in_ok-encode_valtype.ensures.counts in
    record {
      ok = λ w done h next. type-encoded r c.requires.valid w start end done h key c.args.id c.args.placed.item.now c.requires.item (towards c.args.placed.direction) next leaves
          c.in_ok-encode_valtype.ensures.learns.only counts.shows c.in_ok-encode_valtype.ensures.knows;
      once = λ es h. type-defined r start end es (world_encoder_view start).scope refl key c.args.placed.item.now c.args.id
          c.requires.item h counts c.in_ok-encode_valtype.ensures.learns (ap (λ (s : Scope). s.others.declared) leaves.scope_stays) (record {
            packages_ = c.requires.next.shown.packages_;
            packages_stay = ap (λ (s : Scope). s.packages) leaves.scope_stays;
            keeps = λ ns. leaves.grows.own_ (Told.numbers (zero ∷ ns));
            imports = c.encode_valtype.ensures.imports;
          });
      few = λ es h. type-few r start.resolve.now end.resolve.now start end es key c.args.placed.item.now c.args.id c.requires.item c.requires.next.shown.packages_
          (ap (λ (s : Scope). s.packages) leaves.scope_stays ∙ c.requires.next.shown.packages_) (ap (λ (s : Scope). s.others.listed) leaves.scope_stays) h counts.keys.lists
          c.in_ok-encode_valtype.ensures.held;
      written =
          let types : AddsLearnt r 0 start.maps end.maps start.outer end.outer = record { few = c.in_ok-encode_valtype.ensures.written.extent } in learnt-most (omega arith) types;
      size = search rules;
      names = type-names r start.resolve.now c.args.placed.canonical_names (entry_of c.args.placed) c.args.id start.outer end.outer c.requires.item leaves.grows.around_;
      places = types-beside start.outer end.outer (leaves.grows.own_ (Told.declared start.outer) (grows-none start.outer)) counts.functions;
      refuses = search rules;
    }

pub returns-in_err-encode_valtype-clause-size : goal.returns-in_err-encode_valtype-clause-size
returns-in_err-encode_valtype-clause-size c = λ h.
    let refused : ◌≡◌ {A = Result ComponentValType Error} c.encode_valtype.result (Err errors.Size) = search rules in
    λ w done shown next d few. type-lacks c.args.resolve.now c.args.self.now.resolve.now c.encode_valtype.new.enc.resolve.now w c.args.self.now c.encode_valtype.new.enc done
    (towards c.args.placed.direction) c.args.placed.key.now c.args.placed.item.now c.args.id c.requires.item next d few
    (ap (λ (s : Scope). s.others.listed) c.encode_valtype.ensures.leaves.scope_stays) shown.agree.once shown.packages_
    (ap (λ (s : Scope). s.packages) c.encode_valtype.ensures.leaves.scope_stays ∙ shown.packages_) (c.encode_valtype.ensures.size refused)
