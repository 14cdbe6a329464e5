use Rattle.std.proofs.Common.{◌≡◌, inl, inr, refl, sym, subst, ap, ◌∙◌, List, [], Some}
use Rattle.std.proofs.lemmas.{Option.slice_get_read, Option.same_Some as some-same, Result.IfOk-weaker as ok-then, Result.on_err_weaker as err-then}
use Rattle.std.specs.List.{Contains}
use Rattle.wit_model.specs.Lookup.{interface_at}
use Rattle.wit_model.specs.declared.model.{TypeId.TypeId, Interface.Interface}
use Rattle.wit_encode.specs.{Encoders.outside, Instance.CanEncodeInterface, Instance.EncodesDependency, Instance.EncodesPart, Instance.AliasesForTypes}
use Rattle.indexmap.specs.IndexMap.{values}
use Rattle.wit_encode.proofs.{Refusing.room-listed, Closing.types-alone, BytesWritten.types-few, Encodable.valid-encodable, interface.InstanceEncoderOf+TypeEncodingMaps.encode_dependency.Goals.After-index-def}
use Rattle.encode_types.proofs.{Agree.on_ok, Aliasing.met-none}
use Rattle.encode_types.specs.{Aliases.AliasesMet, MetKinds.referred}
use Rattle.base_lemmas.proofs.Options.{at_err as when-err}
use Rattle.wit_encode.proofs.interface.InstanceEncoderOf+TypeEncodingMaps.encode_dependency.Goals as goal

there : (c : After-index-def) → interface_at c.args.self.now.resolve.now c.args.interface.0 ≡ Some c.index-def.result.now
there c = slice_get_read _ _ _ _ refl c.requires.in_range c.index-def.ensures

encodable : (c : After-index-def) → CanEncodeInterface c.args.self.now.resolve.now c.args.self.now.outer c.args.interface c.args.self.now.foreign c.index-def.result.now
encodable c = valid-encodable c.args.self.now.resolve.now c.requires.valid c.args.self.now.outer c.args.interface c.args.self.now.foreign c.index-def.result.now (there c) c.requires.around

pub encode_part-requires-clause-types : goal.encode_part-requires-clause-types
encode_part-requires-clause-types c = λ t h. (encodable (goal.at.encode_part-requires-clause-types c).After-index-def).types t
    (subst (λ (xs : List TypeId). Contains xs t) (c.deref.ensures.value ∙ c.in_ok-types.ensures) h)

pub encode_part-requires-clause-listed : goal.encode_part-requires-clause-listed
encode_part-requires-clause-listed c = record {
  id = c.args.interface;
  is = refl;
  def = c.index-def.result.now;
  there = there (goal.at.encode_part-requires-clause-listed c).After-index-def;
  listed = c.deref.ensures.value ∙ c.in_ok-types.ensures;
}

pub returns-clause-ok : goal.returns-clause-ok
returns-clause-ok c =
    let r = c.args.self.now.resolve.now in let start = outside c.args.self.now in let id = c.args.interface in let end = outside c.encode_part.new.self in
    ok-then c.encode_part.result (λ k. (def : Interface) → interface_at r id.0 ≡ Some def → EncodesPart r start end id def [] [] k)
    (λ k. (def : Interface) → interface_at r id.0 ≡ Some def → EncodesDependency r start end id def k) (λ k all def is. types-alone r start end id def [] k refl (all def is)) c.encode_part.ensures.ok

pub returns-clause-size : goal.returns-clause-size
returns-clause-size c = λ h def is.
    let at = there (goal.at.returns-clause-size c).After-index-def in
    let is_def = some-same c.index-def.result.now def (sym at ∙ is) in
    elim (c.encode_part.ensures.size h) [
      | inl room ↦ inl (room-listed c.args.self.now.resolve.now c.args.interface _ _ [] [] (c.deref.ensures.value ∙ c.in_ok-types.ensures ∙ ap (λ (z : Interface). values z.types) is_def) refl room)
      | inr around ↦ inr (record {
        after = around.after;
        grown = subst (λ (ts : List TypeId). AliasesMet c.args.self.now.resolve.now (Some c.args.interface) (referred ts []) (outside c.args.self.now) around.after)
            (c.deref.ensures.value ∙ c.in_ok-types.ensures ∙ ap (λ (z : Interface). values z.types) is_def) around.grown;
        full = around.full;
      })
    ]

pub returns-clause-written : goal.returns-clause-written
returns-clause-written c = on_ok c.encode_part.result _ _ (λ t. types-few c.args.self.now.resolve.now c.requires.valid c.args.interface c.index-def.result.now
    (there (goal.at.returns-clause-written c).After-index-def) c.deref.result.now (c.deref.ensures.value ∙ c.in_ok-types.ensures) c.args.self.now.outer c.encode_part.new.self.outer t)
    c.encode_part.ensures.written

nothing-new : (c : After-index-def) → AliasesForTypes c.args.self.now.resolve.now c.args.interface (outside c.args.self.now) (outside c.args.self.now)
nothing-new c = record { def = c.index-def.result.now; there = there c; made = met-none refl }

pub returns-in_err-types-clause-err : goal.returns-in_err-types-clause-err
returns-in_err-types-clause-err c = when-err _ (nothing-new (goal.at.returns-in_err-types-clause-err c).After-index-def)

pub returns-clause-err : goal.returns-clause-err
returns-clause-err c = err-then c.encode_part.result (λ made. record {
  def = c.index-def.result.now;
  there = there (goal.at.returns-clause-err c).After-index-def;
  made = subst (λ (ts : List TypeId). AliasesMet c.args.self.now.resolve.now (Some c.args.interface) (referred ts []) (outside c.args.self.now) (outside c.encode_part.new.self))
      (c.deref.ensures.value ∙ c.in_ok-types.ensures) made;
}) c.encode_part.ensures.err
