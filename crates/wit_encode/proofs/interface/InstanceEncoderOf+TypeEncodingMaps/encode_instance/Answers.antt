use Rattle.std.proofs.Common.{◌≡◌, refl, sym, subst, ◌∙◌, List, Some, inl, inr, ap}
use Rattle.std.proofs.lemmas.{Option.slice_get_read, Result.IfOk-weaker as ok-then, Result.on_err_weaker as err-then}
use Rattle.std.specs.{List.Contains, Prelude.map, Prelude.IsPermutation}
use Rattle.wit_model.specs.Lookup.{interface_at}
use Rattle.wit_model.specs.declared.model.{TypeId.TypeId, Interface.Interface}
use Rattle.wit_encode.specs.Instance.{keyed, EncodesPart, EncodesInterface, CanEncodeInterface, placed_function, AliasesFor, whole_interface}
use Rattle.wit_encode.specs.{Encoders.outside, Exports.UsesListed, Order.functions_in_order}
use Rattle.indexmap.specs.IndexMap.{values}
use Rattle.wit_encode.proofs.{Encodable.valid-encodable, Closing.whole, Exporting.uses-listed, BytesWritten.whole-few, Opening.permuted-contains, Opening.values-permuted, FunctionExports.keyed-value, Refusing.room-listed, Referring.permuted-aliases}
use Rattle.wit_encode.proofs.interface.InstanceEncoderOf+TypeEncodingMaps.encode_instance.Goals.{After-index-def, After-encode_part}
use Rattle.encode_types.proofs.{Agree.on_ok, Aliasing.met-none}
use Rattle.encode_types.specs.{Aliases.AliasesMet, Known.Around, MetKinds.referred}
use Rattle.base_lemmas.proofs.{Elements.contains-map, Options.at_err as when-err}
use Rattle.wit_encode.proofs.interface.InstanceEncoderOf+TypeEncodingMaps.encode_instance.Goals as goal

there : (c : After-index-def) → interface_at c.args.self.now.resolve.now c.args.interface.0 ≡ Some c.index-def.result.now
there c = slice_get_read _ _ _ _ refl c.requires.in_range c.index-def.ensures

encodable : (c : After-index-def) → CanEncodeInterface c.args.self.now.resolve.now c.args.self.now.outer c.args.interface c.args.self.now.foreign c.index-def.result.now
encodable c = valid-encodable c.args.self.now.resolve.now c.requires.valid c.args.self.now.outer c.args.interface c.args.self.now.foreign c.index-def.result.now (there c) c.requires.around

pub encode_part-requires-clause-types : goal.encode_part-requires-clause-types
encode_part-requires-clause-types c = λ t h. (encodable (goal.at.encode_part-requires-clause-types c).After-index-def).types t
    (subst (λ (xs : List TypeId). Contains xs t) (c.deref.ensures.value ∙ c.in_ok-types.ensures) h)

pub encode_part-requires-clause-functions : goal.encode_part-requires-clause-functions
encode_part-requires-clause-functions c = λ f h. (encodable (goal.at.encode_part-requires-clause-functions c).After-index-def).functions (placed_function f)
    (permuted-contains _ _ (placed_function f) c.in_ok-functions.ensures.all (contains-map placed_function c.in_ok-functions.functions.items f (rw c.deref-2.ensures.value at h)))

pub encode_part-requires-clause-listed : goal.encode_part-requires-clause-listed
encode_part-requires-clause-listed c = record {
  id = c.args.interface;
  is = refl;
  def = c.index-def.result.now;
  there = there (goal.at.encode_part-requires-clause-listed c).After-index-def;
  listed = c.deref.ensures.value ∙ c.in_ok-types.ensures;
}

pub encode_part-requires-clause-uses : goal.encode_part-requires-clause-uses
encode_part-requires-clause-uses c = λ f h. subst (λ (xs : List TypeId). UsesListed c.args.self.now.resolve.now xs f.2.now) (sym (c.deref.ensures.value ∙ c.in_ok-types.ensures))
    (uses-listed c.args.self.now.resolve.now c.requires.valid c.args.interface.0 c.index-def.result.now (there (goal.at.encode_part-requires-clause-uses c).After-index-def) f.2.now
    (keyed-value c.index-def.result.now.functions.entries (placed_function f)
    (permuted-contains _ _ (placed_function f) c.in_ok-functions.ensures.all (contains-map placed_function c.in_ok-functions.functions.items f (rw c.deref-2.ensures.value at h)))))

some-same : (a b : Interface) → Some a ≡ Some b → a ≡ b
some-same a b e = cc

pub returns-clause-ok : goal.returns-clause-ok
returns-clause-ok c =
    let start = outside c.args.self.now in let id = c.args.interface in let end = outside c.encode_part.new.self in let own = c.index-def.result.now in
    let at = there (goal.at.returns-clause-ok c).After-index-def in
    let r = c.args.self.now.resolve.now in
    let fs = c.deref-2.result.now in
    ok-then c.encode_part.result (λ k. (def : Interface) → interface_at r id.0 ≡ Some def → EncodesPart r start end id def (map placed_function fs) (map (λ f. f.2.now) fs) k)
    (λ k. (def : Interface) → interface_at r id.0 ≡ Some def → EncodesInterface r start end id def k) (λ k all def is.
    let is_def = some-same own def (sym at ∙ is) in
    whole r c.requires.valid start end id def fs k is (subst (λ (d : Interface). IsPermutation (map keyed d.functions.entries) (map placed_function fs)) is_def
    (subst (λ xs. IsPermutation (map keyed own.functions.entries) (map placed_function xs)) (sym c.deref-2.ensures.value) c.in_ok-functions.ensures.all))
    (ap (map placed_function) c.deref-2.ensures.value ∙ c.in_ok-functions.ensures.order ∙ ap functions_in_order is_def) (all def is)) c.encode_part.ensures.ok

-- what is met from all that the interface refers to
whole-met : (c : After-encode_part) (a : Around)
    → AliasesMet c.args.self.now.resolve.now (Some c.args.interface) (referred c.deref.result.now (map (λ f. f.2.now) c.deref-2.result.now)) (outside c.args.self.now) a
    → AliasesMet c.args.self.now.resolve.now (Some c.args.interface) (whole_interface c.index-def.result.now) (outside c.args.self.now) a
whole-met c a made =
    let def = c.index-def.result.now in
    let fs = c.deref-2.result.now in
    permuted-aliases c.args.self.now.resolve.now (Some c.args.interface) (values def.types) (values def.functions) (map (λ f. f.2.now) fs)
    (values-permuted def fs (subst (λ xs. IsPermutation (map keyed def.functions.entries) (map placed_function xs)) (sym c.deref-2.ensures.value) c.in_ok-functions.ensures.all))
    (subst (λ (ts : List TypeId). AliasesMet c.args.self.now.resolve.now (Some c.args.interface) (referred ts (map (λ f. f.2.now) fs)) (outside c.args.self.now) a)
    (c.deref.ensures.value ∙ c.in_ok-types.ensures) made)

pub returns-clause-size : goal.returns-clause-size
returns-clause-size c = λ h def is.
    let at = there (goal.at.returns-clause-size c).After-index-def in
    let is_def = some-same c.index-def.result.now def (sym at ∙ is) in
    let same : map placed_function c.deref-2.result.now ≡ functions_in_order def = ap (map placed_function) c.deref-2.ensures.value ∙ c.in_ok-functions.ensures.order ∙ ap functions_in_order is_def in
    elim (c.encode_part.ensures.size h) [
      | inl room ↦ inl (room-listed c.args.self.now.resolve.now c.args.interface _ _ c.deref-2.result.now _
          (c.deref.ensures.value ∙ c.in_ok-types.ensures ∙ ap (λ (z : Interface). values z.types) is_def) same room)
      | inr around ↦ inr (record {
        after = around.after;
        grown = subst (λ (d : Interface). AliasesMet c.args.self.now.resolve.now (Some c.args.interface) (whole_interface d) (outside c.args.self.now) around.after) is_def
            (whole-met (goal.at.returns-clause-size c).After-encode_part around.after around.grown);
        full = around.full;
      })
    ]

pub returns-clause-written : goal.returns-clause-written
returns-clause-written c = on_ok c.encode_part.result _ _ (λ t. whole-few c.args.self.now.resolve.now c.requires.valid c.args.interface c.index-def.result.now
    (there (goal.at.returns-clause-written c).After-index-def) c.deref.result.now (c.deref.ensures.value ∙ c.in_ok-types.ensures) c.deref-2.result.now
    (ap (map placed_function) c.deref-2.ensures.value ∙ c.in_ok-functions.ensures.order) c.args.self.now.outer c.encode_part.new.self.outer t) c.encode_part.ensures.written

nothing-new : (c : After-index-def) → AliasesFor c.args.self.now.resolve.now c.args.interface (outside c.args.self.now) (outside c.args.self.now)
nothing-new c = record { def = c.index-def.result.now; there = there c; made = met-none refl }

pub returns-in_err-types-clause-err : goal.returns-in_err-types-clause-err
returns-in_err-types-clause-err c = when-err _ (nothing-new (goal.at.returns-in_err-types-clause-err c).After-index-def)

pub returns-in_err-functions-clause-err : goal.returns-in_err-functions-clause-err
returns-in_err-functions-clause-err c = when-err _ (nothing-new (goal.at.returns-in_err-functions-clause-err c).After-index-def)

pub returns-clause-err : goal.returns-clause-err
returns-clause-err c = err-then c.encode_part.result (λ made. record {
  def = c.index-def.result.now;
  there = there (goal.at.returns-clause-err c).After-index-def;
  made = whole-met (goal.at.returns-clause-err c).After-encode_part (outside c.encode_part.new.self) made;
}) c.encode_part.ensures.err
