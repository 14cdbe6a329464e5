use Rattle.std.proofs.Common.{rules, ◌≡◌, refl, ◌∙◌, arith, inl, ◌+◌, ◌<◌, length, get_or, subst, Some, true, false, List, [], ◌∷◌, sym, ℕ}
use Rattle.std.proofs.lemmas.{Option.slice_get_read, List.Elements.Contains-get_or}
use Rattle.std.specs.{List.Contains, Option.is_some}
use Rattle.wit_model.specs.Lookup.{type_at}
use Rattle.wit_model.specs.declared.model.{«Type».«Type» as ValueType, TypeId.TypeId}
use Rattle.encode_types.specs.{Kinds.parts_of, Maps.IsKnown, Plan.foreign_owner, Plan.rank}
use Rattle.encode_types.proofs.{Agree.not-known, Tables.at-some, plan.+plan.Goals.In-Some}
use Rattle.encode_types.proofs.Planning.{planned-there, planned-foreign, planned-own, planned-step, stands-id, part-smaller, rank_below, lacks-now}
use Rattle.wit_model.proofs.Elements.{some-from}
use Rattle.base_lemmas.proofs.Elements.{contains-one}
use Rattle.wit_model.specs.declared.model.«Type».TheVariants as ty
use Rattle.encode_types.proofs.plan.+plan.Goals as goal

pub returns-then-is_some : goal.returns-then-is_some
returns-then-is_some t c =
    let k : IsKnown c.args.maps.now c.in-Id.id.0 = some-from _ c.index_of.result (search rules) c.index_of.ensures.some in
    rw c.in-Id.is (planned-there c.args.resolve.now c.args.own c.args.maps.now c.args.order.now c.args.order.now.numbers.items (ty.Id c.in-Id.id) refl c.requires.ordered c.requires.met c.requires.once
    (stands-id c.args.resolve.now c.args.own c.args.maps.now c.args.order.now.numbers.items c.in-Id.id (inl k)))

pub returns-then-is_some-2 : goal.returns-then-is_some-2
returns-then-is_some-2 t c =
    let at : type_at c.args.resolve.now c.in-Id.id.0 ≡ Some c.index-def.result.now = slice_get_read _ _ _ _ refl (c.requires.in_range c.in-Id.id c.in-Id.is) c.index-def.ensures in
    let f : is_some (foreign_owner c.args.own c.index-def.result.now.owner) ≡ true = search rules in
    let lacks : is_some c.index_of.result ≡ false = search rules in
    let out : c.has.result ≡ false = search rules in
    rw c.in-Id.is (planned-foreign c.args.resolve.now c.args.own c.args.maps.now c.args.order.now.numbers.items c.push.new.self c.in-Id.id c.index-def.result.now
    (λ k. not-known c.index_of.result lacks (c.index_of.ensures.none k)) c.in_ok-push.ensures.numbers c.in_ok-push.ensures.met c.requires.ordered at f c.requires.once
    (lacks-now _ _ _ c.has.ensures out))

only : (t : ℕ) (c : In-Some t) → parts_of c.index-def.result.now.kind ≡ c.in-Some.part ∷ []
only t c = at-some c.only_part.result (λ t. parts_of c.index-def.result.now.kind ≡ t ∷ []) c.in-Some.part c.in-Some.is c.only_part.ensures

pub plan-requires : goal.plan-requires
plan-requires t c =
    let at : type_at c.args.resolve.now c.in-Id.id.0 ≡ Some c.index-def.result.now = slice_get_read _ _ _ _ refl (c.requires.in_range c.in-Id.id c.in-Id.is) c.index-def.ensures in
    let here : Contains (parts_of c.index-def.result.now.kind) c.in-Some.part =
    subst (λ (xs : List ValueType). Contains xs c.in-Some.part) (sym (only t (goal.at.plan-requires t c).In-Some)) (contains-one c.in-Some.part) in
    let below : (id : TypeId) → c.in-Some.part ≡ ty.Id id → id.0 < c.in-Id.id.0 =
    (λ id q. part-smaller c.args.resolve.now c.requires.layered c.in-Id.id.0 c.index-def.result.now id at (subst (λ (x : ValueType). Contains (parts_of c.index-def.result.now.kind) x) q here)) in
    let fall : rank c.in-Some.part < c.in-Id.id.0 + 1 = rank_below c.in-Id.id.0 _ below in
    let inside : c.in-Id.id.0 < length c.args.resolve.now.types.items = c.requires.in_range c.in-Id.id c.in-Id.is in
    let m : rank c.args.ty.now ≡ t = c.decreases in
    (rw (← m, c.in-Id.is) fall, (c.requires.layered, ((λ id q. let l : id.0 < c.in-Id.id.0 = below id q in omega arith), (c.requires.ordered, (c.requires.met, c.requires.once)))))

pub returns-in-Some : goal.returns-in-Some
returns-in-Some t c =
    let at : type_at c.args.resolve.now c.in-Id.id.0 ≡ Some c.index-def.result.now = slice_get_read _ _ _ _ refl (c.requires.in_range c.in-Id.id c.in-Id.is) c.index-def.ensures in
    let f : is_some (foreign_owner c.args.own c.index-def.result.now.owner) ≡ false = search rules in
    let lacks : is_some c.index_of.result ≡ false = search rules in
    let out : c.has.result ≡ false = search rules in
    rw c.in-Id.is (planned-own c.args.resolve.now c.args.own c.args.maps.now c.args.order.now.numbers.items c.plan.new.order c.push-in-Some.new.self c.in-Id.id c.index-def.result.now
    (c.in-Some.part ∷ []) 1 (λ k. not-known c.index_of.result lacks (c.index_of.ensures.none k)) c.in_ok-push-2.ensures.numbers c.in_ok-push-2.ensures.met at f
    (sym (only t (goal.at.returns-in-Some t c).In-Some)) (omega arith) c.requires.layered (lacks-now _ _ _ c.has.ensures out) c.in_ok-plan.ensures)

pub plan-requires-in-loop-part : goal.plan-requires-in-loop-part
plan-requires-in-loop-part t c =
    let at : type_at c.args.resolve.now c.in-Id.id.0 ≡ Some c.index-def.result.now = slice_get_read _ _ _ _ refl (c.requires.in_range c.in-Id.id c.in-Id.is) c.index-def.ensures in
    let e = c.deref-part-items.ensures.value ∙ c.in_ok-parts.ensures in
    let here : Contains (parts_of c.index-def.result.now.kind) (get_or c.deref-part-items.result.now c.loop-part.part-index ty.Bool) =
    subst (λ (xs : List ValueType). Contains xs (get_or c.deref-part-items.result.now c.loop-part.part-index ty.Bool)) e (Contains-get_or _ _ ty.Bool c.loop-part-test.true) in
    let below : (id : TypeId) → get_or c.deref-part-items.result.now c.loop-part.part-index ty.Bool ≡ ty.Id id → id.0 < c.in-Id.id.0 =
    (λ id q. part-smaller c.args.resolve.now c.requires.layered c.in-Id.id.0 c.index-def.result.now id at (subst (λ (x : ValueType). Contains (parts_of c.index-def.result.now.kind) x) q here)) in
    let fall : rank (get_or c.deref-part-items.result.now c.loop-part.part-index ty.Bool) < c.in-Id.id.0 + 1 = rank_below c.in-Id.id.0 _ below in
    let inside : c.in-Id.id.0 < length c.args.resolve.now.types.items = c.requires.in_range c.in-Id.id c.in-Id.is in
    let m : rank c.args.ty.now ≡ t = c.decreases in (
      rw (← m, c.in-Id.is) fall,
      (c.requires.layered, ((λ id q. let l : id.0 < c.in-Id.id.0 = below id q in omega arith), (c.loop-part.invariant.ordered, (c.loop-part.invariant.met, c.loop-part.invariant.once)))),
    )

pub loop-part-preserved : goal.loop-part-preserved
loop-part-preserved t c = planned-step c.args.resolve.now c.args.own c.args.maps.now c.args.order.now.numbers.items c.deref-part-items.result.now c.loop-part.part-index c.loop-part.order
    c.plan-in-loop-part.new.order ty.Bool c.loop-part-test.true c.loop-part.invariant c.in_ok-plan-2.ensures

pub returns : goal.returns
returns t c =
    let at : type_at c.args.resolve.now c.in-Id.id.0 ≡ Some c.index-def.result.now = slice_get_read _ _ _ _ refl (c.requires.in_range c.in-Id.id c.in-Id.is) c.index-def.ensures in
    let f : is_some (foreign_owner c.args.own c.index-def.result.now.owner) ≡ false = search rules in
    let lacks : is_some c.index_of.result ≡ false = search rules in
    let out : c.has.result ≡ false = search rules in
    let e = c.deref-part-items.ensures.value ∙ c.in_ok-parts.ensures in
    rw c.in-Id.is (planned-own c.args.resolve.now c.args.own c.args.maps.now c.args.order.now.numbers.items c.loop-part.order c.push-2.new.self c.in-Id.id c.index-def.result.now _ _
    (λ k. not-known c.index_of.result lacks (c.index_of.ensures.none k)) c.in_ok-push-3.ensures.numbers c.in_ok-push-3.ensures.met at f e c.loop-part-test.false c.requires.layered
    (lacks-now _ _ _ c.has.ensures out) c.loop-part.invariant)
