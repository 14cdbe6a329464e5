use Rattle.std.proofs.Common.{refl, arith}
use Rattle.comp_bytes.specs.{Raw.TopType, Parts.Part}
use Rattle.comp_bytes.proofs.BuiltLaws.{join_type_at, type_apart, start_type}
use Rattle.comp_bytes.proofs.BuiltSizes.{size_passed, types_refused, count_refused, start_refused}
use Rattle.comp_bytes.proofs.builder.ComponentBuilder.type_component.Goals.{else-self-gt0-via-then-self-gt0+else-not-self, else-self-gt0-via-else-self-gt0}
use Rattle.comp_bytes.proofs.builder.ComponentBuilder.type_component.Goals as goal

pub returns-in_err-types-clause-size : goal.returns-in_err-types-clause-size
returns-in_err-types-clause-size c _ = rw (← c.self.view_is) (types_refused _ _ _ _ _ c.self.invariant (Part.top_type (TopType.component c.args.component.now)) refl c.in_err-types.ensures.size)

pub returns-in_err-count-clause-size : goal.returns-in_err-count-clause-size
returns-in_err-count-clause-size c _ = rw (← c.self.view_is) (count_refused _ _ _ _ _ c.self.invariant (Part.top_type (TopType.component c.args.component.now)) refl c.in_err-count.ensures.size)

pub invariant_of-self-then-not-self : goal.invariant_of-self-then-not-self
invariant_of-self-then-not-self c = rw (c.in_ok-put_component.ensures.ok, c.in_ok-count.ensures.ok, c.in_ok-types.ensures.ok)
    (join_type_at _ _ _ _ _ (TopType.component c.args.component.now) c.if-not-self.true c.self.invariant c.if-self-gt0.true c.in_ok-put_component.ensures.spelled).builds

pub returns-in_ok-put_component-clause-ok : goal.returns-in_ok-put_component-clause-ok
returns-in_ok-put_component-clause-ok c = rw (c.in_ok-put_component.ensures.ok, c.in_ok-count.ensures.ok, ← c.self.view_is)
    (join_type_at _ _ _ _ _ (TopType.component c.args.component.now) c.if-not-self.true c.self.invariant c.if-self-gt0.true c.in_ok-put_component.ensures.spelled).shows

pub returns-in_err-close-clause-size : goal.returns-in_err-close-clause-size
returns-in_err-close-clause-size c is =
    let apart = type_apart _ _ _ _ _ c.self.invariant (TopType.component c.args.component.now)
    (λ some. elim c.else-self-gt0.branch [ else-self-gt0-via-then-self-gt0+else-not-self w ↦ w.if-not-self.false | else-self-gt0-via-else-self-gt0 w ↦ absurd (omega arith) ]) in
    let long = rw c.deref.ensures.value at (c.in_err-close.ensures.size (size_passed c.from_residual-in_err-close.result c.in_err-close.field-0.0 c.from_residual-in_err-close.ensures.1 is)) in
    rw (← c.self.view_is) (start_refused _ _ _ _ _ c.self.invariant (Part.top_type (TopType.component c.args.component.now)) apart long)

pub invariant_of-self-else-self-gt0 : goal.invariant_of-self-else-self-gt0
invariant_of-self-else-self-gt0 c =
    let apart = type_apart _ _ _ _ _ c.self.invariant (TopType.component c.args.component.now)
    (λ some. elim c.else-self-gt0.branch [ else-self-gt0-via-then-self-gt0+else-not-self w ↦ w.if-not-self.false | else-self-gt0-via-else-self-gt0 w ↦ absurd (omega arith) ]) in
    let text = rw c.new-items.ensures.items at c.in_ok-put_component-2.ensures.ok in
    rw (c.in_ok-close.ensures.ok, c.deref.ensures.value, c.in_ok-types.ensures.ok)
    (start_type _ _ _ _ _ c.self.invariant c.in_ok-close.ensures.few (rw c.deref.ensures.value at c.in_ok-close.ensures.small) (TopType.component c.args.component.now)
    c.put_component-else-self-gt0.new.out.items apart text c.in_ok-put_component-2.ensures.spelled).builds

pub returns-in_ok-close-clause-ok : goal.returns-in_ok-close-clause-ok
returns-in_ok-close-clause-ok c =
    let apart = type_apart _ _ _ _ _ c.self.invariant (TopType.component c.args.component.now)
    (λ some. elim c.else-self-gt0.branch [ else-self-gt0-via-then-self-gt0+else-not-self w ↦ w.if-not-self.false | else-self-gt0-via-else-self-gt0 w ↦ absurd (omega arith) ]) in
    let text = rw c.new-items.ensures.items at c.in_ok-put_component-2.ensures.ok in
    rw (c.in_ok-close.ensures.ok, c.deref.ensures.value, ← c.self.view_is)
    (start_type _ _ _ _ _ c.self.invariant c.in_ok-close.ensures.few (rw c.deref.ensures.value at c.in_ok-close.ensures.small) (TopType.component c.args.component.now)
    c.put_component-else-self-gt0.new.out.items apart text c.in_ok-put_component-2.ensures.spelled).shows
