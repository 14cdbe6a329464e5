use Rattle.std.proofs.Common.{refl, arith}
use Rattle.comp_bytes.specs.Parts.{Part, plain_export}
use Rattle.comp_bytes.proofs.BuiltLaws.{join_export_at, export_apart, start_export}
use Rattle.comp_bytes.proofs.BuiltSizes.{size_passed, types_refused, count_refused, start_refused, name_refused}
use Rattle.comp_bytes.proofs.builder.ComponentBuilder.export.Goals as goal
use Rattle.comp_bytes.proofs.builder.ComponentBuilder.export.Goals.{else-self-gt0-via-then-self-gt0+else-self, else-self-gt0-via-else-self-gt0}

pub returns-in_err-types-clause-size : goal.returns-in_err-types-clause-size
returns-in_err-types-clause-size c _ = rw (← c.self.view_is) (types_refused _ _ _ _ _ c.self.invariant (Part.top_export (plain_export c.args.name.now c.args.index)) refl c.in_err-types.ensures.size)

pub returns-in_err-count-clause-size : goal.returns-in_err-count-clause-size
returns-in_err-count-clause-size c _ = rw (← c.self.view_is) (count_refused _ _ _ _ _ c.self.invariant (Part.top_export (plain_export c.args.name.now c.args.index)) refl c.in_err-count.ensures.size)

pub returns-in_err-put_export-clause-size : goal.returns-in_err-put_export-clause-size
returns-in_err-put_export-clause-size c is =
    let long = c.in_err-put_export.ensures.size (size_passed c.from_residual-in_err-put_export.result c.in_err-put_export.field-0.0 c.from_residual-in_err-put_export.ensures.1 is) in
    rw (← c.self.view_is) (name_refused _ _ _ _ _ c.self.invariant c.args.name.now c.args.index long)

pub returns-in_err-put_export-2-clause-size : goal.returns-in_err-put_export-2-clause-size
returns-in_err-put_export-2-clause-size c is =
    let long = c.in_err-put_export-2.ensures.size (size_passed c.from_residual-in_err-put_export-2.result c.in_err-put_export-2.field-0.0 c.from_residual-in_err-put_export-2.ensures.1 is) in
    rw (← c.self.view_is) (name_refused _ _ _ _ _ c.self.invariant c.args.name.now c.args.index long)

pub invariant_of-self-then-self : goal.invariant_of-self-then-self
invariant_of-self-then-self c = rw (c.in_ok-put_export.ensures.ok, c.in_ok-count.ensures.ok, c.in_ok-types.ensures.ok)
    (join_export_at _ _ _ _ _ (plain_export c.args.name.now c.args.index) c.if-self.true c.self.invariant c.if-self-gt0.true c.in_ok-put_export.ensures.spelled).builds

pub returns-in_ok-put_export-clause-ok : goal.returns-in_ok-put_export-clause-ok
returns-in_ok-put_export-clause-ok c = rw (c.in_ok-put_export.ensures.ok, c.in_ok-count.ensures.ok, ← c.self.view_is)
    (join_export_at _ _ _ _ _ (plain_export c.args.name.now c.args.index) c.if-self.true c.self.invariant c.if-self-gt0.true c.in_ok-put_export.ensures.spelled).shows

pub returns-in_err-close-clause-size : goal.returns-in_err-close-clause-size
returns-in_err-close-clause-size c is =
    let apart = export_apart _ _ _ _ _ c.self.invariant (plain_export c.args.name.now c.args.index)
    (λ some. elim c.else-self-gt0.branch [ else-self-gt0-via-then-self-gt0+else-self w ↦ w.if-self.false | else-self-gt0-via-else-self-gt0 w ↦ absurd (omega arith) ]) in
    let long = rw c.deref.ensures.value at (c.in_err-close.ensures.size (size_passed c.from_residual-in_err-close.result c.in_err-close.field-0.0 c.from_residual-in_err-close.ensures.1 is)) in
    rw (← c.self.view_is) (start_refused _ _ _ _ _ c.self.invariant (Part.top_export (plain_export c.args.name.now c.args.index)) apart long)

pub invariant_of-self-else-self-gt0 : goal.invariant_of-self-else-self-gt0
invariant_of-self-else-self-gt0 c =
    let apart = export_apart _ _ _ _ _ c.self.invariant (plain_export c.args.name.now c.args.index)
    (λ some. elim c.else-self-gt0.branch [ else-self-gt0-via-then-self-gt0+else-self w ↦ w.if-self.false | else-self-gt0-via-else-self-gt0 w ↦ absurd (omega arith) ]) in
    let text = rw c.new-items.ensures.items at c.in_ok-put_export-2.ensures.ok in
    rw (c.in_ok-close.ensures.ok, c.deref.ensures.value, c.in_ok-types.ensures.ok)
    (start_export _ _ _ _ _ c.self.invariant c.in_ok-close.ensures.few (rw c.deref.ensures.value at c.in_ok-close.ensures.small) (plain_export c.args.name.now c.args.index)
    c.put_export-else-self-gt0.new.out.items apart text c.in_ok-put_export-2.ensures.spelled).builds

pub returns-in_ok-close-clause-ok : goal.returns-in_ok-close-clause-ok
returns-in_ok-close-clause-ok c =
    let apart = export_apart _ _ _ _ _ c.self.invariant (plain_export c.args.name.now c.args.index)
    (λ some. elim c.else-self-gt0.branch [ else-self-gt0-via-then-self-gt0+else-self w ↦ w.if-self.false | else-self-gt0-via-else-self-gt0 w ↦ absurd (omega arith) ]) in
    let text = rw c.new-items.ensures.items at c.in_ok-put_export-2.ensures.ok in
    rw (c.in_ok-close.ensures.ok, c.deref.ensures.value, ← c.self.view_is)
    (start_export _ _ _ _ _ c.self.invariant c.in_ok-close.ensures.few (rw c.deref.ensures.value at c.in_ok-close.ensures.small) (plain_export c.args.name.now c.args.index)
    c.put_export-else-self-gt0.new.out.items apart text c.in_ok-put_export-2.ensures.spelled).shows
