use Rattle.std.proofs.Common.{refl, sym, subst, Ok}
use Rattle.wit_metadata.specs.Modules.{TellsCarrying}
use Rattle.wit_metadata.proofs.ModuleLaws.{carried-read, nothing-read, other-read, refused-at, behind-preamble}
use Rattle.wit_metadata.proofs.modules.stripped.Goals as goal
use Rattle.base_lemmas.proofs.Lists.{some_left as some-left}

pub loop-rest-init : goal.loop-rest-init
loop-rest-init c = nothing-read c.args.bytes.now c.split_at.result.1.now c.extend_from_slice.new.self.items
    (behind-preamble c.args.bytes.now c.split_at.result.1.now (sym c.if-not-starts_with.ensures.value) c.split_at.ensures.back)
    (rw c.in_ok-extend_from_slice.ensures.items (rw c.new-kept.ensures.items refl))

pub loop-rest-preserved-then-carries : goal.loop-rest-preserved-then-carries
loop-rest-preserved-then-carries c =
    let told = subst (λ b. TellsCarrying (c.in-Ok.section.id, c.in-Ok.section.contents.now) (Ok b)) c.if-carries.true c.in-Ok.ensures.1 in
    carried-read c.args.bytes.now c.loop-rest.rest.now c.loop-rest.kept.items c.loop-rest.is_bound c.loop-rest.invariant (c.in-Ok.section.id, c.in-Ok.section.contents.now) c.in-Ok.behind.now
    c.in-Ok.ensures.0 told.1

pub loop-rest-preserved : goal.loop-rest-preserved
loop-rest-preserved c =
    let told = subst (λ b. TellsCarrying (c.in-Ok.section.id, c.in-Ok.section.contents.now) (Ok b)) c.if-carries.false c.in-Ok.ensures.1 in
    other-read c.args.bytes.now c.loop-rest.rest.now c.loop-rest.kept.items c.loop-rest.is_bound c.loop-rest.invariant (c.in-Ok.section.id, c.in-Ok.section.contents.now) c.in-Ok.behind.now
    c.in-Ok.ensures.0 told.1
    c.put_section.new.out.items c.in_ok-put_section-in-Ok.ensures.ok

pub returns-in-Err-clause-refuses : goal.returns-in-Err-clause-refuses
returns-in-Err-clause-refuses c = rw c.bad_module.ensures (refused-at c.args.bytes.now c.loop-rest.rest.now c.loop-rest.kept.items c.loop-rest.is_bound c.loop-rest.invariant
    (some-left c.loop-rest.rest.now c.loop-rest-test.ensures) c.in-Err.ensures)
