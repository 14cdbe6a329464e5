use Rattle.std.proofs.Common.{◌≡◌, refl, subst, ℕ, ◌∷◌}
use Rattle.bind_sections.specs.SectionBindings.{RefusesSection}
use Rattle.bind_modules.proofs.SectionLaws.{is-something, other-begins, unread-section}
use Rattle.bind_modules.proofs.sections.decode_section.Goals as goal
use Rattle.base_lemmas.proofs.Lists.{is-nothing}
use Rattle.encode_names.proofs.Paths.{passed as passed_on}

pub returns-in_default-clause-refuses : goal.returns-in_default-clause-refuses
returns-in_default-clause-refuses c = RefusesSection.empty (is-nothing c.args.section.now c.in_default.ensures.cases) refl

pub returns-then-first-eq3-clause-refuses : goal.returns-then-first-eq3-clause-refuses
returns-then-first-eq3-clause-refuses c =
    RefusesSection.historical c.in-Some.field-0-1.now (subst (λ (n : ℕ). c.args.section.now ≡ n ∷ c.in-Some.field-0-1.now) c.if-first-eq3.true c.in-Some.ensures.cases.0) refl

pub returns-in_err-resolve-clause-refuses : goal.returns-in_err-resolve-clause-refuses
returns-in_err-resolve-clause-refuses c = passed_on (RefusesSection c.args.section.now) c.in_err-resolve.field-0.0 c.from_residual.result
    (unread-section c.args.section.now c.in_err-resolve.field-0.0 (is-something c.args.section.now c.in-Some.first.now c.in-Some.field-0-1.now c.in-Some.ensures.cases.0)
    (other-begins c.args.section.now c.in-Some.first.now c.in-Some.field-0-1.now c.in-Some.ensures.cases.0 c.if-first-eq3.false) c.in_err-resolve.ensures.refuses) c.from_residual.ensures.1

pub returns-in_err-encoding-clause-refuses : goal.returns-in_err-encoding-clause-refuses
returns-in_err-encoding-clause-refuses c = passed_on (RefusesSection c.args.section.now) c.in_err-encoding.field-0.0 c.from_residual-in_err-encoding.result
    (RefusesSection.unsaid c.in_ok-resolve.ensures.decoded.meaning c.in_ok-resolve.ensures.decoded.read c.in_err-encoding.ensures) c.from_residual-in_err-encoding.ensures.1
