use Rattle.std.proofs.Common.{◌≡◌, ℕ, ◌≤◌, ◌+◌, Option, None, cond, sym, ap, ◌∙◌, arith}
use Rattle.std.specs.Prelude.{is_none}
use Rattle.encode_types.specs.Maps.{by_unit_future}
use Rattle.encode_kinds.proofs.encode.encode_unit_future.Goals as goal

pub returns-in-Some-clause-ok : goal.returns-in-Some-clause-ok
returns-in-Some-clause-ok g c = rw c.unit_future.ensures.same (c.requires.agree.says by_unit_future c.in-Some.index (sym c.unit_future.ensures.value ∙ c.in-Some.is))

pub returns-clause-held : goal.returns-clause-held
returns-clause-held g c =
    let none : (g.E.ValtypeEncoder.view c.args.enc.now).maps.unit_future ≡ None = sym c.unit_future.ensures.value ∙ c.in_default.is in
    let one : ◌≡◌ {A = ℕ} (cond (is_none (g.E.ValtypeEncoder.view c.args.enc.now).maps.unit_future) 1 0) 1 = ap (λ (o : Option ℕ). cond {A = ℕ} (is_none o) 1 0) none in
    let held : (g.E.ValtypeEncoder.view c.define_unit_future.new.enc).held ≤ (g.E.ValtypeEncoder.view c.args.enc.now).held + 1 = (rw c.unit_future.ensures.same at c.define_unit_future.ensures.held) in
    omega (arith, one, held)
