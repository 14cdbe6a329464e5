use Rattle.std.proofs.Common.{◌≡◌, ℕ, ◌≤◌, ◌+◌, Option, None, cond, sym, ap, ◌∙◌, arith}
use Rattle.std.specs.Prelude.{is_none}
use Rattle.encode_types.specs.Maps.{by_unit_stream}
use Rattle.encode_kinds.proofs.encode.encode_unit_stream.Goals as goal

pub returns-in-Some-clause-ok : goal.returns-in-Some-clause-ok
returns-in-Some-clause-ok g c = rw c.unit_stream.ensures.same (c.requires.agree.says by_unit_stream c.in-Some.index (sym c.unit_stream.ensures.value ∙ c.in-Some.is))

pub returns-clause-held : goal.returns-clause-held
returns-clause-held g c =
    let none : (g.E.ValtypeEncoder.view c.args.enc.now).maps.unit_stream ≡ None = sym c.unit_stream.ensures.value ∙ c.in_default.is in
    let one : ◌≡◌ {A = ℕ} (cond (is_none (g.E.ValtypeEncoder.view c.args.enc.now).maps.unit_stream) 1 0) 1 = ap (λ (o : Option ℕ). cond {A = ℕ} (is_none o) 1 0) none in
    let held : (g.E.ValtypeEncoder.view c.define_unit_stream.new.enc).held ≤ (g.E.ValtypeEncoder.view c.args.enc.now).held + 1 = (rw c.unit_stream.ensures.same at c.define_unit_stream.ensures.held) in
    omega (arith, one, held)
