use Rattle.std.proofs.Common.{refl}
use Rattle.encode_types.proofs.{Written.ready-one, Defining.value-stands}
use Rattle.encode_kinds.proofs.encode.encode_valtype.Goals as goal

pub value_of-requires : goal.value_of-requires
value_of-requires g c = λ _. ((refl, tt), ready-one (g.E.ValtypeEncoder.view c.define_parts.new.enc).maps c.args.ty.now c.in_ok-define_parts.ensures.ready)

pub returns-clause-ok : goal.returns-clause-ok
returns-clause-ok g c = rw c.value_of.ensures.same (value-stands c.args.resolve.now (g.E.ValtypeEncoder.view c.define_parts.new.enc).maps (g.E.ValtypeEncoder.view c.define_parts.new.enc).stands _
    c.args.ty.now c.define_parts.ensures.leaves.agree c.value_of.ensures.value)

pub returns-clause-learns : goal.returns-clause-learns
returns-clause-learns g c = rw c.value_of.ensures.same c.in_ok-define_parts.ensures.learns

pub returns-clause-knows : goal.returns-clause-knows
returns-clause-knows g c = rw c.value_of.ensures.same (ready-one (g.E.ValtypeEncoder.view c.define_parts.new.enc).maps c.args.ty.now c.in_ok-define_parts.ensures.ready)

pub returns-clause-aliases : goal.returns-clause-aliases
returns-clause-aliases g c = rw c.value_of.ensures.same c.define_parts.ensures.aliases

pub returns-clause-imports : goal.returns-clause-imports
returns-clause-imports g c = rw c.value_of.ensures.same c.define_parts.ensures.imports
