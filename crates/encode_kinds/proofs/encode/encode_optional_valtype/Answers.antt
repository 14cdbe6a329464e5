use Rattle.encode_types.proofs.{Learning.met-nothing, Learning.ready-none, Learning.ready-single, Rooms.holds-none, Aliasing.met-none, Aliasing.imports-none, Defining.counts-none, Writing.writes-nothing}
use Rattle.std.proofs.Common.{refl}
use Rattle.encode_kinds.proofs.encode.encode_optional_valtype.Goals as goal

pub returns-in_ok-value-in-Some-clause-learns : goal.returns-in_ok-value-in-Some-clause-learns
returns-in_ok-value-in-Some-clause-learns g c = rw c.in-Some.is c.in_ok-value-in-Some.ensures.learns

pub returns-in-None-clause-counts : goal.returns-in-None-clause-counts
returns-in-None-clause-counts g c = counts-none _ _ _ _

pub returns-in-None-clause-learns : goal.returns-in-None-clause-learns
returns-in-None-clause-learns g c = met-nothing c.args.resolve.now (g.E.ValtypeEncoder.view c.args.enc.now).scope.own_interface _ (g.E.ValtypeEncoder.view c.args.enc.now).maps

pub returns-in_ok-value-in-Some-clause-knows : goal.returns-in_ok-value-in-Some-clause-knows
returns-in_ok-value-in-Some-clause-knows g c = rw c.in-Some.is (ready-single (g.E.ValtypeEncoder.view c.encode_valtype.new.enc).maps c.in-Some.ty.now c.in_ok-value-in-Some.ensures.knows)

pub returns-in-None-clause-knows : goal.returns-in-None-clause-knows
returns-in-None-clause-knows g c = rw c.in-None.is (ready-none (g.E.ValtypeEncoder.view c.args.enc.now).maps)

pub returns-in-None-clause-written : goal.returns-in-None-clause-written
returns-in-None-clause-written g c = writes-nothing c.args.resolve.now 0 (g.E.ValtypeEncoder.view c.args.enc.now)

pub returns-in-None-clause-held : goal.returns-in-None-clause-held
returns-in-None-clause-held g c = holds-none _ _ _ _

pub returns-in_ok-value-in-Some-clause-aliases : goal.returns-in_ok-value-in-Some-clause-aliases
returns-in_ok-value-in-Some-clause-aliases g c = rw c.in-Some.is c.encode_valtype.ensures.aliases

pub returns-in_err-value-in-Some-clause-aliases : goal.returns-in_err-value-in-Some-clause-aliases
returns-in_err-value-in-Some-clause-aliases g c = rw c.in-Some.is c.encode_valtype.ensures.aliases

pub returns-in-None-clause-aliases : goal.returns-in-None-clause-aliases
returns-in-None-clause-aliases g c = met-none refl

pub returns-in_ok-value-in-Some-clause-imports : goal.returns-in_ok-value-in-Some-clause-imports
returns-in_ok-value-in-Some-clause-imports g c = rw c.in-Some.is c.encode_valtype.ensures.imports

pub returns-in_err-value-in-Some-clause-imports : goal.returns-in_err-value-in-Some-clause-imports
returns-in_err-value-in-Some-clause-imports g c = rw c.in-Some.is c.encode_valtype.ensures.imports

pub returns-in-None-clause-imports : goal.returns-in-None-clause-imports
returns-in-None-clause-imports g c = imports-none refl
