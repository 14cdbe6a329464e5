use Rattle.std.proofs.Common.{refl}
use Rattle.encode_types.proofs.{Defining.params-stand, Aliasing.met-none, Aliasing.imports-none}
use Rattle.encode_types.proofs.Stopping.{part-same, part-whole, same-when}
use Rattle.base_lemmas.proofs.Options.{at_err}
use Rattle.encode_kinds.proofs.encode.encode_params.Goals as goal

pub params_of-requires : goal.params_of-requires
params_of-requires g c = λ _. ((refl, tt), (rw (c.deref.ensures.value, c.in_ok-types.ensures) at c.in_ok-define_parts.ensures.ready))

pub returns-clause-ok : goal.returns-clause-ok
returns-clause-ok g c = rw c.params_of.ensures.same (params-stand _ _ (g.E.ValtypeEncoder.view c.define_parts.new.enc).stands _ _ c.define_parts.ensures.leaves.agree c.in_ok-values.ensures.value)

pub returns-clause-learns : goal.returns-clause-learns
returns-clause-learns g c = rw c.params_of.ensures.same (rw (c.deref.ensures.value, c.in_ok-types.ensures) at c.in_ok-define_parts.ensures.learns)

pub returns-clause-knows : goal.returns-clause-knows
returns-clause-knows g c = rw c.params_of.ensures.same (rw (c.deref.ensures.value, c.in_ok-types.ensures) at c.in_ok-define_parts.ensures.ready)

pub returns-clause-aliases : goal.returns-clause-aliases
returns-clause-aliases g c = rw c.params_of.ensures.same (rw (c.deref.ensures.value, c.in_ok-types.ensures) at c.define_parts.ensures.aliases)

pub returns-in_err-values-clause-aliases : goal.returns-in_err-values-clause-aliases
returns-in_err-values-clause-aliases g c = rw c.params_of.ensures.same (rw (c.deref.ensures.value, c.in_ok-types.ensures) at c.define_parts.ensures.aliases)

pub returns-in_err-define_parts-clause-aliases : goal.returns-in_err-define_parts-clause-aliases
returns-in_err-define_parts-clause-aliases g c = rw (c.deref.ensures.value, c.in_ok-types.ensures) at c.define_parts.ensures.aliases

pub returns-in_err-types-clause-aliases : goal.returns-in_err-types-clause-aliases
returns-in_err-types-clause-aliases g c = met-none refl

pub returns-clause-imports : goal.returns-clause-imports
returns-clause-imports g c = rw c.params_of.ensures.same (rw (c.deref.ensures.value, c.in_ok-types.ensures) at c.define_parts.ensures.imports)

pub returns-in_err-values-clause-imports : goal.returns-in_err-values-clause-imports
returns-in_err-values-clause-imports g c = rw c.params_of.ensures.same (rw (c.deref.ensures.value, c.in_ok-types.ensures) at c.define_parts.ensures.imports)

pub returns-in_err-define_parts-clause-imports : goal.returns-in_err-define_parts-clause-imports
returns-in_err-define_parts-clause-imports g c = rw (c.deref.ensures.value, c.in_ok-types.ensures) at c.define_parts.ensures.imports

pub returns-in_err-types-clause-imports : goal.returns-in_err-types-clause-imports
returns-in_err-types-clause-imports g c = imports-none refl

pub returns-in_err-types-clause-stopped : goal.returns-in_err-types-clause-stopped
returns-in_err-types-clause-stopped g c = at_err _ (part-same _ _ _ _ _ _ (same-when refl) refl)

pub returns-in_err-values-clause-stopped : goal.returns-in_err-values-clause-stopped
returns-in_err-values-clause-stopped g c = rw c.params_of.ensures.same (at_err _ (part-whole c.in_ok-define_parts.ensures.counts))
