use Rattle.std.proofs.Common.{refl}
use Rattle.encode_types.proofs.maps.TypeEncodingMaps.remember_id.Goals as goal

pub insert-requires : goal.insert-requires
insert-requires c = λ i k. c.requires (i, k)

pub returns-clause-ok : goal.returns-clause-ok
returns-clause-ok c = record { rest = record { numbers = refl; kinds = refl; keys = refl; names_ = refl; unit_future_ = refl; unit_stream_ = refl }; more = c.in_ok-insert.ensures.ok }

pub returns-in_err-insert-clause-succeeds : goal.returns-in_err-insert-clause-succeeds
returns-in_err-insert-clause-succeeds c = λ room. absurd (let done = c.in_err-insert.ensures.succeeds room in let z : ⊥ = cc in z)
