use Rattle.std.proofs.Common.{inl}
use Rattle.encode_kinds.proofs.encode.maybe_import_type.Goals as goal

pub returns-in-None-clause-imports : goal.returns-in-None-clause-imports
returns-in-None-clause-imports g c = record { each = λ n h. inl h }
