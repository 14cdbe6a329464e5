use Rattle.std.proofs.Common.{subst, List, map, IfErr, IfOk}
use Rattle.read_follow.specs.{Found.Refuses, Pieces.raw_piece}
use Rattle.read_parts.specs.declared.exported.ExportedPart.{ExportedPart}
use Rattle.read_parts.specs.{Exported.raw_exported, Followed.scopes_in, Input.ArePartsFollowed}
use Rattle.read_parts.proofs.InputLaws.{input_absent, input_followed, parts_absent}
use Rattle.read_parts.proofs.following.follow_parts.Goals as goal

pub returns-in-Ok-clause-followed : goal.returns-in-Ok-clause-followed
returns-in-Ok-clause-followed c = input_followed (map raw_piece c.args.pieces.now) (map raw_exported c.in-Ok.parts.items) c.in-Ok.ensures.found c.follow_all.result
    (subst (λ (xs : List ExportedPart). IfOk c.follow_all.result (ArePartsFollowed (map raw_exported xs))) c.deref.ensures.value c.follow_all.ensures.followed)

pub returns-in-Ok-clause-absent : goal.returns-in-Ok-clause-absent
returns-in-Ok-clause-absent c = parts_absent (map raw_piece c.args.pieces.now) (map raw_exported c.in-Ok.parts.items) c.in-Ok.ensures.found c.follow_all.result
    (subst (λ (xs : List ExportedPart). IfErr c.follow_all.result (λ e. Refuses e (scopes_in (map raw_exported xs)))) c.deref.ensures.value c.follow_all.ensures.absent)

pub returns-in-Err-clause-absent : goal.returns-in-Err-clause-absent
returns-in-Err-clause-absent c = input_absent (map raw_piece c.args.pieces.now) c.in-Err.refusal c.in-Err.ensures.found
