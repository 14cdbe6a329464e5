use Rattle.std.proofs.Common.{◌≡◌, Some}
use Rattle.comp_meaning.specs.ByLevels.{top_export}
use Rattle.read_follow.specs.Pieces.{raw_export}
use Rattle.read_follow.proofs.FollowingLaws.{on_ok}
use Rattle.read_parts.specs.Tops.{top_of, AreTops, IsExportAdded}
use Rattle.read_parts.proofs.TopLaws.{export_absent, export_added, not_exported, tops_with_export}
use Rattle.read_parts.proofs.tops.add_export.Goals as goal

pub push_export-requires : goal.push_export-requires
push_export-requires c = not_exported c.args.tops.now c.requires c.args.export c.in-Ok.number c.in-Ok.ensures

pub returns-in-Ok-clause-tops : goal.returns-in-Ok-clause-tops
returns-in-Ok-clause-tops c = on_ok (IsExportAdded c.args.tops.now c.push_export.new.tops c.args.export.name.text c.in-Ok.number) (AreTops c.push_export.new.tops) c.push_export.result
    (λ added. tops_with_export c.args.tops.now c.requires c.args.export c.push_export.new.tops c.in-Ok.number added) c.push_export.ensures.added

pub returns-in-Ok-clause-added : goal.returns-in-Ok-clause-added
returns-in-Ok-clause-added c = on_ok (IsExportAdded c.args.tops.now c.push_export.new.tops c.args.export.name.text c.in-Ok.number)
    (top_export (top_of c.args.tops.now) (raw_export c.args.export) ≡ Some (top_of c.push_export.new.tops)) c.push_export.result
    (λ added. export_added c.args.tops.now c.requires c.args.export c.push_export.new.tops c.in-Ok.number added c.in-Ok.ensures) c.push_export.ensures.added

pub returns-in-Err-clause-absent : goal.returns-in-Err-clause-absent
returns-in-Err-clause-absent c = export_absent c.args.tops.now c.requires c.args.export c.in-Err.refusal c.in-Err.ensures
