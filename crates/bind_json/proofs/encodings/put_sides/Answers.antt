use Rattle.std.proofs.Common.{◌≡◌, ◌∙◌, ap, refl, subst, sym, [], ◌++◌, Option, Some, None, OnOk}
use Rattle.std.specs.{Prelude.codes, Option.option_copied, Option.option_map_or}
use Rattle.wit_model.specs.declared.model.World.{World}
use Rattle.wit_model.specs.Lookup.{world_at}
use Rattle.wit_json.specs.Adds.{Adds}
use Rattle.wit_json.proofs.Adding.{adds2, then_ok}
use Rattle.bind_json.specs.Encodings.{side_tokens}
use Rattle.bind_json.proofs.encodings.put_sides.Goals as goal

pub returns-in_ok-put_side-in-Some-clause-ok : goal.returns-in_ok-put_side-in-Some-clause-ok
returns-in_ok-put_side-in-Some-clause-ok c =
    let b = c.args.bound.now in
    let there : world_at b.resolve b.world.0 ≡ Some c.in-Some.world.now = sym c.world_at.ensures ∙ ap option_copied c.in-Some.is in
    subst (λ (o : Option World). OnOk c.put_side-in-Some.result (Adds c.args.w.now c.put_side-in-Some.new.w
    (side_tokens b.resolve b.metadata.import_encodings (codes "imports") (option_map_or (λ (w : World). w.imports.entries) o [])
    ++ side_tokens b.resolve b.metadata.export_encodings (codes "exports") (option_map_or (λ (w : World). w.exports.entries) o [])))) (sym there)
    (then_ok _ _ _ c.in_ok-put_side-in-Some.ensures.ok c.put_side-in-Some.ensures.ok refl)

pub returns-in_ok-put_no_functions-in-None-2-clause-ok : goal.returns-in_ok-put_no_functions-in-None-2-clause-ok
returns-in_ok-put_no_functions-in-None-2-clause-ok c =
    let b = c.args.bound.now in
    let none : world_at b.resolve b.world.0 ≡ None = sym c.world_at.ensures ∙ ap option_copied c.in-None.is in
    subst (λ (o : Option World). Adds c.args.w.now c.put_no_functions-in-None.new.w
    (side_tokens b.resolve b.metadata.import_encodings (codes "imports") (option_map_or (λ (w : World). w.imports.entries) o [])
    ++ side_tokens b.resolve b.metadata.export_encodings (codes "exports") (option_map_or (λ (w : World). w.exports.entries) o []))) (sym none)
    (adds2 c.in_ok-put_no_functions-in-None.ensures c.in_ok-put_no_functions-in-None-2.ensures refl)
