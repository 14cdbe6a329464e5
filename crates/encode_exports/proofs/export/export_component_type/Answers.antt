use Rattle.std.proofs.Common.{rules, ◌≡◌, ap, ◌∙◌, ◌++◌, ◌∷◌, [], append_assoc}
use Rattle.wit_model.specs.Text.{Text}
use Rattle.comp_bytes.specs.{Raw.Declarations, Raw.TopType, Parts.Part, Parts.plain_export, Parts.top_slots}
use Rattle.encode_exports.specs.ExportedParts.{one_exported}
use Rattle.encode_exports.proofs.Exports.{one_more}
use Rattle.encode_exports.proofs.export.export_component_type.Goals as goal

pub returns-clause-more : goal.returns-clause-more
returns-clause-more c =
    let x : Text × Declarations = (c.args.label.now, c.args.component.now) in
    let old = c.args.builder.now in
    let typed = Part.top_type (TopType.component x.1) in
    let index : c.in_ok-index.index ≡ top_slots old = search rules in
    let first : c.type_component.new.self ≡ old ++ typed ∷ [] = search rules in
    let second : c.export.new.self ≡ c.type_component.new.self ++ Part.top_export (plain_export x.0 c.in_ok-index.index) ∷ [] = search rules in
    let is : c.export.new.self ≡ old ++ one_exported (top_slots old) x = second ∙ (ap (λ ps. ps ++ Part.top_export (plain_export x.0 c.in_ok-index.index) ∷ []) first
    ∙ (append_assoc old (typed ∷ []) (Part.top_export (plain_export x.0 c.in_ok-index.index) ∷ []) ∙ ap (λ k. old ++ one_exported k x) index)) in
    λ types begins. one_more old c.export.new.self types x is begins
