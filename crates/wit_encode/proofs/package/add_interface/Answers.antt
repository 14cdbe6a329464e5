use Rattle.std.proofs.Common.{◌≡◌, ◌++◌, ◌∷◌, [], subst, List, false, ◌&&◌, inl, rules}
use Rattle.wit_model.specs.Text.{Text}
use Rattle.comp_bytes.specs.{Raw.Declarations, Raw.TopType, Parts.Part, Parts.fits_component, Parts.top_slots}
use Rattle.encode_exports.specs.ExportedParts.{exporting, one_exported}
use Rattle.wit_encode.proofs.{Packages.type-added, Packages.on-ok, PackageRoom.interface-long}
use Rattle.wit_encode.proofs.package.add_interface.Goals as goal

pub returns-clause-adds : goal.returns-clause-adds
returns-clause-adds c = on-ok c.export_component_type.result c.export_component_type.ensures.more
    (λ more. type-added c.args.resolve.now c.args.canonical_names (c.args.name.now, c.args.interface) c.in_ok-component.component c.args.builder.now c.export_component_type.new.builder
    c.in_ok-component.ensures.shows c.in_ok-component.ensures.names c.in_ok-component.ensures.once c.in_ok-component.ensures.light
    (subst (λ (label : Text). (types : List (Text × Declarations)) → c.args.builder.now ≡ exporting types
    → c.export_component_type.new.builder ≡ exporting (types ++ (label, c.in_ok-component.component) ∷ [])) c.deref.ensures more))

pub returns-in_err-component-clause-size : goal.returns-in_err-component-clause-size
returns-in_err-component-clause-size c = λ h. inl (c.interface_type.ensures.size (search rules))

pub returns-clause-size : goal.returns-clause-size
returns-clause-size c = λ h.
    let old = c.args.builder.now in
    let declared = c.in_ok-component.component in
    interface-long c.args.resolve.now c.args.canonical_names (c.args.name.now, c.args.interface) declared old c.in_ok-component.ensures.shows c.in_ok-component.ensures.names
    c.in_ok-component.ensures.once c.in_ok-component.ensures.light
    (subst (λ (label : Text). (fits_component (old ++ Part.top_type (TopType.component declared) ∷ []) && fits_component (old ++ one_exported (top_slots old) (label, declared))) ≡ false)
    c.deref.ensures (c.export_component_type.ensures.size h))
