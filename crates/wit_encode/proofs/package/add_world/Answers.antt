use Rattle.std.proofs.Common.{◌≡◌, ◌++◌, ◌∷◌, [], subst, List, length, false, ◌&&◌, inl, rules}
use Rattle.std.proofs.lemmas.Bool.{lt-ltb}
use Rattle.wit_model.specs.{Text.Text, Lookup.identity_of}
use Rattle.wit_model.proofs.OnePath.{found-in}
use Rattle.comp_bytes.specs.{Raw.Declarations, Raw.TopType, Parts.Part, Parts.fits_component, Parts.top_slots}
use Rattle.encode_exports.specs.ExportedParts.{exporting, one_exported}
use Rattle.wit_encode.proofs.{Packages.on-ok, Packages.world-added, PackageRoom.world-long}
use Rattle.wit_encode.proofs.package.add_world.Goals as goal

pub returns : goal.returns
returns c =
    let r = c.args.resolve.now in
    let found = found-in r.worlds.items c.args.world.0 (lt-ltb c.args.world.0 (length r.worlds.items) c.requires.in_range) in
    record {
      adds = on-ok c.export_component_type.result c.export_component_type.ensures.more (λ more.
          world-added r c.args.canonical_names (identity_of c.args.package.now) (c.args.name.now, c.args.world) found.0 c.in_ok-component.component c.args.builder.now
          c.export_component_type.new.builder found.1 (c.in_ok-component.ensures.wraps found.0 found.1)
          (subst (λ (label : Text). (types : List (Text × Declarations)) → c.args.builder.now ≡ exporting types
          → c.export_component_type.new.builder ≡ exporting (types ++ (label, c.in_ok-component.component) ∷ [])) c.deref.ensures more));
      differ = search rules;
      size = λ h.
          let old = c.args.builder.now in
          let declared = c.in_ok-component.component in
          world-long r c.args.canonical_names (identity_of c.args.package.now) (c.args.name.now, c.args.world) found.0 declared old found.1 (c.in_ok-component.ensures.wraps found.0 found.1)
          (subst (λ (label : Text). (fits_component (old ++ Part.top_type (TopType.component declared) ∷ []) && fits_component (old ++ one_exported (top_slots old) (label, declared))) ≡ false)
          c.deref.ensures (c.export_component_type.ensures.size h));
      refuses = search rules;
    }

pub returns-in_err-component-clause-size : goal.returns-in_err-component-clause-size
returns-in_err-component-clause-size c = λ h. inl (c.wrapped_world.ensures.size (search rules))
