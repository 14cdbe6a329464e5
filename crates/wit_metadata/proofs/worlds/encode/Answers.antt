use Rattle.std.proofs.Common.{◌≡◌, ◌&&◌, false, subst, refl, List, [], ◌∷◌, ◌++◌, Some, rules}
use Rattle.std.proofs.lemmas.{Option.slice_get_read, Result.IfOk-weaker}
use Rattle.wit_model.specs.{Lookup.identity_of, Lookup.world_at, Text.Text, Text.text_of}
use Rattle.wit_model.specs.declared.model.PackageName.{PackageName}
use Rattle.comp_bytes.specs.{Parts.Part, Parts.fits_component, Parts.sections_of_parts, Parts.top_slots, Spelling.IsComponent, Writing.component_bytes}
use Rattle.comp_bytes.specs.Raw.{TopType}
use Rattle.encode_exports.specs.ExportedParts.{one_exported}
use Rattle.wit_encode.specs.PackageRoom.{IsHeavyWorld}
use Rattle.wit_metadata.specs.Carried.{CarriesEncoding, CarriesWorld, MeansWorld, encoding_part}
use Rattle.wit_metadata.proofs.Carrying.{built, encoding-carried, said, world-carried, world-meant, wrapped-at}
use Rattle.wit_metadata.proofs.{Homes.world-home, Weighing.heavy-world, Weighing.long-export, Weighing.long-whole, Weighing.says-fits}
use Rattle.base_lemmas.proofs.Options.{both-of}
use Rattle.wit_metadata.proofs.worlds.encode.Goals as goal

pub returns-in_err-component-clause-size : goal.returns-in_err-component-clause-size
returns-in_err-component-clause-size c = λ h.
    let r = c.args.resolve.now in
    let n = c.args.world.0 in
    let def = c.index-def.result.now in
    let at : world_at r n ≡ Some def = slice_get_read _ _ _ _ refl c.requires.in_range c.index-def.ensures in
    let home = world-home r c.requires.valid n def at in
    heavy-world r n def at home (subst (λ (p : PackageName). IsHeavyWorld r (identity_of p) n) (c.package_name-package.ensures def home at) (c.wrapped_world.ensures.size (search rules)))

pub returns-in_err-custom_section-clause-size : goal.returns-in_err-custom_section-clause-size
returns-in_err-custom_section-clause-size c = λ h. says-fits c.args.encoding _
    (subst (λ (ps : List Part). fits_component ps ≡ false) (said c.new-builder.result _ c.args.encoding c.encoding_byte.result c.new-builder.ensures refl c.encoding_byte.ensures)
    (c.custom_section.ensures.size (search rules)))

pub returns-in_err-export_component_type-clause-size : goal.returns-in_err-export_component_type-clause-size
returns-in_err-export_component_type-clause-size c = λ h.
    let r = c.args.resolve.now in
    let n = c.args.world.0 in
    let e = c.args.encoding in
    let def = c.index-def.result.now in
    let ds = c.in_ok-component.component in
    let at : world_at r n ≡ Some def = slice_get_read _ _ _ _ refl c.requires.in_range c.index-def.ensures in
    let is = wrapped-at r c.requires.valid c.args.canonical_names n def ds c.package_name-package.result.now at c.package_name-package.ensures c.in_ok-component.ensures.wraps in
    let front = said c.new-builder.result c.custom_section.new.self e c.encoding_byte.result c.new-builder.ensures c.in_ok-custom_section.ensures.ok c.encoding_byte.ensures in
    let lacks = c.export_component_type.ensures.size (search rules) in
    let behind = subst (λ (ps : List Part). (fits_component (ps ++ Part.top_type (TopType.component ds) ∷ []) && fits_component (ps ++ one_exported (top_slots ps) (c.deref.result.now, ds))) ≡ false)
    front lacks in
    long-export r n def at is.home e ds c.args.canonical_names is.wraps
    (subst (λ (t : Text). (fits_component (encoding_part e ∷ Part.top_type (TopType.component ds) ∷ []) && fits_component (encoding_part e ∷ one_exported 0 (t, ds))) ≡ false) c.deref.ensures behind)

pub returns-clause-means : goal.returns-clause-means
returns-clause-means c =
    let r = c.args.resolve.now in
    let n = c.args.world.0 in
    let e = c.args.encoding in
    let def = c.index-def.result.now in
    let ds = c.in_ok-component.component in
    let at : world_at r n ≡ Some def = slice_get_read _ _ _ _ refl c.requires.in_range c.index-def.ensures in
    let is = wrapped-at r c.requires.valid c.args.canonical_names n def ds c.package_name-package.result.now at c.package_name-package.ensures c.in_ok-component.ensures.wraps in
    let front = said c.new-builder.result c.custom_section.new.self e c.encoding_byte.result c.new-builder.ensures c.in_ok-custom_section.ensures.ok c.encoding_byte.ensures in
    let whole = built c.custom_section.new.self c.export_component_type.new.builder e c.deref.result.now (text_of def.name) ds front c.deref.ensures c.in_ok-export_component_type.ensures.ok in
    IfOk-weaker c.finish.result (λ bytes. IsComponent (sections_of_parts c.export_component_type.new.builder) bytes.items) (λ bytes. MeansWorld r n bytes.items)
    (λ bytes spelled. world-meant r c.requires.valid n def at is.home e ds c.args.canonical_names is.wraps bytes.items
    (subst (λ (ps : List Part). IsComponent (sections_of_parts ps) bytes.items) whole spelled)) c.finish.ensures.spelled

pub returns-clause-encoding : goal.returns-clause-encoding
returns-clause-encoding c =
    let r = c.args.resolve.now in
    let n = c.args.world.0 in
    let e = c.args.encoding in
    let def = c.index-def.result.now in
    let ds = c.in_ok-component.component in
    let at : world_at r n ≡ Some def = slice_get_read _ _ _ _ refl c.requires.in_range c.index-def.ensures in
    let is = wrapped-at r c.requires.valid c.args.canonical_names n def ds c.package_name-package.result.now at c.package_name-package.ensures c.in_ok-component.ensures.wraps in
    let front = said c.new-builder.result c.custom_section.new.self e c.encoding_byte.result c.new-builder.ensures c.in_ok-custom_section.ensures.ok c.encoding_byte.ensures in
    let whole = built c.custom_section.new.self c.export_component_type.new.builder e c.deref.result.now (text_of def.name) ds front c.deref.ensures c.in_ok-export_component_type.ensures.ok in
    IfOk-weaker c.finish.result (λ bytes. IsComponent (sections_of_parts c.export_component_type.new.builder) bytes.items) (λ bytes. CarriesEncoding e bytes.items)
    (λ bytes spelled. encoding-carried r c.requires.valid n def at is.home e ds c.args.canonical_names is.wraps bytes.items
    (subst (λ (ps : List Part). IsComponent (sections_of_parts ps) bytes.items) whole spelled)) c.finish.ensures.spelled

pub returns-clause-carries : goal.returns-clause-carries
returns-clause-carries c =
    let r = c.args.resolve.now in
    let n = c.args.world.0 in
    let e = c.args.encoding in
    let def = c.index-def.result.now in
    let ds = c.in_ok-component.component in
    let at : world_at r n ≡ Some def = slice_get_read _ _ _ _ refl c.requires.in_range c.index-def.ensures in
    let is = wrapped-at r c.requires.valid c.args.canonical_names n def ds c.package_name-package.result.now at c.package_name-package.ensures c.in_ok-component.ensures.wraps in
    let front = said c.new-builder.result c.custom_section.new.self e c.encoding_byte.result c.new-builder.ensures c.in_ok-custom_section.ensures.ok c.encoding_byte.ensures in
    let whole = built c.custom_section.new.self c.export_component_type.new.builder e c.deref.result.now (text_of def.name) ds front c.deref.ensures c.in_ok-export_component_type.ensures.ok in
    let ps = c.export_component_type.new.builder in
    IfOk-weaker c.finish.result (λ bytes. (bytes.items ≡ component_bytes (sections_of_parts ps)) × IsComponent (sections_of_parts ps) bytes.items)
    (λ bytes. CarriesWorld r c.args.canonical_names n e bytes.items) (λ bytes written. world-carried r c.requires.valid n def at is.home e ds c.args.canonical_names is.wraps bytes.items
    (subst (λ (ps : List Part). IsComponent (sections_of_parts ps) bytes.items) whole written.1) (subst (λ (ps : List Part). bytes.items ≡ component_bytes (sections_of_parts ps)) whole written.0))
    (both-of (λ bytes. bytes.items ≡ component_bytes (sections_of_parts ps)) (λ bytes. IsComponent (sections_of_parts ps) bytes.items) c.finish.result c.finish.ensures.ok c.finish.ensures.spelled)

pub returns-clause-size : goal.returns-clause-size
returns-clause-size c = λ h.
    let r = c.args.resolve.now in
    let n = c.args.world.0 in
    let e = c.args.encoding in
    let def = c.index-def.result.now in
    let ds = c.in_ok-component.component in
    let at : world_at r n ≡ Some def = slice_get_read _ _ _ _ refl c.requires.in_range c.index-def.ensures in
    let is = wrapped-at r c.requires.valid c.args.canonical_names n def ds c.package_name-package.result.now at c.package_name-package.ensures c.in_ok-component.ensures.wraps in
    let front = said c.new-builder.result c.custom_section.new.self e c.encoding_byte.result c.new-builder.ensures c.in_ok-custom_section.ensures.ok c.encoding_byte.ensures in
    let whole = built c.custom_section.new.self c.export_component_type.new.builder e c.deref.result.now (text_of def.name) ds front c.deref.ensures c.in_ok-export_component_type.ensures.ok in
    long-whole r n def at is.home e ds c.args.canonical_names is.wraps (subst (λ (ps : List Part). fits_component ps ≡ false) whole (c.finish.ensures.size h))
