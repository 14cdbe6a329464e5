use Rattle.std.proofs.Common.{◌≡◌, true, ℕ, ◌≤◌, ◌<◌, ◌⊎◌, sym, subst, ap, ◌∙◌, length, map, List, [], arith, rules}
use Rattle.std.proofs.{Math.ListN.length-map, lemmas.Bool.lt-ltb}
use Rattle.wit_model.specs.{Lookup.interface_at, Weight.whole_instance_weight}
use Rattle.wit_model.specs.declared.{model.Resolve.Resolve, model.InterfaceId.InterfaceId}
use Rattle.comp_bytes.specs.Raw.{Declaration, Declarations, append}
use Rattle.encode_types.specs.Known.{Around, UsedStand, standing_instances}
use Rattle.wit_model.proofs.OnePath.{found-in}
use Rattle.wit_encode.specs.{DependencyAliases.HasImportAliases, DependencyAliases.IsMetAmong, DependencyRoom.ImportsLackRoom, DependencyRoom.of_imports, DependencyCounts.DefinesImports, Instance.EncodesInterface, Instance.LacksInstanceRoom, Instance.whole_interface, Encoders.InterfaceLacksRoom, Encoders.outside, Dependencies.AreImportable, Dependencies.HasImported, Dependencies.ShowsComponent, WrittenBytes.AddsBytes, WrittenBytes.imports_extent, WrittenNames.NamesInterfaces}
use Rattle.wit_encode.proofs.{DependencyAliases.nothing-aliased, DependencyWeighing.lacking-components-heavy, Scopes.paths-fit, Scopes.refused-by_paths, Imported.nothing_is_imported, Imported.exports_end, BytesWritten.adds-described, BytesWritten.component-few, Extents.bytes-few, ImportsStand.imports_stand, WrittenNames.all-named}
use Rattle.wit_encode.proofs.DependencyHolding.{export-defines, export-lacks, nothing-defined, nothing-held, own-lacks}
use Rattle.wit_encode.proofs.ImportLoop.{few-importable, moved, moved-held, path-in-range, reached-importable, reached-used}
use Rattle.encode_names.specs.{Clashes.canonical_paths_of, Clashes.AreDifferent, WorldNames.name_of_interface}
use Rattle.wit_encode.specs.Scopes.{HasNoEqualPaths, RefusesInterface}
use Rattle.base_lemmas.proofs.Options.{passed}
use Rattle.comp_bytes.specs.declared.forms.ComponentTypeRef.TheVariants as refs
use Rattle.wit_encode.proofs.component_types.interface_type.Goals as goal

pub returns-in_err-refuse_equal_paths-clause-refuses : goal.returns-in_err-refuse_equal_paths-clause-refuses
returns-in_err-refuse_equal_paths-clause-refuses c =
    refused-by_paths c.args.resolve.now c.args.interface.0 c.args.canonical_names c.in_ok-reached.reached.items c.deref.result.now c.in_err-refuse_equal_paths.field-0.0
    c.from_residual-in_err-refuse_equal_paths.result c.deref.ensures.value c.in_ok-reached.ensures.order c.in_err-refuse_equal_paths.ensures.refuses c.from_residual-in_err-refuse_equal_paths.ensures.1

pub import_dependencies-requires-clause-nothing : goal.import_dependencies-requires-clause-nothing
import_dependencies-requires-clause-nothing c =
    let new = c.new-encoder in
    subst (λ (z : Around). HasImported new.result.resolve.now z []) (λ j. record { declared = sym new.ensures.outer j; instances = sym new.ensures.instances j; known = sym new.ensures.known j })
    (nothing_is_imported new.result.resolve.now)

pub import_dependencies-requires-clause-importable : goal.import_dependencies-requires-clause-importable
import_dependencies-requires-clause-importable c = subst (λ (q : Resolve). AreImportable q (map (λ (id : InterfaceId). id.0) c.deref-2.result.now)) (sym c.new-encoder.ensures.resolve)
    (subst (λ (xs : List InterfaceId). AreImportable c.args.resolve.now (map (λ (id : InterfaceId). id.0) xs)) (sym c.deref-2.ensures.value)
    (reached-importable c.args.resolve.now c.requires.valid c.args.interface.0 (map (λ (id : InterfaceId). id.0) c.in_ok-reached.reached.items) c.in_ok-reached.ensures.reached))

pub import_dependencies-requires-clause-few : goal.import_dependencies-requires-clause-few
import_dependencies-requires-clause-few c =
    let ns = map (λ (id : InterfaceId). id.0) c.in_ok-reached.reached.items in
    let few : length ns ≤ 4294967295 = few-importable c.args.resolve.now c.requires.valid ns
    (reached-importable c.args.resolve.now c.requires.valid c.args.interface.0 ns c.in_ok-reached.ensures.reached) in
    omega (arith, few, length-map c.in_ok-reached.reached.items (λ (id : InterfaceId). id.0), ap length c.deref-2.ensures.value)

pub encode_instance-requires-clause-in_range : goal.encode_instance-requires-clause-in_range
encode_instance-requires-clause-in_range c = subst (λ (q : Resolve). c.args.interface.0 < length q.interfaces.items) (sym (c.import_dependencies.ensures.resolve ∙ c.new-encoder.ensures.resolve))
    (path-in-range c.args.resolve.now c.args.interface.0 c.requires.named)

pub encode_instance-requires-clause-around : goal.encode_instance-requires-clause-around
encode_instance-requires-clause-around c =
    let after = c.import_dependencies.new.encoder in
    let imported = moved c.args.resolve.now c.new-encoder.result.resolve.now c.in_ok-reached.reached.items c.deref-2.result.now (outside after) c.new-encoder.ensures.resolve c.deref-2.ensures.value
    c.in_ok-import_dependencies.ensures.imported in
    subst (λ (q : Resolve). UsedStand q (standing_instances q (outside after)) c.args.interface.0) (sym (c.import_dependencies.ensures.resolve ∙ c.new-encoder.ensures.resolve))
    (imports_stand c.args.resolve.now (outside after) (map (λ (id : InterfaceId). id.0) c.in_ok-reached.reached.items) c.args.interface.0 c.requires.valid imported
    (reached-used c.args.resolve.now c.args.interface.0 (map (λ (id : InterfaceId). id.0) c.in_ok-reached.reached.items) c.in_ok-reached.ensures.reached))

pub returns : goal.returns
returns c =
    let own = c.args.interface in let new = c.new-encoder in let ns = map (λ (id : InterfaceId). id.0) c.in_ok-reached.reached.items in
    let ids = map (λ (id : InterfaceId). id.0) c.deref-2.result.now in let canonical = c.args.canonical_names in let done = c.in_ok-import_dependencies.ensures in
    let r = c.args.resolve.now in let before = c.import_dependencies.new.encoder in let after = c.encode_instance.new.self in let q = new.result.resolve.now in
    let same = c.import_dependencies.ensures.resolve ∙ new.ensures.resolve in
    let found = found-in r.interfaces.items own.0 (lt-ltb own.0 (length r.interfaces.items) (path-in-range r own.0 c.requires.named)) in
    let encodes = subst (λ (q : Resolve). EncodesInterface q (outside before) (outside after) own found.0 c.in_ok-slot.slot) same
    (c.in_ok-slot.ensures.ok found.0 (ap (λ (q : Resolve). interface_at q own.0) same ∙ found.1)) in
    let at = c.in_ok-export.ensures.ok ∙ ap (λ n. append after.outer (Declarations.declares (Declaration.exported n (refs.Instance c.in_ok-slot.slot)) Declarations.no_more)) c.in_ok-name.ensures.ok in
    record {
      shows = λ path is.
          let imported = moved r new.result.resolve.now c.in_ok-reached.reached.items c.deref-2.result.now (outside before) new.ensures.resolve c.deref-2.ensures.value done.imported in
          subst (ShowsComponent r own.0 path) (sym at) (exports_end r canonical (outside before) (outside after) ns own found.0 path c.in_ok-slot.slot c.requires.valid is imported
          c.in_ok-reached.ensures.reached encodes);
      names =
          let start = new.result.outer in
          let named = subst (λ (q : Resolve). NamesInterfaces q canonical ids start before.outer) new.ensures.resolve done.named in
          all-named r canonical (outside before) (outside after) ids own found.0 c.in_ok-slot.slot start c.export.new.self new.ensures.outer named
          (ap (map (λ (id : InterfaceId). id.0)) c.deref-2.ensures.value ∙ c.in_ok-reached.ensures.order) encodes at;
      once =
          let defined = subst (λ (q : Resolve). DefinesImports q before.outer ids) new.ensures.resolve (done.once (nothing-defined q new.result.outer new.ensures.outer)) in
          export-defines r canonical (outside before) (outside after) own found.0 c.in_ok-slot.slot c.export.new.self encodes at ids found.1
          (ap (map (λ (id : InterfaceId). id.0)) c.deref-2.ensures.value ∙ c.in_ok-reached.ensures.order) defined
          (subst (λ (q : Resolve). HasImported q (outside before) ids) new.ensures.resolve done.imported)
          (subst (λ (q : Resolve). HasImportAliases q (outside before) ids) new.ensures.resolve (done.aliases (nothing-aliased q (IsMetAmong q []) (outside new.result) new.ensures.outer)));
      differ = search rules;
      light =
          let imports = subst (λ (xs : List InterfaceId). AddsBytes (imports_extent q canonical (map (λ (id : InterfaceId). id.0) xs)) new.result.outer before.outer) c.deref-2.ensures.value
          done.written in
          component-few r before.resolve.now c.requires.valid own ns canonical (c.import_dependencies.ensures.resolve ∙ new.ensures.resolve) c.requires.named c.in_ok-reached.ensures.reached
          new.result.outer before.outer c.export.new.self new.ensures.outer (subst (λ (z : Resolve). AddsBytes (imports_extent z canonical ns) new.result.outer before.outer)
          (sym c.import_dependencies.ensures.resolve) imports) (adds-described (whole_instance_weight before.resolve.now own.0) before.outer after.outer c.export.new.self _ _
          (name_of_interface r canonical own.0) c.in_ok-slot.ensures.written c.in_ok-export.ensures.ok (bytes-few.exports _ (refs.Instance c.in_ok-slot.slot)) c.in_ok-name.ensures.ok);
      size = search rules;
      refuses = search rules;
    }

pub returns-in_err-refuse_equal_paths-clause-size : goal.returns-in_err-refuse_equal_paths-clause-size
returns-in_err-refuse_equal_paths-clause-size c = λ refused. paths-fit c.args.resolve.now (map (λ (id : InterfaceId). id.0) c.deref.result.now) c.args.canonical_names
    c.in_err-refuse_equal_paths.field-0.0 c.from_residual-in_err-refuse_equal_paths.result c.in_err-refuse_equal_paths.ensures.refuses c.from_residual-in_err-refuse_equal_paths.ensures.1 refused

pub returns-in_err-import_dependencies-clause-size : goal.returns-in_err-import_dependencies-clause-size
returns-in_err-import_dependencies-clause-size c = λ h.
    let r = c.args.resolve.now in
    let q = c.new-encoder.result.resolve.now in
    let lacks = (c.import_dependencies.ensures.size (search rules)) (nothing-held q (outside c.new-encoder.result) c.new-encoder.ensures.outer) in
    lacking-components-heavy r c.args.interface (map (λ (id : InterfaceId). id.0) c.in_ok-reached.reached.items) c.requires.valid c.requires.named c.in_ok-reached.ensures.reached
    (of_imports (subst (λ (xs : List InterfaceId). ImportsLackRoom r (map (λ (id : InterfaceId). id.0) xs)) c.deref-2.ensures.value
    (subst (λ (q : Resolve). ImportsLackRoom q (map (λ (id : InterfaceId). id.0) c.deref-2.result.now)) c.new-encoder.ensures.resolve lacks)))

pub returns-in_err-slot-clause-size : goal.returns-in_err-slot-clause-size
returns-in_err-slot-clause-size c = λ h.
    let r = c.args.resolve.now in
    let q = c.new-encoder.result.resolve.now in
    let ns = map (λ (id : InterfaceId). id.0) c.in_ok-reached.reached.items in
    let before = c.import_dependencies.new.encoder in
    let same = c.import_dependencies.ensures.resolve ∙ c.new-encoder.ensures.resolve in
    let found = found-in r.interfaces.items c.args.interface.0 (lt-ltb c.args.interface.0 (length r.interfaces.items) (path-in-range r c.args.interface.0 c.requires.named)) in
    let imported = moved r q c.in_ok-reached.reached.items c.deref-2.result.now (outside before) c.new-encoder.ensures.resolve c.deref-2.ensures.value c.in_ok-import_dependencies.ensures.imported in
    let held = moved-held r q c.in_ok-reached.reached.items c.deref-2.result.now (outside before) c.new-encoder.ensures.resolve c.deref-2.ensures.value
    (c.in_ok-import_dependencies.ensures.held (nothing-held q (outside c.new-encoder.result) c.new-encoder.ensures.outer)) in
    lacking-components-heavy r c.args.interface ns c.requires.valid c.requires.named c.in_ok-reached.ensures.reached
    (own-lacks r ns (outside before) imported held c.args.interface found.0 found.1
    (subst (λ (q : Resolve). InterfaceLacksRoom q c.args.interface found.0 ⊎ LacksInstanceRoom q c.args.interface (whole_interface found.0) (outside before)) same
    (c.encode_instance.ensures.size (search rules) found.0 (ap (λ (q : Resolve). interface_at q c.args.interface.0) same ∙ found.1))))

pub returns-in_err-export-clause-size : goal.returns-in_err-export-clause-size
returns-in_err-export-clause-size c = λ h.
    let refused = c.export.ensures.size (search rules) in
    let r = c.args.resolve.now in
    let q = c.new-encoder.result.resolve.now in
    let ns = map (λ (id : InterfaceId). id.0) c.in_ok-reached.reached.items in
    let before = c.import_dependencies.new.encoder in
    let after = c.encode_instance.new.self in
    let same = c.import_dependencies.ensures.resolve ∙ c.new-encoder.ensures.resolve in
    let found = found-in r.interfaces.items c.args.interface.0 (lt-ltb c.args.interface.0 (length r.interfaces.items) (path-in-range r c.args.interface.0 c.requires.named)) in
    let imported = moved r q c.in_ok-reached.reached.items c.deref-2.result.now (outside before) c.new-encoder.ensures.resolve c.deref-2.ensures.value c.in_ok-import_dependencies.ensures.imported in
    let held = moved-held r q c.in_ok-reached.reached.items c.deref-2.result.now (outside before) c.new-encoder.ensures.resolve c.deref-2.ensures.value
    (c.in_ok-import_dependencies.ensures.held (nothing-held q (outside c.new-encoder.result) c.new-encoder.ensures.outer)) in
    let encodes = subst (λ (q : Resolve). EncodesInterface q (outside before) (outside after) c.args.interface found.0 c.in_ok-slot.slot) same
    (c.in_ok-slot.ensures.ok found.0 (ap (λ (q : Resolve). interface_at q c.args.interface.0) same ∙ found.1)) in
    lacking-components-heavy r c.args.interface ns c.requires.valid c.requires.named c.in_ok-reached.ensures.reached
    (export-lacks r ns (outside before) imported held c.args.interface found.0 c.args.canonical_names (outside after) c.in_ok-slot.slot encodes _ c.in_ok-name.ensures.ok refused)

pub returns-in_err-export-clause-refuses : goal.returns-in_err-export-clause-refuses
returns-in_err-export-clause-refuses c =
    let order = ap (map (λ (id : InterfaceId). id.0)) c.deref.ensures.value ∙ c.in_ok-reached.ensures.order in
    let differ : c.args.canonical_names ≡ true → HasNoEqualPaths c.args.resolve.now c.args.interface.0 =
    λ h. subst (λ (ns : List ℕ). AreDifferent (canonical_paths_of c.args.resolve.now ns)) order (c.in_ok-refuse_equal_paths.ensures.ok h) in
    passed (RefusesInterface c.args.resolve.now c.args.interface.0 c.args.canonical_names) c.from_residual-in_err-export.result c.in_err-export.field-0.0
    c.from_residual-in_err-export.ensures.1 (RefusesInterface.of_room differ c.in_err-export.ensures.refuses)
