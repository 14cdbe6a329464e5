use Rattle.std.proofs.Common.{append-nil, refl, sym, subst, ◌∙◌, ◌+◌, map, take, rules}
use Rattle.wit_model.specs.declared.model.{Resolve.Resolve, InterfaceId.InterfaceId}
use Rattle.wit_encode.specs.{Encoders.outside, Dependencies.HasImported, WrittenNames.instance_names, DependencyRoom.HoldsImports, DependencyCounts.DefinesImports, DependencyAliases.HasImportAliases}
use Rattle.wit_encode.specs.{WrittenBytes.AddsBytes, WrittenBytes.imports_extent, WrittenNames.NamesInterfaces}
use Rattle.wit_encode.proofs.ImportLoop.{aliases-next, all-of, defines-next, held-next, is-next, named-next, next-refused, numbers}
use Rattle.wit_encode.proofs.BytesWritten.{adds-nothing, imports-next}
use Rattle.wit_encode.proofs.component_types.import_dependencies.Goals as goal

pub loop-number-init : goal.loop-number-init
loop-number-init c = record {
  closed = c.requires.closed;
  packages_ = refl;
  imported = c.requires.nothing;
  named = sym (append-nil (instance_names c.args.encoder.now.outer));
  written = adds-nothing c.args.encoder.now.outer;
  held = λ h. h;
  aliases = λ h. h;
  defines = λ h. h;
}

pub import_dependency-requires : goal.import_dependency-requires
import_dependency-requires c =
    let made = is-next c.args.encoder.now.resolve.now c.loop-number.encoder.resolve.now c.args.interfaces.now c.loop-number.number (outside c.loop-number.encoder)
    c.loop-number.invariant.packages_ c.requires.valid c.requires.importable c.loop-number-test.true c.loop-number.invariant.imported in
    record { closed = c.loop-number.invariant.closed; in_range = made.inside; valid = made.valid; around = made.uses }

pub returns-in_err-import_dependency-clause-resolve : goal.returns-in_err-import_dependency-clause-resolve
returns-in_err-import_dependency-clause-resolve c = c.import_dependency.ensures.resolve ∙ c.loop-number.invariant.packages_

pub loop-number-preserved : goal.loop-number-preserved
loop-number-preserved c =
    let r = c.args.encoder.now.resolve.now in let q = c.loop-number.encoder.resolve.now in let xs = c.args.interfaces.now in let n = c.loop-number.number in
    let before = outside c.loop-number.encoder in let after = outside c.import_dependency.new.encoder in let so_far = c.loop-number.invariant in
    record {
      closed = c.import_dependency.ensures.closed;
      packages_ = c.import_dependency.ensures.resolve ∙ so_far.packages_;
      imported =
          let here = is-next r q xs n before so_far.packages_ c.requires.valid c.requires.importable c.loop-number-test.true so_far.imported in
          subst (λ (q : Resolve). HasImported q after (take (n + 1) (map (λ (id : InterfaceId). id.0) xs))) (sym c.import_dependency.ensures.resolve)
          (here.then c.args.canonical_names after c.in_ok-import_dependency.ensures.imports);
      named = named-next r q c.args.canonical_names xs n c.args.encoder.now.outer before after so_far.packages_ c.loop-number-test.true c.in_ok-import_dependency.ensures.imports so_far.named;
      written = imports-next r q c.args.canonical_names xs n c.args.encoder.now.outer c.loop-number.encoder.outer c.import_dependency.new.encoder.outer so_far.packages_ c.loop-number-test.true
          so_far.written c.in_ok-import_dependency.ensures.written;
      held = λ h. held-next r q c.args.canonical_names xs n before after so_far.packages_ c.loop-number-test.true c.in_ok-import_dependency.ensures.imports (so_far.held h);
      aliases = λ h. aliases-next r q c.args.canonical_names xs n before after so_far.packages_ c.loop-number-test.true c.in_ok-import_dependency.ensures.imports so_far.imported (so_far.aliases h);
      defines = λ h. defines-next r q c.args.canonical_names xs n before after so_far.packages_ c.loop-number-test.true c.in_ok-import_dependency.ensures.imports (so_far.defines h);
    }

pub returns : goal.returns
returns c =
    let r = c.args.encoder.now.resolve.now in let xs = c.args.interfaces.now in let n = c.loop-number.number in let done = c.loop-number-test.false in let e = c.loop-number.encoder in
    record {
      closed = c.loop-number.invariant.closed;
      resolve = c.loop-number.invariant.packages_;
      imported = subst (λ (q : Resolve). HasImported q (outside e) (numbers xs)) c.loop-number.invariant.packages_
          (all-of (HasImported e.resolve.now (outside e)) xs n done c.loop-number.invariant.imported);
      held = λ h. all-of (HoldsImports r (outside e)) xs n done (c.loop-number.invariant.held h);
      once = λ h. all-of (DefinesImports r e.outer) xs n done (c.loop-number.invariant.defines h);
      aliases = λ h. all-of (HasImportAliases r (outside e)) xs n done (c.loop-number.invariant.aliases h);
      written = all-of (λ ns. AddsBytes (imports_extent r c.args.canonical_names ns) c.args.encoder.now.outer e.outer) xs n done c.loop-number.invariant.written;
      named = all-of (λ ns. NamesInterfaces r c.args.canonical_names ns c.args.encoder.now.outer e.outer) xs n done c.loop-number.invariant.named;
      size = search rules;
      refuses = search rules;
    }

pub returns-in_err-import_dependency-clause-size : goal.returns-in_err-import_dependency-clause-size
returns-in_err-import_dependency-clause-size c = λ h. λ held. next-refused c.args.encoder.now.resolve.now c.loop-number.encoder.resolve.now c.args.canonical_names c.args.interfaces.now
    c.loop-number.number (outside c.loop-number.encoder) c.loop-number.invariant.packages_ c.loop-number-test.true c.loop-number.invariant.imported (c.loop-number.invariant.held held)
    (c.import_dependency.ensures.size (search rules))
