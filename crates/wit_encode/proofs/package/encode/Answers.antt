use Rattle.std.proofs.{Common.◌≡◌, Common.Some, Common.rules, Common.length, lemmas.Result.IfOk-weaker, lemmas.Bool.lt-ltb}
use Rattle.wit_model.specs.Lookup.{package_at}
use Rattle.wit_model.specs.declared.model.Package.{Package}
use Rattle.comp_bytes.specs.{Parts.sections_of_parts, Spelling.IsComponent, Spelling.preamble, Writing.component_bytes}
use Rattle.wit_encode.specs.Packages.{HasMembers, HasNoMembers, MeansPackage, SpellsPackageAt}
use Rattle.wit_encode.proofs.WholePackages.{bytes-empty, bytes-mean, package-at, package-passed, room-refused}
use Rattle.wit_encode.proofs.PackageRoom.{all-lack}
use Rattle.wit_model.proofs.OnePath.{found-in}
use Rattle.base_lemmas.proofs.Options.{both-of}
use Rattle.wit_encode.proofs.package.encode.Goals as goal

pub returns : goal.returns
returns c =
    let r = c.args.resolve.now in
    let n = c.args.package.0 in
    let parts = c.in_ok-encode_component.field-0 in
    record {
      means = IfOk-weaker c.finish.result (λ bytes. IsComponent (sections_of_parts parts) bytes.items) (λ bytes. (p : Package) → package_at r n ≡ Some p → HasMembers p → MeansPackage r n bytes.items)
          (λ bytes spelled p is some. bytes-mean r c.requires.valid n p is c.args.canonical_names parts bytes.items (c.in_ok-encode_component.ensures.holds p is) spelled some)
          c.finish.ensures.spelled;
      holds = IfOk-weaker c.finish.result (λ bytes. (bytes.items ≡ component_bytes (sections_of_parts parts)) × IsComponent (sections_of_parts parts) bytes.items)
          (λ bytes. SpellsPackageAt c.args.resolve.now c.args.canonical_names n bytes.items)
          (λ bytes written p is. record { parts = parts; holds = c.in_ok-encode_component.ensures.holds p is; are = written.0; spells = written.1 })
          (both-of (λ bytes. bytes.items ≡ component_bytes (sections_of_parts parts)) (λ bytes. IsComponent (sections_of_parts parts) bytes.items) c.finish.result c.finish.ensures.ok
          c.finish.ensures.spelled);
      empty = IfOk-weaker c.finish.result (λ bytes. IsComponent (sections_of_parts parts) bytes.items) (λ bytes. (p : Package) → package_at r n ≡ Some p → HasNoMembers p → bytes.items ≡ preamble)
          (λ bytes spelled p is none. bytes-empty r c.requires.valid n p is c.args.canonical_names parts bytes.items (c.in_ok-encode_component.ensures.holds p is) spelled none)
          c.finish.ensures.spelled;
      differ = search rules;
      size = λ h.
          let found = found-in r.packages.items c.args.package.0 (lt-ltb c.args.package.0 (length r.packages.items) c.requires.in_range) in
          all-lack r c.requires.valid c.args.package.0 found.0 found.1 c.args.canonical_names c.in_ok-encode_component.field-0 (c.in_ok-encode_component.ensures.holds found.0 found.1)
          (c.finish.ensures.size h);
      refuses = package-at c.args.resolve.now c.args.package.0 c.args.canonical_names c.finish.result
          (λ p is. room-refused c.args.resolve.now p c.args.canonical_names c.finish.result (λ asked. c.in_ok-encode_component.ensures.differ asked p is) c.finish.ensures.refuses);
    }

pub returns-in_err-encode_component-clause-refuses : goal.returns-in_err-encode_component-clause-refuses
returns-in_err-encode_component-clause-refuses c = package-passed c.args.resolve.now c.args.package.0 c.args.canonical_names c.in_err-encode_component.field-0.0 c.from_residual.result
    c.in_err-encode_component.ensures.refuses c.from_residual.ensures.1

pub returns-in_err-encode_component-clause-size : goal.returns-in_err-encode_component-clause-size
returns-in_err-encode_component-clause-size c = λ h. c.encode_component.ensures.size (search rules)
