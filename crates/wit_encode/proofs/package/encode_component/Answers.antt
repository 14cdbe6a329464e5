use Rattle.std.proofs.Common.{◌≡◌, ◌∙◌, sym, subst, refl, Some, rules}
use Rattle.std.proofs.lemmas.Option.{slice_get_read, same_Some as some-same}
use Rattle.wit_model.specs.Lookup.{package_at}
use Rattle.wit_model.specs.declared.model.Package.{Package}
use Rattle.wit_encode.specs.Packages.{HasNoClashes, HaveNoEqualPaths, HoldsPackage, RefusesInterfaces, RefusesWorlds}
use Rattle.wit_encode.proofs.WholePackages.{are-named, are-worlds, interfaces-refused, package-at, package-held, parts-mean, worlds-refused}
use Rattle.wit_encode.proofs.PackageRoom.{interfaces-lack, worlds-lack}
use Rattle.wit_encode.proofs.package.encode_component.Goals as goal

pub interfaces_component-requires-clause-named : goal.interfaces_component-requires-clause-named
interfaces_component-requires-clause-named c =
    are-named c.args.resolve.now c.requires.valid c.args.package.0 c.index-own.result.now (slice_get_read _ _ _ _ refl c.requires.in_range c.index-own.ensures)

pub add_worlds-requires-clause-in_range : goal.add_worlds-requires-clause-in_range
add_worlds-requires-clause-in_range c = are-worlds c.args.resolve.now c.requires.valid c.args.package.0 c.index-own.result.now (slice_get_read _ _ _ _ refl c.requires.in_range c.index-own.ensures)

pub returns-in_err-builder-clause-refuses : goal.returns-in_err-builder-clause-refuses
returns-in_err-builder-clause-refuses c = package-at c.args.resolve.now c.args.package.0 c.args.canonical_names c.from_residual.result (λ p is.
    let r = c.args.resolve.now in
    let same = some-same c.index-own.result.now p (sym (slice_get_read _ _ _ _ refl c.requires.in_range c.index-own.ensures) ∙ is) in
    interfaces-refused r p c.args.canonical_names c.in_err-builder.field-0.0 c.from_residual.result
    (subst (λ (q : Package). RefusesInterfaces r q.interfaces.entries c.args.canonical_names c.in_err-builder.field-0.0) same c.in_err-builder.ensures.refuses) c.from_residual.ensures.1)

pub returns-in_err-add_worlds-clause-refuses : goal.returns-in_err-add_worlds-clause-refuses
returns-in_err-add_worlds-clause-refuses c = package-at c.args.resolve.now c.args.package.0 c.args.canonical_names c.from_residual-in_err-add_worlds.result (λ p is.
    let r = c.args.resolve.now in
    let same = some-same c.index-own.result.now p (sym (slice_get_read _ _ _ _ refl c.requires.in_range c.index-own.ensures) ∙ is) in
    worlds-refused r p c.args.canonical_names c.in_err-add_worlds.field-0.0 c.from_residual-in_err-add_worlds.result
    (λ asked. subst (λ (q : Package). HaveNoEqualPaths r q.interfaces.entries) same (c.in_ok-builder.ensures.differ asked))
    (subst (λ (q : Package). RefusesWorlds r q.worlds.entries c.args.canonical_names c.in_err-add_worlds.field-0.0) same c.in_err-add_worlds.ensures.refuses)
    c.from_residual-in_err-add_worlds.ensures.1)

pub returns : goal.returns
returns c =
    let id = c.args.package.0 in let names = c.args.canonical_names in let first = c.in_ok-builder.builder in let end = c.add_worlds.new.builder in
    let r = c.args.resolve.now in
    let own = c.index-own.result.now in
    let at : package_at r id ≡ Some own = slice_get_read _ _ _ _ refl c.requires.in_range c.index-own.ensures in
    record {
      means = λ p is some. parts-mean r c.requires.valid id p is names end
          (subst (λ (q : Package). HoldsPackage r names q end) (some-same own p (sym at ∙ is))
          (package-held r c.requires.valid id own at names first end c.in_ok-builder.ensures.holds c.in_ok-add_worlds.ensures.adds)) some;
      holds = λ p is. subst (λ (q : Package). HoldsPackage r names q end) (some-same own p (sym at ∙ is))
          (package-held r c.requires.valid id own at names first end c.in_ok-builder.ensures.holds c.in_ok-add_worlds.ensures.adds);
      differ = λ asked p is. subst (HasNoClashes r) (some-same own p (sym at ∙ is)) (record { interfaces = c.in_ok-builder.ensures.differ asked; worlds = c.in_ok-add_worlds.ensures.differ asked });
      size = search rules;
      refuses = search rules;
    }

pub returns-in_err-builder-clause-size : goal.returns-in_err-builder-clause-size
returns-in_err-builder-clause-size c = λ h. interfaces-lack c.args.resolve.now c.requires.valid c.args.package.0 c.index-own.result.now
    (slice_get_read _ _ _ _ refl c.requires.in_range c.index-own.ensures) c.args.canonical_names (c.interfaces_component.ensures.size (search rules))

pub returns-in_err-add_worlds-clause-size : goal.returns-in_err-add_worlds-clause-size
returns-in_err-add_worlds-clause-size c = λ h.
    let own = c.index-own.result.now in
    worlds-lack c.args.resolve.now c.requires.valid c.args.package.0 own (slice_get_read _ _ _ _ refl c.requires.in_range c.index-own.ensures) c.args.canonical_names c.in_ok-builder.builder
    c.in_ok-builder.ensures.holds (c.add_worlds.ensures.size (search rules) own.interfaces.entries)
