use Rattle.std.proofs.{Common.◌≡◌, Common.subst, Common.Some, Common.refl, Common.OnOk, Common.OnErr, lemmas.Option.slice_get_read}
use Rattle.wit_model.specs.Lookup.{package_at}
use Rattle.print_output.specs.OutputCall.{Moves, Begins}
use Rattle.print_packages.proofs.{PackageCalls.package_shown_at, ValidPrintable.valid_interfaces, ValidPrintable.valid_name, ValidPrintable.valid_worlds}
use Rattle.print_packages.proofs.package.print_whole_package.Goals as goal

pub print_listed_package-requires : goal.print_listed_package-requires
print_listed_package-requires g c =
    let at : package_at c.args.resolve.now c.args.here.0 ≡ Some c.index-package.result.now = slice_get_read _ _ _ _ refl c.requires.in_range c.index-package.ensures in
    let name = valid_name c.args.resolve.now c.args.here.0 c.index-package.result.now c.requires.valid at in
    record {
      namespace = name.0;
      name = name.1;
      version = name.2;
      valid = c.requires.valid;
      interfaces = valid_interfaces c.args.resolve.now c.args.here.0 c.index-package.result.now c.requires.valid at;
      worlds = valid_worlds c.args.resolve.now c.args.here c.index-package.result.now c.requires.valid at;
    }

pub returns : goal.returns
returns g c =
    let at : package_at c.args.resolve.now c.args.here.0 ≡ Some c.index-package.result.now = slice_get_read _ _ _ _ refl c.requires.in_range c.index-package.ensures in
    let same = package_shown_at c.args.emits_docs c.args.is_main c.args.resolve.now c.args.here c.index-package.result.now at in
    record {
      ok = subst (λ calls. OnOk c.print_listed_package.result (Moves g.O.Output.keeps (g.O.Output.view c.args.output.now) calls (g.O.Output.view c.print_listed_package.new.output))) same
          c.print_listed_package.ensures.ok;
      err = subst (λ calls. OnErr c.print_listed_package.result (Begins g.O.Output.keeps (g.O.Output.view c.args.output.now) calls (g.O.Output.view c.print_listed_package.new.output))) same
          c.print_listed_package.ensures.err;
      memory = c.print_listed_package.ensures.memory;
    }
