use Rattle.print_items.proofs.ShownWell.{optional_version}
use Rattle.wit_print.proofs.printer.WitPrinter.print_package_outer.Goals as goal

pub write_package_outer-requires-clause-version : goal.write_package_outer-requires-clause-version
write_package_outer-requires-clause-version g c = optional_version c.args.package.now.name.version c.requires.version
