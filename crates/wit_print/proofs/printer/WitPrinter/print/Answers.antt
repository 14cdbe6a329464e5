use Rattle.print_packages.proofs.ValidFiles.{packages_read}
use Rattle.wit_print.proofs.printer.WitPrinter.print.Goals as goal

pub returns-clause-reads : goal.returns-clause-reads
returns-clause-reads g c = packages_read c.args.self.now.emit_docs c.args.resolve.now c.args.id c.args.nested.now c.requires.valid c.requires.in_range c.requires.nested
