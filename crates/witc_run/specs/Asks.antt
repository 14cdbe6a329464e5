-- What a command asks for.
use Rattle.witc_run.specs.declared.command.Command.{Command}
use Rattle.witc_run.specs.declared.command.Command.TheVariants as command
use Rattle.witc_run.specs.Words.{Asked, demo_text, demo_hex, print, module_text, strip, compat}

abbrev pub asked_by : Command → Asked
asked_by command.DemoText = demo_text
asked_by command.DemoHex = demo_hex
asked_by command.Print = print
asked_by command.Module = module_text
asked_by command.Strip = strip
asked_by (command.Compat prev new) = compat prev.now new.now
