use Rattle.std.proofs.Common.{ℕ, take}
use Rattle.std.specs.List.{Contains}
use Rattle.wit_encode.proofs.ImportLoop.{numbers}
use Rattle.wit_interfaces.specs.InterfaceEncoders.{ImportsAll, LeavesInterfaces, interface_encoder_view}
use Rattle.wit_interfaces.proofs.encoder.InterfaceEncoder.import_all.Given as goal

abbrev pub invariant-loop-interface : goal.invariant-loop-interface
invariant-loop-interface l = record {
  leaves : LeavesInterfaces l.fn.self l.self;
  stand : (n : ℕ) → Contains (take l.interface-index (numbers l.interfaces)) n → Contains (interface_encoder_view l.self).scope.instances n;
  imports : ImportsAll l.fn.self l.self (take l.interface-index l.interfaces);
}
