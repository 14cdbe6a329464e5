use Rattle.wit_encode.specs.{Places.StaysBeside, WorldItems.towards}
use Rattle.wit_encode.proofs.WorldLists.{Goes}
use Rattle.wit_encode.proofs.world.WorldEncoderOf+TypeEncodingMaps.encode_items.Given as goal

abbrev pub invariant-loop-key : goal.invariant-loop-key
invariant-loop-key l = record { going : Goes l.resolve l.canonical_names l.fn.self l.self (towards l.direction) l.items.entries l.key-iterator; places : StaysBeside l.fn.self.outer l.self.outer }
