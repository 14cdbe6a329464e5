use Rattle.std.proofs.Common.{filter, take}
use Rattle.wit_text.specs.{Puts.goes_to, Puts.PutsAll, Steps.numbers_of}
use Rattle.wit_text.proofs.walk.put_needs.Given as goal

abbrev pub invariant-loop-need : goal.invariant-loop-need
invariant-loop-need l = PutsAll l.walk (filter (goes_to l.walk) (numbers_of (take l.need-index l.needs))) l.initial.entries.entries l.entries.entries
