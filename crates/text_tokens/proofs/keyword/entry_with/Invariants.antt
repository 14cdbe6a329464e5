use Rattle.std.proofs.Common.{◌≡◌, drop}
use Rattle.text_tokens.specs.Kinds.{entry_in}
use Rattle.text_tokens.proofs.keyword.entry_with.Given as goal

abbrev pub invariant-loop-entry : goal.invariant-loop-entry
invariant-loop-entry l = entry_in (drop l.entry-index l.entries) l.word ≡ entry_in l.entries l.word
