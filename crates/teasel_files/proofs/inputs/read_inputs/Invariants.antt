use Rattle.std.proofs.Common.{◌≡◌, take}
use Rattle.teasel_files.specs.Folders.{AreRead}
use Rattle.teasel_words.specs.Given.{texts_of}
use Rattle.teasel_files.proofs.inputs.read_inputs.Given as goal

abbrev pub invariant-loop-name : goal.invariant-loop-name
invariant-loop-name g l =
    AreRead (g.S.Store.holds (g.S.Store.state l.fn.store)) (g.S.Store.lists (g.S.Store.state l.fn.store)) (texts_of (take l.name-index l.name-items)) l.sources.items
    × (g.S.Store.state l.store ≡ g.S.Store.state l.fn.store)
