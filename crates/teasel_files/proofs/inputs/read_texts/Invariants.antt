use Rattle.std.proofs.Common.{◌≡◌, take}
use Rattle.std.specs.List.{AllZip}
use Rattle.teasel_files.specs.Folders.{IsText, paths_of}
use Rattle.teasel_files.proofs.inputs.read_texts.Given as goal

abbrev pub invariant-loop-path : goal.invariant-loop-path
invariant-loop-path g l =
    AllZip (IsText (g.S.Store.holds (g.S.Store.state l.fn.store))) (paths_of (take l.path-index l.paths)) l.texts.items
    × (g.S.Store.state l.store ≡ g.S.Store.state l.fn.store)
