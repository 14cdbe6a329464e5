use Rattle.std.proofs.Common.{◌≡◌, length, map, take}
use Rattle.text_plain.specs.Places.{folder_text_of}
use Rattle.wit_text.specs.{Mains.trees_in, Texts.in_folders}
use Rattle.wit_text.proofs.read.folder_texts_of.Given as goal

abbrev pub invariant-loop-number : goal.invariant-loop-number
invariant-loop-number l =
    (map (λ f. f.text.now) l.list.items ≡ map (λ t. t.now) (take l.number l.texts)) × (map (λ f. f.tree.now) l.list.items ≡ take l.number l.trees)
    × (length l.list.items ≡ l.number) × (map folder_text_of l.list.items ≡ in_folders l.own (trees_in l.list.items))
