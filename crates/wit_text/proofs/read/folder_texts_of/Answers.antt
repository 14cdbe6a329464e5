use Rattle.std.proofs.Common.{◌≡◌, ◌<◌, refl, rules, sym, ◌∙◌, ap, arith, map, take, length}
use Rattle.std.proofs.lemmas.List.{take_all}
use Rattle.text_plain.specs.Places.{folder_text_of}
use Rattle.wit_text.specs.{Mains.trees_in, Texts.folder_of, Texts.in_folders}
use Rattle.wit_text.proofs.ReadTrees.{code_more, folders_more, read_in_folders, texts_more}
use Rattle.wit_text.proofs.read.folder_texts_of.Goals as goal

pub loop-number-preserved : goal.loop-number-preserved
loop-number-preserved c =
    let many : length c.loop-number.list.items ≡ c.loop-number.number = c.loop-number.invariant.2 in
    let so_far : map folder_text_of c.loop-number.list.items ≡ in_folders c.args.own (trees_in c.loop-number.list.items) = c.loop-number.invariant.3 in
    let folders = folders_more c.args.own c.loop-number.list.items c.push.new.self.items _ c.in_ok-push.ensures.items
    (c.in_ok-folder_of.ensures ∙ ap (folder_of c.args.own) (sym many)) so_far in
    let low : c.loop-number.number < length c.args.trees.now = search rules in
    let as_many = c.requires.many in
    let its_text : map (λ f. f.text.now) c.loop-number.list.items ≡ map (λ t. t.now) (take c.loop-number.number c.args.texts.now) = search rules in
    let its_tree : map (λ f. f.tree.now) c.loop-number.list.items ≡ take c.loop-number.number c.args.trees.now = search rules in
    let texts = texts_more c.args.texts.now c.loop-number.number _ c.loop-number.list.items c.push.new.self.items _ (omega (arith, low, as_many))
    c.in_ok-push.ensures.items refl its_text in
    let trees = code_more c.args.trees.now c.loop-number.number _ c.loop-number.list.items c.push.new.self.items _ low c.in_ok-push.ensures.items c.index-trees-number.is its_tree in
    search (rules, folders, texts, trees)

pub returns-clause-read : goal.returns-clause-read
returns-clause-read c =
    let many = c.requires.many in
    let texts : map (λ f. f.text.now) c.loop-number.list.items ≡ map (λ t. t.now) (take c.loop-number.number c.args.texts.now) = search rules in
    let trees : map (λ f. f.tree.now) c.loop-number.list.items ≡ take c.loop-number.number c.args.trees.now = search rules in
    read_in_folders c.args.texts.now c.args.trees.now c.loop-number.list.items
    (texts ∙ ap (map (λ t. t.now)) (take_all c.loop-number.number c.args.texts.now (omega (arith, many))))
    (trees ∙ take_all c.loop-number.number c.args.trees.now (omega arith)) c.requires.trees
