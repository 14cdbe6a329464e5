-- Trees of texts, one after the other.
use Rattle.std.proofs.Common.{◌≡◌, ◌∙◌, refl, sym, ap, subst, map, option_map, ◌<◌, ◌+◌, ℕ, List, [], ◌∷◌, ◌++◌, Some, slice_get, get_or, take, length, arith}
use Rattle.std.proofs.lemmas.Grind.{take_at_read}
use Rattle.std.proofs.lemmas.Option.{slice_get-get_or, slice_get-map}
use Rattle.std.proofs.lemmas.List.{length-map, take-map}
use Rattle.std.specs.{Borrow.Bor, List.AllZip}
use Rattle.wit_model.proofs.Elements.{zip-push}
use Rattle.text_names.specs.declared.error.Fault.{Fault}
use Rattle.text_names.specs.declared.error.Fault.TheVariants as fault
use Rattle.text_trees.specs.declared.tree.TextTree.{TextTree}
use Rattle.wit_text.specs.Refusals.{AreTreesOf, HaveTrees, IsTreeOf, RefusesTree, RefusesTrees}

-- the trees of texts that are lent
abbrev pub TreesOf : List (Bor (List ℕ)) → List TextTree → Type 0
TreesOf texts files = AllZip (λ text file. IsTreeOf text.now file) texts files

pub plain_trees : (texts : List (Bor (List ℕ))) (files : List TextTree) → TreesOf texts files → AreTreesOf (map (λ t. t.now) texts) files
plain_trees [] [] h = h
plain_trees [] (f ∷ fs) h = h
plain_trees (t ∷ ts) [] h = h
plain_trees (t ∷ ts) (f ∷ fs) h = (h.0, plain_trees ts fs h.1)

refuses_at : (texts : List (List ℕ)) (n : ℕ) (text : List ℕ) (files : List TextTree) → slice_get texts n ≡ Some text → AreTreesOf (take n texts) files
    → (f : Fault) → RefusesTree n text f → RefusesTrees texts f
refuses_at texts n text files is before fault.Memory h = tt
refuses_at texts n text files is before fault.Size h = tt
refuses_at texts n text files is before (fault.Refused refused) h =
    let have : HaveTrees (take n texts) = record { trees = files; are = before } in
    record {
      text = text;
      is = subst (λ k. slice_get texts k ≡ Some text) (sym h.0) is;
      before = subst (λ k. HaveTrees (take k texts)) (sym h.0) have;
      says = h.1;
    }
refuses_at texts n text files is before (fault.Broken rule list number) h = absurd h

pub refuses_here : (texts : List (Bor (List ℕ))) (n : ℕ) (d : Bor (List ℕ)) (files : List TextTree) → n < length texts → TreesOf (take n texts) files
    → (f : Fault) → RefusesTree n (get_or texts n d).now f → RefusesTrees (map (λ t. t.now) texts) f
refuses_here texts n d files low before f h =
    let is : slice_get (map (λ (t : Bor (List ℕ)). t.now) texts) n ≡ Some (get_or texts n d).now =
    slice_get-map (λ (t : Bor (List ℕ)). t.now) texts n ∙ ap (option_map (λ (t : Bor (List ℕ)). t.now)) (slice_get-get_or texts n d low) in
    let trees : AreTreesOf (take n (map (λ (t : Bor (List ℕ)). t.now) texts)) files =
    subst (λ (ts : List (List ℕ)). AreTreesOf ts files) (sym (take-map (λ (t : Bor (List ℕ)). t.now) n texts)) (plain_trees (take n texts) files before) in
    refuses_at (map (λ (t : Bor (List ℕ)). t.now) texts) n (get_or texts n d).now files is trees f h

pub trees_more : (texts : List (Bor (List ℕ))) (n : ℕ) (d : Bor (List ℕ)) (files new : List TextTree) (file : TextTree) → n < length texts
    → TreesOf (take n texts) files → IsTreeOf (get_or texts n d).now file → new ≡ files ++ file ∷ [] → TreesOf (take (n + 1) texts) new
trees_more texts n d files new file low before is grown =
    subst (λ ts. TreesOf ts new) (sym (take_at_read texts n d low).1)
    (subst (λ fs. TreesOf (take n texts ++ get_or texts n d ∷ []) fs) (sym grown)
    (zip-push (λ (text : Bor (List ℕ)) (f : TextTree). IsTreeOf text.now f) (take n texts) files (get_or texts n d) file before is))

pub length_trees : (texts : List (List ℕ)) (files : List TextTree) → AreTreesOf texts files → length files ≡ length texts
length_trees [] [] h = refl
length_trees [] (f ∷ fs) h = absurd h
length_trees (t ∷ ts) [] h = absurd h
length_trees (t ∷ ts) (f ∷ fs) h = let rest = length_trees ts fs h.1 in omega arith

pub trees_many : (texts : List (Bor (List ℕ))) (files : List TextTree) → AreTreesOf (map (λ t. t.now) texts) files → length files ≡ length texts
trees_many texts files h = length_trees (map (λ (t : Bor (List ℕ)). t.now) texts) files h ∙ length-map texts (λ (t : Bor (List ℕ)). t.now)
