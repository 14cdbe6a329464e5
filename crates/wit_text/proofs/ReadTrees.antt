-- Texts with their trees, as they are read. Serves read.
use Rattle.std.proofs.Common.{◌≡◌, ◌∙◌, sym, ap, subst, ℕ, ◌+◌, List, [], ◌∷◌, ◌++◌, map, length, take, get_or, ◌<◌, Vec, Result, Ok, Err, IfOk, string_bytes, arith}
use Rattle.std.proofs.lemmas.{Grind.take_at_read, List.length-map, List.map-append}
use Rattle.std.specs.{Borrow.Bor, List.AllZip, List.enumerate_from}
use Rattle.std.specs.declared.alloc.Global.{Global}
use Rattle.wit_model.specs.declared.model.{PackageId.PackageId, Resolve.Resolve}
use Rattle.wit_model.specs.Valid.{IsValid}
use Rattle.text_trees.specs.Reads.{IsReadAs}
use Rattle.text_plain.specs.declared.{plain.Plain.Plain, whole.FolderText.FolderText}
use Rattle.text_plain.specs.{FilesSeen.file_of, Places.folder_text_of, Plain.FilesAre, Plain.FolderText as PlainText}
use Rattle.text_trees.specs.{TextTree.TextTree, TextTreesSeen.tree_of}
use Rattle.text_trees.specs.declared.tree.TextTree.{TextTree as CodeText}
use Rattle.text_names.specs.declared.error.Fault.{Fault}
use Rattle.text_shown.specs.{SamePackages.ShowsPackages, Shows.ShowsFiles}
use Rattle.wit_text.specs.{Mains.trees_in, Refusals.AreTreesOf, Refusals.IsTreeOf, Texts.folder_of, Texts.in_folders, Texts.ReadsTexts}

-- what is read of texts with their trees
pub reads_all : ShowsPackages → (texts : List (List ℕ)) (own : ℕ) (list : List FolderText) (plain : Plain)
    → map folder_text_of list ≡ in_folders own (trees_in list) → AllZip IsReadAs texts (trees_in list)
    → FilesAre (map folder_text_of list) (map (file_of (string_bytes plain.whole)) plain.files.items)
    → (r : Result (Resolve × Vec PackageId Global) Fault) → IfOk r (λ x. IsValid x.0)
    → IfOk r (λ x. ShowsFiles (map (file_of (string_bytes plain.whole)) plain.files.items) x.0 x.1.items) → IfOk r (λ x. ReadsTexts texts own x.0 x.1.items)
reads_all law texts own list plain folders read files (Ok x) valid shows =
    record {
      valid = valid;
      trees = trees_in list;
      read = read;
      files = map (file_of (string_bytes plain.whole)) plain.files.items;
      plain = subst (λ ts. FilesAre ts (map (file_of (string_bytes plain.whole)) plain.files.items)) folders files;
      shows = shows;
      printed = λ id p at. law x.0 valid (map (file_of (string_bytes plain.whole)) plain.files.items) x.1.items shows id p at;
    }
reads_all law texts own list plain folders read files (Err f) valid shows = tt

-- ---- texts in their folders

enumerate-push : {X : Type 0} (n : ℕ) (xs : List X) (x : X) → enumerate_from n (xs ++ x ∷ []) ≡ enumerate_from n xs ++ (n + length xs, x) ∷ []
enumerate-push n [] x = ap (λ k. (k, x) ∷ []) (omega arith)
enumerate-push n (y ∷ ys) x = ap (λ l. (n, y) ∷ l) (enumerate-push (n + 1) ys x ∙ ap (λ k. enumerate_from (n + 1) ys ++ (k, x) ∷ []) (omega arith))

enumerate-more : {X : Type 0} (xs : List X) (x : X) → enumerate_from 0 (xs ++ x ∷ []) ≡ enumerate_from 0 xs ++ (length xs, x) ∷ []
enumerate-more xs x = enumerate-push 0 xs x ∙ ap (λ k. enumerate_from 0 xs ++ (k, x) ∷ []) (omega arith)

-- one more text in its folder
pub folders_more : (own : ℕ) (list new : List FolderText) (it : FolderText) → new ≡ list ++ it ∷ [] → it.folder ≡ folder_of own (length list)
    → map folder_text_of list ≡ in_folders own (trees_in list) → map folder_text_of new ≡ in_folders own (trees_in new)
folders_more own list new it grown folder so_far =
    let f : ℕ × TextTree → PlainText = λ x. record { folder = folder_of own x.0; tree = x.1 } in
    ap (map folder_text_of) grown ∙ map-append folder_text_of list (it ∷ [])
    ∙ ap (λ l. l ++ folder_text_of it ∷ []) so_far
    ∙ ap (λ n. in_folders own (trees_in list) ++ record { folder = n; tree = tree_of it.text.now it.tree.now } ∷ [])
    (folder ∙ ap (folder_of own) (sym (length-map list (λ (f : FolderText). tree_of f.text.now f.tree.now))))
    ∙ sym (map-append f (enumerate_from 0 (trees_in list)) ((length (trees_in list), tree_of it.text.now it.tree.now) ∷ []))
    ∙ ap (map f) (sym (enumerate-more (trees_in list) (tree_of it.text.now it.tree.now)))
    ∙ ap (λ l. in_folders own l) (sym (map-append (λ (f : FolderText). tree_of f.text.now f.tree.now) list (it ∷ [])) ∙ ap trees_in (sym grown))

are_readings : (list : List FolderText) → AllZip IsTreeOf (map (λ f. f.text.now) list) (map (λ f. f.tree.now) list)
    → AllZip IsReadAs (map (λ f. f.text.now) list) (trees_in list)
are_readings [] h = tt
are_readings (f ∷ fs) h = (h.0.reads, are_readings fs h.1)

-- the trees of texts in their folders are what these read as
pub read_in_folders : (texts : List (Bor (List ℕ))) (trees : List CodeText) (list : List FolderText) → map (λ f. f.text.now) list ≡ map (λ t. t.now) texts
    → map (λ f. f.tree.now) list ≡ trees → AreTreesOf (map (λ t. t.now) texts) trees → AllZip IsReadAs (map (λ t. t.now) texts) (trees_in list)
read_in_folders texts trees list same_texts same_trees are =
    subst (λ ts. AllZip IsReadAs ts (trees_in list)) same_texts
    (are_readings list (subst (λ ts. AllZip IsTreeOf ts (map (λ (f : FolderText). f.tree.now) list)) (sym same_texts)
    (subst (λ fs. AllZip IsTreeOf (map (λ (t : Bor (List ℕ)). t.now) texts) fs) (sym same_trees) are)))

-- one more text
pub texts_more : (texts : List (Bor (List ℕ))) (n : ℕ) (d : Bor (List ℕ)) (list new : List FolderText) (it : FolderText) → n < length texts
    → new ≡ list ++ it ∷ [] → it.text ≡ get_or texts n d → map (λ f. f.text.now) list ≡ map (λ t. t.now) (take n texts)
    → map (λ f. f.text.now) new ≡ map (λ t. t.now) (take (n + 1) texts)
texts_more texts n d list new it low grown is so_far =
    ap (map (λ (f : FolderText). f.text.now)) grown ∙ map-append (λ (f : FolderText). f.text.now) list (it ∷ [])
    ∙ ap (λ l. l ++ it.text.now ∷ []) so_far ∙ ap (λ x. map (λ (t : Bor (List ℕ)). t.now) (take n texts) ++ x.now ∷ []) is
    ∙ sym (map-append (λ (t : Bor (List ℕ)). t.now) (take n texts) (get_or texts n d ∷ []))
    ∙ ap (map (λ (t : Bor (List ℕ)). t.now)) (sym (take_at_read texts n d low).1)

-- and its tree
pub code_more : (trees : List CodeText) (n : ℕ) (d : CodeText) (list new : List FolderText) (it : FolderText) → n < length trees
    → new ≡ list ++ it ∷ [] → it.tree.now ≡ get_or trees n d → map (λ f. f.tree.now) list ≡ take n trees → map (λ f. f.tree.now) new ≡ take (n + 1) trees
code_more trees n d list new it low grown is so_far =
    ap (map (λ (f : FolderText). f.tree.now)) grown ∙ map-append (λ (f : FolderText). f.tree.now) list (it ∷ [])
    ∙ ap (λ l. l ++ it.tree.now ∷ []) so_far ∙ ap (λ x. take n trees ++ x ∷ []) is ∙ sym (take_at_read trees n d low).1
