-- What is printed of a file is read as it.
use Rattle.std.proofs.Common.{rules as std_rules, ◌≡◌, refl, sym, ◌∙◌, subst, ℕ, Bool, true, false, List, [], ◌∷◌, ◌++◌, append_assoc, codes, map}
use Rattle.std.specs.List.{list_all, flat_map}
use Rattle.wit_model.specs.Names.{is_label}
use Rattle.print_grammar.specs.{Keyword.Keyword as WordKey, AsRead.type_as_read, AsRead.bare_item, AsRead.bare_package, AsRead.file_as_read}
use Rattle.print_grammar.specs.Calls.{line_after_calls, package_item_calls, package_outer_calls, package_calls, more_nested_calls, nested_calls, file_calls}
use Rattle.print_grammar.specs.{Token.Token, Token.Tokens, Token.Token.Key, Reading.IsReading, Reading.IsOnlyReading, Token.Tokens.no_tokens}
use Rattle.print_grammar.specs.{Tree.ItemTree, Tree.PackageHead, Tree.PackageTree, Tree.FileTree, Tree.ItemTree.InterfaceItem, Tree.ItemTree.WorldItem}
use Rattle.print_grammar.specs.Grammar.{ReadsItem, ReadsItems, ReadsHead, ReadsNested, ReadsAllNested, ReadsFile}
use Rattle.print_grammar.specs.WellNamed.{is_well_gates, is_well_item, is_well_head, is_well_package, is_well_file}
use Rattle.print_output.specs.{OutputCall.OutputCall, OutputCall.is_one_line, Render.render}
use Rattle.print_output.specs.OutputCall.OutputCall.{Keyword, Semicolon, IndentStart, IndentEnd, Newline}
use Rattle.print_grammar.proofs.{GrammarUnique.reading-unique, TextOf.text_of, TextOf.rendered, PrefixReads.docs_read, PrefixReads.gates_read}
use Rattle.print_grammar.proofs.{TokenFacts.id_is, MemberReads.empty_line, MemberReads.members_read, MemberReads.world_members_read}
use Rattle.print_grammar.proofs.Printing.{Follows, Printed, EndsWord, relist, word_call, id_call, line_begins, indents, semicolon_call}
use Rattle.print_grammar.proofs.{Printing.Prints.by_keyword, Printing.Prints.by_type, DeclaredReads.start_call, DeclaredReads.members_repeat}
use Rattle.print_grammar.proofs.SignatureReads.{space_before}
use Rattle.print_grammar.proofs.PathReads.{EndsVersion, colon_id_call, version_reads, version_ends_word}
use Rattle.base_lemmas.proofs.Bools.{left_of, right_of}
use Rattle.print_output.specs.declared.type_kind.TypeKind.TheVariants as kind

five_lists : (a b c d e : List OutputCall) → (((a ++ b) ++ c) ++ d) ++ e ≡ a ++ (b ++ (c ++ (d ++ e)))
five_lists a b c d e = simp append_assoc

line_after : (is_main : Bool) {more : List OutputCall} {ts : List Token} → Follows true more ts → Follows true (line_after_calls is_main ++ more) ts
line_after x f = search (std_rules, empty_line)

module _ (emits_docs : Bool) where
  -- ---- items

  -- What is printed of an interface or a world of a package is read as it.
  pub item_reads : (is_main : Bool) (item : ItemTree) → is_well_item item ≡ true → (more : List OutputCall) (ts : List Token) → Follows true more ts
      → Printed true (package_item_calls emits_docs is_main item ++ more) (λ before. ReadsItem before (bare_item type_as_read item) ts)
  item_reads is_main (InterfaceItem docs gates name members) h more ts f =
      let g = right_of (list_all is_one_line docs) _ h in
      let n = right_of (is_well_gates gates) _ g in
      let i = members_read emits_docs false members (right_of (is_label name) _ n) (line_after is_main f) in
      let line = line_begins (Keyword (codes "interface")) refl (word_call (Key WordKey.Interface) by_keyword refl refl (λ level. refl)
      (space_before (id_call name (by_type {kind = kind.InterfaceDeclaration}) (left_of _ _ n) (λ level. refl) (start_call i.1)))) in
      let p = gates_read gates (left_of _ _ g) line in
      relist (p.0, docs_read emits_docs docs (left_of _ _ h) p.1, ReadsItem.interface_item p.2 (id_is name) i.2) (simp append_assoc)
  item_reads is_main (WorldItem docs gates name members) h more ts f =
      let g = right_of (list_all is_one_line docs) _ h in
      let n = right_of (is_well_gates gates) _ g in
      let i = world_members_read emits_docs false false members (right_of (is_label name) _ n) f in
      let line = line_begins (Keyword (codes "world")) refl (word_call (Key WordKey.World) by_keyword refl refl (λ level. refl)
      (space_before (id_call name (by_type {kind = kind.WorldDeclaration}) (left_of _ _ n) (λ level. refl) (start_call i.1)))) in
      let p = gates_read gates (left_of _ _ g) line in
      relist (p.0, docs_read emits_docs docs (left_of _ _ h) p.1, ReadsItem.world_item p.2 (id_is name) i.2) (simp append_assoc)

  -- items up to a nested package or the end
  items_read : (items : List ItemTree) → list_all is_well_item items ≡ true → {more : List OutputCall} {ts : List Token} → Follows true more ts
      → Printed true (flat_map (package_item_calls emits_docs true) items ++ more) (λ before. ReadsItems before (map (bare_item type_as_read) items) ts)
  items_read [] h {ts = ts} f = (ts, f, ReadsItems.no_items)
  items_read (item ∷ items) h f =
      let r = items_read items (right_of (is_well_item item) _ h) f in
      let i = item_reads true item (left_of _ _ h) _ _ r.1 in relist (i.0, i.1, ReadsItems.next_item i.2 r.2) (simp append_assoc)

  -- ---- packages

  -- the name of a package, as it is read
  abbrev bare_head : PackageHead → PackageHead
  bare_head head = record head { docs = [] }

  abbrev HeadIs : PackageHead → List Token → List Token → Type 0
  HeadIs head after before = (tokens : List Token) × (before ≡ Key WordKey.Package ∷ tokens) × ReadsHead tokens (bare_head head) after

  head_reads : (head : PackageHead) → is_well_head head ≡ true → (more : List OutputCall) {ts : List Token} → Follows false more ts → EndsWord more → EndsVersion more
      → Printed true (package_outer_calls emits_docs head ++ more) (HeadIs head ts)
  head_reads head h more f word ends =
      let n = right_of (list_all is_one_line head.docs) _ h in
      let m = right_of (is_label head.namespace) _ n in
      let v = version_reads head.version kind.VersionDeclaration (right_of (is_label head.name) _ m) f ends in
      let named = colon_id_call head.namespace kind.NamespaceDeclaration (left_of _ _ n)
      (id_call head.name (by_type {kind = kind.PackageNameDeclaration}) (left_of _ _ m) (version_ends_word head.version kind.VersionDeclaration more word) v.1) in
      let line = line_begins (Keyword (codes "package")) refl (word_call (Key WordKey.Package) by_keyword refl refl (λ level. refl) (space_before named)) in
      relist (_, docs_read emits_docs head.docs (left_of _ _ h) line, (_, refl, ReadsHead.head (id_is head.namespace) (id_is head.name) v.2)) (simp append_assoc)

  -- a nested package
  nested_reads : (tree : PackageTree) → is_well_package tree ≡ true → (more : List OutputCall) (ts : List Token) → Follows true more ts
      → Printed true (package_calls emits_docs false tree ++ more) (λ before. ReadsNested before (bare_package type_as_read tree) ts)
  nested_reads tree h more ts f =
      let i = members_repeat (package_item_calls emits_docs false) is_well_item (bare_item type_as_read) ReadsItem (item_reads false) tree.items (right_of (is_well_head tree.head) _ h) f in
      let p = head_reads tree.head (left_of _ _ h) (IndentStart ∷ _) (start_call i.1) (λ level. refl) (λ level. refl) in
      relist (p.0, p.1, rw p.2.1 (ReadsNested.nested_package p.2.2 i.2)) (five_lists (package_outer_calls emits_docs tree.head) (IndentStart ∷ []) _ (IndentEnd ∷ []) more)

  -- nothing more
  nothing_follows : Follows true [] []
  nothing_follows = record { at = λ level. no_tokens refl }

  abbrev AllNested : List PackageTree → List Token → Type 0
  AllNested trees before = ReadsAllNested before (map (bare_package type_as_read) trees)

  more_nested_read : (trees : List PackageTree) → Printed true (nested_calls emits_docs trees) (AllNested trees) → Printed true (more_nested_calls emits_docs trees) (AllNested trees)
  more_nested_read [] p = p
  more_nested_read (tree ∷ trees) p = (p.0, empty_line (empty_line p.1), p.2)

  nested_read : (trees : List PackageTree) → list_all is_well_package trees ≡ true → Printed true (nested_calls emits_docs trees) (AllNested trees)
  nested_read [] h = ([], nothing_follows, ReadsAllNested.nested_end)
  nested_read (tree ∷ trees) h =
      let r = more_nested_read trees (nested_read trees (right_of (is_well_package tree) _ h)) in
      let i = nested_reads tree (left_of _ _ h) _ _ r.1 in (i.0, i.1, ReadsAllNested.next_nested i.2 r.2)

  -- ---- the file

  file_printed : (file : FileTree) → is_well_file file ≡ true → Printed true (file_calls emits_docs file) (λ before. ReadsFile before (file_as_read file))
  file_printed file h =
      let r = nested_read file.nested (right_of (is_well_package file.main) _ h) in
      let i = items_read file.main.items (right_of (is_well_head file.main.head) _ (left_of _ _ h)) r.1 in
      let p = head_reads file.main.head (left_of _ _ (left_of _ _ h)) (Semicolon ∷ Newline ∷ _) (semicolon_call (empty_line i.1)).follows (λ level. refl) (λ level. refl) in
      relist (p.0, p.1, rw p.2.1 (ReadsFile.file p.2.2 i.2 r.2)) (five_lists (package_outer_calls emits_docs file.main.head) (Semicolon ∷ Newline ∷ []) _ [] _)

-- ---- the text

-- whether the first call indents, if it stands where a line has just begun
abbrev first_indents : List OutputCall → Bool
first_indents [] = true
first_indents (call ∷ calls) = indents call

-- Without indentation it is the same whether a line has just begun.
first_line : (calls : List OutputCall) → first_indents calls ≡ true → text_of true 0 calls ≡ text_of false 0 calls
first_line x h = search std_rules

file_begins : (emits_docs : Bool) (file : FileTree) → first_indents (file_calls emits_docs file) ≡ true
file_begins false file = refl
file_begins true file = go file.main.head.docs
  where
    go : (docs : List (List ℕ)) → first_indents (file_calls true (record file { main = record file.main { head = record file.main.head { docs = docs } } })) ≡ true
    go [] = refl
    go (line ∷ docs) = refl

-- The text of the calls of a file, with documentation or without, is read as the file, if it is well named.
pub file_reads : (emits_docs : Bool) (file : FileTree) → is_well_file file ≡ true → IsReading (render (file_calls emits_docs file)) (file_as_read file)
file_reads emits_docs file h =
    let p = file_printed emits_docs file h in
    let text = sym (first_line (file_calls emits_docs file) (file_begins emits_docs file)) in
    record { tokens = p.0; spelled = subst (λ x. Tokens x p.0) (sym (rendered (file_calls emits_docs file) ∙ text)) (p.1.at 0); parsed = p.2 }

-- It is read as nothing else.
pub file_reads_only : (emits_docs : Bool) (file : FileTree) → is_well_file file ≡ true → IsOnlyReading (render (file_calls emits_docs file)) (file_as_read file)
file_reads_only emits_docs file h = search (std_rules, file_reads, reading-unique)
