-- What is printed of a tree is found again, but for its documentation.
use Rattle.std.proofs.Common.{◌≡◌, refl, sym, ap, ◌∙◌, subst, ℕ, Bool, true, List, [], ◌∷◌, map}
use Rattle.std.specs.{List.list_all}
use Rattle.std.proofs.lemmas.List.{map-id}
use Rattle.std.proofs.lemmas.Iterator.Adapters.{option_map_id}
use Rattle.wit_model.specs.Rules.{passes}
use Rattle.print_grammar.specs.{Token.Token, Token.Tokens, Reading.IsOnlyReading, WellNamed.is_well_file}
use Rattle.print_grammar.specs.Tree.{CaseTree, SignatureTree, ResourceMember, Declared, MemberTree, ExternTree, WorldMember, ItemTree, PackageTree, FileTree}
use Rattle.print_grammar.specs.Tree.{ResourceMember.Constructor, ResourceMember.Method, ResourceMember.Static}
use Rattle.print_grammar.specs.Tree.Declared.{RecordOf, VariantOf, FlagsOf, EnumOf, AliasOf, ResourceOf}
use Rattle.print_grammar.specs.Tree.{ExternTree.Path, ExternTree.NamedFunction, ExternTree.NamedPath, ExternTree.NamedInterface}
use Rattle.print_grammar.specs.Tree.{MemberTree.UseMember, MemberTree.TypeMember, MemberTree.FunctionMember, ItemTree.InterfaceItem, ItemTree.WorldItem}
use Rattle.print_grammar.specs.Tree.WorldMember.{WorldUse, WorldType, WorldImport, WorldExport}
use Rattle.print_grammar.specs.AsRead.{bare_case, bare_field, bare_signature, bare_resource_member, bare_declared, bare_member, bare_extern, bare_world_member, bare_item, bare_package, bare_file, file_as_read}
use Rattle.print_grammar.specs.Calls.{file_calls}
use Rattle.print_output.specs.Render.{render}
use Rattle.text_tokens.specs.Gaps.{Spaced, TextTokens}
use Rattle.text_trees.specs.{Grammar.ReadsText, TextTree.WorldPart.Has}
use Rattle.text_trees.specs.Laws.{PrintedFilesAreFound, PrintedTextsAreRead, docs_here, item_as_text, nested_as_text, file_as_text}
use Rattle.text_trees.specs.Levels.{fits_type, fits_signature, fits_field, fits_case, fits_resource_member, fits_declared, fits_member, fits_extern, fits_world_member, fits_part, fits_item, fits_nested, fits_text}
use Rattle.text_trees.proofs.{Printed.file_kept, Texts.texts_are_read}

-- ---- documentation makes no difference to levels

-- a test that passes what is made of elements as it passes them
all_same : {X : Type 0} (test : X → Bool) (bare : X → X) → ((x : X) → test (bare x) ≡ test x) → (xs : List X) → list_all test (map bare xs) ≡ list_all test xs
all_same test bare same [] = refl
all_same test bare same (x ∷ xs) = rw (same x, all_same test bare same xs) refl

module _ (room : ℕ) where
  case_same : (c : CaseTree) → fits_case room (bare_case (λ ty. ty) c) ≡ fits_case room c
  case_same c = ap (passes (fits_type room)) (option_map_id c.payload)

  signature_same : (signature : SignatureTree) → fits_signature room (bare_signature (λ ty. ty) signature) ≡ fits_signature room signature
  signature_same signature = rw (map-id signature.params, option_map_id signature.result) refl

  resource_member_same : (member : ResourceMember) → fits_resource_member room (bare_resource_member (λ ty. ty) member) ≡ fits_resource_member room member
  resource_member_same (Constructor prefix params result) = rw (map-id params, option_map_id result) refl
  resource_member_same (Method prefix name signature) = signature_same signature
  resource_member_same (Static prefix name signature) = signature_same signature

  declared_same : (declared : Declared) → fits_declared room (bare_declared (λ ty. ty) declared) ≡ fits_declared room declared
  declared_same (RecordOf name fields) = all_same (fits_field room) (bare_field (λ ty. ty)) (λ field. refl) fields
  declared_same (VariantOf name cases) = all_same (fits_case room) (bare_case (λ ty. ty)) case_same cases
  declared_same (FlagsOf name flags) = refl
  declared_same (EnumOf name cases) = refl
  declared_same (AliasOf name ty) = refl
  declared_same (ResourceOf name members) = all_same (fits_resource_member room) (bare_resource_member (λ ty. ty)) resource_member_same members

  member_same : (member : MemberTree) → fits_member room (bare_member (λ ty. ty) member) ≡ fits_member room member
  member_same (UseMember prefix path names) = refl
  member_same (TypeMember prefix declared) = declared_same declared
  member_same (FunctionMember prefix name signature) = signature_same signature

  extern_same : (e : ExternTree) → fits_extern room (bare_extern (λ ty. ty) e) ≡ fits_extern room e
  extern_same (Path path) = refl
  extern_same (NamedFunction name signature) = signature_same signature
  extern_same (NamedPath name path) = refl
  extern_same (NamedInterface name members) = all_same (fits_member room) (bare_member (λ ty. ty)) member_same members

  world_member_same : (member : WorldMember) → fits_world_member room (bare_world_member (λ ty. ty) member) ≡ fits_world_member room member
  world_member_same (WorldUse prefix path names) = refl
  world_member_same (WorldType prefix declared) = declared_same declared
  world_member_same (WorldImport prefix e) = extern_same e
  world_member_same (WorldExport prefix e) = extern_same e

  -- what a world has, as what a world of a text has
  parts_same : (members : List WorldMember)
      → list_all (fits_part room) (map Has (map (bare_world_member (λ ty. ty)) members)) ≡ list_all (fits_part room) (map Has members)
  parts_same [] = refl
  parts_same (member ∷ members) = rw (world_member_same member, parts_same members) refl

  item_same : (item : ItemTree) → fits_item room (item_as_text (bare_item (λ ty. ty) item)) ≡ fits_item room (item_as_text item)
  item_same (InterfaceItem docs gates name members) = all_same (fits_member room) (bare_member (λ ty. ty)) member_same members
  item_same (WorldItem docs gates name members) = parts_same members

  items_same : (items : List ItemTree)
      → list_all (fits_item room) (map item_as_text (map (bare_item (λ ty. ty)) items)) ≡ list_all (fits_item room) (map item_as_text items)
  items_same [] = refl
  items_same (item ∷ items) = rw (item_same item, items_same items) refl

  all_nested_same : (trees : List PackageTree)
      → list_all (fits_nested room) (map nested_as_text (map (bare_package (λ ty. ty)) trees)) ≡ list_all (fits_nested room) (map nested_as_text trees)
  all_nested_same [] = refl
  all_nested_same (tree ∷ trees) = rw (items_same tree.items, all_nested_same trees) refl

  file_same : (file : FileTree) → fits_text room (file_as_text (bare_file (λ ty. ty) file)) ≡ fits_text room (file_as_text file)
  file_same file = rw (items_same file.main.items, all_nested_same file.nested) refl

-- ---- texts

pub printed_texts_are_read : ((text : List ℕ) (ts : List Token) → Tokens text ts → (found : List Spaced) × TextTokens text found × (map (λ s. s.token) found ≡ ts))
    → PrintedTextsAreRead
printed_texts_are_read stay text file r =
    let (found, spelled, same) = stay text r.tokens r.spelled in
    let (tree, reads, bare) = file_kept (docs_here found) r.parsed in
    (tree, record { found = found; spelled = spelled; parsed = subst (λ ts. ReadsText (docs_here found) ts (file_as_text tree)) (sym same) reads }, bare)

pub printed_files_are_found : PrintedTextsAreRead
    → ((emits_docs : Bool) (file : FileTree) → is_well_file file ≡ true → IsOnlyReading (render (file_calls emits_docs file)) (file_as_read file)) → PrintedFilesAreFound
printed_files_are_found read well room emits_docs file found named fits t =
    let (tree, r, bare) = read (render (file_calls emits_docs file)) (file_as_read file) (well emits_docs file named).reading in
    let fit : fits_text room (file_as_text tree) ≡ true = sym (file_same room tree) ∙ (ap (λ x. fits_text room (file_as_text x)) bare ∙ fits) in
    (tree, (texts_are_read room (render (file_calls emits_docs file)) found (file_as_text tree) t).1 (r, fit), bare)
