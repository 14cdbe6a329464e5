-- Readers find exactly what is there.
use Rattle.std.proofs.Common.{◌≡◌, refl, sym, ap, ◌∙◌, ℕ, Bool, true, false, List, [], ◌++◌}
use Rattle.text_trees.specs.{Places.window, TextTree.TextTree}
use Rattle.text_trees.proofs.{Steady.SteadyAt, SteadyFiles.nothing, SteadyFiles.text-steady, Stopping.refused_with_any}
use Rattle.print_grammar.specs.{Token.Token, Token.Mark.Less}
use Rattle.print_grammar.specs.Grammar.{ReadsType}
use Rattle.text_trees.specs.Grammar.{Documentation, ReadsText, ReadsResourceMember, ReadsDeclared, ReadsMember, ReadsExtern, ReadsWorldMember, ReadsOtherName, ReadsPart, ReadsItem, ReadsNested}
use Rattle.text_trees.specs.Reading.{Reading, Reading.Found, Reading.Refused, Wanted, Wanted.Shallower, begins}
use Rattle.text_trees.specs.{ReadTypes.type_in_front, ReadDeclared.resource_member_in_front, ReadDeclared.declared_in_front}
use Rattle.text_trees.specs.ReadFiles.{member_in_front, extern_in_front, world_member_in_front, other_name_in_front, part_in_front, item_in_front, nested_in_front, text_in_front}
use Rattle.text_trees.specs.Levels.{fits_type, fits_resource_member, fits_declared, fits_member, fits_extern, fits_world_member, fits_part, fits_item, fits_nested, levels}
use Rattle.text_trees.specs.Laws.{FindsWhatIsRead, FindsNothingElse, FindsBefore, FilesAreRead, FoundFilesAreOnly, RefusedAreNoFiles, ShallowFilesAreFound, RefusalsStandAtPlaces, NoFileBeginsSo}
use Rattle.print_grammar.specs.{Token.Mark.Arrow, Token.Mark.At, Token.Mark.Colon, Token.Mark.Semi, Grammar.ReadsPath, Grammar.ReadsSignature}
use Rattle.text_trees.specs.Grammar.{ReadsPrefix}
use Rattle.text_trees.specs.{ReadTypes.signature_in_front, ReadDeclared.path_in_front, ReadDeclared.prefix_in_front, Levels.fits_signature}
use Rattle.text_trees.proofs.{MarksFound.prefix-sound, DeclaredFound.path-sound, TypesFound.signature-sound, Fitting.signature-fits, MarksComplete.prefix-complete, DeclaredComplete.path-complete, TypesComplete.signature-complete}
use Rattle.text_trees.proofs.Finding.{Sound, is_there}
use Rattle.text_trees.proofs.Fitting.{Passes, type-fits, resource_member-fits, declared-fits, member-fits, extern-fits, world_member-fits, part-fits, item-fits, nested-fits, text-fits}
use Rattle.text_trees.proofs.{TypesFound.type-sound, TypesComplete.type-complete, DeclaredFound.resource_member-sound, DeclaredFound.declared-sound, DeclaredComplete.resource_member-complete, DeclaredComplete.declared-complete}
use Rattle.text_trees.proofs.FilesFound.{member-sound, extern-sound, world_member-sound, other_name-sound, part-sound, item-sound, nested-sound, text-sound}
use Rattle.text_trees.proofs.FilesComplete.{member-complete, extern-complete, world_member-complete, other_name-complete, part-complete, item-complete}
use Rattle.text_trees.proofs.TextsComplete.{nested-complete, text-complete}
use Rattle.text_trees.proofs.{Enough.text-room, Extending.Extends, Extending.Extends.same, Extending.Extends.too_deep, Extending.text-extends}
use Rattle.std.proofs.lemmas.Bool.{leb-true}

-- what is found is there and passes a test, if each is known
nothing_else : {X : Type 0} {Reads : List Token → X → List Token → Type 0} {fits : X → Bool} {read : List Token → Reading X} → Sound Reads read → Sound (Passes fits) read
    → FindsNothingElse Reads fits read
nothing_else sound fit ts rest x e = (is_there sound ts rest x e, is_there fit ts rest x e)

exactly : {X : Type 0} {Reads : List Token → X → List Token → Type 0} {fits : X → Bool} {read : List Token → Reading X} → Sound Reads read → Sound (Passes fits) read
    → ((ts rest : List Token) (x : X) → Reads ts x rest → fits x ≡ true → read ts ≡ Found x rest) → FindsWhatIsRead Reads fits read
exactly sound fit complete ts rest x = (nothing_else sound fit ts rest x, λ r. complete ts rest x r.0 r.1)

module _ (room : ℕ) where
  pub types_found : FindsNothingElse ReadsType (fits_type room) (type_in_front room)
  types_found = nothing_else (type-sound room) (type-fits room)

  pub types_there : FindsBefore (λ rest. begins Less rest ≡ false) ReadsType (fits_type room) (type_in_front room)
  types_there ts rest ty r e h = type-complete room r e (leb-true (levels ty) room h)

module _ (docs : Documentation) (room : ℕ) where
  pub declared_exact : FindsWhatIsRead (ReadsDeclared docs) (fits_declared room) (declared_in_front docs room)
  declared_exact = exactly (declared-sound docs room) (declared-fits docs room) (λ ts rest declared r h. declared-complete docs room r h)

  pub resource_members_exact : FindsWhatIsRead (ReadsResourceMember docs) (fits_resource_member room) (resource_member_in_front docs room)
  resource_members_exact = exactly (resource_member-sound docs room) (resource_member-fits docs room) (resource_member-complete docs room)

  pub members_exact : FindsWhatIsRead (ReadsMember docs) (fits_member room) (member_in_front docs room)
  members_exact = exactly (member-sound docs room) (member-fits docs room) (member-complete docs room)

  pub externs_exact : FindsWhatIsRead (ReadsExtern docs) (fits_extern room) (extern_in_front docs room)
  externs_exact = exactly (extern-sound docs room) (extern-fits docs room) (extern-complete docs room)

  pub world_members_exact : FindsWhatIsRead (ReadsWorldMember docs) (fits_world_member room) (world_member_in_front docs room)
  world_members_exact = exactly (world_member-sound docs room) (world_member-fits docs room) (world_member-complete docs room)

  pub parts_found : FindsNothingElse (ReadsPart docs) (fits_part room) (part_in_front docs room)
  parts_found = nothing_else (part-sound docs room) (part-fits docs room)

  pub parts_there : FindsBefore (λ rest. begins Semi rest ≡ false) (ReadsPart docs) (fits_part room) (part_in_front docs room)
  parts_there = part-complete docs room

  pub items_exact : FindsWhatIsRead (ReadsItem docs) (fits_item room) (item_in_front docs room)
  items_exact = exactly (item-sound docs room) (item-fits docs room) (item-complete docs room)

  pub packages_exact : FindsWhatIsRead (ReadsNested docs) (fits_nested room) (nested_in_front docs room)
  packages_exact = exactly (nested-sound docs room) (nested-fits docs room) (nested-complete docs room)

-- ---- parts

-- what is found is there, whatever it is
any_found : {X : Type 0} {Reads : List Token → X → List Token → Type 0} {read : List Token → Reading X} → Sound Reads read → FindsNothingElse Reads (λ x. true) read
any_found sound ts rest x e = (is_there sound ts rest x e, refl)

pub other_names_exact : FindsWhatIsRead ReadsOtherName (λ name. true) other_name_in_front
other_names_exact ts rest name = (any_found other_name-sound ts rest name, λ r. other_name-complete ts rest name r.0)

pub prefixes_found : (docs : Documentation) → FindsNothingElse (ReadsPrefix docs) (λ prefix. true) (prefix_in_front docs)
prefixes_found docs = any_found prefix-sound

pub prefixes_there : (docs : Documentation) → FindsBefore (λ rest. begins At rest ≡ false) (ReadsPrefix docs) (λ prefix. true) (prefix_in_front docs)
prefixes_there docs ts rest prefix r e h = prefix-complete r e

pub paths_found : FindsNothingElse ReadsPath (λ path. true) path_in_front
paths_found = any_found path-sound

pub paths_there : FindsBefore (λ rest. (begins Colon rest ≡ false) × (begins At rest ≡ false)) ReadsPath (λ path. true) path_in_front
paths_there ts rest path r e h = path-complete r e.0 e.1

pub signatures_found : (room : ℕ) → FindsNothingElse ReadsSignature (fits_signature room) (signature_in_front room)
signatures_found room = nothing_else (signature-sound room) (signature-fits room)

pub signatures_there : (room : ℕ) → FindsBefore (λ rest. (begins Less rest ≡ false) × (begins Arrow rest ≡ false)) ReadsSignature (fits_signature room) (signature_in_front room)
signatures_there room ts rest signature r e h = signature-complete room r e.0 e.1 h

-- ---- files

pub files_are_read : FilesAreRead
files_are_read docs room ts rest file = (
  λ e. let r = is_there (text-sound docs room) ts rest file e in (r.0, is_there (text-fits docs room) ts rest file e, r.1),
  λ r. text-complete docs room r.0 r.1 ∙ ap (Found file) (sym r.2),
)

-- what is found with some room is found with more
found_with_more : {X : Type 0} {r s : Reading X} {x : X} {rest : List Token} → Extends r s → r ≡ Found x rest → s ≡ Found x rest
found_with_more same e = e
found_with_more too_deep e = absurd (cc e)

-- what is refused with some room, but for want of levels, is refused with more
refused_with_more : {X : Type 0} {r s : Reading X} {wanted : Wanted} {rest : List Token} → Extends r s → r ≡ Refused wanted rest → (wanted ≡ Shallower → ⊥) → s ≡ Refused wanted rest
refused_with_more same e n = e
refused_with_more too_deep e n = absurd (n (cc e))

pub found_files_are_only : FoundFilesAreOnly
found_files_are_only docs room ts rest file other e r =
    let (more, above, enough) = text-room room other in
    let found = found_with_more ((text-extends docs room more above).at ts) e in
    let again = text-complete docs more r enough in cc (found, again)

-- a list of tokens is one file at most
pub one_file : (docs : Documentation) (ts : List Token) (one other : TextTree) → ReadsText docs ts one → ReadsText docs ts other → one ≡ other
one_file docs ts one other r s =
    let (room, above, enough) = text-room 0 other in found_files_are_only docs room ts [] other one (text-complete docs room s enough) r

pub refused_are_no_files : RefusedAreNoFiles
refused_are_no_files docs room ts rest wanted file e r n =
    let (more, above, enough) = text-room room file in
    let refused = refused_with_more ((text-extends docs room more above).at ts) e n in
    let found = text-complete docs more r enough in absurd (cc (refused, found))

pub shallow_files_are_found : ShallowFilesAreFound
shallow_files_are_found docs room ts rest wanted file e r h = let found = text-complete docs room r h in absurd (cc (e, found))

-- ---- places

-- a steady reader that refuses does so at a place
refused_at : {X : Type 0} {read : List Token → Reading X} {ts rest : List Token} {wanted : Wanted} (r : Reading X) → SteadyAt read ts r → r ≡ Refused wanted rest
    → (front : List Token) × (ts ≡ front ++ rest) × ((other : List Token) → window other ≡ window rest → read (front ++ other) ≡ Refused wanted other)
refused_at {rest = rest} (Refused w after) s e =
    let same : after ≡ rest = cc e in
    (s.front, s.before ∙ ap (λ x. s.front ++ x) same, λ other h. s.alike other (h ∙ ap window (sym same)) ∙ ap (λ x. Refused x other) (cc e))
refused_at (Found x after) s e = absurd (cc e)

pub refusals_stand_at_places : RefusalsStandAtPlaces
refusals_stand_at_places docs others room ts rest wanted e =
    let bare = refused_with_any docs nothing room ts rest wanted e in
    let (front, before, alike) = refused_at (text_in_front nothing room ts) ((text-steady room).at ts) bare in
    (front, before, λ other h. refused_with_any nothing others room (front ++ other) other wanted (alike other h))

pub no_file_begins_so : NoFileBeginsSo
no_file_begins_so docs others room ts rest wanted e n =
    let (front, before, alike) = refusals_stand_at_places docs others room ts rest wanted e in
    (front, before, λ other file h r. refused_are_no_files others room (front ++ other) other wanted file (alike other h) r n)
