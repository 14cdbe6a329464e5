-- What the laws of readers say: what they find is what the grammar says is there.
use Rattle.std.specs.Prelude.{◌≡◌, ◌↔◌, Bool, true, List, [], ◌++◌, ℕ, map, Some, if◌then◌else◌}
use Rattle.print_grammar.specs.{Token.Mark, Token.Token, Tree.FileTree, Tree.ItemTree, Tree.PackageTree, Reading.IsReading}
use Rattle.print_grammar.specs.{AsRead.bare_file, AsRead.file_as_read, Calls.file_calls, WellNamed.is_well_file}
use Rattle.print_output.specs.Render.{render}
use Rattle.text_trees.specs.Reading.{Reading, Reading.Found, Reading.Refused, Wanted, Wanted.Shallower, then_read, with_first, until, more_in_front, thing_and_more, listed}
use Rattle.text_tokens.specs.Gaps.{Spaced, TextTokens}
use Rattle.text_trees.specs.{Grammar.Documentation, Grammar.ReadsText, Levels.fits_text, Places.window, ReadFiles.text_in_front}
use Rattle.text_trees.specs.{Reads.IsReadAs, Seen.docs_by}
use Rattle.text_trees.specs.TextTree.{NestedTree, TextItem, TextTree, TextItem.AnInterface, TextItem.AWorld, WorldPart.Has}
use Rattle.print_grammar.specs.Tree.{ItemTree.InterfaceItem, ItemTree.WorldItem}

-- A thing is found in front of tokens exactly where the grammar says that it stands there, and it passes a test.
abbrev pub FindsWhatIsRead : {X : Type 0} → (List Token → X → List Token → Type 0) → (X → Bool) → (List Token → Reading X) → Type 0
FindsWhatIsRead {X} Reads fits read = (ts rest : List Token) (x : X) → (read ts ≡ Found x rest) ↔ (Reads ts x rest × (fits x ≡ true))

-- What is found is there by the grammar and passes a test.
abbrev pub FindsNothingElse : {X : Type 0} → (List Token → X → List Token → Type 0) → (X → Bool) → (List Token → Reading X) → Type 0
FindsNothingElse {X} Reads fits read = (ts rest : List Token) (x : X) → read ts ≡ Found x rest → Reads ts x rest × (fits x ≡ true)

-- What is there by the grammar and passes a test is found, where what follows it doesn't go on with it.
abbrev pub FindsBefore : {X : Type 0} → (List Token → Type 0) → (List Token → X → List Token → Type 0) → (X → Bool) → (List Token → Reading X) → Type 0
FindsBefore {X} Ends Reads fits read = (ts rest : List Token) (x : X) → Reads ts x rest → Ends rest → fits x ≡ true → read ts ≡ Found x rest

-- Things one after the other are read one by one: none where tokens end them, and else the first and then those behind it.
abbrev pub OneByOne : {X : Type 0} → (List Token → Bool) → (List Token → Reading X) → Type 0
OneByOne ends read =
    (ts : List Token) → until ends read ts ≡ (if ends ts then Found [] ts else then_read (read ts) (λ x rest. with_first x (until ends read rest)))

-- Things with commas between are read one by one: the first, and then those behind its comma, if there are more.
abbrev pub ListedOneByOne : {X : Type 0} → (List Token → Reading X) → Mark → Type 0
ListedOneByOne read close =
    (ts : List Token)
    → listed read close ts
    ≡ then_read (read ts) (λ x rest. then_read (more_in_front close rest) (λ more rest. thing_and_more x (listed read close rest) more rest))

-- Tokens are found to be a file, with nothing behind it, exactly where the grammar says so and no type in it has more levels than there is room for.
abbrev pub FilesAreRead : Type 0
FilesAreRead =
    (docs : Documentation) (room : ℕ) (ts rest : List Token) (file : TextTree)
    → (text_in_front docs room ts ≡ Found file rest) ↔ (ReadsText docs ts file × (fits_text room file ≡ true) × (rest ≡ []))

-- Where tokens are found to be a file, they are no other.
abbrev pub FoundFilesAreOnly : Type 0
FoundFilesAreOnly =
    (docs : Documentation) (room : ℕ) (ts rest : List Token) (file other : TextTree) → text_in_front docs room ts ≡ Found file rest → ReadsText docs ts other
    → other ≡ file

-- Where tokens are refused, and not for want of levels, they are no file.
abbrev pub RefusedAreNoFiles : Type 0
RefusedAreNoFiles =
    (docs : Documentation) (room : ℕ) (ts rest : List Token) (wanted : Wanted) (file : TextTree) → text_in_front docs room ts ≡ Refused wanted rest
    → ReadsText docs ts file
    → (wanted ≡ Shallower → ⊥) → ⊥

-- Where tokens are refused, they are no file whose types have no more levels than there is room for.
abbrev pub ShallowFilesAreFound : Type 0
ShallowFilesAreFound =
    (docs : Documentation) (room : ℕ) (ts rest : List Token) (wanted : Wanted) (file : TextTree) → text_in_front docs room ts ≡ Refused wanted rest
    → ReadsText docs ts file
    → fits_text room file ≡ true → ⊥

-- Tokens are refused at a place. Whatever has the same tokens before that place, and there the same token, or `@` and the same token behind it, is refused
-- there too, and for the same reason.
abbrev pub RefusalsStandAtPlaces : Type 0
RefusalsStandAtPlaces =
    (docs others : Documentation) (room : ℕ) (ts rest : List Token) (wanted : Wanted) → text_in_front docs room ts ≡ Refused wanted rest
    → (front : List Token) × (ts ≡ front ++ rest)
    × ((other : List Token) → window other ≡ window rest → text_in_front others room (front ++ other) ≡ Refused wanted other)

-- Where tokens are refused, and not for want of levels, no file begins with what stands before the place and then the first token there, or `@` and the
-- token behind it.
abbrev pub NoFileBeginsSo : Type 0
NoFileBeginsSo =
    (docs others : Documentation) (room : ℕ) (ts rest : List Token) (wanted : Wanted) → text_in_front docs room ts ≡ Refused wanted rest
    → (wanted ≡ Shallower → ⊥) → (front : List Token) × (ts ≡ front ++ rest)
    × ((other : List Token) (file : TextTree) → window other ≡ window rest → ReadsText others (front ++ other) file → ⊥)

-- the documentation that stands in front of tokens, by the gaps in front of them
abbrev pub docs_here : List Spaced → Documentation
docs_here found = docs_by (map (λ s. s.gap) found)

-- the tokens alone
abbrev pub tokens_here : List Spaced → List Token
tokens_here found = map (λ s. s.token) found

-- The tokens of a text are found to be a file, with nothing behind it, exactly where the text is read as that file by the grammar and no type in it has
-- more levels than there is room for.
abbrev pub TextsAreRead : Type 0
TextsAreRead =
    (room : ℕ) (text : List ℕ) (found : List Spaced) (file : TextTree) → TextTokens text found
    → (text_in_front (docs_here found) room (tokens_here found) ≡ Found file []) ↔ (IsReadAs text file × (fits_text room file ≡ true))

-- Where the tokens of a text are refused, and not for want of levels, the text has no reading.
abbrev pub RefusedTextsAreNotRead : Type 0
RefusedTextsAreNotRead =
    (room : ℕ) (text : List ℕ) (found : List Spaced) (rest : List Token) (wanted : Wanted) (file : TextTree) → TextTokens text found
    → text_in_front (docs_here found) room (tokens_here found) ≡ Refused wanted rest → (wanted ≡ Shallower → ⊥) → IsReadAs text file → ⊥

-- A text has one reading at most.
abbrev pub OneReading : Type 0
OneReading = (text : List ℕ) (one other : TextTree) → IsReadAs text one → IsReadAs text other → one ≡ other

-- A file, as a text: each item is one, and nothing is included.
abbrev pub item_as_text : ItemTree → TextItem
item_as_text (InterfaceItem docs gates name members) = AnInterface docs gates name members
item_as_text (WorldItem docs gates name members) = AWorld docs gates name (map Has members)

abbrev pub nested_as_text : PackageTree → NestedTree
nested_as_text tree = record { head = tree.head; items = map item_as_text tree.items }

abbrev pub file_as_text : FileTree → TextTree
file_as_text file = record { head = Some file.main.head; items = map item_as_text file.main.items; nested = map nested_as_text file.nested }

-- A text that is read by the grammar of printed text is read here, as the same file but for documentation.
abbrev pub PrintedTextsAreRead : Type 0
PrintedTextsAreRead =
    (text : List ℕ) (file : FileTree) → IsReading text file
    → (own : FileTree) × IsReadAs text (file_as_text own) × (bare_file (λ ty. ty) own ≡ file)

-- The tokens of the text of a tree whose names are labels and whose versions are versions are found to be the tree, if no type in it has more levels than
-- there is room for.
abbrev pub PrintedFilesAreFound : Type 0
PrintedFilesAreFound =
    (room : ℕ) (emits_docs : Bool) (file : FileTree) (found : List Spaced) → is_well_file file ≡ true → fits_text room (file_as_text (file_as_read file)) ≡ true
    → TextTokens (render (file_calls emits_docs file)) found
    → (own : FileTree) × (text_in_front (docs_here found) room (tokens_here found) ≡ Found (file_as_text own) [])
    × (bare_file (λ ty. ty) own ≡ file_as_read file)
