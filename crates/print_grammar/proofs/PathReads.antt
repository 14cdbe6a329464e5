-- What is printed of a path and of a use is read as it.
use Rattle.std.proofs.Common.{rules as std_rules, ◌≡◌, refl, subst, ℕ, true, false, nat_lt, length, List, [], ◌∷◌, ◌++◌, append_assoc, codes, Option, Some, None, map}
use Rattle.wit_model.specs.{Names.is_label, Names.is_version_text, Rules.passes}
use Rattle.print_grammar.specs.{Keyword.escaped, Token.Token, WellNamed.is_well_path, WellNamed.is_well_used, WellNamed.is_well_use, WellNamed.are_well_some}
use Rattle.print_grammar.specs.{Keyword.Keyword.As, Keyword.Keyword.Use, Token.Token.Punctuation, Token.Token.Key, Token.Token.VersionText}
use Rattle.print_grammar.specs.Calls.{path_calls, version_calls, used_name_calls, own_name_calls, separated, space as space_call}
use Rattle.print_grammar.specs.Token.Mark.{Colon, Slash, At, Dot, OpenBrace, CloseBrace, Semi}
use Rattle.print_grammar.specs.{Tree.PathTree, Tree.UsedName, Grammar.CommaList, Grammar.ReadsPath, Grammar.ReadsVersion, Grammar.ReadsUsedName, Grammar.ReadsUse}
use Rattle.print_grammar.specs.Tree.PathTree.{Local, Full}
use Rattle.print_output.specs.OutputCall.{OutputCall}
use Rattle.print_output.specs.OutputCall.OutputCall.{Keyword, Ty, Str, Semicolon}
use Rattle.print_output.specs.declared.type_kind.TypeKind.{TypeKind}
use Rattle.print_grammar.proofs.{TokenFacts.id_at, TokenFacts.slash_at, TokenFacts.id_token, TokenFacts.id_is, TextOf.text_of}
use Rattle.print_grammar.proofs.VersionFacts.{version_at, ends_version}
use Rattle.print_grammar.proofs.Printing.{Follows, Printed, EndsWord, Ended, relist, word_call, id_call, line_feed, mark}
use Rattle.print_grammar.proofs.{Printing.Prints.by_keyword, Printing.Prints.by_type, SignatureReads.listed_reads, SignatureReads.space_before}
use Rattle.base_lemmas.proofs.{Bools.left_of, Bools.right_of, Lists.identity}
use Rattle.print_output.specs.declared.type_kind.TypeKind.TheVariants as kind

-- no version goes on into the text of the calls
abbrev pub EndsVersion : List OutputCall → Type 0
EndsVersion calls = (level : ℕ) → ends_version (text_of false level calls) ≡ true

pub version_reads : (version : Option (List ℕ)) (of_kind : TypeKind) → passes is_version_text version ≡ true → {more : List OutputCall} {ts : List Token} → Follows false more ts → EndsVersion more
    → Printed false (version_calls version of_kind ++ more) (λ before. ReadsVersion before version ts)
version_reads None of_kind h {ts = ts} f ends = (ts, f, ReadsVersion.no_version)
version_reads (Some version) of_kind h {more} {ts} f ends =
    (Punctuation At ∷ VersionText version ∷ ts, record { at = λ level. mark At refl (version_at version (text_of false level more) h (ends level) (f.at level)) }, ReadsVersion.with_version)

pub version_ends_word : (version : Option (List ℕ)) (of_kind : TypeKind) (more : List OutputCall) → EndsWord more → EndsWord (version_calls version of_kind ++ more)
version_ends_word x of_kind more ends = search std_rules

-- an id, a colon and more
pub colon_id_call : (label : List ℕ) (of_kind : TypeKind) {more : List OutputCall} {ts : List Token} → is_label label ≡ true → Follows false more ts
    → Follows false (Ty (escaped label) of_kind ∷ Str (codes ":") ∷ more) (id_token label ∷ Punctuation Colon ∷ ts)
colon_id_call label of_kind h f = id_call label by_type h (λ level. refl) (record { at = λ level. mark Colon refl (f.at level) })

-- a slash and an id
slash_call : (label : List ℕ) (of_kind : TypeKind) {more : List OutputCall} {ts : List Token} → is_label label ≡ true → EndsWord more → Follows false more ts
    → Follows false (Str (codes "/") ∷ Ty (escaped label) of_kind ∷ more) (Punctuation Slash ∷ id_token label ∷ ts)
slash_call label of_kind {more} h ends f = record { at = λ level. slash_at label (text_of false level more) h (id_at label (text_of false level more) h (ends level) (f.at level)) }

pub path_reads : (path : PathTree) → is_well_path path ≡ true → {more : List OutputCall} {ts : List Token} → Follows false more ts → EndsWord more → EndsVersion more
    → Printed false (path_calls path ++ more) (λ before. ReadsPath before path ts)
path_reads (Local interface) h {ts = ts} f word ends = (id_token interface ∷ ts, id_call interface by_type h word f, ReadsPath.local (id_is interface))
path_reads (Full namespace name interface version) h {more} f word ends =
    let named = right_of (is_label namespace) _ h in
    let inside = right_of (is_label name) _ named in
    let v = version_reads version kind.VersionPath (right_of (is_label interface) _ inside) f ends in (
      id_token namespace ∷ Punctuation Colon ∷ id_token name ∷ Punctuation Slash ∷ id_token interface ∷ v.0,
      colon_id_call namespace kind.NamespacePath (left_of _ _ h) (id_call name by_type (left_of _ _ named) (λ level. refl)
          (slash_call interface kind.InterfacePath (left_of _ _ inside) (version_ends_word version kind.VersionPath more word) v.1)),
      ReadsPath.full (id_is namespace) (id_is name) (id_is interface) v.2,
    )

-- ---- uses

used_reads : (used : UsedName) → is_well_used used ≡ true → (more : List OutputCall) (ts : List Token) → Ended more ts
    → Printed false (used_name_calls used ++ more) (λ before. ReadsUsedName before used ts)
used_reads used h more ts e = go used.own (right_of (is_label used.other) _ h)
  where
    go : (own : Option (List ℕ)) → passes is_label own ≡ true → Printed false (own_name_calls used.other own ++ more) (λ before. ReadsUsedName before (record { other = used.other; own = own }) ts)
    go None g = (id_token used.other ∷ ts, id_call used.other by_type (left_of _ _ h) e.word e.follows, ReadsUsedName.same_name (id_is used.other))
    go (Some own) g = (
      id_token used.other ∷ Key As ∷ id_token own ∷ ts,
      id_call used.other by_type (left_of _ _ h) (λ level. refl) (space_before (word_call (Key As) by_keyword refl refl (λ level. refl) (space_before (id_call own by_type g e.word e.follows)))),
      ReadsUsedName.other_name (id_is used.other) (id_is own),
    )

-- the names of a use, and its end
names_read : (names : List UsedName) → are_well_some is_well_used names ≡ true → {more : List OutputCall} {ts : List Token} → Follows true more ts
    → Printed false (separated (Str (codes ", ")) (map used_name_calls names) ++ (Str (codes "}") ∷ Semicolon ∷ more))
    (λ before. CommaList ReadsUsedName (Punctuation CloseBrace) before names (Punctuation Semi ∷ ts))
names_read [] h f = absurd cc
names_read (n ∷ ns) h {more} {ts} f =
    let close : Ended (Str (codes "}") ∷ Semicolon ∷ more) (Punctuation CloseBrace ∷ Punctuation Semi ∷ ts) =
    record { follows = record { at = λ level. mark CloseBrace refl (mark Semi refl (line_feed (f.at level))) }; word = λ level. refl } in
    let i = listed_reads used_name_calls is_well_used (λ x. x) ReadsUsedName CloseBrace used_reads n ns (right_of (nat_lt 0 (length (n ∷ ns))) _ h) close in
    (i.0, i.1, subst (λ xs. CommaList ReadsUsedName (Punctuation CloseBrace) i.0 xs (Punctuation Semi ∷ ts)) (identity (n ∷ ns)) i.2)

-- What is printed of a use, behind what stands in front of it, is read as it.
pub use_reads : (path : PathTree) (names : List UsedName) → is_well_use path names ≡ true → {more : List OutputCall} {ts : List Token} → Follows true more ts
    → Printed false ((Keyword (codes "use") ∷ space_call ∷ (path_calls path ++ (Str (codes ".{") ∷ (separated (Str (codes ", ")) (map used_name_calls names) ++ (Str (codes "}") ∷ Semicolon ∷ [])))))
    ++ more) (λ before. ReadsUse before path names ts)
use_reads path names h {more} f =
    let n = names_read names (right_of (is_well_path path) _ h) f in
    let braced : Follows false (Str (codes ".{") ∷ (separated (Str (codes ", ")) (map used_name_calls names) ++ (Str (codes "}") ∷ Semicolon ∷ more))) (Punctuation Dot ∷ Punctuation OpenBrace ∷ n.0) =
    record { at = λ level. mark Dot refl (mark OpenBrace refl (n.1.at level)) } in
    let p = path_reads path (left_of _ _ h) braced (λ level. refl) (λ level. refl) in
    relist (_, word_call (Key Use) (by_keyword {text = codes "use"}) refl refl (λ level. refl) (space_before p.1), ReadsUse.use_names p.2 n.2) (simp append_assoc)
