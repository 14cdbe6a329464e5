-- What is printed of a declared type is read as it.
use Rattle.std.proofs.Common.{◌≡◌, refl, ℕ, ◌+◌, ◌-◌, Bool, true, false, ◌&&◌, nat_lt, length, List, [], ◌∷◌, ◌++◌, append-nil, append_assoc, codes, Option, Some, None, map}
use Rattle.std.specs.{List.list_all, List.flat_map, Prelude.option_map}
use Rattle.wit_model.specs.{Names.is_label, Names.begins_with_letter, Rules.passes}
use Rattle.print_grammar.specs.{Keyword.Keyword as WordKey, Keyword.escaped, Token.Token.Punctuation, Token.Token.Key, Token.Token, Token.spelled, Tree.ResourceMember.Constructor, Tree.ResourceMember.Method, Tree.ResourceMember.Static}
use Rattle.print_grammar.specs.Calls.{alias_body_calls, alias_kind, payload_calls, field_calls, case_calls, label_calls, resource_member_calls, declared_calls, block_calls, prefix_calls, signature_calls, doc_calls}
use Rattle.print_grammar.specs.Token.Mark.{Comma, Colon, Semi, OpenBrace, CloseBrace}
use Rattle.print_grammar.specs.Tree.{TypeTree, Prefix, FieldTree, CaseTree, LabelTree, SignatureTree, ResourceMember, Declared}
use Rattle.print_grammar.specs.Tree.TypeTree.{ListOf, FixedListOf, MapOf, Future, FutureOf, Stream, StreamOf}
use Rattle.print_grammar.specs.Tree.Declared.{RecordOf, VariantOf, FlagsOf, EnumOf, AliasOf, ResourceOf}
use Rattle.print_grammar.specs.AsRead.{type_as_read, bare_prefix, bare_field, bare_case, bare_label, bare_signature, bare_resource_member, bare_declared}
use Rattle.print_grammar.specs.Grammar.{ReadsSignature, ReadsType, ReadsField, ReadsCase, ReadsLabel, ReadsResourceMember, ReadsDeclared, ReadsPrefix, CommaList, Repeated, CommaList.last_with_comma, CommaList.next, Repeated.closed, Repeated.again}
use Rattle.print_grammar.specs.WellNamed.{is_well_type, is_well_param, is_well_signature, is_well_prefix, is_well_field, is_well_case, is_well_label, is_well_resource_member, is_well_declared, are_well_some}
use Rattle.print_output.specs.OutputCall.{OutputCall, is_one_line}
use Rattle.print_output.specs.OutputCall.OutputCall.{Keyword, Ty, Param, Case, Str, Semicolon, IndentStart, IndentEnd, Newline}
use Rattle.print_output.specs.declared.type_kind.TypeKind.{TypeKind}
use Rattle.print_grammar.proofs.{TokenFacts.id_token, TokenFacts.id_is, PrefixReads.docs_read, PrefixReads.prefix_reads}
use Rattle.print_grammar.proofs.Printing.{Follows, Printed, Ended, relist, word_call, id_call, line_begins, semicolon_call, greater_call, comma_call, open_call, equals_call, paren_call, space, line_feed, mark}
use Rattle.print_grammar.proofs.Printing.Prints.{by_keyword, by_type, by_param, by_case, by_str}
use Rattle.print_grammar.proofs.TypeTokens.{type_reads, opened, length_call, word_reads}
use Rattle.print_grammar.proofs.SignatureReads.{colon_call, space_before, arguments_reads, arguments_end, signature_reads}
use Rattle.base_lemmas.proofs.Bools.{left_of, right_of}
use Rattle.print_output.specs.declared.type_kind.TypeKind.TheVariants as kind

-- ---- what `type` declares

pub alias_body_reads : (ty : TypeTree) → is_well_type ty ≡ true → {more : List OutputCall} {ts : List Token} → Ended more ts
    → Printed false (alias_body_calls ty ++ more) (λ before. ReadsType before (type_as_read ty) ts)
alias_body_reads (ListOf ty) h e = let i = type_reads ty h (greater_call by_str e.follows) in simp append_assoc (_, opened WordKey.List_ by_type refl refl by_str i.1, ReadsType.list i.2)
alias_body_reads (FixedListOf ty n) h e =
    let i = type_reads ty (left_of _ _ h) (length_call n (right_of (is_well_type ty) _ h) by_str by_str (greater_call by_str e.follows)) in
    simp append_assoc (_, opened WordKey.List_ by_type refl refl by_str i.1, ReadsType.fixed_list i.2)
alias_body_reads (MapOf key value) h e =
    let v = type_reads value (right_of (is_well_type key) _ h) (greater_call by_str e.follows) in
    let i = type_reads key (left_of _ _ h) (comma_call v.1) in simp append_assoc (_, opened WordKey.Map by_type refl refl by_str i.1, ReadsType.map i.2 v.2)
alias_body_reads Future h e = word_reads WordKey.Future by_type refl refl e ReadsType.future
alias_body_reads (FutureOf ty) h e = let i = type_reads ty h (greater_call by_str e.follows) in simp append_assoc (_, opened WordKey.Future by_type refl refl by_str i.1, ReadsType.future_of i.2)
alias_body_reads Stream h e = word_reads WordKey.Stream by_type refl refl e ReadsType.stream
alias_body_reads (StreamOf ty) h e = let i = type_reads ty h (greater_call by_str e.follows) in simp append_assoc (_, opened WordKey.Stream by_type refl refl by_str i.1, ReadsType.stream_of i.2)
alias_body_reads ty h e = type_reads ty h e

-- ---- blocks

-- a block's end
pub end_call : {more : List OutputCall} {ts : List Token} → Follows true more ts → Follows true (IndentEnd ∷ more) (Punctuation CloseBrace ∷ ts)
end_call f = line_begins IndentEnd refl (record { at = λ level. mark CloseBrace refl (line_feed (f.at (level - 1))) })

-- a block's start
pub start_call : {more : List OutputCall} {ts : List Token} → Follows true more ts → Follows false (IndentStart ∷ more) (Punctuation OpenBrace ∷ ts)
start_call f = record { at = λ level. space (mark OpenBrace refl (line_feed (f.at (level + 1)))) }

-- an entry's end: a comma and a line's end
comma_line : {more : List OutputCall} {ts : List Token} → Follows true more ts → Ended (Str (codes ",") ∷ Newline ∷ more) (Punctuation Comma ∷ ts)
comma_line f = record { follows = record { at = λ level. mark Comma refl (line_feed (f.at level)) }; word = λ level. refl }

-- a word, a name and a block
pub block_reads : {word : List ℕ} (k : WordKey) (name : List ℕ) (of_kind : TypeKind) (body more : List OutputCall) {P Q : List Token → Type 0} → begins_with_letter word ≡ true
    → spelled word ≡ Some (Key k) → is_label name ≡ true → Printed true (body ++ (IndentEnd ∷ more)) P → ((tokens : List Token) → P tokens → Q (Key k ∷ id_token name ∷ Punctuation OpenBrace ∷ tokens))
    → Printed true (block_calls word name of_kind body ++ more) Q
block_reads {word} k name of_kind body more letter s h inside make = relist (
  _,
  line_begins (Keyword word) refl (word_call (Key k) by_keyword letter s (λ level. refl) (space_before (id_call name (by_type {kind = of_kind}) h (λ level. refl) (start_call inside.1)))),
  make inside.0 inside.2,
) (simp append_assoc)

-- What is printed of entries, each with a comma and a line's end, is read as them.
pub lines_read : {X : Type 0} (calls : X → List OutputCall) (well : X → Bool) (read : X → X) (Reads : List Token → X → List Token → Type 0)
    → ((x : X) → well x ≡ true → (more : List OutputCall) (ts : List Token) → Follows true more ts → Printed true (calls x ++ more) (λ before. Reads before (read x) (Punctuation Comma ∷ ts)))
    → (xs : List X) → are_well_some well xs ≡ true → {more : List OutputCall} {after : List Token} → Follows true more after
    → Printed true (flat_map calls xs ++ (IndentEnd ∷ more)) (λ before. CommaList Reads (Punctuation CloseBrace) before (map read xs) after)
lines_read {X} calls well read Reads each [] h f = absurd cc
lines_read {X} calls well read Reads each (x ∷ xs) h {more} {after} f = go x xs (right_of (nat_lt 0 (length (x ∷ xs))) _ h)
  where
    go : (y : X) (ys : List X) → list_all well (y ∷ ys) ≡ true
        → Printed true (flat_map calls (y ∷ ys) ++ (IndentEnd ∷ more)) (λ before. CommaList Reads (Punctuation CloseBrace) before (map read (y ∷ ys)) after)
    go y [] g = let i = each y (left_of _ _ g) _ _ (end_call f) in simp append-nil (i.0, i.1, last_with_comma i.2)
    go y (z ∷ zs) g = let r = go z zs (right_of (well y) _ g) in let i = each y (left_of _ _ g) _ _ r.1 in relist (i.0, i.1, next i.2 r.2) (simp append_assoc)

-- What is printed of members is read as them.
pub members_repeat : {X : Type 0} (calls : X → List OutputCall) (well : X → Bool) (read : X → X) (Reads : List Token → X → List Token → Type 0)
    → ((x : X) → well x ≡ true → (more : List OutputCall) (ts : List Token) → Follows true more ts → Printed true (calls x ++ more) (λ before. Reads before (read x) ts))
    → (xs : List X) → list_all well xs ≡ true → {more : List OutputCall} {after : List Token} → Follows true more after
    → Printed true (flat_map calls xs ++ (IndentEnd ∷ more)) (λ before. Repeated Reads (Punctuation CloseBrace) before (map read xs) after)
members_repeat calls well read Reads each [] h {after = after} f = (Punctuation CloseBrace ∷ after, end_call f, closed)
members_repeat calls well read Reads each (x ∷ xs) h f =
    let r = members_repeat calls well read Reads each xs (right_of (well x) _ h) f in
    let i = each x (left_of _ _ h) _ _ r.1 in relist (i.0, i.1, again i.2 r.2) (simp append_assoc)

-- ---- entries

module _ (emits_docs : Bool) where
  field_reads : (x : FieldTree) → is_well_field x ≡ true → (more : List OutputCall) (ts : List Token) → Follows true more ts
      → Printed true (field_calls emits_docs x ++ more) (λ before. ReadsField before (bare_field type_as_read x) (Punctuation Comma ∷ ts))
  field_reads x h more ts f =
      let named = right_of (list_all is_one_line x.docs) _ h in
      let i = type_reads x.ty (right_of (is_label x.name) _ named) (comma_line f) in
      let line = id_call x.name (by_param {text = escaped x.name}) (left_of _ _ named) (λ level. refl) (colon_call i.1) in
      relist (_, docs_read emits_docs x.docs (left_of _ _ h) (line_begins (Param (escaped x.name)) refl line), ReadsField.field (id_is x.name) i.2) (simp append_assoc)

  case_reads : (x : CaseTree) → is_well_case x ≡ true → (more : List OutputCall) (ts : List Token) → Follows true more ts
      → Printed true (case_calls emits_docs x ++ more) (λ before. ReadsCase before (bare_case type_as_read x) (Punctuation Comma ∷ ts))
  case_reads x h more ts f = go x.payload (right_of (is_label x.name) _ named)
    where
      named : (is_label x.name && passes is_well_type x.payload) ≡ true
      named = right_of (list_all is_one_line x.docs) _ h

      go : (payload : Option TypeTree) → passes is_well_type payload ≡ true
          → Printed true ((doc_calls emits_docs x.docs ++ (Case (escaped x.name) ∷ (payload_calls payload ++ (Str (codes ",") ∷ Newline ∷ [])))) ++ more)
          (λ before. ReadsCase before (record { docs = []; name = x.name; payload = option_map type_as_read payload }) (Punctuation Comma ∷ ts))
      go None g =
          let e = comma_line f in
          let line = id_call x.name (by_case {text = escaped x.name}) (left_of _ _ named) e.word e.follows in
          relist (_, docs_read emits_docs x.docs (left_of _ _ h) (line_begins (Case (escaped x.name)) refl line), ReadsCase.case_alone (id_is x.name)) (simp append_assoc)
      go (Some ty) g =
          let i = type_reads ty g (paren_call (comma_line f).follows) in
          let line = id_call x.name (by_case {text = escaped x.name}) (left_of _ _ named) (λ level. refl) (open_call i.1) in
          relist (_, docs_read emits_docs x.docs (left_of _ _ h) (line_begins (Case (escaped x.name)) refl line), ReadsCase.case_of (id_is x.name) i.2) (simp append_assoc)

  label_reads : (x : LabelTree) → is_well_label x ≡ true → (more : List OutputCall) (ts : List Token) → Follows true more ts
      → Printed true (label_calls emits_docs x ++ more) (λ before. ReadsLabel before (bare_label type_as_read x) (Punctuation Comma ∷ ts))
  label_reads x h more ts f =
      let e = comma_line f in
      let line = id_call x.name (by_case {text = escaped x.name}) (right_of (list_all is_one_line x.docs) _ h) e.word e.follows in
      relist (_, docs_read emits_docs x.docs (left_of _ _ h) (line_begins (Case (escaped x.name)) refl line), ReadsLabel.label (id_is x.name)) (simp append_assoc)

  -- ---- functions of resources

  -- What is printed of a function with its name is read as what stands in front of it, its name and its signature.
  abbrev pub ReadsFunction : Prefix → List ℕ → SignatureTree → List Token → List Token → Type 0
  ReadsFunction prefix name s after before = (between : List Token) × ReadsPrefix before (bare_prefix type_as_read prefix) (id_token name ∷ Punctuation Colon ∷ between)
      × ReadsSignature between (bare_signature type_as_read s) (Punctuation Semi ∷ after)

  pub function_reads : (prefix : Prefix) (name : List ℕ) (of_kind : TypeKind) (s : SignatureTree) → (is_well_prefix prefix && (is_label name && is_well_signature s)) ≡ true
      → (more : List OutputCall) (ts : List Token) → Follows true more ts
      → Printed true ((prefix_calls emits_docs prefix ++ (Ty (escaped name) of_kind ∷ Str (codes ": ") ∷ (signature_calls s ++ (Semicolon ∷ [])))) ++ more) (ReadsFunction prefix name s ts)
  function_reads prefix name of_kind s h more ts f =
      let g = right_of (is_well_prefix prefix) _ h in
      let i = signature_reads s (right_of (is_label name) _ g) (semicolon_call f) in
      let line = line_begins (Ty (escaped name) of_kind) refl (id_call name by_type (left_of _ _ g) (λ level. refl) (colon_call i.1)) in
      let p = prefix_reads emits_docs prefix (left_of _ _ h) line in
      relist (p.0, p.1, (i.0, p.2, i.2)) (simp append_assoc)

  resource_member_reads : (x : ResourceMember) → is_well_resource_member x ≡ true → (more : List OutputCall) (ts : List Token) → Follows true more ts
      → Printed true (resource_member_calls emits_docs x ++ more) (λ before. ReadsResourceMember before (bare_resource_member type_as_read x) ts)
  resource_member_reads (Constructor prefix params result) h more ts f =
      let g = right_of (is_well_prefix prefix) _ h in
      let i = arguments_reads params result (left_of _ _ g) (right_of (list_all is_well_param params) _ g) (semicolon_call f) in
      let line = line_begins (Keyword (codes "constructor")) refl (word_call (Key WordKey.Constructor) by_keyword refl refl (arguments_end params result (Semicolon ∷ more)) i.1) in
      let p = prefix_reads emits_docs prefix (left_of _ _ h) line in
      relist (p.0, p.1, ReadsResourceMember.constructor_ p.2 i.2.1 i.2.2) (simp append_assoc)
  resource_member_reads (Method prefix name s) h more ts f =
      let i = function_reads prefix name kind.FunctionMethod s h more ts f in
      (i.0, i.1, ReadsResourceMember.method i.2.1 (id_is name) i.2.2)
  resource_member_reads (Static prefix name s) h more ts f =
      let g = right_of (is_well_prefix prefix) _ h in
      let i = signature_reads s (right_of (is_label name) _ g) (semicolon_call f) in
      let static = word_call (Key WordKey.Static) (by_keyword {text = codes "static"}) refl refl (λ level. refl) (space_before i.1) in
      let line = line_begins (Ty (escaped name) kind.FunctionStatic) refl (id_call name by_type (left_of _ _ g) (λ level. refl) (colon_call static)) in
      let p = prefix_reads emits_docs prefix (left_of _ _ h) line in
      relist (p.0, p.1, ReadsResourceMember.static p.2 (id_is name) i.2) (simp append_assoc)

  -- ---- declarations

  -- a declaration
  abbrev pub DeclaredIs : Declared → List Token → List Token → Type 0
  DeclaredIs declared after before = ReadsDeclared before (bare_declared type_as_read declared) after

  resource_reads : (name : List ℕ) (members : List ResourceMember) → is_label name ≡ true → list_all is_well_resource_member members ≡ true → (more : List OutputCall) (ts : List Token)
      → Follows true more ts → Printed true (declared_calls emits_docs (ResourceOf name members) ++ more) (DeclaredIs (ResourceOf name members) ts)
  resource_reads name [] h g more ts f = (
    Key WordKey.Resource ∷ id_token name ∷ Punctuation Semi ∷ ts,
    line_begins (Ty (codes "resource") kind.BuiltIn) refl (word_call (Key WordKey.Resource) by_type refl refl (λ level. refl)
        (space_before (id_call name by_type h (λ level. refl) (semicolon_call f).follows))),
    ReadsDeclared.resource (id_is name),
  )
  resource_reads name (m ∷ ms) h g more ts f =
      let i = members_repeat (resource_member_calls emits_docs) is_well_resource_member (bare_resource_member type_as_read) ReadsResourceMember resource_member_reads (m ∷ ms) g f in
      relist (
        _,
        line_begins (Ty (codes "resource") kind.BuiltIn) refl (word_call (Key WordKey.Resource) by_type refl refl (λ level. refl)
            (space_before (id_call name (by_type {kind = kind.Resource}) h (λ level. refl) (start_call i.1)))),
        ReadsDeclared.resource_with (id_is name) i.2,
      ) (simp append_assoc)

  -- What is printed of a declared type is read as it.
  pub declared_reads : (d : Declared) → is_well_declared d ≡ true → (more : List OutputCall) (ts : List Token) → Follows true more ts
      → Printed true (declared_calls emits_docs d ++ more) (DeclaredIs d ts)
  declared_reads (RecordOf name fields) h more ts f = block_reads WordKey.Record name kind.Record (flat_map (field_calls emits_docs) fields) more refl refl (left_of _ _ h)
      (lines_read (field_calls emits_docs) is_well_field (bare_field type_as_read) ReadsField field_reads fields (right_of (is_label name) _ h) f) (λ b r. ReadsDeclared.record_ (id_is name) r)
  declared_reads (VariantOf name cases) h more ts f = block_reads WordKey.Variant name kind.Variant (flat_map (case_calls emits_docs) cases) more refl refl (left_of _ _ h)
      (lines_read (case_calls emits_docs) is_well_case (bare_case type_as_read) ReadsCase case_reads cases (right_of (is_label name) _ h) f) (λ b r. ReadsDeclared.variant (id_is name) r)
  declared_reads (FlagsOf name flags) h more ts f = block_reads WordKey.Flags name kind.Flags (flat_map (label_calls emits_docs) flags) more refl refl (left_of _ _ h)
      (lines_read (label_calls emits_docs) is_well_label (bare_label type_as_read) ReadsLabel label_reads flags (right_of (is_label name) _ h) f) (λ b r. ReadsDeclared.flags (id_is name) r)
  declared_reads (EnumOf name cases) h more ts f = block_reads WordKey.Enum name kind.Enum (flat_map (label_calls emits_docs) cases) more refl refl (left_of _ _ h)
      (lines_read (label_calls emits_docs) is_well_label (bare_label type_as_read) ReadsLabel label_reads cases (right_of (is_label name) _ h) f) (λ b r. ReadsDeclared.enum (id_is name) r)
  declared_reads (AliasOf name ty) h more ts f =
      let i = alias_body_reads ty (right_of (is_label name) _ h) (semicolon_call f) in
      relist (
        _,
        line_begins (Keyword (codes "type")) refl (word_call (Key WordKey.Type_) by_keyword refl refl (λ level. refl)
            (space_before (id_call name (by_type {kind = alias_kind ty}) (left_of _ _ h) (λ level. refl) (equals_call i.1)))),
        ReadsDeclared.alias (id_is name) i.2,
      ) (simp append_assoc)
  declared_reads (ResourceOf name members) h more ts f = resource_reads name members (left_of _ _ h) (right_of (is_label name) _ h) more ts f
