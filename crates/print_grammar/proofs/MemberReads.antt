-- What is printed of what interfaces and worlds have is read as it.
use Rattle.std.proofs.Common.{rules as std_rules, ◌≡◌, refl, ℕ, Bool, true, false, ◌&&◌, not, List, [], ◌∷◌, ◌++◌, append_assoc, codes, Some, map}
use Rattle.std.specs.List.{list_all}
use Rattle.wit_model.specs.Names.{is_label, begins_with_letter}
use Rattle.print_grammar.specs.{Keyword.Keyword as WordKey, Token.Token, Token.spelled, Token.Mark.CloseBrace, Grammar.Repeated.closed, Grammar.Repeated.again}
use Rattle.print_grammar.specs.Calls.{prefix_calls, declared_calls, use_calls, function_calls, item_calls, members_calls, extern_calls, world_extern_calls, world_members_calls, space as space_call}
use Rattle.print_grammar.specs.{Token.Token.Punctuation, Token.Token.Key, Tree.MemberTree.UseMember, Tree.MemberTree.TypeMember, Tree.MemberTree.FunctionMember}
use Rattle.print_grammar.specs.Tree.{Prefix, Declared, PathTree, UsedName, MemberTree, ExternTree, WorldMember}
use Rattle.print_grammar.specs.Tree.ExternTree.{Path, NamedFunction, NamedPath, NamedInterface}
use Rattle.print_grammar.specs.Tree.WorldMember.{WorldUse, WorldType, WorldImport, WorldExport}
use Rattle.print_grammar.specs.AsRead.{type_as_read, bare_prefix, bare_declared, bare_member, bare_extern, bare_world_member}
use Rattle.print_grammar.specs.Grammar.{ReadsPrefix, ReadsUse, ReadsDeclared, ReadsMember, ReadsExtern, ReadsWorldMember, Repeated}
use Rattle.print_grammar.specs.WellNamed.{is_well_prefix, is_well_use, is_well_declared, is_well_member, is_well_extern, is_well_world_member}
use Rattle.print_output.specs.{OutputCall.OutputCall, OutputCall.OutputCall.Keyword, OutputCall.OutputCall.IndentEnd, OutputCall.OutputCall.Newline}
use Rattle.print_grammar.proofs.{TokenFacts.id_is, SignatureReads.colon_call, SignatureReads.space_before, SignatureReads.signature_reads}
use Rattle.print_grammar.proofs.Printing.{Follows, Printed, relist, word_call, id_call, line_begins, semicolon_call, line_feed}
use Rattle.print_grammar.proofs.{Printing.Prints.by_keyword, Printing.Prints.by_type, PrefixReads.prefix_reads, PathReads.path_reads, PathReads.use_reads}
use Rattle.print_grammar.proofs.DeclaredReads.{start_call, end_call, function_reads, declared_reads}
use Rattle.base_lemmas.proofs.Bools.{left_of, right_of}
use Rattle.print_output.specs.declared.type_kind.TypeKind.TheVariants as kind

-- an empty line
pub empty_line : {more : List OutputCall} {ts : List Token} → Follows true more ts → Follows true (Newline ∷ more) ts
empty_line f = record { at = λ level. line_feed (f.at level) }

-- an empty line before an item is no token
pub item_reads : (printed : Bool) (calls more : List OutputCall) {P : List Token → Type 0} → Printed true (calls ++ more) P → Printed true (item_calls printed calls ++ more) P
item_reads x calls more p = search (std_rules, empty_line)

module _ (emits_docs : Bool) where
  -- what stands in front, and what follows it
  abbrev pub Prefixed : Prefix → (List Token → Type 0) → List Token → Type 0
  Prefixed prefix P before = (between : List Token) × ReadsPrefix before (bare_prefix type_as_read prefix) between × P between

  pub with_prefix : (prefix : Prefix) (body more : List OutputCall) {P : List Token → Type 0} → is_well_prefix prefix ≡ true → Printed true (body ++ more) P
      → Printed true ((prefix_calls emits_docs prefix ++ body) ++ more) (Prefixed prefix P)
  with_prefix prefix body more h i =
      let p = prefix_reads emits_docs prefix h i.1 in
      relist (p.0, p.1, (i.0, p.2, i.2)) (simp append_assoc)

  -- a use, with what stands in front of it
  pub whole_use_reads : (prefix : Prefix) (path : PathTree) (names : List UsedName) → (is_well_prefix prefix && is_well_use path names) ≡ true → (more : List OutputCall) (ts : List Token)
      → Follows true more ts → Printed true (use_calls emits_docs prefix path names ++ more) (Prefixed prefix (λ between. ReadsUse between path names ts))
  whole_use_reads prefix path names h more ts f =
      let i = use_reads path names (right_of (is_well_prefix prefix) _ h) f in
      with_prefix prefix (Keyword (codes "use") ∷ _) more (left_of _ _ h) (i.0, line_begins (Keyword (codes "use")) refl i.1, i.2)

  -- a declared type, with what stands in front of it
  pub whole_declared_reads : (prefix : Prefix) (declared : Declared) → (is_well_prefix prefix && is_well_declared declared) ≡ true → (more : List OutputCall) (ts : List Token) → Follows true more ts
      → Printed true ((prefix_calls emits_docs prefix ++ declared_calls emits_docs declared) ++ more) (Prefixed prefix (λ between. ReadsDeclared between (bare_declared type_as_read declared) ts))
  whole_declared_reads prefix declared h more ts f =
      with_prefix prefix (declared_calls emits_docs declared) more (left_of _ _ h) (declared_reads emits_docs declared (right_of (is_well_prefix prefix) _ h) more ts f)

  -- ---- interfaces

  -- What is printed of what an interface has is read as it.
  pub members_read : (printed : Bool) (members : List MemberTree) → list_all is_well_member members ≡ true → {more : List OutputCall} {after : List Token} → Follows true more after
      → Printed true (members_calls emits_docs printed members ++ (IndentEnd ∷ more)) (λ before. Repeated ReadsMember (Punctuation CloseBrace) before (map (bare_member type_as_read) members) after)
  members_read printed [] h {after = after} f = (Punctuation CloseBrace ∷ after, end_call f, closed)
  members_read printed (UseMember prefix path names ∷ members) h f =
      let r = members_read true members (right_of (is_well_member (UseMember prefix path names)) _ h) f in
      let i = whole_use_reads prefix path names (left_of _ _ h) _ _ r.1 in relist (i.0, i.1, again (ReadsMember.member_use i.2.1 i.2.2) r.2) (simp append_assoc)
  members_read printed (TypeMember prefix declared ∷ members) h f =
      let r = members_read true members (right_of (is_well_member (TypeMember prefix declared)) _ h) f in
      let i = item_reads printed (prefix_calls emits_docs prefix ++ declared_calls emits_docs declared) _ (whole_declared_reads prefix declared (left_of _ _ h) _ _ r.1) in
      relist (i.0, i.1, again (ReadsMember.member_type i.2.1 i.2.2) r.2) (simp append_assoc)
  members_read printed (FunctionMember prefix name s ∷ members) h f =
      let r = members_read true members (right_of (is_well_member (FunctionMember prefix name s)) _ h) f in
      let i = item_reads printed (function_calls emits_docs prefix name kind.FunctionFreestanding s) _ (function_reads emits_docs prefix name kind.FunctionFreestanding s (left_of _ _ h) _ _ r.1) in
      relist (i.0, i.1, again (ReadsMember.member_function i.2.1 (id_is name) i.2.2) r.2) (simp append_assoc)

  -- ---- imports and exports

  -- What is printed of an import or an export is read as it.
  pub extern_reads : (e : ExternTree) → is_well_extern e ≡ true → {more : List OutputCall} {ts : List Token} → Follows true more ts
      → Printed false (extern_calls emits_docs e ++ more) (λ before. ReadsExtern before (bare_extern type_as_read e) ts)
  extern_reads (Path path) h f =
      let i = path_reads path h (semicolon_call f).follows (λ level. refl) (λ level. refl) in relist (i.0, i.1, ReadsExtern.extern_path i.2) (simp append_assoc)
  extern_reads (NamedFunction name s) h f =
      let i = signature_reads s (right_of (is_label name) _ h) (semicolon_call f) in
      relist (_, id_call name (by_type {kind = kind.Other}) (left_of _ _ h) (λ level. refl) (colon_call i.1), ReadsExtern.extern_function (id_is name) i.2) (simp append_assoc)
  extern_reads (NamedPath name path) h f =
      let i = path_reads path (right_of (is_label name) _ h) (semicolon_call f).follows (λ level. refl) (λ level. refl) in
      relist (_, id_call name (by_type {kind = kind.Other}) (left_of _ _ h) (λ level. refl) (colon_call i.1), ReadsExtern.extern_named_path (id_is name) i.2) (simp append_assoc)
  extern_reads (NamedInterface name members) h f =
      let i = members_read false members (right_of (is_label name) _ h) f in
      let line = word_call (Key WordKey.Interface) (by_keyword {text = codes "interface"}) refl refl (λ level. refl) (start_call i.1) in
      relist (_, id_call name (by_type {kind = kind.Other}) (left_of _ _ h) (λ level. refl) (colon_call line), ReadsExtern.extern_interface (id_is name) i.2) (simp append_assoc)

  world_extern_reads : (prefix : Prefix) (word : List ℕ) (k : WordKey) (e : ExternTree) → begins_with_letter word ≡ true → spelled word ≡ Some (Key k)
      → (is_well_prefix prefix && is_well_extern e) ≡ true → (more : List OutputCall) (ts : List Token) → Follows true more ts
      → Printed true (world_extern_calls emits_docs prefix word e ++ more)
      (Prefixed prefix (λ tokens. (between : List Token) × (tokens ≡ Key k ∷ between) × ReadsExtern between (bare_extern type_as_read e) ts))
  world_extern_reads prefix word k e letter s h more ts f =
      let i = extern_reads e (right_of (is_well_prefix prefix) _ h) f in
      with_prefix prefix (Keyword word ∷ space_call ∷ extern_calls emits_docs e) more (left_of _ _ h)
      (Key k ∷ i.0, line_begins (Keyword word) refl (word_call (Key k) by_keyword letter s (λ level. refl) (space_before i.1)), (i.0, refl, i.2))

  -- ---- worlds

  -- What is printed of what a world has is read as it.
  pub world_members_read : (printed exported : Bool) (members : List WorldMember) → list_all is_well_world_member members ≡ true → {more : List OutputCall} {after : List Token}
      → Follows true more after
      → Printed true (world_members_calls emits_docs printed exported members ++ (IndentEnd ∷ more))
      (λ before. Repeated ReadsWorldMember (Punctuation CloseBrace) before (map (bare_world_member type_as_read) members) after)
  world_members_read printed exported [] h {after = after} f = (Punctuation CloseBrace ∷ after, end_call f, closed)
  world_members_read printed exported (WorldUse prefix path names ∷ members) h f =
      let r = world_members_read true exported members (right_of (is_well_world_member (WorldUse prefix path names)) _ h) f in
      let i = whole_use_reads prefix path names (left_of _ _ h) _ _ r.1 in relist (i.0, i.1, again (ReadsWorldMember.world_use i.2.1 i.2.2) r.2) (simp append_assoc)
  world_members_read printed exported (WorldType prefix declared ∷ members) h f =
      let r = world_members_read true exported members (right_of (is_well_world_member (WorldType prefix declared)) _ h) f in
      let i = item_reads printed (prefix_calls emits_docs prefix ++ declared_calls emits_docs declared) _ (whole_declared_reads prefix declared (left_of _ _ h) _ _ r.1) in
      relist (i.0, i.1, again (ReadsWorldMember.world_type i.2.1 i.2.2) r.2) (simp append_assoc)
  world_members_read printed exported (WorldImport prefix e ∷ members) h f =
      let r = world_members_read true exported members (right_of (is_well_world_member (WorldImport prefix e)) _ h) f in
      let i = world_extern_reads prefix (codes "import") WordKey.Import e refl refl (left_of _ _ h) _ _ r.1 in
      relist (i.0, i.1, again (ReadsWorldMember.world_import (rw i.2.2.1 at i.2.1) i.2.2.2) r.2) (simp append_assoc)
  world_members_read printed exported (WorldExport prefix e ∷ members) h f =
      let r = world_members_read true true members (right_of (is_well_world_member (WorldExport prefix e)) _ h) f in
      let i = item_reads (printed && not exported) (world_extern_calls emits_docs prefix (codes "export") e) _
      (world_extern_reads prefix (codes "export") WordKey.Export e refl refl (left_of _ _ h) _ _ r.1) in
      relist (i.0, i.1, again (ReadsWorldMember.world_export (rw i.2.2.1 at i.2.1) i.2.2.2) r.2) (simp append_assoc)
