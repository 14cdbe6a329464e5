-- What the grammar of printed text reads is read with documentation too, as the same tree but for the documentation.
use Rattle.std.proofs.Common.{◌≡◌, refl, ap, ℕ, List, [], ◌∷◌, map, Option, Some, None}
use Rattle.std.proofs.lemmas.{List.map-id, Iterator.Adapters.option_map_id}
use Rattle.wit_model.specs.Text.{Text}
use Rattle.print_grammar.specs.Grammar as printed
use Rattle.print_grammar.specs.{Token.Token}
use Rattle.print_grammar.specs.Tree.{Gates, SignatureTree, WorldMember, ItemTree, PackageHead, PackageTree, FileTree}
use Rattle.print_grammar.specs.Tree.{ResourceMember.Constructor, ResourceMember.Method, ResourceMember.Static}
use Rattle.print_grammar.specs.Tree.Declared.{RecordOf, VariantOf, FlagsOf, EnumOf, AliasOf, ResourceOf}
use Rattle.print_grammar.specs.Tree.{ExternTree.Path, ExternTree.NamedFunction, ExternTree.NamedPath, ExternTree.NamedInterface}
use Rattle.print_grammar.specs.Tree.{MemberTree.UseMember, MemberTree.TypeMember, MemberTree.FunctionMember, ItemTree.InterfaceItem, ItemTree.WorldItem}
use Rattle.print_grammar.specs.Tree.WorldMember.{WorldUse, WorldType, WorldImport, WorldExport}
use Rattle.print_grammar.specs.Grammar.{CommaList, Repeated}
use Rattle.print_grammar.specs.Grammar.CommaList.{last, last_with_comma, next}
use Rattle.print_grammar.specs.Grammar.Repeated.{closed, again}
use Rattle.print_grammar.specs.Grammar.{ReadsDeprecated.not_deprecated, ReadsDeprecated.deprecated, ReadsGates.no_gates, ReadsGates.since, ReadsGates.unstable}
use Rattle.print_grammar.specs.Grammar.{ReadsExternalId.no_external_id, ReadsExternalId.external_id, ReadsPrefix.prefix}
use Rattle.print_grammar.specs.Grammar.{ReadsField.field, ReadsCase.case_alone, ReadsCase.case_of}
use Rattle.print_grammar.specs.Grammar.ReadsResourceMember.{constructor_, method, static}
use Rattle.print_grammar.specs.Grammar.ReadsDeclared.{record_, variant, flags, enum, alias, resource, resource_with}
use Rattle.print_grammar.specs.Grammar.ReadsMember.{member_use, member_type, member_function}
use Rattle.print_grammar.specs.Grammar.ReadsExtern.{extern_path, extern_function, extern_named_path, extern_interface}
use Rattle.print_grammar.specs.Grammar.ReadsWorldMember.{world_use, world_type, world_import, world_export}
use Rattle.print_grammar.specs.Grammar.{ReadsItem.interface_item, ReadsItem.world_item, ReadsItems.no_items, ReadsItems.next_item}
use Rattle.print_grammar.specs.Grammar.{ReadsNested.nested_package, ReadsAllNested.nested_end, ReadsAllNested.next_nested, ReadsFile.file}
use Rattle.print_grammar.specs.AsRead.{bare_prefix, bare_field, bare_case, bare_label, bare_signature, bare_resource_member, bare_declared, bare_member, bare_extern, bare_world_member, bare_item, bare_package, bare_file}
use Rattle.text_trees.specs.Grammar as own
use Rattle.text_trees.specs.Laws.{item_as_text, nested_as_text, file_as_text}
use Rattle.text_trees.specs.TextTree.{WorldPart.Has}
use Rattle.text_trees.specs.Grammar.{Documentation, Marks, no_marks, gates_of_marks}

-- What is read with documentation, and is this without it.
record Kept {X : Type 0} (Reads : List Token → X → List Token → Type 0) (bare : X → X) (ts : List Token) (x : X) (rest : List Token) : Type 0 where
  tree : X
  reads : Reads ts tree rest
  same : bare tree ≡ x

-- what one relation reads, another one keeps
abbrev Keeps : {X : Type 0} → (List Token → X → List Token → Type 0) → (List Token → X → List Token → Type 0) → (X → X) → Type 0
Keeps {X} Reads More bare = (ts rest : List Token) (x : X) → Reads ts x rest → Kept More bare ts x rest

-- ---- lists

both : {X Y Z : Type 0} (f : X → Y → Z) {a b : X} {c d : Y} → a ≡ b → c ≡ d → f a c ≡ f b d
both f p q = rw (p, q) refl

listed_kept : {X : Type 0} {Reads More : List Token → X → List Token → Type 0} {bare : X → X} {close : Token} → Keeps Reads More bare
    → Keeps (CommaList Reads close) (CommaList More close) (map bare)
listed_kept one _ _ _ (last r) = let k = one _ _ _ r in record { tree = k.tree ∷ []; reads = last k.reads; same = ap (λ x. x ∷ []) k.same }
listed_kept one _ _ _ (last_with_comma r) = let k = one _ _ _ r in record { tree = k.tree ∷ []; reads = last_with_comma k.reads; same = ap (λ x. x ∷ []) k.same }
listed_kept one _ _ _ (next r l) =
    let k = one _ _ _ r in
    let m = listed_kept one _ _ _ l in record { tree = k.tree ∷ m.tree; reads = next k.reads m.reads; same = both (λ x xs. x ∷ xs) k.same m.same }

repeated_kept : {X : Type 0} {Reads More : List Token → X → List Token → Type 0} {bare : X → X} {close : Token} → Keeps Reads More bare
    → Keeps (Repeated Reads close) (Repeated More close) (map bare)
repeated_kept one _ _ _ closed = record { tree = []; reads = closed; same = refl }
repeated_kept one _ _ _ (again r l) =
    let k = one _ _ _ r in
    let m = repeated_kept one _ _ _ l in record { tree = k.tree ∷ m.tree; reads = again k.reads m.reads; same = both (λ x xs. x ∷ xs) k.same m.same }

-- ---- in front of an item

-- what these attributes say
abbrev marks_of : Option Text → Option Text → Option Text → Option (List ℕ) → Marks
marks_of s u d id = record { since = s; unstable = u; deprecated = d; external_id = id }

id_kept : {ts rest : List Token} {id : Option (List ℕ)} (s u d : Option Text) → printed.ReadsExternalId ts id rest
    → own.ReadsMarks (marks_of s u d None) ts (marks_of s u d id) rest
id_kept s u d no_external_id = own.ReadsMarks.no_more
id_kept s u d (external_id e) = own.ReadsMarks.external_id e refl own.ReadsMarks.no_more

deprecated_kept : {ts between rest : List Token} {d : Option Text} {all : Marks} (s u : Option Text) → printed.ReadsDeprecated ts d between
    → own.ReadsMarks (marks_of s u d None) between all rest → own.ReadsMarks (marks_of s u None None) ts all rest
deprecated_kept s u not_deprecated m = m
deprecated_kept s u (deprecated e r) m = own.ReadsMarks.deprecated e refl r m

-- attributes that are these gates and this external id
record Marked (ts : List Token) (gates : Gates) (id : Option (List ℕ)) (rest : List Token) : Type 0 where
  marks : Marks
  reads : own.ReadsMarks no_marks ts marks rest
  gated : gates_of_marks marks ≡ Some gates
  same : marks.external_id ≡ id

marks_kept : {ts between rest : List Token} {gates : Gates} {id : Option (List ℕ)} → printed.ReadsGates ts gates between → printed.ReadsExternalId between id rest
    → Marked ts gates id rest
marks_kept {id = id} no_gates x = record { marks = marks_of None None None id; reads = id_kept None None None x; gated = refl; same = refl }
marks_kept {id = id} (since {version = version} {d = d} e r x) y = record {
  marks = marks_of (Some version) None d id;
  reads = own.ReadsMarks.since e refl refl r (deprecated_kept (Some version) None x (id_kept (Some version) None d y));
  gated = refl;
  same = refl;
}
marks_kept {id = id} (unstable {feature = feature} {d = d} e f i x) y = record {
  marks = marks_of None (Some feature) d id;
  reads = own.ReadsMarks.unstable e f i refl refl (deprecated_kept None (Some feature) x (id_kept None (Some feature) d y));
  gated = refl;
  same = refl;
}

gates_kept : {ts rest : List Token} {gates : Gates} → printed.ReadsGates ts gates rest → own.ReadsGates ts gates rest
gates_kept g = let m = marks_kept g no_external_id in own.ReadsGates.gates m.marks m.reads m.same m.gated

-- a function's type is as it was
same_signature : (signature : SignatureTree) → bare_signature (λ ty. ty) signature ≡ signature
same_signature signature = rw (map-id signature.params, option_map_id signature.result) refl

module _ (docs : Documentation) where
  prefix_kept : Keeps printed.ReadsPrefix (own.ReadsPrefix docs) (bare_prefix (λ ty. ty))
  prefix_kept ts _ _ (prefix {gates = gates} g x) =
      let m = marks_kept g x in record {
        tree = record { docs = docs ts; gates = gates; external_id = m.marks.external_id };
        reads = own.ReadsPrefix.prefix m.marks m.reads m.gated;
        same = ap (λ id. record { docs = []; gates = gates; external_id = id }) m.same;
      }

  -- ---- declared types

  field_kept : Keeps printed.ReadsField (own.ReadsField docs) (bare_field (λ ty. ty))
  field_kept _ _ _ (field i r) = record { tree = _; reads = own.ReadsField.field i r; same = refl }

  case_kept : Keeps printed.ReadsCase (own.ReadsCase docs) (bare_case (λ ty. ty))
  case_kept _ _ _ (case_alone i) = record { tree = _; reads = own.ReadsCase.case_alone i; same = refl }
  case_kept _ _ _ (case_of i r) = record { tree = _; reads = own.ReadsCase.case_of i r; same = refl }

  label_kept : Keeps printed.ReadsLabel (own.ReadsLabel docs) (bare_label (λ ty. ty))
  label_kept _ _ _ (printed.ReadsLabel.label i) = record { tree = _; reads = own.ReadsLabel.label i; same = refl }

  resource_member_kept : Keeps printed.ReadsResourceMember (own.ReadsResourceMember docs) (bare_resource_member (λ ty. ty))
  resource_member_kept _ _ _ (constructor_ {params = params} {result = result} p a r) =
      let k = prefix_kept _ _ _ p in record {
        tree = Constructor k.tree params result;
        reads = own.ReadsResourceMember.constructor_ k.reads a r;
        same = rw (k.same, map-id params, option_map_id result) refl;
      }
  resource_member_kept _ _ _ (method {label = label} {signature = signature} p i r) =
      let k = prefix_kept _ _ _ p in record {
        tree = Method k.tree label signature;
        reads = own.ReadsResourceMember.method k.reads i r;
        same = both (λ pre s. Method pre label s) k.same (same_signature signature);
      }
  resource_member_kept _ _ _ (static {label = label} {signature = signature} p i r) =
      let k = prefix_kept _ _ _ p in record {
        tree = Static k.tree label signature;
        reads = own.ReadsResourceMember.static k.reads i r;
        same = both (λ pre s. Static pre label s) k.same (same_signature signature);
      }

  declared_kept : Keeps printed.ReadsDeclared (own.ReadsDeclared docs) (bare_declared (λ ty. ty))
  declared_kept _ _ _ (record_ {label = label} i l) =
      let k = listed_kept field_kept _ _ _ l in record { tree = RecordOf label k.tree; reads = own.ReadsDeclared.record_ i k.reads; same = ap (RecordOf label) k.same }
  declared_kept _ _ _ (variant {label = label} i l) =
      let k = listed_kept case_kept _ _ _ l in record { tree = VariantOf label k.tree; reads = own.ReadsDeclared.variant i k.reads; same = ap (VariantOf label) k.same }
  declared_kept _ _ _ (flags {label = label} i l) =
      let k = listed_kept label_kept _ _ _ l in record { tree = FlagsOf label k.tree; reads = own.ReadsDeclared.flags i k.reads; same = ap (FlagsOf label) k.same }
  declared_kept _ _ _ (enum {label = label} i l) =
      let k = listed_kept label_kept _ _ _ l in record { tree = EnumOf label k.tree; reads = own.ReadsDeclared.enum i k.reads; same = ap (EnumOf label) k.same }
  declared_kept _ _ _ (alias {label = label} {ty = ty} i r) = record { tree = AliasOf label ty; reads = own.ReadsDeclared.alias i r; same = refl }
  declared_kept _ _ _ (resource {label = label} i) = record { tree = ResourceOf label []; reads = own.ReadsDeclared.resource i; same = refl }
  declared_kept _ _ _ (resource_with {label = label} i l) =
      let k = repeated_kept resource_member_kept _ _ _ l in
      record { tree = ResourceOf label k.tree; reads = own.ReadsDeclared.resource_with i k.reads; same = ap (ResourceOf label) k.same }

  -- ---- interfaces and worlds

  member_kept : Keeps printed.ReadsMember (own.ReadsMember docs) (bare_member (λ ty. ty))
  member_kept _ _ _ (member_use {path = path} {names = names} p u) =
      let k = prefix_kept _ _ _ p in
      record { tree = UseMember k.tree path names; reads = own.ReadsMember.member_use k.reads u; same = ap (λ pre. UseMember pre path names) k.same }
  member_kept _ _ _ (member_type p d) =
      let k = prefix_kept _ _ _ p in
      let m = declared_kept _ _ _ d in record { tree = TypeMember k.tree m.tree; reads = own.ReadsMember.member_type k.reads m.reads; same = both TypeMember k.same m.same }
  member_kept _ _ _ (member_function {label = label} {signature = signature} p i r) =
      let k = prefix_kept _ _ _ p in record {
        tree = FunctionMember k.tree label signature;
        reads = own.ReadsMember.member_function k.reads i r;
        same = both (λ pre s. FunctionMember pre label s) k.same (same_signature signature);
      }

  extern_kept : Keeps printed.ReadsExtern (own.ReadsExtern docs) (bare_extern (λ ty. ty))
  extern_kept _ _ _ (extern_path {path = path} p) = record { tree = Path path; reads = own.ReadsExtern.extern_path p; same = refl }
  extern_kept _ _ _ (extern_function {label = label} {signature = signature} i r) =
      record { tree = NamedFunction label signature; reads = own.ReadsExtern.extern_function i r; same = ap (NamedFunction label) (same_signature signature) }
  extern_kept _ _ _ (extern_named_path {label = label} {path = path} i p) =
      record { tree = NamedPath label path; reads = own.ReadsExtern.extern_named_path i p; same = refl }
  extern_kept _ _ _ (extern_interface {label = label} i l) =
      let k = repeated_kept member_kept _ _ _ l in
      record { tree = NamedInterface label k.tree; reads = own.ReadsExtern.extern_interface i k.reads; same = ap (NamedInterface label) k.same }

  world_member_kept : Keeps printed.ReadsWorldMember (own.ReadsWorldMember docs) (bare_world_member (λ ty. ty))
  world_member_kept _ _ _ (world_use {path = path} {names = names} p u) =
      let k = prefix_kept _ _ _ p in
      record { tree = WorldUse k.tree path names; reads = own.ReadsWorldMember.world_use k.reads u; same = ap (λ pre. WorldUse pre path names) k.same }
  world_member_kept _ _ _ (world_type p d) =
      let k = prefix_kept _ _ _ p in
      let m = declared_kept _ _ _ d in record { tree = WorldType k.tree m.tree; reads = own.ReadsWorldMember.world_type k.reads m.reads; same = both WorldType k.same m.same }
  world_member_kept _ _ _ (world_import p e) =
      let k = prefix_kept _ _ _ p in
      let m = extern_kept _ _ _ e in
      record { tree = WorldImport k.tree m.tree; reads = own.ReadsWorldMember.world_import k.reads m.reads; same = both WorldImport k.same m.same }
  world_member_kept _ _ _ (world_export p e) =
      let k = prefix_kept _ _ _ p in
      let m = extern_kept _ _ _ e in
      record { tree = WorldExport k.tree m.tree; reads = own.ReadsWorldMember.world_export k.reads m.reads; same = both WorldExport k.same m.same }

  -- ---- packages and texts

  -- what a world has, as what a world of a text has
  parts_of : {close : Token} {ts rest : List Token} {members : List WorldMember} → Repeated (own.ReadsWorldMember docs) close ts members rest
      → Repeated (own.ReadsPart docs) close ts (map Has members) rest
  parts_of closed = closed
  parts_of (again r l) = again (own.ReadsPart.has r) (parts_of l)

  -- an item, as one of a text
  abbrev AsItem : List Token → ItemTree → List Token → Type 0
  AsItem ts item rest = own.ReadsItem docs ts (item_as_text item) rest

  item_kept : Keeps printed.ReadsItem AsItem (bare_item (λ ty. ty))
  item_kept ts _ _ (interface_item {label = label} {gates = gates} g i l) =
      let k = repeated_kept member_kept _ _ _ l in record {
        tree = InterfaceItem (docs ts) gates label k.tree;
        reads = own.ReadsItem.interface_item (gates_kept g) i k.reads;
        same = ap (InterfaceItem [] gates label) k.same;
      }
  item_kept ts _ _ (world_item {label = label} {gates = gates} g i l) =
      let k = repeated_kept world_member_kept _ _ _ l in record {
        tree = WorldItem (docs ts) gates label k.tree;
        reads = own.ReadsItem.world_item (gates_kept g) i (parts_of k.reads);
        same = ap (WorldItem [] gates label) k.same;
      }

  -- items up to a closing mark, as those of a text
  items_of : {close : Token} {ts rest : List Token} {items : List ItemTree} → Repeated AsItem close ts items rest
      → Repeated (own.ReadsItem docs) close ts (map item_as_text items) rest
  items_of closed = closed
  items_of (again r l) = again r (items_of l)

  -- a head that is read has no documentation
  bare_head : {ts rest : List Token} {head : PackageHead} → printed.ReadsHead ts head rest → record head { docs = [] } ≡ head
  bare_head (printed.ReadsHead.head i j v) = refl

  -- a nested package, as one of a text
  abbrev AsNested : List Token → PackageTree → List Token → Type 0
  AsNested ts tree rest = own.ReadsNested docs ts (nested_as_text tree) rest

  nested_kept : Keeps printed.ReadsNested AsNested (bare_package (λ ty. ty))
  nested_kept ts _ _ (nested_package {head = head} h l) =
      let k = repeated_kept item_kept _ _ _ l in record {
        tree = record { head = record head { docs = docs ts }; items = k.tree };
        reads = own.ReadsNested.nested_package h (items_of k.reads);
        same = both (λ x xs. record { head = x; items = xs }) (bare_head h) k.same;
      }

  -- items, then nested packages, and nothing more
  record RestKept (ts : List Token) (items : List ItemTree) (trees : List PackageTree) : Type 0 where
    own_items : List ItemTree
    own_nested : List PackageTree
    reads : own.ReadsRest docs ts (map item_as_text own_items) (map nested_as_text own_nested)
    same_items : map (bare_item (λ ty. ty)) own_items ≡ items
    same_nested : map (bare_package (λ ty. ty)) own_nested ≡ trees

  nested_rest_kept : {ts : List Token} {trees : List PackageTree} → printed.ReadsAllNested ts trees → RestKept ts [] trees
  nested_rest_kept nested_end = record { own_items = []; own_nested = []; reads = own.ReadsRest.rest_end; same_items = refl; same_nested = refl }
  nested_rest_kept (next_nested r l) =
      let k = nested_kept _ _ _ r in
      let m = nested_rest_kept l in record {
        own_items = m.own_items;
        own_nested = k.tree ∷ m.own_nested;
        reads = own.ReadsRest.next_nested k.reads m.reads;
        same_items = m.same_items;
        same_nested = both (λ x xs. x ∷ xs) k.same m.same_nested;
      }

  rest_kept : {ts between : List Token} {items : List ItemTree} {trees : List PackageTree} → printed.ReadsItems ts items between
      → printed.ReadsAllNested between trees → RestKept ts items trees
  rest_kept no_items n = nested_rest_kept n
  rest_kept (next_item r l) n =
      let k = item_kept _ _ _ r in
      let m = rest_kept l n in record {
        own_items = k.tree ∷ m.own_items;
        own_nested = m.own_nested;
        reads = own.ReadsRest.next_item k.reads m.reads;
        same_items = both (λ x xs. x ∷ xs) k.same m.same_items;
        same_nested = m.same_nested;
      }

  -- A file of the grammar of printed text is one with documentation.
  pub file_kept : {ts : List Token} {tree : FileTree} → printed.ReadsFile ts tree
      → (file : FileTree) × own.ReadsText docs ts (file_as_text file) × (bare_file (λ ty. ty) file ≡ tree)
  file_kept {ts} (file {head = head} h l n) =
      let m = rest_kept l n in (
        record { main = record { head = record head { docs = docs ts }; items = m.own_items }; nested = m.own_nested },
        own.ReadsText.with_name h m.reads,
        both (λ x xs. record { main = x; nested = xs }) (both (λ x xs. record { head = x; items = xs }) (bare_head h) m.same_items) m.same_nested,
      )
