-- Uses one after the other are the groups that are shown.
use Rattle.std.proofs.Common.{rules as std_rules, ◌≡◌, refl, sym, ap, ◌∙◌, Bool, true, false, ◌&&◌, ◌||◌, ◌==◌, nat_lt, length, List, [], ◌∷◌, ◌++◌, append-nil, append_assoc, map, filter_map, Option, Some, None, if◌then◌else◌}
use Rattle.std.proofs.Math.Utf8.{encodes}
use Rattle.std.proofs.lemmas.{Str.encodes-chars, Str.IsUtf8-string_bytes, Grind.flat_map-append, Bool.eqb-true, Bool.and_from as both, List.Folds.flat_map-map}
use Rattle.std.specs.{Prelude.codes, Prelude.is_some, Prelude.String, Str.chars, List.list_all, List.cons_option}
use Rattle.std.specs.declared.alloc.Global.{Global}
use Rattle.wit_model.specs.declared.model.{Resolve.Resolve, InterfaceId.InterfaceId, PackageId.PackageId, TypeOwner.TypeOwner}
use Rattle.wit_model.specs.declared.model.TypeDef.{TypeDef}
use Rattle.wit_model.specs.{Names.is_label, Rules.has_items, Rules.passes, Text.Text, Text.text_eq, Text.text_of}
use Rattle.wit_model.proofs.{VersionLaws.same_text, TextLemmas.text_same}
use Rattle.print_output.specs.{OutputCall.OutputCall.Str}
use Rattle.print_grammar.specs.{Tree.MemberTree, Tree.PathTree, Tree.UsedName, Tree.MemberTree.UseMember}
use Rattle.print_grammar.specs.Calls.{doc_calls, members_calls, printed_after, use_calls, used_name_calls}
use Rattle.print_items.specs.Shown.{Listed, Used, grouped, grouped_with, same_group, used_of}
use Rattle.print_uses.specs.UseGroups.{group_end_calls, is_printable_use, joins, listed_use, listed_use_calls, more_names_calls, names_calls, new_group_calls, open_end_calls, use_after, use_run_calls, uses_calls}
use Rattle.print_uses.specs.declared.use_group.Use.{Use}
use Rattle.base_lemmas.proofs.Bools.{both_ways, left_of, right_of}

-- ---- a use alone

-- nothing documented, and a name
abbrev pub is_plain_use : Used → Bool
is_plain_use used = (length used.prefix.docs == 0) && nat_lt 0 (length used.names)

module _ (here : TypeOwner) (own : Text) (def : TypeDef) where
  pub use_plain : (r : Resolve) → passes is_plain_use (used_of r here own def) ≡ true
  use_plain r = search std_rules

-- ---- groups

no_docs : (emits : Bool) (docs : List Text) → (length docs == 0) ≡ true → doc_calls emits docs ≡ []
no_docs true [] h = refl
no_docs false [] h = refl
no_docs emits (d ∷ ds) h = let wrong : length (d ∷ ds) ≡ 0 = eqb-true (length (d ∷ ds)) 0 h in absurd cc

-- the first name and others are names and more
names_append : (names more : List UsedName) → nat_lt 0 (length names) ≡ true → names_calls (names ++ more) ≡ names_calls names ++ more_names_calls more
names_append [] more h = absurd cc
names_append (name ∷ names) more h = search (std_rules, flat_map-append, append_assoc, flat_map-map)

module _ (emits : Bool) (path : InterfaceId → PathTree) where
  abbrev shown : Used → MemberTree
  shown used = UseMember used.prefix (path used.interface) used.names

  -- a group is what begins it, more names and its end
  group_calls : (used : Used) (more : List UsedName) → is_plain_use used ≡ true
      → use_calls emits used.prefix (path used.interface) (used.names ++ more) ≡ new_group_calls path used ++ (more_names_calls more ++ group_end_calls)
  group_calls used more h = search (std_rules, no_docs, left_of, names_append, right_of, append_assoc)

  -- What stands behind the names of a use: more of its group, and other groups.
  record Grouped (used : Used) (uses : List Used) : Type 0 where
    more : List UsedName
    others : List Used
    groups : grouped (used ∷ uses) ≡ record used { names = used.names ++ more } ∷ others
    calls : uses_calls path (Some used) uses ≡ more_names_calls more ++ (group_end_calls ++ members_calls emits true (map shown others))

  grouped_calls : (used : Used) (uses : List Used) → list_all is_plain_use uses ≡ true → Grouped used uses
  grouped_calls used [] h = record {
    more = [];
    others = [];
    groups = ap (λ (names : List UsedName). let all : List Used = record used { names = names } ∷ [] in all) (sym (append-nil used.names));
    calls = sym (append-nil group_end_calls);
  }
  grouped_calls used (next ∷ uses) h = by_same (grouped_calls next uses (right_of (is_plain_use next) _ h)) (same_group used next) refl
    where
      by_same : Grouped next uses → (b : Bool) → same_group used next ≡ b → Grouped used (next ∷ uses)
      by_same rest true e = record {
        more = next.names ++ rest.more;
        others = rest.others;
        groups = ap (grouped_with used) rest.groups ∙ ap (λ b. if b then record used { names = used.names ++ (next.names ++ rest.more) } ∷ rest.others else used ∷ record next
            { names = next.names ++ rest.more } ∷ rest.others) e;
        calls = ap (λ b. (if b then more_names_calls next.names else group_end_calls ++ new_group_calls path next) ++ uses_calls path (Some next) uses) e
            ∙ ap (λ x. more_names_calls next.names ++ x) rest.calls
            ∙ sym (append_assoc (more_names_calls next.names) (more_names_calls rest.more) (group_end_calls ++ members_calls emits true (map shown rest.others)))
            ∙ ap (λ x. x ++ (group_end_calls ++ members_calls emits true (map shown rest.others))) (sym (flat_map-append (λ n. Str (codes ", ") ∷ used_name_calls n) next.names rest.more));
      }
      by_same rest false e = let group : Used = record next { names = next.names ++ rest.more } in record {
        more = [];
        others = group ∷ rest.others;
        groups = ap (grouped_with used) rest.groups ∙ ap (λ b. if b then record used { names = used.names ++ (next.names ++ rest.more) } ∷ rest.others else used ∷ group ∷ rest.others) e
            ∙ (ap (λ (names : List UsedName). let all : List Used = record used { names = names } ∷ group ∷ rest.others in all) (sym (append-nil used.names)));
        calls = ap (λ b. (if b then more_names_calls next.names else group_end_calls ++ new_group_calls path next) ++ uses_calls path (Some next) uses) e
            ∙ append_assoc group_end_calls (new_group_calls path next) (uses_calls path (Some next) uses)
            ∙ ap (λ x. group_end_calls ++ x)
            (ap (λ x. new_group_calls path next ++ x) (rest.calls ∙ sym (append_assoc (more_names_calls rest.more) group_end_calls (members_calls emits true (map shown rest.others))))
            ∙ sym (append_assoc (new_group_calls path next) (more_names_calls rest.more ++ group_end_calls) (members_calls emits true (map shown rest.others)))
            ∙ ap (λ x. x ++ members_calls emits true (map shown rest.others)) (sym (group_calls next rest.more (left_of _ _ h))));
      }

  -- The calls for uses, one after the other, are those of the groups.
  pub uses_grouped : (printed : Bool) (uses : List Used) → list_all is_plain_use uses ≡ true → uses_calls path None uses ≡ members_calls emits printed (map shown (grouped uses))
  uses_grouped printed [] h = refl
  uses_grouped printed (used ∷ uses) h =
      let g = grouped_calls used uses (right_of (is_plain_use used) _ h) in
      ap (λ x. new_group_calls path used ++ x) (g.calls ∙ sym (append_assoc (more_names_calls g.more) group_end_calls (members_calls emits true (map shown g.others))))
      ∙ sym (append_assoc (new_group_calls path used) (more_names_calls g.more ++ group_end_calls) (members_calls emits true (map shown g.others)))
      ∙ ap (λ x. x ++ members_calls emits true (map shown g.others)) (sym (group_calls used g.more (left_of _ _ h))) ∙ ap (λ gs. members_calls emits printed (map shown gs)) (sym g.groups)

  -- ---- whether there are any

  pub uses_printed : (printed : Bool) (uses : List Used) → list_all is_plain_use uses ≡ true → printed_after printed (map shown (grouped uses)) ≡ (printed || has_items uses)
  uses_printed printed x h = search std_rules

-- the names of a use that can be printed are labels
pub use_labels : (r : Resolve) (here : PackageId) (u : Use) → is_printable_use r here u ≡ true → (is_label u.own.now ≡ true) × (is_label u.other.now ≡ true)
use_labels r here u h = search (std_rules, right_of, left_of)

-- ---- texts by their characters

pub chars_same : (a b : String Global) → text_eq (text_of a) (text_of b) ≡ text_eq (chars (text_of a)) (chars (text_of b))
chars_same a b = both_ways _ _ (λ h. same_text (chars (text_of a)) (chars (text_of b)) (ap chars (text_same (text_of a) (text_of b) h)))
    (λ h. same_text (text_of a) (text_of b) (bytes (text_same (chars (text_of a)) (chars (text_of b)) h)))
  where
    bytes : chars (text_of a) ≡ chars (text_of b) → text_of a ≡ text_of b
    bytes e = sym (encodes-chars (text_of a) (IsUtf8-string_bytes a)) ∙ (ap encodes e ∙ encodes-chars (text_of b) (IsUtf8-string_bytes b))

-- ---- a use behind another

module _ (path : InterfaceId → PathTree) (before : Option Used) (used : Used) where
  run_is : (b : Option Used) (c : Bool) → before ≡ b → joins b used ≡ c → use_run_calls path before used ≡ (if c then more_names_calls used.names else open_end_calls b ++ new_group_calls path used)
  run_is b c e j = ap (λ o. use_run_calls path o used) e ∙ ap (λ x. if x then more_names_calls used.names else open_end_calls b ++ new_group_calls path used) j

  pub run_first : before ≡ None → new_group_calls path used ≡ use_run_calls path before used
  run_first e = sym (run_is None false e refl)

  pub run_joined : (other : Used) → before ≡ Some other → same_group other used ≡ true → more_names_calls used.names ≡ use_run_calls path before used
  run_joined other e j = sym (run_is (Some other) true e j)

  pub run_next : (other : Used) → before ≡ Some other → same_group other used ≡ false → group_end_calls ++ new_group_calls path used ≡ use_run_calls path before used
  run_next other e j = sym (run_is (Some other) false e j)

-- ---- one type after the other

pub next_use : (path : InterfaceId → PathTree) (before o : Option Used) (rest : List Used)
    → uses_calls path before (cons_option o rest) ≡ listed_use_calls path before o ++ uses_calls path (use_after before o) rest
next_use path before x rest = search std_rules

pub next_some : (before o : Option Used) (rest : List Used) → (is_some before || has_items (cons_option o rest)) ≡ (is_some (use_after before o) || has_items rest)
next_some x y rest = search std_rules

-- none is plain but those with a name and no documentation
pub listed_plain : (r : Resolve) (o : TypeOwner) (types : List Listed) → list_all is_plain_use (filter_map (listed_use r o) types) ≡ true
listed_plain r o [] = refl
listed_plain r o (t ∷ ts) = search (std_rules, use_plain, both, listed_plain r o ts)
