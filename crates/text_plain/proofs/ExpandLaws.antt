-- Inclusions of worlds, written out.
use Rattle.std.proofs.Common.{rules as std_rules, ◌≡◌, refl, sym, ap, ◌∙◌, subst, inl, inr, ℕ, ◌+◌, ◌<◌, arith, Bool, true, false, cond, nat_eq, List, [], ◌∷◌, ◌++◌, append_assoc, length, map, take, get_or, slice_get, slice_set, Option, Some, None, option_map, unwrap_or, Vec}
use Rattle.std.specs.{Borrow.Bor, Global.Global, List.filter_map}
use Rattle.std.proofs.lemmas.{List.length-set, List.Elements.filter_map-append, Option.slice_get-get_or, Option.slice_get_within}
use Rattle.base_lemmas.proofs.Lists.{append_none, append_of_map, front_or_last, none_there, one_item, set_there}
use Rattle.base_lemmas.proofs.Elements.{contains-map, get-contains}
use Rattle.base_lemmas.proofs.Numbers.{differ, equal}
use Rattle.wit_model.specs.Text.{Text, text_eq}
use Rattle.print_grammar.specs.Tree.{PackageHead, PathTree, PathTree.Local, PathTree.Full, UsedName, WorldMember}
use Rattle.text_trees.specs.{Seen.cut, TextTreesSeen.documented_head, TextTreesSeen.part_of, TreesSeen.docs_of, TreesSeen.head_of, TreesSeen.path_of, TreesSeen.used_name_of, TreesSeen.world_member_of}
use Rattle.text_trees.specs.declared.tree.{PackageHead.PackageHead as CodeHead, PathTree.PathTree as CodePath, Span.Span, UsedName.UsedName as CodeUsed, WorldMember.WorldMember as CodeMember, WorldPart.WorldPart as CodePart}
use Rattle.text_plain.specs.declared.{merging.Merged.Merged, moving.Moving.Moving, scopes.Heading.Heading, scopes.Scope.Scope, worlds.WorldSource.WorldSource, worlds.Worlds.Worlds}
use Rattle.text_trees.specs.declared.tree.WorldPart.TheVariants as parts
use Rattle.text_plain.specs.Expanding.{AddsRenamed, AreExpanded, AreNone, ComesFrom, IsIncluding, Takes, all_said, inclusion_at, inclusions_at, members_at, own_said}
use Rattle.text_plain.specs.Merging.{Becomes, IsMerged, members_seen}
use Rattle.text_plain.specs.Moved.{moved_world_member, renamed, routed, seen_from}
use Rattle.text_plain.specs.Moves.{on_name, on_path, text_from, text_to}
use Rattle.text_plain.specs.Places.{IsPlaced}
use Rattle.text_plain.specs.Plain.{Expands, Included, Inclusion, IsWorldOf, WorldAt, expands, inclusion_of, merged, named_by, named_world, no_more, same_named, one_more, own_member, routed_inclusion, with_member}
use Rattle.text_plain.specs.Scopes.{MovesBy, aliases_in, heading_of, home_of_scope}
use Rattle.text_plain.specs.Worlds.{Means, world_seen}
use Rattle.text_plain.proofs.WholeLaws.{turned}
use Rattle.std.proofs.lemmas.List.{take_more}
use Rattle.text_plain.proofs.WalkLaws.{set_at}

-- ---- other names

pub own_cut : (from : Text) (own : Option Span) (other at : Span) → at ≡ unwrap_or own other → cut from at ≡ unwrap_or (option_map (cut from) own) (cut from other)
own_cut from None other at e = ap (cut from) e
own_cut from (Some own) other at e = ap (cut from) e

pub name_added : (whole from : Text) (old new : List (Bor (List ℕ) × Span)) (key : Bor (List ℕ)) (own : Span) (used : CodeUsed) → new ≡ old ++ (key, own) ∷ [] → key.now ≡ cut from used.other
    → cut whole own ≡ unwrap_or (option_map (cut from) used.own) (cut from used.other) → all_said whole new ≡ all_said whole old ++ own_said (used_name_of from used) ∷ []
name_added whole from old new key own used more other name =
    ap (all_said whole) more ∙ (append_of_map (λ entry. record { other = entry.0.now; own = Some (cut whole entry.1) }) old ((key, own) ∷ [])
    ∙ ap (λ (u : UsedName). all_said whole old ++ u ∷ []) (used_is key.now (cut from used.other) (cut whole own) _ other name))
  where
    used_is : (a b c d : Text) → a ≡ b → c ≡ d → ◌≡◌ {A = UsedName} (record { other = a; own = Some c }) (record { other = b; own = Some d })
    used_is a b c d e f = cc

pub names_turn : (from : Text) (names : List CodeUsed) (i : ℕ) (d : CodeUsed) (old new : List UsedName) → i < length names
    → old ≡ map own_said (map (used_name_of from) (take i names)) → new ≡ old ++ own_said (used_name_of from (get_or names i d)) ∷ []
    → new ≡ map own_said (map (used_name_of from) (take (i + 1) names))
names_turn from names i d old new below held more =
    let x = get_or names i d in
    more ∙ (ap (λ (l : List UsedName). l ++ own_said (used_name_of from x) ∷ []) held
    ∙ (sym (append_of_map own_said (map (used_name_of from) (take i names)) (used_name_of from x ∷ []))
    ∙ (ap (map own_said) (sym (append_of_map (used_name_of from) (take i names) (x ∷ []))) ∙ ap (λ (l : List CodeUsed). map own_said (map (used_name_of from) l)) (sym (take_more names i d below)))))

own_same : (own : Option Text) (other name : Text) → text_eq other name ≡ true → unwrap_or own other ≡ unwrap_or own name
own_same None other name e = search std_rules
own_same (Some own) other name e = refl

pub renamed_said : (xs : List UsedName) (name : Text) → renamed (map own_said xs) name ≡ renamed xs name
renamed_said [] name = refl
renamed_said (x ∷ xs) name = by_test (text_eq x.other name) refl (renamed_said xs name)
  where
    by_test : (b : Bool) → text_eq x.other name ≡ b → renamed (map own_said xs) name ≡ renamed xs name
        → cond (text_eq x.other name) (unwrap_or x.own x.other) (renamed (map own_said xs) name) ≡ cond (text_eq x.other name) (unwrap_or x.own name) (renamed xs name)
    by_test true e rest = rw e (own_same x.own x.other name e)
    by_test false e rest = rw e rest

-- ---- what is included, one after the other

pub merged_more : (here : PackageHead) (members xs : List WorldMember) (x : WorldMember) → merged here members (xs ++ x ∷ []) ≡ with_member here (merged here members xs) x
merged_more here members [] x = refl
merged_more here members (y ∷ ys) x = merged_more here (with_member here members y) ys x

-- what it is for a moved one
abbrev pub moved_all : Moving → List CodeMember → List WorldMember
moved_all m its = map (moved_world_member (on_name m) (on_path m)) (map (world_member_of (text_from m)) its)

pub merged_turn : (m : Moving) (whole : Text) (heading : Heading) (here : PackageHead) (members : List WorldMember) (its : List CodeMember) (i : ℕ) (x : CodeMember) (a b : Merged)
    (copied : CodeMember)
    → i < length its → x ≡ get_or its i x → here ≡ heading_of whole heading
    → Becomes whole heading (merged here members (moved_all m (take i its))) a
    → world_member_of a.whole.now copied ≡ moved_world_member (on_name m) (on_path m) (world_member_of (text_from m) x)
    → Becomes a.whole.now a.heading (with_member (heading_of a.whole.now a.heading) (members_seen a) (world_member_of a.whole.now copied)) b
    → Becomes whole heading (merged here members (moved_all m (take (i + 1) its))) b
merged_turn m whole heading here members its i x a b copied below is here_is before same now = record {
  index = now.index;
  whole_is = now.whole_is ∙ before.whole_is;
  heading_is = now.heading_is ∙ before.heading_is;
  members_are =
      let all : moved_all m (take (i + 1) its) ≡ moved_all m (take i its) ++ moved_world_member (on_name m) (on_path m) (world_member_of (text_from m) x) ∷ [] =
      ap (moved_all m) (turned its i x below is)
      ∙ (ap (map (moved_world_member (on_name m) (on_path m))) (append_of_map (world_member_of (text_from m)) (take i its) (x ∷ []))
      ∙ append_of_map (moved_world_member (on_name m) (on_path m)) (map (world_member_of (text_from m)) (take i its)) (world_member_of (text_from m) x ∷ [])) in
      let home : heading_of a.whole.now a.heading ≡ here =
      ap (λ (w : Text). heading_of w a.heading) before.whole_is ∙ (ap (heading_of whole) before.heading_is ∙ sym here_is) in
      now.members_are
      ∙ (ap (λ (h : PackageHead). with_member h (members_seen a) (world_member_of a.whole.now copied)) home
      ∙ (ap (λ (l : List WorldMember). with_member here l (world_member_of a.whole.now copied)) before.members_are
      ∙ (ap (with_member here (merged here members (moved_all m (take i its)))) same
      ∙ (sym (merged_more here members (moved_all m (take i its)) (moved_world_member (on_name m) (on_path m) (world_member_of (text_from m) x)))
      ∙ ap (merged here members) (sym all)))));
}

pub renamed_added : (whole : Text) (entries : List (Bor (List ℕ) × Span)) (home : CodeHead) (a b : Merged) (its : List CodeMember) (m : Moving) → whole ≡ a.whole.now
    → ComesFrom whole entries home a.heading.head m
    → Becomes a.whole.now a.heading (merged (heading_of a.whole.now a.heading) (members_seen a) (moved_all m its)) b
    → AddsRenamed (all_said whole entries) home (map (world_member_of whole) its) a b
renamed_added whole entries home a b its m same comes added =
    let all : moved_all m its ≡ map (moved_world_member (renamed (all_said whole entries)) (seen_from (head_of a.whole.now home) (head_of a.whole.now a.heading.head)))
    (map (world_member_of whole) its) =
    ap (λ (f : Text → Text). map (moved_world_member f (on_path m)) (map (world_member_of (text_from m)) its)) comes.names_are
    ∙ (ap (λ (f : PathTree → PathTree). map (moved_world_member (renamed (all_said whole entries)) f) (map (world_member_of (text_from m)) its))
    (comes.paths_are ∙ ap (λ (w : Text). seen_from (head_of w home) (head_of w a.heading.head)) same)
    ∙ ap (λ (w : Text). map (moved_world_member (renamed (all_said whole entries)) (seen_from (head_of a.whole.now home) (head_of a.whole.now a.heading.head))) (map (world_member_of w) its))
    comes.from_is) in
    subst (λ (l : List WorldMember). Becomes a.whole.now a.heading (merged (heading_of a.whole.now a.heading) (members_seen a) l) b) all added

pub said_added : (names : List UsedName) (home : CodeHead) (its : List WorldMember) (a b : Merged) (said : List UsedName) → said ≡ map own_said names
    → AddsRenamed said home its a b → AddsRenamed names home its a b
said_added names home its a b said is added =
    let same : renamed said ≡ renamed names = λ i n. (ap (λ (l : List UsedName). renamed l n) is ∙ renamed_said names n) i in
    subst (λ (f : Text → Text). Becomes a.whole.now a.heading (merged (heading_of a.whole.now a.heading) (members_seen a)
    (map (moved_world_member f (seen_from (head_of a.whole.now home) (head_of a.whole.now a.heading.head))) its)) b) same added

-- ---- inclusions

seen_bare : (home here : PackageHead) (xs ys : List Text) (p : PathTree) → seen_from home here p ≡ seen_from (record home { docs = xs }) (record here { docs = ys }) p
seen_bare home here xs ys (Local name) = refl
seen_bare home here xs ys (Full namespace name interface version) = refl

-- what is included
pub taken_one : (w : Worlds) (done : List (Option (Vec CodeMember Global))) (s : Scope) (a b : Merged) (path : CodePath) (names : List CodeUsed) (n : ℕ) (its : Vec CodeMember Global)
    (source : WorldSource)
    → IsIncluding w done s a → Means w s path n → slice_get w.worlds.items n ≡ Some source → slice_get done n ≡ Some (Some its)
    → AddsRenamed (map (used_name_of s.place.from.now) names) source.scope.now.heading.head (map (world_member_of s.place.whole.now) its.items) a b
    → Takes w (inclusion_at s path names ∷ []) a b
taken_one w done s a b path names n its source ready means there finished added =
    let it : means.world_ ≡ source = one_item w.worlds.items n means.world_ source means.stands there in
    let other : WorldAt = world_seen source in
    let is_world : IsWorldOf (map world_seen w.worlds.items) (home_of_scope s) (routed (aliases_in s) (path_of s.place.from.now path)) other = record {
      there = contains-map world_seen w.worlds.items source (get-contains w.worlds.items n source there);
      named = subst (λ (x : WorldSource). same_named (named_by (home_of_scope s) (routed (aliases_in s) (path_of s.place.from.now path))) (named_world (world_seen x)) ≡ true) it means.named;
    } in
    let is_expanded : Expands (map world_seen w.worlds.items) other (map (world_member_of w.whole.now) its.items) = ready.expanded.expands n its source finished there in
    let homes : seen_from (head_of a.whole.now source.scope.now.heading.head) (head_of a.whole.now a.heading.head) ≡ seen_from other.home (heading_of a.whole.now a.heading) =
    (λ i p. seen_bare (head_of a.whole.now source.scope.now.heading.head) (head_of a.whole.now a.heading.head)
    (docs_of a.whole.now source.scope.now.heading.docs) (docs_of a.whole.now a.heading.docs) p i)
    ∙ ap (λ (t : Text). seen_from (documented_head t source.scope.now.heading.docs source.scope.now.heading.head) (heading_of a.whole.now a.heading))
    (ready.whole_is ∙ sym ((ready.index.placed n source there).is)) in
    let whole_is : s.place.whole.now ≡ w.whole.now = ready.placed.is in
    let all : map (moved_world_member (renamed (map (used_name_of s.place.from.now) names)) (seen_from (head_of a.whole.now source.scope.now.heading.head) (head_of a.whole.now a.heading.head)))
    (map (world_member_of s.place.whole.now) its.items)
    ≡ map (moved_world_member (renamed (map (used_name_of s.place.from.now) names)) (seen_from other.home (heading_of a.whole.now a.heading))) (map (world_member_of w.whole.now) its.items) =
    ap (λ (f : PathTree → PathTree). map (moved_world_member (renamed (map (used_name_of s.place.from.now) names)) f) (map (world_member_of s.place.whole.now) its.items)) homes
    ∙ ap (λ (t : Text). map (moved_world_member (renamed (map (used_name_of s.place.from.now) names)) (seen_from other.home (heading_of a.whole.now a.heading)))
    (map (world_member_of t) its.items)) whole_is in
    record {
      index = added.index;
      whole_is = added.whole_is;
      heading_is = added.heading_is;
      includes = λ rest total included.
          let members : members_seen b ≡ merged (heading_of a.whole.now a.heading) (members_seen a)
          (map (moved_world_member (renamed (map (used_name_of s.place.from.now) names)) (seen_from other.home (heading_of a.whole.now a.heading))) (map (world_member_of w.whole.now) its.items)) =
          added.members_are ∙ ap (merged (heading_of a.whole.now a.heading) (members_seen a)) all in
          one_more other
          (subst (λ (h : PackageHead). IsWorldOf (map world_seen w.worlds.items) h (routed (aliases_in s) (path_of s.place.from.now path)) other) (sym ready.home_is) is_world)
          is_expanded
          (subst (λ (l : List WorldMember). Included (map world_seen w.worlds.items) (heading_of a.whole.now a.heading) rest l total) members included);
    }

pub taken_none : (w : Worlds) (m : Merged) → IsMerged m → Takes w [] m m
taken_none w m index = record { index = index; whole_is = refl; heading_is = refl; includes = λ rest all included. included }

pub taken_both : (w : Worlds) (xs ys : List Inclusion) (a b c : Merged) → Takes w xs a b → Takes w ys b c → Takes w (xs ++ ys) a c
taken_both w xs ys a b c one two = record {
  index = two.index;
  whole_is = two.whole_is ∙ one.whole_is;
  heading_is = two.heading_is ∙ one.heading_is;
  includes = λ rest all included.
      let home : heading_of b.whole.now b.heading ≡ heading_of a.whole.now a.heading =
      ap (λ (t : Text). heading_of t b.heading) one.whole_is ∙ ap (heading_of a.whole.now) one.heading_is in
      let later : Included (map world_seen w.worlds.items) (heading_of a.whole.now a.heading) (ys ++ rest) (members_seen b) all =
      subst (λ (h : PackageHead). Included (map world_seen w.worlds.items) h (ys ++ rest) (members_seen b) all) home
      (two.includes rest all (subst (λ (h : PackageHead). Included (map world_seen w.worlds.items) h rest (members_seen c) all) (sym home) included)) in
      subst (λ (l : List Inclusion). Included (map world_seen w.worlds.items) (heading_of a.whole.now a.heading) l (members_seen a) all) (sym (append_assoc xs ys rest))
      (one.includes (ys ++ rest) all later);
}

pub taken_turn : (w : Worlds) (s : Scope) (parts : List CodePart) (i : ℕ) (x : CodePart) (a b c : Merged) → i < length parts → x ≡ get_or parts i x
    → Takes w (inclusions_at s (take i parts)) a b → Takes w (inclusions_at s (x ∷ [])) b c → Takes w (inclusions_at s (take (i + 1) parts)) a c
taken_turn w s parts i x a b c below is one two =
    let all : inclusions_at s (take i parts) ++ inclusions_at s (x ∷ []) ≡ inclusions_at s (take (i + 1) parts) =
    sym (append_of_map (routed_inclusion (aliases_in s)) (filter_map inclusion_of (map (part_of s.place.from.now) (take i parts))) (filter_map inclusion_of (part_of s.place.from.now x ∷ [])))
    ∙ (ap (map (routed_inclusion (aliases_in s))) (sym (filter_map-append inclusion_of (map (part_of s.place.from.now) (take i parts)) (part_of s.place.from.now x ∷ [])))
    ∙ (ap (λ (l : List _). map (routed_inclusion (aliases_in s)) (filter_map inclusion_of l)) (sym (append_of_map (part_of s.place.from.now) (take i parts) (x ∷ [])))
    ∙ ap (inclusions_at s) (sym (turned parts i x below is)))) in
    subst (λ (l : List Inclusion). Takes w l a c) all (taken_both w _ _ a b c one two)

pub still_including : (w : Worlds) (done : List (Option (Vec CodeMember Global))) (s : Scope) (xs : List Inclusion) (a b : Merged) → IsIncluding w done s a → Takes w xs a b → IsIncluding w done s b
still_including w done s xs a b ready taken = record {
  index = ready.index;
  placed = ready.placed;
  expanded = ready.expanded;
  merged = taken.index;
  whole_is = taken.whole_is ∙ ready.whole_is;
  home_is = ap (λ (t : Text). heading_of t b.heading) taken.whole_is ∙ (ap (heading_of a.whole.now) taken.heading_is ∙ ready.home_is);
}

-- ---- what a world has of its own

pub own_turn : (s : Scope) (whole : Text) (heading : Heading) (before : List WorldMember) (parts : List CodePart) (i : ℕ) (x : CodePart) (a b : Merged) → i < length parts → x ≡ get_or parts i x
    → Becomes whole heading (before ++ members_at s (take i parts)) a → Becomes a.whole.now a.heading (members_seen a ++ members_at s (x ∷ [])) b
    → Becomes whole heading (before ++ members_at s (take (i + 1) parts)) b
own_turn s whole heading before parts i x a b below is one two =
    let all : members_at s (take i parts) ++ members_at s (x ∷ []) ≡ members_at s (take (i + 1) parts) =
    sym (append_of_map (moved_world_member (λ n. n) (routed (aliases_in s))) (filter_map own_member (map (part_of s.place.from.now) (take i parts)))
    (filter_map own_member (part_of s.place.from.now x ∷ [])))
    ∙ (ap (map (moved_world_member (λ n. n) (routed (aliases_in s)))) (sym (filter_map-append own_member (map (part_of s.place.from.now) (take i parts)) (part_of s.place.from.now x ∷ [])))
    ∙ (ap (λ (l : List _). map (moved_world_member (λ n. n) (routed (aliases_in s))) (filter_map own_member l)) (sym (append_of_map (part_of s.place.from.now) (take i parts) (x ∷ [])))
    ∙ ap (members_at s) (sym (turned parts i x below is)))) in
    record {
      index = two.index;
      whole_is = two.whole_is ∙ one.whole_is;
      heading_is = two.heading_is ∙ one.heading_is;
      members_are = two.members_are ∙ (ap (λ (l : List WorldMember). l ++ members_at s (x ∷ [])) one.members_are
          ∙ (append_assoc before (members_at s (take i parts)) (members_at s (x ∷ [])) ∙ ap (λ (l : List WorldMember). before ++ l) all));
    }

pub own_one : (s : Scope) (member : CodeMember) (part : CodePart) (m : Moving) (copied : CodeMember) (whole : Text) → part ≡ parts.Has member → MovesBy s.place (λ n. n) (routed (aliases_in s)) m
    → world_member_of (text_to m) copied ≡ moved_world_member (on_name m) (on_path m) (world_member_of (text_from m) member) → s.place.whole.now ≡ whole
    → world_member_of whole copied ∷ [] ≡ members_at s (part ∷ [])
own_one s member part m copied whole is moves same placed =
    let one : world_member_of whole copied ≡ moved_world_member (λ n. n) (routed (aliases_in s)) (world_member_of s.place.from.now member) =
    ap (λ (t : Text). world_member_of t copied) (sym (moves.to_is ∙ placed))
    ∙ (same ∙ (ap (λ (f : Text → Text). moved_world_member f (on_path m) (world_member_of (text_from m) member)) moves.names_are
    ∙ (ap (λ (f : PathTree → PathTree). moved_world_member (λ n. n) f (world_member_of (text_from m) member)) moves.paths_are
    ∙ ap (λ (t : Text). moved_world_member (λ n. n) (routed (aliases_in s)) (world_member_of t member)) moves.from_is))) in
    ap (λ (x : WorldMember). x ∷ []) one ∙ ap (λ (p : CodePart). members_at s (p ∷ [])) (sym is)

-- ---- a world

pub world_expanded : (w : Worlds) (source : WorldSource) (a b c : Merged) → IsPlaced w.whole.now source.scope.now.place
    → Becomes w.whole.now source.scope.now.heading [] a
    → Becomes a.whole.now a.heading (members_seen a ++ members_at source.scope.now source.parts.now.items) b
    → Takes w (inclusions_at source.scope.now source.parts.now.items) b c
    → Expands (map world_seen w.worlds.items) (world_seen source) (map (world_member_of w.whole.now) c.members.items)
world_expanded w source a b c placed none own taken =
    let home : heading_of b.whole.now b.heading ≡ home_of_scope source.scope.now =
    ap (λ (t : Text). heading_of t b.heading) (own.whole_is ∙ none.whole_is)
    ∙ (ap (heading_of w.whole.now) (own.heading_is ∙ none.heading_is) ∙ ap (λ (t : Text). heading_of t source.scope.now.heading) (sym placed.is)) in
    let members : members_seen b ≡ members_at source.scope.now source.parts.now.items =
    own.members_are ∙ ap (λ (l : List WorldMember). l ++ members_at source.scope.now source.parts.now.items) none.members_are in
    let same_whole : c.whole.now ≡ w.whole.now = taken.whole_is ∙ (own.whole_is ∙ none.whole_is) in
    let included : Included (map world_seen w.worlds.items) (heading_of b.whole.now b.heading) (inclusions_at source.scope.now source.parts.now.items ++ []) (members_seen b) (members_seen c) =
    taken.includes [] (members_seen c) no_more in
    let there : Included (map world_seen w.worlds.items) (home_of_scope source.scope.now) (inclusions_at source.scope.now source.parts.now.items)
    (members_at source.scope.now source.parts.now.items) (map (world_member_of w.whole.now) c.members.items) =
    subst (λ (l : List WorldMember). Included (map world_seen w.worlds.items) (home_of_scope source.scope.now) (inclusions_at source.scope.now source.parts.now.items)
    (members_at source.scope.now source.parts.now.items) l) (ap (λ (t : Text). map (world_member_of t) c.members.items) same_whole)
    (subst (λ (l : List WorldMember). Included (map world_seen w.worlds.items) (home_of_scope source.scope.now) (inclusions_at source.scope.now source.parts.now.items) l (members_seen c)) members
    (subst (λ (l : List Inclusion). Included (map world_seen w.worlds.items) (home_of_scope source.scope.now) l (members_seen b) (members_seen c))
    (append_none (inclusions_at source.scope.now source.parts.now.items))
    (subst (λ (h : PackageHead). Included (map world_seen w.worlds.items) h (inclusions_at source.scope.now source.parts.now.items ++ []) (members_seen b) (members_seen c)) home included))) in
    expands there

-- ---- all worlds

pub none_more : (old new : List (Option (Vec CodeMember Global))) → AreNone old → new ≡ old ++ None ∷ [] → AreNone new
none_more old new held more n its e = elim (front_or_last old None n (Some its) (ap (λ (l : List (Option (Vec CodeMember Global))). slice_get l n) (sym more) ∙ e)) [
  | inl u ↦ held n its u
  | inr u ↦ absurd (cc u)
]

pub none_yet : (new : List (Option (Vec CodeMember Global))) → new ≡ [] → AreNone new
none_yet new is n its e = none_there n (Some its) (ap (λ (l : List (Option (Vec CodeMember Global))). slice_get l n) (sym is) ∙ e)

pub one_expanded : (w : Worlds) (old new : List (Option (Vec CodeMember Global))) (number : ℕ) (its : Vec CodeMember Global) (source : WorldSource) → AreExpanded w old
    → new ≡ slice_set old number (Some its) → slice_get w.worlds.items number ≡ Some source
    → Expands (map world_seen w.worlds.items) (world_seen source) (map (world_member_of w.whole.now) its.items) → AreExpanded w new
one_expanded w old new number its source held is there expanded = record {
  many = ap length is ∙ (length-set old number (Some its) ∙ held.many);
  expands = λ n xs it e f. by_place n xs it (nat_eq n number) refl (ap (λ (l : List (Option (Vec CodeMember Global))). slice_get l n) (sym is) ∙ e) f;
}
  where
    by_place : (n : ℕ) (xs : Vec CodeMember Global) (it : WorldSource) (b : Bool) → nat_eq n number ≡ b → slice_get (slice_set old number (Some its)) n ≡ Some (Some xs)
        → slice_get w.worlds.items n ≡ Some it
        → Expands (map world_seen w.worlds.items) (world_seen it) (map (world_member_of w.whole.now) xs.items)
    by_place n xs it true e f g =
        let at : n ≡ number = equal n number e in
        let within : number < length old = omega (arith, slice_get_within w.worlds.items number source there, held.many) in
        let same : slice_get (slice_set old number (Some its)) number ≡ Some (Some its) = set_at old number (Some its) _ (slice_get-get_or old number (Some its) within) in
        let found : Some (Some its) ≡ Some (Some xs) = sym same ∙ (ap (slice_get (slice_set old number (Some its))) (sym at) ∙ f) in
        let items : its ≡ xs = cc in
        let sources : source ≡ it = one_item w.worlds.items number source it there (ap (slice_get w.worlds.items) (sym at) ∙ g) in
        subst (λ (v : Vec CodeMember Global). Expands (map world_seen w.worlds.items) (world_seen it) (map (world_member_of w.whole.now) v.items)) items
        (subst (λ (x : WorldSource). Expands (map world_seen w.worlds.items) (world_seen x) (map (world_member_of w.whole.now) its.items)) sources expanded)
    by_place n xs it false e f g = held.expands n xs it (sym (set_there old number n (Some its) (differ n number e)) ∙ f) g
