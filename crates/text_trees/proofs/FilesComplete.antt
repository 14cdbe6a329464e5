-- What interfaces and worlds have by the grammar, and items, are found.
use Rattle.std.proofs.Common.{◌≡◌, refl, ◌∙◌, ℕ, Bool, true, false, List, ◌∷◌}
use Rattle.std.specs.List.{list_all}
use Rattle.print_grammar.specs.{Keyword.Keyword, Token.Mark, Token.Token}
use Rattle.print_grammar.specs.Token.Mark.{CloseBrace, Semi, At}
use Rattle.print_grammar.specs.Token.Token.{Punctuation}
use Rattle.print_grammar.specs.Tree.{Gates, Prefix, SignatureTree, Declared, PathTree, UsedName, MemberTree, MemberTree.UseMember, MemberTree.TypeMember, ExternTree, WorldMember}
use Rattle.print_grammar.specs.Tree.WorldMember.{WorldUse, WorldType, WorldImport, WorldExport}
use Rattle.text_trees.specs.TextTree.{TextItem, WorldPart, WorldPart.Has, WorldPart.Includes}
use Rattle.print_grammar.specs.Grammar.{CommaList, Repeated, ReadsUse, ReadsSignature}
use Rattle.text_trees.specs.Grammar.{Documentation, Marks, ReadsMarks, ReadsGates, ReadsPrefix, ReadsDeclared, ReadsMember, ReadsExtern, ReadsWorldMember, ReadsOtherName, ReadsInclusion, ReadsPart, ReadsItem}
use Rattle.print_grammar.specs.Grammar.{ReadsUse.use_names, ReadsSignature.func, ReadsSignature.async_func, ReadsPath.local, ReadsPath.full}
use Rattle.text_trees.specs.Grammar.ReadsMarks.{no_more, since, unstable, deprecated, external_id}
use Rattle.text_trees.specs.Grammar.{ReadsGates.gates, ReadsPrefix.prefix, ReadsDeclared.record_}
use Rattle.text_trees.specs.Grammar.ReadsMember.{member_use, member_type, member_function}
use Rattle.text_trees.specs.Grammar.ReadsExtern.{extern_path, extern_function, extern_named_path, extern_interface}
use Rattle.text_trees.specs.Grammar.ReadsWorldMember.{world_use, world_type, world_import, world_export}
use Rattle.text_trees.specs.Grammar.{ReadsOtherName.other_name, ReadsPart.has, ReadsPart.includes}
use Rattle.text_trees.specs.Grammar.ReadsInclusion.{all_of, all_with, all_with_end}
use Rattle.text_trees.specs.Grammar.ReadsItem.{interface_item, world_item, name_item, other_name_item}
use Rattle.text_trees.specs.Reading.{Reading.Found, then_read, made, begins, begins_key, behind_mark, if_mark, behind_key, if_key, if_id, id_in_front, repeated, listed}
use Rattle.text_trees.specs.ReadTypes.{begins_signature}
use Rattle.text_trees.specs.ReadDeclared.{declared_in_front, marks_from, marks_in_front}
use Rattle.text_trees.specs.ReadFiles.{member_behind, member_in_front, extern_in_front, world_member_behind, world_member_in_front, other_name_in_front, inclusion_behind, part_behind, part_in_front, item_in_front}
use Rattle.text_trees.specs.Levels.{fits_member, fits_extern, fits_world_member, fits_part, fits_item}
use Rattle.text_trees.proofs.Lengths.{member-shortens, other_name-shortens, part-shortens}
use Rattle.text_trees.proofs.Complete.{then_gives, made_gives, id_gives, if_id_gives, id_no_key, id_no_mark, Shut, shut_at, listed-complete, repeated-complete, fresh-complete}
use Rattle.text_trees.proofs.MarksComplete.{gates-complete, prefix-complete}
use Rattle.text_trees.proofs.DeclaredComplete.{full_path-complete, path-complete, all_pass, use-complete, function-complete, declared-complete}

-- ---- what things begin with

-- no declared type and no use begins with a mark
use_no_mark : (mark : Mark) {ts rest : List Token} {path : PathTree} {names : List UsedName} → ReadsUse ts path names rest → begins mark ts ≡ false
use_no_mark mark (use_names p l) = refl

declared_no_mark : (mark : Mark) {docs : Documentation} {ts rest : List Token} {declared : Declared} → ReadsDeclared docs ts declared rest
    → begins mark ts ≡ false
declared_no_mark mark (record_ i l) = refl
declared_no_mark mark _ = refl

-- nor with `include`
use_no_include : {ts rest : List Token} {path : PathTree} {names : List UsedName} → ReadsUse ts path names rest → begins_key Keyword.Include ts ≡ false
use_no_include (use_names p l) = refl

declared_no_include : {docs : Documentation} {ts rest : List Token} {declared : Declared} → ReadsDeclared docs ts declared rest
    → begins_key Keyword.Include ts ≡ false
declared_no_include (record_ i l) = refl
declared_no_include _ = refl

signature_begins : {ts rest : List Token} {signature : SignatureTree} → ReadsSignature ts signature rest → begins_signature ts ≡ true
signature_begins (func p r) = refl
signature_begins (async_func p r) = refl

-- attributes begin with `@`, or with what follows them
marks_as : (test : List Token → Bool) (other : (ts : List Token) → test (Punctuation At ∷ ts) ≡ false) {ts rest : List Token} {marks all : Marks}
    → ReadsMarks marks ts all rest → test rest ≡ false → test ts ≡ false
marks_as test other no_more h = h
marks_as test other (since e a b r m) h = other _
marks_as test other (unstable e f i a b m) h = other _
marks_as test other (deprecated e a r m) h = other _
marks_as test other (external_id e a m) h = other _

pub gates_no_key : (keyword : Keyword) {ts rest : List Token} {given : Gates} → ReadsGates ts given rest → begins_key keyword rest ≡ false
    → begins_key keyword ts ≡ false
gates_no_key keyword (gates marks m n e) h = marks_as (begins_key keyword) (λ ts. refl) m h

prefix_no_semi : {docs : Documentation} {ts rest : List Token} {pre : Prefix} → ReadsPrefix docs ts pre rest → begins Semi rest ≡ false → begins Semi ts ≡ false
prefix_no_semi (prefix marks m e) h = marks_as (begins Semi) (λ ts. refl) m h

-- nothing that a world of a text has begins with `;`
part_no_semi : {docs : Documentation} (ts rest : List Token) (part : WorldPart) → ReadsPart docs ts part rest → begins Semi ts ≡ false
part_no_semi _ _ _ (has (world_use p u)) = prefix_no_semi p (use_no_mark Semi u)
part_no_semi _ _ _ (has (world_type p d)) = prefix_no_semi p (declared_no_mark Semi d)
part_no_semi _ _ _ (has (world_import p e)) = prefix_no_semi p refl
part_no_semi _ _ _ (has (world_export p e)) = prefix_no_semi p refl
part_no_semi _ _ _ (includes p r) = prefix_no_semi p refl

-- ---- inclusions

pub other_name-complete : (ts rest : List Token) (name : UsedName) → ReadsOtherName ts name rest → other_name_in_front ts ≡ Found name rest
unfolding then_read behind_key made
other_name-complete _ _ _ (other_name i j) = rw (id_gives _ i, id_gives _ j) refl

other_name-shut : Shut (begins CloseBrace) other_name_in_front
unfolding then_read id_in_front
other_name-shut = shut_at CloseBrace other_name_in_front (λ rest. refl)

others-complete : {ts rest : List Token} {names : List UsedName} → CommaList ReadsOtherName (Punctuation CloseBrace) ts names rest
    → listed other_name_in_front CloseBrace ts ≡ Found names rest
others-complete {names = names} l =
    listed-complete CloseBrace other_name_in_front (λ name. true) other_name-shortens other_name-shut refl
    (λ ts rest name r s h. other_name-complete ts rest name r) l (all_pass names)

inclusion-complete : (pre : Prefix) {ts rest : List Token} {path : PathTree} {names : List UsedName} → ReadsInclusion ts path names rest
    → begins Semi rest ≡ false → inclusion_behind pre ts ≡ Found (Includes pre path names) rest
unfolding then_read behind_mark if_mark if_key
inclusion-complete pre (all_of p) h = rw (path-complete p refl refl) refl
inclusion-complete pre (all_with p l) h = rw (path-complete p refl refl, others-complete l, h) refl
inclusion-complete pre (all_with_end p l) h = rw (path-complete p refl refl, others-complete l) refl

module _ (docs : Documentation) (room : ℕ) where
  -- ---- interfaces

  member_use_behind : (pre : Prefix) {ts rest : List Token} {path : PathTree} {names : List UsedName} → ReadsUse ts path names rest
      → member_behind docs room pre ts ≡ Found (UseMember pre path names) rest
  unfolding if_id if_key
  member_use_behind pre (use_names p l) = use-complete (UseMember pre) (use_names p l)

  -- a declared type is no function and no use
  member_type_behind : (pre : Prefix) {ts rest : List Token} {declared : Declared} → ReadsDeclared docs ts declared rest
      → member_behind docs room pre ts ≡ made (TypeMember pre) (declared_in_front docs room ts)
  unfolding if_id if_key
  member_type_behind pre (record_ i l) = refl
  member_type_behind pre _ = refl

  pub member-complete : (ts rest : List Token) (member : MemberTree) → ReadsMember docs ts member rest → fits_member room member ≡ true → member_in_front docs room ts ≡ Found member rest
  unfolding behind_mark
  member-complete _ _ _ (member_use {pre} p u) h = then_gives _ (prefix-complete p (use_no_mark At u)) (member_use_behind pre u)
  member-complete _ _ _ (member_type {pre} p d) h =
      then_gives _ (prefix-complete p (declared_no_mark At d))
      (member_type_behind pre d ∙ made_gives (TypeMember pre) (declared-complete docs room d h))
  member-complete _ _ _ (member_function p i s) h =
      then_gives _ (prefix-complete p (id_no_mark At i)) (if_id_gives _ _ _ i ∙ function-complete room _ s h)

  member-shut : Shut (begins CloseBrace) (member_in_front docs room)
  unfolding then_read id_in_front if_id if_key made marks_in_front marks_from
  member-shut = shut_at CloseBrace (member_in_front docs room) (λ rest. refl)

  -- ---- worlds

  pub extern-complete : (ts rest : List Token) (e : ExternTree) → ReadsExtern docs ts e rest → fits_extern room e ≡ true → extern_in_front docs room ts ≡ Found e rest
  unfolding then_read behind_mark if_mark if_key made
  extern-complete _ _ _ (extern_path (local i)) h = rw (id_gives _ i) refl
  extern-complete _ _ _ (extern_path (full i j k v)) h =
      rw (id_gives _ i, id_no_key Keyword.Async j, id_no_key Keyword.Func j, id_no_key Keyword.Interface j, id_gives _ j, full_path-complete k v refl) refl
  extern-complete _ _ _ (extern_function {label} i s) h =
      rw (id_gives _ i, signature_begins s, function-complete room (ExternTree.NamedFunction label) s h) refl
  extern-complete _ _ _ (extern_named_path i (local j)) h =
      rw (id_gives _ i, id_no_key Keyword.Async j, id_no_key Keyword.Func j, id_no_key Keyword.Interface j, id_gives _ j) refl
  extern-complete _ _ _ (extern_named_path i (full j k l v)) h =
      rw (id_gives _ i, id_no_key Keyword.Async j, id_no_key Keyword.Func j, id_no_key Keyword.Interface j, id_gives _ j, id_gives _ k, full_path-complete l v refl) refl
  extern-complete _ _ _ (extern_interface i l) h =
      rw (id_gives _ i, repeated-complete CloseBrace (member_in_front docs room) (fits_member room) member-shortens member-shut member-complete l h) refl

  world_use_behind : (pre : Prefix) {ts rest : List Token} {path : PathTree} {names : List UsedName} → ReadsUse ts path names rest
      → world_member_behind docs room pre ts ≡ Found (WorldUse pre path names) rest
  unfolding if_key
  world_use_behind pre (use_names p l) = use-complete (WorldUse pre) (use_names p l)

  -- a declared type is no import, no export and no use
  world_type_behind : (pre : Prefix) {ts rest : List Token} {declared : Declared} → ReadsDeclared docs ts declared rest
      → world_member_behind docs room pre ts ≡ made (WorldType pre) (declared_in_front docs room ts)
  unfolding if_key
  world_type_behind pre (record_ i l) = refl
  world_type_behind pre _ = refl

  pub world_member-complete : (ts rest : List Token) (member : WorldMember) → ReadsWorldMember docs ts member rest → fits_world_member room member ≡ true
      → world_member_in_front docs room ts ≡ Found member rest
  unfolding if_key
  world_member-complete _ _ _ (world_use {pre} p u) h = then_gives _ (prefix-complete p (use_no_mark At u)) (world_use_behind pre u)
  world_member-complete _ _ _ (world_type {pre} p d) h =
      then_gives _ (prefix-complete p (declared_no_mark At d)) (world_type_behind pre d ∙ made_gives (WorldType pre) (declared-complete docs room d h))
  world_member-complete _ _ _ (world_import {pre} p e) h =
      then_gives _ (prefix-complete p refl) (made_gives (WorldImport pre) (extern-complete _ _ _ e h))
  world_member-complete _ _ _ (world_export {pre} p e) h =
      then_gives _ (prefix-complete p refl) (made_gives (WorldExport pre) (extern-complete _ _ _ e h))

  -- what a world has, behind what stands in front of it, is no inclusion
  part_has : (pre : Prefix) (ts : List Token) → begins_key Keyword.Include ts ≡ false
      → part_behind docs room pre ts ≡ made Has (world_member_behind docs room pre ts)
  unfolding if_key
  part_has pre ts h = rw h refl

  pub part-complete : (ts rest : List Token) (part : WorldPart) → ReadsPart docs ts part rest → begins Semi rest ≡ false → fits_part room part ≡ true
      → part_in_front docs room ts ≡ Found part rest
  unfolding if_key
  part-complete _ _ _ (has (world_use {between} {pre} p u)) s h =
      then_gives _ (prefix-complete p (use_no_mark At u)) (part_has pre between (use_no_include u) ∙ made_gives Has (world_use_behind pre u))
  part-complete _ _ _ (has (world_type {between} {pre} p d)) s h =
      then_gives _ (prefix-complete p (declared_no_mark At d))
      (part_has pre between (declared_no_include d) ∙ made_gives Has (world_type_behind pre d ∙ made_gives (WorldType pre) (declared-complete docs room d h)))
  part-complete _ _ _ (has (world_import {pre} p e)) s h =
      then_gives _ (prefix-complete p refl) (made_gives Has (made_gives (WorldImport pre) (extern-complete _ _ _ e h)))
  part-complete _ _ _ (has (world_export {pre} p e)) s h =
      then_gives _ (prefix-complete p refl) (made_gives Has (made_gives (WorldExport pre) (extern-complete _ _ _ e h)))
  part-complete _ _ _ (includes {pre} p r) s h = then_gives _ (prefix-complete p refl) (inclusion-complete pre r s)

  part-shut : Shut (begins CloseBrace) (part_in_front docs room)
  unfolding then_read id_in_front if_id if_key made marks_in_front marks_from
  part-shut = shut_at CloseBrace (part_in_front docs room) (λ rest. refl)

  parts-complete : {ts rest : List Token} {parts : List WorldPart} → Repeated (ReadsPart docs) (Punctuation CloseBrace) ts parts rest
      → list_all (fits_part room) parts ≡ true → repeated (part_in_front docs room) CloseBrace ts ≡ Found parts rest
  parts-complete =
      fresh-complete CloseBrace (part_in_front docs room) (fits_part room) part-shortens part-shut (begins Semi) (λ ts. refl) part_no_semi part-complete

  -- ---- packages

  pub item-complete : (ts rest : List Token) (item : TextItem) → ReadsItem docs ts item rest → fits_item room item ≡ true
      → item_in_front docs room ts ≡ Found item rest
  unfolding then_read behind_mark if_key made
  item-complete _ _ _ (interface_item g i l) h =
      rw (
        gates_no_key Keyword.Use g refl,
        gates-complete g refl,
        id_gives _ i,
        repeated-complete CloseBrace (member_in_front docs room) (fits_member room) member-shortens member-shut member-complete l h,
      ) refl
  item-complete _ _ _ (world_item g i l) h = rw (gates_no_key Keyword.Use g refl, gates-complete g refl, id_gives _ i, parts-complete l h) refl
  item-complete _ _ _ (name_item p) h = rw (path-complete p refl refl) refl
  item-complete _ _ _ (other_name_item p i) h = rw (path-complete p refl refl, id_gives _ i) refl

  pub item-shut : Shut (begins CloseBrace) (item_in_front docs room)
  unfolding then_read if_key marks_in_front marks_from
  item-shut = shut_at CloseBrace (item_in_front docs room) (λ rest. refl)
