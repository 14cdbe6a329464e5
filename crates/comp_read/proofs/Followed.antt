-- Instances of worlds stand under their keys, imports are counted, and what interfaces import is bare.
use Rattle.std.proofs.Common.{rules as std_rules, ◌≡◌, sym, ap, subst, ◌∙◌, ℕ, Bool, true, ◌&&◌, ◌==◌, List, [], ◌∷◌, ◌++◌, length, map, Option, Some, slice_get, arith, ◌⊎◌, inl, inr, false, not, None, is_some, ◌≤◌, refl}
use Rattle.std.proofs.lemmas.Option.{same_Some as same-some, slice_get_within}
use Rattle.std.specs.List.{AllByRecursion, AllZip, list_any, Contains, flat_map}
use Rattle.wit_model.specs.{Names.is_label, Names.read_path, Text.Text, Tree.Place, Tree.TypeDeclaration}
use Rattle.comp_bytes.specs.{Levels.PartType, Levels.Piece, Levels.Entry, Levels.levels_of, Levels.shows, Raw.TopExport, Raw.Alias, Raw.ExternName}
use Rattle.comp_bytes.specs.Reading.{◌>>=◌}
use Rattle.comp_bytes.proofs.Readers.{bind_some, when_some, chosen}
use Rattle.comp_meaning.specs.ByLevels.{Top, exported_parts, top_export, top_part, top_piece, entry_scope, entry_step}
use Rattle.comp_meaning.specs.{Reads.steps, Rules.distinct}
use Rattle.comp_meaning.specs.Follow.{each, when, Slot, View, Instance, Seen, Shown, Key, Scope as FollowedScope, Direction, import_, export_, complete_path, component_step, in_scope, interface_of, is_simple, key_of, text_of_key, named_type, new_scope, instance_place, plain_key, provided, see, see_described, see_function, see_instance, see_type, used_view}
use Rattle.comp_meaning.proofs.EntryLaws.{steps_keep}
use Rattle.read_parts.specs.{Followed.PartScope, Followed.labelled_scope, Followed.scopes_of, Input.IsFollowed, Members.scope_of}
use Rattle.read_parts.specs.declared.{following.Followed.Followed, members.FollowedPart.FollowedPart, members.Member.Member as FollowedMember}
use Rattle.read_numbers.proofs.{InputNumbers.input_in_numbers, ImportOrder.imports_come_last}
use Rattle.read_exports.specs.declared.members.{Member.Member, Part.Part}
use Rattle.comp_read.specs.{InputLaws.ReadLabelsStand, FollowedWorlds.ReadImportsAreBare, FollowedWorlds.ReadPlacesAreMet, SomeFollowed.IsSomeFollowed}
use Rattle.comp_read.specs.{ReadInput.IsReadInput, WantedFound.MeansNone}
use Rattle.comp_read.proofs.{InterfaceViews.scopes_found, InterfaceViews.each_beside, InterfaceViews.shown_as, Inputs.keys_differ, Inputs.world_at}
use Rattle.comp_read.proofs.{ShownScopes.labelled_holds, ShownScopes.meant_scope, Lists.all_beside}
use Rattle.comp_read.proofs.Members.{IsBoth, IsWorldRead, both_at, both_there, part_viewed, placed, scope_in, world_read, world_scope}
use Rattle.base_lemmas.proofs.{Bools.left_of as first_true, Bools.right_of as second_true, Options.there, Lists.within_there as slice_there}
use Rattle.base_lemmas.proofs.Elements.{all_end as one_more, zip_map, all_end, contains-map, get-contains, zip_at as zip_there, zip_at_right as zip_at}
use Rattle.plan_type_laws.proofs.Walks.{all_unmapped, all_flat}
use Rattle.comp_bytes.specs.declared.forms.ComponentTypeRef.{ComponentTypeRef}
use Rattle.read_follow.specs.declared.{refusal.Refusal.Refusal, scopes.Seen.Seen as FollowedSeen, scopes.Shown.Shown as FollowedShown}
use Rattle.read_follow.specs.Found.{Refuses}
use Rattle.read_parts.proofs.CountLaws.{parts_fit}
use Rattle.read_numbers.specs.{NumberedInput.tables_of, NumberedInput.MemberShown, PlacedNumbers.IsCountedItem, PlacedNumbers.IsPlacedScope}
use Rattle.read_numbers.specs.NumberedParts.{instance_view, numbered_scope as followed_scope, numbered_seen as followed_seen, numbered_shown as followed_shown, name_in}
use Rattle.read_members.specs.{ReadMembers.Because, ReadMembers.members_meant, PartMembers.IsMemberOf, PartMembers.IsPartOf}
use Rattle.read_members.proofs.{DecidedLaws.by_members as package_by_members, DecidedWorldLaws.by_members as world_by_members}
use Rattle.read_homes.specs.Homes.{ArePaths}
use Rattle.comp_read.specs.declared.wanted.Wanted.{Wanted}
use Rattle.plan_meaning.specs.NumberedMembers.{Homes, NumberedMember, imported_view}
use Rattle.plan_meaning.specs.NumberedViews.{NumberedView, Tables}
use Rattle.plan_meaning.specs.NumberedWorlds.{NumberedScope, NumberedSeen, NumberedShown, Shows, seen_of, shown_of}
use Rattle.read_exports.specs.{Interfaces.Placed, Members.numbered_member, Members.numbered_part}
use Rattle.read_rules.specs.{Reached.numbered_import, Scopes.numbered_scope, Views.numbered_view}
use Rattle.read_rules.specs.declared.scopes.Scope.{Scope}
use Rattle.plan_package.specs.{PlanWhole.places_in, WholeWorlds.world_in_part}
use Rattle.plan_laws.proofs.{Owned.view_met, Sources.all_given}
use Rattle.plan_laws.specs.WholeCondition.{PartIsBare}
use Rattle.plan_laws.specs.WholeWorlds.{ImportsAreCounted, IsCounted, IsUnderKey, WorldIsFollowed}
use Rattle.comp_bytes.specs.Levels as levels
use Rattle.comp_bytes.specs.declared.forms.ComponentTypeRef.TheVariants as refs
use Rattle.comp_bytes.specs.Raw as raw
use Rattle.comp_read.specs.declared.wanted.Wanted.TheVariants as wanted
use Rattle.comp_meaning.specs.Follow as follow
use Rattle.comp_meaning.specs.Reads as reads
use Rattle.plan_meaning.specs.NumberedWorlds as worlds
use Rattle.read_parts.specs.declared.members.FollowedPart.TheVariants as followed
use Rattle.read_exports.specs.declared.members.Part.TheVariants as parts

-- ---- What is exported at the top has labels, none twice.

-- ---- the exports at the top

-- each export is under a label
abbrev AreLabelled : Top → Type 0
AreLabelled top = AllByRecursion (λ (y : Text × ℕ). is_label y.0 ≡ true) top.exported

part_keeps : (top next : Top) (p : PartType) → top_part top p ≡ Some next → AreLabelled top → AreLabelled next
part_keeps top next p e is = subst AreLabelled (same-some (record { types = top.types ++ p ∷ []; slots = top.slots ++ length top.types ∷ []; exported = top.exported }) next e) is

export_keeps : (top next : Top) (y : TopExport) → top_export top y ≡ Some next → AreLabelled top → AreLabelled next
export_keeps top next y e is = search (std_rules, bind_some, when_some, first_true, second_true, same-some, one_more)

piece_keeps : (top next : Top) (p : Piece) → top_piece top p ≡ Some next → AreLabelled top → AreLabelled next
piece_keeps top next (levels.custom name contents) e is = subst AreLabelled (same-some top next e) is
piece_keeps top next (levels.types ps) e is = steps_keep AreLabelled top_part part_keeps ps top next e is
piece_keeps top next (levels.exports es) e is = steps_keep AreLabelled top_export export_keeps es top next e is

-- ---- the parts by their labels

record AreNamedParts (parts : List (Text × PartType)) : Type 0 where
  labels : AllByRecursion (λ (label : Text). is_label label ≡ true) (map (λ (y : Text × PartType). y.0) parts)
  apart : distinct (map (λ (y : Text × PartType). y.0) parts) ≡ true

abbrev part_of : Top → Text × ℕ → Option (Text × PartType)
part_of top y = slice_get top.types y.1 >>= λ p. Some (y.0, p)

same_labels : (top : Top) (ys : List (Text × ℕ)) (parts : List (Text × PartType)) → AllZip (λ y p. part_of top y ≡ Some p) ys parts
    → map (λ (y : Text × ℕ). y.0) ys ≡ map (λ (p : Text × PartType). p.0) parts
same_labels top ys parts all = sym (zip_map (λ y p. part_of top y ≡ Some p) (λ (y : Text × ℕ). y.0) (λ (p : Text × PartType). p.0) (λ y z e. search (std_rules, bind_some, same-some)) ys parts all)

labels_of : (ys : List (Text × ℕ)) → AllByRecursion (λ (y : Text × ℕ). is_label y.0 ≡ true) ys → AllByRecursion (λ (label : Text). is_label label ≡ true) (map (λ (y : Text × ℕ). y.0) ys)
labels_of [] all = tt
labels_of (y ∷ ys) all = (all.0, labels_of ys all.1)

parts_named : (pieces : List Piece) (parts : List (Text × PartType)) → exported_parts pieces ≡ Some parts → AreNamedParts parts
parts_named pieces parts e = by (bind_some (steps top_piece start pieces) (λ top. when (test top) (each (part_of top) top.exported)) parts e)
  where
    start : Top
    start = record { types = []; slots = []; exported = [] }

    test : Top → Bool
    test top = length top.exported == length top.types && distinct (map (λ x. x.0) top.exported)

    by : (top : Top) × (steps top_piece start pieces ≡ Some top) × (when (test top) (each (part_of top) top.exported) ≡ Some parts) → AreNamedParts parts
    by found =
        let top = found.0 in
        let w = when_some (test top) (each (part_of top) top.exported) parts found.2 in
        let same = same_labels top top.exported parts (each_beside (part_of top) top.exported parts w.1) in
        record {
          labels = subst (AllByRecursion (λ (label : Text). is_label label ≡ true)) same (labels_of top.exported (steps_keep AreLabelled top_piece piece_keeps pieces start top found.1 tt));
          apart = ap distinct (sym same) ∙ second_true (length top.exported == length top.types) (distinct (map (λ x. x.0) top.exported)) w.0;
        }

-- ---- members

scope_labels : (parts : List (Text × PartType)) (scopes : List (Text × PartScope)) → AllZip (λ y s. labelled_scope y ≡ Some s) parts scopes
    → map (λ (p : Text × PartType). p.0) parts ≡ map (λ (s : Text × PartScope). s.0) scopes
scope_labels parts scopes all = sym (zip_map _ _ _ (λ y z e. search (std_rules, bind_some, same-some)) parts scopes all)

pub read_labels_stand : ReadLabelsStand
read_labels_stand pieces x h ms members input =
    let shown = input_in_numbers pieces x input.followed in
    let parts = input.followed.parts in
    let named = parts_named pieces parts input.followed.exported in
    let same = scope_labels parts shown.scopes (each_beside labelled_scope parts shown.scopes (scopes_found pieces parts input.followed.exported shown.scopes shown.found))
    ∙ (zip_map _ _ _ (λ y s is. is.0) x.members.items shown.scopes shown.shown ∙ sym (zip_map _ _ _ (λ y m is. is.0) x.members.items ms input.are)) in
    record {
      labels = all_unmapped (λ (label : Text). is_label label ≡ true) (λ (m : Member). m.label.now) ms (subst (AllByRecursion (λ (label : Text). is_label label ≡ true)) same named.labels);
      apart = ap distinct (sym same) ∙ named.apart;
    }

-- ---- The keys of inline interfaces, and of those that implement others, are labels.

-- ---- keys

abbrev pub IsLabelled : Key → Type 0
IsLabelled (Key.path p) = Unit {0}
IsLabelled (Key.label l) = is_label l ≡ true
IsLabelled (Key.implementing l p) = is_label l ≡ true

plain_labelled : (text : Text) (suffix : Option Text) (key : Key) → plain_key text suffix ≡ Some key → IsLabelled key
plain_labelled text suffix key e = by (chosen (is_label text && not (is_some suffix)) (Some (Key.label text)) (complete_path text suffix >>= λ whole. Some (Key.path whole)) (Some key) e)
  where
    by : (((is_label text && not (is_some suffix)) ≡ true) × (Some (Key.label text) ≡ Some key))
        ⊎ (((is_label text && not (is_some suffix)) ≡ false) × ((complete_path text suffix >>= λ whole. Some (Key.path whole)) ≡ Some key)) → IsLabelled key
    by (inl (passes, same)) = subst IsLabelled (same-some (Key.label text) key same) (first_true (is_label text) (not (is_some suffix)) passes)
    by (inr (fails, found)) = let whole = bind_some (complete_path text suffix) (λ p. Some (Key.path p)) key found in subst IsLabelled (same-some (Key.path whole.0) key whole.2) tt

key_labelled : (name : ExternName) (key : Key) → key_of name ≡ Some key → IsLabelled key
key_labelled name key e = by name.implements e
  where
    by : (o : Option Text) → key_of (record { text = name.text; implements = o; version_suffix = name.version_suffix; external_id = name.external_id }) ≡ Some key → IsLabelled key
    by None f = plain_labelled name.text name.version_suffix key f
    by (Some target) f =
        let whole = bind_some (complete_path target name.version_suffix) (λ p. provided (is_label name.text) (Key.implementing name.text p)) key f in
        let w = when_some (is_label name.text) (Some (Key.implementing name.text whole.0)) key whole.2 in
        subst IsLabelled (same-some (Key.implementing name.text whole.0) key w.1) w.0

-- ---- scopes

abbrev pub HasLabel : Shown → Type 0
HasLabel (Shown.instance key view) = IsLabelled key
HasLabel (Shown.function f) = Unit {0}
HasLabel (Shown.declares d) = Unit {0}

-- each import and each export that is an instance
pub record HaveLabels (scope : FollowedScope) : Type 0 where
  pub imports : AllByRecursion (λ (s : Seen). HasLabel s.shown) scope.imports
  pub exports : AllByRecursion (λ (s : Seen). HasLabel s.shown) scope.exports

in_slot : (scope : FollowedScope) (slot : Slot) → HaveLabels scope → HaveLabels (in_scope slot scope)
in_slot scope slot h = record { imports = h.imports; exports = h.exports }

one_seen : (direction : Direction) (s : Seen) (scope : FollowedScope) → HasLabel s.shown → HaveLabels scope → HaveLabels (see direction s scope)
one_seen import_ s scope is h = record { imports = all_end (λ (y : Seen). HasLabel y.shown) scope.imports s h.imports is; exports = h.exports }
one_seen export_ s scope is h = record { imports = h.imports; exports = all_end (λ (y : Seen). HasLabel y.shown) scope.exports s h.exports is }

function_seen : (direction : Direction) (name : ExternName) (n : ℕ) (scope next : FollowedScope) → see_function direction name n scope ≡ Some next → HaveLabels scope → HaveLabels next
function_seen direction name n scope next e h = search (std_rules, bind_some, when_some, same-some, one_seen)

type_seen : (name : ExternName) (described : ComponentTypeRef) (scope next : FollowedScope) → see_type name described scope ≡ Some next → HaveLabels scope → HaveLabels next
type_seen name described scope next e h =
    let seen : TypeDeclaration × Slot → Seen = λ found. record { key = name.text; shown = Shown.declares found.0; external_id = name.external_id } in
    let b = bind_some (named_type scope.slots Place.here name.text described) (λ found. provided (is_simple name) (see import_ (seen found) (in_scope found.1 scope))) next e in
    let w = when_some (is_simple name) (Some (see import_ (seen b.0) (in_scope b.0.1 scope))) next b.2 in
    subst HaveLabels (same-some (see import_ (seen b.0) (in_scope b.0.1 scope)) next w.1) (one_seen import_ (seen b.0) (in_scope b.0.1 scope) tt (in_slot scope b.0.1 h))

instance_seen : (direction : Direction) (name : ExternName) (n : ℕ) (scope next : FollowedScope) → see_instance direction name n scope ≡ Some next → HaveLabels scope → HaveLabels next
instance_seen direction name n scope next e h =
    let seen : Key → View → Seen = λ key view. record { key = text_of_key key; shown = Shown.instance key view; external_id = name.external_id } in
    let new : Key → View → Instance = λ key view. record { interface = interface_of key; view = view } in
    let used : Key → View → FollowedScope = λ key view. record scope { instances = scope.instances ++ new key view ∷ []; used = scope.used ++ n ∷ [] } in
    let of_key : Key → Option View = λ key. when (not (list_any (λ m. m == n) scope.used)) (used_view scope.slots (instance_place (interface_of key)) (slice_get scope.slots n)) in
    let k = bind_some (key_of name) (λ key. of_key key >>= λ view. Some (see direction (seen key view) (used key view))) next e in
    let v = bind_some (of_key k.0) (λ view. Some (see direction (seen k.0 view) (used k.0 view))) next k.2 in
    subst HaveLabels {x = see direction (seen k.0 v.0) (used k.0 v.0)} (same-some (see direction (seen k.0 v.0) (used k.0 v.0)) next v.2)
    (one_seen direction (seen k.0 v.0) (used k.0 v.0) (key_labelled name k.0 k.1) (record { imports = h.imports; exports = h.exports }))

described_seen : (direction : Direction) (name : ExternName) (described : ComponentTypeRef) (scope next : FollowedScope) → see_described direction name described scope ≡ Some next → HaveLabels scope
    → HaveLabels next
described_seen import_ name (refs.Instance n) scope next e h = instance_seen import_ name n scope next e h
described_seen export_ name (refs.Instance n) scope next e h = instance_seen export_ name n scope next e h
described_seen import_ name (refs.Func n) scope next e h = function_seen import_ name n scope next e h
described_seen export_ name (refs.Func n) scope next e h = function_seen export_ name n scope next e h
described_seen import_ name (refs.TypeEq n) scope next e h = type_seen name (refs.TypeEq n) scope next e h
described_seen import_ name refs.SubResource scope next e h = type_seen name refs.SubResource scope next e h
described_seen import_ name (refs.Component n) scope next e h = type_seen name (refs.Component n) scope next e h
described_seen export_ name _ scope next e h = absurd cc

step_seen : (scope next : FollowedScope) (d : raw.Declaration) → component_step scope d ≡ Some next → HaveLabels scope → HaveLabels next
step_seen scope next (raw.Declaration.defined d) e h = search std_rules
step_seen scope next (raw.Declaration.function f) e h = search std_rules
step_seen scope next (raw.Declaration.alias_of (Alias.of_export m name)) e h = search std_rules
step_seen scope next (raw.Declaration.alias_of (Alias.of_outer scopes n)) e h = absurd cc
step_seen scope next (raw.Declaration.imported name described) e h = described_seen import_ name described scope next e h
step_seen scope next (raw.Declaration.exported name described) e h = described_seen export_ name described scope next e h

entry_seen : (scope next : FollowedScope) (d : Entry) → entry_step scope d ≡ Some next → HaveLabels scope → HaveLabels next
entry_seen scope next x e h = grind (arith, step_seen, same-some, in_slot)

pub entry_labels : (es : List Entry) (scope : FollowedScope) → entry_scope es ≡ Some scope → HaveLabels scope
entry_labels es scope e =
    let b = bind_some _ _ _ e in
    subst HaveLabels (same-some _ _ (when_some _ _ _ b.2).1) (steps_keep HaveLabels entry_step entry_seen es new_scope b.0 b.1 (record { imports = tt; exports = tt }))

-- ---- what the page is for

-- ---- What was followed of the sections of an input.

-- each path is one
pub are_paths : (x : Followed) → IsSomeFollowed x → ArePaths x.places
are_paths x is = λ p path at. there (read_path path) (is.followed.followed.paths_read p path at)

-- there are no more types than bytes
pub few_followed : (bytes : List ℕ) (pieces : List Piece) (x : Followed) → IsFollowed pieces x → levels_of bytes ≡ Some pieces → length (tables_of x).shapes ≤ length bytes
few_followed bytes pieces x is read = search (std_rules, parts_fit)

-- where nothing was followed, and where no members are meant, there is no package and no world
pub none_meant : (wanted : Wanted) (pieces : List Piece) → members_meant pieces ≡ None → MeansNone wanted (Some pieces)
none_meant x pieces none = search (std_rules, package_by_members, world_by_members)

pub none_followed : (wanted : Wanted) (pieces : List Piece) (e : Refusal) → Refuses e (scopes_of pieces) → Because e (MeansNone wanted (Some pieces))
none_followed w pieces x none = search (std_rules, none_meant)

pub none_read : (wanted : Wanted) (pieces : List Piece) (e : Refusal) (fact : Type 0) → (fact → members_meant pieces ≡ None) → Because e fact → Because e (MeansNone wanted (Some pieces))
none_read w pieces x fact none is = search (std_rules, none_meant)

-- ---- keys

module _ (t : Tables) where
  -- an instance with its view
  under_key : (vs : List NumberedView) (s : FollowedShown) → HasLabel (shown_of t (followed_shown vs s)) → IsUnderKey t (name_in t.paths s) (followed_shown vs s)
  under_key vs x is = search std_rules

  all_under : (vs : List NumberedView) (ss : List FollowedSeen) → AllByRecursion (λ (s : follow.Seen). HasLabel s.shown) (map (seen_of t) (map (followed_seen t.paths vs) ss))
      → AllByRecursion (λ (s : NumberedSeen). IsUnderKey t s.key s.shown) (map (followed_seen t.paths vs) ss)
  all_under vs [] all = tt
  all_under vs (s ∷ ss) all = (under_key vs s.shown all.0, all_under vs ss all.1)

module _ (pieces : List Piece) (x : Followed) (h : Homes) (ms : List Member) (members : List reads.Member) (input : IsReadInput pieces x h ms members) where
  abbrev t : Tables
  t = tables_of x

  -- what is followed of a part, and what it stands for
  record IsMeant (w : NumberedScope) : Type 0 where
    scope : follow.Scope
    shows : Shows t w scope
    labels : HaveLabels scope

  meant_at : (m : ℕ) (one : FollowedMember) → slice_get x.members.items m ≡ Some one → IsMeant (followed_scope x.places (scope_of one.part))
  meant_at m one there =
      let numbers = input_in_numbers pieces x input.followed in
      let s = zip_there (MemberShown t) x.members.items numbers.scopes numbers.shown m one there in
      let parts_all = input.followed.parts in
      let y = zip_at (λ y z. labelled_scope y ≡ Some z) parts_all numbers.scopes
      (each_beside labelled_scope parts_all numbers.scopes (scopes_found pieces parts_all input.followed.exported numbers.scopes numbers.found)) m s.0 s.1 in
      record { scope = meant_scope s.0.1; shows = search std_rules; labels = labelled_holds HaveLabels entry_labels y.0 s.0 y.2 }

  -- ---- one world

  module _ (m : ℕ) (member : Member) (b : IsBoth pieces x h ms members input m member) (w : Scope) (is : member.part ≡ parts.World w) where
    abbrev W : NumberedScope
    W = numbered_scope w

    good : IsPlacedScope t W
    good = (placed pieces x h ms members input).each m W (world_at pieces x h ms members input m member b w is)

    -- the import of this number
    counted_at : (j c : ℕ) (s : NumberedSeen) → slice_get W.imports j ≡ Some s → slice_get good.counts j ≡ Some c → IsCounted t W.home good.counts j c s.key s.shown
    counted_at j c s e f = by s.shown refl (subst (IsCountedItem t W good.counts j c s.key) refl (good.counted j c s e f).item)
      where
        read : IsWorldRead pieces x h ms members input w
        read = world_read pieces x h ms members input member (get-contains ms m member b.at) w is

        by : (y : NumberedShown) → s.shown ≡ y → IsCountedItem t W good.counts j c s.key y → IsCounted t W.home good.counts j c s.key y
        by (worlds.instance k v) same item = tt
        by (worlds.function n) same item = item
        by (worlds.declares d) same item =
            let last = imports_come_last t W good (keys_differ pieces x h ms members input w read) j c s d e f same in
            record { number = last.number; shape = last.shape; last = last.last; behind = last.others }

    counted : ImportsAreCounted t W
    counted = record {
      counts = good.counts;
      many = good.many;
      rising = λ i j b c e f less.
          let s = slice_there W.imports j (omega (arith, slice_get_within good.counts j c f, good.many)) in
          (good.counted j c s.0 s.1 f).rising i b e less;
      counted = counted_at;
    }

    pub world_followed : WorldIsFollowed t W
    world_followed =
        let meant = meant_at m b.one b.there in
        let same : scope_in pieces x h ms members input b.one ≡ W = sym (world_scope pieces x h ms members input m member b w is).shows in
        let vs = map instance_view (scope_of b.one.part).instances.items in
        record {
          imports = subst (λ (z : NumberedScope). AllByRecursion (λ (s : NumberedSeen). IsUnderKey t s.key s.shown) z.imports) same
              (all_under t vs (scope_of b.one.part).imports.items (subst (AllByRecursion (λ (s : follow.Seen). HasLabel s.shown)) meant.shows.imports meant.labels.imports));
          exports = subst (λ (z : NumberedScope). AllByRecursion (λ (s : NumberedSeen). IsUnderKey t s.key s.shown) z.exports) same
              (all_under t vs (scope_of b.one.part).exports.items (subst (AllByRecursion (λ (s : follow.Seen). HasLabel s.shown)) meant.shows.exports meant.labels.exports));
          counted = counted;
        }

  part_followed : (m : ℕ) (member : Member) → IsBoth pieces x h ms members input m member → (a : Part) → member.part ≡ a
      → AllByRecursion (λ (w : Text × Scope). WorldIsFollowed t (numbered_scope w.1)) (world_in_part member.label.now a)
  part_followed m member b (parts.World w) e = (world_followed m member b w e, tt)
  part_followed m member b (parts.Interface p v imports) e = tt

  pub read_worlds_are_followed : AllByRecursion (λ (w : Text × Scope). WorldIsFollowed t (numbered_scope w.1)) (flat_map (λ (m : Member). world_in_part m.label.now m.part) ms)
  read_worlds_are_followed = all_flat (λ (w : Text × Scope). WorldIsFollowed t (numbered_scope w.1)) (λ (m : Member). world_in_part m.label.now m.part) ms
      (all_given (λ (m : Member). AllByRecursion (λ (w : Text × Scope). WorldIsFollowed t (numbered_scope w.1)) (world_in_part m.label.now m.part)) ms
      (λ m member e. part_followed m member (both_at pieces x h ms members input m member e) member.part refl))

-- ---- interfaces

imports_bare : (ss : List NumberedSeen) (is : List Placed) → AllZip (λ s i. imported_view s ≡ Some i) ss is → AllByRecursion (λ (i : Placed). i.1.functions ≡ []) is
imports_bare [] [] all = tt
imports_bare (s ∷ ss) (i ∷ is) all = ((search std_rules), imports_bare ss is all.1)
imports_bare _ _ all = absurd all

module _ (t : Tables) where
  part_bare : (a : FollowedPart) (b : Part) → IsPartOf t a b → PartIsBare (numbered_part b)
  part_bare (followed.World path s) (parts.World w) is = tt
  part_bare (followed.Interface s) (parts.Interface p v imports) is =
      let w = followed_scope t.paths s in
      let given = map numbered_import imports.now in
      imports_bare w.imports given (each_beside imported_view w.imports given (shown_as t w (p, numbered_view v) given is).imports_found)
  part_bare _ _ is = absurd is

pub read_imports_are_bare : ReadImportsAreBare
read_imports_are_bare pieces x h ms members input =
    all_beside (IsMemberOf (tables_of x)) (λ (m : NumberedMember). PartIsBare m.part) numbered_member (λ y m is. part_bare (tables_of x) y.part m.part is.1) x.members.items ms input.are

-- ---- places that are met

pub read_places_are_met : ReadPlacesAreMet
read_places_are_met pieces x h ms members input q path =
    let is = (placed pieces x h ms members input).met q path in
    let y = both_there pieces x h ms members input is.scope is.at.scope is.at.at in
    let viewed = part_viewed pieces x h ms members input is.scope y.0 y.1 is.number is.one (ap (λ (z : NumberedScope). slice_get z.instances is.number) y.2 ∙ is.at.instance_at) in
    subst (Contains (places_in ms)) is.place
    (view_met ms (numbered_member y.0) (contains-map numbered_member ms y.0 (get-contains ms is.scope y.0 y.1.at)) (record { place = is.one.place; view = is.one.view; whole = viewed.whole })
    viewed.there)
