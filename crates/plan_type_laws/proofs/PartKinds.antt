-- The kinds of the names that are shown, in numbers.
use Rattle.std.proofs.Common.{◌≡◌, sym, ap, subst, ◌∙◌, ℕ, Bool, false, List, [], ◌∷◌, ◌++◌, map, length, Option, Some, None, slice_get}
use Rattle.std.specs.List.{AllByRecursion, AllZip}
use Rattle.wit_model.specs.{Meaning.FunctionMeaning, Names.PackageIdentity, Names.path_in, Text.Text}
use Rattle.comp_meaning.specs.Follow.{Instance, Scope, Seen, ShownType, interface_of, instance_place}
use Rattle.read_shown.specs.Kinds.{MemberHasKinds, OfKind, ShownHasKind, ViewHasKinds, WorldHasKinds, kind_at}
use Rattle.read_shown.specs.{Parts.PartStands, Parts.named_instance, Scopes.ShownStands, Trees.AllAt, Trees.DeclarationStands, Trees.SignatureStands}
use Rattle.plan_meaning.specs.FollowedNumbers.{AreMembersIn, IsCalledIn, IsMetFrom, IsPartIn, IsScopeIn, IsSeenIn, IsShownIn, IsViewIn}
use Rattle.plan_meaning.specs.{NumberedMembers.Homes, NumberedMembers.HomesStand, NumberedMembers.IsMember, NumberedMembers.ShowsPart, NumberedRules.name_at}
use Rattle.plan_meaning.specs.NumberedViews.{AllOf, NumberedFunction, NumberedType, NumberedView, Tables, declaration_of, path_at, path_text, place_at, shown_function, shown_type, signature_at, view_of}
use Rattle.plan_meaning.specs.NumberedWorlds.{HasPath, Shows, key_of, place_of_key, seen_of, shown_of}
use Rattle.read_rules.specs.declared.{reached.ImportedView.ImportedView, scopes.Scope.Scope as NumberScope, scopes.Shown.Shown as NumberShown}
use Rattle.read_rules.specs.declared.scopes.Seen.{Seen as NumberSeen}
use Rattle.read_rules.specs.{Reached.numbered_import, Scopes.numbered_key, Scopes.numbered_scope, Scopes.numbered_seen, Scopes.numbered_shown}
use Rattle.read_rules.specs.{Tables.given_text, Views.numbered_view}
use Rattle.read_exports.specs.declared.members.{Member.Member, Part.Part}
use Rattle.read_exports.specs.Members.{numbered_member, numbered_members, numbered_part}
use Rattle.plan_type_laws.proofs.{InnerForms.name_there, PartPlaces.exported_place, PartPlaces.key_place, PartPlaces.no_names, PartPlaces.path_place}
use Rattle.plan_type_laws.proofs.Walks.{all_two, all_unmapped, at_each}
use Rattle.plan_type_laws.specs.ShownMarks.{NamesSeen, NamesShown, PartNames}
use Rattle.base_lemmas.proofs.Lists.{front_at as at_front, map_of_map, middle_get}
use Rattle.comp_meaning.specs.Reads as reads
use Rattle.read_shown.specs.Scopes as scopes
use Rattle.read_rules.specs.declared.scopes.Shown.TheVariants as shown
use Rattle.read_exports.specs.declared.members.Part.TheVariants as parts

module _ (t : Tables) (kinds : Text → Text → Bool) where
  -- ---- the kinds of what is shown

  -- a view in this place
  pub record ViewKinds (p : ℕ) (v : NumberedView) : Type 0 where
    pub own : Text → Bool
    pub types : AllByRecursion (λ (x : NumberedType). IsShownIn t p x × DeclarationStands (OfKind (kind_at kinds own)) (declaration_of t x.declared) (kind_at kinds own (place_at t p) x.name)) v.types
    pub functions : AllByRecursion (λ (f : Text × NumberedFunction). IsCalledIn t p f.1.signature × SignatureStands (OfKind (kind_at kinds own)) (signature_at t f.1.signature)) v.functions

  -- a type that a world imports
  pub record NameKinds (home : ℕ) (own : Text → Bool) (key : Text) (part : ℕ) (d : Option ℕ) : Type 0 where
    pub is : name_at t part ≡ Some (home, key)
    pub met : AllOf (IsMetFrom t home) d
    pub kind : DeclarationStands (OfKind (kind_at kinds own)) (declaration_of t d) (kind_at kinds own (place_at t home) key)

  abbrev pub ShownKinds : ℕ → (Text → Bool) → Text → NumberShown → Type 0
  ShownKinds home own key (shown.Instance k v) = ViewKinds (place_of_key (numbered_key k)) (numbered_view v)
  ShownKinds home own key (shown.Function n) = IsCalledIn t home n × SignatureStands (OfKind (kind_at kinds own)) (signature_at t n)
  ShownKinds home own key (shown.Declares part d) = NameKinds home own key part d

  abbrev pub SeenKinds : ℕ → (Text → Bool) → NumberSeen → Type 0
  SeenKinds home own s = ShownKinds home own s.key.now s.shown

  pub record WorldKinds (w : NumberScope) : Type 0 where
    pub own : Text → Bool
    pub imports : AllByRecursion (SeenKinds w.home own) w.imports.now
    pub exports : AllByRecursion (SeenKinds w.home own) w.exports.now

  pub record InterfaceKinds (p : ℕ) (v : NumberedView) (imports : List ImportedView) : Type 0 where
    pub home : HasPath t p
    pub view : ViewKinds p v
    pub imported : AllByRecursion (λ (i : ImportedView). HasPath t i.place × ViewKinds i.place (numbered_view i.view)) imports

  abbrev pub PartKinds : Part → Type 0
  PartKinds (parts.World w) = WorldKinds w
  PartKinds (parts.Interface p v imports) = InterfaceKinds p (numbered_view v) imports.now

  -- ---- views

  view_kinds : (instances : List Instance) (n : ℕ) (interface : Option Text) (p : ℕ) → instance_place interface ≡ place_at t p → (v : NumberedView) → IsViewIn t p v
      → ViewHasKinds kinds instances n (record { interface = interface; view = view_of t v }) → ViewKinds p v
  view_kinds instances n interface p e v within h = record {
    own = h.own;
    types = at_each (shown_type t) (λ n (x : ShownType). DeclarationStands (OfKind (kind_at kinds h.own)) x.meaning.declaration (kind_at kinds h.own (instance_place interface) x.name)) (IsShownIn t p)
        (λ (x : NumberedType). IsShownIn t p x × DeclarationStands (OfKind (kind_at kinds h.own)) (declaration_of t x.declared) (kind_at kinds h.own (place_at t p) x.name)) v.types
        (λ n x is d. (is, subst (λ place. DeclarationStands (OfKind (kind_at kinds h.own)) (declaration_of t x.declared) (kind_at kinds h.own place x.name)) e d)) within.types h.types;
    functions = at_each (shown_function t) (λ n (f : Text × FunctionMeaning). SignatureStands (OfKind (kind_at kinds h.own)) f.1.signature)
        (λ (f : Text × NumberedFunction). IsCalledIn t p f.1.signature) (λ (f : Text × NumberedFunction). IsCalledIn t p f.1.signature
        × SignatureStands (OfKind (kind_at kinds h.own)) (signature_at t f.1.signature)) v.functions (λ n f is s. (is, s)) within.functions h.functions;
  }

  -- ---- worlds

  module _ (scope : Scope) (stands : scopes.ScopeStands scope) (views : AllAt (ViewHasKinds kinds scope.instances) scope.instances) (home : ℕ) (no_path : path_at t home ≡ None) (own : Text → Bool) where
    shown_kinds : (n : ℕ) (s : NumberShown) (key : Text) (external_id : Option Text) → IsSeenIn t home (record { key = key; shown = numbered_shown s; external_id = external_id })
        → NamesShown t home key s
        → ShownStands scope.instances scope.imports n (shown_of t (numbered_shown s)) → ShownHasKind (kind_at kinds own) key (shown_of t (numbered_shown s)) → ShownKinds home own key s
    shown_kinds n (shown.Instance k v) key external_id within named is kind =
        let x = numbered_key k in
        view_kinds scope.instances is.0 (interface_of (key_of t x)) (place_of_key x) (key_place t x within.0) (numbered_view v) within.1
        (views is.0 (record { interface = interface_of (key_of t x); view = view_of t (numbered_view v) }) is.1)
    shown_kinds n (shown.Function m) key external_id within named is kind = (within, kind)
    shown_kinds n (shown.Declares part d) key external_id within named is kind = record {
      is = name_there t part named.0 home key named.1 named.2;
      met = within.1.met;
      kind = subst (λ place. DeclarationStands (OfKind (kind_at kinds own)) (declaration_of t d) (kind_at kinds own place key)) (sym (ap instance_place no_path)) kind;
    }

    seen_kinds : (count : ℕ → ℕ) (ss : List NumberSeen) → AllByRecursion (IsSeenIn t home) (map numbered_seen ss) → AllByRecursion (NamesSeen t home) ss
        → AllAt (λ n (s : Seen). ShownStands scope.instances scope.imports (count n) s.shown) (map (seen_of t) (map numbered_seen ss))
        → AllAt (λ n (s : Seen). ShownHasKind (kind_at kinds own) s.key s.shown) (map (seen_of t) (map numbered_seen ss)) → AllByRecursion (SeenKinds home own) ss
    seen_kinds count ss within named stand kind =
        let P = λ (n : ℕ) (s : Seen). ShownStands scope.instances scope.imports (count n) s.shown × ShownHasKind (kind_at kinds own) s.key s.shown in
        at_each (λ (s : NumberSeen). seen_of t (numbered_seen s)) P (λ (s : NumberSeen). IsSeenIn t home (numbered_seen s) × NamesSeen t home s) (SeenKinds home own) ss
        (λ n s both is. shown_kinds (count n) s.shown s.key.now (given_text s.external_id) both.0 both.1 is.0 is.1)
        (all_two (λ (s : NumberSeen). IsSeenIn t home (numbered_seen s)) (NamesSeen t home) ss (all_unmapped (IsSeenIn t home) numbered_seen ss within) named)
        (subst (AllAt P) (map_of_map (seen_of t) numbered_seen ss) (λ n s e. (stand n s e, kind n s e)))

  world_kinds : (w : NumberScope) (scope : Scope) → Shows t (numbered_scope w) scope → scopes.ScopeStands scope → AllAt (ViewHasKinds kinds scope.instances) scope.instances → WorldHasKinds kinds scope
      → IsScopeIn t (numbered_scope w) → AllByRecursion (NamesSeen t w.home) w.imports.now → WorldKinds w
  world_kinds w scope is stands views has within names = record {
    own = has.own;
    imports = seen_kinds scope stands views w.home within.home has.own (λ n. n) w.imports.now within.imports names
        (subst (AllAt (λ n (s : Seen). ShownStands scope.instances scope.imports n s.shown)) is.imports stands.imports)
        (subst (AllAt (λ n (s : Seen). ShownHasKind (kind_at kinds has.own) s.key s.shown)) is.imports has.imports);
    exports = seen_kinds scope stands views w.home within.home has.own (λ n. length scope.imports) w.exports.now within.exports
        (no_names t w.home w.exports.now (subst (AllAt (λ n (s : Seen). scopes.is_type s.shown ≡ false)) is.exports stands.no_types))
        (subst (AllAt (λ n (s : Seen). ShownStands scope.instances scope.imports (length scope.imports) s.shown)) is.exports stands.exports)
        (subst (AllAt (λ n (s : Seen). ShownHasKind (kind_at kinds has.own) s.key s.shown)) is.exports has.exports);
  }

  -- ---- members

  module _ (h : Homes) (stand : HomesStand t h) (m : Member) (identity : PackageIdentity) (there : slice_get h.packages m.package_number ≡ Some identity) (name : Text) (under : name ≡ m.label.now) where
    part_kinds : (part : Part) (y : reads.Part) → ShowsPart t h (numbered_member m) (numbered_part part) y → PartStands y
        → MemberHasKinds kinds (record { label = name; package_ = identity; part = y }) → IsPartIn t (numbered_part part) → PartNames t part → PartKinds part
    part_kinds (parts.World w) (reads.Part.world scope) is stands has within names = world_kinds w scope is stands.stands has.views has.world within names
    part_kinds (parts.Interface p v imports) (reads.Part.interface view views) is stands has within names =
        let front = map named_instance views in
        let last = named_instance (path_in identity name, view) in
        let all = front ++ last ∷ [] in
        record {
          home = is.path;
          view = view_kinds all (length front) (Some (path_in identity name)) p (exported_place t h stand m identity there name under p is.path is.home) (numbered_view v) within.0.1
              (subst (λ x. ViewHasKinds kinds all (length front) (record { interface = Some (path_in identity name); view = x })) is.shown (has.views (length front) last (middle_get front last [])));
          imported = at_each (λ (i : ImportedView). named_instance (path_text t i.place, view_of t (numbered_view i.view))) (ViewHasKinds kinds all)
              (λ (i : ImportedView). HasPath t i.place × IsViewIn t i.place (numbered_view i.view)) (λ (i : ImportedView). HasPath t i.place × ViewKinds i.place (numbered_view i.view)) imports.now
              (λ n i both is. (both.0, view_kinds all n (Some (path_text t i.place)) i.place (path_place t i.place both.0) (numbered_view i.view) both.1 is))
              (all_unmapped (λ (i : ℕ × NumberedView). HasPath t i.0 × IsViewIn t i.0 i.1) numbered_import imports.now within.1)
              (subst (AllAt (ViewHasKinds kinds all)) (ap (map named_instance) is.imported
              ∙ (map_of_map named_instance (λ (i : ℕ × NumberedView). (path_text t i.0, view_of t i.1)) (map numbered_import imports.now)
              ∙ map_of_map (λ (i : ℕ × NumberedView). named_instance (path_text t i.0, view_of t i.1)) numbered_import imports.now)) (λ n x e. has.views n x (at_front front (last ∷ []) n x e)));
        }
    part_kinds _ _ is stands has within names = absurd is

  pub member_kinds : (h : Homes) → HomesStand t h → (ms : List Member) (members : List reads.Member) → AllZip (IsMember t h) (numbered_members ms) members
      → AllByRecursion (λ (x : reads.Member). PartStands x.part) members → AllByRecursion (MemberHasKinds kinds) members
      → AreMembersIn t (numbered_members ms) → AllByRecursion (λ (m : Member). PartNames t m.part) ms → AllByRecursion (λ (m : Member). PartKinds m.part) ms
  member_kinds h stand (m ∷ ms) [] zip stands has within names = absurd zip
  member_kinds h stand (m ∷ ms) (x ∷ members) zip stands has within names = (
    part_kinds h stand m x.package_ zip.0.package_ x.label zip.0.label m.part x.part zip.0.part stands.0 has.0 within.0 names.0,
    member_kinds h stand ms members zip.1 stands.1 has.1 within.1 names.1,
  )
  member_kinds h stand _ _ zip stands has within names = tt
