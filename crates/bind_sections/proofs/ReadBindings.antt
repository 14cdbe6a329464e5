-- What bytes mean as one world, bound, is a binding, and so is what a module binds.
use Rattle.std.proofs.Common.{rules as std_rules, ◌≡◌, ◌∙◌, refl, sym, ap, subst, ℕ, Bool, true, false, ◌&&◌, ◌||◌, not, cond, List, [], ◌∷◌, map, Option, Some, None}
use Rattle.std.proofs.lemmas.{Bool.not-true as is_false}
use Rattle.std.specs.{List.AllByRecursion, List.list_all, List.list_any, Ordering.eq_by_cmp, FinMap.from_entries, FinMap.get, FinMap.find, FinMap.get-empty}
use Rattle.wit_model.specs.declared.model.StringEncoding.{StringEncoding}
use Rattle.wit_model.specs.{Text.Text, Text.text_cmp, Text.text_eq, Names.PackageIdentity, Names.path_in, Meaning.WorldMeaning, Meaning.WorldPackage}
use Rattle.wit_model.specs.Rules.{are_distinct}
use Rattle.wit_model.proofs.Distinct.{text_eq_flip}
use Rattle.comp_bytes.specs.Reading.{◌>>=◌}
use Rattle.comp_bytes.proofs.Readers.{bind_some}
use Rattle.comp_meaning.specs.{Follow.Scope, Follow.Seen, Follow.each, Rules.are_imports, Rules.distinct, Rules.is_item, Rules.is_world}
use Rattle.comp_meaning.specs.Reads.{Member, Part, ReadsWorld, Sight, entry, exported_types, member, seen_meaning, meaning_of_scope, world_of_members, world_with}
use Rattle.read_shown.specs.Parts.{MemberStands, PartStands}
use Rattle.read_shown.proofs.Parts.{members_stand}
use Rattle.bind_meaning.specs.{Binding.Binding, Binding.IsBinding, Binding.Stand, Roots.root_binding, Roots.root_meaning, Roots.root_path, Union.union}
use Rattle.bind_meaning.specs.ByMeaning.{binding_of_world, world_path}
use Rattle.bind_meaning.proofs.{ListLaws.got, Maps.by_tie, Maps.found_keys, Maps.has_key, Maps.itself_ties, UnionLaws.union_is_binding}
use Rattle.bind_sections.specs.{Bound.Binds, BoundLaws.BoundAreBindings, BoundLaws.SectionsAreBindings}
use Rattle.base_lemmas.proofs.Bools.{left_of as first_true, right_of as second_true}
use Rattle.comp_meaning.proofs.RulesLemmas.{distinct_same as same_test}

-- ---- the world that was read

-- what is known of a world that was read
record IsRead (m : WorldPackage) : Type 0 where
  pub scope : Scope
  pub obeys : is_world scope ≡ true
  pub seen : List Sight
  pub elsewhere : not (list_any (λ s. text_eq s.path (path_in m.identity m.name)) seen) ≡ true
  pub world : m.world ≡ meaning_of_scope scope
  pub shown : m.shown ≡ from_entries (map (seen_meaning seen) seen)

scope_read : (package_ : PackageIdentity) (name : Text) (scope : Scope) (m : WorldPackage) → is_world scope ≡ true → world_with package_ name scope ≡ Some m → IsRead m
scope_read package_ name scope m obeys e = search std_rules

world_read : (d : List ℕ) (m : WorldPackage) → ReadsWorld d m → IsRead m
world_read d m read =
    let types = bind_some (exported_types read.sections) (λ types. each member types >>= world_of_members) m read.means in
    let members = bind_some (each member types.0) world_of_members m types.2 in
    by members.0 (members_stand types.0 members.0 members.1) members.2
  where
    by_part : (label : Text) (package_ : PackageIdentity) (p : Part) → PartStands p → world_of_members (record { label = label; package_ = package_; part = p } ∷ []) ≡ Some m → IsRead m
    by_part label package_ (Part.world scope) stands e = scope_read package_ label scope m stands.obeys e
    by_part label package_ (Part.interface exported imports) stands e = let no : ⊥ = cc in absurd no

    by : (members : List Member) → AllByRecursion MemberStands members → world_of_members members ≡ Some m → IsRead m
    by [] all e = let no : ⊥ = cc in absurd no
    by (n ∷ []) all e = by_part n.label n.package_ n.part all.0.part e
    by (n ∷ o ∷ rest) all e = let no : ⊥ = cc in absurd no

-- ---- its binding

same_keys : (xs : List Seen) → map (λ e. e.0) (map entry xs) ≡ map (λ s. s.key) xs
same_keys [] = refl
same_keys (x ∷ xs) = ap (λ ts. x.key ∷ ts) (same_keys xs)

keys_distinct : (xs : List Seen) → distinct (map (λ s. s.key) xs) ≡ true → are_distinct (map (λ e. e.0) (map entry xs)) ≡ true
keys_distinct xs h = ap are_distinct (same_keys xs) ∙ (same_test (map (λ s. s.key) xs) ∙ h)

-- none of what is seen has this path
unseen : (all seen : List Sight) (path : Text) → has_key path (map (seen_meaning all) seen) ≡ list_any (λ s. text_eq s.path path) seen
unseen all [] path = refl
unseen all (s ∷ seen) path = (λ i. text_eq_flip path s.path i || unseen all seen path i)

none_found : {X : Type 0} (es : List (Text × X)) (k : Text) → has_key k es ≡ false → find text_cmp k es ≡ None
none_found es k h = search (std_rules, found_keys k es)

-- the path of the world alone leads to a world
apart_at : {X Y : Type 0} (is : Bool) (o : Option X) (w : Y) → (is ≡ true → o ≡ None) → Stand o (cond is (Some w) None) → ⊥
apart_at {X} {Y} true o w none s = subst (λ z. Stand {X = X} {Y = Y} z (Some w)) (none refl) s
apart_at false (Some x) w none s = s
apart_at false None w none s = s

world_binding : (m : WorldPackage) (e : StringEncoding) → IsRead m → IsBinding (binding_of_world m e)
world_binding m e h =
    let items : Bool = are_imports [] h.scope.imports && list_all (λ s. is_item [] s.key s.shown) h.scope.exports in
    let both = first_true ((items && distinct (map (λ s. s.key) h.scope.imports)) && distinct (map (λ s. s.key) h.scope.exports)) _ h.obeys in
    let exports = second_true (items && distinct (map (λ s. s.key) h.scope.imports)) _ both in
    let imports = second_true items _ (first_true (items && distinct (map (λ s. s.key) h.scope.imports)) _ both) in
    let none : get m.shown (world_path m) ≡ None
    = ap (λ (f : _). get f (world_path m)) h.shown ∙ (got (map (seen_meaning h.seen) h.seen) (world_path m)
    ∙ none_found (map (seen_meaning h.seen) h.seen) (world_path m) (unseen h.seen h.seen (world_path m) ∙ is_false (list_any (λ s. text_eq s.path (world_path m)) h.seen) h.elsewhere)) in
    record {
      stands = got ((world_path m, m.world) ∷ []) (world_path m) ∙ ap (λ is. cond is (Some m.world) None) (itself_ties (world_path m));
      apart = λ t s. apart_at (eq_by_cmp text_cmp t (world_path m)) (get m.shown t) m.world (λ is. subst (λ k. get m.shown k ≡ None) (sym (by_tie t (world_path m) is)) none)
          (subst (Stand (get m.shown t)) (got ((world_path m, m.world) ∷ []) t) s);
      imports = ap (λ (w : WorldMeaning). are_distinct (map (λ e. e.0) w.imports)) h.world ∙ keys_distinct h.scope.imports imports;
      exports = ap (λ (w : WorldMeaning). are_distinct (map (λ e. e.0) w.exports)) h.world ∙ keys_distinct h.scope.exports exports;
    }

pub sections_are_bindings : SectionsAreBindings
sections_are_bindings d m e means = world_binding m e (world_read d m means.reads)

-- ---- what a module binds

root_is_binding : IsBinding root_binding
root_is_binding = record {
  stands = got ((root_path, root_meaning.world) ∷ []) root_path ∙ ap (λ is. cond is (Some root_meaning.world) None) (itself_ties root_path);
  apart = λ t s. nothing_stands (get root_binding.interfaces t) (get root_binding.worlds t) (get-empty text_cmp t) s;
  imports = refl;
  exports = refl;
}
  where
    nothing_stands : {X Y : Type 0} (x : Option X) (y : Option Y) → x ≡ None → Stand x y → ⊥
    nothing_stands {X} {Y} x y is s = subst (λ z. Stand {X = X} {Y = Y} z y) is s

folded_is_binding : (a c : Binding) (ds : List (List ℕ)) → IsBinding a → Binds a ds c → IsBinding c
folded_is_binding a c [] is f = subst IsBinding f is
folded_is_binding a c (d ∷ ds) is (m, e, means, u, rest) =
    folded_is_binding (union a (binding_of_world m e)) c ds (union_is_binding a (binding_of_world m e) is (sections_are_bindings d m e means) u) rest

pub bound_are_bindings : BoundAreBindings
bound_are_bindings input c bound = folded_is_binding root_binding c bound.data_ root_is_binding bound.binds
