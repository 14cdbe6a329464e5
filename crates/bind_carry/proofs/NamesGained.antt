-- Names that a package gains weren't there, so they come behind what was.
use Rattle.base_lemmas.proofs.{Bools.left_of as first_true, Bools.right_of as second_true, Elements.all-contained, Elements.contains-later, Elements.contains-map, Lists.mapped_get as mapped_at, Options.none_not_some}
use Rattle.bind_add.specs.declared.added.Names.{Names}
use Rattle.bind_carry.proofs.{CopiesPlaced.nothing_there, CopiesPlaced.some_same, CopiesPlaced.uncopied_under, FirstOfUnion.found_number, FirstOfUnion.unflagged_found, InsertedBehind.none_more}
use Rattle.bind_carry.specs.{AddedApart.AreMatchedByName, First.flag_under, Listed.given_interface, Marked.AreChosen, Numbers.package_number as number_of_package, Packaged.IsGained, Packaged.grown_packages, Which.IsNumbered, Which.new_worlds}
use Rattle.bind_carry.specs.declared.plan.Carried.{Carried}
use Rattle.bind_copy.specs.Copies.{names_in, number_under}
use Rattle.bind_match.specs.Matching.{given, interface_in, is_root_world, own_interface_of, own_world_of, package_from, world_in}
use Rattle.bind_match.specs.declared.matches.Matches.{Matches}
use Rattle.bind_union.proofs.{Carrying.path_by, Carrying.path_parts, KeptPackages.found_option, KeptPackages.interfaces_stand, KeptPackages.is_interface_of, KeptPackages.is_world_of, KeptPackages.worlds_stand, Lists.no_true, UnitedWorlds.world_path}
use Rattle.bind_union.specs.Merged.{interface_names, world_names}
use Rattle.indexmap.specs.IndexMap.{insert_all, insert_entry}
use Rattle.std.proofs.Common.{Bool, List, Option, Some, [], ap, append-nil, append_assoc, ap₂, arith, cond, false, if◌then◌else◌, is_none, is_some, length, map, not, option_and_then, option_map, refl, rules as std_rules, slice_get, subst, suc, sym, true, zero, ℕ, ◌&&◌, ◌++◌, ◌+◌, ◌||◌, ◌∙◌, ◌∷◌, ◌≡◌}
use Rattle.std.proofs.lemmas.{Bool.and_from as both, List.length-map, Map.Made.IsDistinct-keys_filter, Option.slice_get_within as within_list}
use Rattle.std.specs.{HashMap.get_by_text, List.AllByRecursion, List.AllZip, List.Contains, List.IsDistinct, List.filter, List.list_all, List.list_any, Map.keys_of, Map.lookup, Prelude.String, String.string_eq, declared.alloc.Global.Global}
use Rattle.wit_model.proofs.{Distinct.text_eq_flip, TextLemmas.text_named as label_is, TextLemmas.text_same}
use Rattle.wit_model.specs.Lookup.{identity_of, interface_at, package_at, path_of_interface, path_of_world, world_at}
use Rattle.wit_model.specs.{Names.path_in, Rules.is_id, Rules.package_number, Rules.same_package_name, Rules.text_is, Text.Text, Text.optional_text, Text.text_eq, Text.text_of, Valid.IsValid, declared.model.Interface.Interface, declared.model.InterfaceId.InterfaceId}
use Rattle.wit_model.specs.declared.model.{Package.Package, PackageId.PackageId, PackageName.PackageName, Resolve.Resolve, World.World, WorldId.WorldId}

-- ---- lists

passes_of_filter : {A : Type 0} (p q : A → Bool) (xs : List A) → ((x : A) → Contains xs x → p x ≡ true → q x ≡ true) → list_all q (filter p xs) ≡ true
passes_of_filter p q [] each = refl
passes_of_filter p q (x ∷ xs) each = go (p x) refl (passes_of_filter p q xs (λ y held. each y (contains-later x xs y held)))
  where
    go : (b : Bool) → p x ≡ b → list_all q (filter p xs) ≡ true → list_all q (cond b (x ∷ filter p xs) (filter p xs)) ≡ true
    go true e rest = both (q x) (list_all q (filter p xs)) (each x (0, omega arith, refl) e) rest
    go false e rest = rest

-- whether a name stands among entries
abbrev pub is_name_in : {X : Type 0} → List (String Global × X) → Text → Bool
is_name_in {X} es t = list_any (λ (e : String Global × X). text_eq t (text_of e.0)) es

-- an entry whose name doesn't
abbrev pub is_fresh : {X Y : Type 0} → List (String Global × X) → String Global × Y → Bool
is_fresh es d = not (is_name_in es (text_of d.0))

pub found_in_names : {X : Type 0} (t : Text) (es : List (String Global × X)) → is_some (lookup (λ (k : String Global). text_eq t (text_of k)) es) ≡ is_name_in es t
found_in_names t [] = refl
found_in_names {X} t (e ∷ es) = go (text_eq t (text_of e.0)) (found_in_names t es)
  where
    go : (b : Bool) → is_some (lookup (λ (k : String Global). text_eq t (text_of k)) es) ≡ is_name_in es t
        → is_some (cond b (Some e.1) (lookup (λ (k : String Global). text_eq t (text_of k)) es)) ≡ (b || is_name_in es t)
    go true rest = refl
    go false rest = rest

module _ {X : Type 0} where
  insert_fresh : (es : List (String Global × X)) (d : String Global × X) → is_fresh es d ≡ true → insert_entry string_eq es d.0 d.1 ≡ es ++ d ∷ []
  insert_fresh [] d h = refl
  insert_fresh (e ∷ es) d h = go (text_eq (text_of d.0) (text_of e.0)) refl h (insert_fresh es d)
    where
      go : (b : Bool) → text_eq (text_of d.0) (text_of e.0) ≡ b → not (b || is_name_in es (text_of d.0)) ≡ true → (is_fresh es d ≡ true → insert_entry string_eq es d.0 d.1 ≡ es ++ d ∷ [])
          → insert_entry string_eq (e ∷ es) d.0 d.1 ≡ (e ∷ es) ++ d ∷ []
      go true q k more = no_true k
      go false q k more = ap (λ b. if b then (e.0, d.1) ∷ es else e ∷ insert_entry string_eq es d.0 d.1) q ∙ ap (λ l. e ∷ l) (more k)

  still_fresh : (es : List (String Global × X)) (y : String Global × X) (ds : List (String Global × X)) → list_all (is_fresh es) ds ≡ true → AllByRecursion (λ k. string_eq y.0 k ≡ false) (keys_of ds)
      → list_all (is_fresh (es ++ y ∷ [])) ds ≡ true
  still_fresh es y [] new apart = refl
  still_fresh es y (d ∷ ds) new apart =
      search (std_rules, both, none_more, first_true, text_eq_flip, second_true, still_fresh es y ds (second_true (is_fresh es d) (list_all (is_fresh es) ds) new) apart.1)

  fresh_behind : (es news : List (String Global × X)) → list_all (is_fresh es) news ≡ true → IsDistinct string_eq (keys_of news) → insert_all string_eq es news ≡ es ++ news
  unfolding IsDistinct
  fresh_behind es [] new distinct = sym (append-nil es)
  fresh_behind es (y ∷ ys) new distinct = search (
    std_rules,
    insert_fresh,
    first_true,
    still_fresh,
    second_true,
    append_assoc,
    fresh_behind (es ++ y ∷ []) ys (still_fresh es y ys (second_true (is_fresh es y) (list_all (is_fresh es) ys) new) distinct.0) distinct.1,
  )

-- entries of the same names, one by one
abbrev pub KeepsNames : {X Y : Type 0} → (String Global × X → String Global × Y → Type 0) → Type 0
KeepsNames {X} {Y} R = (a : String Global × X) (b : String Global × Y) → R a b → text_of b.0 ≡ text_of a.0

-- their names are the same, so keys are as different, and as new
pub names_along : {X Y : Type 0} (R : String Global × X → String Global × Y → Type 0) → KeepsNames R → (xs : List (String Global × X)) (ys : List (String Global × Y)) → AllZip R xs ys
    → names_in ys ≡ names_in xs
names_along R keeps [] [] zip = refl
names_along R keeps (x ∷ xs) (y ∷ ys) zip = ap₂ (λ a b. a ∷ b) (keeps x y zip.0) (names_along R keeps xs ys zip.1)
names_along R keeps _ _ zip = absurd zip

same_first : {a b : Text} {us vs : List Text} → a ∷ us ≡ b ∷ vs → a ≡ b
same_first e = cc

same_rest : {a b : Text} {us vs : List Text} → a ∷ us ≡ b ∷ vs → us ≡ vs
same_rest e = cc

module _ {X Y : Type 0} where
  apart_by_names : (k l : String Global) → text_of l ≡ text_of k → (xs : List (String Global × X)) (ys : List (String Global × Y)) → names_in ys ≡ names_in xs
      → AllByRecursion (λ n. string_eq k n ≡ false) (keys_of xs) → AllByRecursion (λ n. string_eq l n ≡ false) (keys_of ys)
  apart_by_names k l same xs [] e h = tt
  apart_by_names k l same [] (y ∷ ys) e h = let wrong : ⊥ = cc in absurd wrong
  apart_by_names k l same (x ∷ xs) (y ∷ ys) e h = ((λ i. text_eq (same i) (same_first e i)) ∙ h.0, apart_by_names k l same xs ys (same_rest e) h.1)

  pub distinct_by_names : (xs : List (String Global × X)) (ys : List (String Global × Y)) → names_in ys ≡ names_in xs → IsDistinct string_eq (keys_of xs) → IsDistinct string_eq (keys_of ys)
  unfolding IsDistinct
  distinct_by_names xs [] e h = tt
  distinct_by_names [] (y ∷ ys) e h = let wrong : ⊥ = cc in absurd wrong
  distinct_by_names (x ∷ xs) (y ∷ ys) e h = (apart_by_names x.0 y.0 (same_first e) xs ys (same_rest e) h.0, distinct_by_names xs ys (same_rest e) h.1)

module _ {X Y : Type 0} (R : String Global × X → String Global × Y → Type 0) (keeps : KeepsNames R) where
  pub distinct_along : (xs : List (String Global × X)) (ys : List (String Global × Y)) → AllZip R xs ys → IsDistinct string_eq (keys_of xs) → IsDistinct string_eq (keys_of ys)
  distinct_along xs ys zip h = distinct_by_names xs ys (names_along R keeps xs ys zip) h

  fresh_along : {Z : Type 0} (es : List (String Global × Z)) (xs : List (String Global × X)) (ys : List (String Global × Y)) → AllZip R xs ys → list_all (is_fresh es) xs ≡ true
      → list_all (is_fresh es) ys ≡ true
  fresh_along es [] [] zip h = refl
  fresh_along es (x ∷ xs) (y ∷ ys) zip h = search (std_rules, both, first_true, second_true, fresh_along es xs ys zip.1 (second_true (is_fresh es x) (list_all (is_fresh es) xs) h))
  fresh_along es _ _ zip h = absurd zip

  -- so copies of what is new stand behind what was there
  pub copies_behind : (test : String Global × X → Bool) (own : List (String Global × Y)) (olds : List (String Global × X)) (news : List (String Global × Y)) → AllZip R (filter test olds) news
      → IsDistinct string_eq (keys_of olds) → ((e : String Global × X) → Contains olds e → test e ≡ true → is_fresh own e ≡ true) → insert_all string_eq own news ≡ own ++ news
  copies_behind test own olds news zip distinct each = fresh_behind own news (fresh_along own (filter test olds) news zip (passes_of_filter test (is_fresh own) olds each))
      (distinct_along (filter test olds) news zip (IsDistinct-keys_filter string_eq test olds distinct))

-- ---- what stands in a package's maps

pub home_is : (n : ℕ) (o : Option PackageId) → is_id n (package_number o) ≡ true → (home : PackageId) × (o ≡ Some home) × (home.0 ≡ n)
home_is n x h = search std_rules

-- The interface of a name and a number in a package.
pub record IsListedInterface (r : Resolve) (home : ℕ) (p : Package) (name : Text) (n : ℕ) : Type 0 where
  pub interface_ : Interface
  pub found : interface_at r n ≡ Some interface_
  pub label : String Global
  pub named : interface_.name ≡ Some label
  pub text : text_of label ≡ name
  pub id : PackageId
  pub in_package : interface_.«package» ≡ Some id
  pub number : id.0 ≡ home
  pub path : path_of_interface r interface_ ≡ Some (path_in (identity_of p.name) name)

-- The world of a name and a number in a package.
pub record IsListedWorld (r : Resolve) (home : ℕ) (p : Package) (name : Text) (n : ℕ) : Type 0 where
  pub world : World
  pub found : world_at r n ≡ Some world
  pub text : text_of world.name ≡ name
  pub id : PackageId
  pub in_package : world.«package» ≡ Some id
  pub number : id.0 ≡ home
  pub path : path_of_world r world ≡ Some (path_in (identity_of p.name) name)

module _ (r : Resolve) (valid : IsValid r) (home : ℕ) (p : Package) (at : package_at r home ≡ Some p) where
  spelled : (name : Text) → path_by r (Some name) (Some home) ≡ Some (path_in (identity_of p.name) name)
  spelled name = ap (option_map (λ (x : Package). path_in (identity_of x.name) name)) at

  pub listed_interface : (name : Text) (n : ℕ) → Contains (interface_names p) (name, n) → IsListedInterface r home p name n
  listed_interface name n held =
      let i = found_option (λ (x : Interface). text_is x.name name && is_id home (package_number x.«package»)) (interface_at r n)
      (all-contained (is_interface_of r home) (interface_names p) (name, n) (interfaces_stand r valid.rules home p at) held) in
      let label = label_is i.0.name name (first_true (text_is i.0.name name) (is_id home (package_number i.0.«package»)) i.2) in
      let id = home_is home i.0.«package» (second_true (text_is i.0.name name) (is_id home (package_number i.0.«package»)) i.2) in
      record {
        interface_ = i.0;
        found = i.1;
        label = label.0;
        named = label.1;
        text = label.2;
        id = id.0;
        in_package = id.1;
        number = id.2;
        path = path_parts r i.0 ∙ ((λ z. path_by r ((ap optional_text label.1 ∙ ap Some label.2) z) ((ap package_number id.1 ∙ ap Some id.2) z)) ∙ spelled name);
      }

  pub listed_world : (name : Text) (n : ℕ) → Contains (world_names p) (name, n) → IsListedWorld r home p name n
  listed_world name n held =
      let w = found_option (λ (x : World). text_eq (text_of x.name) name && is_id home (package_number x.«package»)) (world_at r n)
      (all-contained (is_world_of r home) (world_names p) (name, n) (worlds_stand r valid.rules home p at) held) in
      let text : text_of w.0.name ≡ name = text_same (text_of w.0.name) name (first_true (text_eq (text_of w.0.name) name) (is_id home (package_number w.0.«package»)) w.2) in
      let id = home_is home w.0.«package» (second_true (text_eq (text_of w.0.name) name) (is_id home (package_number w.0.«package»)) w.2) in
      record {
        world = w.0;
        found = w.1;
        text = text;
        id = id.0;
        in_package = id.1;
        number = id.2;
        path = world_path r w.0 ∙ ((λ z. path_by r (Some (text z)) ((ap package_number id.1 ∙ ap Some id.2) z)) ∙ spelled name);
      }

  -- what an entry is
  pub interface_of : (e : String Global × InterfaceId) → Contains p.interfaces.entries e → IsListedInterface r home p (text_of e.0) e.1.0
  interface_of e held = listed_interface (text_of e.0) e.1.0 (contains-map (λ (d : String Global × InterfaceId). (text_of d.0, d.1.0)) p.interfaces.entries e held)

  pub world_of : (e : String Global × WorldId) → Contains p.worlds.entries e → IsListedWorld r home p (text_of e.0) e.1.0
  world_of e held = listed_world (text_of e.0) e.1.0 (contains-map (λ (d : String Global × WorldId). (text_of d.0, d.1.0)) p.worlds.entries e held)

-- ---- what gains

-- how many flags in front of a place aren't set
abbrev pub rank : List Bool → ℕ → ℕ
rank [] k = 0
rank (b ∷ bs) zero = 0
rank (true ∷ bs) (suc k) = rank bs k
rank (false ∷ bs) (suc k) = suc (rank bs k)

-- The package of the other of which an own one gains, at the place that it has among them.
pub record IsGrownOf (flags : List Bool) (numbers : List ℕ) (packages : List Package) (i : ℕ) (e : ℕ × Package) : Type 0 where
  pub place : ℕ
  pub at_place : slice_get packages place ≡ Some e.1
  pub bare : flag_under flags place ≡ false
  pub number : number_under numbers place ≡ e.0
  pub rank_is : i ≡ rank flags place

pub grown_of : (flags : List Bool) (ns : List ℕ) (ps : List Package) (i : ℕ) (e : ℕ × Package) → slice_get (grown_packages flags ns ps) i ≡ Some e → IsGrownOf flags ns ps i e
grown_of (true ∷ bs) (n ∷ ns) (p ∷ ps) i e at =
    let r = grown_of bs ns ps i e at in record { place = suc r.place; at_place = r.at_place; bare = r.bare; number = r.number; rank_is = r.rank_is }
grown_of (false ∷ bs) (n ∷ ns) (p ∷ ps) zero e at = search std_rules
grown_of (false ∷ bs) (n ∷ ns) (p ∷ ps) (suc i) e at =
    let r = grown_of bs ns ps i e at in record { place = suc r.place; at_place = r.at_place; bare = r.bare; number = r.number; rank_is = ap suc r.rank_is }
grown_of _ _ _ i e at = let wrong : ⊥ = cc in absurd wrong

-- what an own package gains of the package of a place that isn't new
pub gain_of : (c : Carried) (flags : List Bool) (ns : List ℕ) (ps : List Package) (gs : List Names) → AllZip (IsGained c) (grown_packages flags ns ps) gs → length flags ≡ length ns
    → (n : ℕ) (p : Package) → slice_get flags n ≡ Some false → slice_get ps n ≡ Some p → (i : ℕ) × (g : Names) × (slice_get gs i ≡ Some g) × IsGained c (number_under ns n, p) g
gain_of c [] ns ps gs zip long n p bare at = nothing_there false bare
gain_of c (b ∷ bs) [] ps gs zip long n p bare at = absurd (omega (arith, long))
gain_of c (b ∷ bs) (k ∷ ns) [] gs zip long n p bare at = nothing_there p at
gain_of c (true ∷ bs) (k ∷ ns) (q ∷ ps) gs zip long zero p bare at = no_true (sym (some_same true false bare))
gain_of c (true ∷ bs) (k ∷ ns) (q ∷ ps) gs zip long (suc n) p bare at = gain_of c bs ns ps gs zip (omega (arith, long)) n p bare at
gain_of c (false ∷ bs) (k ∷ ns) (q ∷ ps) [] zip long n p bare at = absurd zip
gain_of c (false ∷ bs) (k ∷ ns) (q ∷ ps) (g ∷ gs) zip long zero p bare at = (0, g, refl, subst (λ x. IsGained c (k, x) g) (some_same q p at) zip.0)
gain_of c (false ∷ bs) (k ∷ ns) (q ∷ ps) (g ∷ gs) zip long (suc n) p bare at = let r = gain_of c bs ns ps gs zip.1 (omega (arith, long)) n p bare at in (suc r.0, r.1, r.2, r.3)

pub new_world_flag : (r : Resolve) (ms : List (Option WorldId)) (ws : List World) (n : ℕ) (o : Option WorldId) (w : World) → slice_get ms n ≡ Some o → slice_get ws n ≡ Some w
    → flag_under (new_worlds r ms ws) n ≡ (is_none o && not (is_root_world r w))
new_world_flag r (m ∷ ms) (x ∷ xs) zero o w a b = let p = some_same m o a in let q = some_same x w b in λ i. is_none (p i) && not (is_root_world r (q i))
new_world_flag r (m ∷ ms) (x ∷ xs) (suc n) o w a b = new_world_flag r ms xs n o w a b
new_world_flag r _ _ n o w a b = let wrong : ⊥ = cc in absurd wrong

-- one of a name is found
pub some_from : (name : PackageName) (n : ℕ) (ps : List Package) (k : ℕ) (p : Package) → slice_get ps k ≡ Some p → same_package_name name p.name ≡ true → (id : PackageId)
    × (package_from name n ps ≡ Some id)
some_from name n [] k p at same = let wrong : ⊥ = cc in absurd wrong
some_from name n (q ∷ qs) k p at same = go (same_package_name name q.name) refl k at (λ j there. some_from name (n + 1) qs j p there same)
  where
    go : (b : Bool) → same_package_name name q.name ≡ b → (k : ℕ) → slice_get (q ∷ qs) k ≡ Some p → ((j : ℕ) → slice_get qs j ≡ Some p → (id : PackageId) × (package_from name (n + 1) qs ≡ Some id))
        → (id : PackageId) × (cond b (Some (record { 0 = n })) (package_from name (n + 1) qs) ≡ Some id)
    go true e k at later = (record { 0 = n }, refl)
    go false e zero at later = no_true (sym e ∙ (ap (λ (x : Package). same_package_name name x.name) (some_same q p at) ∙ same))
    go false e (suc k) at later = later k at

-- what an own package that was found has under a name
module _ (own : Resolve) (ms : List (Option PackageId)) (n : ℕ) (o : Option PackageId) (matched : slice_get ms n ≡ Some o) (home : PackageId) (t : Text) (here : home.0 ≡ n) where
  at_home : given (slice_get ms home.0) ≡ o
  at_home = ap (λ k. given (slice_get ms k)) here ∙ ap given matched

  pub interface_looked : interface_in own ms (Some home) t ≡ option_and_then (λ (id : PackageId). option_and_then (λ (q : Package). get_by_text q.interfaces t) (package_at own id.0)) o
  interface_looked = ap (option_and_then (λ (id : PackageId). option_and_then (λ (q : Package). get_by_text q.interfaces t) (package_at own id.0))) at_home

  pub world_looked : world_in own ms (Some home) t ≡ option_and_then (λ (id : PackageId). option_and_then (λ (q : Package). get_by_text q.worlds t) (package_at own id.0)) o
  world_looked = ap (option_and_then (λ (id : PackageId). option_and_then (λ (q : Package). get_by_text q.worlds t) (package_at own id.0))) at_home

module _ (own other : Resolve) (valid_other : IsValid other) (m : Matches) (c : Carried) (by_name : AreMatchedByName own other m) (numbered : IsNumbered own other m c) (chosen : AreChosen other m.interfaces.items c.copied_worlds.items c.copied_interfaces.items) where
  long : length c.new_packages.items ≡ length (map number_of_package m.packages.items)
  long = ap length numbered.new_packages ∙ (length-map m.packages.items is_none ∙ sym (length-map m.packages.items number_of_package))

  -- a package that isn't new has an own one under its number
  abbrev pub IsHome : ℕ → ℕ → Type 0
  IsHome k n = (id : PackageId) × (slice_get m.packages.items k ≡ Some (Some id)) × (id.0 ≡ n)

  pub home_of : (k n : ℕ) (q : Package) → package_at other k ≡ Some q → flag_under c.new_packages.items k ≡ false → number_under c.packages.items k ≡ n → IsHome k n
  home_of k n q at bare number = grind (arith, within_list, length-map, unflagged_found, found_number, uncopied_under, long)

  module _ (k n : ℕ) (q p : Package) (at : package_at other k ≡ Some q) (home : IsHome k n) (at_own : package_at own n ≡ Some p) where
    -- an interface is copied where its name is new in the own package
    pub copied_interface : (e : String Global × InterfaceId) → Contains q.interfaces.entries e → flag_under c.copied_interfaces.items e.1.0 ≡ is_fresh p.interfaces.entries e
    copied_interface e held =
        let x = interface_of other valid_other k q at e held in
        let matched = ap (λ l. slice_get l e.1.0) by_name.interfaces ∙ mapped_at (own_interface_of own m.packages.items) other.interfaces.items e.1.0 x.interface_ x.found in
        let found = ap (option_and_then (λ (s : String Global). interface_in own m.packages.items x.interface_.«package» (text_of s))) x.named
        ∙ ((λ i. interface_in own m.packages.items (x.in_package i) (x.text i))
        ∙ (interface_looked own m.packages.items k (Some home.0) home.1 x.id (text_of e.0) x.number
        ∙ ap (option_and_then (λ (p : Package). get_by_text p.interfaces (text_of e.0))) (ap (package_at own) home.2 ∙ at_own))) in
        chosen.named e.1.0 x.interface_ x.found (ap is_some x.named) ∙ ap not (ap (λ o. is_some (given_interface o)) matched ∙ (ap is_some found ∙ found_in_names (text_of e.0) p.interfaces.entries))

    -- and a world, but for the root world
    pub copied_world : (e : String Global × WorldId) (held : Contains q.worlds.entries e)
        → flag_under c.copied_worlds.items e.1.0 ≡ (is_fresh p.worlds.entries e && not (is_root_world other (world_of other valid_other k q at e held).world))
    copied_world e held =
        let x = world_of other valid_other k q at e held in
        let matched = ap (λ l. slice_get l e.1.0) by_name.worlds ∙ mapped_at (own_world_of own m.packages.items) other.worlds.items e.1.0 x.world x.found in
        let found : own_world_of own m.packages.items x.world ≡ get_by_text p.worlds (text_of e.0) =
        (λ i. world_in own m.packages.items (x.in_package i) (x.text i)) ∙ (world_looked own m.packages.items k (Some home.0) home.1 x.id (text_of e.0) x.number
        ∙ ap (option_and_then (λ (p : Package). get_by_text p.worlds (text_of e.0))) (ap (package_at own) home.2 ∙ at_own)) in
        ap (λ l. flag_under l e.1.0) numbered.copied_worlds ∙ (new_world_flag other m.worlds.items other.worlds.items e.1.0 (own_world_of own m.packages.items x.world) x.world matched x.found
        ∙ ap (λ b. b && not (is_root_world other x.world)) (none_not_some (own_world_of own m.packages.items x.world) ∙ ap not (ap is_some found ∙ found_in_names (text_of e.0) p.worlds.entries)))
