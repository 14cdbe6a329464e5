-- What is carried by path is new.
use Rattle.std.proofs.Common.{rules as std_rules, ◌≡◌, refl, sym, ap, ◌∙◌, ℕ, zero, suc, ◌+◌, ◌≤◌, length, Bool, true, false, not, ◌&&◌, ◌==◌, cond, List, [], ◌∷◌, ◌++◌, map, unwrap_or, Option, Some, None, is_none, option_and_then, option_map, slice_get, append-nil, String}
use Rattle.std.proofs.lemmas.{List.length-map, Option.same_Some as same-some}
use Rattle.std.specs.{Prelude.count_by, Prelude.filter_map, Prelude.is_some, List.list_all, List.list_any, Option.option_map_or}
use Rattle.std.specs.declared.alloc.Global.{Global}
use Rattle.wit_model.specs.declared.model.{Interface.Interface, Package.Package, PackageName.PackageName, Resolve.Resolve, World.World, WorldId.WorldId}
use Rattle.wit_model.specs.Lookup.{identity_of, interface_at, package_at, path_of_interface, path_of_world, world_at}
use Rattle.wit_model.specs.{Meant.interface_meaning, Meant.world_meaning, Names.at_version, Names.is_identity, Text.Text, Text.text_eq, Text.text_of, Rules.same_package_name, Valid.IsValid}
use Rattle.wit_model.proofs.{NameLaws.identity_namespace, NameLaws.label_lacks, NameLaws.identity_name as label-of, TextLemmas.text_same as text-same, Elements.contains-get, OnePath.package-name, VersionLaws.same_name}
use Rattle.bind_meaning.specs.{Binding.package_text, ByNumbers.interfaces_by_path, ByNumbers.package_texts, ByNumbers.worlds_by_path, Roots.root_path}
use Rattle.bind_meaning.proofs.Listed.{from-map, given as unpacked, mapped}
use Rattle.bind_match.specs.declared.matches.Matches.{Matches}
use Rattle.bind_match.specs.Matching.{interface_in, is_root_world, own_interface_of, own_package_of, own_world_of, package_from}
use Rattle.bind_clash.specs.Faults.{IsMatched}
use Rattle.bind_clash.proofs.PathsMatched.{has-root, own-interface-there, world-in-there, world-path-of}
use Rattle.bind_carry.specs.{First.flag_under, Marked.AreChosen, Shown.AreShownBelow, Which.AreMatchedAll, Listed.given_interface, Numbers.copied_count, Renumbered.is_matched, TooLong.carried_packages, TooLong.carried_worlds}
use Rattle.bind_carry.proofs.{CountedCopies.flags_few, CountedCopies.worlds_flagged, NamesGained.new_world_flag as world_flag}
use Rattle.bind_carry.proofs.Ranges.{is_in_range, shown_below}
use Rattle.wit_bind.specs.Comes.{is_new_interface, is_new_package, is_new_world, is_one_of}
use Rattle.wit_bind.proofs.MatchedPaths.{all-matched}
use Rattle.base_lemmas.proofs.{Elements.any-contains, Elements.filter_map_from, Bools.left_of as first_true, Bools.right_of as second_true, Lists.mapped_get as mapped_at, Numbers.same-number}

untrue : {A : Type 0} → false ≡ true → A
untrue e = let no : ⊥ = cc in absurd no

unset : {A : Type 0} (b : Bool) → b ≡ false → b ≡ true → A
unset b f t = untrue (sym f ∙ t)

-- ---- names of packages

abbrev Lacks : ℕ → Text → Type 0
Lacks c t = list_all (λ b. not (b == c)) t ≡ true

abbrev behind : Text → Text
behind [] = []
behind (x ∷ xs) = xs

abbrev first_or : ℕ → Text → ℕ
first_or d [] = d
first_or d (x ∷ xs) = x

never : {A : Type 0} (c x : ℕ) (xs : Text) → Lacks c (x ∷ xs) → x ≡ c → A
never c x xs h e = untrue (sym (ap (λ (y : ℕ). not (y == c)) e ∙ ap not (same-number c)) ∙ first_true (not (x == c)) (list_all (λ b. not (b == c)) xs) h)

-- what stands around the first byte of a kind is found again
around : (c : ℕ) (a b xs ys : Text) → Lacks c a → Lacks c b → a ++ (c ∷ xs) ≡ b ++ (c ∷ ys) → (a ≡ b) × (xs ≡ ys)
around c [] [] xs ys h k e = (refl, ap behind e)
around c [] (y ∷ b) xs ys h k e = never c y b k (sym (ap (first_or c) e))
around c (x ∷ a) [] xs ys h k e = never c x a h (ap (first_or c) e)
around c (x ∷ a) (y ∷ b) xs ys h k e =
    search (std_rules, second_true, around c a b xs ys (second_true (not (x == c)) (list_all (λ b. not (b == c)) a) h) (second_true (not (y == c)) (list_all (λ b. not (b == c)) b) k) (ap behind e))

-- what lacks a byte isn't something with it
no-middle : {A : Type 0} (c : ℕ) (a b xs : Text) → Lacks c a → a ≡ b ++ (c ∷ xs) → A
no-middle c [] [] xs h e = let no : ⊥ = cc in absurd no
no-middle c [] (y ∷ b) xs h e = let no : ⊥ = cc in absurd no
no-middle c (x ∷ a) [] xs h e = never c x a h (ap (first_or c) e)
no-middle c (x ∷ a) (y ∷ b) xs h e = no-middle c a b xs (second_true (not (x == c)) (list_all (λ b. not (b == c)) a) h) (ap behind e)

at-versions : (a b : Text) (v w : Option Text) → Lacks 64 a → Lacks 64 b → a ++ at_version v ≡ b ++ at_version w → (a ≡ b) × (v ≡ w)
at-versions a b None None h k e = (sym (append-nil a) ∙ (e ∙ append-nil b), refl)
at-versions a b (Some v) (Some w) h k e = let parts = around 64 a b v w h k e in (parts.0, ap Some parts.1)
at-versions a b None (Some w) h k e = no-middle 64 a b w h (sym (append-nil a) ∙ e)
at-versions a b (Some v) None h k e = no-middle 64 b a v k (sym (append-nil b) ∙ sym e)

one-text : (a b : PackageName) → is_identity (identity_of a) ≡ true → is_identity (identity_of b) ≡ true → package_text (identity_of a) ≡ package_text (identity_of b) → identity_of a ≡ identity_of b
one-text a b h k e =
    let p = identity_of a in
    let q = identity_of b in
    let space = around 58 p.namespace q.namespace (p.name ++ at_version p.version) (q.name ++ at_version q.version) (label_lacks 58 refl p.namespace (identity_namespace p h))
    (label_lacks 58 refl q.namespace (identity_namespace q k)) e in
    let name = at-versions p.name q.name p.version q.version (label_lacks 64 refl p.name (label-of p h)) (label_lacks 64 refl q.name (label-of q k)) space.1 in
    λ i. record { namespace = space.0 i; name = name.0 i; version = name.1 i }

-- ---- what is looked for

record IsFound {X : Type 0} (xs : List X) (P : X → Type 0) : Type 0 where
  place : ℕ
  it : X
  stands : slice_get xs place ≡ Some it
  fits : P it

any-text : {X : Type 0} (text : X → Text) (t : Text) (xs : List X) → list_any (text_eq t) (map text xs) ≡ true → IsFound xs (λ x. t ≡ text x)
any-text text t xs h =
    let p = any-contains (text_eq t) (map text xs) h in
    let x = from-map text xs p.0 p.1 in
    let k = contains-get xs x.0 x.1.0 in record { place = k.0; it = x.0; stands = k.1; fits = text-same t p.0 p.2 ∙ sym x.1.1 }

module _ {X M : Type 0} (path : X → Option Text) (meaning : X → M) (t : Text) where
  abbrev paths : List X → List Text
  paths xs = map (λ (e : Text × M). e.0) (filter_map (λ x. option_map (λ p. (p, meaning x)) (path x)) xs)

  any-path : (xs : List X) → list_any (text_eq t) (paths xs) ≡ true → IsFound xs (λ x. path x ≡ Some t)
  any-path xs h =
      let p = any-contains (text_eq t) (paths xs) h in
      let e = from-map (λ (e : Text × M). e.0) (filter_map (λ x. option_map (λ p. (p, meaning x)) (path x)) xs) p.0 p.1 in
      let x = filter_map_from (λ x. option_map (λ p. (p, meaning x)) (path x)) xs e.0 e.1.0 in
      let q = mapped (λ p. (p, meaning x.1)) (path x.1) e.0 x.3 in
      record { place = x.0; it = x.1; stands = x.2; fits = q.1 ∙ ap Some (ap (λ (z : Text × M). z.0) q.2 ∙ (e.1.1 ∙ sym (text-same t p.0 p.2))) }

named-there : (name : PackageName) (n : ℕ) (ps : List Package) (k : ℕ) (q : Package) → slice_get ps k ≡ Some q → same_package_name name q.name ≡ true → is_none (package_from name n ps) ≡ false
named-there name n [] k q at s = let no : ⊥ = cc in absurd no
named-there name n (p ∷ ps) k q at s = by (same_package_name name p.name) refl k at (λ j f. named-there name (n + 1) ps j q f s)
  where
    by : (b : Bool) → same_package_name name p.name ≡ b → (k : ℕ) → slice_get (p ∷ ps) k ≡ Some q → ((j : ℕ) → slice_get ps j ≡ Some q → is_none (package_from name (n + 1) ps) ≡ false)
        → is_none (cond b (Some (record { 0 = n })) (package_from name (n + 1) ps)) ≡ false
    by true t k f more = refl
    by false t zero f more = untrue (sym t ∙ (ap (λ (x : Package). same_package_name name x.name) (same-some p q f) ∙ s))
    by false t (suc j) f more = more j f

-- ---- what comes is counted

module _ (own other : Resolve) (v : IsValid own) (u : IsValid other) (m : Matches) (matched : IsMatched own other m) where
  all : AreMatchedAll other m
  all = all-matched own other m matched

  new-package : (n : ℕ) (p : Package) → package_at other n ≡ Some p → flag_under (carried_packages m) n ≡ true → is_new_package own p ≡ true
  new-package n p at flag = by (is_one_of (package_texts own) (package_text (identity_of p.name))) refl
    where
      none : is_none (own_package_of own.packages.items p) ≡ true
      none =
          let f = own_package_of own.packages.items in
          sym (ap (λ l. flag_under (map is_none l) n) matched.packages ∙ ap (λ o. unwrap_or o false)
          (mapped_at is_none (map f other.packages.items) n (f p) (mapped_at f other.packages.items n p at))) ∙ flag

      by : (b : Bool) → is_one_of (package_texts own) (package_text (identity_of p.name)) ≡ b → not b ≡ true
      by false e = refl
      by true e =
          let f = any-text (λ q. package_text (identity_of q.name)) (package_text (identity_of p.name)) own.packages.items e in
          let ours = package-name own v f.place f.it f.stands in
          let theirs = package-name other u n p at in
          let same = (same_name p.name f.it.name theirs.version ours.version).1 (one-text p.name f.it.name theirs.identity ours.identity f.fits) in
          unset (is_none (own_package_of own.packages.items p)) (named-there p.name 0 own.packages.items f.place f.it f.stands same) none

  pub packages-few : copied_count (carried_packages m) ≤ count_by (is_new_package own) other.packages.items
  packages-few = flags_few (is_new_package own) (carried_packages m) other.packages.items (length-map m.packages.items is_none ∙ all.packages) new-package

  -- ---- worlds

  pub new-world : (n : ℕ) (w : World) → world_at other n ≡ Some w → flag_under (carried_worlds other m) n ≡ true → is_new_world own other w ≡ true
  new-world n w at flag = go (path_of_world other w) refl
    where
      g : World → Option WorldId
      g = own_world_of own m.packages.items

      both : (is_none (g w) && not (is_root_world other w)) ≡ true
      both = sym (world_flag other m.worlds.items other.worlds.items n (g w) w (ap (λ l. slice_get l n) matched.worlds ∙ mapped_at g other.worlds.items n w at) at) ∙ flag

      no-root : (t : Text) → path_of_world other w ≡ Some t → (b : Bool) → text_eq t root_path ≡ b → not b ≡ true
      no-root t e false s = refl
      no-root t e true s = untrue (sym (ap not (has-root other u w t (world-path-of other u n w at t e) (text-same t root_path s))) ∙ second_true (is_none (g w)) (not (is_root_world other w)) both)

      no-own : (t : Text) → path_of_world other w ≡ Some t → (b : Bool) → is_one_of (map (λ e. e.0) (worlds_by_path own)) t ≡ b → not b ≡ true
      no-own t e false s = refl
      no-own t e true s =
          let f = any-path (path_of_world own) (world_meaning own) t own.worlds.items s in
          let there = world-in-there own other v u m.packages.items matched.packages w.«package» (text_of w.name) t (world-path-of other u n w at t e) f.place
          (ap (option_and_then (path_of_world own)) f.stands ∙ f.fits) in
          untrue (sym (ap is_none there.1.0) ∙ first_true (is_none (g w)) (not (is_root_world other w)) both)

      go : (o : Option Text) → path_of_world other w ≡ o → option_map_or (λ path. not (text_eq path root_path) && not (is_one_of (map (λ e. e.0) (worlds_by_path own)) path)) o true ≡ true
      go None e = refl
      go (Some t) e = λ i. no-root t e (text_eq t root_path) refl i && no-own t e (is_one_of (map (λ x. x.0) (worlds_by_path own)) t) refl i

  pub worlds-few : copied_count (carried_worlds other m) ≤ count_by (is_new_world own other) other.worlds.items
  worlds-few = flags_few (is_new_world own other) (carried_worlds other m) other.worlds.items (worlds_flagged other m.worlds.items other.worlds.items all.worlds) new-world

  -- ---- interfaces

  pub new-interface : (worlds flags : List Bool) → AreChosen other m.interfaces.items worlds flags → (n : ℕ) (i : Interface) → interface_at other n ≡ Some i → flag_under flags n ≡ true
      → is_new_interface own other i ≡ true
  new-interface worlds flags chosen n i at flag = go (path_of_interface other i) refl
    where
      no-own : (t : Text) → path_of_interface other i ≡ Some t → (b : Bool) → is_one_of (map (λ e. e.0) (interfaces_by_path own)) t ≡ b → not b ≡ true
      no-own t e false s = refl
      no-own t e true s =
          let f = any-path (path_of_interface own) (interface_meaning own) t own.interfaces.items s in
          let there = own-interface-there own other v u m.packages.items matched.packages n i at t e f.place (ap (option_and_then (path_of_interface own)) f.stands ∙ f.fits) in
          let id = there.0 in
          let name = unpacked (λ (x : String Global). interface_in own m.packages.items i.«package» (text_of x)) i.name id there.1.0 in
          let found : slice_get m.interfaces.items n ≡ Some (Some id) =
          ap (λ l. slice_get l n) matched.interfaces ∙ (mapped_at (own_interface_of own m.packages.items) other.interfaces.items n i at ∙ ap Some there.1.0) in
          let known : is_matched m.interfaces.items n ≡ true = ap (λ o. is_some (given_interface o)) found in
          untrue (sym (chosen.named n i at (ap is_some name.1) ∙ ap not known) ∙ flag)

      go : (o : Option Text) → path_of_interface other i ≡ o → option_map_or (λ path. not (is_one_of (map (λ e. e.0) (interfaces_by_path own)) path)) o true ≡ true
      go None e = refl
      go (Some t) e = no-own t e (is_one_of (map (λ x. x.0) (interfaces_by_path own)) t) refl

  pub shown : (k : ℕ) (w : World) → world_at other k ≡ Some w → AreShownBelow (length other.interfaces.items) w.imports.entries × AreShownBelow (length other.interfaces.items) w.exports.entries
  shown k w at =
      let range = is_in_range other u in (
        shown_below (length other.interfaces.items) (length other.types.items) w.imports.entries (range.imports k w at),
        shown_below (length other.interfaces.items) (length other.types.items) w.exports.entries (range.exports k w at),
      )
