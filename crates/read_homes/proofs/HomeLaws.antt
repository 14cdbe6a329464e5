-- The packages of places, one place after the other.
use Rattle.std.proofs.Common.{rules as std_rules, ◌≡◌, inl, inr, refl, sym, ap, ◌∙◌, subst, ℕ, zero, suc, ◌+◌, ◌<◌, ◌≤◌, arith, List, [], ◌∷◌, ◌++◌, map, length, take, get_or, Option, Some, None, option_map, slice_get, unwrap_or, Result, Ok, Err, IfOk, OnOk}
use Rattle.std.proofs.lemmas.{List.map-append, List.take_all, List.take_more, Option.slice_get_within as found_below}
use Rattle.std.specs.{Borrow.Bor, List.AllZip}
use Rattle.std.specs.declared.alloc.AllocError.{AllocError}
use Rattle.wit_model.specs.{Text.Text, Names.PackageIdentity, Names.read_path}
use Rattle.wit_model.proofs.Elements.{zip-push}
use Rattle.plan_meaning.specs.{NumberedViews.Tables, NumberedMembers.HomesStand}
use Rattle.read_homes.specs.Homes.{given_home, given_text, package_read, ArePackages, ArePaths, ComeInOrder, Grows, HaveReasons, IsHomeOf, IsReadAs, IsReason, Joins, stays, comes, Takes}
use Rattle.read_homes.proofs.PackageLaws.{homes_on}
use Rattle.base_lemmas.proofs.{Lists.at_last as last_there, Lists.front_more, Lists.last_or, Lists.within_there as at_number, Options.some_is}
use Rattle.plan_meaning.specs.NumberedMembers as members

-- ---- why a package is there

joined_reason : (old new : List PackageIdentity) (x : PackageIdentity) → Joins old x new → ArePackages new → (home : ℕ × Text) → slice_get new home.0 ≡ Some x → IsReason old new (Some home)
joined_reason old new x stays packages home e = λ n below. inl below
joined_reason old new x (comes fresh) packages home e = λ n below.
    let there = at_number (old ++ x ∷ []) n below in
    elim (last_or old x n there.0 there.1) [
      | inl h ↦ inl h.0
      | inr h ↦ let same : home.0 ≡ n = packages.apart home.0 n x e (there.1 ∙ ap Some (sym h.1)) in inr (home.1, ap (λ (k : ℕ). Some (k, home.1)) same)
    ]

reason_of : (old new : List PackageIdentity) → ArePackages new → (path : Text) (home : Option (ℕ × Text)) → IsReadAs new path home → Takes old (package_read path) new → IsReason old new home
reason_of old new packages path None reads takes = search std_rules
reason_of old new packages path (Some home) reads takes =
    joined_reason old new reads.0 (subst (λ (o : Option (PackageIdentity × Text)). Takes old (option_map (λ x. x.0) o) new) reads.2 takes) packages home reads.1

pub home_reason : (old new : List PackageIdentity) → ArePackages new → (path : Text) (r : Result (Option (ℕ × Bor (List ℕ))) AllocError) → IfOk r (λ x. IsReadAs new path (given_home x))
    → OnOk r (Takes old (package_read path) new) → IfOk r (λ x. IsReason old new (given_home x))
home_reason old new packages path (Ok x) reads takes = reason_of old new packages path (given_home x) reads takes
home_reason old new packages path (Err e) reads takes = tt

-- ---- one place more

reasons_more : (first old new : List PackageIdentity) (homes : List (Option (ℕ × Text))) (home : Option (ℕ × Text)) → HaveReasons first old homes → IsReason old new home
    → HaveReasons first new (homes ++ home ∷ [])
reasons_more first old new homes home have reason n below = elim (reason n below) [
  | inl before ↦ elim (have n before) [ inl earlier ↦ inl earlier | inr at ↦ inr (record { place = at.place; name = at.name; home = front_more homes home at.place (Some (n, at.name)) at.home }) ]
  | inr own ↦ inr (record { place = length homes; name = own.0; home = last_there homes home ∙ ap Some own.1 })
]

pub more_reasons : (first old new : List PackageIdentity) (homes : List (Option (ℕ × Bor (List ℕ)))) (home : Option (ℕ × Bor (List ℕ))) (after : List (Option (ℕ × Bor (List ℕ))))
    → after ≡ homes ++ home ∷ [] → HaveReasons first old (map given_home homes) → IsReason old new (given_home home) → HaveReasons first new (map given_home after)
more_reasons first old new homes home after added have reason =
    search (std_rules, map-append given_home homes (home ∷ []), reasons_more first old new (map given_home homes) (given_home home) have reason)

-- the package of a place is one of the packages
home_below : (packages : List PackageIdentity) (path : Option Text) (n : ℕ) (name : Text) → IsHomeOf packages path (Some (n, name)) → n < length packages
home_below packages x n name is = search (std_rules, found_below)

in_order_more : (first old new : List PackageIdentity) (path : Option Text) (homes : List (Option (ℕ × Text))) (home : Option (ℕ × Text)) → IsHomeOf new path home → HaveReasons first old homes
    → IsReason old new home → ComeInOrder first homes → ComeInOrder first (homes ++ home ∷ [])
in_order_more first old new path homes home is have reason order p n name at c less = elim (last_or homes home p (Some (n, name)) at) [
  | inl h ↦ elim (order p n name h.1 c less) [
    | inl before ↦ inl before
    | inr b ↦
        inr (record { number = b.number; earlier = b.earlier; name = b.name; home = front_more homes home b.number (Some (c, b.name)) b.home })
  ]
  | inr h ↦
      let below = home_below new path n name (subst (λ (o : Option (ℕ × Text)). IsHomeOf new path o) h.1 is) in
      let last = h.0 in
      elim (reason c (omega (arith, less, below))) [
        | inl low ↦ elim (have c low) [
          | inl before ↦ inl before
          | inr b ↦
              let inside = found_below homes b.place (Some (c, b.name)) b.home in
              inr (record { number = b.place; earlier = omega (arith, inside, last); name = b.name; home = front_more homes home b.place (Some (c, b.name)) b.home })
        ]
        | inr own ↦
            let same : ◌≡◌ {A = ℕ × Text} (c, own.0) (n, name) = some_is (c, own.0) (n, name) (sym own.1 ∙ h.1) in
            let one : c ≡ n = ap (λ (y : ℕ × Text). y.0) same in
            absurd (omega (arith, less, one))
      ]
]

pub more_in_order : (first old new : List PackageIdentity) (path : Option Text) (homes : List (Option (ℕ × Bor (List ℕ)))) (home : Option (ℕ × Bor (List ℕ))) (after : List (Option (ℕ × Bor (List ℕ))))
    → after ≡ homes ++ home ∷ [] → IsHomeOf new path (given_home home) → HaveReasons first old (map given_home homes) → IsReason old new (given_home home) → ComeInOrder first (map given_home homes)
    → ComeInOrder first (map given_home after)
more_in_order first old new path homes home after added is have reason order =
    search (std_rules, map-append given_home homes (home ∷ []), in_order_more first old new path (map given_home homes) (given_home home) is have reason order)

pub more_homes : (old new : List PackageIdentity) → Grows old new → (paths : List (Option (Bor (List ℕ)))) (i : ℕ) (d : Option (Bor (List ℕ))) → i < length paths
    → (homes : List (Option (ℕ × Bor (List ℕ)))) (home : Option (ℕ × Bor (List ℕ))) (after : List (Option (ℕ × Bor (List ℕ)))) → after ≡ homes ++ home ∷ []
    → AllZip (IsHomeOf old) (map given_text (take i paths)) (map given_home homes) → IsHomeOf new (given_text (get_or paths i d)) (given_home home)
    → AllZip (IsHomeOf new) (map given_text (take (i + 1) paths)) (map given_home after)
more_homes old new grows paths i d within homes home after added before is =
    let ps : map given_text (take (i + 1) paths) ≡ map given_text (take i paths) ++ given_text (get_or paths i d) ∷ [] =
    ap (map given_text) (take_more paths i d within) ∙ map-append given_text (take i paths) (get_or paths i d ∷ []) in
    let hs : map given_home after ≡ map given_home homes ++ given_home home ∷ [] = ap (map given_home) added ∙ map-append given_home homes (home ∷ []) in
    subst (λ (xs : List (Option Text)). AllZip (IsHomeOf new) xs (map given_home after)) (sym ps)
    (subst (λ (ys : List (Option (ℕ × Text))). AllZip (IsHomeOf new) (map given_text (take i paths) ++ given_text (get_or paths i d) ∷ []) ys) (sym hs)
    (zip-push (IsHomeOf new) (map given_text (take i paths)) (map given_home homes) (given_text (get_or paths i d)) (given_home home)
    (homes_on old new grows (map given_text (take i paths)) (map given_home homes) before) is))

-- ---- all places

abbrev StandsFor : List PackageIdentity → List (Option (ℕ × Text)) → ℕ → Text → Type 0
StandsFor packages homes p path = (home : Option (ℕ × Text)) × (slice_get homes p ≡ Some home) × IsHomeOf packages (Some path) home

at_place : (packages : List PackageIdentity) (paths : List (Option Text)) (homes : List (Option (ℕ × Text))) → AllZip (IsHomeOf packages) paths homes → (p : ℕ) (path : Text)
    → slice_get paths p ≡ Some (Some path) → StandsFor packages homes p path
at_place packages [] homes all p path e = absurd cc
at_place packages (x ∷ paths) [] all p path e = absurd all
at_place packages (x ∷ paths) (home ∷ homes) all zero path e = let same : x ≡ Some path = cc in (home, refl, subst (λ (o : Option Text). IsHomeOf packages o home) same all.0)
at_place packages (x ∷ paths) (home ∷ homes) all (suc p) path e = at_place packages paths homes all.1 p path e

given_path : (o : Option (Option Text)) (path : Text) → unwrap_or o None ≡ Some path → o ≡ Some (Some path)
given_path x path e = search std_rules

module _ (t : Tables) (packages : List PackageIdentity) (are : ArePackages packages) (homes : List (Option (ℕ × Text))) (all : AllZip (IsHomeOf packages) t.paths homes) (paths : ArePaths t.paths) where
  pub homes_stand : HomesStand t (record { packages = packages; homes = homes })
  homes_stand = record {
    homes = λ p path e.
        let e' = given_path (slice_get t.paths p) path e in
        let at = at_place packages t.paths homes all p path e' in
        let reads = paths p path e' in
        by p path at.0 at.1 at.2 reads.0 reads.1;
    apart = are.apart;
  }
    where
      by : (p : ℕ) (path : Text) (home : Option (ℕ × Text)) → slice_get homes p ≡ Some home → IsHomeOf packages (Some path) home → (x : PackageIdentity × Text) → read_path path ≡ Some x
          → members.IsHomeOf (record { packages = packages; homes = homes }) p path
      by p path None there is x reads = let wrong : None ≡ Some x = sym is ∙ reads in absurd cc
      by p path (Some home) there is x reads = record { package_ = home.0; name = home.1; identity = is.0; home = ap (λ o. unwrap_or o None) there; stands = is.1; reads = is.2 }

pub all_homes : (t : Tables) (packages : List PackageIdentity) → ArePackages packages → (paths : List (Option (Bor (List ℕ)))) (i : ℕ) → length paths ≤ i → (homes : List (Option (ℕ × Bor (List ℕ))))
    → AllZip (IsHomeOf packages) (map given_text (take i paths)) (map given_home homes)
    → t.paths ≡ map given_text paths → ArePaths t.paths → HomesStand t (record { packages = packages; homes = map given_home homes })
all_homes t packages are paths i past homes all same are_paths = search (std_rules, homes_stand, take_all)
