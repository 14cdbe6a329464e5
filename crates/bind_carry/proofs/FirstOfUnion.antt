-- What a union adds, once it is added, has all that is carried by path.
use Rattle.bind_carry.proofs.{CopiesPlaced.by_test, CopiesPlaced.some_same, CopiesPlaced.uncopied_under, KeptPlaced.IsKeptAt, KeptPlaced.kept_here}
use Rattle.base_lemmas.proofs.{Lists.front_at, Lists.mapped_get as mapped_at, Lists.set_there, Numbers.differ, Numbers.equal}
use Rattle.bind_add.proofs.Gains.{set_here}
use Rattle.bind_add.specs.{Growth.GainsNone, Growth.HaveGained, declared.added.Names.Names}
use Rattle.bind_carry.specs.{BoundGains.bound_fates, Fates.AreCopied, First.first_fates, First.flag_under, FirstPass.UnionsHaveTheFirst, Numbers.numbers_of, Numbers.package_number, Packaged.IsGained, Packaged.IsPackageCarried, Packaged.grown_packages, SecondPass.UnionsHaveTheSecond, Whole.kept, declared.plan.Carried.Carried}
use Rattle.bind_copy.specs.Copies.{number_under}
use Rattle.bind_match.specs.Matching.{own_package_of, package_from}
use Rattle.bind_union.proofs.Lists.{no_true}
use Rattle.bind_union.specs.Carried.{IsSameName}
use Rattle.std.proofs.Common.{Bool, List, None, Option, Some, [], ap, append-nil, arith, cond, false, inl, inr, is_none, length, map, option_map, refl, rules as std_rules, slice_get, subst, suc, sym, true, unwrap_or, zero, ℕ, ◌++◌, ◌+◌, ◌<◌, ◌==◌, ◌∙◌, ◌∷◌, ◌≡◌, ◌⊎◌}
use Rattle.std.proofs.lemmas.{List.length-map, Option.slice_get_within as within_list}
use Rattle.std.specs.{List.AllZip, Prelude.slice_set}
use Rattle.wit_model.specs.{Lookup.package_at, Rules.same_package_name, declared.model.Package.Package, declared.model.PackageId.PackageId}
use Rattle.wit_model.specs.declared.model.{PackageName.PackageName, Resolve.Resolve, TypeDef.TypeDef, World.World}

-- ---- Each package of the other stands in one of its name: in a new one, or in the own one that was found.

-- ---- names

-- names that are the same have the same parts
pub same_parts : (a b : PackageName) → same_package_name a b ≡ true → IsSameName a b
same_parts a b h = search std_rules

-- ---- the own package that was found

-- It stands at its number, and has the name.
pub record IsFound (name : PackageName) (own : List Package) (k : ℕ) : Type 0 where
  pub there : Package
  pub at_there : slice_get own k ≡ Some there
  pub same : same_package_name name there.name ≡ true

none_given : {A : Type 0} (id : PackageId) → ◌≡◌ {A = Option PackageId} None (Some id) → A
none_given id e = let wrong : ⊥ = cc in absurd wrong

found_from : (name : PackageName) (n : ℕ) (ps : List Package) (id : PackageId) → package_from name n ps ≡ Some id → (k : ℕ) × (id.0 ≡ n + k) × IsFound name ps k
found_from name n [] id e = none_given id e
found_from name n (p ∷ ps) id e = go (same_package_name name p.name) refl e (found_from name (n + 1) ps id)
  where
    go : (b : Bool) → same_package_name name p.name ≡ b → cond b (Some (record { 0 = n })) (package_from name (n + 1) ps) ≡ Some id
        → (package_from name (n + 1) ps ≡ Some id → (k : ℕ) × (id.0 ≡ (n + 1) + k) × IsFound name ps k) → (k : ℕ) × (id.0 ≡ n + k) × IsFound name (p ∷ ps) k
    go true q h more = (0, omega (arith, ap (λ (o : Option PackageId). unwrap_or (option_map (λ i. i.0) o) 0) h), record { there = p; at_there = refl; same = q })
    go false q h more =
        let r = more h in
        (suc r.0, (let far = r.1 in omega (arith, far)), record { there = r.2.there; at_there = r.2.at_there; same = r.2.same })

pub found_own : (own : List Package) (p : Package) (id : PackageId) → own_package_of own p ≡ Some id → IsFound p.name own id.0
found_own own p id e =
    let r = found_from p.name 0 own id e in
    subst (IsFound p.name own) (let far = r.1 in omega (arith, far)) r.2

-- ---- own packages, grown or not

-- one more that is of another package changes nothing
later : (n : Names) (ns : List Names) (k : ℕ) → (n.«package».0 == k) ≡ false → GainsNone ns k → GainsNone (n ∷ ns) k
later n ns k e none y g at same = search std_rules

-- the place of the names that a package gains, if it gains any
pub some_gains : (ns : List Names) (k : ℕ) → ((i : ℕ) × (g : Names) × (slice_get ns i ≡ Some g) × (g.«package».0 ≡ k)) ⊎ GainsNone ns k
some_gains [] k = inr (λ i g at same. let wrong : ⊥ = cc in wrong)
some_gains (n ∷ ns) k = go (n.«package».0 == k) refl (some_gains ns k)
  where
    go : (b : Bool) → (n.«package».0 == k) ≡ b → ((i : ℕ) × (g : Names) × (slice_get ns i ≡ Some g) × (g.«package».0 ≡ k)) ⊎ GainsNone ns k
        → ((i : ℕ) × (g : Names) × (slice_get (n ∷ ns) i ≡ Some g) × (g.«package».0 ≡ k)) ⊎ GainsNone (n ∷ ns) k
    go true e rest = inl (0, n, refl, equal n.«package».0 k e)
    go false e (inl found) = inl (suc found.0, found.1, found.2, found.3)
    go false e (inr none) = inr (later n ns k e none)

-- an own package keeps its name
pub grown_name : (ns : List Names) (own ps : List Package) → HaveGained ns own ps → (k : ℕ) (q : Package) → slice_get own k ≡ Some q → (x : Package) × (slice_get ps k ≡ Some x) × (x.name ≡ q.name)
grown_name ns own ps h k q at = go (some_gains ns k)
  where
    go : ((i : ℕ) × (g : Names) × (slice_get ns i ≡ Some g) × (g.«package».0 ≡ k)) ⊎ GainsNone ns k → (x : Package) × (slice_get ps k ≡ Some x) × (x.name ≡ q.name)
    go (inl found) = let x = h.gained found.0 found.1 q found.2 (ap (slice_get own) found.3 ∙ at) in (x.0, ap (slice_get ps) (sym found.3) ∙ x.1, x.2.name)
    go (inr none) = (q, h.others k none ∙ at, refl)

-- ---- packages of the other

-- whether a thing that isn't flagged was found: flags say of each whether it was
pub unflagged_found : (ms : List (Option PackageId)) (n : ℕ) → n < length ms → flag_under (map is_none ms) n ≡ false → (id : PackageId) × (slice_get ms n ≡ Some (Some id))
unflagged_found [] n l h = absurd (omega (arith, l))
unflagged_found (None ∷ ms) zero l h = no_true (sym h)
unflagged_found (Some id ∷ ms) zero l h = (id, refl)
unflagged_found (m ∷ ms) (suc n) l h = unflagged_found ms n (omega (arith, l)) h

pub found_number : (ms : List (Option PackageId)) (n : ℕ) (id : PackageId) → slice_get ms n ≡ Some (Some id) → number_under (map package_number ms) n ≡ id.0
found_number [] n id e = let wrong : ⊥ = cc in absurd wrong
found_number (m ∷ ms) zero id e = ap (λ (o : Option (Option PackageId)). package_number (unwrap_or o m)) e
found_number (m ∷ ms) (suc n) id e = found_number ms n id e

module _ (own other merged : Resolve) (c : Carried) (ms : List (Option PackageId)) (matched : ms ≡ map (own_package_of own.packages.items) other.packages.items)
    (flags : c.new_packages.items ≡ map is_none ms) (numbers : c.packages.items ≡ numbers_of (length own.packages.items) c.new_packages.items (map package_number ms)) (gains : List Names)
    (grown more : List Package) (gained : HaveGained gains own.packages.items grown) (copies : AllZip (IsPackageCarried c) (kept c.new_packages.items other.packages.items) more)
    (here : merged.packages.items ≡ grown ++ more) where
  long : length c.new_packages.items ≡ length (map package_number ms)
  long = ap length flags ∙ (length-map ms is_none ∙ sym (length-map ms package_number))

  -- A package that is new is copied.
  pub new_package : (n : ℕ) (p : Package) → package_at other n ≡ Some p → flag_under c.new_packages.items n ≡ true
      → IsKeptAt (IsPackageCarried c) p merged.packages.items (number_under c.packages.items n)
  new_package n p at set = kept_here (IsPackageCarried c) c.new_packages.items (map package_number ms) other.packages.items more copies long (length own.packages.items) grown [] (sym gained.count)
      c.packages.items numbers merged.packages.items (here ∙ ap (λ l. grown ++ l) (sym (append-nil more))) n p set at

  -- One that isn't has an own one of its name. So each stands under its new number.
  pub packages_hold : (n : ℕ) (p : Package) → package_at other n ≡ Some p → (image : Package) × (package_at merged (number_under c.packages.items n) ≡ Some image) × IsSameName p.name image.name
  packages_hold n p at =
      by_test (flag_under c.new_packages.items n) (λ set. let x = new_package n p at set in (x.image, x.at_image, x.is.name)) (λ bare.
      let inside : n < length ms = (let w = within_list other.packages.items n p at in let q = ap length matched ∙ length-map other.packages.items (own_package_of own.packages.items) in
      omega (arith, w, q)) in
      let id = unflagged_found ms n inside (ap (λ l. flag_under l n) (sym flags) ∙ bare) in
      let found = found_own own.packages.items p id.0 (some_same _ _ (sym (mapped_at (own_package_of own.packages.items) other.packages.items n p at)
      ∙ (ap (λ l. slice_get l n) (sym matched) ∙ id.1))) in
      let x = grown_name gains own.packages.items grown gained id.0.0 found.there found.at_there in
      let number : number_under c.packages.items n ≡ id.0.0 = ap (λ l. number_under l n) numbers
      ∙ (uncopied_under (length own.packages.items) c.new_packages.items (map package_number ms) n long bare ∙ found_number ms n id.0 id.1) in (
        x.0,
        ap (package_at merged) number ∙ (ap (λ l. slice_get l id.0.0) here ∙ front_at grown more id.0.0 x.0 x.1),
        subst (IsSameName p.name) (sym x.2) (same_parts p.name found.there.name found.same),
      ))

-- ---- A union that is added has both passes.

pub unions_have_the_first : UnionsHaveTheFirst
unions_have_the_first own other merged world other_world m w v added keys u a at all by_name same none = search std_rules

pub set_at : (ws more : List World) (n : ℕ) (w v : World) → slice_get ws n ≡ Some w → slice_get (slice_set ws n v ++ more) n ≡ Some v
set_at ws more n w v e = front_at (slice_set ws n v) more n v (set_here ws n v (within_list ws n w e))

-- and what the bound world gains
pub unions_have_the_second : UnionsHaveTheSecond
unfolding unions_have_the_first
unions_have_the_second own other merged world other_world m w v added keys u a at other_at agree all by_name same none = (
  unions_have_the_first own other merged world other_world m w v added keys u a at all by_name same none,
  record {
    own_at = at;
    other_at = other_at;
    agree = agree;
    copied_are = u.second.copied_are;
    interfaces_are = u.second.interfaces_are;
    all_types = added.types.items;
    types_copied = subst (λ (l : List TypeDef). AreCopied (length own.types.items) u.second.types other.types.items
        (bound_fates other world other_world w v u.second.copied u.second.interfaces (first_fates own other m.interfaces.items u.carried) u.types) l added.types.items) u.first.type_defs
        u.second.types_copied;
    types_here = a.types;
    all_interfaces = added.interfaces.items;
    inline_copied = u.second.inline_copied;
    interfaces_here = a.interfaces;
    new_imports = added.imports.entries;
    imports = u.second.imports;
    new_exports = added.exports.entries;
    exports = u.second.exports;
    image = (a.worlds w at).0;
    at_image = ap (λ l. slice_get l world) (a.worlds w at).2 ∙ set_at own.worlds.items added.worlds.items world w (a.worlds w at).0 at;
    gained = (a.worlds w at).1;
    names = subst (λ (l : List Names). AllZip (IsGained u.carried) (grown_packages u.carried.new_packages.items u.carried.packages.items other.packages.items) l) (sym u.second.names) u.first.names;
    others = λ n x there apart. ap (λ l. slice_get l n) (a.worlds w at).2
        ∙ (front_at (slice_set own.worlds.items world (a.worlds w at).0) added.worlds.items n x (set_there own.worlds.items world n (a.worlds w at).0 (differ n world apart) ∙ there));
  },
)
