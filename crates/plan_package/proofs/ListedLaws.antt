-- What is listed in a package.
use Rattle.std.proofs.Common.{rules as std_rules, ◌≡◌, refl, ap, subst, ◌∙◌, ℕ, zero, suc, ◌+◌, ◌<◌, arith, true, false, List, [], ◌∷◌, ◌++◌, map, Option, Some, slice_get}
use Rattle.std.proofs.{lemmas.Bool.eqb-true, ByRecursion.All-weaker as all_through, lemmas.Option.same_Some as same-some}
use Rattle.std.specs.List.{AllByRecursion}
use Rattle.wit_model.specs.{Text.Text, Uses.has}
use Rattle.read_rules.specs.declared.scopes.Scope.{Scope}
use Rattle.plan_meaning.specs.NumberedWorlds.{are_once}
use Rattle.plan_package.specs.Listed.{HomesAreListed, IsHomeAt, IsWorldAt, WorldsAreListed}
use Rattle.plan_package.specs.{WholeInterfaces.Home, WholePackages.entries_from, WholePackages.entry_of, WholePackages.numbered_labels}
use Rattle.base_lemmas.proofs.{Elements.all_at_too as all_at, Lists.none_there}

-- ---- entries whose numbers rise

abbrev Rising : List (Text × ℕ) → Type 0
Rising [] = Unit {0}
Rising (e ∷ es) = AllByRecursion (λ (f : Text × ℕ). e.1 < f.1) es × Rising es

rises : (es : List (Text × ℕ)) → Rising es → (i j : ℕ) (e f : Text × ℕ) → slice_get es i ≡ Some e → slice_get es j ≡ Some f → i < j → e.1 < f.1
rises [] r i j e f a b less = absurd (none_there i e a)
rises (x ∷ es) r zero zero e f a b less = absurd (omega (arith, less))
rises (x ∷ es) r zero (suc j) e f a b less = subst (λ (e : Text × ℕ). e.1 < f.1) (same-some x e a) (all_at (λ (f : Text × ℕ). x.1 < f.1) es r.0 j f b)
rises (x ∷ es) r (suc i) zero e f a b less = absurd (omega (arith, less))
rises (x ∷ es) r (suc i) (suc j) e f a b less = rises es r.1 i j e f a b (omega (arith, less))

not_in : (k : ℕ) (es : List (Text × ℕ)) → AllByRecursion (λ (f : Text × ℕ). k < f.1) es → has (map (λ (e : Text × ℕ). e.1) es) k ≡ false
not_in k [] all = refl
not_in k (f ∷ es) all = search (std_rules, eqb-true, not_in k es all.1)

once_rising : (es : List (Text × ℕ)) → Rising es → are_once (map (λ (e : Text × ℕ). e.1) es) ≡ true
once_rising [] r = refl
once_rising (e ∷ es) r = search (std_rules, not_in, once_rising es r.1)

-- ---- places

-- the entry is that of one of the places, the first of which has this number
record IsFrom (homes : ℕ → Option Home) (q n : ℕ) (ps : List ℕ) (e : Text × ℕ) : Type 0 where
  index : ℕ
  number : e.1 ≡ n + index
  place : ℕ
  there : slice_get ps index ≡ Some place
  home : homes place ≡ Some (q, e.0)

behind : (front rest : List (Text × ℕ)) (j : ℕ) (x : Text × ℕ) → slice_get rest j ≡ Some x → (k : ℕ) × (slice_get (front ++ rest) k ≡ Some x)
behind [] rest j x at = (j, at)
behind (y ∷ front) rest j x at = let later = behind front rest j x at in (suc later.0, later.1)

module _ (homes : ℕ → Option Home) (q : ℕ) where
  later : (n p : ℕ) (ps : List ℕ) (e : Text × ℕ) → IsFrom homes q (n + 1) ps e → IsFrom homes q n (p ∷ ps) e
  later n p ps e f = record { index = suc f.index; number = omega (arith, f.number); place = f.place; there = f.there; home = f.home }

  -- what holds of the entries of the other places, and of that of the first, if its home is in the package
  entry_too : (P : List (Text × ℕ) → Type 0) (n p : ℕ) (rest : List (Text × ℕ)) → P rest → ((name : Text) → homes p ≡ Some (q, name) → P ((name, n) ∷ rest)) → P (entry_of q n (homes p) ++ rest)
  entry_too P n p rest other own = search std_rules

  among : (n : ℕ) (ps : List ℕ) → AllByRecursion (IsFrom homes q n ps) (entries_from homes q n ps)
  among n [] = tt
  among n (p ∷ ps) =
      let rest = entries_from homes q (n + 1) ps in
      let others : AllByRecursion (IsFrom homes q n (p ∷ ps)) rest = all_through (IsFrom homes q (n + 1) ps) (IsFrom homes q n (p ∷ ps)) (later n p ps) rest (among (n + 1) ps) in
      entry_too (AllByRecursion (IsFrom homes q n (p ∷ ps))) n p rest others (λ name home. (record { index = 0; number = omega arith; place = p; there = refl; home = home }, others))

  rising : (n : ℕ) (ps : List ℕ) → Rising (entries_from homes q n ps)
  rising n [] = tt
  rising n (p ∷ ps) =
      let rest = entries_from homes q (n + 1) ps in
      entry_too Rising n p rest (rising (n + 1) ps) (λ name home. (
        (all_through (IsFrom homes q (n + 1) ps) (λ (f : Text × ℕ). n < f.1) (λ f from. omega (arith, from.number)) rest (among (n + 1) ps)),
        rising (n + 1) ps,
      ))

  stand : (n : ℕ) (ps : List ℕ) (i place : ℕ) (name : Text) → slice_get ps i ≡ Some place → homes place ≡ Some (q, name) → (j : ℕ) × (slice_get (entries_from homes q n ps) j ≡ Some (name, n + i))
  stand n [] i place name at home = absurd (none_there i place at)
  stand n (p ∷ ps) zero place name at home = search std_rules
  stand n (p ∷ ps) (suc i) place name at home =
      let found = stand (n + 1) ps i place name at home in
      behind (entry_of q n (homes p)) (entries_from homes q (n + 1) ps) found.0 (name, n + suc i) (found.1 ∙ ap (λ (m : ℕ). Some (name, m)) (omega arith))

pub homes_are_listed : HomesAreListed
homes_are_listed homes q places = record {
  among = all_through (IsFrom homes q 0 places) (IsHomeAt homes q places) there (entries_from homes q 0 places) (among homes q 0 places);
  stand = λ n place name at home. let found = stand homes q 0 places n place name at home in let number : 0 + n ≡ n = omega arith in (found.0, found.1 ∙ ap (λ (m : ℕ). Some (name, m)) number);
  rise = rises (entries_from homes q 0 places) (rising homes q 0 places);
  once = once_rising (entries_from homes q 0 places) (rising homes q 0 places);
}
  where
    there : (e : Text × ℕ) → IsFrom homes q 0 places e → IsHomeAt homes q places e
    there e f = let number : f.index ≡ e.1 = omega (arith, f.number) in record { place = f.place; there = subst (λ (k : ℕ). slice_get places k ≡ Some f.place) number f.there; home = f.home }

-- ---- worlds

-- the entry is that of one of the worlds, the first of which has this number
record IsWorldFrom (n : ℕ) (ws : List (Text × Scope)) (e : Text × ℕ) : Type 0 where
  index : ℕ
  number : e.1 ≡ n + index
  world : Text × Scope
  there : slice_get ws index ≡ Some world
  name : e.0 ≡ world.0

labels_among : (n : ℕ) (ws : List (Text × Scope)) → AllByRecursion (IsWorldFrom n ws) (numbered_labels n ws)
labels_among n [] = tt
labels_among n (w ∷ ws) = (
  record { index = 0; number = omega arith; world = w; there = refl; name = refl },
  all_through (IsWorldFrom (n + 1) ws) (IsWorldFrom n (w ∷ ws)) (λ e f. record { index = suc f.index; number = omega (arith, f.number); world = f.world; there = f.there; name = f.name })
      (numbered_labels (n + 1) ws) (labels_among (n + 1) ws),
)

labels_named : (n : ℕ) (ws : List (Text × Scope)) → map (λ (e : Text × ℕ). e.0) (numbered_labels n ws) ≡ map (λ (w : Text × Scope). w.0) ws
labels_named n [] = refl
labels_named n (w ∷ ws) = ap (λ l. w.0 ∷ l) (labels_named (n + 1) ws)

labels_stand : (n : ℕ) (ws : List (Text × Scope)) (i : ℕ) (w : Text × Scope) → slice_get ws i ≡ Some w → slice_get (numbered_labels n ws) i ≡ Some (w.0, n + i)
labels_stand n [] i w at = absurd (none_there i w at)
labels_stand n (x ∷ ws) zero w at = let number : n ≡ n + 0 = omega arith in let name : x.0 ≡ w.0 = ap (λ (w : Text × Scope). w.0) (same-some x w at) in λ i. Some (name i, number i)
labels_stand n (x ∷ ws) (suc i) w at = let number : n + 1 + i ≡ n + suc i = omega arith in labels_stand (n + 1) ws i w at ∙ ap (λ (m : ℕ). Some (w.0, m)) number

pub worlds_are_listed : WorldsAreListed
worlds_are_listed ws = record {
  among = all_through (IsWorldFrom 0 ws) (IsWorldAt ws) there (numbered_labels 0 ws) (labels_among 0 ws);
  names = labels_named 0 ws;
  stand = λ n w at. let number : 0 + n ≡ n = omega arith in labels_stand 0 ws n w at ∙ ap (λ (m : ℕ). Some (w.0, m)) number;
}
  where
    there : (e : Text × ℕ) → IsWorldFrom 0 ws e → IsWorldAt ws e
    there e f = let number : f.index ≡ e.1 = omega (arith, f.number) in record { world = f.world; there = subst (λ (k : ℕ). slice_get ws k ≡ Some f.world) number f.there; name = f.name }
