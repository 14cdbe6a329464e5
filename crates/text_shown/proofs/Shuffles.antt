-- Lists that have the same entries in some order. Serves Interfaces.
use Rattle.std.proofs.Common.{◌≡◌, refl, sym, ap, subst, ◌∙◌, ℕ, zero, suc, ◌+◌, ◌<◌, List, [], ◌∷◌, ◌++◌, append_assoc, flat_map, length, Some, slice_get}
use Rattle.std.proofs.Common.{arith, inl, inr}
use Rattle.std.proofs.lemmas.{Grind.flat_map-append}
use Rattle.std.specs.Prelude.{◌⊎◌, Contains}
use Rattle.text_types.specs.Each.{EachIs}
use Rattle.wit_model.proofs.Elements.{contains-get}
use Rattle.base_lemmas.proofs.{Elements.contains-later, Elements.get-contains, Lists.none_there}
use Rattle.text_shown.specs.Same.{Matched, Shuffled}
use Rattle.text_plain.specs.Orders.{AreApart}

-- ---- in the one order or in the other

put_in : {X : Type 0} (x : X) (before behind : List X) {ys : List X} → Shuffled (before ++ behind) ys → Shuffled (before ++ x ∷ behind) (x ∷ ys)
put_in x [] behind k = Matched.one_more [] _ refl k
put_in x (y ∷ before) behind (Matched.one_more {y = z} front rest same k) = Matched.one_more (x ∷ front) rest same (put_in x before behind k)

-- What is in some order the other list is it the other way too.
pub turned : {X : Type 0} {xs ys : List X} → Shuffled xs ys → Shuffled ys xs
turned Matched.no_more = Matched.no_more
turned (Matched.one_more {x = x} {y = y} {xs = xs} before behind same k) =
    subst (λ z. Shuffled (before ++ y ∷ behind) (z ∷ xs)) (sym same) (put_in y before behind (turned k))

-- ---- numbers of which none stands twice

-- None of these is the number.
abbrev pub Lacks : ℕ → List ℕ → Type 0
Lacks n ns = (m : ℕ) → Contains ns m → m ≡ n → ⊥

pub apart_rest : (n : ℕ) (ns : List ℕ) → AreApart (n ∷ ns) → AreApart ns
apart_rest n ns apart i j m at also = let e : suc i ≡ suc j = apart (suc i) (suc j) m at also in omega arith

first_alone : (n : ℕ) (ns : List ℕ) → AreApart (n ∷ ns) → Lacks n ns
first_alone n ns apart m has e =
    let place = contains-get ns m has in
    let wrong : 0 ≡ suc place.0 = apart 0 (suc place.0) n refl (place.1 ∙ ap Some e) in
    omega arith

-- Each is met once.
abbrev pub AreOnce : List ℕ → Type 0
AreOnce [] = Unit {0}
AreOnce (n ∷ ns) = Lacks n ns × AreOnce ns

pub once : (ns : List ℕ) → AreApart ns → AreOnce ns
once [] apart = tt
once (n ∷ ns) apart = (first_alone n ns apart, once ns (apart_rest n ns apart))

first_or : (n m : ℕ) (ns : List ℕ) → Contains (n ∷ ns) m → (n ≡ m) ⊎ Contains ns m
first_or n m ns (zero, within, e) = inl e
first_or n m ns (suc k, within, e) = inr (k, omega arith, e)

-- ---- entries that belong to each other, of which one is taken out

-- Two lists, cut where this entry of the first stands.
pub record IsCut {Y : Type 0} (Is : ℕ → Y → Type 0) (n : ℕ) (ns : List ℕ) (ys : List Y) : Type 0 where
  pub y : Y
  pub is : Is n y
  pub rest : List ℕ
  pub front : List Y
  pub behind : List Y
  pub ends : ys ≡ front ++ y ∷ behind
  pub each : EachIs Is rest (front ++ behind)
  pub within : (m : ℕ) → Contains rest m → Contains ns m
  pub others : (m : ℕ) → Contains ns m → (m ≡ n → ⊥) → Contains rest m
  pub apart : AreOnce ns → AreOnce rest × Lacks n rest

pub cut_at : {Y : Type 0} {Is : ℕ → Y → Type 0} (ns : List ℕ) (ys : List Y) (place n : ℕ) → EachIs Is ns ys → slice_get ns place ≡ Some n → IsCut Is n ns ys
cut_at ns ys place n EachIs.no_more at = absurd cc
cut_at {Is = Is} ns ys zero n (EachIs.one_more {x = m} {y = y} {xs = more} {ys = behind} k ks) at =
    let same : m ≡ n = cc in
    record {
      y = y;
      is = subst (λ q. Is q y) same k;
      rest = more;
      front = [];
      behind = behind;
      ends = refl;
      each = ks;
      within = λ q has. contains-later m more q has;
      others = λ q has other. elim (first_or m q more has) [ inl e ↦ absurd (other (sym e ∙ same)) | inr h ↦ h ];
      apart = λ alone. (alone.1, λ q has e. alone.0 q has (e ∙ sym same));
    }
cut_at ns ys (suc place) n (EachIs.one_more {x = m} {y = y} {xs = more} {ys = later} k ks) at =
    let c = cut_at more later place n ks at in
    record {
      y = c.y;
      is = c.is;
      rest = m ∷ c.rest;
      front = y ∷ c.front;
      behind = c.behind;
      ends = ap (λ zs. y ∷ zs) c.ends;
      each = EachIs.one_more k c.each;
      within = λ q has. elim (first_or m q c.rest has) [ inl e ↦ (0, omega arith, e) | inr h ↦ contains-later m more q (c.within q h) ];
      others = λ q has other. elim (first_or m q more has) [ inl e ↦ (0, omega arith, e) | inr h ↦ contains-later m c.rest q (c.others q h other) ];
      apart = λ alone. let further = c.apart alone.1 in (
        (λ q has e. alone.0 q (c.within q has) e, further.0),
        λ q has e. elim (first_or m q c.rest has) [ inl h ↦ alone.0 n (get-contains more place n at) (sym e ∙ sym h) | inr h ↦ further.1 q h e ],
      );
    }

pub each_kept : {X Y : Type 0} {A B : X → Y → Type 0} (xs : List X) → ((x : X) (y : Y) → Contains xs x → A x y → B x y) → {ys : List Y}
    → EachIs A xs ys → EachIs B xs ys
each_kept xs kept EachIs.no_more = EachIs.no_more
each_kept xs kept (EachIs.one_more {x = x} {y = y} {xs = more} k ks) =
    EachIs.one_more (kept x y (0, omega arith, refl) k) (each_kept more (λ z w has. kept z w (let (j, within, e) = has in (suc j, omega arith, e))) ks)

-- ---- lists that are told apart

module _ {Z : Type 0} (z : Z) (p q u v : List Z) {zs : List Z} (k : Shuffled zs ((p ++ q) ++ (u ++ v))) where
  placed_first : Shuffled (z ∷ zs) ((p ++ (z ∷ q)) ++ (u ++ v))
  placed_first = subst (Shuffled (z ∷ zs)) (sym (append_assoc p (z ∷ q) (u ++ v)))
      (Matched.one_more p (q ++ (u ++ v)) refl (subst (Shuffled zs) (append_assoc p q (u ++ v)) k))

  placed_second : Shuffled (z ∷ zs) ((p ++ q) ++ (u ++ (z ∷ v)))
  placed_second = subst (Shuffled (z ∷ zs)) (append_assoc (p ++ q) u (z ∷ v))
      (Matched.one_more ((p ++ q) ++ u) v refl (subst (Shuffled zs) (sym (append_assoc (p ++ q) u v)) k))

module _ {X Y Z : Type 0} (whole : X → List Z) (first second : Y → List Z) where
  -- One entry is shown: among the first, or among the second.
  pub data IsSplit (x : X) (y : Y) : Type 0 where
    by_first : {z : Z} → whole x ≡ z ∷ [] → first y ≡ z ∷ [] → second y ≡ [] → IsSplit x y
    by_second : {z : Z} → whole x ≡ z ∷ [] → first y ≡ [] → second y ≡ z ∷ [] → IsSplit x y

  -- The one at this place, where the list begins at another, is shown so.
  pub record SplitAt (from : ℕ) (xs : List X) (n : ℕ) (y : Y) : Type 0 where
    pub place : ℕ
    pub number : n ≡ from + place
    pub x : X
    pub there : slice_get xs place ≡ Some x
    pub split : IsSplit x y

  next_split : (from : ℕ) (x : X) (xs : List X) (n : ℕ) (y : Y) → (n ≡ from + 0 → ⊥) → SplitAt from (x ∷ xs) n y → SplitAt (from + 1) xs n y
  next_split from x xs n y other k = go k.place k.number k.there
    where
      go : (place : ℕ) → n ≡ from + place → slice_get (x ∷ xs) place ≡ Some k.x → SplitAt (from + 1) xs n y
      go zero e at = absurd (other e)
      go (suc place) e at = record { place = place; number = omega arith; x = k.x; there = at; split = k.split }

  here_split : (from : ℕ) (x : X) (xs : List X) (y : Y) → SplitAt from (x ∷ xs) (from + 0) y → IsSplit x y
  here_split from x xs y k = go k.place (let e = k.number in omega arith) k.there
    where
      go : (place : ℕ) → place ≡ 0 → slice_get (x ∷ xs) place ≡ Some k.x → IsSplit x y
      go zero e at = let same : x ≡ k.x = cc in subst (λ w. IsSplit w y) (sym same) k.split
      go (suc place) e at = absurd (omega arith)

  -- two lists of the joined entries
  joined : (front behind : List Y) → flat_map first (front ++ behind) ++ flat_map second (front ++ behind)
      ≡ (flat_map first front ++ flat_map first behind) ++ (flat_map second front ++ flat_map second behind)
  joined front behind = λ i. flat_map-append first front behind i ++ flat_map-append second front behind i

  one_more_split : (x : X) (xs : List X) (y : Y) (front behind : List Y) → IsSplit x y
      → Shuffled (flat_map whole xs) (flat_map first (front ++ behind) ++ flat_map second (front ++ behind))
      → Shuffled (flat_map whole (x ∷ xs)) (flat_map first (front ++ y ∷ behind) ++ flat_map second (front ++ y ∷ behind))
  one_more_split x xs y front behind split k = subst (Shuffled (flat_map whole (x ∷ xs))) (sym (joined front (y ∷ behind))) (go split)
    where
      before : Shuffled (flat_map whole xs) ((flat_map first front ++ flat_map first behind) ++ (flat_map second front ++ flat_map second behind))
      before = subst (Shuffled (flat_map whole xs)) (joined front behind) k

      parts : List Z → List Z → List Z
      parts a b = (flat_map first front ++ (a ++ flat_map first behind)) ++ (flat_map second front ++ (b ++ flat_map second behind))

      go : IsSplit x y → Shuffled (whole x ++ flat_map whole xs) (parts (first y) (second y))
      go (IsSplit.by_first {z = z} a b c) = subst (λ w. Shuffled (w ++ flat_map whole xs) (parts (first y) (second y))) (sym a)
          (subst (Shuffled (z ∷ flat_map whole xs)) (λ i. parts (sym b i) (sym c i))
          (placed_first z (flat_map first front) (flat_map first behind) (flat_map second front) (flat_map second behind) before))
      go (IsSplit.by_second {z = z} a b c) = subst (λ w. Shuffled (w ++ flat_map whole xs) (parts (first y) (second y))) (sym a)
          (subst (Shuffled (z ∷ flat_map whole xs)) (λ i. parts (sym b i) (sym c i))
          (placed_second z (flat_map first front) (flat_map first behind) (flat_map second front) (flat_map second behind) before))

  split_from : (from : ℕ) (xs : List X) (ns : List ℕ) (ys : List Y) → EachIs (SplitAt from xs) ns ys → AreOnce ns
      → ((place : ℕ) → place < length xs → Contains ns (from + place))
      → Shuffled (flat_map whole xs) (flat_map first ys ++ flat_map second ys)
  split_from from [] ns ys EachIs.no_more alone all = Matched.no_more
  split_from from [] ns ys (EachIs.one_more k ks) alone all = absurd (none_there k.place k.x k.there)
  split_from from (x ∷ xs) ns ys each alone all =
      let has = contains-get ns (from + 0) (all 0 (omega arith)) in
      let c = cut_at ns ys has.0 (from + 0) each has.1 in
      let apart = c.apart alone in
      let rest : EachIs (SplitAt (from + 1) xs) c.rest (c.front ++ c.behind) =
      each_kept c.rest (λ n y there k. next_split from x xs n y (apart.1 n there) k) c.each in
      let others : (place : ℕ) → place < length xs → Contains c.rest ((from + 1) + place) =
      λ place within. let number : from + suc place ≡ (from + 1) + place =
      omega arith in subst (Contains c.rest) number (c.others (from + suc place) (all (suc place) (omega arith)) (λ e. omega arith)) in
      subst (λ zs. Shuffled (flat_map whole (x ∷ xs)) (flat_map first zs ++ flat_map second zs)) (sym c.ends)
      (one_more_split x xs c.y c.front c.behind (here_split from x xs c.y c.is) (split_from (from + 1) xs c.rest (c.front ++ c.behind) rest apart.0 others))

  -- A split entry stands at its place.
  pub split_at : (xs : List X) (n : ℕ) (y : Y) (x : X) → slice_get xs n ≡ Some x → IsSplit x y → SplitAt 0 xs n y
  split_at xs n y x at k = record { place = n; number = omega arith; x = x; there = at; split = k }

  -- What is in some order is shown in some order, the first and then the second.
  pub shown_in_order : (xs : List X) (ns : List ℕ) (ys : List Y) → EachIs (SplitAt 0 xs) ns ys → AreApart ns → ((n : ℕ) → n < length xs → Contains ns n)
      → Shuffled (flat_map first ys ++ flat_map second ys) (flat_map whole xs)
  shown_in_order xs ns ys each apart all =
      turned (split_from 0 xs ns ys each (once ns apart) (λ n within. let same : n ≡ 0 + n = omega arith in subst (Contains ns) same (all n within)))
