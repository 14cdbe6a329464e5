-- Types are numbered in the order of the interfaces that show them.
use Rattle.std.proofs.Common.{◌≡◌, refl, sym, ap, subst, ◌∙◌, ℕ, zero, suc, ◌<◌, ◌≤◌, ◌⊎◌, inl, inr, arith, Bool, true, false, cond, List, [], ◌∷◌, ◌++◌, append_assoc, length, length-append, Some, slice_get, rules as std_rules, ◌+◌, nat_lt, map, Option}
use Rattle.std.proofs.lemmas.{Bool.cases_lt, Bool.and_from as both, Bool.lt-ltb, Option.same_Some as same-some}
use Rattle.std.proofs.lemmas.{List.append-nil, List.Elements.Contains-append_cases, List.Elements.Contains-append_left, List.Elements.Contains-append_right}
use Rattle.std.specs.List.{Contains, flat_map, AllByRecursion, AllZip, list_all}
use Rattle.wit_model.specs.{Uses.has, Uses.once, Text.Text}
use Rattle.wit_model.proofs.Elements.{contains-flat, contains-has, has-contains, none-in, contains-get}
use Rattle.plan_laws.proofs.{MetNames.flat_cases, ViewsAgree.first_is}
use Rattle.plan_types.specs.Orders.{joined, joined_all, places_of_part}
use Rattle.comp_read.proofs.{ShownOrder.joined_behind, ShownOrder.part_paths, OwnViews.view_among}
use Rattle.comp_read.proofs.{Inputs.read_members_are_in, Inputs.instance_of_any, ShownScopes.scope_under, ShownScopes.scope_in, ShownScopes.scope_places}
use Rattle.comp_read.proofs.Members.{instance_placed, same_numbers, told_same, instance_shown, placed, tables}
use Rattle.base_lemmas.proofs.Elements.{contains-later, contains-one, first-contained, get-contains, last_of, all-contained, all_at, all_both, all_pass, contains-map, map_from, zip_at, zip_at_right, zip_each, zip_map}
use Rattle.base_lemmas.proofs.Lists.{last_or, flat_mapped, get_back, mapped_get, one_item}
use Rattle.base_lemmas.proofs.Bools.{left_of as first_true, right_of as second_true}
use Rattle.comp_bytes.specs.Levels.{Piece}
use Rattle.plan_meaning.specs.{FollowedNumbers.IsPartIn, FollowedNumbers.IsViewIn, NumberedRules.Fact}
use Rattle.plan_meaning.specs.{Renumbering.IsPart, PlanRules.are_rising, NumberedMembers.Homes, NumberedMembers.IsMember, NumberedMembers.NumberedMember}
use Rattle.plan_meaning.specs.{NumberedWorlds.HasPath, NumberedWorlds.NumberedInstance, NumberedWorlds.NumberedScope, Plan.PlannedInterface, Plan.numbers_of}
use Rattle.plan_meaning.specs.NumberedViews.{NumberedSight, NumberedSlot, NumberedType, NumberedView, Tables, first_at, path_at}
use Rattle.plan_parts.specs.{Interfaces.slot_part, Kept.AreMarked}
use Rattle.plan_package.specs.{Views.views_of_members, Views.views_of_part, WholeInterfaces.Home, WholeInterfaces.ListsNumber, WholeInterfaces.PlansPlace}
use Rattle.plan_laws.specs.OneWorld.{AreOwnInterfaces}
use Rattle.read_exports.specs.Members.{numbered_member, numbered_members, numbered_part}
use Rattle.read_exports.specs.declared.members.{Member.Member, Part.Part}
use Rattle.read_rules.specs.Scopes.{numbered_scope}
use Rattle.read_rules.specs.declared.scopes.Scope.{Scope}
use Rattle.read_members.specs.PartMembers.{IsMemberOf, IsPartOf}
use Rattle.read_parts.specs.declared.{following.Followed.Followed, members.FollowedPart.FollowedPart, members.Member.Member as FollowedMember}
use Rattle.read_parts.specs.Members.{scope_of}
use Rattle.read_numbers.specs.{NumberedInput.tables_of, NumberedParts.numbered_scope as followed_scope}
use Rattle.read_numbers.specs.PlacedNumbers.{part_of, IsFirstSeen, IsInstanceAt, IsNumbered, scopes_in}
use Rattle.comp_read.specs.ReadInput.{IsReadInput, ViewsObey}
use Rattle.comp_meaning.specs.Reads as reads
use Rattle.read_exports.specs.declared.members.Part.TheVariants as parts
use Rattle.read_parts.specs.declared.members.FollowedPart.TheVariants as followed

-- ---- Numbers each of which stands behind all smaller ones: each once, they count up.

-- ---- behind all smaller ones

-- an earlier number than the one here is this
abbrev pub IsBefore : List ℕ → ℕ → ℕ → Type 0
IsBefore ns j c = (i : ℕ) × (i < j) × (slice_get ns i ≡ Some c)

-- numbers of several items: one of an earlier item, or an earlier one of the same item
pub data IsBeforeIn {A : Type 0} (f : A → List ℕ) (xs : List A) (m j c : ℕ) : Type 0 where
  in_earlier : (k : ℕ) (y : A) → k < m → slice_get xs k ≡ Some y → Contains (f y) c → IsBeforeIn f xs m j c
  in_same : (l : ℕ) (y : A) → l < j → slice_get xs m ≡ Some y → slice_get (f y) l ≡ Some c → IsBeforeIn f xs m j c

module _ (P : ℕ → Type 0) where
  -- each number stands behind all smaller ones of this kind, which these in front begin
  abbrev pub StandBehind : List ℕ → List ℕ → Type 0
  StandBehind front [] = Unit {0}
  StandBehind front (n ∷ ns) = ((c : ℕ) → c < n → P c → Contains front c) × StandBehind (front ++ n ∷ []) ns

  pub behind_both : (front ns ms : List ℕ) → StandBehind front ns → StandBehind (front ++ ns) ms → StandBehind front (ns ++ ms)
  behind_both front [] ms first rest = subst (λ (zs : List ℕ). StandBehind zs ms) (append-nil front) rest
  behind_both front (n ∷ ns) ms first rest = (first.0, behind_both (front ++ n ∷ []) ns ms first.1 (subst (λ (zs : List ℕ). StandBehind zs ms) (sym (append_assoc front (n ∷ []) ns)) rest))

  pub behind_wider : (front wide : List ℕ) → ((c : ℕ) → Contains front c → Contains wide c) → (ns : List ℕ) → StandBehind front ns → StandBehind wide ns
  behind_wider front wide all [] is = tt
  behind_wider front wide all (n ∷ ns) is = ((λ c less p. all c (is.0 c less p)), behind_wider (front ++ n ∷ []) (wide ++ n ∷ []) more ns is.1)
    where
      more : (c : ℕ) → Contains (front ++ n ∷ []) c → Contains (wide ++ n ∷ []) c
      more c d = elim (Contains-append_cases front (n ∷ []) c d) [ inl e ↦ Contains-append_left wide (n ∷ []) c (all c e) | inr e ↦ Contains-append_right wide (n ∷ []) c e ]

  -- by where each stands
  pub behind_numbered : (front ns : List ℕ) → ((j n : ℕ) → slice_get ns j ≡ Some n → (c : ℕ) → c < n → P c → Contains front c ⊎ IsBefore ns j c) → StandBehind front ns
  behind_numbered front [] given = tt
  behind_numbered front (n ∷ ns) given = (here, behind_numbered (front ++ n ∷ []) ns later)
    where
      first : (c : ℕ) → Contains front c ⊎ IsBefore (n ∷ ns) zero c → Contains front c
      first c (inl there) = there
      first c (inr (i, low, e)) = absurd (omega (arith, low))

      here : (c : ℕ) → c < n → P c → Contains front c
      here c less p = first c (given zero n refl c less p)

      next : (j c : ℕ) → Contains front c ⊎ IsBefore (n ∷ ns) (suc j) c → Contains (front ++ n ∷ []) c ⊎ IsBefore ns j c
      next j c (inl there) = inl (Contains-append_left front (n ∷ []) c there)
      next j c (inr (zero, low, e)) = inl (subst (Contains (front ++ n ∷ [])) (same-some n c e) (Contains-append_right front (n ∷ []) n (contains-one n)))
      next j c (inr (suc i, low, e)) = inr (i, omega (arith, low), e)

      later : (j m : ℕ) → slice_get ns j ≡ Some m → (c : ℕ) → c < m → P c → Contains (front ++ n ∷ []) c ⊎ IsBefore ns j c
      later j m at c less p = next j c (given (suc j) m at c less p)

  pub behind_flat : {A : Type 0} (f : A → List ℕ) (front : List ℕ) (xs : List A)
      → ((m : ℕ) (x : A) → slice_get xs m ≡ Some x → (j n : ℕ) → slice_get (f x) j ≡ Some n → (c : ℕ) → c < n → P c → Contains front c ⊎ IsBeforeIn f xs m j c) → StandBehind front (flat_map f xs)
  behind_flat f front [] given = tt
  behind_flat {A = A} f front (x ∷ xs) given = behind_both front (f x) (flat_map f xs) (behind_numbered front (f x) here) (behind_flat f (front ++ f x) xs later)
    where
      first : (j c : ℕ) → Contains front c ⊎ IsBeforeIn f (x ∷ xs) zero j c → Contains front c ⊎ IsBefore (f x) j c
      first j c (inl there) = inl there
      first j c (inr (in_earlier k y low e there)) = absurd (omega (arith, low))
      first j c (inr (in_same l y low e there)) = inr (l, low, subst (λ (z : A). slice_get (f z) l ≡ Some c) (sym (same-some x y e)) there)

      here : (j n : ℕ) → slice_get (f x) j ≡ Some n → (c : ℕ) → c < n → P c → Contains front c ⊎ IsBefore (f x) j c
      here j n at c less p = first j c (given zero x refl j n at c less p)

      next : (m j c : ℕ) → Contains front c ⊎ IsBeforeIn f (x ∷ xs) (suc m) j c → Contains (front ++ f x) c ⊎ IsBeforeIn f xs m j c
      next m j c (inl there) = inl (Contains-append_left front (f x) c there)
      next m j c (inr (in_earlier zero y low e there)) = inl (Contains-append_right front (f x) c (subst (λ (z : A). Contains (f z) c) (sym (same-some x y e)) there))
      next m j c (inr (in_earlier (suc k) y low e there)) = inr (in_earlier k y (omega (arith, low)) e there)
      next m j c (inr (in_same l y low e there)) = inr (in_same l y low e there)

      later : (m : ℕ) (y : A) → slice_get xs m ≡ Some y → (j n : ℕ) → slice_get (f y) j ≡ Some n → (c : ℕ) → c < n → P c → Contains (front ++ f x) c ⊎ IsBeforeIn f xs m j c
      later m y at j n there c less p = next m j c (given (suc m) y at j n there c less p)

-- every number
abbrev pub Any : ℕ → Type 0
Any n = Unit {0}

-- ---- numbers of numbers

-- one that is smaller is that of a smaller number of this kind
pub record IsOfSmaller (P : ℕ → Type 0) (g : ℕ → List ℕ) (n c : ℕ) : Type 0 where
  pub one : ℕ
  pub less : one < n
  pub kind : P one
  pub there : Contains (g one) c

pub behind_mapped : (P : ℕ → Type 0) (g : ℕ → List ℕ) → ((n d : ℕ) → Contains (g n) d → (c : ℕ) → c < d → IsOfSmaller P g n c) → (front ns : List ℕ) → StandBehind P front ns
    → StandBehind Any (flat_map g front) (flat_map g ns)
behind_mapped P g given front [] is = tt
behind_mapped P g given front (n ∷ ns) is = behind_both Any (flat_map g front) (g n) (flat_map g ns) (behind_numbered Any (flat_map g front) (g n) here)
    (behind_wider Any (flat_map g (front ++ n ∷ [])) (flat_map g front ++ g n) wider (flat_map g ns) (behind_mapped P g given (front ++ n ∷ []) ns is.1))
  where
    here : (j d : ℕ) → slice_get (g n) j ≡ Some d → (c : ℕ) → c < d → Any c → Contains (flat_map g front) c ⊎ IsBefore (g n) j c
    here j d at c less p =
        let s = given n d (get-contains (g n) j d at) c less in
        inl (contains-flat g front s.one c (is.0 s.one s.less s.kind) s.there)

    wider : (c : ℕ) → Contains (flat_map g (front ++ n ∷ [])) c → Contains (flat_map g front ++ g n) c
    wider c d =
        let from = flat_cases g (front ++ n ∷ []) c d in
        elim (Contains-append_cases front (n ∷ []) from.0 from.1) [
          | inl e ↦ Contains-append_left (flat_map g front) (g n) c (contains-flat g front from.0 c e from.2)
          | inr e ↦ Contains-append_right (flat_map g front) (g n) c (subst (λ (k : ℕ). Contains (g k) c) (sym (last_of n from.0 e)) from.2)
        ]

-- all that are smaller than one of these stand in front of them all
pub behind_low : (front ns : List ℕ) → ((n : ℕ) → Contains ns n → (c : ℕ) → c < n → Contains front c) → StandBehind Any front ns
behind_low front [] low = tt
behind_low front (n ∷ ns) low = ((λ c less p. low n (first-contained n ns) c less), behind_low (front ++ n ∷ []) ns (λ m d c less. Contains-append_left _ _ c (low m (contains-later n ns m d) c less)))

-- ---- all numbers below one

abbrev pub below : ℕ → List ℕ
below zero = []
below (suc n) = below n ++ n ∷ []

pub below_long : (n : ℕ) → length (below n) ≡ n
below_long zero = refl
below_long (suc n) = let long = length-append (below n) (n ∷ []) in let rest = below_long n in omega (arith, long, rest)

pub below_at : (n k m : ℕ) → slice_get (below n) k ≡ Some m → (m ≡ k) × (m < n)
below_at zero k m e = absurd cc
below_at (suc n) k m e = elim (last_or (below n) n k m e) [
  | inl h ↦ (let rest = below_at n k m h.1 in (rest.0, (let low = rest.1 in omega (arith, low))))
  | inr h ↦ (let long = below_long n in let at = h.0 in let same = h.1 in (omega (arith, long, at, same), omega (arith, same)))
]

below_has : (n k : ℕ) → k < n → Contains (below n) k
below_has zero k low = absurd (omega (arith, low))
below_has (suc n) k low = elim (cases_lt k n) [
  | inl less ↦ Contains-append_left (below n) (n ∷ []) k (below_has n k less)
  | inr past ↦ (let same : n ≡ k = omega (arith, low, past) in subst (Contains (below n ++ n ∷ [])) same (Contains-append_right (below n) (n ∷ []) n (contains-one n)))
]

pub has_below : (n k : ℕ) → Contains (below n) k → k < n
has_below zero k c = none-in k c
has_below (suc n) k c = elim (Contains-append_cases (below n) (n ∷ []) k c) [ inl d ↦ (let low = has_below n k d in omega (arith, low)) | inr d ↦ (let same = last_of n k d in omega (arith, same)) ]

module _ (many : ℕ) where
  -- these numbers count on from this one, where all in front are smaller
  abbrev CountOn : List ℕ → Type 0
  CountOn ns =
      (k : ℕ) → k ≤ many → (front : List ℕ) → ((c : ℕ) → Contains front c → c < k) → StandBehind Any front ns → ((c : ℕ) → c < many → (c < k) ⊎ Contains ns c) → joined_all (below k) ns ≡ below many

  joined_below : (ns : List ℕ) → ((n : ℕ) → Contains ns n → n < many) → CountOn ns
  joined_below [] within k fits front low is all =
      let same : k ≡ many = elim (cases_lt k many) [ inl more ↦ absurd (elim (all k more) [ inl less ↦ omega (arith, less) | inr c ↦ none-in k c ]) | inr past ↦ omega (arith, fits, past) ] in
      ap below same
  joined_below (n ∷ ns) within k fits front low is all = by (joined_below ns (λ m c. within m (contains-later n ns m c)))
    where
      inside : n < many
      inside = within n (first-contained n ns)

      left : (wide : ℕ) → (n < wide) → k ≤ wide → (c : ℕ) → c < many → (c < wide) ⊎ Contains ns c
      left wide one grows c less = by (all c less)
        where
          inner : Contains (n ∷ ns) c → (c < wide) ⊎ Contains ns c
          inner (zero, here, e) = inl (subst (λ (m : ℕ). m < wide) e one)
          inner (suc i, here, e) = inr (i, omega (arith, here), e)

          by : (c < k) ⊎ Contains (n ∷ ns) c → (c < wide) ⊎ Contains ns c
          by (inl before) = inl (omega (arith, before, grows))
          by (inr c) = inner c

      front_low : (wide : ℕ) → (n < wide) → k ≤ wide → (c : ℕ) → Contains (front ++ n ∷ []) c → c < wide
      front_low wide one grows c d = elim (Contains-append_cases front (n ∷ []) c d) [
        | inl e ↦ (let before = low c e in omega (arith, before, grows))
        | inr e ↦ (let same = last_of n c e in omega (arith, same, one))
      ]

      known : CountOn ns → n < k → joined_all (joined (below k) n) ns ≡ below many
      known on old = ap (λ (b : Bool). joined_all (cond b (below k) (below k ++ n ∷ [])) ns) (contains-has (below k) n (below_has k n old))
          ∙ on k fits (front ++ n ∷ []) (front_low k old (omega arith)) is.1 (left k old (omega arith))

      absent : k ≤ n → (b : Bool) → has (below k) n ≡ b → b ≡ false
      absent past false e = refl
      absent past true e = let low = has_below k n (has-contains (below k) n e) in absurd (omega (arith, low, past))

      fresh : CountOn ns → k ≤ n → joined_all (joined (below k) n) ns ≡ below many
      fresh on past =
          let same : n ≡ k = elim (cases_lt k n) [ inl more ↦ absurd (let wrong = low k (is.0 k more tt) in omega (arith, wrong)) | inr le ↦ omega (arith, le, past) ] in
          ap (λ (b : Bool). joined_all (cond b (below k) (below k ++ n ∷ [])) ns) (absent past (has (below k) n) refl)
          ∙ (ap (λ (m : ℕ). joined_all (below k ++ m ∷ []) ns) same
          ∙ on (suc k) (omega (arith, same, inside)) (front ++ n ∷ []) (front_low (suc k) (omega (arith, same)) (omega arith)) is.1 (left (suc k) (omega (arith, same)) (omega arith)))

      by : CountOn ns → joined_all (joined (below k) n) ns ≡ below many
      by on = elim (cases_lt n k) [ inl old ↦ known on old | inr past ↦ fresh on past ]

  -- Numbers below this one, each behind all smaller ones, and all of them among these, count up to it where each stands first.
  pub counted_up : (ns : List ℕ) → StandBehind Any [] ns → ((n : ℕ) → Contains ns n → n < many) → ((c : ℕ) → c < many → Contains ns c) → once ns ≡ below many
  counted_up ns is within all = sym (joined_behind [] ns) ∙ joined_below ns within 0 (omega arith) [] (λ c d. none-in c d) is (λ c less. inr (all c less))

-- ---- what the page is for

-- ---- Numbers as they are met: what holds of each new one and of all that were met before it holds of each two of them.

module _ (R : ℕ → ℕ → Type 0) where
  -- each new number stands so behind all that were met before it, which these in front begin
  abbrev pub StandNew : List ℕ → List ℕ → Type 0
  StandNew front [] = Unit {0}
  StandNew front (n ∷ ns) = ((Contains front n → ⊥) → (a : ℕ) → Contains front a → R a n) × StandNew (front ++ n ∷ []) ns

  new_both : (front ns ms : List ℕ) → StandNew front ns → StandNew (front ++ ns) ms → StandNew front (ns ++ ms)
  new_both front [] ms first rest = subst (λ (zs : List ℕ). StandNew zs ms) (append-nil front) rest
  new_both front (n ∷ ns) ms first rest = (first.0, new_both (front ++ n ∷ []) ns ms first.1 (subst (λ (zs : List ℕ). StandNew zs ms) (sym (append_assoc front (n ∷ []) ns)) rest))

  -- no earlier number than the one here is this
  abbrev IsNew : List ℕ → ℕ → ℕ → Type 0
  IsNew ns j n = (i : ℕ) → i < j → slice_get ns i ≡ Some n → ⊥

  -- by where each stands
  new_numbered : (front ns : List ℕ) → ((j n : ℕ) → slice_get ns j ≡ Some n → (Contains front n → ⊥) → IsNew ns j n → (a : ℕ) → Contains front a ⊎ IsBefore ns j a → R a n) → StandNew front ns
  new_numbered front [] given = tt
  new_numbered front (n ∷ ns) given = (here, new_numbered (front ++ n ∷ []) ns later)
    where
      here : (Contains front n → ⊥) → (a : ℕ) → Contains front a → R a n
      here none a c = given zero n refl none (λ i low e. absurd (omega (arith, low))) a (inl c)

      earlier : (j m : ℕ) → (Contains (front ++ n ∷ []) m → ⊥) → IsNew ns j m → IsNew (n ∷ ns) (suc j) m
      earlier j m none first zero low e = none (subst (Contains (front ++ n ∷ [])) (same-some n m e) (Contains-append_right front (n ∷ []) n (contains-one n)))
      earlier j m none first (suc i) low e = first i (omega (arith, low)) e

      next : (j a : ℕ) → Contains (front ++ n ∷ []) a ⊎ IsBefore ns j a → Contains front a ⊎ IsBefore (n ∷ ns) (suc j) a
      next j a (inl c) = elim (Contains-append_cases front (n ∷ []) a c) [ inl d ↦ inl d | inr d ↦ inr (zero, omega arith, ap Some (last_of n a d)) ]
      next j a (inr (i, low, e)) = inr (suc i, omega (arith, low), e)

      later : (j m : ℕ) → slice_get ns j ≡ Some m → (Contains (front ++ n ∷ []) m → ⊥) → IsNew ns j m → (a : ℕ) → Contains (front ++ n ∷ []) a ⊎ IsBefore ns j a → R a m
      later j m at none first a from = given (suc j) m at (λ c. none (Contains-append_left front (n ∷ []) m c)) (earlier j m none first) a (next j a from)

  -- no earlier item has the number
  abbrev IsNewIn : {A : Type 0} → (A → List ℕ) → List A → ℕ → ℕ → Type 0
  IsNewIn {A = A} f xs m n = (k : ℕ) (y : A) → k < m → slice_get xs k ≡ Some y → Contains (f y) n → ⊥

  pub new_flat : {A : Type 0} (f : A → List ℕ) (front : List ℕ) (xs : List A)
      → ((m : ℕ) (x : A) → slice_get xs m ≡ Some x → (j n : ℕ) → slice_get (f x) j ≡ Some n → (Contains front n → ⊥) → IsNewIn f xs m n → IsNew (f x) j n → (a : ℕ) → Contains front a
      ⊎ IsBeforeIn f xs m j a → R a n) → StandNew front (flat_map f xs)
  new_flat f front [] given = tt
  new_flat {A = A} f front (x ∷ xs) given = new_both front (f x) (flat_map f xs) (new_numbered front (f x) here) (new_flat f (front ++ f x) xs later)
    where
      first_item : (j a : ℕ) → Contains front a ⊎ IsBefore (f x) j a → Contains front a ⊎ IsBeforeIn f (x ∷ xs) zero j a
      first_item j a (inl c) = inl c
      first_item j a (inr (i, low, e)) = inr (in_same i x low refl e)

      here : (j n : ℕ) → slice_get (f x) j ≡ Some n → (Contains front n → ⊥) → IsNew (f x) j n → (a : ℕ) → Contains front a ⊎ IsBefore (f x) j a → R a n
      here j n at none first a from = given zero x refl j n at none (λ k y low. absurd (omega (arith, low))) first a (first_item j a from)

      earlier : (m n : ℕ) → (Contains (front ++ f x) n → ⊥) → IsNewIn f xs m n → IsNewIn f (x ∷ xs) (suc m) n
      earlier m n none new zero z low e c = none (Contains-append_right front (f x) n (subst (λ (y : A). Contains (f y) n) (sym (same-some x z e)) c))
      earlier m n none new (suc k) z low e c = new k z (omega (arith, low)) e c

      next : (m j a : ℕ) → Contains (front ++ f x) a ⊎ IsBeforeIn f xs m j a → Contains front a ⊎ IsBeforeIn f (x ∷ xs) (suc m) j a
      next m j a (inl c) = elim (Contains-append_cases front (f x) a c) [ inl d ↦ inl d | inr d ↦ inr (in_earlier zero x (omega arith) refl d) ]
      next m j a (inr (in_earlier k z low e c)) = inr (in_earlier (suc k) z (omega (arith, low)) e c)
      next m j a (inr (in_same i z low e c)) = inr (in_same i z low e c)

      later : (m : ℕ) (y : A) → slice_get xs m ≡ Some y → (j n : ℕ) → slice_get (f y) j ≡ Some n → (Contains (front ++ f x) n → ⊥) → IsNewIn f xs m n → IsNew (f y) j n
          → (a : ℕ) → Contains (front ++ f x) a ⊎ IsBeforeIn f xs m j a → R a n
      later m y at j n there none new first a from = given (suc m) y at j n there (λ c. none (Contains-append_left front (f x) n c)) (earlier m n none new) first a (next m j a from)

  -- ---- each two of them, each once

  abbrev pub Pairs : List ℕ → Type 0
  Pairs ns = (k l a b : ℕ) → slice_get ns k ≡ Some a → slice_get ns l ≡ Some b → k < l → R a b

  one_more : (met : List ℕ) (z : ℕ) → Pairs met → ((a : ℕ) → Contains met a → R a z) → Pairs (met ++ z ∷ [])
  one_more met z pairs new k l a b at_k at_l less = search (std_rules, last_or, get-contains)

  -- what was met is what stands in front
  abbrev IsMet : List ℕ → List ℕ → Type 0
  IsMet met front = ((c : ℕ) → Contains met c → Contains front c) × ((c : ℕ) → Contains front c → Contains met c)

  abbrev Joins : List ℕ → List ℕ → List ℕ → Type 0
  Joins met front zs = IsMet met front → Pairs met → StandNew front zs → Pairs (joined_all met zs)

  pub joined_pairs : (met front zs : List ℕ) → Joins met front zs
  joined_pairs met front [] is pairs new = pairs
  joined_pairs met front (z ∷ zs) is pairs new = by (joined_pairs met (front ++ z ∷ []) zs) (joined_pairs (met ++ z ∷ []) (front ++ z ∷ []) zs) (has met z) refl
    where
      known : has met z ≡ true → IsMet met (front ++ z ∷ [])
      known e = ((λ c d. Contains-append_left _ _ c (is.0 c d)), (λ c d. elim (Contains-append_cases _ _ c d) [ inl f ↦ is.1 c f | inr f ↦ subst (Contains met) (last_of z c f) (has-contains _ z e) ]))

      wider : (us vs : List ℕ) → ((c : ℕ) → Contains us c → Contains vs c) → (c : ℕ) → Contains (us ++ z ∷ []) c → Contains (vs ++ z ∷ []) c
      wider us vs all c d = elim (Contains-append_cases us (z ∷ []) c d) [ inl f ↦ Contains-append_left vs (z ∷ []) c (all c f) | inr f ↦ Contains-append_right vs (z ∷ []) c f ]

      absent : has met z ≡ false → Contains front z → ⊥
      absent e c = let wrong : false ≡ true = sym e ∙ contains-has met z (is.1 z c) in cc

      by : Joins met (front ++ z ∷ []) zs → Joins (met ++ z ∷ []) (front ++ z ∷ []) zs → (b : Bool) → has met z ≡ b → Pairs (joined_all (cond b met (met ++ z ∷ [])) zs)
      by old fresh true e = old (known e) pairs new.1
      by old fresh false e = fresh (wider met front is.0, wider front met is.1) (one_more met z pairs (λ a c. new.0 (absent e) a (is.0 a c))) new.1

-- ---- numbers that rise

rising_both : (us vs : List ℕ) → are_rising us ≡ true → are_rising vs ≡ true → ((c d : ℕ) → Contains us c → Contains vs d → c < d) → are_rising (us ++ vs) ≡ true
rising_both [] vs a b less = b
rising_both (n ∷ us) vs a b less = both _ _ (all_pass (nat_lt n) (us ++ vs) front) (rising_both us vs (second_true _ _ a) b (λ c d at. less c d (contains-later n us c at)))
  where
    front : (e : ℕ) → Contains (us ++ vs) e → nat_lt n e ≡ true
    front e c = elim (Contains-append_cases us vs e c) [
      | inl d ↦ all-contained (nat_lt n) us e (first_true (list_all (nat_lt n) us) (are_rising us) a) d
      | inr d ↦ lt-ltb n e (less n e (first-contained n us) d)
    ]

rises_flat : {A : Type 0} (f : A → List ℕ) (xs : List A) → list_all (λ x. are_rising (f x)) xs ≡ true
    → ((k l : ℕ) (x y : A) → slice_get xs k ≡ Some x → slice_get xs l ≡ Some y → k < l → (c d : ℕ) → Contains (f x) c → Contains (f y) d → c < d) → are_rising (flat_map f xs) ≡ true
rises_flat f [] own between = refl
rises_flat f (x ∷ xs) own between = rising_both (f x) (flat_map f xs) (first_true _ _ own)
    (rises_flat f xs (second_true _ _ own) (λ k l y z at_y at_z less. between (suc k) (suc l) y z at_y at_z (omega (arith, less)))) (λ c d c_in d_in.
    let from = flat_cases f xs d d_in in
    let at = contains-get _ _ from.1 in
    between zero (suc at.0) x from.0 refl at.1 (omega arith) c d c_in from.2)

-- lists that are made of items that are alike
pub zip_flat : {A B C : Type 0} (f : A → List C) (g : B → List C) (xs : List A) (ys : List B) → AllZip (λ x y. f x ≡ g y) xs ys → flat_map f xs ≡ flat_map g ys
zip_flat {C = C} f g xs ys zip = let id : List C → List C = λ l. l in
    flat_mapped id f xs ∙ (ap (flat_map id) (sym (zip_map (λ x y. f x ≡ g y) f g (λ x y e. sym e) xs ys zip)) ∙ sym (flat_mapped id g ys))

-- ---- parts

-- the parts that the types of a view stand for
abbrev pub part_numbers : NumberedView → List ℕ
part_numbers v = map (λ (y : NumberedType). part_of y.slot) v.types

numbered_parts : (t : Tables) (p : ℕ) (xs : List NumberedType) (ns : List ℕ) → AllZip (IsNumbered t p) xs ns → map (λ (y : NumberedType). part_of y.slot) xs ≡ map (λ n. 14 + n) ns
numbered_parts t p xs ns z = sym (zip_map (IsNumbered t p) (λ (y : NumberedType). part_of y.slot) (λ n. 14 + n) (λ y n is. sym is.0) xs ns z)

pub same_part : (s : NumberedSlot) → slot_part s ≡ part_of s
same_part x = search std_rules

-- a smaller part that is kept gets a smaller number
pub kept_less : (marks : List Bool) (kept : List ℕ) → AreMarked marks kept → (o p c d : ℕ) → IsPart kept o (14 + c) → IsPart kept p (14 + d) → o < p → c < d
kept_less marks kept marked o p c d x b less = search std_rules

-- the type of a number of the plan
pub shown_number : (kept : List ℕ) (v : NumberedView) (es : List (Text × ℕ)) → AllZip (ListsNumber kept) v.types es → (c : ℕ) → Contains (numbers_of es) c → (y : NumberedType) × Contains v.types y
    × IsPart kept (slot_part y.slot) (14 + c)
shown_number kept v es zip c c_in =
    let e = map_from (λ (e : Text × ℕ). e.1) es c c_in in
    let at = contains-get es e.0 e.1 in
    let y = zip_at_right (ListsNumber kept) v.types es zip at.0 e.0 at.1 in
    (y.0, get-contains v.types at.0 y.0 y.1, subst (λ (m : ℕ). IsPart kept (slot_part y.0.slot) (14 + m)) e.2 y.2.1)

-- ---- what was followed

module _ (pieces : List Piece) (x : Followed) (h : Homes) (ms : List Member) (members : List reads.Member) (input : IsReadInput pieces x h ms members) (known : ℕ
    → Fact) (obey : ViewsObey (tables_of x) known ms) where
  abbrev t : Tables
  t = tables_of x

  abbrev ws : List NumberedScope
  ws = scopes_in x

  -- instances of one place show the same parts
  pub told_parts : (m j : ℕ) (i : NumberedInstance) → IsInstanceAt ws m j i → (n k : ℕ) (l : NumberedInstance) → IsInstanceAt ws n k l → i.place ≡ l.place → part_numbers i.view ≡ part_numbers l.view
  told_parts m j i at n k l there same =
      let a = instance_placed pieces x h ms members input m j i at in
      let b = instance_placed pieces x h ms members input n k l there in
      let named : AllZip (IsNumbered t i.place) l.view.types b.numbers = subst (λ (q : ℕ). AllZip (IsNumbered t q) l.view.types b.numbers) (sym same) b.named in
      let one = same_numbers t (tables pieces x h ms members input) i.place i.view.types l.view.types (told_same pieces x h ms members input known obey m j i at n k l there same) a.numbers b.numbers
      a.named named in
      numbered_parts t i.place i.view.types a.numbers a.named ∙ (ap (map (λ n. 14 + n)) one ∙ sym (numbered_parts t i.place l.view.types b.numbers named))

  -- all types of the one place stand in front of all of the other
  abbrev Before : ℕ → ℕ → Type 0
  Before a b = (m j : ℕ) (i : NumberedInstance) → IsInstanceAt ws m j i → i.place ≡ a → (n k : ℕ) (l : NumberedInstance) → IsInstanceAt ws n k l → l.place ≡ b
      → (c d : ℕ) → Contains (part_numbers i.view) c → Contains (part_numbers l.view) d → c < d

  before_first : (m j : ℕ) (u : NumberedInstance) → IsInstanceAt ws m j u → IsFirstSeen ws m j u.place → (n k : ℕ) (o : NumberedInstance) → IsInstanceAt ws n k o → (n < m) ⊎ ((n ≡ m) × (k < j))
      → Before o.place u.place
  before_first m j u there first n k o o_there earlier ma ja i at same nb kb l l_at l_same c d c_in d_in =
      let old = map_from (λ (y : NumberedType). part_of y.slot) o.view.types c (subst (λ (ps : List ℕ). Contains ps c) (told_parts ma ja i at n k o o_there same) c_in) in
      let new = map_from (λ (y : NumberedType). part_of y.slot) u.view.types d (subst (λ (ps : List ℕ). Contains ps d) (told_parts nb kb l l_at m j u there l_same) d_in) in
      let old_at = contains-get o.view.types old.0 old.1 in
      let new_at = contains-get u.view.types new.0 new.1 in
      let less = (placed pieces x h ms members input).later m j u there first n k o o_there earlier old_at.0 new_at.0 old.0 new.0 old_at.1 new_at.1 in
      subst (λ (p : ℕ). p < d) old.2 (subst (λ (p : ℕ). part_of old.0.slot < p) new.2 less)

  -- the places of all instances, in order
  abbrev pub places : List ℕ
  places = flat_map scope_places ws

  there_in : (k : ℕ) (w : NumberedScope) → slice_get ws k ≡ Some w → (l : ℕ) (o : NumberedInstance) → slice_get w.instances l ≡ Some o → IsInstanceAt ws k l o
  there_in k w at l o o_at = record { scope = w; at = at; instance_at = o_at }

  places_new : StandNew Before [] places
  places_new = new_flat Before scope_places [] ws given
    where
      from_before : (m j a : ℕ) (u : NumberedInstance) → IsInstanceAt ws m j u → IsFirstSeen ws m j u.place → Contains [] a ⊎ IsBeforeIn scope_places ws m j a → Before a u.place
      from_before m j a u there first (inl c) = none-in a c
      from_before m j a u there first (inr (in_earlier k y low at c)) =
          let o = map_from (λ (z : NumberedInstance). z.place) y.instances a c in
          let o_at = contains-get y.instances o.0 o.1 in
          subst (λ (q : ℕ). Before q u.place) o.2 (before_first m j u there first k o_at.0 o.0 (there_in k y at o_at.0 o.0 o_at.1) (inl low))
      from_before m j a u there first (inr (in_same l y low at c)) =
          let o = get_back (λ (z : NumberedInstance). z.place) y.instances l a c in
          subst (λ (q : ℕ). Before q u.place) o.2 (before_first m j u there first m l o.0 (there_in m y at l o.0 o.1) (inr (refl, low)))

      given : (m : ℕ) (w : NumberedScope) → slice_get ws m ≡ Some w → (j q : ℕ) → slice_get (scope_places w) j ≡ Some q → (Contains [] q → ⊥)
          → ((k : ℕ) (y : NumberedScope) → k < m → slice_get ws k ≡ Some y → Contains (scope_places y) q → ⊥)
          → ((l : ℕ) → l < j → slice_get (scope_places w) l ≡ Some q → ⊥) → (a : ℕ) → Contains [] a ⊎ IsBeforeIn scope_places ws m j a → Before a q
      given m w at j q e none earlier first a from =
          let u = get_back (λ (z : NumberedInstance). z.place) w.instances j q e in
          let seen : IsFirstSeen ws m j u.0.place = record {
            scopes = λ k l o low there same. earlier k there.scope low there.at (subst (Contains (scope_places there.scope)) (same ∙ u.2) (contains-map _ _ o (get-contains _ l o there.instance_at)));
            instances = λ l o low there same.
                let one = one_item ws m there.scope w there.at at in
                first l low (mapped_get (λ (z : NumberedInstance). z.place) w.instances l o (subst (λ (z : NumberedScope). slice_get z.instances l ≡ Some o) one there.instance_at) ∙ ap Some
                (same ∙ u.2));
          } in
          subst (λ (p : ℕ). Before a p) u.2 (from_before m j a u.0 (there_in m w at j u.0 u.1) seen from)

  -- ---- the places of what is read

  imports_have : (is : List (ℕ × NumberedView)) → AllByRecursion (λ (i : ℕ × NumberedView). HasPath t i.0 × IsViewIn t i.0 i.1) is → AllByRecursion (HasPath t) (map (λ (i : ℕ × NumberedView). i.0) is)
  imports_have [] all = tt
  imports_have (i ∷ is) all = (all.0.0, imports_have is all.1)

  -- places with the same paths are the same
  pathed : (us vs : List ℕ) → AllByRecursion (HasPath t) vs → map (path_at t) us ≡ map (path_at t) vs → us ≡ vs
  pathed [] [] all e = refl
  pathed [] (b ∷ vs) all e = let wrong : ⊥ = cc in absurd wrong
  pathed (a ∷ us) [] all e = let wrong : ⊥ = cc in absurd wrong
  pathed (a ∷ us) (b ∷ vs) all e =
      let first : path_at t a ≡ path_at t b = cc in
      let more : map (path_at t) us ≡ map (path_at t) vs = cc in
      let one : a ≡ b = (tables pieces x h ms members input).paths a b all.0.0 (first ∙ all.0.1) all.0.1 in
      let rest = pathed us vs all.1 more in
      λ i. one i ∷ rest i

  part_alike : (a : FollowedPart) (b : Part) → IsPartOf t a b → IsPartIn t (numbered_part b)
      → map (path_at t) (scope_places (followed_scope t.paths (scope_of a))) ≡ map (path_at t) (places_of_part (numbered_part b))
      → scope_places (followed_scope t.paths (scope_of a)) ≡ places_of_part (numbered_part b)
  part_alike (followed.World path s) (parts.World w) is own same = ap scope_places (sym is.shows)
  part_alike (followed.Interface s) (parts.Interface p v imports) is own same = search (std_rules, pathed, scope_places, all_both, imports_have)
  part_alike _ _ is own same = absurd is

  alike : (n : ℕ) (f : FollowedMember) (k : Member) → slice_get x.members.items n ≡ Some f → slice_get ms n ≡ Some k → scope_places (scope_in t f) ≡ places_of_part (numbered_part k.part)
  alike n f k f_at k_at =
      let kept_at = mapped_get numbered_member ms n k k_at in
      let i = zip_at (IsMember t h) (numbered_members ms) members input.shown n (numbered_member k) kept_at in
      let own = all_at (λ (y : NumberedMember). IsPartIn t y.part) (numbered_members ms) (read_members_are_in pieces x h ms members input known obey) (numbered_member k)
      (get-contains (numbered_members ms) n (numbered_member k) kept_at) in
      let both_read = zip_at (IsMemberOf t) x.members.items ms input.are n f f_at in
      part_alike f.part k.part (subst (λ (m : Member). IsPartOf t f.part m.part) (one_item ms n both_read.0 k both_read.1 k_at) both_read.2.1) own
      (scope_under pieces x h ms members input n f i.0 f_at i.1
      ∙ sym (part_paths t (tables pieces x h ms members input) h input.homes (numbered_member k) i.0 i.2.package_ i.2.label (numbered_part k.part) i.0.part i.2.part own))

  pub places_alike : places ≡ flat_map (λ (k : NumberedMember). places_of_part k.part) (numbered_members ms)
  places_alike = sym (flat_mapped scope_places (scope_in t) x.members.items)
      ∙ (zip_flat (λ (f : FollowedMember). scope_places (scope_in t f)) (λ (k : Member). places_of_part (numbered_part k.part)) x.members.items ms
      (zip_each (IsMemberOf t) (λ f k. scope_places (scope_in t f) ≡ places_of_part (numbered_part k.part)) x.members.items ms input.are alike)
      ∙ flat_mapped (λ (k : NumberedMember). places_of_part k.part) numbered_member ms)

  -- ---- the plan

  module _ (marks : List Bool) (kept : List ℕ) (marked : AreMarked marks kept) (n : ℕ) (homes : ℕ → Option Home) (seen : List NumberedSight)
      (within : (s : NumberedSight) → Contains seen s → Contains (views_of_members (numbered_members ms)) s) (ps : List ℕ) (met : ps ≡ joined_all [] places) (is : List PlannedInterface)
      (planned : AllZip (PlansPlace t kept n homes seen) ps is) (firsts : (k q : ℕ) → slice_get ps k ≡ Some q → (s : NumberedSight) × (first_at q seen ≡ Some s)) where
    -- the instance of the first view of a place
    pub record IsShownAt (q : ℕ) (s : NumberedSight) : Type 0 where
      pub scope : ℕ
      pub number : ℕ
      pub at : IsInstanceAt ws scope number (instance_shown s)
      pub place : s.place ≡ q

    pub shown_at : (q : ℕ) (s : NumberedSight) → first_at q seen ≡ Some s → IsShownAt q s
    shown_at q s e =
        let first = first_is q seen s e in
        let i = instance_of_any pieces x h ms members input s (within s first.0) in
        record { scope = i.0; number = i.1.number; at = i.1.at; place = first.1 }

    between : (k l : ℕ) (i j : PlannedInterface) → slice_get is k ≡ Some i → slice_get is l ≡ Some j → k < l → (c d : ℕ) → Contains (numbers_of i.types) c → Contains (numbers_of j.types) d → c < d
    between k l i j i_at j_at less c d c_in d_in =
        let a = zip_at_right (PlansPlace t kept n homes seen) ps is planned k i i_at in
        let b = zip_at_right (PlansPlace t kept n homes seen) ps is planned l j j_at in
        let u = firsts k a.0 a.1 in
        let v = firsts l b.0 b.1 in
        let y = shown_number kept u.0.view i.types (a.2 u.0 u.1).types c c_in in
        let z = shown_number kept v.0.view j.types (b.2 v.0 v.1).types d d_in in
        let first = shown_at a.0 u.0 u.1 in
        let second = shown_at b.0 v.0 v.1 in
        kept_less marks kept marked (part_of y.0.slot) (part_of z.0.slot) c d (subst (λ (p : ℕ). IsPart kept p (14 + c)) (same_part y.0.slot) y.2)
        (subst (λ (p : ℕ). IsPart kept p (14 + d)) (same_part z.0.slot) z.2)
        ((subst (λ (qs : List ℕ). Pairs Before qs) (sym met) (joined_pairs Before [] [] places ((λ c d. d), (λ c d. d)) (λ k l a b at there less. absurd cc) places_new) k l a.0 b.0 a.1 b.1 less)
        first.scope first.number (instance_shown u.0) first.at first.place second.scope second.number (instance_shown v.0) second.at second.place (part_of y.0.slot) (part_of z.0.slot)
        (contains-map (λ (w : NumberedType). part_of w.slot) u.0.view.types y.0 y.1) (contains-map (λ (w : NumberedType). part_of w.slot) v.0.view.types z.0 z.1))

    pub all_rise : list_all (λ (i : PlannedInterface). are_rising (numbers_of i.types)) is ≡ true → are_rising (flat_map (λ (i : PlannedInterface). numbers_of i.types) is) ≡ true
    all_rise own = rises_flat (λ (i : PlannedInterface). numbers_of i.types) is own between

-- ---- one world

-- the views beside a world are views of it
pub world_views : (t : Tables) (h : Homes) (m : Member) (w : Scope) → m.part ≡ parts.World w → (own : List Member) → AreOwnInterfaces t h m.package_number (numbered_scope w) (numbered_members own)
    → (s : NumberedSight) → Contains (views_of_members (numbered_members (m ∷ own))) s → Contains (views_of_members (numbered_members (m ∷ []))) s
world_views t h m w is own are s c = subst (λ (a : Part). Contains (views_of_part (numbered_part a) ++ []) s) (sym is)
    (Contains-append_left _ _ s (view_among t h m.package_number (numbered_scope w) (numbered_members own) are m.label.now s
    (subst (λ (a : Part). Contains (views_of_part (numbered_part a) ++ views_of_members (numbered_members own)) s) is c)))

-- and its places are those of what was followed
pub world_places : (m : Member) (w : Scope) → m.part ≡ parts.World w → (ps qs : List ℕ) → ps ≡ once (map (λ (i : NumberedInstance). i.place) (numbered_scope w).instances)
    → qs ≡ flat_map (λ (k : NumberedMember). places_of_part k.part) (numbered_members (m ∷ [])) → ps ≡ joined_all [] qs
world_places m w is ps qs met same = met ∙ (sym (joined_behind [] (map (λ (i : NumberedInstance). i.place) (numbered_scope w).instances))
    ∙ ap (joined_all []) (sym (same ∙ (ap (λ (a : Part). places_of_part (numbered_part a) ++ []) is ∙ append-nil (map (λ (i : NumberedInstance). i.place) (numbered_scope w).instances)))))
