-- What becomes of types in the end, place by place: a type without a name is copied exactly where all its parts are carried, if anything is added.
use Rattle.base_lemmas.proofs.Bools.{left_of as first_true, right_of as second_true}
use Rattle.bind_carry.specs.{Fates.FallBelow, Fates.are_carried, Fates.carries, Fates.is_carried, Fates.settled, Fates.settled_from, declared.fate.Fate.Fate}
use Rattle.bind_copy.specs.Copies.{all_below}
use Rattle.bind_union.proofs.Lists.{no_true}
use Rattle.bind_union.specs.Views.{kind_view, view_numbers}
use Rattle.std.proofs.Common.{Bool, List, Some, [], ap, append-nil, append_assoc, arith, false, is_none, length, nat_lt, refl, rules as std_rules, slice_get, subst, suc, sym, true, unwrap_or, zero, ℕ, ◌&&◌, ◌++◌, ◌+◌, ◌<◌, ◌∙◌, ◌∷◌, ◌≡◌}
use Rattle.std.proofs.lemmas.{Bool.ltb-true, List.length_push}
use Rattle.std.specs.Option.{option_map_or}
use Rattle.wit_model.specs.declared.model.{TypeDef.TypeDef, TypeOwner.TypeOwner}
use Rattle.bind_carry.specs.declared.fate.Fate.TheVariants as fate

abbrev parts : TypeDef → List ℕ
parts t = view_numbers (kind_view t.kind)

-- ---- what is settled stays

-- a number in front is carried by what stands in front
front_same : (done rest : List Fate) (m : ℕ) → m < length done → is_carried (done ++ rest) m ≡ is_carried done m
front_same [] rest m l = absurd (omega (arith, l))
front_same (f ∷ fs) rest zero l = refl
front_same (f ∷ fs) rest (suc m) l = front_same fs rest m (omega (arith, l))

front_all : (done rest : List Fate) (ms : List ℕ) → all_below (length done) ms ≡ true → are_carried (done ++ rest) ms ≡ are_carried done ms
front_all done rest [] h = refl
front_all done rest (m ∷ ms) h = search (std_rules, front_same, ltb-true, first_true, second_true, front_all done rest ms (second_true (nat_lt m (length done)) (all_below (length done) ms) h))

-- the last of those in front
last_of : (done : List Fate) (f : Fate) (rest : List Fate) (n : ℕ) → n ≡ length done → slice_get ((done ++ f ∷ []) ++ rest) n ≡ Some f
last_of [] f rest zero e = refl
last_of (x ∷ xs) f rest (suc n) e = last_of xs f rest n (omega (arith, e))
last_of _ f rest _ e = absurd (omega (arith, e))

module _ (adds : Bool) where
  -- the fate of the first that is left
  abbrev one : List Fate → TypeDef → Fate → Fate
  one done t f = settled f (is_none t.name) (adds && are_carried done (parts t))

  -- what is settled stands in front of what follows
  begins : (done : List Fate) (types : List TypeDef) (fates : List Fate) → (rest : List Fate) × (settled_from adds done types fates ≡ done ++ rest)
  begins done (t ∷ ts) (f ∷ fs) = let more = begins (done ++ one done t f ∷ []) ts fs in (one done t f ∷ more.0, more.1 ∙ append_assoc done (one done t f ∷ []) more.0)
  begins done _ _ = ([], sym (append-nil done))

  -- each type has a fate
  settled_more : (done : List Fate) (types : List TypeDef) (fates : List Fate) → length fates ≡ length types → length (settled_from adds done types fates) ≡ length done + length types
  settled_more done [] [] long = omega arith
  settled_more done (t ∷ ts) (f ∷ fs) long = search (std_rules, length_push, settled_more (done ++ one done t f ∷ []) ts fs (omega (arith, long)))
  settled_more done _ _ long = absurd (omega (arith, long))

  pub settled_long : (types : List TypeDef) (fates : List Fate) → length fates ≡ length types → length (settled_from adds [] types fates) ≡ length types
  settled_long types fates long = let r = settled_more [] types fates long in omega (arith, r)

  abbrev FallFrom : ℕ → List TypeDef → Type 0
  FallFrom count types = (k : ℕ) (d : TypeDef) → slice_get types k ≡ Some d → all_below (count + k) (parts d) ≡ true

  falls_later : (count : ℕ) (t : TypeDef) (ts : List TypeDef) (next : ℕ) → next ≡ count + 1 → FallFrom count (t ∷ ts) → FallFrom next ts
  falls_later count t ts next e falls k d at = let same : count + suc k ≡ next + k = omega (arith, e) in subst (λ (m : ℕ). all_below m (parts d) ≡ true) same (falls (suc k) d at)

  -- each place is settled by the fates of all
  settled_at : (done : List Fate) (types : List TypeDef) (fates : List Fate) → FallFrom (length done) types → (n place : ℕ) → place ≡ length done + n → (t : TypeDef) (f : Fate)
      → slice_get types n ≡ Some t → slice_get fates n ≡ Some f
      → slice_get (settled_from adds done types fates) place ≡ Some (settled f (is_none t.name) (adds && are_carried (settled_from adds done types fates) (parts t)))
  settled_at done (u ∷ ts) (g ∷ fs) falls zero place e t f at_t at_f = same_one (begins (done ++ one done u g ∷ []) ts fs)
    where
      all : List Fate
      all = settled_from adds (done ++ one done u g ∷ []) ts fs

      same_type : u ≡ t
      same_type = ap (λ o. unwrap_or o u) at_t

      small : all_below (length done) (parts u) ≡ true
      small = let here : length done ≡ length done + 0 = omega arith in ap (λ (m : ℕ). all_below m (parts u)) here ∙ falls zero u refl

      same_one : (rest : List Fate) × (all ≡ (done ++ one done u g ∷ []) ++ rest) → slice_get all place ≡ Some (settled f (is_none t.name) (adds && are_carried all (parts t)))
      same_one rest = (ap (λ l. slice_get l place) rest.1 ∙ last_of done (one done u g) rest.0 place (omega (arith, e)))
          ∙ ((λ i. Some (settled g (is_none u.name) (adds && (sym (ap (λ l. are_carried l (parts u)) (rest.1 ∙ append_assoc done (one done u g ∷ []) rest.0)
          ∙ front_all done (one done u g ∷ rest.0) (parts u) small)) i)))
          ∙ (λ i. Some (settled ((ap (λ o. unwrap_or o g) at_f) i) (is_none (same_type i).name) (adds && are_carried all (parts (same_type i))))))
  settled_at done (u ∷ ts) (g ∷ fs) falls (suc n) place e t f at_t at_f =
      let next : length (done ++ one done u g ∷ []) ≡ length done + 1 = length_push done (one done u g) in
      settled_at (done ++ one done u g ∷ []) ts fs (falls_later (length done) u ts (length (done ++ one done u g ∷ [])) next falls) n place (omega (arith, e, next)) t f at_t at_f
  settled_at done _ _ falls n place e t f at_t at_f = let wrong : ⊥ = cc in absurd wrong

  -- the same from the beginning
  pub settled_all : (types : List TypeDef) (fates : List Fate) → FallBelow types → (n : ℕ) (t : TypeDef) (f : Fate) → slice_get types n ≡ Some t → slice_get fates n ≡ Some f
      → slice_get (settled_from adds [] types fates) n ≡ Some (settled f (is_none t.name) (adds && are_carried (settled_from adds [] types fates) (parts t)))
  settled_all types fates falls n t f at_t at_f = search (std_rules, settled_at)

  -- ---- what follows

  module _ (types : List TypeDef) (fates : List Fate) (falls : FallBelow types) (n : ℕ) (t : TypeDef) (at_t : slice_get types n ≡ Some t) where
    abbrev final : List Fate
    final = settled_from adds [] types fates

    -- a fate that is no want of one stays
    pub stands_still : (k : ℕ) → slice_get fates n ≡ Some (fate.Stands k) → slice_get final n ≡ Some (fate.Stands k)
    stands_still k e = settled_all types fates falls n t (fate.Stands k) at_t e

    pub copied_still : (home : TypeOwner) → slice_get fates n ≡ Some (fate.Copied home) → slice_get final n ≡ Some (fate.Copied home)
    copied_still home e = settled_all types fates falls n t (fate.Copied home) at_t e

    -- a type without a name is carried where its parts are
    pub unnamed_carried : adds ≡ true → is_none t.name ≡ true → slice_get fates n ≡ Some fate.Left → are_carried final (parts t) ≡ true → is_carried final n ≡ true
    unnamed_carried add none e h = ap (λ o. option_map_or carries o false) (settled_all types fates falls n t fate.Left at_t e ∙ (λ i. Some (settled fate.Left (none i) (add i && h i))))

    -- and then alone
    pub unnamed_parts : slice_get fates n ≡ Some fate.Left → is_carried final n ≡ true → (are_carried final (parts t) ≡ true) × (is_none t.name ≡ true) × (adds ≡ true)
    unnamed_parts e h = go adds (are_carried final (parts t)) (is_none t.name) (sym (ap (λ o. option_map_or carries o false) (settled_all types fates falls n t fate.Left at_t e)) ∙ h)
      where
        go : (a b c : Bool) → carries (settled fate.Left c (a && b)) ≡ true → (b ≡ true) × (c ≡ true) × (a ≡ true)
        go true true true k = (refl, refl, refl)
        go _ _ _ k = no_true k
