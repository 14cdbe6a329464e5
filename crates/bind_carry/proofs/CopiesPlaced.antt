-- Where copies of types stand, under the numbers that all types have.
use Rattle.bind_union.{proofs.MatchedStand.numbers_rise, specs.Carried.Rises}
use Rattle.base_lemmas.proofs.{Lists.mapped_get as mapped_at, Numbers.equal_or_past}
use Rattle.bind_carry.specs.{Fates.AreCopied, Fates.IsCopiedType, Fates.copied_types, Fates.copies, Fates.numbers_by, Fates.stood, First.flag_under, Numbers.copied_count, Numbers.numbers_of, Renumbered.is_copied, TooLong.copies_of, declared.fate.Fate.Fate}
use Rattle.bind_copy.specs.Copies.{IsTypeUnder, number_under}
use Rattle.bind_union.proofs.Lists.{no_true}
use Rattle.std.proofs.Common.{Bool, List, None, Option, Some, [], ap, append_assoc, arith, false, inl, inr, length, map, refl, slice_get, subst, suc, sym, true, unwrap_or, zero, ℕ, ◌++◌, ◌+◌, ◌<◌, ◌||◌, ◌∙◌, ◌∷◌, ◌≡◌, ◌≤◌, ◌⊎◌}
use Rattle.std.proofs.lemmas.List.{length-append, length-map, length_push as length_behind}
use Rattle.std.specs.{List.AllZip, Option.option_map_or}
use Rattle.wit_model.specs.declared.model.{TypeDef.TypeDef, TypeOwner.TypeOwner}
use Rattle.bind_carry.specs.declared.fate.Fate.TheVariants as fate

-- ---- tests

pub by_test : {P : Type 0} (b : Bool) → (b ≡ true → P) → (b ≡ false → P) → P
by_test true f g = f refl
by_test false f g = g refl

pub by_either : {P : Type 0} (a b : Bool) → (a || b) ≡ true → (a ≡ true → P) → (a ≡ false → b ≡ true → P) → P
by_either true b h f g = f refl
by_either false b h f g = g refl h

-- ---- lists

pub nothing_there : {A X : Type 0} (x : X) → ◌≡◌ {A = Option X} None (Some x) → A
nothing_there x e = let wrong : ⊥ = cc in absurd wrong

pub some_same : {X : Type 0} (x y : X) → ◌≡◌ {A = Option X} (Some x) (Some y) → x ≡ y
some_same x y e = ap (λ o. unwrap_or o x) e

-- what stands behind so many
pub get_behind : {X : Type 0} (xs : List X) (y : X) (ys : List X) (n : ℕ) → n ≡ length xs → slice_get (xs ++ y ∷ ys) n ≡ Some y
get_behind [] y ys zero e = refl
get_behind (x ∷ xs) y ys (suc n) e = get_behind xs y ys n (omega (arith, e))
get_behind _ y ys _ e = absurd (omega (arith, e))

-- ---- flags of fates

pub flag_is_copied : (fates : List Fate) (n : ℕ) → flag_under (map copies fates) n ≡ is_copied fates n
flag_is_copied (f ∷ fs) (suc n) = flag_is_copied fs n
flag_is_copied _ _ = refl

-- a fate that copies has an owner
pub copied_home : (fates : List Fate) (n : ℕ) → is_copied fates n ≡ true → (home : TypeOwner) × (slice_get fates n ≡ Some (fate.Copied home))
copied_home (fate.Copied home ∷ fs) zero h = (home, refl)
copied_home (f ∷ fs) (suc n) h = copied_home fs n h
copied_home _ _ h = no_true h

-- ---- places

-- What the copy of a type is, and where it stands.
pub record IsPlaced (numbers : List ℕ) (home : TypeOwner) (old : TypeDef) (news : List TypeDef) (place : ℕ) : Type 0 where
  pub image : TypeDef
  pub at_image : slice_get news place ≡ Some image
  pub under : IsTypeUnder numbers home old image

module _ (numbers : List ℕ) where
  -- the copy that is made for a fate stands behind the ones before it
  placed : (types : List TypeDef) (fates : List Fate) (more : List TypeDef) → AllZip (IsCopiedType numbers) (copied_types types fates) more
      → (first : ℕ) (before rest : List TypeDef) → first ≡ length before → (n : ℕ) (home : TypeOwner) (t : TypeDef) → slice_get fates n ≡ Some (fate.Copied home) → slice_get types n ≡ Some t
      → IsPlaced numbers home t (before ++ (more ++ rest)) (number_under (numbers_by first fates) n)
  placed types [] more zip first before rest e n home t at_f at_t = nothing_there (fate.Copied home) at_f
  placed [] (f ∷ fs) more zip first before rest e n home t at_f at_t = nothing_there t at_t
  placed (u ∷ ts) (fate.Left ∷ fs) more zip first before rest e (suc n) home t at_f at_t = placed ts fs more zip first before rest e n home t at_f at_t
  placed (u ∷ ts) (fate.Stands k ∷ fs) more zip first before rest e (suc n) home t at_f at_t = placed ts fs more zip first before rest e n home t at_f at_t
  placed (u ∷ ts) (fate.Copied h ∷ fs) [] zip first before rest e n home t at_f at_t = absurd zip
  placed (u ∷ ts) (fate.Copied h ∷ fs) (x ∷ more) zip first before rest e zero home t at_f at_t = record {
    image = x;
    at_image = get_behind before x (more ++ rest) first e;
    under = subst (λ o. IsTypeUnder numbers o t x) (let same_home : h ≡ home = cc in same_home) (subst (λ z. IsTypeUnder numbers h z x) (some_same u t at_t) zip.0);
  }
  placed (u ∷ ts) (fate.Copied h ∷ fs) (x ∷ more) zip first before rest e (suc n) home t at_f at_t =
      let far = placed ts fs more zip.1 (first + 1) (before ++ x ∷ []) rest (let r = length_behind before x in omega (arith, r, e)) n home t at_f at_t in
      record { image = far.image; at_image = ap (λ l. slice_get l (number_under (numbers_by (first + 1) fs) n)) (sym (append_assoc before (x ∷ []) (more ++ rest))) ∙ far.at_image; under = far.under }
  placed (u ∷ ts) _ more zip first before rest e zero home t at_f at_t = let wrong : ⊥ = cc in absurd wrong

-- where all types have met their fates, so it is of what the lists hold in the end
pub copy_placed : (own : List TypeDef) (numbers : List ℕ) (types : List TypeDef) (fates : List Fate) (old new rest : List TypeDef) → AreCopied (length own) numbers types fates old new
    → (n : ℕ) (home : TypeOwner) (t : TypeDef) → slice_get fates n ≡ Some (fate.Copied home) → slice_get types n ≡ Some t → IsPlaced numbers home t (own ++ (new ++ rest)) (number_under numbers n)
copy_placed own numbers types fates old new rest is n home t at_f at_t =
    let whole = ap (λ l. own ++ (l ++ rest)) is.behind ∙ (ap (λ l. own ++ l) (append_assoc old is.more rest) ∙ sym (append_assoc own old (is.more ++ rest))) in
    subst (λ l. IsPlaced numbers home t l (number_under numbers n)) (sym whole)
    (subst (λ ns. IsPlaced numbers home t ((own ++ old) ++ (is.more ++ rest)) (number_under ns n)) (sym is.numbers_are)
    (placed numbers types fates is.more is.copied (length own + length old) (own ++ old) rest (sym (length-append own old)) n home t at_f at_t))

-- ---- numbers

-- each of so many has a number
pub numbers_long : (first : ℕ) (bs : List Bool) (ns : List ℕ) → length bs ≡ length ns → length bs ≡ length (numbers_of first bs ns)
numbers_long first [] ns long = refl
numbers_long first (b ∷ bs) [] long = absurd (omega (arith, long))
numbers_long first (true ∷ bs) (n ∷ ns) long = let r = numbers_long (first + 1) bs ns (omega (arith, long)) in omega (arith, r)
numbers_long first (false ∷ bs) (n ∷ ns) long = let r = numbers_long first bs ns (omega (arith, long)) in omega (arith, r)

-- what isn't copied keeps the number that it had
pub uncopied_under : (first : ℕ) (flags : List Bool) (others : List ℕ) (n : ℕ) → length flags ≡ length others → flag_under flags n ≡ false
    → number_under (numbers_of first flags others) n ≡ number_under others n
uncopied_under first [] [] n long h = refl
uncopied_under first (true ∷ bs) (o ∷ os) zero long h = let wrong : ⊥ = cc in absurd wrong
uncopied_under first (true ∷ bs) (o ∷ os) (suc n) long h = uncopied_under (first + 1) bs os n (omega (arith, long)) h
uncopied_under first (false ∷ bs) (o ∷ os) zero long h = refl
uncopied_under first (false ∷ bs) (o ∷ os) (suc n) long h = uncopied_under first bs os n (omega (arith, long)) h
uncopied_under first _ _ n long h = absurd (omega (arith, long))

-- copies are numbered from the first on
pub copied_behind : (first : ℕ) (flags : List Bool) (others : List ℕ) (n : ℕ) → length flags ≡ length others → flag_under flags n ≡ true → first ≤ number_under (numbers_of first flags others) n
copied_behind first (b ∷ bs) [] n long h = absurd (omega (arith, long))
copied_behind first (true ∷ bs) (o ∷ os) zero long h = omega arith
copied_behind first (true ∷ bs) (o ∷ os) (suc n) long h = let r = copied_behind (first + 1) bs os n (omega (arith, long)) h in omega (arith, r)
copied_behind first (false ∷ bs) (o ∷ os) (suc n) long h = copied_behind first bs os n (omega (arith, long)) h
copied_behind first _ _ _ long h = no_true h

-- each number from the first on, as far as those go whose flags are set, is one's
pub kept_from : (start : ℕ) (flags : List Bool) (others : List ℕ) (n : ℕ) → length flags ≡ length others → start ≤ n → n < start + copied_count flags
    → (m : ℕ) × (flag_under flags m ≡ true) × (number_under (numbers_of start flags others) m ≡ n)
kept_from start [] others n long low high = absurd (omega (arith, low, high))
kept_from start (b ∷ bs) [] n long low high = absurd (omega (arith, long))
kept_from start (false ∷ bs) (o ∷ os) n long low high = let r = kept_from start bs os n (omega (arith, long)) low high in (suc r.0, r.1, r.2)
kept_from start (true ∷ bs) (o ∷ os) n long low high = go (equal_or_past start n low) (λ l. kept_from (start + 1) bs os n (omega (arith, long)) l (omega (arith, high)))
  where
    go : (start ≡ n) ⊎ (start + 1 ≤ n) → (start + 1 ≤ n → (m : ℕ) × (flag_under bs m ≡ true) × (number_under (numbers_of (start + 1) bs os) m ≡ n))
        → (m : ℕ) × (flag_under (true ∷ bs) m ≡ true) × (number_under (numbers_of start (true ∷ bs) (o ∷ os)) m ≡ n)
    go (inl e) rest = (zero, refl, e)
    go (inr l) rest = let r = rest l in (suc r.0, r.1, r.2)

-- ---- numbers of types

-- each has a flag, and what it stands for
each_flagged : (fates : List Fate) → length (map copies fates) ≡ length (map stood fates)
each_flagged fates = length-map fates copies ∙ sym (length-map fates stood)

-- as many numbers as fates
pub numbers_by_long : (first : ℕ) (fates : List Fate) → length (numbers_by first fates) ≡ length fates
numbers_by_long first fates = sym (numbers_long first (map copies fates) (map stood fates) (each_flagged fates)) ∙ length-map fates copies

-- a type that stands for one has its number
pub stands_under : (first : ℕ) (fates : List Fate) (n k : ℕ) → slice_get fates n ≡ Some (fate.Stands k) → number_under (numbers_by first fates) n ≡ k
stands_under first fates n k e = uncopied_under first (map copies fates) (map stood fates) n (each_flagged fates) (flag_is_copied fates n ∙ ap (λ o. option_map_or copies o false) e)
    ∙ ap (λ o. unwrap_or o 0) (mapped_at stood fates n (fate.Stands k) e)

-- a copy's number is the first or past it
pub copied_past : (first : ℕ) (fates : List Fate) (n : ℕ) → is_copied fates n ≡ true → first ≤ number_under (numbers_by first fates) n
copied_past first fates n h = copied_behind first (map copies fates) (map stood fates) n (each_flagged fates) (flag_is_copied fates n ∙ h)

-- copies stand behind what is carried before them
pub fates_rise : (first : ℕ) (fates : List Fate) (carried : ℕ → Bool) → ((n : ℕ) → carried n ≡ true → is_copied fates n ≡ false → number_under (numbers_by first fates) n < first)
    → Rises (number_under (numbers_by first fates)) carried (is_copied fates)
fates_rise first fates carried low k n held set before = numbers_rise first (map copies fates) (map stood fates) carried (sym (each_flagged fates))
    (λ m h e. low m h (sym (flag_is_copied fates m) ∙ e)) k n held (flag_is_copied fates n ∙ set) (elim before [ inl less ↦ inl less | inr bare ↦ inr (flag_is_copied fates k ∙ bare) ])

-- each number from the first copy on, as far as copies go, is a copy's
pub copied_from : (first : ℕ) (fates : List Fate) (n : ℕ) → first ≤ n → n < first + copies_of fates → (m : ℕ) × (is_copied fates m ≡ true) × (number_under (numbers_by first fates) m ≡ n)
copied_from first fates n low high =
    let r = kept_from first (map copies fates) (map stood fates) n (each_flagged fates) low high in (r.0, sym (flag_is_copied fates r.0) ∙ r.1, r.2)
