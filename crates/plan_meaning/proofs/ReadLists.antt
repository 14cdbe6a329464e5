-- Lists in which no number or no name stands twice.
use Rattle.std.proofs.Common.{rules as std_rules, ◌≡◌, refl, sym, ap, ◌∙◌, ℕ, zero, suc, ◌+◌, arith, Bool, true, false, not, ◌||◌, ◌==◌, cond, List, [], ◌∷◌, ◌++◌, filter, filter_map, count_by, Option, Some, None, option_map}
use Rattle.std.proofs.lemmas.{Bool.eqb-true, Bool.and_from as both, Bool.not-true as not_true, Bool.or_from as neither, Option.slice_get-map as get_of_map}
use Rattle.std.proofs.lemmas.{List.Folds.list_any-append, List.Sums.sum_by-append, List.Sums.sum_by-cons, Map.Keys.any_passes_from_place as get_any}
use Rattle.std.proofs.lemmas.Slice.Eq.{bytes_eq-Decides}
use Rattle.std.specs.List.{Contains, cons_option, list_all, list_any}
use Rattle.wit_model.specs.{Text.Text, Text.text_eq, Uses.has, Rules.are_distinct, Rules.is_id}
use Rattle.wit_model.proofs.{Elements.contains-get, VersionLaws.same_text}
use Rattle.plan_meaning.specs.{Plan.number_under, PlanRules.names_of, NumberedWorlds.are_once}
use Rattle.plan_meaning.proofs.Lists.{no_true}
use Rattle.base_lemmas.proofs.{Bools.left_of as first_true, Bools.right_of as second_true, Numbers.nothing_more}

pub never : {A : Type 0} (b : Bool) → b ≡ true → b ≡ false → A
never b h k = no_true (sym k ∙ h)

-- ---- how often a number stands there

abbrev pub times : ℕ → List ℕ → ℕ
times n ns = count_by (λ m. m == n) ns

pub one_more : (n k : ℕ) (ns : List ℕ) → times n (k ∷ ns) ≡ cond (k == n) 1 0 + times n ns
one_more n k ns = sum_by-cons (λ m. cond (m == n) 1 0) k ns

pub times_absent : (n : ℕ) (ns : List ℕ) → has ns n ≡ false → times n ns ≡ 0
times_absent n [] h = refl
times_absent n (k ∷ ns) h = go (k == n) refl (times_absent n ns)
  where
    go : (b : Bool) → (k == n) ≡ b → (has ns n ≡ false → times n ns ≡ 0) → times n (k ∷ ns) ≡ 0
    go true e rest = never (has (k ∷ ns) n) (ap (λ b. b || has ns n) e) h
    go false e rest = one_more n k ns ∙ (ap (λ b. cond b 1 0 + times n ns) e ∙ (nothing_more (times n ns) ∙ rest (sym (ap (λ b. b || has ns n) e) ∙ h)))

pub times_once : (n : ℕ) (ns : List ℕ) → are_once ns ≡ true → has ns n ≡ true → times n ns ≡ 1
times_once n [] once h = no_true h
times_once n (k ∷ ns) once h = go (k == n) refl (times_once n ns (second_true (not (has ns k)) (are_once ns) once))
  where
    go : (b : Bool) → (k == n) ≡ b → (has ns n ≡ true → times n ns ≡ 1) → times n (k ∷ ns) ≡ 1
    go true e rest =
        search (std_rules, eqb-true k n e, not_true (has ns k) (first_true (not (has ns k)) (are_once ns) once), first_true (not (has ns k)) (are_once ns) once, one_more n k ns, times_absent)
    go false e rest = search (std_rules, one_more, nothing_more)

pub times_filter : (test : ℕ → Bool) (n : ℕ) → test n ≡ true → (ns : List ℕ) → times n (filter test ns) ≡ times n ns
times_filter test n pass [] = refl
times_filter test n pass (k ∷ ns) = go (test k) refl (times_filter test n pass ns)
  where
    other : (b : Bool) → (k == n) ≡ b → test k ≡ false → times n ns ≡ cond b 1 0 + times n ns
    other true f e = never (test k) (ap test (eqb-true k n f) ∙ pass) e
    other false f e = sym (nothing_more (times n ns))

    go : (b : Bool) → test k ≡ b → times n (filter test ns) ≡ times n ns → times n (cond b (k ∷ filter test ns) (filter test ns)) ≡ times n (k ∷ ns)
    go true e rest = one_more n k (filter test ns) ∙ (ap (λ m. cond (k == n) 1 0 + m) rest ∙ sym (one_more n k ns))
    go false e rest = rest ∙ (other (k == n) refl e ∙ sym (one_more n k ns))

pub times_both : (n : ℕ) (xs ys : List ℕ) → times n (xs ++ ys) ≡ times n xs + times n ys
times_both n xs ys = sum_by-append (λ m. cond (m == n) 1 0) xs ys

-- the items of which something is this number
pub times_of : {A : Type 0} (h : A → Option ℕ) (n : ℕ) (xs : List A) → count_by (λ x. is_id n (h x)) xs ≡ times n (filter_map h xs)
times_of h n [] = refl
times_of h n (x ∷ xs) = sum_by-cons (λ y. cond (is_id n (h y)) 1 0) x xs ∙ (ap (λ m. cond (is_id n (h x)) 1 0 + m) (times_of h n xs) ∙ go (h x))
  where
    go : (o : Option ℕ) → cond (is_id n o) 1 0 + times n (filter_map h xs) ≡ times n (cons_option o (filter_map h xs))
    go None = nothing_more (times n (filter_map h xs))
    go (Some k) = sym (one_more n k (filter_map h xs))

-- ---- names that differ

pub name_there : (name : Text) (n : ℕ) (es : List (Text × ℕ)) → Contains es (name, n) → list_any (text_eq name) (names_of es) ≡ true
name_there name n es c = let at = contains-get es (name, n) c in
    get_any (text_eq name) (names_of es) at.0 name (get_of_map (λ (e : Text × ℕ). e.0) es at.0 ∙ ap (option_map (λ (e : Text × ℕ). e.0)) at.1) (same_text name name refl)

pub number_there : (name : Text) (n : ℕ) (es : List (Text × ℕ)) → are_distinct (names_of es) ≡ true → Contains es (name, n) → is_id n (number_under name es) ≡ true
number_there name n [] d (i, low, e) = absurd (omega (arith, low))
number_there name n (x ∷ es) d (zero, low, e) = search std_rules
number_there name n (x ∷ es) d (suc i, low, e) =
    let later : Contains es (name, n) = (i, omega (arith, low), e) in
    let absent = not_true (list_any (text_eq x.0) (names_of es)) (first_true (not (list_any (text_eq x.0) (names_of es))) (are_distinct (names_of es)) d) in
    go (text_eq name x.0) refl absent (number_there name n es (second_true (not (list_any (text_eq x.0) (names_of es))) (are_distinct (names_of es)) d) later) (name_there name n es later)
  where
    go : (b : Bool) → text_eq name x.0 ≡ b → list_any (text_eq x.0) (names_of es) ≡ false → is_id n (number_under name es) ≡ true → list_any (text_eq name) (names_of es) ≡ true
        → is_id n (cond b (Some x.1) (number_under name es)) ≡ true
    go true f absent rest there = search (std_rules, bytes_eq-Decides, never)
    go false f absent rest there = rest

pub distinct_both : (xs ys : List Text) → are_distinct xs ≡ true → are_distinct ys ≡ true → list_all (λ x. not (list_any (text_eq x) ys)) xs ≡ true → are_distinct (xs ++ ys) ≡ true
distinct_both [] ys d e apart = e
distinct_both (x ∷ xs) ys d e apart = search (
  std_rules,
  both,
  list_any-append,
  neither,
  not_true,
  first_true,
  second_true,
  distinct_both xs ys (second_true (not (list_any (text_eq x) xs)) (are_distinct xs) d) e (second_true (not (list_any (text_eq x) ys)) (list_all (λ y. not (list_any (text_eq y) ys)) xs) apart),
)

pub or_nothing : (a : Bool) → (a || false) ≡ true → a ≡ true
or_nothing x h = search std_rules
