-- Lists by the numbers of their items, and what is found in each.
use Rattle.std.proofs.Common.{rules as std_rules, ◌≡◌, ◌⊎◌, refl, ap, subst, ◌∙◌, ℕ, zero, suc, ◌<◌, ◌≤◌, arith, take, length-append, true, List, [], ◌∷◌, ◌++◌, length, Option, Some, None, slice_get, IfSome}
use Rattle.std.proofs.lemmas.Option.{slice_get_within}
use Rattle.std.specs.List.{AllByRecursion}
use Rattle.wit_model.specs.Text.{Text}
use Rattle.comp_bytes.proofs.Readers.{bind_some}
use Rattle.comp_meaning.specs.{Follow.each, Follow.given, Follow.is_filled, Rules.distinct}
use Rattle.read_shown.specs.Trees.{AllAt}
use Rattle.base_lemmas.proofs.{Lists.front_at as at_front, Lists.front_or_end, Options.some_is}
use Rattle.comp_meaning.proofs.RulesLemmas.{not_twice as twice}

-- an item of the front, or the last
pub at_end : {A : Type 0} (xs : List A) (x y : A) (n : ℕ) → slice_get (xs ++ x ∷ []) n ≡ Some y → (slice_get xs n ≡ Some y) ⊎ ((n ≡ length xs) × (x ≡ y))
at_end xs x y n e = front_or_end xs x n y e

pub in_front : {A : Type 0} (xs : List A) (k n : ℕ) (x : A) → slice_get (take k xs) n ≡ Some x → slice_get xs n ≡ Some x
in_front (y ∷ xs) (suc k) zero x e = e
in_front (y ∷ xs) (suc k) (suc n) x e = in_front xs k n x e
in_front [] (suc k) n x e = absurd cc
in_front _ _ n x e = absurd cc

-- a list that others may come behind
pub record Front {A : Type 0} (xs ys : List A) : Type 0 where
  pub kept : (n : ℕ) (x : A) → slice_get xs n ≡ Some x → slice_get ys n ≡ Some x
  pub long : length xs ≤ length ys

pub front_same : {A : Type 0} (xs : List A) → Front xs xs
front_same xs = record { kept = λ n x e. e; long = omega arith }

pub front_more : {A : Type 0} (xs ys : List A) → Front xs (xs ++ ys)
front_more xs ys = record { kept = at_front xs ys; long = (let l = length-append xs ys in omega (arith, l)) }

pub none_at : {A : Type 0} (P : ℕ → A → Type 0) → AllAt P []
none_at P n x e = absurd cc

pub all_more : {A : Type 0} (P : ℕ → A → Type 0) (xs : List A) (x : A) → AllAt P xs → P (length xs) x → AllAt P (xs ++ x ∷ [])
all_more P xs x all here n y e = search (std_rules, at_end)

pub all_weaker : {A : Type 0} (P Q : ℕ → A → Type 0) (xs : List A) → ((n : ℕ) (x : A) → n < length xs → P n x → Q n x) → AllAt P xs → AllAt Q xs
all_weaker P Q xs weaker all n x e = weaker n x (slice_get_within xs n x e) (all n x e)

pub some_weaker : {A : Type 0} (P Q : A → Type 0) → ((x : A) → P x → Q x) → (o : Option A) → IfSome o P → IfSome o Q
some_weaker y z weaker u h = search std_rules

-- ---- what is found for each

module _ {A B : Type 0} (f : A → Option B) where
  pub each_found : (P : B → Type 0) → ((x : A) (y : B) → f x ≡ Some y → P y) → (xs : List A) (ys : List B) → each f xs ≡ Some ys → AllByRecursion P ys
  each_found P found [] ys e = subst (AllByRecursion P) (some_is [] ys e) tt
  each_found P found (x ∷ xs) ys e =
      let first = bind_some (f x) _ ys e in
      let more = bind_some (each f xs) _ ys first.2 in
      subst (AllByRecursion P) (some_is (first.0 ∷ more.0) ys more.2) (found x first.0 first.1, each_found P found xs more.0 more.1)

  pub each_filled : (xs : List A) (ys : List B) → each f xs ≡ Some ys → is_filled xs ≡ true → is_filled ys ≡ true
  each_filled y ys e h = search std_rules

  pub given_found : (P : B → Type 0) → ((x : A) (y : B) → f x ≡ Some y → P y) → (o : Option A) (p : Option B) → given f o ≡ Some p → IfSome p P
  given_found y found z p e = search std_rules

-- ---- lists in two parts

-- a list that isn't empty has a last item
pub last_of : {A : Type 0} (x : A) (xs : List A) → (front : List A) × (last : A) × (x ∷ xs ≡ front ++ last ∷ [])
last_of x [] = ([], x, refl)
last_of x (y ∷ xs) = let more = last_of y xs in (x ∷ more.0, more.1, ap (λ zs. x ∷ zs) more.2)

-- ---- what stands in a list

-- where no text stands twice, it stands at one number
pub one_place : (xs : List Text) → distinct xs ≡ true → (i j : ℕ) (x : Text) → slice_get xs i ≡ Some x → slice_get xs j ≡ Some x → i ≡ j
one_place xs apart i j x e f = search (std_rules, twice)

-- the first that is found
abbrev pub or_else : {A : Type 0} → Option A → Option A → Option A
or_else None rest = rest
or_else (Some x) rest = Some x

abbrev pub first_some : {A B : Type 0} → (A → Option B) → List A → Option B
first_some f [] = None
first_some f (x ∷ xs) = or_else (f x) (first_some f xs)

pub first_found : {A B : Type 0} (f : A → Option B) (xs : List A) (y : B) → first_some f xs ≡ Some y → (n : ℕ) × (x : A) × (slice_get xs n ≡ Some x) × (f x ≡ Some y)
first_found f [] y e = absurd cc
first_found {B = B} f (x ∷ xs) y e = by (f x) refl e (first_found f xs y)
  where
    by : (o : Option B) → f x ≡ o → or_else o (first_some f xs) ≡ Some y → (first_some f xs ≡ Some y → (n : ℕ) × (w : _) × (slice_get xs n ≡ Some w) × (f w ≡ Some y)) → (n : ℕ) × (w : _)
        × (slice_get (x ∷ xs) n ≡ Some w) × (f w ≡ Some y)
    by None is h rest = let r = rest h in (suc r.0, r.1, r.2, r.3)
    by (Some z) is h rest = (zero, x, refl, is ∙ h)

pub first_there : {A B : Type 0} (f : A → Option B) (xs : List A) (n : ℕ) (x : A) (y : B) → slice_get xs n ≡ Some x → f x ≡ Some y → (z : B) × (first_some f xs ≡ Some z)
first_there f [] n x y e h = absurd cc
first_there f (w ∷ xs) zero x y e h = (y, ap (λ o. or_else o (first_some f xs)) (ap f (some_is w x e) ∙ h))
first_there {B = B} f (w ∷ xs) (suc n) x y e h = by (f w) (first_there f xs n x y e h)
  where
    by : (o : Option B) → (z : B) × (first_some f xs ≡ Some z) → (z : B) × (or_else o (first_some f xs) ≡ Some z)
    by None rest = rest
    by (Some z) rest = (z, refl)
