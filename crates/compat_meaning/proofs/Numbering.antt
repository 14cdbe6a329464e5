-- Texts by number: a number is one text's, and stays.
use Rattle.std.proofs.Common.{rules as std_rules, ◌≡◌, refl, sym, ap, ◌∙◌, ℕ, ◌+◌, ◌==◌, suc, ◌↔◌, IsTrue, Bool, true, false, cond, not, ◌||◌, List, [], ◌∷◌, ◌++◌, map, Option, Some, None, option_map, slice_get, true≢false}
use Rattle.std.proofs.lemmas.{Bool.eqb-true, Bool.eq-eqb, List.map-append}
use Rattle.std.specs.{Borrow.Bor, List.list_any, List.position_or_len}
use Rattle.wit_model.specs.Text.{Text, text_eq}
use Rattle.wit_model.proofs.{VersionLaws.same_text, TextLemmas.text_same}
use Rattle.compat_meaning.specs.declared.part.Entry.{Entry}
use Rattle.compat_meaning.specs.Numbered.{BorrowedTexts, number_in, KeepsNumbers, AreNumbered, AllNumbersTell}
use Rattle.base_lemmas.proofs.Options.{some_is, some_same}

abbrev is_text : Text → Bor (List ℕ) → Bool
is_text t k = text_eq t k.now

-- ---- a text more

-- what is appended changes no number
number-append : (ks ls : BorrowedTexts) → KeepsNumbers ks (ks ++ ls)
number-append [] ls t n h = absurd (let z : ⊥ = cc in z)
number-append (k ∷ ks) ls t n h = by (text_eq t k.now) h (number-append ks ls t)
  where
    by : (b : Bool) → cond b (Some 0) (option_map suc (number_in ks t)) ≡ Some n → ((m : ℕ) → number_in ks t ≡ Some m → number_in (ks ++ ls) t ≡ Some m)
        → cond b (Some 0) (option_map suc (number_in (ks ++ ls) t)) ≡ Some n
    by x e later = search std_rules

step : (b : Bool) (o : Option ℕ) (m : ℕ) → (b ≡ false → o ≡ Some m) → cond b (Some 0) (option_map suc o) ≡ Some (cond (not b) (1 + m) 0)
step x o m h = search std_rules

placed : (t : Text) (ks : BorrowedTexts) → list_any (is_text t) ks ≡ true → number_in ks t ≡ Some (position_or_len (is_text t) ks)
placed t [] h = absurd (true≢false (sym h))
placed t (k ∷ ks) h = step (text_eq t k.now) (number_in ks t) (position_or_len (is_text t) ks) (λ e. placed t ks (sym (ap (λ c. c || list_any (is_text t) ks) e) ∙ h))

placed_last : (t : Text) (k : Bor (List ℕ)) (ks : BorrowedTexts) → list_any (is_text t) ks ≡ false → text_eq t k.now ≡ true → number_in (ks ++ k ∷ []) t ≡ Some (position_or_len (is_text t) ks)
placed_last t k [] h e = ap (λ b. cond b (Some 0) None) e
placed_last t k (x ∷ xs) h e = step (text_eq t x.now) (number_in (xs ++ k ∷ []) t) (position_or_len (is_text t) xs) (λ f. placed_last t k xs (sym (ap (λ c. c || list_any (is_text t) xs) f) ∙ h) e)

abbrev inserted : BorrowedTexts → Bor (List ℕ) → BorrowedTexts
inserted ks k = cond (list_any (is_text k.now) ks) ks (ks ++ k ∷ [])

-- the number of a text that is inserted
pub number_inserted : (ks : BorrowedTexts) (k : Bor (List ℕ)) → number_in (inserted ks k) k.now ≡ Some (position_or_len (is_text k.now) ks)
number_inserted ks k = search (std_rules, placed, placed_last, same_text)

pub numbers_kept : (ks : BorrowedTexts) (k : Bor (List ℕ)) → KeepsNumbers ks (inserted ks k)
numbers_kept ks k t n h = search (std_rules, number-append)

-- the numbers of texts stay
numbers_stay : (ks js : BorrowedTexts) (ts : List Text) (ns : List ℕ) → KeepsNumbers ks js → map (number_in ks) ts ≡ map Some ns → map (number_in js) ts ≡ map Some ns
numbers_stay ks js [] [] kept h = refl
numbers_stay ks js (t ∷ ts) (n ∷ ns) kept h =
    let first : number_in ks t ≡ Some n = cc in
    let rest : map (number_in ks) ts ≡ map Some ns = cc in
    λ i. kept t n first i ∷ numbers_stay ks js ts ns kept rest i
numbers_stay ks js _ _ kept h = absurd (let z : ⊥ = cc in z)

-- the number of one text more
pub numbers_more : (ks js : BorrowedTexts) (ts : List Text) (ns : List ℕ) (t : Text) (n : ℕ) → KeepsNumbers ks js → map (number_in ks) ts ≡ map Some ns → number_in js t ≡ Some n
    → map (number_in js) (ts ++ t ∷ []) ≡ map Some (ns ++ n ∷ [])
numbers_more ks js ts ns t n kept h g = search (std_rules, map-append, numbers_stay)

-- ---- one number, one text

number_there : (ks : BorrowedTexts) (t : Text) (n : ℕ) → number_in ks t ≡ Some n → slice_get (map (λ k. k.now) ks) n ≡ Some t
number_there [] t n h = absurd (let z : ⊥ = cc in z)
number_there (k ∷ ks) t n h = by (text_eq t k.now) refl h (number_there ks t)
  where
    by : (b : Bool) → text_eq t k.now ≡ b → cond b (Some 0) (option_map suc (number_in ks t)) ≡ Some n
        → ((m : ℕ) → number_in ks t ≡ Some m → slice_get (map (λ k. k.now) ks) m ≡ Some t) → slice_get (k.now ∷ map (λ k. k.now) ks) n ≡ Some t
    by x e h later = search std_rules

one_text : (ks : BorrowedTexts) (t u : Text) (n : ℕ) → number_in ks t ≡ Some n → number_in ks u ≡ Some n → t ≡ u
one_text ks t u n h g = some_is t u (sym (number_there ks t n h) ∙ number_there ks u n g)

pub numbers_tell : (ks : BorrowedTexts) (t u : Text) (n m : ℕ) → number_in ks t ≡ Some n → number_in ks u ≡ Some m → (n == m) ≡ text_eq t u
numbers_tell ks t u n m h g = search (std_rules, eq-eqb, some_same, text_same, same_text, one_text, eqb-true)

-- so numbers that are equal are those of equal texts
pub same_numbers : (ks : BorrowedTexts) (t u : Text) (n m : ℕ) → number_in ks t ≡ Some n → number_in ks u ≡ Some m → IsTrue (n == m) ↔ (t ≡ u)
same_numbers ks t u n m h g = (λ e. text_same t u (sym (numbers_tell ks t u n m h g) ∙ e), λ q. numbers_tell ks t u n m h g ∙ same_text t u q)

-- and the numbers of entries tell their keys
pub all_tell : (ks : BorrowedTexts) (ds es : List Entry) → AreNumbered ks ds → AreNumbered ks es → AllNumbersTell ds es
all_tell ks ds es h g d e x y = numbers_tell ks d.key.text.now e.key.text.now d.key.number e.key.number (h d x) (g e y)
