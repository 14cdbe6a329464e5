-- Lists of texts in which none stands twice.
use Rattle.std.proofs.Common.{◌≡◌, refl, ap, ◌∙◌, true, false, not, ◌||◌, List, [], ◌∷◌, ◌++◌, arith}
use Rattle.std.proofs.lemmas.{List.Folds.list_any-append, Bool.and_from as both, Bool.not-true as no-longer}
use Rattle.std.specs.{List.Contains, List.AllByRecursion, List.IsDistinct, List.list_any}
use Rattle.wit_model.specs.Text.{Text, text_eq}
use Rattle.comp_meaning.specs.Rules.{distinct}
use Rattle.base_lemmas.proofs.{Bools.left_of as first_true, Bools.right_of as second_true, Elements.contains-later}

none-any : (t : Text) (ts : List Text) → AllByRecursion (λ y. text_eq t y ≡ false) ts → list_any (text_eq t) ts ≡ false
none-any t [] h = refl
none-any t (x ∷ xs) h = ap (λ b. b || list_any (text_eq t) xs) h.0 ∙ none-any t xs h.1

pub distinct-from : (ts : List Text) → IsDistinct text_eq ts → distinct ts ≡ true
unfolding IsDistinct
distinct-from [] d = refl
distinct-from (t ∷ ts) d = both _ _ (ap not (none-any t ts d.0)) (distinct-from ts d.1)

-- two lists, none of whose texts are the same
pub distinct-both : (xs ys : List Text) → distinct xs ≡ true → distinct ys ≡ true → ((x : Text) → Contains xs x → list_any (text_eq x) ys ≡ false) → distinct (xs ++ ys) ≡ true
distinct-both [] ys h g apart = g
distinct-both (x ∷ xs) ys h g apart = both _ _ (ap not (list_any-append (text_eq x) xs ys ∙ (λ i. no-longer (list_any (text_eq x) xs) (first_true _ _ h) i || apart x (0, omega arith, refl) i)))
    (distinct-both xs ys (second_true (not (list_any (text_eq x) xs)) _ h) g (λ y c. apart y (contains-later x xs y c)))
