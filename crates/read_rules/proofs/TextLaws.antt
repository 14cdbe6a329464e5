-- Tests of one text among several, and the names of parameters.
use Rattle.std.proofs.Common.{rules as std_rules, ◌≡◌, refl, ap, ◌∙◌, ℕ, Bool, true, false, ◌&&◌, ◌||◌, List, [], ◌∷◌, map, Result, IfOk}
use Rattle.std.proofs.lemmas.List.Folds.{list_all-map}
use Rattle.std.specs.{Borrow.Bor, List.list_all, List.list_any}
use Rattle.wit_model.specs.{Names.is_label, Text.Text, Text.text_eq}
use Rattle.comp_meaning.specs.Rules.{are_labels, distinct}
use Rattle.distinct_names.proofs.NameLaws.{labels_good}
use Rattle.read_rules.specs.Tables.{param_of}
use Rattle.base_lemmas.proofs.Lists.{map_of_map}
use Rattle.wit_model.proofs.TextLemmas.{text_same as same_text}

-- ---- one text among several

-- of several texts, one alone can be this one
pub any_same : (a : Text) (q : Text → Bool) (rs : List Text) → list_any (λ r. text_eq a r && q r) rs ≡ (list_any (text_eq a) rs && q a)
any_same a q [] = refl
any_same a q (r ∷ rs) = search (std_rules, same_text, any_same a q rs)

exchange : (a b c d : Bool) → ((a || b) || (c || d)) ≡ ((a || c) || (b || d))
exchange x b c d = search std_rules

pub any_either : {A : Type 0} (p q : A → Bool) (xs : List A) → list_any (λ x. p x || q x) xs ≡ (list_any p xs || list_any q xs)
any_either p q [] = refl
any_either p q (x ∷ xs) = ap (λ b. (p x || q x) || b) (any_either p q xs) ∙ exchange (p x) (q x) (list_any p xs) (list_any q xs)

pub any_none : {A : Type 0} (p : A → Bool) → ((x : A) → p x ≡ false) → (xs : List A) → list_any p xs ≡ false
any_none p none [] = refl
any_none p none (x ∷ xs) = ap (λ b. b || list_any p xs) (none x) ∙ any_none p none xs

-- ---- labels

named : (ps : List (Bor (List ℕ) × ℕ)) → map (λ x. x.0) (map param_of ps) ≡ map (λ x. x.0.now) ps
named ps = map_of_map (λ (x : Text × ℕ). x.0) param_of ps

module _ (ps : List (Bor (List ℕ) × ℕ)) where
  pub named_labels : list_all (λ x. is_label x.0.now) ps ≡ true → {E : Type 0} (r : Result Bool E) → IfOk r (λ b. b ≡ distinct (map (λ x. x.0.now) ps))
      → IfOk r (λ b. b ≡ are_labels (map (λ x. x.0) (map param_of ps)))
  named_labels all r h = search (std_rules, named, labels_good, list_all-map)

  pub named_otherwise : list_all (λ x. is_label x.0.now) ps ≡ false → false ≡ are_labels (map (λ x. x.0) (map param_of ps))
  named_otherwise some = search (std_rules, named, list_all-map)
