-- Marks that are set one after the other.
use Rattle.std.proofs.Common.{rules as std_rules, ◌≡◌, refl, sym, ap, subst, ◌∙◌, ℕ, ◌+◌, ◌<◌, ◌≤◌, Bool, false, ◌||◌, List, [], ◌∷◌, ◌++◌, length, map, take, get_or}
use Rattle.std.proofs.lemmas.{List.map-append, List.take_all, List.take_more, List.Folds.list_any-append}
use Rattle.std.specs.List.{flat_map}
use Rattle.plan_parts.specs.Marks.{is_marked}
use Rattle.plan_types.specs.Used.{Marks}
use Rattle.base_lemmas.proofs.Bools.{or_line}

or_none : (a : Bool) → a ≡ (a || false)
or_none x = search std_rules

pub marks_none : (old : List Bool) → Marks [] old old
marks_none old = record { many = refl; each = λ n within. or_none (is_marked old n) }

pub marks_both : (ps qs : List ℕ) (a b c : List Bool) → Marks ps a b → Marks qs b c → Marks (ps ++ qs) a c
marks_both ps qs a b c first second = search (std_rules, or_line, list_any-append)

flat_append : {A B : Type 0} (f : A → List B) (xs : List A) (x : A) → flat_map f (xs ++ x ∷ []) ≡ flat_map f xs ++ f x
flat_append f [] x = search std_rules
flat_append f (y ∷ xs) x = ap (λ l. f y ++ l) (flat_append f xs x) ∙ sym (append_line (f y) (flat_map f xs) (f x))
  where
    append_line : {B : Type 0} (ws bs cs : List B) → (ws ++ bs) ++ cs ≡ ws ++ (bs ++ cs)
    append_line [] bs cs = refl
    append_line (a ∷ ws) bs cs = ap (λ l. a ∷ l) (append_line ws bs cs)

-- the marks of so many items, and of one more
pub marks_next : {A : Type 0} (f : A → List ℕ) (xs : List A) (i : ℕ) (d : A) (a b c : List Bool) → i < length xs → Marks (flat_map f (take i xs)) a b → Marks (f (get_or xs i d)) b c
    → Marks (flat_map f (take (i + 1) xs)) a c
marks_next f xs i d a b c within before now =
    subst (λ ps. Marks ps a c) (sym (ap (flat_map f) (take_more xs i d within) ∙ flat_append f (take i xs) (get_or xs i d))) (marks_both (flat_map f (take i xs)) (f (get_or xs i d)) a b c before now)

pub marks_all : {A : Type 0} (f : A → List ℕ) (xs : List A) (i : ℕ) (a b : List Bool) → length xs ≤ i → Marks (flat_map f (take i xs)) a b → Marks (flat_map f xs) a b
marks_all f xs i a b past all = subst (λ l. Marks (flat_map f l) a b) (take_all i xs past) all

-- the same, where each item is a part
pub part_next : {A : Type 0} (f : A → ℕ) (xs : List A) (i : ℕ) (d : A) (a b c : List Bool) → i < length xs → Marks (map f (take i xs)) a b → Marks (f (get_or xs i d) ∷ []) b c
    → Marks (map f (take (i + 1) xs)) a c
part_next f xs i d a b c within before now =
    subst (λ ps. Marks ps a c) (sym (ap (map f) (take_more xs i d within) ∙ map-append f (take i xs) (get_or xs i d ∷ []))) (marks_both (map f (take i xs)) (f (get_or xs i d) ∷ []) a b c before now)

pub part_all : {A : Type 0} (f : A → ℕ) (xs : List A) (i : ℕ) (a b : List Bool) → length xs ≤ i → Marks (map f (take i xs)) a b → Marks (map f xs) a b
part_all f xs i a b past all = subst (λ l. Marks (map f l) a b) (take_all i xs past) all

pub itself_mapped : (xs : List ℕ) → map (λ x. x) xs ≡ xs
itself_mapped [] = refl
itself_mapped (x ∷ xs) = ap (λ l. x ∷ l) (itself_mapped xs)

pub twice_mapped : {A B C : Type 0} (f : B → C) (g : A → B) (xs : List A) → map (λ x. f (g x)) xs ≡ map f (map g xs)
twice_mapped f g [] = refl
twice_mapped f g (x ∷ xs) = ap (λ l. f (g x) ∷ l) (twice_mapped f g xs)
