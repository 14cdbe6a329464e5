-- Lists whose elements pass a test.
use Rattle.std.proofs.Common.{rules as std_rules, ◌≡◌, refl, Bool, true, ◌&&◌, List, [], ◌∷◌, ◌++◌, map, filter, filter_map, Option, drop}
use Rattle.std.proofs.lemmas.Bool.{cases_Bool, lt-ltb, and_from as both}
use Rattle.std.specs.{Prelude.if◌then◌else◌, List.list_all}
use Rattle.wit_model.specs.Rules.{passes, has_items}
use Rattle.print_grammar.specs.WellNamed.{are_well_some}
use Rattle.base_lemmas.proofs.{Bools.left_of, Bools.right_of, Elements.joined_well}

-- what is made of each element
pub each_well : {X Y : Type 0} (known : X → Bool) (shown : X → Y) (well : Y → Bool) → ((x : X) → known x ≡ true → well (shown x) ≡ true) → (xs : List X) → list_all known xs ≡ true
    → list_all well (map shown xs) ≡ true
each_well known shown well each [] h = refl
each_well known shown well each (x ∷ xs) h = both (well (shown x)) _ (each x (left_of _ _ h)) (each_well known shown well each xs (right_of (known x) _ h))

-- what is made of each element that passes another test
pub kept_well : {X Y : Type 0} (known test : X → Bool) (shown : X → Y) (well : Y → Bool) → ((x : X) → known x ≡ true → test x ≡ true → well (shown x) ≡ true) → (xs : List X) → list_all known xs ≡ true
    → list_all well (map shown (filter test xs)) ≡ true
kept_well known test shown well each [] h = refl
kept_well known test shown well each (x ∷ xs) h = search (std_rules, cases_Bool, both, left_of, right_of, kept_well known test shown well each xs (right_of (known x) _ h))

-- what is given by some elements
pub given_well : {X Y : Type 0} (known : X → Bool) (give : X → Option Y) (well : Y → Bool) → ((x : X) → known x ≡ true → passes well (give x) ≡ true) → (xs : List X) → list_all known xs ≡ true
    → list_all well (filter_map give xs) ≡ true
given_well known give well each [] h = refl
given_well known give well each (x ∷ xs) h = search (std_rules, left_of, right_of, both, given_well known give well each xs (right_of (known x) _ h))

-- two tests of each element
pub all_both : {X : Type 0} (p q : X → Bool) (xs : List X) → list_all p xs ≡ true → list_all q xs ≡ true → list_all (λ x. p x && q x) xs ≡ true
all_both p q [] h g = refl
all_both p q (x ∷ xs) h g = search (std_rules, left_of, both, right_of, all_both p q xs (right_of (p x) _ h) (right_of (q x) _ g))

-- a list with an element, each of which passes
pub some_well : {X Y : Type 0} (well : Y → Bool) (shown : X → Y) (xs : List X) → has_items xs ≡ true → list_all well (map shown xs) ≡ true → are_well_some well (map shown xs) ≡ true
some_well well shown y some h = search std_rules

-- one list with an element behind another
pub joined_some : {X : Type 0} (well : X → Bool) (xs ys : List X) → are_well_some well xs ≡ true → are_well_some well ys ≡ true → are_well_some well (xs ++ ys) ≡ true
joined_some well [] ys h g = g
joined_some well (x ∷ xs) ys h g = search (std_rules, both, lt-ltb, joined_well, right_of)

-- a list, or what follows its first element
pub written_well : {X : Type 0} (p : X → Bool) (b : Bool) (xs : List X) → list_all p xs ≡ true → list_all p (if b then drop 1 xs else xs) ≡ true
written_well p x xs h = search std_rules
