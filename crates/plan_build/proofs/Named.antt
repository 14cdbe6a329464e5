-- Maps whose keys are names, and those whose keys are of imports and exports.
use Rattle.std.proofs.Common.{rules as std_rules, ◌≡◌, refl, sym, subst, ap, ◌∙◌, ℕ, Bool, true, ◌&&◌, not, List, [], ◌∷◌, map, String}
use Rattle.std.specs.{Borrow.Bor, List.list_any}
use Rattle.std.specs.declared.alloc.Global.{Global}
use Rattle.wit_model.specs.declared.model.WorldKey.{WorldKey}
use Rattle.wit_model.specs.{Text.Text, Text.text_of, Text.text_eq, Rules.are_distinct}
use Rattle.plan_meaning.specs.{Plan.PlannedKey, Plan.PlannedItem, PlanRules.names_of, PlanRules.same_key, PlanRules.keys_differ, Built.planned_key}
use Rattle.plan_build.specs.PlanOf.{stated_entry, stated_number, built_number}
use Rattle.plan_build.specs.declared.plan.{PlannedKey.PlannedKey as GivenKey, PlannedItem.PlannedItem as GivenItem}
use Rattle.plan_build.proofs.Mapping.{differ}
use Rattle.base_lemmas.proofs.{Elements.any_of_map, Lists.map_of_map}
use Rattle.wit_model.specs.contracts.model.WorldKeyPartialEq.TheImpl as world_key

-- ---- lists whose names, or keys, differ

pub texts_differ : (ts : List Text) → differ text_eq ts ≡ are_distinct ts
texts_differ [] = refl
texts_differ (t ∷ ts) = ap (λ b. not (list_any (text_eq t) ts) && b) (texts_differ ts)

pub names_apart : {A X : Type 0} (g : A → Text × X) (xs : List A) → are_distinct (names_of (map g xs)) ≡ true → are_distinct (map (λ a. (g a).0) xs) ≡ true
names_apart {A} {X} g xs h = ap are_distinct (sym (map_of_map (λ (e : Text × X). e.0) g xs)) ∙ h

pub keys_apart : (es : List (PlannedKey × PlannedItem)) → differ same_key (map (λ e. e.0) es) ≡ keys_differ es
keys_apart [] = refl
keys_apart (e ∷ es) = (λ j. not (any_of_map (same_key e.0) (λ (x : PlannedKey × PlannedItem). x.0) es j) && keys_apart es j)

pub entries_apart : (es : List (GivenKey × GivenItem)) → keys_differ (map stated_entry es) ≡ true → differ same_key (map (λ e. (stated_entry e).0) es) ≡ true
entries_apart es h = ap (differ same_key) (sym (map_of_map (λ (e : PlannedKey × PlannedItem). e.0) stated_entry es)) ∙ (keys_apart (map stated_entry es) ∙ h)

pub same_key_flip : (a b : PlannedKey) → same_key a b ≡ same_key b a
same_key_flip x y = search std_rules

abbrev pub key_test : WorldKey → WorldKey → Bool
key_test = world_key.ghosts.eq

pub same_keys : (a b : WorldKey) → key_test a b ≡ same_key (planned_key a) (planned_key b)
same_keys x y = search std_rules

-- ---- numbers under their names

-- maps of the same numbers, read as any kind of number
pub numbers_agree : {N : Type 0} (f : N → ℕ) (es : List (String Global × N)) (xs : List (Bor Text × N)) → map built_number es ≡ map stated_number xs
    → map {B = Text × ℕ} (λ e. (text_of e.0, f e.1)) es ≡ map {B = Text × ℕ} (λ e. (e.0.now, f e.1)) xs
numbers_agree {N} f es xs h =
    let read : Text × N → Text × ℕ = λ x. (x.0, f x.1) in
    sym (map_of_map read built_number es) ∙ (ap (map read) h ∙ map_of_map read stated_number xs)

pub numbers_apart : {N : Type 0} (f : N → ℕ) (xs : List (Bor Text × N)) → are_distinct (names_of (map {B = Text × ℕ} (λ e. (e.0.now, f e.1)) xs)) ≡ true → are_distinct (map (λ e. e.0.now) xs) ≡ true
numbers_apart {N} f xs h = let read : Bor Text × N → Text × ℕ = λ e. (e.0.now, f e.1) in names_apart read xs h

-- the same, where the map was built of a list that is this one, if no name stands twice
pub numbers_stand : {N : Type 0} (f : N → ℕ) (es : List (String Global × N)) (xs ys : List (Bor Text × N)) → ys ≡ xs
    → (are_distinct (map (λ e. e.0.now) ys) ≡ true → map built_number es ≡ map stated_number ys)
    → are_distinct (names_of (map {B = Text × ℕ} (λ e. (e.0.now, f e.1)) xs)) ≡ true → map {B = Text × ℕ} (λ e. (text_of e.0, f e.1)) es ≡ map {B = Text × ℕ} (λ e. (e.0.now, f e.1)) xs
numbers_stand {N} f es xs ys is h apart =
    let here = subst (λ (zs : List (Bor Text × N)). are_distinct (map (λ e. e.0.now) zs) ≡ true → map built_number es ≡ map stated_number zs) is h in
    numbers_agree f es xs (here (numbers_apart f xs apart))
