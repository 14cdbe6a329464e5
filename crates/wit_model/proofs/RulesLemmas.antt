-- Lemmas on the words that the rules of validity are said with.
use Rattle.semver.specs.declared.Version.{Version}
use Rattle.std.proofs.Common.{rules as std_rules, Bool, List, Option, Some, [], arith, map, option_and_then, refl, slice_get, subst, true, ℕ, ◌&&◌, ◌++◌, ◌+◌, ◌∷◌, ◌≡◌}
use Rattle.std.proofs.lemmas.{List.map-append}
use Rattle.std.specs.Option.{option_eq}
use Rattle.wit_model.proofs.{Distinct.text_eq_flip, Entries.each_from_all, Entries.each_from_at}
use Rattle.wit_model.specs.Rules.{after_prefix, each_after, each_from, has_items, is_id, same_package_name, same_version}
use Rattle.wit_model.specs.Text.{Text, text_of}
use Rattle.wit_model.specs.declared.model.PackageName.{PackageName}

pub after_both : (ps qs bs : Text) → after_prefix (ps ++ qs) bs ≡ option_and_then (after_prefix qs) (after_prefix ps bs)
after_both [] qs bs = refl
after_both (p ∷ ps) qs [] = refl
after_both (p ∷ ps) qs (b ∷ bs) = search (std_rules, after_both ps qs bs)

pub items_of_map : {X Y : Type 0} (g : X → Y) (xs : List X) → has_items (map g xs) ≡ has_items xs
items_of_map g x = search std_rules

pub is_id_some : (n : ℕ) (o : Option ℕ) → is_id n o ≡ true → o ≡ Some n
is_id_some n x e = search std_rules

pub each_by_number : {A : Type 0} (test : ℕ → A → Bool) (xs : List A) → ((n : ℕ) (x : A) → slice_get xs n ≡ Some x → test n x ≡ true) → each_from test 0 xs ≡ true
each_by_number test xs all = each_from_all test 0 xs (λ n x e. let here : n ≡ 0 + n = omega arith in subst (λ (k : ℕ). test k x ≡ true) here (all n x e))

pub after_of_map : {A B : Type 0} (test : List B → B → Bool) (g : A → B) (before xs : List A) → each_after test (map g before) (map g xs) ≡ each_after (λ ys x. test (map g ys) (g x)) before xs
after_of_map test g before [] = refl
after_of_map test g before (x ∷ xs) = search (std_rules, map-append, after_of_map test g (before ++ x ∷ []) xs)

pub each_at : {A : Type 0} (test : ℕ → A → Bool) (xs : List A) (n : ℕ) (x : A) → each_from test 0 xs ≡ true → slice_get xs n ≡ Some x → test n x ≡ true
each_at test xs n x h e = let here : 0 + n ≡ n = omega arith in subst (λ (k : ℕ). test k x ≡ true) here (each_from_at test 0 xs n x h e)

pub version_flip : (a b : Option Version) → option_eq same_version a b ≡ option_eq same_version b a
version_flip x y = search std_rules

pub name_flip : (a b : PackageName) → same_package_name a b ≡ same_package_name b a
name_flip a b = λ i. text_eq_flip (text_of a.namespace) (text_of b.namespace) i && (text_eq_flip (text_of a.name) (text_of b.name) i && version_flip a.version b.version i)
