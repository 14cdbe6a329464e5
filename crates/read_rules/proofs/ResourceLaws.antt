-- Names of resources, added to a set one by one.
use Rattle.std.proofs.Common.{rules as std_rules, ◌≡◌, refl, sym, ap, ◌∙◌, ℕ, ◌+◌, ◌<◌, ◌≤◌, Bool, true, false, ◌&&◌, ◌||◌, cond, List, [], ◌∷◌, ◌++◌, map, drop, length, get_or}
use Rattle.std.proofs.{Math.ListN.drop_of_length-le, lemmas.List.drop_more, lemmas.List.map-append, lemmas.List.Folds.list_any-append}
use Rattle.std.specs.{Borrow.Bor, List.list_any}
use Rattle.wit_model.specs.Text.{Text, text_eq}
use Rattle.plan_meaning.specs.NumberedRules.{is_no_part, resources_of}
use Rattle.read_rules.specs.declared.views.ViewType.{ViewType}
use Rattle.read_rules.specs.{Tables.now_of, Views.numbered_type}
use Rattle.base_lemmas.proofs.Bools.{absorbed, or_false, or_line}

-- what passes is found where it stands
stands : (test : Text → Bool) (a : Text) (ks : List (Bor (List ℕ))) → list_any (λ o. text_eq a o.now) ks ≡ true → test a ≡ true → list_any test (map now_of ks) ≡ true
stands test a [] among passes = absurd (cc)
stands test a (k ∷ ks) among passes = go (λ later. stands test a ks later passes) (text_eq a k.now) refl among
  where
    go : (list_any (λ o. text_eq a o.now) ks ≡ true → list_any test (map now_of ks) ≡ true) → (v : Bool) → text_eq a k.now ≡ v → (v || list_any (λ o. text_eq a o.now) ks) ≡ true
        → (test k.now || list_any test (map now_of ks)) ≡ true
    go again x e h = search std_rules

pub nothing_added : (test : Text → Bool) (ks : List (Bor (List ℕ))) (name : Bor (List ℕ)) (r : Bool) → r ≡ false
    → list_any test (map now_of ks) ≡ (list_any test (map now_of ks) || (r && test name.now))
nothing_added test ks name r e = search std_rules

pub name_added : (test : Text → Bool) (ks new : List (Bor (List ℕ))) (name : Bor (List ℕ)) (r : Bool) → r ≡ true → new ≡ cond (list_any (λ o. text_eq name.now o.now) ks) ks (ks ++ name ∷ [])
    → list_any test (map now_of new) ≡ (list_any test (map now_of ks) || (r && test name.now))
name_added test ks new name r e added = go (list_any (λ o. text_eq name.now o.now) ks) refl ∙ ap (λ b. list_any test (map now_of ks) || (b && test name.now)) (sym e)
  where
    go : (v : Bool) → list_any (λ o. text_eq name.now o.now) ks ≡ v → list_any test (map now_of new) ≡ (list_any test (map now_of ks) || test name.now)
    go true h = search (std_rules, absorbed (list_any test (map now_of ks)) (test name.now) (stands test name.now ks h), stands test name.now ks h)
    go false h = search (std_rules, map-append, list_any-append, or_false)

pub one_or_none : (test : Text → Bool) (name : Text) (others : List Text) (v : Bool) → list_any test (cond v (name ∷ others) others) ≡ ((v && test name) || list_any test others)
one_or_none test name others x = search std_rules

first_resource : (test : Text → Bool) (x : ViewType) (xs : List ViewType)
    → list_any test (resources_of (numbered_type x ∷ map numbered_type xs)) ≡ ((is_no_part x.declared && test x.name.now) || list_any test (resources_of (map numbered_type xs)))
first_resource test x xs = one_or_none test x.name.now (resources_of (map numbered_type xs)) (is_no_part x.declared)

module _ (test : Text → Bool) (xs : List ViewType) (i : ℕ) where
  abbrev left : ℕ → Bool
  left n = list_any test (resources_of (map numbered_type (drop n xs)))

  pub resource_turn : (d : ViewType) → i < length xs → (old new : List Text) (r : Bool) → r ≡ is_no_part (get_or xs i d).declared
      → list_any test new ≡ (list_any test old || (r && test (get_or xs i d).name.now)) → {v : Bool} → (list_any test old || left i) ≡ v → (list_any test new || left (i + 1)) ≡ v
  resource_turn d more old new r is added kept = search (std_rules, drop_more, first_resource, or_line)

  pub resources_end : (ks : List Text) → length xs ≤ i → {v : Bool} → (list_any test ks || left i) ≡ v → list_any test ks ≡ v
  resources_end ks past kept = search (std_rules, or_false, drop_of_length-le)
