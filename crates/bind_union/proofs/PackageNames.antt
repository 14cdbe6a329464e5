-- Names in packages that were joined.
use Rattle.std.proofs.Common.{rules as std_rules, ◌≡◌, ◌⊎◌, inl, inr, refl, sym, ap, subst, ◌∙◌, ℕ, zero, suc, Bool, true, false, ◌||◌, cond, List, ◌∷◌, ◌++◌, arith, Option, Some, option_map}
use Rattle.std.proofs.lemmas.{Bool.and_from as both, List.Folds.list_any-append}
use Rattle.std.specs.{Prelude.bytes_eq, List.list_all, List.list_any, List.Contains, Map.keys_of, HashMap.get_by_text}
use Rattle.wit_model.proofs.{RulesLemmas.is_id_some, Elements.none-in}
use Rattle.wit_model.specs.declared.model.{Package.Package, InterfaceId.InterfaceId, WorldId.WorldId}
use Rattle.wit_model.specs.{Text.Text, Text.text_of, Text.text_eq, Rules.is_id, Rules.is_world_name}
use Rattle.bind_union.specs.Merged.{interface_names, world_names, is_name, JoinedNames, none, met, left, added}
use Rattle.bind_union.proofs.{Lists.no_true, Listed.under_text, Listed.lookup_append, Listed.lookup_first}
use Rattle.base_lemmas.proofs.{Bools.left_of as first_true, Bools.right_of as second_true, Elements.any_of_map, Elements.any-at, Elements.lookup_stands, Elements.contains-later, Maps.lookup_of_map}

-- what each name passes, what is added passes
pub names_pass : (number : ℕ → ℕ) (copies left_out : ℕ → Bool) (own : List (Text × ℕ)) (p q : Text × ℕ → Bool)
    → ((name : Text) (old : ℕ) → copies old ≡ true → p (name, old) ≡ true → q (name, number old) ≡ true)
    → (olds news : List (Text × ℕ)) → JoinedNames number copies left_out own olds news → list_all p olds ≡ true → list_all q news ≡ true
names_pass number copies left_out own p q one _ _ none h = refl
names_pass number copies left_out own p q one _ _ (met name old olds news c rest) h = names_pass number copies left_out own p q one olds news rest (second_true (p (name, old)) _ h)
names_pass number copies left_out own p q one _ _ (left name old olds news c rest) h = names_pass number copies left_out own p q one olds news rest (second_true (p (name, old)) _ h)
names_pass number copies left_out own p q one _ _ (added name old olds news c l n rest) h =
    both _ _ (one name old c (first_true _ _ h)) (names_pass number copies left_out own p q one olds news rest (second_true (p (name, old)) _ h))

-- a name that is added stood there, and isn't left out
pub added_from : (number : ℕ → ℕ) (copies left_out : ℕ → Bool) (own olds news : List (Text × ℕ)) → JoinedNames number copies left_out own olds news → (t : Text) → is_name t news ≡ true → (name : Text)
    × (old : ℕ) × Contains olds (name, old) × (left_out old ≡ false) × (text_eq t name ≡ true)
added_from number copies left_out own _ _ none t h = no_true h
added_from number copies left_out own _ _ (met name old olds news c rest) t h = let r = added_from number copies left_out own olds news rest t h in
    (r.0, r.1, contains-later (name, old) olds (r.0, r.1) r.2, r.3, r.4)
added_from number copies left_out own _ _ (left name old olds news c rest) t h = let r = added_from number copies left_out own olds news rest t h in
    (r.0, r.1, contains-later (name, old) olds (r.0, r.1) r.2, r.3, r.4)
added_from number copies left_out own _ _ (added name old olds news c l n rest) t h = go (added_from number copies left_out own olds news rest t) (text_eq t name) refl h
  where
    go : (is_name t news ≡ true → (x : Text) × (k : ℕ) × Contains olds (x, k) × (left_out k ≡ false) × (text_eq t x ≡ true)) → (b : Bool) → text_eq t name ≡ b → (b || is_name t news) ≡ true
        → (x : Text) × (k : ℕ) × Contains ((name, old) ∷ olds) (x, k) × (left_out k ≡ false) × (text_eq t x ≡ true)
    go more x e h = search (std_rules, contains-later)

-- what stood under a name is met, left out or copied
pub joined_name : (number : ℕ → ℕ) (copies left_out : ℕ → Bool) (own olds news : List (Text × ℕ)) → JoinedNames number copies left_out own olds news → (name : Text) (n : ℕ) → Contains olds (name, n)
    → left_out n ≡ false → Contains own (name, number n) ⊎ (copies n ≡ true)
joined_name number copies left_out own _ _ none name n c k = none-in (name, n) c
joined_name number copies left_out own _ _ (left t old olds news l rest) name n (zero, d, e) k = no_true (sym k ∙ subst (λ (x : Text × ℕ). left_out x.1 ≡ true) e l)
joined_name number copies left_out own _ _ (met t old olds news held rest) name n (zero, l, e) k = inl (subst (λ (x : Text × ℕ). Contains own (x.0, number x.1)) e held)
joined_name number copies left_out own _ _ (added t old olds news c l new rest) name n (zero, d, e) k = inr (subst (λ (x : Text × ℕ). copies x.1 ≡ true) e c)
joined_name number copies left_out own _ _ (left t old olds news l rest) name n (suc i, d, e) k = joined_name number copies left_out own olds news rest name n (i, omega (arith, d), e) k
joined_name number copies left_out own _ _ (met t old olds news held rest) name n (suc i, d, e) k = joined_name number copies left_out own olds news rest name n (i, omega (arith, d), e) k
joined_name number copies left_out own _ _ (added t old olds news c l new rest) name n (suc i, d, e) k = joined_name number copies left_out own olds news rest name n (i, omega (arith, d), e) k

pub name_append : (t : Text) (xs ys : List (Text × ℕ)) → is_name t (xs ++ ys) ≡ (is_name t xs || is_name t ys)
name_append t xs ys = list_any-append (λ (e : Text × ℕ). text_eq t e.0) xs ys

-- ---- as lists of texts and numbers

pub interfaces_by_name : (p : Package) (name : Text) → option_map (λ id. id.0) (get_by_text p.interfaces name) ≡ under_text name (interface_names p)
interfaces_by_name p name = sym (lookup_of_map (λ t. bytes_eq name t) text_of (λ (id : InterfaceId). id.0) p.interfaces.entries)

pub worlds_by_name : (p : Package) (name : Text) → option_map (λ id. id.0) (get_by_text p.worlds name) ≡ under_text name (world_names p)
worlds_by_name p name = sym (lookup_of_map (λ t. bytes_eq name t) text_of (λ (id : WorldId). id.0) p.worlds.entries)

pub world_name_listed : (p : Package) (name : Text) → is_world_name p name ≡ is_name name (world_names p)
world_name_listed p name = search (std_rules, any_of_map)

-- a number that is found under a name stands under it
pub found_name : (name : Text) (n : ℕ) (es : List (Text × ℕ)) → is_id n (under_text name es) ≡ true → is_name name es ≡ true
found_name name n es h = let x = lookup_stands (λ t. bytes_eq name t) es n (is_id_some n (under_text name es) h) in any-at (λ (e : Text × ℕ). text_eq name e.0) es (x.0, n) x.1 x.2

-- a number that was found stays so
pub still_found : (name : Text) (n : ℕ) (own more : List (Text × ℕ)) → is_id n (under_text name own) ≡ true → is_id n (under_text name (own ++ more)) ≡ true
still_found name n own more h = search (std_rules, under_text, no_true, lookup_first)

no_key : (t : Text) (own : List (Text × ℕ)) → is_name t own ≡ false → list_any (λ k. bytes_eq t k) (keys_of own) ≡ false
no_key t own h = any_of_map (λ k. bytes_eq t k) (λ (e : Text × ℕ). e.0) own ∙ h

this_or_later : {P : Type 0} (n : ℕ) (b : Bool) (old : ℕ) (later : Option ℕ) → is_id n (cond b (Some old) later) ≡ true → (old ≡ n → P) → (is_id n later ≡ true → P) → P
this_or_later n x old later h here more = search std_rules

-- a copy is found under its name
pub copy_found : (number : ℕ → ℕ) (copies left_out : ℕ → Bool) (own olds news : List (Text × ℕ)) → JoinedNames number copies left_out own olds news → (name : Text) (n : ℕ)
    → ((t : Text) → Contains own (t, number n) → ⊥) → left_out n ≡ false → is_id n (under_text name olds) ≡ true → (is_id (number n) (under_text name news) ≡ true) × (is_name name own ≡ false)
copy_found number copies left_out own _ _ none name n fresh kept h = no_true h
copy_found number copies left_out own _ _ (met t old olds news c rest) name n fresh kept h = this_or_later n (bytes_eq name t) old (under_text name olds) h
    (λ k. absurd (fresh t (subst (λ (x : ℕ). Contains own (t, number x)) k c))) (copy_found number copies left_out own olds news rest name n fresh kept)
copy_found number copies left_out own _ _ (left t old olds news c rest) name n fresh kept h = this_or_later n (bytes_eq name t) old (under_text name olds) h
    (λ k. no_true (sym kept ∙ subst (λ (x : ℕ). left_out x ≡ true) k c)) (copy_found number copies left_out own olds news rest name n fresh kept)
copy_found number copies left_out own _ _ (added t old olds news c l new rest) name n fresh kept h =
    go (copy_found number copies left_out own olds news rest name n fresh kept) (bytes_eq name t) refl h
  where
    go : (is_id n (under_text name olds) ≡ true → (is_id (number n) (under_text name news) ≡ true) × (is_name name own ≡ false)) → (b : Bool) → text_eq name t ≡ b
        → is_id n (cond b (Some old) (under_text name olds)) ≡ true → (is_id (number n) (cond b (Some (number old)) (under_text name news)) ≡ true) × (is_name name own ≡ false)
    go more y e k = search std_rules

pub found_behind : (name : Text) (n : ℕ) (own news : List (Text × ℕ)) → is_id n (under_text name news) ≡ true → is_name name own ≡ false → is_id n (under_text name (own ++ news)) ≡ true
found_behind name n own news h new = ap (is_id n) (lookup_append (λ t. bytes_eq name t) own news (no_key name own new)) ∙ h
