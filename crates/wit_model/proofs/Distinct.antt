-- Nothing stands twice in a list exactly where each is new when it is added to those before it.
use Rattle.std.proofs.Common.{rules as std_rules, ◌≡◌, refl, sym, ap, ◌∙◌, ℕ, ◌+◌, ◌<◌, ◌≤◌, Bool, true, false, ◌&&◌, ◌||◌, not, cond, List, [], ◌∷◌, ◌++◌, map, drop, take, length, get_or}
use Rattle.std.proofs.{Math.ListN.drop_of_length-le, lemmas.Slice.Eq.bytes_eq-Decides}
use Rattle.std.proofs.lemmas.{List.drop-map, List.drop_more, List.map-append, List.take-map, List.take_more, List.Folds.list_any-append}
use Rattle.std.specs.List.{list_all, list_any}
use Rattle.wit_model.specs.{Text.Text, Text.text_eq, Rules.are_distinct}
use Rattle.base_lemmas.proofs.{Bools.both_ways as either_way, Elements.any_of_map as list_any_mapped}

pub not_is : (a b : Bool) → not a ≡ b → a ≡ not b
not_is x b e = search std_rules

pub text_eq_flip : (a b : Text) → text_eq a b ≡ text_eq b a
text_eq_flip a b = either_way (text_eq a b) (text_eq b a) (λ h. (bytes_eq-Decides b a).1 (sym ((bytes_eq-Decides a b).0 h))) (λ h. (bytes_eq-Decides a b).1 (sym ((bytes_eq-Decides b a).0 h)))

regroup : (a b c d : Bool) → (not a && ((c && not b) && d)) ≡ ((not a && c) && (not b && d))
regroup x b c d = search std_rules

one_more : (a b c e : Bool) → (not (a || (b || false)) && (c && not e)) ≡ ((not a && c) && not (b || e))
one_more x b c e = search std_rules

module _ {K : Type 0} (same : K → K → Bool) where
  -- whether each is new in turn, after those before
  abbrev pub adds_new : List K → List K → Bool
  adds_new before [] = true
  adds_new before (t ∷ ts) = not (list_any (same t) before) && adds_new (before ++ t ∷ []) ts

  -- whether none is like a later one
  abbrev pub are_apart : List K → Bool
  are_apart [] = true
  are_apart (t ∷ ts) = not (list_any (same t) ts) && are_apart ts

  -- none of the list is among those before
  abbrev miss : List K → List K → Bool
  miss before ts = list_all (λ t. not (list_any (same t) before)) ts

  -- one turn of a walk that adds the key of each to the keys that it has seen
  module _ {A B : Type 0} (f : A → K) (now : B → K) (xs : List A) (i : ℕ) (x : A) (ks : List B) (k : B) where
    -- whether the key was seen
    abbrev pub is_among : Bool
    is_among = list_any (λ o. same (now k) (now o)) ks

    turn : i < length xs → x ≡ get_or xs i x → now k ≡ f x → adds_new (map now ks) (drop i (map f xs)) ≡ (not is_among && adds_new (map now ks ++ now k ∷ []) (drop (i + 1) (map f xs)))
    turn h is e =
        let here : drop i (map f xs) ≡ now k ∷ drop (i + 1) (map f xs) = drop-map f i xs ∙ (ap (map f) (drop_more xs i x h) ∙ (ap (λ z. f z ∷ map f (drop (i + 1) xs)) (sym is)
        ∙ (ap (λ t. t ∷ map f (drop (i + 1) xs)) (sym e) ∙ ap (λ ts. now k ∷ ts) (sym (drop-map f (i + 1) xs))))) in
        ap (adds_new (map now ks)) here ∙ ap (λ b. not b && adds_new (map now ks ++ now k ∷ []) (drop (i + 1) (map f xs))) (list_any_mapped (same (now k)) now ks)

    one_key : (new : List B) → is_among ≡ false → new ≡ cond is_among ks (ks ++ k ∷ []) → map now new ≡ map now ks ++ now k ∷ []
    one_key new fresh added = ap (map now) (added ∙ ap (λ b. cond b ks (ks ++ k ∷ [])) fresh) ∙ map-append now ks (k ∷ [])

    -- the keys that were seen, with one that is new
    pub seen_turn : (new : List B) (r : Bool) → i < length xs → x ≡ get_or xs i x → now k ≡ f x → r ≡ not is_among → r ≡ true → new ≡ cond is_among ks (ks ++ k ∷ []) → map now ks ≡ take i (map f xs)
        → map now new ≡ take (i + 1) (map f xs)
    seen_turn new r h is e tells new_one added before =
        let more : take (i + 1) (map f xs) ≡ take i (map f xs) ++ now k ∷ [] = take-map f (i + 1) xs ∙ (ap (map f) (take_more xs i x h) ∙ (map-append f (take i xs) (get_or xs i x ∷ [])
        ∙ (ap (λ z. map f (take i xs) ++ f z ∷ []) (sym is) ∙ (ap (λ t. map f (take i xs) ++ t ∷ []) (sym e) ∙ ap (λ ts. ts ++ now k ∷ []) (sym (take-map f i xs)))))) in
        one_key new (not_is is_among true (sym tells ∙ new_one)) added ∙ (ap (λ ts. ts ++ now k ∷ []) before ∙ sym more)

    -- a key that is new
    pub new_turn : (new : List B) (r v : Bool) → i < length xs → x ≡ get_or xs i x → now k ≡ f x → r ≡ not is_among → r ≡ true → new ≡ cond is_among ks (ks ++ k ∷ [])
        → adds_new (map now ks) (drop i (map f xs)) ≡ v → adds_new (map now new) (drop (i + 1) (map f xs)) ≡ v
    new_turn new r v h is e tells new_one added before =
        let fresh : is_among ≡ false = not_is is_among true (sym tells ∙ new_one) in
        ap (λ ts. adds_new ts (drop (i + 1) (map f xs))) (one_key new fresh added)
        ∙ (sym (ap (λ b. not b && adds_new (map now ks ++ now k ∷ []) (drop (i + 1) (map f xs))) fresh) ∙ (sym (turn h is e) ∙ before))

    -- a key that was seen
    pub old_turn : (r : Bool) → i < length xs → x ≡ get_or xs i x → now k ≡ f x → r ≡ not is_among → r ≡ false → adds_new (map now ks) (drop i (map f xs)) ≡ false
    old_turn r h is e tells seen = turn h is e ∙ ap (λ b. not b && adds_new (map now ks ++ now k ∷ []) (drop (i + 1) (map f xs))) (not_is is_among false (sym tells ∙ seen))

  -- past the end nothing is left to add
  pub last_turn : {A : Type 0} (f : A → K) (xs : List A) (i : ℕ) (before : List K) → length xs ≤ i → adds_new before (drop i (map f xs)) ≡ true
  last_turn f xs i before past = ap (λ ts. adds_new before ts) (drop-map f i xs ∙ ap (map f) (drop_of_length-le xs past))

  module _ (flip : (a b : K) → same a b ≡ same b a) where
    miss_more : (before : List K) (x : K) (ts : List K) → miss (before ++ x ∷ []) ts ≡ (miss before ts && not (list_any (same x) ts))
    miss_more before x [] = refl
    miss_more before x (t ∷ ts) = ap (λ b. not b && miss (before ++ x ∷ []) ts) (list_any-append (same t) before (x ∷ []))
        ∙ (ap (λ b. not (list_any (same t) before || (same t x || false)) && b) (miss_more before x ts)
        ∙ (one_more (list_any (same t) before) (same t x) (miss before ts) (list_any (same x) ts)
        ∙ ap (λ b. (not (list_any (same t) before) && miss before ts) && not (b || list_any (same x) ts)) (flip t x)))

    adds_miss : (before ts : List K) → adds_new before ts ≡ (miss before ts && are_apart ts)
    adds_miss before [] = refl
    adds_miss before (t ∷ ts) = ap (λ b. not (list_any (same t) before) && b) (adds_miss (before ++ t ∷ []) ts)
        ∙ (ap (λ b. not (list_any (same t) before) && (b && are_apart ts)) (miss_more before t ts) ∙ regroup (list_any (same t) before) (list_any (same t) ts) (miss before ts) (are_apart ts))

    miss_none : (ts : List K) → miss [] ts ≡ true
    miss_none [] = refl
    miss_none (t ∷ ts) = miss_none ts

    pub adds_apart : (ts : List K) → adds_new [] ts ≡ are_apart ts
    adds_apart ts = adds_miss [] ts ∙ ap (λ b. b && are_apart ts) (miss_none ts)

texts_apart : (ts : List Text) → are_apart text_eq ts ≡ are_distinct ts
texts_apart [] = refl
texts_apart (t ∷ ts) = ap (λ b. not (list_any (text_eq t) ts) && b) (texts_apart ts)

-- no text stands twice
pub adds_distinct : (ts : List Text) → adds_new text_eq [] ts ≡ are_distinct ts
adds_distinct ts = adds_apart text_eq text_eq_flip ts ∙ texts_apart ts
