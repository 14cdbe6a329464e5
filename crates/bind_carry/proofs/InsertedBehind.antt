-- Entries whose keys are new stand behind those that were there.
use Rattle.base_lemmas.proofs.{Bools.left_of as first_true, Bools.right_of as second_true, Elements.contains-later}
use Rattle.bind_copy.specs.Copies.{AreNewCopied, IsEntryUnder, IsKeyUnder, become_one, is_key_under, is_new_under}
use Rattle.bind_union.proofs.Lists.{no_true}
use Rattle.indexmap.specs.IndexMap.{insert_all, insert_entry}
use Rattle.std.proofs.Common.{Bool, List, [], ap, append-nil, append_assoc, arith, cond, false, if◌then◌else◌, not, refl, rules as std_rules, sym, true, ℕ, ◌++◌, ◌||◌, ◌∙◌, ◌∷◌, ◌≡◌}
use Rattle.std.proofs.lemmas.{Bool.and_from as both, Map.Made.IsDistinct-keys_filter}
use Rattle.std.specs.{List.AllByRecursion, List.AllZip, List.Contains, List.IsDistinct, List.filter, List.list_all, List.list_any, Map.keys_of}
use Rattle.wit_model.specs.{Valid.key_eq, declared.model.WorldItem.WorldItem, declared.model.WorldKey.WorldKey}

-- what a filter leaves passes
pub filter_passes : {X : Type 0} (p : X → Bool) (xs : List X) → list_all p (filter p xs) ≡ true
filter_passes p [] = refl
filter_passes p (x ∷ xs) = search (std_rules, both, filter_passes p xs)

-- where all pass, it leaves all
pub filter_whole : {A : Type 0} (p : A → Bool) (xs : List A) → ((x : A) → Contains xs x → p x ≡ true) → filter p xs ≡ xs
filter_whole p [] each = refl
filter_whole p (x ∷ xs) each = ap (λ b. cond b (x ∷ filter p xs) (filter p xs)) (each x (0, omega arith, refl)) ∙ ap (λ l. x ∷ l) (filter_whole p xs (λ y held. each y (contains-later x xs y held)))

pub none_more : {X : Type 0} (p : X → Bool) (xs : List X) (y : X) → not (list_any p xs) ≡ true → p y ≡ false → not (list_any p (xs ++ y ∷ [])) ≡ true
none_more p [] y h k = ap (λ b. not (b || false)) k
none_more p (x ∷ xs) y h k = go (p x) h (λ rest. none_more p xs y rest k)
  where
    go : (b : Bool) → not (b || list_any p xs) ≡ true → (not (list_any p xs) ≡ true → not (list_any p (xs ++ y ∷ [])) ≡ true) → not (b || list_any p (xs ++ y ∷ [])) ≡ true
    go true h more = no_true h
    go false h more = more h

module _ (interfaces types : List ℕ) where
  -- a key's copy is what the key is under its new number
  under_test : (k y x : WorldKey) → IsKeyUnder interfaces k y → key_eq y x ≡ is_key_under interfaces k x
  under_test x y u is = search std_rules

  -- and it isn't that of a key that doesn't become one with it
  copy_apart : (k l y : WorldKey) → IsKeyUnder interfaces k y → become_one interfaces k l ≡ false → is_key_under interfaces l y ≡ false
  copy_apart x l y is h = search std_rules

  insert_new : (es : List (WorldKey × WorldItem)) (k y : WorldKey) (i : WorldItem) → IsKeyUnder interfaces k y → is_new_under interfaces es k ≡ true → insert_entry key_eq es y i ≡ es ++ (y, i) ∷ []
  insert_new [] k y i is new = refl
  insert_new (e ∷ es) k y i is new = go (is_key_under interfaces k e.0) refl new (λ rest. insert_new es k y i is rest)
    where
      go : (b : Bool) → is_key_under interfaces k e.0 ≡ b → not (b || list_any (λ (x : WorldKey × WorldItem). is_key_under interfaces k x.0) es) ≡ true
          → (is_new_under interfaces es k ≡ true → insert_entry key_eq es y i ≡ es ++ (y, i) ∷ []) → insert_entry key_eq (e ∷ es) y i ≡ (e ∷ es) ++ (y, i) ∷ []
      go true q h more = no_true h
      go false q h more = ap (λ b. if b then (e.0, i) ∷ es else e ∷ insert_entry key_eq es y i) (under_test k y e.0 is ∙ q) ∙ ap (λ l. e ∷ l) (more h)

  abbrev test : List (WorldKey × WorldItem) → WorldKey × WorldItem → Bool
  test es d = is_new_under interfaces es d.0

  still_new : (es : List (WorldKey × WorldItem)) (k : WorldKey) (y : WorldKey × WorldItem) → IsKeyUnder interfaces k y.0 → (ds : List (WorldKey × WorldItem)) → list_all (test es) ds ≡ true
      → AllByRecursion (λ l. become_one interfaces k l ≡ false) (keys_of ds) → list_all (test (es ++ y ∷ [])) ds ≡ true
  still_new es k y is [] new apart = refl
  still_new es k y is (d ∷ ds) new apart =
      search (std_rules, both, none_more, first_true, copy_apart, second_true, still_new es k y is ds (second_true (test es d) (list_all (test es) ds) new) apart.1)

  pub all_behind : (es olds news : List (WorldKey × WorldItem)) → AllZip (IsEntryUnder interfaces types) olds news → list_all (λ (d : WorldKey × WorldItem). is_new_under interfaces es d.0) olds ≡ true
      → IsDistinct (become_one interfaces) (keys_of olds) → insert_all key_eq es news ≡ es ++ news
  unfolding IsDistinct
  all_behind es [] [] zip new distinct = sym (append-nil es)
  all_behind es (d ∷ ds) (y ∷ ys) zip new distinct = search (
    std_rules,
    insert_new,
    first_true,
    still_new,
    second_true,
    append_assoc,
    all_behind (es ++ y ∷ []) ds ys zip.1 (still_new es d.0 y zip.0.0 ds (second_true (test es d) (list_all (test es) ds) new) distinct.0) distinct.1,
  )
  all_behind es _ _ zip new distinct = absurd zip

  -- so do copies of those whose keys are new
  pub new_behind : (here olds news : List (WorldKey × WorldItem)) → IsDistinct (become_one interfaces) (keys_of olds) → AreNewCopied interfaces types here olds news
      → insert_all key_eq here news ≡ here ++ news
  new_behind here olds news apart copied =
      all_behind here (filter (test here) olds) news (copied apart) (filter_passes (test here) olds) (IsDistinct-keys_filter (become_one interfaces) (test here) olds apart)
