-- Walks along lists, step by step.
use Rattle.std.proofs.Common.{rules as std_rules, ◌≡◌, ◌≢◌, sym, ap, ◌∙◌, ℕ, ◌+◌, ◌<◌, ◌≤◌, false, List, [], ◌∷◌, ◌++◌, map, drop, length, get_or, Option, Some, None, option_map}
use Rattle.std.proofs.{Math.ListN.drop_of_length-le, lemmas.List.drop_more, lemmas.List.map-append, lemmas.List.drop-map as drop_mapped}
use Rattle.comp_bytes.specs.Reading.{◌>>=◌}
use Rattle.comp_meaning.specs.Follow.{each}
use Rattle.plan_meaning.specs.NumberedViews.{NumberedSight, NumberedView}
use Rattle.read_rules.proofs.SightLaws.{append_line}
use Rattle.base_lemmas.proofs.Lists.{append_none}

-- the view of an import, which shows types alone
abbrev pub imported_sight : ℕ × NumberedView → NumberedSight
imported_sight i = record { place = i.0; view = i.1; whole = false }

-- A walk that adds behind what is there one for each item.
module _ {A B C : Type 0} (f : A → B) (g : B → C) (xs : List A) (i : ℕ) (front : List C) {v : List C} (kept : front ++ map g (drop i (map f xs)) ≡ v) where
  pub one_mapped : (d : A) → i < length xs → {D : Type 0} (h : D → C) (old : List D) (y : D) (new : List D) → map h old ≡ front → h y ≡ g (f (get_or xs i d)) → new ≡ old ++ y ∷ []
      → map h new ++ map g (drop (i + 1) (map f xs)) ≡ v
  one_mapped d more h old y new are is added = search (std_rules, map-append, append_line, drop_mapped, drop_more)

  pub all_mapped : length xs ≤ i → front ≡ v
  all_mapped past = sym (append_none front) ∙ (ap (λ l. front ++ map g l) (sym (drop_mapped f i xs ∙ ap (map f) (drop_of_length-le xs past))) ∙ kept)

-- ---- what each item gives, if all give something

module _ {A B C D : Type 0} (f : B → Option C) (g : A → B) (h : D → C) (xs : List A) (i : ℕ) (d : A) (more : i < length xs) (front : List D) (v : Option (List C))
    (kept : option_map (λ ys. map h front ++ ys) (each f (drop i (map g xs))) ≡ v) where
  next : option_map (λ ys. map h front ++ ys) (f (g (get_or xs i d)) >>= λ y. each f (map g (drop (i + 1) xs)) >>= λ ys. Some (y ∷ ys)) ≡ v
  next = sym (ap (λ l. option_map (λ ys. map h front ++ ys) (each f l)) (drop_mapped g i xs ∙ ap (map g) (drop_more xs i d more))) ∙ kept

  pub one_missing : (o : Option D) → o ≡ None → option_map h o ≡ f (g (get_or xs i d)) → None ≡ v
  one_missing o none is = search (std_rules, next)

  pub one_found : (o : Option D) (y : D) → o ≡ Some y → option_map h o ≡ f (g (get_or xs i d)) → (new : List D) → new ≡ front ++ y ∷ []
      → option_map (λ ys. map h new ++ ys) (each f (drop (i + 1) (map g xs))) ≡ v
  one_found o y some is new added = search (std_rules, map-append, drop_mapped, next, append_line)

pub none_left : {A : Type 0} (o : Option A) → ((x : A) → o ≢ Some x) → o ≡ None
none_left y not_some = search std_rules

-- the same, where what is added is the item itself
pub one_pushed : {A B C : Type 0} (f : A → B) (g : B → C) (xs : List A) (i : ℕ) (front : List C) {v : List C} (kept : front ++ map g (drop i (map f xs)) ≡ v) (d : A) → i < length xs
    → (new : List C) (y : C) → y ≡ g (f (get_or xs i d)) → new ≡ front ++ y ∷ [] → new ++ map g (drop (i + 1) (map f xs)) ≡ v
one_pushed f g xs i front kept d more new y is added = search (std_rules, append_line, drop_mapped, drop_more)
