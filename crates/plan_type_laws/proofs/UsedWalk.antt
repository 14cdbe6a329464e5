-- What holds of each unnamed type that is used: what holds of those that are shown, and of the parts of each of which it holds.
use Rattle.std.proofs.Common.{rules as std_rules, ◌≡◌, refl, sym, ap, ◌∙◌, ℕ, ◌+◌, inl, inr, Bool, true, false, ◌==◌, List, [], ◌∷◌, ◌++◌, map, Option, Some, None, option_map, slice_get}
use Rattle.std.proofs.lemmas.{Bool.or_cases, Option.slice_get_within, Option.same_Some as same-some, Option.slice_get-map as get_of_map}
use Rattle.std.proofs.lemmas.List.Folds.{list_any-append}
use Rattle.std.specs.List.{AllByRecursion, Contains, flat_map}
use Rattle.wit_model.specs.{Text.Text, Tree.Form, Uses.has}
use Rattle.wit_model.proofs.Elements.{contains-has}
use Rattle.plan_meaning.specs.{NumberedRules.name_in, NumberedViews.AreTables, NumberedViews.Tables, Shapes.Shape, Shapes.IsShape, Shapes.node_shape}
use Rattle.plan_parts.specs.Marks.{IsUsed, is_marked, marked, part}
use Rattle.plan_types.specs.{Showings.NumberedShowing, Used.function_parts, Used.showing_parts, Used.used_parts, Used.AreUsed}

-- ---- lists

pub one_there : (k j : ℕ) → has (k ∷ []) j ≡ true → k ≡ j
one_there k j there = search std_rules

pub in_both : {R : Type 0} (xs ys : List ℕ) (k : ℕ) → (has xs k ≡ true → R) → (has ys k ≡ true → R) → has (xs ++ ys) k ≡ true → R
in_both xs ys k first second there = elim (or_cases (has xs k) (has ys k) (sym (list_any-append (λ m. m == k) xs ys) ∙ there)) [ inl h ↦ first h | inr h ↦ second h ]

-- what stands in one of the lists
pub in_flat : {A R : Type 0} (f : A → List ℕ) (P : A → Type 0) (k : ℕ) → ((x : A) → P x → has (f x) k ≡ true → R) → (xs : List A) → AllByRecursion P xs → has (flat_map f xs) k ≡ true → R
in_flat f P k one [] all there = let wrong : false ≡ true = there in absurd cc
in_flat f P k one (x ∷ xs) all there = in_both (f x) (flat_map f xs) k (one x all.0) (in_flat f P k one xs all.1) there

-- ---- shapes

pub unnamed_node : (f : Form) (ks : List ℕ) → name_in (node_shape f ks) ≡ None
unnamed_node x ks = search std_rules

-- a shape without a name is that of a form
pub form_there : (n : ℕ) (s : Shape) → name_in s ≡ None → IsShape n s → (form : Form) × (parts : List ℕ) × (s ≡ node_shape form parts)
form_there n s no_name x = search std_rules

no_parts : (n : ℕ) (s : Shape) (x : ℕ × Text) → name_in s ≡ Some x → IsShape n s → s.parts ≡ []
no_parts n s x is y = search std_rules

-- ---- what is used

module _ (t : Tables) (tables : AreTables t) (Fine : ℕ → Type 0) (inner : (n : ℕ) (s : Shape) → slice_get t.shapes n ≡ Some s → name_in s ≡ None → Fine (14 + n) → (k : ℕ)
    → has s.parts k ≡ true → Fine k) (showings : List NumberedShowing) (signatures : List ℕ)
    (shown : (n : ℕ) (s : Shape) → slice_get t.shapes n ≡ Some s → name_in s ≡ None → has (flat_map (showing_parts t) showings) (14 + n) ≡ true → Fine (14 + n))
    (called : (n : ℕ) (s : Shape) → slice_get t.shapes n ≡ Some s → name_in s ≡ None → has (flat_map (function_parts t) signatures) (14 + n) ≡ true → Fine (14 + n)) (marks : List Bool)
    (used : AreUsed t (used_parts t showings signatures) marks) where
  part_fine : (m k : ℕ) (ks : List ℕ) → ((r : Shape) → slice_get t.shapes m ≡ Some r → name_in r ≡ None → Fine (14 + m)) → slice_get (map (λ (s : Shape). s.parts) t.shapes) m ≡ Some ks
      → Contains ks (14 + k) → Fine (14 + k)
  part_fine m k ks whole parts there = by (slice_get t.shapes m) refl (sym (get_of_map (λ (s : Shape). s.parts) t.shapes m) ∙ parts)
    where
      later : (r : Shape) → slice_get t.shapes m ≡ Some r → has r.parts (14 + k) ≡ true → (o : Option (ℕ × Text)) → name_in r ≡ o → Fine (14 + k)
      later r r_at there None nameless = inner m r r_at nameless (whole r r_at nameless) (14 + k) there
      later r r_at there (Some x) is = let wrong : false ≡ true = sym (ap (λ l. has l (14 + k)) (no_parts m r x is (tables.shapes.each m r r_at))) ∙ there in absurd cc

      by : (o : Option Shape) → slice_get t.shapes m ≡ o → option_map (λ (s : Shape). s.parts) o ≡ Some ks → Fine (14 + k)
      by None e f = let wrong : None ≡ Some ks = f in absurd cc
      by (Some r) e f = later r e (ap (λ l. has l (14 + k)) (same-some r.parts ks f) ∙ contains-has ks (14 + k) there) (name_in r) refl

  by_use : (n : ℕ) → IsUsed (map (λ (s : Shape). s.parts) t.shapes) used.roots n → (s : Shape) → slice_get t.shapes n ≡ Some s → name_in s ≡ None → Fine (14 + n)
  by_use n (marked m is) s at no_name = in_both (flat_map (showing_parts t) showings) (flat_map (function_parts t) signatures) (14 + m) (shown m s at no_name) (called m s at no_name)
      (sym (used.shown m (slice_get_within t.shapes m s at)) ∙ is)
  by_use n (part m k ks before parts there) s at no_name = part_fine m k ks (by_use m before) parts there

  pub used_fine : (n : ℕ) (s : Shape) → is_marked marks n ≡ true → slice_get t.shapes n ≡ Some s → name_in s ≡ None → Fine (14 + n)
  used_fine n s is at no_name = by_use n ((used.marked n).0 is) s at no_name
