-- Equal numbers are equal trees and equal types of functions, so views agree where their numbers do.
use Rattle.std.proofs.Common.{rules as std_rules, arith, ◌≡◌, refl, sym, ap, ◌∙◌, ℕ, ◌<◌, Bool, true, not, ◌&&◌, ◌||◌, ◌==◌, List, [], ◌∷◌, ◌++◌, length, map, Option, Some, None, option_map, unwrap_or, slice_get, rules}
use Rattle.std.proofs.lemmas.Bool.{eqb-true, eq-eqb}
use Rattle.std.specs.{List.AllByRecursion, List.list_any, List.find, Option.option_map_or, Cmp.Lexicographic.pointwise}
use Rattle.wit_model.specs.{Text.Text, Text.text_eq, Tree.Tree, Meaning.Signature}
use Rattle.comp_meaning.specs.{Follow.instance_place, Agreement.agree_with_first}
use Rattle.comp_meaning.specs.{Same.same_tree, Same.same_declaration, Same.same_signature, Same.stand_in, Reads.Sight, Reads.all_agree}
use Rattle.comp_meaning.proofs.SameLaws.{trees_decide, signatures_decide}
use Rattle.plan_meaning.specs.NumberedViews.{FunctionShape, Tables, path_text, place_at, tree_at, signature_over, function_at, no_function, signature_at, IsPart, AllOf, PartsOf, AreTables, AreApart, IsOutside, NumberedType, NumberedFunction, declaration_of, shown_type, shown_function, NumberedSight, sight_of, same_number, same_shown, same_function, same_functions, same_types, same_whole, agree, agree_in_numbers, agrees_with_first, agree_with_first_in_numbers, TypePasses, FunctionPasses, IsOutsidePart, IsSight, NumbersTell, EachNumberTells, ViewsAgreeInNumbers, FirstViewsAgreeInNumbers}
use Rattle.plan_meaning.proofs.{ShapeLaws.one_number_apart, Lists.all_same, NumberedWorlds.path_number}
use Rattle.base_lemmas.proofs.{Bools.both_ways as either_way, Lists.append_of_map, Lists.length_of_map, Lists.within_there as slice_there, Elements.all_end}
use Rattle.base_lemmas.proofs.Numbers.{turned}
use Rattle.comp_meaning.specs.Same as same
use Rattle.comp_meaning.specs.Reads as reads
use Rattle.comp_meaning.specs.Agreement as agreement

path_is : (o p : Option Text) (x y : Text) → o ≡ Some x → p ≡ Some y → instance_place o ≡ instance_place p → o ≡ p
path_is o p x y eo ep h = search rules

both_parts : (P Q : ℕ → Type 0) (f : FunctionShape) → PartsOf P f → PartsOf Q f → PartsOf (λ k. P k × Q k) f
both_parts P Q f h g = (along f.params h.0 g.0, given f.result h.1 g.1)
  where
    along : (ps : List (Text × ℕ)) → AllByRecursion (λ (p : Text × ℕ). P p.1) ps → AllByRecursion (λ (p : Text × ℕ). Q p.1) ps → AllByRecursion (λ (p : Text × ℕ). P p.1 × Q p.1) ps
    along [] a b = tt
    along (p ∷ ps) a b = ((a.0, b.0), along ps a.1 b.1)

    given : (o : Option ℕ) → AllOf P o → AllOf Q o → AllOf (λ k. P k × Q k) o
    given None a b = tt
    given (Some k) a b = (a, b)

module _ (t : Tables) (tables : AreTables t) where
  -- ---- numbers and trees

  outside_apart : (a b : ℕ) → IsOutside t a → IsOutside t b → AreApart (place_at t) t.shapes a b
  outside_apart a b ha hb p q hp hq e = search rules

  tree_number : (a b : ℕ) → IsPart t a → IsPart t b → AreApart (place_at t) t.shapes a b → same_tree (tree_at t a) (tree_at t b) ≡ (a == b)
  tree_number a b ha hb apart = grind (arith, either_way, eq-eqb, one_number_apart, trees_decide, eqb-true)

  one_outside : (a b : ℕ) → IsOutsidePart t a → IsOutsidePart t b → tree_at t a ≡ tree_at t b → a ≡ b
  one_outside a b ha hb e = one_number_apart (place_at t) t.shapes tables.shapes a b ha.0 hb.0 (outside_apart a b ha.1 hb.1) e

  -- ---- numbers and types of functions

  abbrev param_tree : Text × ℕ → Text × Tree
  param_tree p = (p.0, tree_at t p.1)

  one_params : (ps qs : List (Text × ℕ)) → AllByRecursion (λ (p : Text × ℕ). IsOutsidePart t p.1) ps → AllByRecursion (λ (p : Text × ℕ). IsOutsidePart t p.1) qs
      → map param_tree ps ≡ map param_tree qs → ps ≡ qs
  one_params [] [] hp hq e = refl
  one_params (p ∷ ps) (q ∷ qs) hp hq e =
      let head : param_tree p ≡ param_tree q = cc in
      λ i. ((ap (λ (x : Text × Tree). x.0) head) i, (one_outside p.1 q.1 hp.0 hq.0 (ap (λ (x : Text × Tree). x.1) head)) i) ∷ (one_params ps qs hp.1 hq.1 cc) i
  one_params _ _ hp hq e = absurd cc

  one_result : (a b : Option ℕ) → AllOf (IsOutsidePart t) a → AllOf (IsOutsidePart t) b → option_map (tree_at t) a ≡ option_map (tree_at t) b → a ≡ b
  one_result x y ha hb e = search (std_rules, one_outside)

  one_function : (f g : FunctionShape) → PartsOf (IsOutsidePart t) f → PartsOf (IsOutsidePart t) g → signature_over (tree_at t) f ≡ signature_over (tree_at t) g → f ≡ g
  one_function f g hf hg e =
      let params = one_params f.params g.params hf.0 hg.0 (ap (λ (s : Signature). s.params) e) in
      λ i. record { is_async = (ap (λ (s : Signature). s.is_async) e) i; params = params i; result = (one_result f.result g.result hf.1 hg.1 (ap (λ (s : Signature). s.result) e)) i }

  function_there : (n : ℕ) → n < length t.functions → slice_get t.functions n ≡ Some (function_at t n)
  function_there n h = let found = slice_there t.functions n h in found.1 ∙ ap Some (sym (ap (λ o. unwrap_or o no_function) found.1))

  function_number : (m n : ℕ) → m < length t.functions → n < length t.functions → PartsOf (IsOutsidePart t) (function_at t m) → PartsOf (IsOutsidePart t) (function_at t n)
      → same_signature (signature_at t m) (signature_at t n) ≡ (m == n)
  function_number m n hm hn pm pn = either_way (same_signature (signature_at t m) (signature_at t n)) (m == n) (λ h.
      let shapes : function_at t m ≡ function_at t n = one_function (function_at t m) (function_at t n) pm pn ((signatures_decide (signature_at t m) (signature_at t n)).0 h) in
      eq-eqb m n (tables.apart m n (function_at t n) (function_there m hm ∙ ap Some shapes) (function_there n hn)))
      (λ h. (signatures_decide (signature_at t m) (signature_at t n)).1 (ap (signature_at t) (eqb-true m n h)))

  inside_table : (n : ℕ) → n < length t.functions → PartsOf (IsOutside t) (function_at t n) → PartsOf (IsOutsidePart t) (function_at t n)
  inside_table n h outside = both_parts (IsPart t) (IsOutside t) (function_at t n) (tables.functions n (function_at t n) (function_there n h)) outside

  pub numbers_tell : NumbersTell t
  numbers_tell = record { trees = tree_number; signatures = λ m n hm hn pm pn. function_number m n hm hn (inside_table m hm pm) (inside_table n hn pn) }

  -- ---- types that are shown

  declared_number : (a b : Option ℕ) → AllOf (IsOutsidePart t) a → AllOf (IsOutsidePart t) b → same_declaration (declaration_of t a) (declaration_of t b) ≡ same_number a b
  declared_number x y ha hb = search (std_rules, tree_number, outside_apart)

  types_numbers : (xs ys : List NumberedType) → AllByRecursion (TypePasses (IsOutsidePart t)) xs → AllByRecursion (TypePasses (IsOutsidePart t)) ys
      → pointwise reads.same_shown (map (shown_type t) xs) (map (shown_type t) ys) ≡ pointwise same_shown xs ys
  types_numbers (x ∷ xs) (y ∷ ys) hx hy = search (std_rules, declared_number, types_numbers xs ys hx.1 hy.1)
  types_numbers [] [] hx hy = refl
  types_numbers _ _ hx hy = refl

  -- ---- functions that are shown

  abbrev Passes : Text × NumberedFunction → Type 0
  Passes = FunctionPasses t (IsOutsidePart t)

  function_found : (f : Text × NumberedFunction) → Passes f → (gs : List (Text × NumberedFunction)) → AllByRecursion Passes gs
      → list_any (λ y. text_eq f.0 y.0 && same.same_function (shown_function t f).1 y.1) (map (shown_function t) gs) ≡ list_any (λ y. text_eq f.0 y.0 && same_function f.1 y.1) gs
  function_found f hf [] hg = refl
  function_found f hf (g ∷ gs) hg = search (std_rules, function_number, function_found f hf gs hg.1)

  functions_stand : (fs gs : List (Text × NumberedFunction)) → AllByRecursion Passes fs → AllByRecursion Passes gs
      → stand_in same.same_function (map (shown_function t) fs) (map (shown_function t) gs) ≡ stand_in same_function fs gs
  functions_stand [] gs hf hg = refl
  functions_stand (f ∷ fs) gs hf hg = λ i. function_found f hf.0 gs hg i && functions_stand fs gs hf.1 hg i

  functions_numbers : (fs gs : List (Text × NumberedFunction)) → AllByRecursion Passes fs → AllByRecursion Passes gs
      → reads.same_functions (map (shown_function t) fs) (map (shown_function t) gs) ≡ same_functions fs gs
  functions_numbers fs gs hf hg = λ i. length_of_map (shown_function t) fs i == length_of_map (shown_function t) gs i && functions_stand fs gs hf hg i

  -- ---- views

  path_number_of : (a b : NumberedSight) → IsSight t a → IsSight t b → text_eq (path_text t a.place) (path_text t b.place) ≡ (a.place == b.place)
  path_number_of a b ha hb = path_number t tables a.place b.place (ha.path, ha.home) (hb.path, hb.home) ∙ turned b.place a.place

  same_in_types : (a b : NumberedSight) → IsSight t a → IsSight t b → agreement.same_types (sight_of t a) (sight_of t b) ≡ same_types a b
  same_in_types a b ha hb = types_numbers a.view.types b.view.types ha.parts.types hb.parts.types

  same_in_functions : (a b : NumberedSight) → IsSight t a → IsSight t b → reads.same_functions (sight_of t a).view.functions (sight_of t b).view.functions ≡ same_whole a b
  same_in_functions a b ha hb = functions_numbers a.view.functions b.view.functions ha.parts.functions hb.parts.functions

  agree_number : (a b : NumberedSight) → IsSight t a → IsSight t b → reads.agree (sight_of t a) (sight_of t b) ≡ agree a b
  agree_number a b ha hb = λ i. not (path_number_of a b ha hb i) || (same_in_types a b ha hb i && (not (a.whole && b.whole) || same_in_functions a b ha hb i))

  pub all_agree_in_numbers : (seen : List NumberedSight) → AllByRecursion (IsSight t) seen → all_agree (map (sight_of t) seen) ≡ agree_in_numbers seen
  all_agree_in_numbers [] h = refl
  all_agree_in_numbers (s ∷ rest) h = search (std_rules, all_same, agree_number, all_agree_in_numbers rest h.1)

  -- ---- with the first alone

  found_alike : (test : Sight → Bool) (test_in : NumberedSight → Bool) (holds : Sight → Bool) (holds_in : NumberedSight → Bool)
      → ((f : NumberedSight) → IsSight t f → test (sight_of t f) ≡ test_in f) → ((f : NumberedSight) → IsSight t f → holds (sight_of t f) ≡ holds_in f)
      → (earlier : List NumberedSight) → AllByRecursion (IsSight t) earlier → option_map_or holds (find test (map (sight_of t) earlier)) true ≡ option_map_or holds_in (find test_in earlier) true
  found_alike test test_in holds holds_in alike gives [] h = refl
  found_alike test test_in holds holds_in alike gives (f ∷ earlier) h = search (std_rules, found_alike test test_in holds holds_in alike gives earlier h.1)

  first_alike : (earlier : List NumberedSight) (s : NumberedSight) → AllByRecursion (IsSight t) earlier → IsSight t s
      → agreement.agrees_with_first (map (sight_of t) earlier) (sight_of t s) ≡ agrees_with_first earlier s
  first_alike earlier s h hs = grind (arith, found_alike, path_number_of, same_in_types, same_in_functions)

  pub first_agree_in_numbers : (earlier seen : List NumberedSight) → AllByRecursion (IsSight t) earlier → AllByRecursion (IsSight t) seen
      → agree_with_first (map (sight_of t) earlier) (map (sight_of t) seen) ≡ agree_with_first_in_numbers earlier seen
  first_agree_in_numbers earlier [] he h = refl
  first_agree_in_numbers earlier (s ∷ seen) he h = search (std_rules, append_of_map, first_alike, all_end, first_agree_in_numbers (earlier ++ s ∷ []) seen (all_end (IsSight t) earlier s he h.0) h.1)

pub each_number_tells : EachNumberTells
each_number_tells t tables = numbers_tell t tables

pub views_agree_in_numbers : ViewsAgreeInNumbers
views_agree_in_numbers t tables seen h = all_agree_in_numbers t tables seen h

pub first_views_agree_in_numbers : FirstViewsAgreeInNumbers
first_views_agree_in_numbers t tables seen h = first_agree_in_numbers t tables [] seen tt h
