-- Forms over the new numbers of their parts.
use Rattle.std.proofs.Common.{rules as std_rules, ◌≡◌, ◌≢◌, refl, sym, ap, subst, ◌∙◌, ℕ, ◌+◌, ◌<◌, ◌≤◌, arith, Bool, true, false, ◌||◌, ◌==◌, List, [], ◌∷◌, ◌++◌, map, take, drop, length, get_or, Option, Some, None, is_some, Bor, Result, Ok, Err, IfOk}
use Rattle.std.proofs.lemmas.{Bool.eqb-true, Bool.eq-eqb, List.map-append, List.take_more, List.drop_more, Option.same_Some as same-some}
use Rattle.std.specs.List.{AllByRecursion, AllZip}
use Rattle.wit_model.proofs.Elements.{zip-push}
use Rattle.wit_model.specs.declared.model.«Type».{«Type» as ValueType}
use Rattle.wit_model.specs.{Text.Text, Tree.Form}
use Rattle.plan_meaning.specs.{Built.given_parts, Built.part_of, Plan.formed, PlanRules.is_handle_form, Renumbering.IsPart}
use Rattle.plan_meaning.specs.{Shapes.Shape, Shapes.code, Shapes.form_of, Shapes.one_mark, NumberedRules.is_form, NumberedRules.shape_at, NumberedViews.Tables}
use Rattle.plan_build.specs.declared.plan.PlannedKind.{PlannedKind as CodeKind}
use Rattle.plan_build.specs.PlanOf.{stated_case, stated_kind}
use Rattle.read_rules.specs.Tables.{label_of}
use Rattle.plan_parts.specs.Kept.{IsKeptPart}
use Rattle.plan_parts.specs.Kinds.{given_count, has_count, shape_form, IsFormed, IsFormOver, IsLabelledSort, IsKindFor, MayBeDeclared, a_form, a_part, nothing, over_parts}
use Rattle.base_lemmas.proofs.Lists.{map_of_map as map_twice}

-- ---- forms by their numbers

module _ (s : Shape) where
  pub record_form : s.sort ≡ 1 → shape_form s ≡ Form.record_of (map (λ l. l.0) s.labels)
  unfolding form_of
  record_form e = ap (λ n. form_of (code n s.number s.labels)) e

  pub variant_form : s.sort ≡ 2 → shape_form s ≡ Form.variant_of s.labels
  unfolding form_of
  variant_form e = ap (λ n. form_of (code n s.number s.labels)) e

  pub list_form : s.sort ≡ 3 → shape_form s ≡ Form.list_of
  unfolding form_of
  list_form e = ap (λ n. form_of (code n s.number s.labels)) e

  pub fixed_form : s.sort ≡ 4 → shape_form s ≡ Form.fixed_list_of s.number
  unfolding form_of
  fixed_form e = ap (λ n. form_of (code n s.number s.labels)) e

  pub option_form : s.sort ≡ 5 → shape_form s ≡ Form.option_of
  unfolding form_of
  option_form e = ap (λ n. form_of (code n s.number s.labels)) e

  pub own_form : s.sort ≡ 6 → shape_form s ≡ Form.own_of
  unfolding form_of
  own_form e = ap (λ n. form_of (code n s.number s.labels)) e

  pub borrow_form : s.sort ≡ 7 → shape_form s ≡ Form.borrow_of
  unfolding form_of
  borrow_form e = ap (λ n. form_of (code n s.number s.labels)) e

  pub map_form : s.sort ≡ 8 → shape_form s ≡ Form.map_of
  unfolding form_of
  map_form e = ap (λ n. form_of (code n s.number s.labels)) e

  pub tuple_form : s.sort ≡ 9 → shape_form s ≡ Form.tuple_of
  unfolding form_of
  tuple_form e = ap (λ n. form_of (code n s.number s.labels)) e

  pub flags_form : s.sort ≡ 10 → shape_form s ≡ Form.flags_of (map (λ l. l.0) s.labels)
  unfolding form_of
  flags_form e = ap (λ n. form_of (code n s.number s.labels)) e

  pub enum_form : s.sort ≡ 11 → shape_form s ≡ Form.enum_of (map (λ l. l.0) s.labels)
  unfolding form_of
  enum_form e = ap (λ n. form_of (code n s.number s.labels)) e

  pub result_form : s.sort ≡ 12 → shape_form s ≡ Form.result_of (s.number == 1 || s.number == 3) (s.number == 2 || s.number == 3)
  unfolding form_of
  result_form e = ap (λ n. form_of (code n s.number s.labels)) e

  pub future_form : s.sort ≡ 13 → shape_form s ≡ Form.future_of (s.number == 1)
  unfolding form_of
  future_form e = ap (λ n. form_of (code n s.number s.labels)) e

  pub stream_form : s.sort ≡ 14 → shape_form s ≡ Form.stream_of (s.number == 1)
  unfolding form_of
  stream_form e = ap (λ n. form_of (code n s.number s.labels)) e

-- ---- how many parts there are

module _ (kept : List ℕ) (s : Shape) (over : IsFormOver kept s) where
  pub counted : (f : Form) → shape_form s ≡ f → has_count f (length s.parts) ≡ true
  counted f e = subst (λ f. has_count f (length s.parts) ≡ true) e over.count

-- ---- parts

pub one_part : (kept : List ℕ) (ks : List ℕ) (new : ℕ) → length ks ≡ 1 → IsPart kept (get_or ks 0 0) new → AllZip (IsPart kept) ks (new ∷ [])
one_part kept [] new e p = absurd (omega (arith, e))
one_part kept (k ∷ []) new e p = (p, tt)
one_part kept (k ∷ l ∷ ks) new e p = absurd (omega (arith, e))

pub two_parts : (kept : List ℕ) (ks : List ℕ) (a b : ℕ) → length ks ≡ 2 → IsPart kept (get_or ks 0 0) a → IsPart kept (get_or ks 1 0) b → AllZip (IsPart kept) ks (a ∷ b ∷ [])
two_parts kept (k ∷ l ∷ []) a b e p q = (p, (q, tt))
two_parts kept _ a b e p q = absurd (omega (arith, e))

pub no_parts : (kept : List ℕ) (ks : List ℕ) → length ks ≡ 0 → AllZip (IsPart kept) ks []
no_parts kept [] e = tt
no_parts kept (k ∷ ks) e = absurd (omega (arith, e))

-- one part more
pub part_next : {X : Type 0} (kept ks : List ℕ) (i d : ℕ) (h : X → ℕ) (old new : List X) (y : X) → i < length ks → new ≡ old ++ y ∷ [] → IsPart kept (get_or ks i d) (h y)
    → AllZip (IsPart kept) (take i ks) (map h old) → AllZip (IsPart kept) (take (i + 1) ks) (map h new)
part_next kept ks i d h old new y within added is before =
    search (std_rules, map-append h old (y ∷ []), take_more ks i d within, zip-push (IsPart kept) (take i ks) (map h old) (get_or ks i d) (h y) before is)

-- one name more
pub name_next : {A X : Type 0} (g : A → Text) (h : X → Text) (xs : List A) (i : ℕ) (d : A) (old new : List X) (y : X) → i < length xs → new ≡ old ++ y ∷ [] → h y ≡ g (get_or xs i d)
    → map h old ≡ map g (take i xs) → map h new ≡ map g (take (i + 1) xs)
name_next g h xs i d old new y within added is before =
    ap (map h) added ∙ (map-append h old (y ∷ []) ∙ ((λ j. before j ++ is j ∷ []) ∙ (sym (map-append g (take i xs) (get_or xs i d ∷ [])) ∙ ap (map g) (sym (take_more xs i d within)))))

-- one label more, where each label is looked at by its text alone
pub label_next : {X : Type 0} (h : X → Text) (xs : List (Bor Text × Bool)) (i : ℕ) (d : Bor Text × Bool) (old new : List X) (y : X) → i < length xs → new ≡ old ++ y ∷ [] → h y ≡ (get_or xs i d).0.now
    → map h old ≡ map (λ l. l.0) (map label_of (take i xs)) → map h new ≡ map (λ l. l.0) (map label_of (take (i + 1) xs))
label_next h xs i d old new y within added is before = search (std_rules, name_next, map_twice)

-- ---- cases

count_none : (i : ℕ) (xs : List (Bor Text × Bool)) (d : Bor Text × Bool) → i < length xs → (get_or xs i d).1 ≡ false
    → given_count (map label_of (drop i xs)) ≡ given_count (map label_of (drop (i + 1) xs))
count_none i xs d within e = ap (λ l. given_count (map label_of l)) (drop_more xs i d within) ∙ ap (λ b. given_count (((get_or xs i d).0.now, b) ∷ map label_of (drop (i + 1) xs))) e

count_one : (i : ℕ) (xs : List (Bor Text × Bool)) (d : Bor Text × Bool) → i < length xs → (get_or xs i d).1 ≡ true
    → given_count (map label_of (drop i xs)) ≡ 1 + given_count (map label_of (drop (i + 1) xs))
count_one i xs d within e = ap (λ l. given_count (map label_of l)) (drop_more xs i d within) ∙ ap (λ b. given_count (((get_or xs i d).0.now, b) ∷ map label_of (drop (i + 1) xs))) e

given_more : (cs : List (Bor Text × Option ValueType)) (t : Bor Text) (o : Option ValueType)
    → given_parts (map (λ c. c.1) (cs ++ (t, o) ∷ [])) ≡ given_parts (map (λ c. c.1) cs) ++ given_parts (o ∷ [])
given_more [] t o = refl
given_more ((l, None) ∷ cs) t o = given_more cs t o
given_more ((l, Some x) ∷ cs) t o = ap (λ ks. part_of x ∷ ks) (given_more cs t o)

-- so many labels have been taken over, and so many parts
pub record CasesSoFar (kept ks : List ℕ) (xs : List (Bor Text × Bool)) (i next : ℕ) (cs : List (Bor Text × Option ValueType)) : Type 0 where
  pub count : next + given_count (map label_of (drop i xs)) ≡ length ks
  pub names : map stated_case cs ≡ map label_of (take i xs)
  pub parts : AllZip (IsPart kept) (take next ks) (given_parts (map (λ c. c.1) cs))

module _ (kept ks : List ℕ) (xs : List (Bor Text × Bool)) (i next : ℕ) (d : Bor Text × Bool) (within : i < length xs) (old new : List (Bor Text × Option ValueType)) (before : CasesSoFar kept ks xs i next old) where
  case_named : (o : Option ValueType) → is_some o ≡ (get_or xs i d).1 → new ≡ old ++ ((get_or xs i d).0, o) ∷ [] → map stated_case new ≡ map label_of (take (i + 1) xs)
  case_named o same added = search (std_rules, map-append stated_case old (((get_or xs i d).0, o) ∷ []), map-append label_of (take i xs) (get_or xs i d ∷ []), take_more xs i d within)

  pub no_payload : (get_or xs i d).1 ≡ false → new ≡ old ++ ((get_or xs i d).0, None) ∷ [] → CasesSoFar kept ks xs (i + 1) next new
  no_payload e added = record {
    count = ap (λ n. next + n) (sym (count_none i xs d within e)) ∙ before.count;
    names = case_named None (sym e) added;
    parts = subst (AllZip (IsPart kept) (take next ks)) (sym (ap (λ cs. given_parts (map (λ c. c.1) cs)) added
        ∙ (given_more old (get_or xs i d).0 None ∙ append_none (given_parts (map (λ c. c.1) old))))) before.parts;
  }
    where
      append_none : (ns : List ℕ) → ns ++ [] ≡ ns
      append_none [] = refl
      append_none (n ∷ ns) = ap (λ l. n ∷ l) (append_none ns)

  pub payload_there : (get_or xs i d).1 ≡ true → next < length ks
  payload_there e = omega (arith, before.count, count_one i xs d within e)

  pub one_payload : (ty : ValueType) → (get_or xs i d).1 ≡ true → IsPart kept (get_or ks next 0) (part_of ty) → new ≡ old ++ ((get_or xs i d).0, Some ty) ∷ []
      → CasesSoFar kept ks xs (i + 1) (next + 1) new
  one_payload ty e is added = record {
    count = omega (arith, before.count, count_one i xs d within e);
    names = case_named (Some ty) (sym e) added;
    parts = subst (λ ns. AllZip (IsPart kept) ns (given_parts (map (λ c. c.1) new))) (sym (take_more ks next 0 (payload_there e)))
        (subst (AllZip (IsPart kept) (take next ks ++ get_or ks next 0 ∷ [])) (sym (ap (λ cs. given_parts (map (λ c. c.1) cs)) added ∙ given_more old (get_or xs i d).0 (Some ty)))
        (zip-push (IsPart kept) (take next ks) (given_parts (map (λ c. c.1) old)) (get_or ks next 0) (part_of ty) before.parts is));
  }

pub cases_are : (kept ks : List ℕ) (xs : List (Bor Text × Bool)) (i m n : ℕ) (old new : List (Bor Text × Option ValueType)) → n ≡ m → new ≡ old → CasesSoFar kept ks xs i m old
    → CasesSoFar kept ks xs i n new
cases_are kept ks xs i m n old new e f so = subst (λ n. CasesSoFar kept ks xs i n new) (sym e) (subst (CasesSoFar kept ks xs i m) (sym f) so)

-- ---- forms

module _ (kept : List ℕ) (s : Shape) (over : IsFormOver kept s) where
  pub formed_over : (f : Form) (news : List ℕ) → shape_form s ≡ f → AllZip (IsPart kept) s.parts news → IsFormed kept s (formed f news)
  formed_over f news e zips = record { news = news; parts = zips; is = ap (λ f. formed f news) (sym e) }

  -- a form over one part
  pub single_part : (f : Form) → shape_form s ≡ f → ((n : ℕ) → has_count f n ≡ (n == 1)) → length s.parts ≡ 1
  single_part f e one = eqb-true (length s.parts) 1 (sym (one (length s.parts)) ∙ counted kept s over f e)

  pub single : (f : Form) → shape_form s ≡ f → ((n : ℕ) → has_count f n ≡ (n == 1)) → (new : ℕ) → IsPart kept (get_or s.parts 0 0) new → IsFormed kept s (formed f (new ∷ []))
  single f e one new is = formed_over f (new ∷ []) e (one_part kept s.parts new (single_part f e one) is)

  pub handle_part : (f : Form) → shape_form s ≡ f → is_handle_form f ≡ true → AllByRecursion (λ k. 14 ≤ k) s.parts
  handle_part f e is = over.handle (ap is_handle_form e ∙ is)

  -- a form of two parts
  pub double_part : (f : Form) → shape_form s ≡ f → ((n : ℕ) → has_count f n ≡ (n == 2)) → length s.parts ≡ 2
  double_part f e two = eqb-true (length s.parts) 2 (sym (two (length s.parts)) ∙ counted kept s over f e)

  -- a form without parts
  pub empty_part : (f : Form) → shape_form s ≡ f → ((n : ℕ) → has_count f n ≡ (n == 0)) → length s.parts ≡ 0
  empty_part f e none = eqb-true (length s.parts) 0 (sym (none (length s.parts)) ∙ counted kept s over f e)

pub last_labelled : (n : ℕ) → IsLabelledSort n → n ≢ 1 → n ≢ 2 → n ≢ 10 → n ≡ 11
last_labelled n x a b c = search std_rules

-- what a future or a stream gives
pub given_there : (kept : List ℕ) (number : ℕ) (ks : List ℕ) → length ks ≡ one_mark (number == 1) → number ≡ 1 → (new : ℕ) → IsPart kept (get_or ks 0 0) new → (true ≡ (number == 1))
    × AllZip (IsPart kept) ks (new ∷ [])
given_there kept number ks many e new is = (sym (eq-eqb number 1 e), one_part kept ks new (many ∙ ap one_mark (eq-eqb number 1 e)) is)

-- what a result's number says
pub first_alone : (n : ℕ) → n ≡ 1 → Form.result_of (n == 1 || n == 3) (n == 2 || n == 3) ≡ Form.result_of true false
first_alone n e = ap (λ n. Form.result_of (n == 1 || n == 3) (n == 2 || n == 3)) e

pub second_alone : (n : ℕ) → n ≡ 2 → Form.result_of (n == 1 || n == 3) (n == 2 || n == 3) ≡ Form.result_of false true
second_alone n e = ap (λ n. Form.result_of (n == 1 || n == 3) (n == 2 || n == 3)) e

pub both_given : (n : ℕ) → n ≡ 3 → Form.result_of (n == 1 || n == 3) (n == 2 || n == 3) ≡ Form.result_of true true
both_given n e = ap (λ n. Form.result_of (n == 1 || n == 3) (n == 2 || n == 3)) e

not_equal : (n m : ℕ) → n ≢ m → (n == m) ≡ false
not_equal n m differ = search std_rules

pub neither : (n : ℕ) → n ≢ 1 → n ≢ 2 → n ≢ 3 → Form.result_of (n == 1 || n == 3) (n == 2 || n == 3) ≡ Form.result_of false false
neither n a b c = λ i. Form.result_of (not_equal n 1 a i || not_equal n 3 c i) (not_equal n 2 b i || not_equal n 3 c i)

-- ---- what is declared

module _ (t : Tables) (kept : List ℕ) where
  pub a_kept_part : (d : Option ℕ) (k : ℕ) → d ≡ Some k → MayBeDeclared t kept d → is_form t k ≡ false → IsKeptPart kept k
  a_kept_part d k e (nothing none) no_form = let wrong : None ≡ Some k = sym none ∙ e in absurd cc
  a_kept_part d k e (a_part j at fails is) no_form = subst (IsKeptPart kept) (same-some j k (sym at ∙ e)) is
  a_kept_part d k e (over_parts j s at form shape over) no_form = search std_rules

  pub an_over_form : (d : Option ℕ) (k : ℕ) → d ≡ Some k → MayBeDeclared t kept d → is_form t k ≡ true → (s : Shape) → shape_at t k ≡ Some s → IsFormOver kept s
  an_over_form d k e x form s at = search std_rules

  pub form_kind : {E : Type 0} (r : Result CodeKind E) (d : Option ℕ) (k : ℕ) (s : Shape) → d ≡ Some k → is_form t k ≡ true → shape_at t k ≡ Some s
      → IfOk r (λ kind. IsFormed kept s (stated_kind kind)) → IfOk r (λ kind. IsKindFor t kept d (stated_kind kind))
  form_kind (Ok kind) d k s e form at is = a_form k s e form at is
  form_kind (Err x) d k s e form at is = tt
