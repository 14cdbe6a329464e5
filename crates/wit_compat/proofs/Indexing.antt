-- An index finds what its list has.
use Rattle.std.proofs.Common.{rules as std_rules, ◌≡◌, refl, sym, ap, ◌∙◌, ℕ, ◌+◌, ◌<◌, ◌==◌, subst, Bool, true, false, ◌&&◌, cond, List, [], ◌∷◌, ◌++◌, map, take, length, get_or, Option, Some, None, option_map}
use Rattle.std.proofs.lemmas.{List.take_more, List.map-append}
use Rattle.compat_meaning.proofs.Either.{of_two}
use Rattle.base_lemmas.proofs.Elements.{contains-later, first-contained, last_of}
use Rattle.std.specs.{Borrow.Bor, List.Contains, Map.lookup, Option.is_none, Option.option_copied}
use Rattle.wit_model.specs.Text.{text_eq}
use Rattle.compat_meaning.specs.declared.part.Entry.{Entry}
use Rattle.compat_meaning.specs.{Flat.FlatName, Flat.Thing, Flat.find_named, Flat.same_name, Parts.thing_of, Parts.named_thing, Numbered.AllNumbersTell}
use Rattle.wit_compat.specs.Index.{NumberedName, indexed, AllToldFrom, ComeFrom, Indexes, IsToldFrom}

abbrev thing_in : Entry → Thing
thing_in e = thing_of e.part

abbrev names_test : Entry → NumberedName → Bool
names_test d k = (d.key.number == k.0) && text_eq d.name.now k.1.now

either : (e : Entry) (x : Option Entry) (y : Option Thing) (b : Bool) → option_map thing_in x ≡ y → option_map thing_in (cond b (Some e) x) ≡ cond b (Some (thing_in e)) y
either e x y z h = search std_rules

-- what is found by a key's number is what its text finds
pub lookup_is : (d : Entry) (es : List (NumberedName × Entry)) → IsToldFrom d es → option_map thing_in (lookup (names_test d) es) ≡ find_named (named_thing d).0 (indexed es)
lookup_is d [] h = refl
lookup_is d (e ∷ es) h = ap (λ b. option_map thing_in (cond (b && text_eq d.name.now e.0.1.now) (Some e.1) (lookup (names_test d) es))) (h e (first-contained e es))
    ∙ either e.1 _ _ (text_eq d.key.text.now e.1.key.text.now && text_eq d.name.now e.0.1.now) (lookup_is d es (λ x c. h x (contains-later e es x c)))

-- what stands in an index is told from each entry of a list that tells the index's entries
pub told_from : (ds es : List Entry) (m : List (NumberedName × Entry)) → AllNumbersTell ds es → ComeFrom m es → AllToldFrom ds m
told_from ds es m h from d c x y = ap (λ n. d.key.number == n) (from x y).1 ∙ h d x.1 c (from x y).0

-- ---- one part more

abbrev or_last : {X : Type 0} → Option X → Bool → X → Option X
or_last (Some y) b x = Some y
or_last None b x = cond b (Some x) None

cond_last : {X : Type 0} (b c : Bool) (y x : X) (o : Option X) (f : Option X) → f ≡ or_last o c x → cond b (Some y) f ≡ or_last (cond b (Some y) o) c x
cond_last x c y z o f h = search std_rules

find_last : {X : Type 0} (q : FlatName) (es : List (FlatName × X)) (e : FlatName × X) → find_named q (es ++ e ∷ []) ≡ or_last (find_named q es) (same_name q e.0) e.1
find_last q [] e = refl
find_last q (d ∷ ds) e = cond_last (same_name q d.0) (same_name q e.0) d.1 e.1 (find_named q ds) (find_named q (ds ++ e ∷ [])) (find_last q ds e)

indexed-push : (es : List (NumberedName × Entry)) (e : NumberedName × Entry) → indexed (es ++ e ∷ []) ≡ indexed es ++ ((e.1.key.text.now, e.0.1.now), thing_of e.1.part) ∷ []
indexed-push [] e = refl
indexed-push (d ∷ ds) e = ap (λ xs. ((d.1.key.text.now, d.0.1.now), thing_of d.1.part) ∷ xs) (indexed-push ds e)

pub same_name_is : (a b : FlatName) → same_name a b ≡ true → a ≡ b
same_name_is a b h = search std_rules

-- a name that is there already stays as it is
stays : {X : Type 0} (q : FlatName) (es : List (FlatName × X)) (n : FlatName) (y x : X) → find_named n es ≡ Some y → or_last (find_named q es) (same_name q n) x ≡ find_named q es
stays q es n y x h = search std_rules

module _ (es : List Entry) (i : ℕ) (e : Entry) (old : List (NumberedName × Entry)) (lt : i < length es) (is : e ≡ get_or es i e) (h : Indexes old (map named_thing (take i es))) where
  more : map named_thing (take (i + 1) es) ≡ map named_thing (take i es) ++ named_thing e ∷ []
  more = ap (map named_thing) (take_more es i e lt) ∙ map-append named_thing (take i es) (get_or es i e ∷ []) ∙ ap (λ x. map named_thing (take i es) ++ named_thing x ∷ []) (sym is)

  pub index_more : (new : List (NumberedName × Entry)) → new ≡ old ++ ((e.key.number, e.name), e) ∷ [] → Indexes new (map named_thing (take (i + 1) es))
  index_more new n q = search (std_rules, indexed-push, find_last, more)

  pub index_stays : (y : Thing) → find_named (named_thing e).0 (indexed old) ≡ Some y → Indexes old (map named_thing (take (i + 1) es))
  index_stays y f q = search (std_rules, stays, find_last, more)

-- one entry more under its number
pub come_more : (es : List Entry) (e : Entry) (old new : List (NumberedName × Entry)) → Contains es e → ComeFrom old es → new ≡ old ++ ((e.key.number, e.name), e) ∷ [] → ComeFrom new es
come_more es e old new at from n x c = of_two old _ x (from x) (λ d. subst (λ (y : NumberedName × Entry). Contains es y.1 × (y.0.0 ≡ y.1.key.number)) (last_of _ x d) (at, refl))
    (subst (λ ys. Contains ys x) n c)

pub copied_none : {A : Type 0} (o : Option (Bor A)) → is_none o ≡ true → option_copied o ≡ None
copied_none x e = search std_rules

pub copied_some : {A : Type 0} (o : Option (Bor A)) → is_none o ≡ false → (x : A) × (option_copied o ≡ Some x)
copied_some None e = absurd (let z : ⊥ = cc in z)
copied_some (Some x) e = (x.now, refl)
