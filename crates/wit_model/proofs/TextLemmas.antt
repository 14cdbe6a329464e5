-- Lemmas on texts: when two are equal, and what an optional one is.
use Rattle.base_lemmas.proofs.{Elements.contains-later, Numbers.turned}
use Rattle.std.proofs.Common.{rules as std_rules, Bool, List, None, Option, Some, String, [], arith, false, refl, sym, true, ◌++◌, ◌||◌, ◌∷◌, ◌≡◌}
use Rattle.std.proofs.lemmas.Cmp.{nat_list_eq_equiv}
use Rattle.std.specs.{Cmp.Lexicographic.same_text, List.AllByRecursion, List.Contains, List.list_any, Option.option_map_or, Prelude.String, Prelude.is_some}
use Rattle.std.specs.declared.alloc.Global.{Global}
use Rattle.wit_model.specs.{Rules.after_prefix, Rules.text_is, Text.Text, Text.optional_text, Text.text_eq, Text.text_of}

pub text_alike : (t : Text) → text_eq t t ≡ true
text_alike t = nat_list_eq_equiv.refl t

pub text_same : (a b : Text) → text_eq a b ≡ true → a ≡ b
text_same a b h = same_text a b (sym h)

pub text_named : (o : Option (String Global)) (t : Text) → text_is o t ≡ true → (name : String Global) × (o ≡ Some name) × (text_of name ≡ t)
text_named None t h = let wrong : ⊥ = cc in absurd wrong
text_named (Some name) t h = (name, refl, text_same (text_of name) t h)

pub some_alike : (x y : Option (String Global)) → optional_text x ≡ optional_text y → is_some x ≡ is_some y
some_alike x y h = search std_rules

pub is_joined : (ps qs bs : Text) → text_eq bs (ps ++ qs) ≡ option_map_or (λ rest. text_eq rest qs) (after_prefix ps bs) false
is_joined [] qs bs = refl
is_joined (p ∷ ps) qs [] = refl
is_joined (p ∷ ps) qs (b ∷ bs) = search (std_rules, turned, is_joined ps qs bs)

pub none_of_texts : (t : Text) (ts : List Text) → list_any (text_eq t) ts ≡ false → AllByRecursion (λ y. text_eq t y ≡ false) ts
none_of_texts t [] h = tt
none_of_texts t (x ∷ xs) h = go (none_of_texts t xs) (text_eq t x) refl h
  where
    go : (list_any (text_eq t) xs ≡ false → AllByRecursion (λ y. text_eq t y ≡ false) xs) → (b : Bool) → text_eq t x ≡ b → (b || list_any (text_eq t) xs) ≡ false
        → AllByRecursion (λ y. text_eq t y ≡ false) (x ∷ xs)
    go more true e h = let wrong : ⊥ = cc in absurd wrong
    go more false e h = (e, more h)

pub text_there : (path : Text) (xs : List Text) → list_any (text_eq path) xs ≡ true → Contains xs path
text_there path [] e = absurd cc
text_there path (x ∷ xs) e = by (text_eq path x) refl e (text_there path xs)
  where
    by : (b : Bool) → text_eq path x ≡ b → (b || list_any (text_eq path) xs) ≡ true → (list_any (text_eq path) xs ≡ true → Contains xs path) → Contains (x ∷ xs) path
    by true is h rest = (0, omega arith, sym (text_same path x is))
    by false is h rest = contains-later x xs path (rest h)

pub named_too : (o : Option (String Global)) (t : Text) → text_is o t ≡ true → is_some o ≡ true
named_too x t h = search std_rules
