-- It can be told whether meanings have the same sense.
use Rattle.std.proofs.Common.{◌≡◌, ◌∙◌, refl, sym, ap, Bool, true, false, List, [], ◌∷◌, Option, Some, None}
use mathlib.Core.Logic.{inl, inr}
use Rattle.std.specs.{Prelude.◌⊎◌, Prelude.◌≢◌, Prelude.unwrap_or, Bool.Decides, FinMap.entries, FinMap.same_entries_map}
use Rattle.std.proofs.lemmas.{Bool.true≢false, Slice.Eq.bytes_eq-Decides}
use Rattle.wit_model.specs.{Text.Text, Text.TextMap, Text.text_eq, Meaning.Entry, Meaning.InterfaceSense, Meaning.Item, Meaning.Signature, Meaning.WorldSense}
use Rattle.wit_model.specs.Tree.{TypeDeclaration}
use Rattle.comp_meaning.specs.Same.{same_declaration, same_function, same_signature, same_type}
use Rattle.comp_meaning.proofs.SameLaws.{declarations_decide, functions_decide, signatures_decide, types_decide}
use Rattle.bind_meaning.specs.Laws.{CanTell}

-- ---- what can be told

tell-by : {A : Type 0} (test : A → A → Bool) → ((x y : A) → Decides (test x y) (x ≡ y)) → CanTell A
tell-by {A} test decides x y = by (test x y) refl
  where
    by : (b : Bool) → test x y ≡ b → (x ≡ y) ⊎ (x ≢ y)
    by true e = inl ((decides x y).0 e)
    by false e = inr (λ same. true≢false (sym ((decides x y).1 same) ∙ e))

tell-text : CanTell Text
tell-text = tell-by text_eq (λ s t. bytes_eq-Decides s t)

-- two views of things tell them apart, where they tell all of them
by-views : {X A B : Type 0} (f : X → A) (g : X → B) (x y : X) → (f x ≡ f y → g x ≡ g y → x ≡ y) → (f x ≡ f y) ⊎ (f x ≢ f y) → (g x ≡ g y) ⊎ (g x ≢ g y) → (x ≡ y) ⊎ (x ≢ y)
by-views f g x y whole (inl e) (inl h) = inl (whole e h)
by-views f g x y whole (inl e) (inr d) = inr (λ same. d (ap g same))
by-views f g x y whole (inr d) h = inr (λ same. d (ap f same))

-- so does what they are made of
of-parts : {A B : Type 0} (make : A → B) (part : A → B → A) → ((d x : A) → part d (make x) ≡ x) → (x y : A) → (x ≡ y) ⊎ (x ≢ y) → (make x ≡ make y) ⊎ (make x ≢ make y)
of-parts make part is x y (inl e) = inl (ap make e)
of-parts make part is x y (inr d) = inr (λ same. d (sym (is x x) ∙ (ap (part x) same ∙ is x y)))

tell-pair : {A B : Type 0} → CanTell A → CanTell B → CanTell (A × B)
tell-pair first second x y = by-views (λ p. p.0) (λ p. p.1) x y (λ e f. λ i. (e i, f i)) (first x.0 y.0) (second x.1 y.1)

tell-option : {A : Type 0} → CanTell A → CanTell (Option A)
tell-option tell None None = inl refl
tell-option tell (Some x) (Some y) = of-parts Some (λ d o. unwrap_or o d) (λ d z. refl) x y (tell x y)
tell-option tell _ _ = inr (λ e. let no : ⊥ = cc in no)

tell-list : {A : Type 0} → CanTell A → CanTell (List A)
tell-list tell [] [] = inl refl
tell-list {A} tell (x ∷ xs) (y ∷ ys) = by-views head rest (x ∷ xs) (y ∷ ys) (λ e f. λ i. e i ∷ f i) (tell x y) (tell-list tell xs ys)
  where
    head : List A → A
    head [] = x
    head (z ∷ zs) = z

    rest : List A → List A
    rest [] = []
    rest (z ∷ zs) = zs
tell-list tell _ _ = inr (λ e. let no : ⊥ = cc in no)

tell-map : {A : Type 0} → CanTell A → CanTell (TextMap A)
tell-map tell m n = let told = tell-list (tell-pair tell-text tell) (entries m) (entries n) in by-views entries entries m n (λ e f. same_entries_map m n e) told told

-- ---- senses

pub tell-interface : CanTell InterfaceSense
tell-interface x y = by-views (λ s. s.types) (λ s. s.functions) x y (λ e f. λ i. record { types = e i; functions = f i }) (tell-map (tell-by same_type types_decide) x.types y.types)
    (tell-map (tell-by same_function functions_decide) x.functions y.functions)

abbrev Shown : Type 0
Shown = Item InterfaceSense

-- what an item is made of, or else what is given
path-in : Text → Shown → Text
path-in d (Item.interface p) = p
path-in d _ = d

sense-in : InterfaceSense → Shown → InterfaceSense
sense-in d (Item.inline i) = i
sense-in d _ = d

signature-in : Signature → Shown → Signature
signature-in d (Item.function s) = s
signature-in d _ = d

declaration-in : TypeDeclaration → Shown → TypeDeclaration
declaration-in d (Item.declares t) = t
declaration-in d _ = d

tell-item : CanTell Shown
unfolding path-in sense-in signature-in declaration-in
tell-item (Item.interface p) (Item.interface q) = of-parts Item.interface path-in (λ d x. refl) p q (tell-text p q)
tell-item (Item.inline i) (Item.inline j) = of-parts Item.inline sense-in (λ d x. refl) i j (tell-interface i j)
tell-item (Item.function s) (Item.function t) = of-parts Item.function signature-in (λ d x. refl) s t (tell-by same_signature signatures_decide s t)
tell-item (Item.declares s) (Item.declares t) = of-parts Item.declares declaration-in (λ d x. refl) s t (tell-by same_declaration declarations_decide s t)
tell-item _ _ = inr (λ e. let no : ⊥ = cc in no)

pub tell-entry : CanTell (Entry InterfaceSense)
tell-entry x y = by-views (λ s. s.item) (λ s. s.external_id) x y (λ e f. λ i. record { item = e i; external_id = f i }) (tell-item x.item y.item) (tell-option tell-text x.external_id y.external_id)

pub tell-world : CanTell WorldSense
tell-world x y = by-views (λ s. s.imports) (λ s. s.exports) x y (λ e f. λ i. record { imports = e i; exports = f i }) (tell-map tell-entry x.imports y.imports)
    (tell-map tell-entry x.exports y.exports)
