-- Which declaration a name exports.
use Rattle.std.proofs.Common.{rules as std_rules, ◌≡◌, sym, ◌∙◌, refl, ap, zero, suc, Bool, true, false, cond, List, [], ◌∷◌, arith, Option, Some, find}
use Rattle.std.proofs.lemmas.Bool.{and_from as both}
use Rattle.std.specs.{List.Contains, Option.option_eq}
use Rattle.wit_model.specs.{Text.Text, Text.text_eq, Meaning.TypeMeaning}
use Rattle.comp_bytes.specs.Raw.{ExternName}
use Rattle.encode_types.specs.{Scope.exported_name}
use Rattle.encode_flat.specs.Flat.{is_name_of}
use Rattle.wit_model.proofs.TextLemmas.{text_alike as text-alike}

optional-alike : (o : Option Text) → option_eq text_eq o o ≡ true
optional-alike x = search std_rules

pub record Found {X : Type 0} (p : X → Bool) (xs : List X) : Type 0 where
  pub item : X
  pub is : find p xs ≡ Some item
  pub there : Contains xs item
  pub passes : p item ≡ true

pub found-in : {X : Type 0} (p : X → Bool) (xs : List X) (x : X) → Contains xs x → p x ≡ true → Found p xs
found-in p [] x (i, l, e) h = absurd (omega (arith, l))
found-in p (y ∷ xs) x c h = go (λ k. found-in p xs x k h) (p y) refl
  where
    later : Contains (y ∷ xs) x → p y ≡ false → Contains xs x
    later (zero, l, e) f = let q : true ≡ false = sym h ∙ ap p (sym e) ∙ f in absurd (let z : ⊥ = cc in z)
    later (suc i, l, e) f = (i, omega (arith, l), e)

    go : (Contains xs x → Found p xs) → (b : Bool) → p y ≡ b → Found p (y ∷ xs)
    go more true q = record { item = y; is = ap (λ b. cond b (Some y) (find p xs)) q; there = (0, omega arith, refl); passes = q }
    go more false q =
        let rest = more (later c q) in
        record { item = rest.item; is = ap (λ b. cond b (Some y) (find p xs)) q ∙ rest.is; there = (suc rest.there.0, (let l = rest.there.1 in omega arith), rest.there.2); passes = rest.passes }

pub name-passes : (name : ExternName) (d : Text × TypeMeaning) → name ≡ exported_name d → is_name_of name d ≡ true
name-passes name d e = ap (λ (n : ExternName). is_name_of n d) e ∙ both (text_eq d.0 d.0) (option_eq text_eq d.1.external_id d.1.external_id) (text-alike d.0) (optional-alike d.1.external_id)
