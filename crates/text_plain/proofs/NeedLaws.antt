-- What worlds include, by number.
use Rattle.std.proofs.Common.{◌≡◌, refl, sym, ap, ◌∙◌, subst, inl, inr, ℕ, ◌+◌, ◌<◌, ◌≤◌, arith, List, [], ◌∷◌, ◌++◌, length, length-append, map, Option, Some, None, option_map, unwrap_or, slice_get, Vec}
use Rattle.std.specs.Global.{Global}
use Rattle.std.proofs.lemmas.{Option.slice_get-map}
use Rattle.base_lemmas.proofs.Lists.{front_or_last, get_back, none_there}
use Rattle.wit_model.proofs.Elements.{contains-get}
use Rattle.text_plain.specs.declared.needs.Need.{Need}
use Rattle.text_plain.specs.Needs.{AreBelow}
use Rattle.text_plain.specs.Orders.{AreWithin, links_of, needed}
use Rattle.text_plain.proofs.WalkLaws.{links_long, needed_of}

-- all needs of each are below a number
abbrev pub AllBelow : ℕ → List (Vec Need Global) → Type 0
AllBelow count all = (n : ℕ) (own : Vec Need Global) → slice_get all n ≡ Some own → AreBelow count own.items

pub below_more : (count : ℕ) (old new : List Need) (x : Need) → AreBelow count old → new ≡ old ++ x ∷ [] → x.number < count → AreBelow count new
below_more count old new x held more here n need e = elim (front_or_last old x n need (ap (λ (l : List Need). slice_get l n) (sym more) ∙ e)) [
  | inl u ↦ held n need u
  | inr u ↦ subst (λ (y : Need). y.number < count) u here
]

pub all_more : (count : ℕ) (old new : List (Vec Need Global)) (x : Vec Need Global) → AllBelow count old → new ≡ old ++ x ∷ [] → AreBelow count x.items → AllBelow count new
all_more count old new x held more here n own e = elim (front_or_last old x n own (ap (λ (l : List (Vec Need Global)). slice_get l n) (sym more) ∙ e)) [
  | inl u ↦ held n own u
  | inr u ↦ subst (λ (y : Vec Need Global). AreBelow count y.items) u here
]

pub all_within : (count : ℕ) (all : List (Vec Need Global)) → AllBelow count all → count ≤ length all → AreWithin (links_of all)
all_within count all held many n m need =
    let k = contains-get (needed (links_of all) n) m need in
    by_own (slice_get all n) refl k.0 k.1
  where
    by_own : (o : Option (Vec Need Global)) → slice_get all n ≡ o → (k : ℕ) → slice_get (needed (links_of all) n) k ≡ Some m → m < length (links_of all)
    by_own None e k f = absurd (none_there k m (ap (λ l. slice_get l k) (sym nothing) ∙ f))
      where
        nothing : needed (links_of all) n ≡ []
        nothing = ap (λ (o : Option (List ℕ)). unwrap_or o []) (slice_get-map (λ (o : Vec Need Global). map (λ x. x.number) o.items) all n
            ∙ ap (option_map (λ (o : Vec Need Global). map (λ x. x.number) o.items)) e)
    by_own (Some own) e k f =
        let at = get_back (λ (x : Need). x.number) own.items k m (ap (λ l. slice_get l k) (sym (needed_of all n own e)) ∙ f) in
        let below : at.0.number < count = held n own e k at.0 at.1 in
        omega (arith, below, many, links_long all, at.2)

pub longer : {X : Type 0} (old new : List X) (x : X) → new ≡ old ++ x ∷ [] → length new ≡ length old + 1
longer old new x more = ap length more ∙ length-append old (x ∷ [])
