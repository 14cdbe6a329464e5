-- The order of an owner's list, entry by entry: what each owner's list has to know of its types.
use Rattle.std.proofs.Common.{rules as std_rules, ◌≡◌, refl, sym, ap, subst, ◌∙◌, ℕ, zero, suc, ◌+◌, Bool, true, false, ◌&&◌, ◌||◌, ◌==◌, not, nat_le, eq-eqb, List, [], ◌∷◌, ◌++◌, take, length, map, filter_map, flat_map, count_by, position, slice_get, is_some, Some, None, Option, append_assoc, append-nil, length-append, arith, String}
use Rattle.std.proofs.{Math.Seq.take-append_seam, lemmas.List.Elements.filter_map-append, lemmas.List.Folds.list_any-append, lemmas.Bool.not-true as not_true}
use Rattle.std.specs.declared.alloc.Global.{Global}
use Rattle.std.specs.{List.list_all, Option.option_map_or, Map.keys_of, Map.values_of}
use Rattle.wit_model.specs.declared.model.{Resolve.Resolve, TypeDef.TypeDef, TypeOwner.TypeOwner}
use Rattle.wit_model.specs.{Text.Text, Text.text_of, Parts.kind_numbers, Parts.used_by_type, Parts.same_owner, Parts.has_owner, Parts.met_by, Parts.met_of}
use Rattle.wit_model.specs.{Lookup.type_at, Lookup.interface_at, Uses.has, Uses.alias_target, Uses.owner_interface, Valid.Keeps, Valid.owners}
use Rattle.wit_model.specs.Rules.{passes, each_from, each_after, is_id, is_use, type_stays, is_named_of, is_listed, used_by_number, are_in_order}
use Rattle.wit_model.specs.Checks.{highest, references, listings, rank_in, rank_of, reach_of, stands_in_order}
use Rattle.wit_model.proofs.{Entries.each_from_at, Entries.lists_pass, InOrder.found, InOrder.fitting, InOrder.found_stands, InOrder.used_place, InOrder.highest_within}
use Rattle.wit_model.proofs.{Chains.all_has, Listed.misfit, Owners.met_step, Owners.owned_stays, PartsLemmas.owner_same, UsesLemmas.alias_numbers}
use Rattle.check_rules.proofs.Ordered.{highest_flat}
use Rattle.base_lemmas.proofs.{Bools.left_of as first_true, Bools.right_of as second_true, Bools.or_true, Elements.all_by_number as all_at, Options.there, Lists.given-some}
use Rattle.wit_model.specs.declared.model.TypeOwner.TheVariants as owner

-- ---- lists

-- what is there passes the test
held : {A : Type 0} (test : A → Bool) {o : Option A} (x : A) → o ≡ Some x → option_map_or test o false ≡ true → test x ≡ true
held test x is h = ap (λ o. option_map_or test o false) (sym is) ∙ h

take_map : {X Y : Type 0} (f : X → Y) (n : ℕ) (xs : List X) → map f (take n xs) ≡ take n (map f xs)
take_map f zero [] = refl
take_map f (suc n) [] = refl
take_map f zero (x ∷ xs) = refl
take_map f (suc n) (x ∷ xs) = ap (λ ys. f x ∷ ys) (take_map f n xs)

-- an element of a list stands in it
stands_there : {V : Type 0} (num : V → Option ℕ) (done : List V) (v : V) (rest : List V) (n : ℕ) → num v ≡ Some n → has (filter_map num (done ++ v ∷ rest)) n ≡ true
stands_there num done v rest n e = search (std_rules, filter_map-append, list_any-append, eq-eqb, or_true)

-- what stands before an element
pub before_seam : {K V : Type 0} (es : List (K × V)) (done : List V) (v : V) (rest : List V) → values_of es ≡ done ++ v ∷ rest → values_of (take (length done) es) ≡ done
before_seam es done v rest e = take_map (λ x. x.1) (length done) es ∙ (ap (take (length done)) e ∙ take-append_seam done (v ∷ rest))

-- ---- a walk over the list with places is a walk with what stands before

module _ {V : Type 0} (num : V → Option ℕ) (stands : ℕ → ℕ → Bool) (after : List ℕ → ℕ → Bool) where
  walk : (vs done rest : List V) → vs ≡ done ++ rest →
      ((done : List V) (v : V) (rest : List V) (n : ℕ) → vs ≡ done ++ v ∷ rest → num v ≡ Some n → stands (length done) n ≡ after (filter_map num done) n) →
      each_from (λ p v. passes (stands p) (num v)) (length done) rest ≡ each_after after (filter_map num done) (filter_map num rest)
  walk vs done [] e h = refl
  walk vs done (v ∷ rest) e h = search (std_rules, append_assoc, length-append, filter_map-append, append-nil, walk vs (done ++ v ∷ []) rest (e ∙ sym (append_assoc done (v ∷ []) rest)) h)

-- ---- what is used has its place

pub all_same : (p f g : ℕ → Bool) → ((m : ℕ) → p m ≡ true → f m ≡ g m) → (ns : List ℕ) → list_all p ns ≡ true → list_all f ns ≡ list_all g ns
all_same p f g same [] h = refl
all_same p f g same (m ∷ ns) h = λ i. same m (first_true _ _ h) i && all_same p f g same ns (second_true _ _ h) i

-- a type with a real owner has a name
pub owned_named : (r : Resolve) → Keeps listings r → (m : ℕ) (def : TypeDef) → type_at r m ≡ Some def → same_owner def.owner owner.None ≡ false → is_some def.name ≡ true
unfolding listings
owned_named r kept m def is real = search (std_rules, each_from_at, lists_pass)

-- a type of another owner, which is an interface with a name, and so is real
abbrev is_foreign : Resolve → TypeOwner → TypeDef → Bool
is_foreign r o target = not (same_owner target.owner o) && option_map_or (λ i. option_map_or (λ other. is_some other.name) (interface_at r i) false) (owner_interface target.owner) false

foreign_real : (r : Resolve) (a : TypeOwner) → option_map_or (λ i. option_map_or (λ other. is_some other.name) (interface_at r i) false) (owner_interface a) false ≡ true
    → same_owner a owner.None ≡ false
foreign_real r x h = search std_rules

-- a named type stands in its owner's list, and its rank is its place there
listed_at : (r : Resolve) → Keeps listings r → (m : ℕ) (def : TypeDef) (name : String Global) → type_at r m ≡ Some def → def.name ≡ Some name → is_listed r m (text_of name) def.owner ≡ true
unfolding listings
listed_at r kept m def name is named = search (std_rules, each_from_at, lists_pass)

ranked : (r : Resolve) (m : ℕ) (def : TypeDef) (name : String Global) (o : TypeOwner) → type_at r m ≡ Some def → def.name ≡ Some name → def.owner ≡ o → rank_of r m ≡ rank_in r (text_of name) o
ranked r m def name o is named mine = search std_rules

-- What a list of an owner has to know: a type of that owner stands in it once, under its name, and is ranked by its place.
module _ (r : Resolve) (kept : Keeps listings r) {K V : Type 0} (num : V → Option ℕ) (o : TypeOwner) (es : List (K × V)) (tests : Text → K → Bool)
    (real : same_owner o owner.None ≡ false)
    (listed : (m : ℕ) (t : Text) → is_listed r m t o ≡ true → (found (tests t) num m es && (count_by (λ k. k == m) (filter_map num (values_of es)) == 1)) ≡ true)
    (placed : (t : Text) → rank_in r t o ≡ option_map_or (λ k. k + 1) (position (tests t) (keys_of es)) 0) where
  -- a type that stands once under its name stands under no other key
  fits_alone : (m : ℕ) (t : Text) → (found (tests t) num m es && (count_by (λ k. k == m) (filter_map num (values_of es)) == 1)) ≡ true → fitting (tests t) num m es ≡ true
  fits_alone m t once = all_at (λ e. not (is_id m (num e.1)) || tests t e.0) es (λ q e get. go q e get (is_id m (num e.1)) (tests t e.0) refl refl)
    where
      go : (q : ℕ) (e : K × V) → slice_get es q ≡ Some e → (a b : Bool) → is_id m (num e.1) ≡ a → tests t e.0 ≡ b → (not a || b) ≡ true
      go q e get false b f g = refl
      go q e get true true f g = refl
      go q e get true false f g = sym (misfit (tests t) num m es q e get f g) ∙ once

  each_owned : (P : ℕ → Type 0) →
      ((m : ℕ) (t : Text) → found (tests t) num m es ≡ true → fitting (tests t) num m es ≡ true → rank_of r m ≡ option_map_or (λ k. k + 1) (position (tests t) (keys_of es)) 0 → P m) →
      (m : ℕ) → has_owner r o m ≡ true → P m
  each_owned P one m h =
      let d = there (type_at r m) (given-some _ (type_at r m) h) in
      let own = owner_same d.0.owner o (held (λ (def : TypeDef). same_owner def.owner o) d.0 d.1 h) in
      let name = there d.0.name (owned_named r kept m d.0 d.1 (ap (λ x. same_owner x owner.None) own ∙ real)) in
      let t = text_of name.0 in
      let once = listed m t (ap (is_listed r m t) (sym own) ∙ listed_at r kept m d.0 name.0 d.1 name.1) in
      one m t (first_true _ _ once) (fits_alone m t once) (ranked r m d.0 name.0 o d.1 name.1 own ∙ placed t)

  -- a type of the owner stands in the list
  pub stands_in : (m : ℕ) → has_owner r o m ≡ true → has (filter_map num (values_of es)) m ≡ true
  stands_in = each_owned (λ m. has (filter_map num (values_of es)) m ≡ true) (λ m t f fit place. found_stands (tests t) num m es f)

  abbrev passing : ℕ → ℕ → Bool
  passing p m = not (has (filter_map num (values_of es)) m) || has (filter_map num (values_of (take p es))) m

  -- and before a place exactly where its own is at most that
  pub owned_place : (p m : ℕ) → has_owner r o m ≡ true → passing p m ≡ nat_le (rank_of r m) p
  owned_place p = each_owned (λ m. passing p m ≡ nat_le (rank_of r m) p) (λ m t f fit place. used_place (tests t) num m es p f fit ∙ ap (λ k. nat_le k p) (sym place))

  -- so a type that uses its own owner's types alone stands in order where the greatest place that it reaches is at most its own
  users_place : (p : ℕ) (def : TypeDef) → list_all (has_owner r o) (used_by_type r def) ≡ true → nat_le (highest (reach_of r) (kind_numbers def.kind)) p ≡ list_all (passing p) (used_by_type r def)
  users_place p def own = ap (λ k. nat_le k p) (sym (highest_flat (rank_of r) (met_by (met_of r)) (kind_numbers def.kind)))
      ∙ (highest_within (rank_of r) p (used_by_type r def) ∙ sym (all_same (has_owner r o) (passing p) (λ m. nat_le (rank_of r m) p) (owned_place p) (used_by_type r def) own))

  -- ---- one entry of the list

  module _ (refs : Keeps references r) (own : Keeps owners r) (all : list_all (is_named_of r o) (filter_map num (values_of es)) ≡ true) where
    -- a type of another owner isn't in the list
    stranger : (t : ℕ) (target : TypeDef) → type_at r t ≡ Some target → same_owner target.owner o ≡ false → has (filter_map num (values_of es)) t ≡ false
    stranger t target is apart = go (has (filter_map num (values_of es)) t) refl
      where
        go : (b : Bool) → has (filter_map num (values_of es)) t ≡ b → b ≡ false
        go false e = refl
        go true e =
            let named : (is_some target.name && same_owner target.owner o) ≡ true =
            sym (ap (passes (λ def. is_some def.name && same_owner def.owner o)) is) ∙ all_has (is_named_of r o) (filter_map num (values_of es)) t all e in
            sym (second_true _ _ named) ∙ apart

    -- a use asks nothing of the list
    use_stands : (p : ℕ) (def : TypeDef) → def.owner ≡ o → is_use r def ≡ true → list_all (passing p) (used_by_type r def) ≡ true
    use_stands p def mine h =
        let a = there (alias_target def.kind) (given-some _ (alias_target def.kind) h) in
        let met = held (λ t. option_map_or (is_foreign r def.owner) (type_at r t) false) a.0 a.1 h in
        let b = there (type_at r a.0) (given-some _ (type_at r a.0) met) in
        let foreign = held (is_foreign r def.owner) b.0 b.1 met in
        let name = there b.0.name (owned_named r kept a.0 b.0 b.1 (foreign_real r b.0.owner (second_true _ _ foreign))) in
        let met_alone : met_by (met_of r) a.0 ≡ a.0 ∷ [] = met_step r refs a.0 b.0 b.1 ∙ ap (λ x. option_map_or (λ name. a.0 ∷ []) x (used_by_type r b.0)) name.1 in
        let out = stranger a.0 b.0 b.1 (ap (same_owner b.0.owner) (sym mine) ∙ not_true _ (first_true _ _ foreign)) in
        ap (λ ns. list_all (passing p) (flat_map (met_by (met_of r)) ns)) (alias_numbers def.kind a.0 a.1)
        ∙ (ap (λ ns. list_all (passing p) (ns ++ [])) met_alone ∙ ap (λ x. (not x || has (filter_map num (values_of (take p es))) a.0) && true) out)

    -- the test by places is the test by what stands before
    entry_stands : (p n : ℕ) → is_named_of r o n ≡ true → stands_in_order r (reach_of r) p n ≡ list_all (passing p) (used_by_number r n)
    unfolding owners
    entry_stands p n named = go (type_at r n) refl named
      where
        here : 0 + n ≡ n
        here = omega arith

        tested : (def : TypeDef) → type_at r n ≡ Some def → type_stays r def ≡ true
        tested def is = subst (λ k. owners.type_ r k def ≡ true) here (each_from_at (owners.type_ r) 0 r.types.items n def (lists_pass owners r own).3 is)

        stays_home : (a b : Bool) → (a || b) ≡ true → b ≡ false → a ≡ true
        stays_home x b h e = search std_rules

        by_use : (def : TypeDef) → type_at r n ≡ Some def → def.owner ≡ o → (b : Bool) → is_use r def ≡ b
            → (b || nat_le (highest (reach_of r) (kind_numbers def.kind)) p) ≡ list_all (passing p) (used_by_type r def)
        by_use def is mine true e = sym (use_stands p def mine e)
        by_use def is mine false e =
            let owned = owned_stays r def (tested def is) (ap (λ x. same_owner x owner.None) mine ∙ real) in
            users_place p def (ap (λ x. list_all (has_owner r x) (used_by_type r def)) (sym mine) ∙ stays_home (list_all (has_owner r def.owner) (used_by_type r def)) (is_use r def) owned e)

        go : (d : Option TypeDef) → type_at r n ≡ d → passes (λ def. is_some def.name && same_owner def.owner o) d ≡ true →
            passes (λ def. is_use r def || nat_le (highest (reach_of r) (kind_numbers def.kind)) p) d ≡ list_all (passing p) (option_map_or (used_by_type r) d [])
        go None is h = refl
        go (Some def) is h = by_use def is (owner_same def.owner o (second_true _ _ h)) (is_use r def) refl

    -- a list stands in order exactly where each type stands by its place
    pub list_order : (f : ℕ → ℕ) → ((m : ℕ) → f m ≡ reach_of r m) → each_from (λ p v. passes (stands_in_order r f p) (num v)) 0 (values_of es) ≡ are_in_order r (filter_map num (values_of es))
    list_order f same = ap (λ g. each_from (λ p v. passes (stands_in_order r g p) (num v)) 0 (values_of es)) (λ i m. same m i)
        ∙ walk num (stands_in_order r (reach_of r)) (λ before k. list_all (λ m. not (has (filter_map num (values_of es)) m) || has before m) (used_by_number r k)) (values_of es) [] (values_of es) refl
        (λ done v rest k e f. entry_stands (length done) k (all_has (is_named_of r o) (filter_map num (values_of es)) k all (ap (λ vs. has (filter_map num vs) k) e ∙ stands_there num done v rest k f))
        ∙ ap (λ vs. list_all (λ m. not (has (filter_map num (values_of es)) m) || has (filter_map num vs) m) (used_by_number r k)) (before_seam es done v rest e))
