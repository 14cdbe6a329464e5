-- Tokens from whose front it can be told what they say.
use Rattle.std.proofs.Common.{rules as std_rules, ◌≡◌, ◌∙◌, sym, ap, List, [], ◌∷◌, ◌++◌, map, append_assoc, refl}
use Rattle.std.specs.List.{flat_map, AllByRecursion}
use Rattle.base_lemmas.proofs.Lists.{heads_equal, tails_equal}
use Rattle.json.specs.Token.{Token, begin_object, end_array}

-- Where f and g begin tokens in the same way, the same is said, as v and as w, and the same tokens follow.
pub record Tells {X V : Type 0} (D : X → Type 0) (f g : X → List Token) (v w : X → V) : Type 0 where
  pub told : (x y : X) (s t : List Token) → D x → D y → f x ++ s ≡ g y ++ t → (v x ≡ w y) × (s ≡ t)

-- the same of one token
pub record TellsToken {X V : Type 0} (D : X → Type 0) (f g : X → Token) (v w : X → V) : Type 0 where
  pub same : (x y : X) → D x → D y → f x ≡ g y → v x ≡ w y

pub pair_same : {V W : Type 0} {a b : V} {c d : W} → a ≡ b → c ≡ d → ◌≡◌ {A = V × W} (a, c) (b, d)
pair_same p q = cc

pub cons_same : {A : Type 0} {a c : A} {xs ys : List A} → a ≡ c → xs ≡ ys → a ∷ xs ≡ c ∷ ys
cons_same p q = cc

pub tells_token : {X V : Type 0} {D : X → Type 0} {f g : X → Token} {v w : X → V} → TellsToken D f g v w → Tells D (λ x. f x ∷ []) (λ x. g x ∷ []) v w
tells_token h = record { told = λ x y s t p q e. (h.same x y p q (heads_equal _ _ _ _ e), tails_equal _ _ _ _ e) }

-- behind a token
pub tells_behind : {X V : Type 0} {D : X → Type 0} {f g : X → List Token} {v w : X → V} (c : Token) → Tells D f g v w → Tells D (λ x. c ∷ f x) (λ x. c ∷ g x) v w
tells_behind c h = record { told = λ x y s t p q e. h.told x y s t p q (tails_equal _ _ _ _ e) }

-- one behind the other
pub tells_two : {X V W : Type 0} {D E : X → Type 0} {f g h k : X → List Token} {v w : X → V} {u z : X → W} → Tells D f g v w → Tells E h k u z
    → Tells {V = V × W} (λ x. D x × E x) (λ x. f x ++ h x) (λ x. g x ++ k x) (λ x. (v x, u x)) (λ x. (w x, z x))
tells_two {f = f} {g = g} {h = h} {k = k} a b = record {
  told = λ x y s t p q e.
      let first = a.told x y (h x ++ s) (k y ++ t) p.0 q.0 (sym (append_assoc (f x) (h x) s) ∙ e ∙ append_assoc (g y) (k y) t) in
      let second = b.told x y s t p.1 q.1 first.1 in
      (pair_same first.0 second.0, second.1);
}

-- in front of a token
pub tells_before : {X V : Type 0} {D : X → Type 0} {f g : X → List Token} {v w : X → V} (c : Token) → Tells D f g v w → Tells D (λ x. f x ++ c ∷ []) (λ x. g x ++ c ∷ []) v w
tells_before {f = f} {g = g} c h = record {
  told = λ x y s t p q e.
      let first = h.told x y (c ∷ s) (c ∷ t) p q (sym (append_assoc (f x) (c ∷ []) s) ∙ e ∙ append_assoc (g y) (c ∷ []) t) in
      (first.0, tails_equal _ _ _ _ first.1);
}

-- of what is made of it, under another condition
pub tells_as : {X V W : Type 0} {D E : X → Type 0} {f g : X → List Token} {v w : X → V} (h : V → W) → ((x : X) → E x → D x) → Tells D f g v w → Tells E f g (λ x. h (v x)) (λ x. h (w x))
tells_as h d k = record { told = λ x y s t p q e. let r = k.told x y s t (d x p) (d y q) e in (ap h r.0, r.1) }

-- of a part
pub tells_of : {X Y V : Type 0} {D : Y → Type 0} {f g : Y → List Token} {v w : Y → V} (part : X → Y) → Tells D f g v w
    → Tells (λ x. D (part x)) (λ x. f (part x)) (λ x. g (part x)) (λ x. v (part x)) (λ x. w (part x))
tells_of part h = record { told = λ x y s t p q e. h.told (part x) (part y) s t p q e }

-- by what is read from the front
pub tells_read : {X V : Type 0} {D : X → Type 0} {f : X → List Token} {v : X → V} (read : List Token → V × List Token) → ((x : X) (s : List Token) → D x → read (f x ++ s) ≡ (v x, s)) → Tells D f f v v
tells_read read h = search std_rules

-- what doesn't begin with the end of a list
pub record Begins {X : Type 0} (f : X → List Token) : Type 0 where
  pub first : X → Token
  pub rest : X → List Token
  pub is : (x : X) → f x ≡ first x ∷ rest x
  pub no_end : (x : X) → first x ≡ end_array → ⊥

-- an object doesn't
pub begins_object : {X : Type 0} {f : X → List Token} (rest : X → List Token) → ((x : X) → f x ≡ begin_object ∷ rest x) → Begins f
begins_object rest is = record { first = λ x. begin_object; rest = rest; is = is; no_end = λ x e. object_no_end e }
  where
    object_no_end : begin_object ≡ end_array → ⊥
    object_no_end e = cc

ends_not : {X : Type 0} {f : X → List Token} (b : Begins f) (x : X) (s t u : List Token) → (f x ++ s) ++ t ≡ end_array ∷ u → ⊥
ends_not b x s t u e = b.no_end x (heads_equal _ _ _ _ (ap (λ l. (l ++ s) ++ t) (sym (b.is x)) ∙ e))

module _ {X V : Type 0} {D : X → Type 0} {f g : X → List Token} {v w : X → V} (h : Tells D f g v w) (b : Begins f) (c : Begins g) where
  all_told : (xs ys : List X) (s t : List Token) → AllByRecursion D xs → AllByRecursion D ys → flat_map f xs ++ end_array ∷ s ≡ flat_map g ys ++ end_array ∷ t → (map v xs ≡ map w ys) × (s ≡ t)
  all_told [] [] s t p q e = (refl, tails_equal _ _ _ _ e)
  all_told [] (y ∷ ys) s t p q e = absurd (ends_not c y (flat_map g ys) (end_array ∷ t) s (sym e))
  all_told (x ∷ xs) [] s t p q e = absurd (ends_not b x (flat_map f xs) (end_array ∷ s) t e)
  all_told (x ∷ xs) (y ∷ ys) s t p q e =
      let first = h.told x y (flat_map f xs ++ end_array ∷ s) (flat_map g ys ++ end_array ∷ t) p.0 q.0
      (sym (append_assoc (f x) (flat_map f xs) (end_array ∷ s)) ∙ e ∙ append_assoc (g y) (flat_map g ys) (end_array ∷ t)) in
      let more = all_told xs ys s t p.1 q.1 first.1 in
      (cons_same first.0 more.0, more.1)

  -- a list up to its end
  pub tells_all : Tells (AllByRecursion D) (λ xs. flat_map f xs ++ end_array ∷ []) (λ xs. flat_map g xs ++ end_array ∷ []) (map v) (map w)
  tells_all = record { told = λ xs ys s t p q e. all_told xs ys s t p q (sym (append_assoc (flat_map f xs) (end_array ∷ []) s) ∙ e ∙ append_assoc (flat_map g ys) (end_array ∷ []) t) }
