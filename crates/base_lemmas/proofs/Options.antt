-- Lemmas on options and results.
use Rattle.std.proofs.Common.{Err, IfErr, IfOk, None, Ok, OnErr, OnOk, Option, Result, Some, false, is_none, is_some, not, refl, subst, sym, true, ℕ, ◌≡◌}
use Rattle.std.specs.Prelude.{IsErrAnd}

pub there : {A : Type 0} (o : Option A) → is_some o ≡ true → (x : A) × (o ≡ Some x)
there None e = let wrong : false ≡ true = e in absurd cc
there (Some x) e = (x, refl)

pub if_ok : {A E : Type 0} (P Q : A → Type 0) → ((a : A) → P a → Q a) → (r : Result A E) → IfOk r P → IfOk r Q
if_ok P Q f (Ok a) h = f a h
if_ok P Q f (Err e) h = h

pub nameless : {A : Type 0} (x : Option A) → is_some x ≡ true → is_none x ≡ false
nameless None e = let wrong : ⊥ = cc in absurd wrong
nameless (Some x) e = refl

pub at_err : {T E P : Type 0} (r : Result T E) → P → OnErr r P
at_err (Ok v) p = tt
at_err (Err e) p = p

pub both-of : {X E : Type 0} (P Q : X → Type 0) (given : Result X E) → IfOk given P → IfOk given Q → IfOk given (λ x. P x × Q x)
both-of P Q (Ok x) p q = (p, q)
both-of P Q (Err e) p q = p

pub passed : {X E : Type 0} (P : E → Type 0) (r : Result X E) (e : E) → IsErrAnd r (λ d. d ≡ e) → P e → IfErr r P
passed P (Ok x) e same p = tt
passed P (Err d) e same p = subst P (sym same) p

pub on_ok : {X E : Type 0} (r : Result X E) (A B : Type 0) → OnOk r A → (A → B) → OnOk r B
on_ok (Ok x) A B h f = f h
on_ok (Err e) A B h f = tt

pub none_not_some : {X : Type 0} (o : Option X) → is_none o ≡ not (is_some o)
none_not_some None = refl
none_not_some (Some x) = refl

pub err_said : {A B : Type 0} (P Q : B → Type 0) → ((e : B) → P e → Q e) → (r : Result A B) → IfErr r P → IfErr r Q
err_said P Q f (Ok x) h = h
err_said P Q f (Err e) h = f e h

pub ok_said : {A B : Type 0} (P Q : Type 0) → (P → Q) → (r : Result A B) → OnOk r P → OnOk r Q
ok_said P Q f (Ok x) h = f h
ok_said P Q f (Err e) h = h

pub on-both : {A E : Type 0} (x : Result A E) (P Q R : Type 0) → (P → Q → R) → OnOk x P → OnOk x Q → OnOk x R
on-both (Ok x) P Q R f p q = f p q
on-both (Err e) P Q R f p q = p

pub none_some : {X : Type 0} (o : Option X) → is_some o ≡ false → is_none o ≡ true
none_some None h = refl
none_some (Some x) h = let wrong : ⊥ = cc in absurd wrong

pub some_same : (n m : ℕ) → Some n ≡ Some m → n ≡ m
some_same n m h = cc

pub ok_holds : {A E P : Type 0} → P → (r : Result A E) → OnOk r P
ok_holds p (Ok a) = p
ok_holds p (Err e) = tt

pub some_is : {A : Type 0} (x y : A) → ◌≡◌ {A = Option A} (Some x) (Some y) → x ≡ y
some_is x y e = cc

pub at_ok : {T E P : Type 0} (r : Result T E) → P → OnOk r P
at_ok (Ok v) p = p
at_ok (Err e) p = tt

pub none_is : {A : Type 0} (v : Option A) → is_none v ≡ true → v ≡ None
none_is None h = refl
none_is (Some x) h = let wrong : ⊥ = cc in absurd wrong
