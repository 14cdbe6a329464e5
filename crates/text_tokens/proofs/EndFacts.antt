-- The loop of a scan: where the longest token ends.
use Rattle.std.proofs.Common.{◌≡◌, refl, sym, ap, ◌∙◌, ℕ, ◌+◌, ◌<◌, ◌≤◌, suc, Bool, true, false, if◌then◌else◌, List, [], ◌∷◌, length, Option, Some, None, drop, get_or, arith, length-drop}
use Rattle.std.specs.{Option.option_map, Prelude.IfSome}
use Rattle.std.proofs.lemmas.List.{drop_all}
use Rattle.text_tokens.specs.declared.state.State.{State}
use Rattle.text_tokens.specs.declared.state.State.TheVariants.{Start}
use Rattle.text_tokens.specs.States.{is_dead, is_ok, reach, step}
use Rattle.text_tokens.proofs.CommentFacts.{drop-at}
use Rattle.text_tokens.proofs.TokenScans.{dead-reach, dead_not_ok}

-- the one place, or else the other
abbrev pub or_else : Option ℕ → Option ℕ → Option ℕ
or_else (Some n) other = Some n
or_else None other = other

-- the place that a scan reaches
abbrev pub ends_at : ℕ → Option ℕ → Option ℕ
ends_at at o = option_map (λ n. n + at) o

-- what the loop keeps
pub record Kept (bytes : List ℕ) (from at : ℕ) (s : State) (best : Option ℕ) : Type 0 where
  pub kept : or_else (ends_at at (reach s (drop at bytes))) best ≡ ends_at from (reach Start (drop from bytes))
  pub here : is_ok s ≡ true → best ≡ Some at

or_none : (o : Option ℕ) → or_else o None ≡ o
or_none (Some n) = refl
or_none None = refl

pub kept_first : (bytes : List ℕ) (from : ℕ) → Kept bytes from from Start None
kept_first bytes from = record { kept = or_none (ends_at from (reach Start (drop from bytes))); here = λ h. absurd (cc h) }

none_some : (x : ℕ) → Some x ≡ None → ⊥
none_some x e = cc e

-- no byte more, if it passes
abbrev some_zero : Bool → Option ℕ
some_zero b = if b then Some 0 else None

ok_reaches : (s : State) (cs : List ℕ) → is_ok s ≡ true → reach s cs ≡ None → ⊥
ok_reaches s [] h e = none_some 0 (ap some_zero (sym h) ∙ e)
ok_reaches s (c ∷ cs) h e = go (is_dead s) refl (reach (step s c) cs) e
  where
    go : (d : Bool) → is_dead s ≡ d → (o : Option ℕ) → (if d then None else elim o [ Some n ↦ Some (suc n) | None ↦ some_zero (is_ok s) ]) ≡ None → ⊥
    go true f o g = let x = dead_not_ok s f in cc (x, h)
    go false f (Some n) g = none_some (suc n) g
    go false f None g = none_some 0 (ap some_zero (sym h) ∙ g)

-- a byte more
step_on : (s : State) (at c : ℕ) (cs : List ℕ) (best : Option ℕ) → is_dead s ≡ false → (is_ok s ≡ true → best ≡ Some at)
    → or_else (ends_at (at + 1) (reach (step s c) cs)) (if is_ok (step s c) then Some (at + 1) else best) ≡ or_else (ends_at at (reach s (c ∷ cs))) best
step_on s at c cs best alive here =
    go (reach (step s c) cs) refl
    ∙ ap (λ d. or_else (ends_at at (if d then None else elim (reach (step s c) cs) [ Some n ↦ Some (suc n) | None ↦ if is_ok s then Some 0 else None ])) best) (sym alive)
  where
    after : (b : Bool) → is_ok (step s c) ≡ b → reach (step s c) cs ≡ None → (if b then Some (at + 1) else best) ≡ best
    after true e f = absurd (ok_reaches (step s c) cs e f)
    after false e f = refl

    before : (b : Bool) → is_ok s ≡ b → best ≡ or_else (ends_at at (if b then Some 0 else None)) best
    before true e = here e ∙ ap Some (omega arith)
    before false e = refl

    go : (o : Option ℕ) → reach (step s c) cs ≡ o
        → or_else (ends_at (at + 1) o) (if is_ok (step s c) then Some (at + 1) else best)
        ≡ or_else (ends_at at (elim o [ Some n ↦ Some (suc n) | None ↦ if is_ok s then Some 0 else None ])) best
    go (Some n) e = ap Some (omega arith)
    go None e = after (is_ok (step s c)) refl e ∙ before (is_ok s) refl

better-here : (b : Bool) (at : ℕ) (best : Option ℕ) → b ≡ true → (if b then Some at else best) ≡ Some at
better-here true at best e = refl
better-here false at best e = absurd (cc e)

pub kept_step : (bytes : List ℕ) (from at : ℕ) (s : State) (best : Option ℕ) → at < length bytes → is_dead s ≡ false → Kept bytes from at s best
    → Kept bytes from (at + 1) (step s (get_or bytes at 0)) (if is_ok (step s (get_or bytes at 0)) then Some (at + 1) else best)
kept_step bytes from at s best h alive k = record {
  kept =
      step_on s at (get_or bytes at 0) (drop (at + 1) bytes) best alive k.here
      ∙ (ap (λ x. or_else (ends_at at (reach s x)) best) (sym (drop-at bytes at h)) ∙ k.kept);
  here = λ e. better-here (is_ok (step s (get_or bytes at 0))) (at + 1) best e;
}

pub kept_dead : (bytes : List ℕ) (from at : ℕ) (s : State) (best : Option ℕ) → is_dead s ≡ true → Kept bytes from at s best → best ≡ ends_at from (reach Start (drop from bytes))
kept_dead bytes from at s best dead k = ap (λ o. or_else (ends_at at o) best) (sym (dead-reach s (drop at bytes) dead)) ∙ k.kept

pub kept_end : (bytes : List ℕ) (from at : ℕ) (s : State) (best : Option ℕ) → length bytes ≤ at → Kept bytes from at s best → best ≡ ends_at from (reach Start (drop from bytes))
kept_end bytes from at s best h k = go (is_ok s) refl ∙ (ap (λ x. or_else (ends_at at (reach s x)) best) (sym (drop_all at bytes h)) ∙ k.kept)
  where
    go : (b : Bool) → is_ok s ≡ b → best ≡ or_else (ends_at at (if b then Some 0 else None)) best
    go true e = k.here e ∙ ap Some (omega arith)
    go false e = refl

-- ---- how far a scan goes

pub reach_within : (cs : List ℕ) (s : State) (n : ℕ) → reach s cs ≡ Some n → n ≤ length cs
reach_within [] s n e = go (is_ok s) e
  where
    go : (b : Bool) → (if b then Some 0 else None) ≡ Some n → n ≤ 0
    go true f = let z : 0 ≡ n = cc in omega arith
    go false f = absurd cc
reach_within (c ∷ cs) s n e = go (is_dead s) (reach (step s c) cs) (reach_within cs (step s c)) refl e
  where
    here : (b : Bool) → (if b then Some 0 else None) ≡ Some n → n ≤ length (c ∷ cs)
    here true f = let z : 0 ≡ n = cc in omega arith
    here false f = absurd cc

    go : (d : Bool) (o : Option ℕ) → ((m : ℕ) → reach (step s c) cs ≡ Some m → m ≤ length cs) → reach (step s c) cs ≡ o
        → (if d then None else elim o [ Some m ↦ Some (suc m) | None ↦ if is_ok s then Some 0 else None ]) ≡ Some n → n ≤ length (c ∷ cs)
    go true o k f g = absurd cc
    go false (Some m) k f g = let z : suc m ≡ n = cc in let w = k m f in omega arith
    go false None k f g = here (is_ok s) g

pub reach_some : (cs : List ℕ) (n : ℕ) → reach Start cs ≡ Some n → 0 < n
reach_some [] n e = absurd cc
reach_some (c ∷ cs) n e = go (reach (step Start c) cs) e
  where
    go : (o : Option ℕ) → (elim o [ Some m ↦ Some (suc m) | None ↦ None ]) ≡ Some n → 0 < n
    go (Some m) g = let z : suc m ≡ n = cc in omega arith
    go None g = absurd cc

-- Where a token ends: further on, and within the text.
pub ends_within : (bytes : List ℕ) (from : ℕ) (o : Option ℕ) → from ≤ length bytes → o ≡ ends_at from (reach Start (drop from bytes))
    → (IfSome o (λ e. from < e)) × (IfSome o (λ e. e ≤ length bytes))
ends_within bytes from o h e = rw e (go (reach Start (drop from bytes)) refl)
  where
    go : (r : Option ℕ) → reach Start (drop from bytes) ≡ r → (IfSome (ends_at from r) (λ e. from < e)) × (IfSome (ends_at from r) (λ e. e ≤ length bytes))
    go None f = (tt, tt)
    go (Some n) f =
        let more = reach_some (drop from bytes) n f in
        let less = reach_within (drop from bytes) Start n f in
        (omega arith, omega (arith, length-drop from bytes))
