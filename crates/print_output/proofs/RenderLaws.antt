-- An output that keeps a text keeps what the calls render to, and one that records its calls keeps them, each as itself or as its body's calls.
use Rattle.std.proofs.Common.{rules as std_rules, ◌≡◌, ◌∙◌, true, List, [], ◌∷◌, ◌++◌, refl, ap, sym, inl, inr, append_assoc, append-nil}
use Rattle.print_output.specs.OutputCall.{OutputCall, OutputView, after, after_all, body_calls, Counts, Moves}
use Rattle.print_output.specs.{OutputCall.Moves.nothing_moved, OutputCall.Moves.then_moved, Expansion.appends, Expansion.Expands, Expansion.is_whole}
use Rattle.print_output.specs.Render.{Written, writes}

-- the calls of a body write what the call does
pub writes-body : (v : OutputView Written) (call : OutputCall) → after_all writes v (body_calls call) ≡ after writes v call
writes-body v x = search (std_rules, append-nil, append_assoc)

Counts-writes : (u : OutputView Written) (call : OutputCall) (w : OutputView Written) → Counts writes u call w → w ≡ after writes u call
Counts-writes u call w h = elim h [ inl e ↦ e | inr e ↦ e ∙ writes-body u call ]

-- the text of an output is what its calls render to
pub Moves-writes : {u w : OutputView Written} {calls : List OutputCall} → Moves writes u calls w → w ≡ after_all writes u calls
Moves-writes (nothing_moved e) = e
Moves-writes (then_moved {old = u} {between = v} {call = call} {calls = calls} h m) = search (std_rules, Counts-writes u call v h, Moves-writes m)

after_all-append : (v : OutputView Written) (xs ys : List OutputCall) → after_all writes v (xs ++ ys) ≡ after_all writes (after_all writes v xs) ys
after_all-append v [] ys = refl
after_all-append v (x ∷ xs) ys = after_all-append (after writes v x) xs ys

-- what was recorded is the calls, each as itself or as its body's calls
pub Moves-appends : {u w : OutputView (List OutputCall)} {calls : List OutputCall} → Moves appends u calls w → (ys : List OutputCall) × Expands calls ys × (w.kept ≡ u.kept ++ ys)
Moves-appends {u = u} (nothing_moved e) = ([], refl, ap (λ x. x.kept) e ∙ sym (append-nil u.kept))
Moves-appends (then_moved {old = u} {between = v} {call = call} h m) =
    let r = Moves-appends m in
    elim h [
      | inl e ↦ (call ∷ r.0, (r.0, inl refl, r.1), r.2 ∙ ap (λ x. x.kept ++ r.0) e ∙ append_assoc u.kept (call ∷ []) r.0)
      | inr e ↦ (body_calls call ++ r.0, (r.0, inr refl, r.1), r.2 ∙ ap (λ x. x.kept ++ r.0) e ∙ ap (λ x. x ++ r.0) (kept-all u (body_calls call)) ∙ append_assoc u.kept (body_calls call) r.0)
    ]
  where
    kept-all : (x : OutputView (List OutputCall)) (xs : List OutputCall) → (after_all appends x xs).kept ≡ x.kept ++ xs
    kept-all x [] = sym (append-nil x.kept)
    kept-all x (y ∷ ys) = kept-all (after appends x y) ys ∙ append_assoc x.kept (y ∷ []) ys

-- what was recorded renders to what the calls render to
pub Expands-writes : (v : OutputView Written) (calls ys : List OutputCall) → Expands calls ys → after_all writes v ys ≡ after_all writes v calls
Expands-writes v [] ys h = ap (λ x. after_all writes v x) h
Expands-writes v (call ∷ calls) ys h = search (std_rules, after_all-append, writes-body, Expands-writes (after writes v call) calls h.0 h.2)

whole-rest : (call : OutputCall) (rest : List OutputCall) → is_whole (call ∷ rest) ≡ true → is_whole rest ≡ true
whole-rest x rest h = search std_rules

-- a body's calls that hold no `indent_if_needed` are the call itself
body-whole : (call : OutputCall) (rest : List OutputCall) → is_whole (body_calls call ++ rest) ≡ true → body_calls call ++ rest ≡ call ∷ rest
body-whole x rest h = search std_rules

-- where no `indent_if_needed` was recorded, each call counted as itself
pub Expands-whole : (calls ys : List OutputCall) → Expands calls ys → is_whole ys ≡ true → ys ≡ calls
Expands-whole [] ys h w = h
Expands-whole (call ∷ calls) ys h w =
    let e : ys ≡ call ∷ h.0 = elim h.1 [ inl e ↦ e | inr e ↦ e ∙ body-whole call h.0 (ap is_whole (sym e) ∙ w) ] in
    e ∙ ap (λ x. call ∷ x) (Expands-whole calls h.0 h.2 (whole-rest call h.0 (ap is_whole (sym e) ∙ w)))
