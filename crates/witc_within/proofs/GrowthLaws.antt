-- A text only grows: after a beginning of some calls it is no longer than after all of them.
use Rattle.std.proofs.Common.{rules as std_rules, ◌≡◌, ◌≤◌, refl, sym, subst, arith, ℕ, List, [], ◌∷◌, inl, inr, length}
use Rattle.std.proofs.lemmas.List.{length-append}
use Rattle.print_output.specs.OutputCall.{Begins, Moves, OutputCall, Reaches, OutputView, after, after_all, body_calls}
use Rattle.print_output.specs.OutputCall.Begins.{begun_in, nothing_begun, then_begun}
use Rattle.print_output.specs.OutputCall.Moves.{nothing_moved, then_moved}
use Rattle.print_output.specs.Render.{Written, writes}
use Rattle.print_output.proofs.RenderLaws.{Moves-writes, writes-body}

-- how long a text is
abbrev size : OutputView Written → ℕ
size v = length v.kept.text

longer : (v : OutputView Written) (call : OutputCall) → size v ≤ size (after writes v call)
longer v x = search (std_rules, length-append)

longer-all : (v : OutputView Written) (calls : List OutputCall) → size v ≤ size (after_all writes v calls)
longer-all v [] = omega arith
longer-all v (call ∷ calls) = let one = longer v call in let rest = longer-all (after writes v call) calls in omega (arith, one, rest)

same : (v w : OutputView Written) (calls : List OutputCall) → w ≡ v → size w ≤ size (after_all writes v calls)
same v w calls is = let all = longer-all v calls in subst (λ (u : OutputView Written). size u ≤ size (after_all writes v calls)) (sym is) all

reached : (v w : OutputView Written) (calls : List OutputCall) → Reaches writes v calls w → size w ≤ size (after_all writes v calls)
reached v w [] h = same v w [] h
reached v w (call ∷ calls) h = elim h [ inl e ↦ same v w (call ∷ calls) e | inr more ↦ reached (after writes v call) w calls more ]

pub begun-shorter : {v w : OutputView Written} {calls : List OutputCall} → Begins writes v calls w → size w ≤ size (after_all writes v calls)
begun-shorter (nothing_begun {old = v} {new = w} {calls = calls} e) = same v w calls e
begun-shorter (begun_in {old = v} {new = w} {call = call} {calls = calls} h) =
    let front = subst (λ (u : OutputView Written). size w ≤ size u) (writes-body v call) (reached v w (body_calls call) h) in
    let rest = longer-all (after writes v call) calls in
    omega (arith, front, rest)
begun-shorter (then_begun {old = v} {between = u} {new = w} {call = call} {calls = calls} h m) =
    let moved : Moves writes v (call ∷ []) u = then_moved {old = v} {between = u} {new = u} {call = call} {calls = []} h (nothing_moved refl) in
    subst (λ (x : OutputView Written). size w ≤ size (after_all writes x calls)) (Moves-writes moved) (begun-shorter m)
