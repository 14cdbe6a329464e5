use Rattle.std.proofs.{Common.ℕ, Common.◌≡◌, Common.true, Common.false, Common.arith, Common.sym, Common.◌∙◌, Common.subst, Common.List, Common.Option, Common.ap, Common.◌++◌, Common.◌∷◌, Common.[], lemmas.Bool.ltb-true, lemmas.List.Elements.Contains-append_right}
use Rattle.std.specs.{Prelude.IsPermutation, Prelude.is_some, List.Contains}
use Rattle.encode_types.specs.NumberMaps.{NumberEntries, filled, has_room, is_past, last_of}
use Rattle.encode_types.proofs.Ascending.{ascending-push, first-room, second-room, pushed-first, pushed-second, filled-more}
use Rattle.encode_types.proofs.number_map.NumberMap.insert.Goals as goal

pub invariant_of-self : goal.invariant_of-self
invariant_of-self c = (
  rw c.in_ok-push.ensures.items
      (ascending-push c.self.inside.run.items (c.args.number, c.args.index) c.self.invariant.0 (rw c.deref.ensures.value at (c.is_above.ensures.below c.if-is_above.true))),
  c.self.invariant.1,
)

pub returns-in_ok-push-clause-ok : goal.returns-in_ok-push-clause-ok
returns-in_ok-push-clause-ok c =
    let e : ℕ × ℕ = (c.args.number, c.args.index) in
    subst (λ (m : NumberEntries). IsPermutation (m.entries ++ e ∷ []) (c.push.new.self.items ++ filled c.self.inside.rest.entries)) c.self.view_is
    (rw c.in_ok-push.ensures.items (pushed-first c.self.inside.run.items (filled c.self.inside.rest.entries) e))

pub returns-in_ok-insert-clause-ok : goal.returns-in_ok-insert-clause-ok
returns-in_ok-insert-clause-ok c =
    let lacks = subst (λ (m : NumberEntries). (i : ℕ) → Contains m.entries (c.args.number, i) → ⊥) (sym c.self.view_is) c.requires in
    let e : ℕ × ℕ = (c.args.number, c.args.index) in
    let none : (j : ℕ) → Contains (filled c.self.inside.rest.entries) (c.args.number, j) → ⊥ = λ j k.
    lacks j (Contains-append_right c.self.inside.run.items (filled c.self.inside.rest.entries) (c.args.number, j) k) in
    subst (λ (m : NumberEntries). IsPermutation (m.entries ++ e ∷ []) (c.self.inside.run.items ++ filled c.insert.new.self.entries)) c.self.view_is
    (pushed-second c.self.inside.run.items (filled c.self.inside.rest.entries) (filled c.insert.new.self.entries) e
    (subst (λ (es : List (ℕ × Option ℕ)). IsPermutation (filled c.self.inside.rest.entries ++ e ∷ []) (filled es)) (sym c.in_ok-insert.ensures.entries)
    (filled-more c.self.inside.rest.entries c.args.number c.args.index none)))

pub returns-in_err-push-clause-succeeds : goal.returns-in_err-push-clause-succeeds
returns-in_err-push-clause-succeeds c = λ room.
    let there = subst (λ (m : NumberEntries). has_room m c.args.number ≡ true) (sym c.self.view_is) room in
    let past : is_past (last_of c.self.inside.run.items) c.args.number ≡ true = (rw c.deref.ensures.value at (sym c.is_above.ensures.past ∙ c.if-is_above.true)) in
    let free = ltb-true _ _ (first-room _ _ _ past there) in
    let full = c.in_err-push.ensures.full in
    absurd (omega (arith, free, full))

pub returns-in_err-insert-clause-succeeds : goal.returns-in_err-insert-clause-succeeds
returns-in_err-insert-clause-succeeds c = λ room.
    let there = subst (λ (m : NumberEntries). has_room m c.args.number ≡ true) (sym c.self.view_is) room in
    let past : is_past (last_of c.self.inside.run.items) c.args.number ≡ false = (rw c.deref.ensures.value at (sym c.is_above.ensures.past ∙ c.if-is_above.false)) in
    let placed = second-room _ _ _ past there in
    let lacks = ap is_some c.in_err-insert.ensures.absent in
    absurd (let z : ⊥ = cc in z)
