-- The beginning of a table is so many different pairs of the walk.
use Rattle.std.proofs.Common.{rules as std_rules, arith, ◌≡◌, refl, sym, ap, subst, ◌∙◌, ℕ, zero, suc, ◌≤◌, Bool, true, false, ◌&&◌, List, [], ◌∷◌, take, drop, length, nat_eq, Result, OnOk, is_ok}
use Rattle.std.proofs.lemmas.{List.length-take-le, List.take-append-drop, List.take_all, Bool.eq-eqb, List.Elements.Contains-append_left, Map.Keys.IsDistinct-head, Map.Keys.IsDistinct-tail}
use Rattle.std.specs.List.{Contains, IsDistinct, AllByRecursion}
use Rattle.wit_model.specs.declared.model.{Resolve.Resolve, World.World}
use Rattle.compat_meaning.specs.Walk.{Pair, AreDifferent, IsCounted, pairs_of_worlds}
use Rattle.compat_meaning.specs.Table.{AreAmong, AreReached, IsLayered, IsSettled}
use Rattle.compat_meaning.proofs.Alike.{closed}
use Rattle.base_lemmas.proofs.Elements.{all_at}

abbrev pub same_numbers : Pair → Pair → Bool
same_numbers p q = nat_eq p.0 q.0 && nat_eq p.1 q.1

same_itself : (p : Pair) → same_numbers p p ≡ true
same_itself p = λ i. eq-eqb p.0 p.0 refl i && eq-eqb p.1 p.1 refl i

in_beginning : (ps : List Pair) (n : ℕ) (p : Pair) → Contains (take n ps) p → Contains ps p
in_beginning ps n p c = subst (λ (qs : List Pair). Contains qs p) (take-append-drop n ps) (Contains-append_left (take n ps) (drop n ps) p c)

not_later : (p : Pair) (ps : List Pair) (n : ℕ) → AllByRecursion (λ q. same_numbers p q ≡ false) ps → Contains (take n ps) p → ⊥
not_later p ps n h c =
    let wrong : true ≡ false = sym (same_itself p) ∙ all_at (λ q. same_numbers p q ≡ false) ps h p (in_beginning ps n p c) in
    let z : ⊥ = cc in z

pub beginning_different : (ps : List Pair) (n : ℕ) → IsDistinct same_numbers ps → AreDifferent (take n ps)
beginning_different ps zero h = tt
beginning_different [] (suc n) h = tt
beginning_different (p ∷ ps) (suc n) h = (not_later p ps n (IsDistinct-head same_numbers p ps h), beginning_different ps n (IsDistinct-tail same_numbers p ps h))

pub counted : (r : Resolve) → IsLayered r → (prev new : World) (keys : List Pair) (n : ℕ) (all : Bool) → IsDistinct same_numbers keys → AreReached r (pairs_of_worlds r prev new) keys → n ≤ length keys
    → (all ≡ true → IsSettled r keys n × AreAmong (pairs_of_worlds r prev new) keys) → IsCounted r prev new n all
counted r l prev new keys n all d w within settled = record {
  pairs = take n keys;
  different = beginning_different keys n d;
  walked = λ p c. w p (in_beginning keys n p c);
  counted = length-take-le n keys within;
  every = λ e p walk.
      let s = settled e in
      subst (λ (ps : List Pair). Contains ps p) (sym (ap (λ m. take m keys) s.0.1 ∙ take_all (length keys) keys (omega arith))) (closed r l keys (pairs_of_worlds r prev new) s.0.0 s.1 p walk);
}

pub ok_holds : {X E P : Type 0} (x : Result X E) → is_ok x ≡ true → OnOk x P → P
ok_holds x b p = search std_rules
