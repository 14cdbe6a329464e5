-- A walk along needs keeps what is said of it at each step, and comes to its end.
use Rattle.std.proofs.Common.{◌≡◌, refl, sym, ap, ◌∙◌, subst, ℕ, zero, suc, ◌+◌, ◌-◌, ◌<◌, ◌≤◌, inl, inr, arith, List, [], ◌∷◌, ◌++◌, length, Option, Some, None, Contains, slice_get, slice_set, sum_by, Vec, map, length-append, replicate, unwrap_or, get_or}
use Rattle.std.proofs.lemmas.{Option.slice_get_within, Option.slice_get_read, List.Elements.Contains-append_left, List.Elements.Contains-append_right, Bool.cases_eq, List.Sums.sum_by-append, List.get_or-replicate, Option.get_or_from_slice_get}
use Rattle.std.specs.Global.{Global}
use Rattle.std.proofs.Math.ListN.{length-replicate}
use Rattle.std.proofs.lemmas.List.{length-set}
use Rattle.text_names.specs.declared.needs.Need.{Need}
use Rattle.base_lemmas.proofs.Lists.{at_last, front_more, last_or, none_there, set_there, within_there, mapped_get, length_of_map}
use Rattle.base_lemmas.proofs.Elements.{get-contains, contains-one}
use Rattle.wit_model.proofs.Elements.{contains-get}
use Rattle.text_names.specs.declared.order.State.{State}
use Rattle.text_names.specs.declared.order.State.TheVariants.{New, Open, Done}
use Rattle.text_names.specs.Orders.{links_of, ClosesCycle, Reaches, here, onward, IsOrder, StandsBefore}
use Rattle.text_names.specs.Walks.{Arrives, Goes, IsMet, IsOnPath, IsWalk, KeepsMet, WalksOn, left_new, steps_left}
use Rattle.text_names.specs.declared.order.Walk.{Walk}
use Rattle.text_plain.proofs.WalkLaws.{moved, set_at, set_back}
use Rattle.text_plain.specs.Orders.{AreWithin, Needs, needed}

new_open : (s : State) → s ≡ New → s ≡ Open → ⊥
new_open s a b = cc

new_done : (s : State) → s ≡ New → s ≡ Done → ⊥
new_done s a b = cc

open_done : Open ≡ Done → ⊥
open_done e = cc

done_open : Done ≡ Open → ⊥
done_open e = cc

one_state : (states : List State) (v : ℕ) (s t : State) → slice_get states v ≡ Some s → slice_get states v ≡ Some t → s ≡ t
one_state states v s t a b = cc

first_same : (a b c d : ℕ) → ◌≡◌ {A = ℕ × ℕ} (a, b) (c, d) → a ≡ c
first_same a b c d e = ap (λ x. x.0) e

second_same : (a b c d : ℕ) → ◌≡◌ {A = ℕ × ℕ} (a, b) (c, d) → b ≡ d
second_same a b c d e = ap (λ x. x.1) e

-- ---- a number is entered

module _ (links : List (List ℕ)) (states : List State) (path : List (ℕ × ℕ)) (done : List ℕ) (m : ℕ) (walk : IsWalk links states path done) (fresh : slice_get states m ≡ Some New)
    (comes : (i n a : ℕ) → slice_get path i ≡ Some (n, a) → i + 1 ≡ length path → slice_get (needed links n) a ≡ Some m) where
  kept_met : (v : ℕ) (s : State) → (s ≡ New → ⊥) → slice_get states v ≡ Some s → slice_get (slice_set states m Open) v ≡ Some s
  kept_met v s met e = set_there states m v Open (λ same. met (one_state states m s New (moved states v m s same e) fresh)) ∙ e

  open_is : (n : ℕ) → m ≡ n → slice_get (slice_set states m Open) n ≡ Some Open
  open_is n same = moved (slice_set states m Open) m n Open same (set_at states m Open New fresh)

  not_entered : (i n a : ℕ) → slice_get path i ≡ Some (n, a) → m ≡ n → ⊥
  not_entered i n a e same = new_open New refl (one_state states n New Open (moved states m n New same fresh) (walk.open_there i n a e))

  entered_once : (i j n a b : ℕ) → slice_get (path ++ (m, 0) ∷ []) i ≡ Some (n, a) → slice_get (path ++ (m, 0) ∷ []) j ≡ Some (n, b) → i ≡ j
  entered_once i j n a b ei ej = elim (last_or path (m, 0) i (n, a) ei) [
    | inl x ↦ elim (last_or path (m, 0) j (n, b) ej) [ inl y ↦ walk.once i j n a b x.1 y.1 | inr y ↦ absurd (not_entered i n a x.1 (first_same m 0 n b y.1)) ]
    | inr x ↦ elim (last_or path (m, 0) j (n, b) ej) [ inl y ↦ absurd (not_entered j n b y.1 (first_same m 0 n a x.1)) | inr y ↦ x.0 ∙ sym y.0 ]
  ]

  entered_linked : (i n a k b : ℕ) → slice_get (path ++ (m, 0) ∷ []) i ≡ Some (n, a) → slice_get (path ++ (m, 0) ∷ []) (i + 1) ≡ Some (k, b) → slice_get (needed links n) a ≡ Some k
  entered_linked i n a k b ei ej = elim (last_or path (m, 0) i (n, a) ei) [
    | inl x ↦ elim (last_or path (m, 0) (i + 1) (k, b) ej) [
      | inl y ↦ walk.linked i n a k b x.1 y.1
      | inr y ↦ comes i n a x.1 y.0 ∙ ap Some (first_same m 0 k b y.1)
    ]
    | inr x ↦ elim (last_or path (m, 0) (i + 1) (k, b) ej) [ inl y ↦ absurd (omega (arith, x.0, y.0)) | inr y ↦ absurd (omega (arith, x.0, y.0)) ]
  ]

  entered_on : (n : ℕ) → slice_get (slice_set states m Open) n ≡ Some Open → IsOnPath (path ++ (m, 0) ∷ []) n
  entered_on n e = elim (set_back states m Open New fresh n Open e) [
    | inl x ↦ record { place = length path; at = 0; stands = at_last path (m, 0) ∙ ap (λ (k : ℕ). Some (k, 0)) (sym x.0) }
    | inr x ↦ let w = walk.on_path n x.1 in record { place = w.place; at = w.at; stands = front_more path (m, 0) w.place (n, w.at) w.stands }
  ]

  pub entered : IsWalk links (slice_set states m Open) (path ++ (m, 0) ∷ []) done
  entered = record {
    many = length-set states m Open ∙ walk.many;
    open_there = λ i n at e. elim (last_or path (m, 0) i (n, at) e) [ inl x ↦ kept_met n Open (λ s. new_open Open s refl) (walk.open_there i n at x.1) | inr x ↦ open_is n (first_same m 0 n at x.1) ];
    on_path = entered_on;
    once = entered_once;
    fits = λ i n at e. elim (last_or path (m, 0) i (n, at) e) [ inl x ↦ walk.fits i n at x.1 | inr x ↦ omega (arith, second_same m 0 n at x.1) ];
    linked = entered_linked;
    seen = λ i n at k w e f less. elim (last_or path (m, 0) i (n, at) e) [
      | inl x ↦ kept_met w Done (λ s. new_done Done s refl) (walk.seen i n at k w x.1 f less)
      | inr x ↦ absurd (omega (arith, less, second_same m 0 n at x.1))
    ];
    stands = λ n e. elim (set_back states m Open New fresh n Done e) [ inl x ↦ absurd (done_open x.1) | inr x ↦ walk.stands n x.1 ];
    is_done = λ i n e. kept_met n Done (λ s. new_done Done s refl) (walk.is_done i n e);
    apart = walk.apart;
    behind = walk.behind;
  }

  pub entered_met : KeepsMet states (slice_set states m Open)
  entered_met n met = record { state = met.state; is = kept_met n met.state met.old met.is; old = met.old }

-- ---- at the end of the path

module _ (links : List (List ℕ)) (states : List State) (path : List (ℕ × ℕ)) (done : List ℕ) (n at : ℕ) (walk : IsWalk links states (path ++ (n, at) ∷ []) done) where
  old : List (ℕ × ℕ)
  old = path ++ (n, at) ∷ []

  top : slice_get (path ++ (n, at) ∷ []) (length path) ≡ Some (n, at)
  top = at_last path (n, at)

  front : (i v a : ℕ) → slice_get path i ≡ Some (v, a) → slice_get (path ++ (n, at) ∷ []) i ≡ Some (v, a)
  front i v a e = front_more path (n, at) i (v, a) e

  pub last_open : slice_get states n ≡ Some Open
  last_open = walk.open_there (length path) n at top

  pub last_within : n < length states
  last_within = slice_get_within states n Open last_open

  pub last_fits : at ≤ length (needed links n)
  last_fits = walk.fits (length path) n at top

  -- a need is done

  module _ (m : ℕ) (is : slice_get (needed links n) at ≡ Some m) (over : slice_get states m ≡ Some Done) where
    down : (i v a : ℕ) → slice_get (path ++ (n, at + 1) ∷ []) i ≡ Some (v, a) → (b : ℕ) × (slice_get (path ++ (n, at) ∷ []) i ≡ Some (v, b))
    down i v a e = elim (last_or path (n, at + 1) i (v, a) e) [
      | inl x ↦ (a, front i v a x.1)
      | inr x ↦ (at, ap (slice_get (path ++ (n, at) ∷ [])) x.0 ∙ (top ∙ ap (λ (k : ℕ). Some (k, at)) (first_same n (at + 1) v a x.1)))
    ]

    further_on : (v : ℕ) → slice_get states v ≡ Some Open → IsOnPath (path ++ (n, at + 1) ∷ []) v
    further_on v e = let w = walk.on_path v e in elim (last_or path (n, at) w.place (v, w.at) w.stands) [
      | inl x ↦ record { place = w.place; at = w.at; stands = front_more path (n, at + 1) w.place (v, w.at) x.1 }
      | inr x ↦ record { place = length path; at = at + 1; stands = at_last path (n, at + 1) ∙ ap (λ (k : ℕ). Some (k, at + 1)) (first_same n at v w.at x.1) }
    ]

    further_linked : (i v a k b : ℕ) → slice_get (path ++ (n, at + 1) ∷ []) i ≡ Some (v, a) → slice_get (path ++ (n, at + 1) ∷ []) (i + 1) ≡ Some (k, b)
        → slice_get (needed links v) a ≡ Some k
    further_linked i v a k b ei ej = elim (last_or path (n, at + 1) i (v, a) ei) [
      | inl x ↦ let y = down (i + 1) k b ej in walk.linked i v a k y.0 (front i v a x.1) y.1
      | inr x ↦ elim (last_or path (n, at + 1) (i + 1) (k, b) ej) [ inl y ↦ absurd (omega (arith, x.0, y.0)) | inr y ↦ absurd (omega (arith, x.0, y.0)) ]
    ]

    seen_here : (k w : ℕ) → slice_get (needed links n) k ≡ Some w → k < at + 1 → slice_get states w ≡ Some Done
    seen_here k w f less = elim (cases_eq k at) [
      | inl same ↦ let there : slice_get (needed links n) at ≡ Some w = moved (needed links n) k at w same f in let one : m ≡ w = cc in moved states m w Done one over
      | inr apart ↦ walk.seen (length path) n at k w top f (omega arith)
    ]

    further_seen : (i v a k w : ℕ) → slice_get (path ++ (n, at + 1) ∷ []) i ≡ Some (v, a) → slice_get (needed links v) k ≡ Some w → k < a → slice_get states w ≡ Some Done
    further_seen i v a k w e f less = elim (last_or path (n, at + 1) i (v, a) e) [
      | inl x ↦ walk.seen i v a k w (front i v a x.1) f less
      | inr x ↦ let same : v ≡ n = sym (first_same n (at + 1) v a x.1) in
          seen_here k w (subst (λ (u : ℕ). slice_get (needed links u) k ≡ Some w) same f) (omega (arith, less, second_same n (at + 1) v a x.1))
    ]

    further_fits : (i v a : ℕ) → slice_get (path ++ (n, at + 1) ∷ []) i ≡ Some (v, a) → a ≤ length (needed links v)
    further_fits i v a e = elim (last_or path (n, at + 1) i (v, a) e) [
      | inl x ↦ walk.fits i v a (front i v a x.1)
      | inr x ↦ let same = first_same n (at + 1) v a x.1 in let more : at < length (needed links n) = slice_get_within (needed links n) at m is in
          subst (λ (u : ℕ). a ≤ length (needed links u)) same (omega (arith, more, second_same n (at + 1) v a x.1))
    ]

    pub further : IsWalk links states (path ++ (n, at + 1) ∷ []) done
    further = record {
      many = walk.many;
      open_there = λ i v a e. let b = down i v a e in walk.open_there i v b.0 b.1;
      on_path = further_on;
      once = λ i j v a b ei ej. let x = down i v a ei in let y = down j v b ej in walk.once i j v x.0 y.0 x.1 y.1;
      fits = further_fits;
      linked = further_linked;
      seen = further_seen;
      stands = walk.stands;
      is_done = walk.is_done;
      apart = walk.apart;
      behind = walk.behind;
    }

  -- what is needed is entered

  pub comes_next : (m : ℕ) → slice_get (needed links n) at ≡ Some m
      → (i v a : ℕ) → slice_get (path ++ (n, at) ∷ []) i ≡ Some (v, a) → i + 1 ≡ length (path ++ (n, at) ∷ []) → slice_get (needed links v) a ≡ Some m
  comes_next m is i v a e ends = elim (last_or path (n, at) i (v, a) e) [
    | inl x ↦ absurd (omega (arith, x.0, ends, length-append path ((n, at) ∷ [])))
    | inr x ↦ subst (λ (y : ℕ × ℕ). slice_get (needed links y.0) y.1 ≡ Some m) x.1 is
  ]

  -- what is open is reached

  climbs : (d i v a : ℕ) → slice_get (path ++ (n, at) ∷ []) i ≡ Some (v, a) → i + d ≡ length path → Reaches links v n
  climbs zero i v a e ends = elim (last_or path (n, at) i (v, a) e) [
    | inl x ↦ absurd (omega (arith, x.0, ends))
    | inr x ↦ subst (λ (k : ℕ). Reaches links k n) (first_same n at v a x.1) (here n)
  ]
  climbs (suc d) i v a e ends =
      let x = next (i + 1) d (omega arith) in
      onward v x.0.0 n (get-contains (needed links v) a x.0.0 (walk.linked i v a x.0.0 x.0.1 e x.1)) (climbs d (i + 1) x.0.0 x.0.1 x.1 (omega arith))
    where
      next : (j e : ℕ) → j + e ≡ length path → (x : ℕ × ℕ) × (slice_get (path ++ (n, at) ∷ []) j ≡ Some x)
      next j e up = within_there (path ++ (n, at) ∷ []) j (omega (arith, up, slice_get_within (path ++ (n, at) ∷ []) (length path) (n, at) top))

  pub open_reaches : (m : ℕ) → slice_get states m ≡ Some Open → Reaches links m n
  open_reaches m is = let w = walk.on_path m is in elim (last_or path (n, at) w.place (m, w.at) w.stands) [
    | inl x ↦ climbs (length path - w.place) w.place m w.at w.stands (omega (arith, x.0))
    | inr x ↦ climbs 0 w.place m w.at w.stands (omega (arith, x.0))
  ]

  -- the number is left

  module _ (full : length (needed links n) ≤ at) where
    kept_done : (w : ℕ) → slice_get states w ≡ Some Done → slice_get (slice_set states n Done) w ≡ Some Done
    kept_done w e = elim (cases_eq w n) [
      | inl same ↦ moved (slice_set states n Done) n w Done (sym same) (set_at states n Done Open last_open)
      | inr apart ↦ set_there states n w Done apart ∙ e
    ]

    not_last : (i v a : ℕ) → slice_get path i ≡ Some (v, a) → v ≡ n → ⊥
    not_last i v a e same = omega (
      arith,
      slice_get_within path i (v, a) e,
      walk.once i (length path) n a at (front i n a (subst (λ (k : ℕ). slice_get path i ≡ Some (k, a)) same e)) top,
    )

    left_on : (v : ℕ) → slice_get (slice_set states n Done) v ≡ Some Open → IsOnPath path v
    left_on v e = elim (set_back states n Done Open last_open v Open e) [
      | inl x ↦ absurd (open_done x.1)
      | inr x ↦ let w = walk.on_path v x.1 in elim (last_or path (n, at) w.place (v, w.at) w.stands) [
        | inl y ↦ record { place = w.place; at = w.at; stands = y.1 }
        | inr y ↦ absurd (x.0 (sym (first_same n at v w.at y.1)))
      ]
    ]

    fresh_there : (i v : ℕ) → slice_get done i ≡ Some v → n ≡ v → ⊥
    fresh_there i v e same = open_done (one_state states v Open Done (moved states n v Open same last_open) (walk.is_done i v e))

    left_apart : (i j v : ℕ) → slice_get (done ++ n ∷ []) i ≡ Some v → slice_get (done ++ n ∷ []) j ≡ Some v → i ≡ j
    left_apart i j v ei ej = elim (last_or done n i v ei) [
      | inl x ↦ elim (last_or done n j v ej) [ inl y ↦ walk.apart i j v x.1 y.1 | inr y ↦ absurd (fresh_there i v x.1 y.1) ]
      | inr x ↦ elim (last_or done n j v ej) [ inl y ↦ absurd (fresh_there j v y.1 x.1) | inr y ↦ x.0 ∙ sym y.0 ]
    ]

    needs_done : (w : ℕ) → Needs links n w → StandsBefore (done ++ n ∷ []) (length done) w
    needs_done w need =
        let k = contains-get (needed links n) w need in
        let below : k.0 < at = omega (arith, slice_get_within (needed links n) k.0 w k.1) in
        let j = contains-get done w (walk.stands w (walk.seen (length path) n at k.0 w top k.1 below)) in
        record { place = j.0; before = slice_get_within done j.0 w j.1; stands = front_more done n j.0 w j.1 }

    left_behind : (i v w : ℕ) → slice_get (done ++ n ∷ []) i ≡ Some v → Needs links v w → StandsBefore (done ++ n ∷ []) i w
    left_behind i v w e need = elim (last_or done n i v e) [
      | inl x ↦ let s = walk.behind i v w x.1 need in record { place = s.place; before = s.before; stands = front_more done n s.place w s.stands }
      | inr x ↦ subst (λ (k : ℕ). StandsBefore (done ++ n ∷ []) k w) (sym x.0) (needs_done w (subst (λ (u : ℕ). Needs links u w) (sym x.1) need))
    ]

    pub left : IsWalk links (slice_set states n Done) path (done ++ n ∷ [])
    left = record {
      many = length-set states n Done ∙ walk.many;
      open_there = λ i v a e. set_there states n v Done (not_last i v a e) ∙ walk.open_there i v a (front i v a e);
      on_path = left_on;
      once = λ i j v a b ei ej. walk.once i j v a b (front i v a ei) (front j v b ej);
      fits = λ i v a e. walk.fits i v a (front i v a e);
      linked = λ i v a k b ei ej. walk.linked i v a k b (front i v a ei) (front (i + 1) k b ej);
      seen = λ i v a k w e f less. kept_done w (walk.seen i v a k w (front i v a e) f less);
      stands = λ v e. elim (set_back states n Done Open last_open v Done e) [
        | inl x ↦ Contains-append_right done (n ∷ []) v (subst (λ (k : ℕ). Contains (n ∷ []) k) (sym x.0) (contains-one n))
        | inr x ↦ Contains-append_left done (n ∷ []) v (walk.stands v x.1)
      ];
      is_done = λ i v e. elim (last_or done n i v e) [
        | inl x ↦ kept_done v (walk.is_done i v x.1)
        | inr x ↦ moved (slice_set states n Done) n v Done x.1 (set_at states n Done Open last_open)
      ];
      apart = left_apart;
      behind = left_behind;
    }

    pub left_met : KeepsMet states (slice_set states n Done)
    left_met v met = elim (cases_eq v n) [
      | inl same ↦ record { state = Done; is = moved (slice_set states n Done) n v Done (sym same) (set_at states n Done Open last_open); old = λ is. new_done Done is refl }
      | inr apart ↦ record { state = met.state; is = set_there states n v Done apart ∙ met.is; old = met.old }
    ]

-- ---- the steps that are left

left_entered : (links : List (List ℕ)) (states : List State) (m : ℕ) → length states ≡ length links → slice_get states m ≡ Some New
    → left_new links (slice_set states m Open) + (length (needed links m) + 2) ≡ left_new links states
left_entered links [] m long e = absurd (none_there m New e)
left_entered [] (s ∷ states) m long e = absurd (omega (arith, long))
left_entered (own ∷ links) (New ∷ states) zero long e = omega arith
left_entered (own ∷ links) (Open ∷ states) zero long e = absurd cc
left_entered (own ∷ links) (Done ∷ states) zero long e = absurd cc
left_entered (own ∷ links) (New ∷ states) (suc m) long e = omega (arith, left_entered links states m (omega (arith, long)) e)
left_entered (own ∷ links) (Open ∷ states) (suc m) long e = left_entered links states m (omega (arith, long)) e
left_entered (own ∷ links) (Done ∷ states) (suc m) long e = left_entered links states m (omega (arith, long)) e

left_done : (links : List (List ℕ)) (states : List State) (m : ℕ) → slice_get states m ≡ Some Open → left_new links (slice_set states m Done) ≡ left_new links states
left_done links [] m e = absurd (none_there m Open e)
left_done [] (s ∷ states) zero e = refl
left_done [] (s ∷ states) (suc m) e = refl
left_done (own ∷ links) (New ∷ states) zero e = absurd cc
left_done (own ∷ links) (Open ∷ states) zero e = refl
left_done (own ∷ links) (Done ∷ states) zero e = absurd cc
left_done (own ∷ links) (New ∷ states) (suc m) e = ap (λ k. length own + 2 + k) (left_done links states m e)
left_done (own ∷ links) (Open ∷ states) (suc m) e = left_done links states m e
left_done (own ∷ links) (Done ∷ states) (suc m) e = left_done links states m e

abbrev weight : List (List ℕ) → ℕ × ℕ → ℕ
weight links e = (length (needed links e.0) + 1) - e.1

path_sum : (links : List (List ℕ)) (path : List (ℕ × ℕ)) (n at : ℕ) → sum_by (weight links) (path ++ (n, at) ∷ []) ≡ sum_by (weight links) path + ((length (needed links n) + 1) - at)
path_sum links path n at = sum_by-append (weight links) path ((n, at) ∷ []) ∙ ap (λ k. sum_by (weight links) path + k) (omega arith)

pub less_further : (links : List (List ℕ)) (states : List State) (path : List (ℕ × ℕ)) (n at : ℕ) → at < length (needed links n)
    → steps_left links states (path ++ (n, at + 1) ∷ []) < steps_left links states (path ++ (n, at) ∷ [])
less_further links states path n at below = omega (arith, path_sum links path n at, path_sum links path n (at + 1))

pub less_entered : (links : List (List ℕ)) (states : List State) (path : List (ℕ × ℕ)) (m : ℕ) → length states ≡ length links → slice_get states m ≡ Some New
    → steps_left links (slice_set states m Open) (path ++ (m, 0) ∷ []) < steps_left links states path
less_entered links states path m long e = omega (arith, path_sum links path m 0, left_entered links states m long e)

pub less_left : (links : List (List ℕ)) (states : List State) (path : List (ℕ × ℕ)) (n at : ℕ) → slice_get states n ≡ Some Open → at ≤ length (needed links n)
    → steps_left links (slice_set states n Done) path < steps_left links states (path ++ (n, at) ∷ [])
less_left links states path n at is fits = omega (arith, path_sum links path n at, left_done links states n is)

-- ---- needs of the code

abbrev number_of : Need → ℕ
number_of need = need.number

pub needed_of : (needs : List (Vec Need Global)) (n : ℕ) (own : Vec Need Global) → slice_get needs n ≡ Some own → needed (links_of needs) n ≡ map number_of own.items
needed_of needs n own e = ap (λ o. unwrap_or o []) (mapped_get (λ (o : Vec Need Global). map number_of o.items) needs n own e)

pub need_is : (needs : List (Vec Need Global)) (n at : ℕ) (own : Vec Need Global) (need : Need) → slice_get needs n ≡ Some own → slice_get own.items at ≡ Some need
    → slice_get (needed (links_of needs) n) at ≡ Some need.number
need_is needs n at own need e f = ap (λ xs. slice_get xs at) (needed_of needs n own e) ∙ mapped_get number_of own.items at need f

pub needed_long : (needs : List (Vec Need Global)) (n : ℕ) (own : Vec Need Global) → slice_get needs n ≡ Some own → length (needed (links_of needs) n) ≡ length own.items
needed_long needs n own e = ap length (needed_of needs n own e) ∙ length_of_map number_of own.items

pub links_long : (needs : List (Vec Need Global)) → length (links_of needs) ≡ length needs
links_long needs = length_of_map (λ (o : Vec Need Global). map number_of o.items) needs

-- ---- the beginning and the end

all_new : (n v : ℕ) (s : State) → slice_get (replicate n New) v ≡ Some s → s ≡ New
all_new n v s e =
    let below : v < n = omega (arith, slice_get_within (replicate n New) v s e, length-replicate {A = State} n New) in
    let is : get_or (replicate n New) v s ≡ s = get_or_from_slice_get (replicate n New) v s s e in
    sym is ∙ get_or-replicate n v New s below

pub begins : (links : List (List ℕ)) (n : ℕ) → n ≡ length links → IsWalk links (replicate n New) [] []
begins links n long = record {
  many = length-replicate n New ∙ long;
  open_there = λ i v a e. absurd (none_there i (v, a) e);
  on_path = λ v e. absurd (new_open Open (all_new n v Open e) refl);
  once = λ i j v a b ei ej. absurd (none_there i (v, a) ei);
  fits = λ i v a e. absurd (none_there i (v, a) e);
  linked = λ i v a k b ei ej. absurd (none_there i (v, a) ei);
  seen = λ i v a k w e f less. absurd (none_there i (v, a) e);
  stands = λ v e. absurd (new_done Done (all_new n v Done e) refl);
  is_done = λ i v e. absurd (none_there i v e);
  apart = λ i j v ei ej. absurd (none_there i v ei);
  behind = λ i v w e need. absurd (none_there i v e);
}

done_or : (s : State) → (s ≡ New → ⊥) → (s ≡ Open → ⊥) → s ≡ Done
done_or New a b = absurd (a refl)
done_or Open a b = absurd (b refl)
done_or Done a b = refl

none_open : (links : List (List ℕ)) (states : List State) (done : List ℕ) → IsWalk links states [] done → (n : ℕ) → slice_get states n ≡ Some Open → ⊥
none_open links states done walk n e = let w = walk.on_path n e in none_there w.place (n, w.at) w.stands

pub ends : (links : List (List ℕ)) (states : List State) (done : List ℕ) → IsWalk links states [] done → ((n : ℕ) → n < length links → IsMet states n) → IsOrder links done
ends links states done walk met = record {
  all = λ n below. let s = met n below in walk.stands n (s.is ∙ ap Some (done_or s.state s.old (λ is. none_open links states done walk n (s.is ∙ ap Some is))));
  within = λ n h. let i = contains-get done n h in omega (arith, slice_get_within states n Done (walk.is_done i.0 n i.1), walk.many);
  once = walk.apart;
  behind = walk.behind;
}

-- one more is met, where it is met already or the walk comes from it
pub met_more : (states : List State) (i : ℕ) → ((n : ℕ) → n < i → IsMet states n) → IsMet states i → (n : ℕ) → n < i + 1 → IsMet states n
met_more states i before it n less = elim (cases_eq n i) [ inl same ↦ subst (λ (k : ℕ). IsMet states k) (sym same) it | inr apart ↦ before n (omega arith) ]

pub met_open : (states : List State) (i : ℕ) → i < length states → IsMet (slice_set states i Open) i
met_open states i below = let s = within_there states i below in record { state = Open; is = set_at states i Open s.0 s.1; old = λ is. new_open Open is refl }

-- ---- a step of the code

module _ (needs : List (Vec Need Global)) (within : AreWithin (links_of needs)) (states : List State) (path : List (ℕ × ℕ)) (done : List ℕ) (n at : ℕ)
    (walk : IsWalk (links_of needs) states (path ++ (n, at) ∷ []) done) where
  pub number_within : n < length needs
  number_within = omega (arith, links_long needs, walk.many, last_within (links_of needs) states path done n at walk)

  module _ (own : Vec Need Global) (is_own : own ≡ get_or needs n own) where
    own_there : slice_get needs n ≡ Some own
    own_there = slice_get_read needs (length needs) n own refl number_within is_own

    pub leaves : (new : Walk) → length own.items ≤ at → new.states.items ≡ slice_set states n Done → new.path.items ≡ path → new.done.items ≡ done ++ n ∷ []
        → Goes (links_of needs) states (path ++ (n, at) ∷ []) new
    leaves new full es ep ed =
        let links = links_of needs in
        let past : length (needed links n) ≤ at = omega (arith, full, needed_long needs n own own_there) in
        record {
          walks = rw (es, ep, ed) (left links states path done n at walk past);
          less = rw (es, ep) (less_left links states path n at (last_open links states path done n at walk) (last_fits links states path done n at walk));
          met = rw es (left_met links states path done n at walk past);
        }

    module _ (need : Need) (below : at < length own.items) (is_need : need ≡ get_or own.items at need) where
      need_there : slice_get own.items at ≡ Some need
      need_there = slice_get_read own.items (length own.items) at need refl below is_need

      next : slice_get (needed (links_of needs) n) at ≡ Some need.number
      next = need_is needs n at own need own_there need_there

      pub need_within : need.number < length states
      need_within = omega (arith, walk.many, within n need.number (get-contains (needed (links_of needs) n) at need.number next))

      module _ (s : State) (is : s ≡ get_or states need.number s) where
        state_there : slice_get states need.number ≡ Some s
        state_there = slice_get_read states (length states) need.number s refl need_within is

        pub closes : s ≡ Open → ClosesCycle needs n need
        closes opened = record {
          place = at;
          own = own;
          has = own_there;
          is = need_there;
          back = open_reaches (links_of needs) states path done n at walk need.number (state_there ∙ ap Some opened);
        }

        pub goes_on : s ≡ Done → (new : Walk) → new.states.items ≡ states → new.path.items ≡ path ++ (n, at + 1) ∷ [] → new.done.items ≡ done
            → Goes (links_of needs) states (path ++ (n, at) ∷ []) new
        goes_on over new es ep ed =
            let links = links_of needs in
            record {
              walks = rw (es, ep, ed) (further links states path done n at walk need.number next (state_there ∙ ap Some over));
              less = rw (es, ep) (less_further links states path n at (omega (arith, below, needed_long needs n own own_there)));
              met = rw es (λ n met. met);
            }

        pub goes_in : s ≡ New → (new : Walk) → new.states.items ≡ slice_set states need.number Open → new.path.items ≡ (path ++ (n, at) ∷ []) ++ (need.number, 0) ∷ []
            → new.done.items ≡ done → Goes (links_of needs) states (path ++ (n, at) ∷ []) new
        goes_in fresh new es ep ed =
            let links = links_of needs in
            let old = path ++ (n, at) ∷ [] in
            let e : slice_get states need.number ≡ Some New = state_there ∙ ap Some fresh in
            let comes = comes_next links states path done n at walk need.number next in
            record {
              walks = rw (es, ep, ed) (entered links states old done need.number walk e comes);
              less = rw (es, ep) (less_entered links states old need.number walk.many e);
              met = rw es (entered_met links states old done need.number walk e comes);
            }

-- ---- a walk from a number

module _ (links : List (List ℕ)) (states : List State) (path : List (ℕ × ℕ)) (done : List ℕ) (m number : ℕ) (walk : IsWalk links states [] done) (empty : path ≡ []) (below : m < length states)
    (same : number ≡ m) (s : State) (is : s ≡ get_or states m s) where
  is_new : s ≡ New → slice_get states number ≡ Some New
  is_new fresh = moved states m number New (sym same) (slice_get_read states (length states) m s refl below is ∙ ap Some fresh)

  pub starts : s ≡ New → (new : Walk) → new.states.items ≡ slice_set states number Open → new.path.items ≡ path ++ (number, 0) ∷ [] → new.done.items ≡ done
      → IsWalk links new.states.items new.path.items new.done.items
  starts fresh new es ep ed = rw (es, ep, ed, empty) (entered links states [] done number walk (is_new fresh) (λ i n a e ends. absurd (none_there i (n, a) e)))

  pub arrives : s ≡ New → (new end : Walk) → new.states.items ≡ slice_set states number Open → Arrives links new.states.items end → ((n : ℕ) → n < m → IsMet states n)
      → IsWalk links end.states.items [] end.done.items × (end.path.items ≡ []) × ((n : ℕ) → n < m + 1 → IsMet end.states.items n)
  arrives fresh new end es arrived before =
      let on : KeepsMet states new.states.items = rw es (entered_met links states [] done number walk (is_new fresh) (λ i n a e ends. absurd (none_there i (n, a) e))) in
      let it : IsMet new.states.items m = rw es (subst (λ (k : ℕ). IsMet (slice_set states k Open) m) (sym same) (met_open states m below)) in
      (arrived.walks, arrived.empty, met_more end.states.items m (λ n less. arrived.met n (on n (before n less))) (arrived.met m it))

  pub stays : (s ≡ New → ⊥) → ((n : ℕ) → n < m → IsMet states n) → (n : ℕ) → n < m + 1 → IsMet states n
  stays old before = met_more states m before (record { state = s; is = slice_get_read states (length states) m s refl below is; old = old })

pub none_arrives : (needs : List (Vec Need Global)) (states : List State) (new : Walk) (o : Option (ℕ × Need)) → o ≡ None → WalksOn needs states new o → Arrives (links_of needs) states new
none_arrives needs states new o is walks = subst (λ (x : Option (ℕ × Need)). WalksOn needs states new x) is walks
