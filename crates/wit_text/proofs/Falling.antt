-- A walk comes to its end: each step makes what is left smaller.
use Rattle.std.proofs.Common.{◌≡◌, refl, sym, ap, subst, ◌∙◌, ◌<◌, ◌≤◌, ◌+◌, ℕ, suc, zero, List, [], ◌∷◌, ◌++◌, Some, Contains, slice_get, drop, length, sum_by, arith, add-one, zero-add}
use Rattle.std.proofs.lemmas.List.Sums.{sum_by-append}
use Rattle.std.proofs.lemmas.Option.{slice_get_within, get_or_from_slice_get}
use Rattle.std.proofs.Math.Seq.{drop-cons}
use Rattle.base_lemmas.proofs.Elements.{contains-later}
use Rattle.wit_text.specs.{Grounds.AreGrounded, Items.WorldEntry, Puts.links, Weights.steps, Weights.frame_steps, Weights.path_steps}
use Rattle.wit_text.specs.Steps.{Frame, Goes, Goes.is_there, Goes.goes_on, Goes.passes, Goes.is_put}
use Rattle.wit_text.specs.declared.shown.Walk.{Walk}
use Rattle.text_plain.specs.Orders.{needed}

pub contains_got : (xs : List ℕ) (i n : ℕ) → slice_get xs i ≡ Some n → Contains xs n
contains_got xs i n h = (i, slice_get_within xs i n h, get_or_from_slice_get xs i n n h)

contains_first : (x : ℕ) (xs : List ℕ) → Contains (x ∷ xs) x
contains_first x xs = (0, omega arith, refl)

cons_sum : (f : ℕ → ℕ) (x : ℕ) (xs : List ℕ) → sum_by f (x ∷ xs) ≡ f x + sum_by f xs
cons_sum f x xs = sum_by-append f (x ∷ []) xs ∙ ap (λ a. a + sum_by f xs) (zero-add (f x))

sums_agree : (f g : ℕ → ℕ) (own : List ℕ) → ((k : ℕ) → Contains own k → f k ≡ g k) → sum_by f own ≡ sum_by g own
sums_agree f g [] same = refl
sums_agree f g (x ∷ xs) same =
    let here = same x (contains_first x xs) in
    let rest = sums_agree f g xs (λ k c. same k (contains-later x xs k c)) in
    cons_sum f x xs ∙ (ap (λ a. a + sum_by f xs) here ∙ (ap (λ a. g x + a) rest ∙ sym (cons_sum g x xs)))

pub some_steps : (links : List (List ℕ)) (d : ℕ) (own : List ℕ) → 0 < steps links d own
unfolding steps
some_steps links zero own = omega arith
some_steps links (suc d) own = omega arith

-- more depth than the rank makes no difference
steady : (links : List (List ℕ)) (g : AreGrounded links) (d : ℕ) (own : List ℕ) → ((k : ℕ) → Contains own k → g.rank k < d) → steps links (suc d) own ≡ steps links d own
unfolding steps
steady links g zero [] below = refl
steady links g zero (x ∷ xs) below = absurd (let low = below x (contains_first x xs) in omega arith)
steady links g (suc d) own below =
    ap suc (sums_agree (λ m. suc (steps links (suc d) (needed links m))) (λ m. suc (steps links d (needed links m))) own
    (λ k c. ap suc (steady links g d (needed links k) (λ j h. let low = below k c in let lower = g.falls k j h in omega arith))))

falls_at : (links : List (List ℕ)) (g : AreGrounded links) (d m : ℕ) (rest : List ℕ) → g.rank m ≤ d
    → steps links (suc d) rest + steps links (suc d) (needed links m) < steps links (suc d) (m ∷ rest)
unfolding steps
falls_at links g d m rest low =
    let same : steps links (suc d) (needed links m) ≡ steps links d (needed links m) = steady links g d (needed links m) (λ j h. let lower = g.falls m j h in omega arith) in
    let whole : steps links (suc d) (m ∷ rest) ≡ suc (suc (steps links d (needed links m)) + sum_by (λ k. suc (steps links d (needed links k))) rest) =
    ap suc (cons_sum (λ k. suc (steps links d (needed links k))) m rest) in
    let part : steps links (suc d) rest ≡ suc (sum_by (λ k. suc (steps links d (needed links k))) rest) = refl in
    omega arith

falls_below : (links : List (List ℕ)) (g : AreGrounded links) (n d m : ℕ) (rest : List ℕ) → g.rank m < g.rank n → g.rank n ≤ d
    → steps links d rest + steps links d (needed links m) < steps links d (m ∷ rest)
falls_below links g n zero m rest lower small = absurd (omega arith)
falls_below links g n (suc d) m rest lower small = falls_at links g d m rest (omega arith)

dropped : (own : List ℕ) (at m : ℕ) → slice_get own at ≡ Some m → drop at own ≡ m ∷ drop (at + 1) own
dropped own at m h =
    let cut = drop-cons own at m (slice_get_within own at m h) in
    let first = get_or_from_slice_get own at m m h in
    rw add-one (cut ∙ ap (λ x. x ∷ drop (suc at) own) first)

one_falls : (links : List (List ℕ)) → AreGrounded links → (n at m : ℕ) → slice_get (needed links n) at ≡ Some m
    → frame_steps links (n, at + 1) + frame_steps links (m, 0) < frame_steps links (n, at)
one_falls links g n at m h =
    let own : List ℕ = needed links n in
    let lower = g.falls n m (contains_got own at m h) in
    let all = falls_below links g n (length links) m (drop (at + 1) own) lower (g.small n) in
    subst (λ xs. steps links (length links) (drop (at + 1) own) + steps links (length links) (needed links m) < steps links (length links) xs)
    (sym (dropped own at m h)) all

pushed : (links : List (List ℕ)) (path : List Frame) (f : Frame) → path_steps links (path ++ f ∷ []) ≡ path_steps links path + frame_steps links f
pushed links path f = let all = sum_by-append (frame_steps links) path (f ∷ []) in omega arith

-- each step makes the path shorter
pub goes_falls : (walk : Walk) → AreGrounded (links walk) → (es : List WorldEntry) (path : List Frame) (n at : ℕ) (fs : List WorldEntry) (new : List Frame)
    → Goes walk es path n at fs new → path_steps (links walk) new < path_steps (links walk) (path ++ (n, at) ∷ [])
goes_falls walk g es path n at _ _ (is_there st) =
    let some = some_steps (links walk) (length (links walk)) (drop at (needed (links walk) n)) in
    let all = pushed (links walk) path (n, at) in omega arith
goes_falls walk g es path n at _ _ (goes_on m is goes) =
    let one = one_falls (links walk) g n at m is in
    let all = pushed (links walk) path (n, at) in
    let next = pushed (links walk) path (n, at + 1) in
    let last = pushed (links walk) (path ++ (n, at + 1) ∷ []) (m, 0) in
    omega arith
goes_falls walk g es path n at _ _ (passes m is stays) =
    let one = one_falls (links walk) g n at m is in
    let all = pushed (links walk) path (n, at) in
    let next = pushed (links walk) path (n, at + 1) in
    omega arith
goes_falls walk g es path n at _ _ (is_put fs none end put) =
    let some = some_steps (links walk) (length (links walk)) (drop at (needed (links walk) n)) in
    let all = pushed (links walk) path (n, at) in omega arith
