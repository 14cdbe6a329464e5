-- What a walk that puts interfaces keeps.
use Rattle.std.proofs.Common.{cond, take, Result, Ok, Err, OnOk, get_or, ◌≡◌, ◌==◌, refl, sym, ap, subst, ◌∙◌, ◌<◌, ◌≤◌, ◌+◌, ℕ, true, false, List, [], ◌∷◌, ◌++◌, Some, None, Contains, slice_get, filter, length, reverse, arith, ◌⊎◌, inl, inr, true≢false}
use Rattle.std.proofs.lemmas.Bool.{cases_lt, or_left, or_right}
use Rattle.base_lemmas.proofs.{Numbers.same-number, Options.some_same}
use Rattle.std.proofs.lemmas.List.{map-append, reverse-append}
use Rattle.std.proofs.lemmas.List.Folds.{list_any-append}
use Rattle.std.proofs.lemmas.List.Elements.{filter-append, Contains-append_left, Contains-append_right, Contains-append_cases}
use Rattle.std.proofs.lemmas.Option.{slice_get-get_or}
use Rattle.indexmap.specs.IndexMap.{get}
use Rattle.wit_model.specs.declared.model.WorldItem.{WorldItem}
use Rattle.wit_text.specs.Items.{WorldEntry, has_path, is_path, path_key}
use Rattle.wit_text.specs.Puts.{goes_to, links, number_at, stands, NeedsStand, MayFollow, Puts, Puts.nothing, Puts.and_one, PutsAll, Reaches, Reaches.is_first, Reaches.goes_on as further}
use Rattle.std.proofs.lemmas.Grind.{take_at_read}
use Rattle.text_names.specs.declared.needs.Need.{Need}
use Rattle.wit_text.specs.Steps.{numbers_of, Frame, Goes, Goes.is_there, Goes.goes_on, Goes.passes, Goes.is_put}
use Rattle.wit_text.specs.declared.shown.Walk.{Walk}
use Rattle.wit_text.proofs.Falling.{contains_got}
use Rattle.text_plain.specs.Orders.{needed}

-- ---- entries that grow

has_on : (es fs : List WorldEntry) (n : ℕ) → has_path es n ≡ true → has_path (es ++ fs) n ≡ true
has_on es fs n h = list_any-append (λ (e : WorldEntry). is_path n e.0) es fs ∙ or_left _ _ h

has_last : (es : List WorldEntry) (n : ℕ) (item : WorldItem) → has_path (es ++ (path_key n, item) ∷ []) n ≡ true
has_last es n item =
    list_any-append (λ (e : WorldEntry). is_path n e.0) es ((path_key n, item) ∷ []) ∙ or_right _ _ (or_left (n == n) false (same-number n))

-- ---- the path of a walk, from its end on

-- The first needs of an interface stand there, or stay away.
abbrev AreDone : Walk → List WorldEntry → ℕ → ℕ → Type 0
AreDone walk es n at = (k m : ℕ) → k < at → slice_get (needed (links walk) n) k ≡ Some m → goes_to walk m ≡ true → stands walk es m ≡ true

-- Each of the path waits for the next, and the last for this interface, as its last need that isn't done.
abbrev WaitFor : Walk → ℕ → List WorldEntry → List Frame → ℕ → Type 0
WaitFor walk first es [] n = n ≡ first
WaitFor walk first es (frame ∷ below) n =
    (k : ℕ) × (frame.1 ≡ k + 1) × (slice_get (needed (links walk) frame.0) k ≡ Some n) × (goes_to walk n ≡ true) × AreDone walk es frame.0 k
    × WaitFor walk first es below frame.0

abbrev IsPath : Walk → ℕ → List WorldEntry → List Frame → Type 0
IsPath walk first es [] = stands walk es first ≡ true
IsPath walk first es (frame ∷ below) = AreDone walk es frame.0 frame.1 × WaitFor walk first es below frame.0

pub record IsUnderway (walk : Walk) (first : ℕ) (old es : List WorldEntry) (frames : List Frame) : Type 0 where
  pub puts : Puts walk (first ∷ []) old es
  pub path : IsPath walk first es frames

contains_one : (n : ℕ) → Contains (n ∷ []) n
contains_one n = (0, omega arith, refl)

reached : (walk : Walk) (first : ℕ) (es : List WorldEntry) (below : List Frame) (n : ℕ) → WaitFor walk first es below n → Reaches walk (first ∷ []) n
reached walk first es [] n h = is_first n (subst (Contains (first ∷ [])) (sym h) (contains_one first))
reached walk first es (f ∷ below) n h = further f.0 n (reached walk first es below f.0 h.5) (contains_got _ h.0 n h.2) h.3

done_more : (walk : Walk) (es : List WorldEntry) (n k need : ℕ) → slice_get (needed (links walk) n) k ≡ Some need → (goes_to walk need ≡ true → stands walk es need ≡ true)
    → AreDone walk es n k → AreDone walk es n (k + 1)
done_more walk es n k need is there done j m low get goes = by (cases_lt j k)
  where
    by : (j < k) ⊎ (k ≤ j) → stands walk es m ≡ true
    by (inl lt) = done j m lt get goes
    by (inr le) =
        let same : j ≡ k = omega arith in
        let needs : m ≡ need = some_same m need (sym get ∙ (ap (slice_get (needed (links walk) n)) same ∙ is)) in
        subst (λ x. stands walk es x ≡ true) (sym needs) (there (subst (λ x. goes_to walk x ≡ true) needs goes))

done_on : (walk : Walk) (es fs : List WorldEntry) (n at : ℕ) → AreDone walk es n at → AreDone walk (es ++ fs) n at
done_on walk es fs n at done k m low get goes = has_on es fs _ (done k m low get goes)

waits_on : (walk : Walk) (first : ℕ) (es fs : List WorldEntry) (below : List Frame) (n : ℕ) → WaitFor walk first es below n → WaitFor walk first (es ++ fs) below n
waits_on walk first es fs [] n h = h
waits_on walk first es fs (f ∷ below) n h = (h.0, h.1, h.2, h.3, done_on walk es fs f.0 h.0 h.4, waits_on walk first es fs below f.0 h.5)

-- what waits for what stands there now goes on
served : (walk : Walk) (first : ℕ) (es : List WorldEntry) (below : List Frame) (n : ℕ) → stands walk es n ≡ true → WaitFor walk first es below n → IsPath walk first es below
served walk first es [] n st w = subst (λ m. stands walk es m ≡ true) w st
served walk first es (f ∷ below) n st w =
    (subst (AreDone walk es f.0) (sym w.1) (done_more walk es f.0 w.0 n w.2 (λ _. st) w.4), w.5)

reverse_pushed : (path : List Frame) (f : Frame) → reverse (path ++ f ∷ []) ≡ f ∷ reverse path
reverse_pushed path f = reverse-append path (f ∷ [])

length_le_from_none : (xs : List ℕ) (at : ℕ) → slice_get xs at ≡ None → length xs ≤ at
length_le_from_none xs at h = by (cases_lt at (length xs))
  where
    by : (at < length xs) ⊎ (length xs ≤ at) → length xs ≤ at
    by (inl low) = let some = slice_get-get_or xs at 0 low in cc
    by (inr le) = le

-- where all needs are done, they stand there
needs_stand : (walk : Walk) (es : List WorldEntry) (n at : ℕ) → slice_get (needed (links walk) n) at ≡ None → AreDone walk es n at → NeedsStand walk es n
needs_stand walk es n at end done m h goes =
    let long = length_le_from_none (needed (links walk) n) at end in
    let low = h.1 in
    done h.0 m (omega arith) (slice_get-get_or (needed (links walk) n) h.0 m h.1 ∙ ap Some h.2) goes

pub goes_keeps : (walk : Walk) (first : ℕ) (old es : List WorldEntry) (path : List Frame) (n at : ℕ) (fs : List WorldEntry) (new : List Frame)
    → Goes walk es path n at fs new → IsUnderway walk first old es ((n, at) ∷ reverse path) → IsUnderway walk first old fs (reverse new)
goes_keeps walk first old es path n at _ _ (is_there st) u = record { puts = u.puts; path = served walk first es (reverse path) n st u.path.1 }
goes_keeps walk first old es path n at _ _ (goes_on m is follows) u =
    let turned = reverse_pushed (path ++ (n, at + 1) ∷ []) (m, 0) ∙ ap (λ fs. (m, 0) ∷ fs) (reverse_pushed path (n, at + 1)) in
    let none : AreDone walk es m 0 = λ k j low is goes. absurd (omega arith) in
    record { puts = u.puts; path = subst (IsPath walk first es) (sym turned) (none, (at, refl, is, follows, u.path.0, u.path.1)) }
goes_keeps walk first old es path n at _ _ (passes m is stays) u =
    let away : goes_to walk m ≡ true → stands walk es m ≡ true = λ goes. absurd (true≢false (sym goes ∙ stays)) in
    record { puts = u.puts; path = subst (IsPath walk first es) (sym (reverse_pushed path (n, at + 1))) (done_more walk es n at m is away u.path.0, u.path.1) }
goes_keeps walk first old es path n at _ _ (is_put fs none end put) u =
    let number = number_at walk.numbers.now n in
    let last : List WorldEntry = (path_key number, put.item) ∷ [] in
    let follows : MayFollow walk (first ∷ []) es n put.item = record {
      reached = reached walk first es (reverse path) n u.path.1;
      declared = put.declared;
      fronted = put.fronted;
      new = none;
      behind = needs_stand walk es n at end u.path.0;
    } in
    let grown : IsUnderway walk first old (es ++ last) (reverse path) = record {
      puts = and_one old es n put.item u.puts follows;
      path = served walk first (es ++ last) (reverse path) n (has_last es number put.item) (waits_on walk first es last (reverse path) n u.path.1);
    } in
    subst (λ gs. IsUnderway walk first old gs (reverse path)) (sym put.grows) grown

pub begins_path : (walk : Walk) (first : ℕ) (es : List WorldEntry) → IsUnderway walk first es es ((first, 0) ∷ [])
begins_path walk first es = record { puts = nothing es; path = (λ k j low is goes. absurd (omega arith), refl) }

pub ends_path : (walk : Walk) (first : ℕ) (old es : List WorldEntry) (path : List Frame) → path ≡ [] → IsUnderway walk first old es (reverse path) → PutsAll walk (first ∷ []) old es
ends_path walk first old es path none u =
    let there = subst (λ fs. IsPath walk first es (reverse fs)) none u.path in
    record { puts = u.puts; there = λ n h. subst (λ m. stands walk es m ≡ true) (is_one first n h) there }
  where
    is_one : (a n : ℕ) → Contains (a ∷ []) n → a ≡ n
    is_one a n h = let low = h.1 in let zero_is : h.0 ≡ 0 = omega arith in ap (λ k. get_or (a ∷ []) k n) (sym zero_is) ∙ h.2

-- ---- several walks

wider : (walk : Walk) (xs ys : List ℕ) → ((n : ℕ) → Contains xs n → Contains ys n) → (n : ℕ) → Reaches walk xs n → Reaches walk ys n
wider walk xs ys among n (is_first m h) = is_first n (among n h)
wider walk xs ys among n (further m k r needs goes) = further m n (wider walk xs ys among m r) needs goes

puts_wider : (walk : Walk) (xs ys : List ℕ) (old new : List WorldEntry) → ((n : ℕ) → Contains xs n → Contains ys n) → Puts walk xs old new → Puts walk ys old new
puts_wider walk xs ys old _ among (nothing es) = nothing old
puts_wider walk xs ys old _ among (and_one es fs n item p f) =
    and_one old fs n item (puts_wider walk xs ys old fs among p)
    (record { reached = wider walk xs ys among n f.reached; declared = f.declared; fronted = f.fronted; new = f.new; behind = f.behind })

puts_then : (walk : Walk) (xs : List ℕ) (a b c : List WorldEntry) → Puts walk xs a b → Puts walk xs b c → Puts walk xs a c
puts_then walk xs a b _ p (nothing es) = p
puts_then walk xs a b _ p (and_one es fs n item q f) = and_one a fs n item (puts_then walk xs a b fs p q) f

puts_stand : (walk : Walk) (xs : List ℕ) (a b : List WorldEntry) → Puts walk xs a b → (n : ℕ) → stands walk a n ≡ true → stands walk b n ≡ true
puts_stand walk xs a _ (nothing es) n h = h
puts_stand walk xs a _ (and_one es fs k item p f) n h = has_on fs _ _ (puts_stand walk xs a fs p n h)

pub puts_none : (walk : Walk) (es : List WorldEntry) → PutsAll walk [] es es
puts_none walk es = record { puts = nothing es; there = λ n h. absurd (let low = h.1 in omega arith) }

pub puts_more : (walk : Walk) (xs ys : List ℕ) (a b c : List WorldEntry) → PutsAll walk xs a b → PutsAll walk ys b c → PutsAll walk (xs ++ ys) a c
puts_more walk xs ys a b c p q =
    let more = puts_wider walk xs (xs ++ ys) a b (λ k h. Contains-append_left xs ys k h) p.puts in
    let last = puts_wider walk ys (xs ++ ys) b c (λ k h. Contains-append_right xs ys k h) q.puts in
    record { puts = puts_then walk (xs ++ ys) a b c more last; there = λ k h. by k (Contains-append_cases xs ys k h) }
  where
    by : (k : ℕ) → Contains xs k ⊎ Contains ys k → stands walk c k ≡ true
    by k (inl h) = puts_stand walk ys b c q.puts k (p.there k h)
    by k (inr h) = q.there k h

-- ---- needs that a walk goes to

pub goes_alone : (walk : Walk) (n : ℕ) → goes_to walk n ≡ true → filter (goes_to walk) (n ∷ []) ≡ n ∷ []
goes_alone walk n h = ap (λ b. cond b (n ∷ []) []) h

pub stays_alone : (walk : Walk) (n : ℕ) → goes_to walk n ≡ false → filter (goes_to walk) (n ∷ []) ≡ []
stays_alone walk n h = ap (λ b. cond b (n ∷ []) []) h

pub needs_more : (walk : Walk) (needs : List Need) (i : ℕ) (d : Need) → i < length needs
    → filter (goes_to walk) (numbers_of (take (i + 1) needs)) ≡ filter (goes_to walk) (numbers_of (take i needs)) ++ filter (goes_to walk) ((get_or needs i d).number ∷ [])
needs_more walk needs i d low =
    ap (λ xs. filter (goes_to walk) (numbers_of xs)) (take_at_read needs i d low).1
    ∙ (ap (filter (goes_to walk)) (map-append (λ (need : Need). need.number) (take i needs) (get_or needs i d ∷ []))
    ∙ filter-append (goes_to walk) (numbers_of (take i needs)) ((get_or needs i d).number ∷ []))

-- ---- results

pub on_ok : {X E : Type 0} (P Q : Type 0) (r : Result X E) → (P → Q) → OnOk r P → OnOk r Q
on_ok P Q (Ok x) f h = f h
on_ok P Q (Err e) f h = h

pub needs_step : (walk : Walk) (needs : List Need) (i : ℕ) (d : Need) (a b c : List WorldEntry) → i < length needs
    → PutsAll walk (filter (goes_to walk) (numbers_of (take i needs))) a b → PutsAll walk (filter (goes_to walk) ((get_or needs i d).number ∷ [])) b c
    → PutsAll walk (filter (goes_to walk) (numbers_of (take (i + 1) needs))) a c
needs_step walk needs i d a b c low p q =
    subst (λ (xs : List ℕ). PutsAll walk xs a c) (sym (needs_more walk needs i d low))
    (puts_more walk (filter (goes_to walk) (numbers_of (take i needs))) (filter (goes_to walk) ((get_or needs i d).number ∷ [])) a b c p q)
