-- Calls of a driver: one call, calls after calls, and what they come to at the end.
use Rattle.std.proofs.Common.{rules as std_rules, Result, Ok, Err, OnOk, OnErr, ◌≡◌, ◌<◌, ◌+◌, ℕ, Bool, true, false, List, [], ◌∷◌, ◌++◌, refl, sym, subst, ◌∙◌, ap, inl, take, drop, map, get_or, length, append_assoc}
use Rattle.std.proofs.lemmas.{Bool.true≢false, Result.on_err_weaker as on_err, Result.on_ok_weaker as on_ok, Grind.flat_map-append, List.map-append}
use Rattle.std.proofs.lemmas.List.{take-append-drop, Folds.flat_map-map}
use Rattle.std.specs.{Prelude.is_err, List.flat_map}
use Rattle.print_output.specs.OutputCall.{OutputCall, OutputView, after, lines_begun_after, Counts, Reaches, Moves, Begins, body_calls}
use Rattle.print_output.specs.OutputCall.{Moves.nothing_moved, Moves.then_moved, Begins.nothing_begun, Begins.begun_in, OutputCall.IndentEnd}
use Rattle.print_items.specs.declared.driver.Driver.{Driver}
use Rattle.print_items.specs.{Drives.Runs, Drives.Drives, Drives.LineIs, Drives.Runs.all_made, Drives.Runs.one_refused, Drives.Runs.none_made}
use Rattle.print_items.proofs.{Runs.flat_map-take_next, Moves.Moves-append, Moves.Begins-append, Moves.Begins-more, Moves.one_moved, Moves.Counts-line}

module _ {Kept : Type 0} {keeps : OutputView Kept → OutputCall → Kept} where
  runs_append : {a b c : Bool} {u v w : OutputView Kept} {calls more : List OutputCall} → Runs keeps a u calls b v → Runs keeps b v more c w → Runs keeps a u (calls ++ more) c w
  runs_append (all_made d) (all_made e) = all_made (Moves-append keeps d e)
  runs_append (all_made d) (one_refused e) = one_refused (Begins-append keeps d e)
  runs_append {u = u} {calls = calls} {more = more} (one_refused d) (none_made e) = one_refused (subst (λ x. Begins keeps u (calls ++ more) x) (sym e) (Begins-more keeps more d))
  runs_append (none_made d) (none_made e) = none_made (e ∙ d)

  runs_none : (a : Bool) (u : OutputView Kept) → Runs keeps a u [] a u
  runs_none true u = none_made refl
  runs_none false u = all_made (nothing_moved refl)

  by_result : {T E : Type 0} (r : Result T E) (u v : OutputView Kept) (calls : List OutputCall) → OnOk r (Moves keeps u calls v) → OnErr r (Begins keeps u calls v)
      → Runs keeps false u calls (is_err r) v
  by_result (Ok x) u v calls h k = all_made h
  by_result (Err e) u v calls h k = one_refused k

  runs_by : {T E : Type 0} (refused now : Bool) (r : Result T E) (u v : OutputView Kept) (calls : List OutputCall) → refused ≡ false → now ≡ is_err r → OnOk r (Moves keeps u calls v)
      → OnErr r (Begins keeps u calls v) → Runs keeps refused u calls now v
  runs_by refused now r u v calls f n h k = subst (λ b. Runs keeps b u calls now v) (sym f) (subst (λ b. Runs keeps false u calls b v) (sym n) (by_result r u v calls h k))

  runs_moved : {a b : Bool} {u v : OutputView Kept} {calls : List OutputCall} → Runs keeps a u calls b v → a ≡ false → b ≡ false → Moves keeps u calls v
  runs_moved x f n = search std_rules

  runs_begun : {a b : Bool} {u v : OutputView Kept} {calls : List OutputCall} → Runs keeps a u calls b v → a ≡ false → b ≡ true → Begins keeps u calls v
  runs_begun x f n = search std_rules

module _ {O Kept : Type 0} {view : O → OutputView Kept} {keeps : OutputView Kept → OutputCall → Kept} where
  -- some calls and then more
  pub driven : {a b c : Driver O} {calls more : List OutputCall} → Drives view keeps a calls b → Drives view keeps b more c → Drives view keeps a (calls ++ more) c
  driven d e = record { same = e.same ∙ d.same; runs = runs_append d.runs e.runs }

  -- some calls and then more, which together are these
  pub driven_on : {a b c : Driver O} {calls more all : List OutputCall} → Drives view keeps a calls b → Drives view keeps b more c → calls ++ more ≡ all → Drives view keeps a all c
  driven_on {a = a} {c = c} d e h = subst (λ x. Drives view keeps a x c) h (driven d e)

  -- calls under another spelling
  pub driven_as : {a b : Driver O} {calls all : List OutputCall} → Drives view keeps a calls b → calls ≡ all → Drives view keeps a all b
  driven_as {a = a} {b = b} d h = subst (λ x. Drives view keeps a x b) h d

  -- no calls
  pub driven_none : (a : Driver O) → Drives view keeps a [] a
  driven_none a = record { same = refl; runs = runs_none _ _ }

  -- several in a row, which together are these, grouped to the right
  pub driven3 : {a b c d : Driver O} {A B C all : List OutputCall} → Drives view keeps a A b → Drives view keeps b B c → Drives view keeps c C d → A ++ (B ++ C) ≡ all → Drives view keeps a all d
  driven3 p q r h = driven_on p (driven q r) h

  pub driven4 : {a b c d e : Driver O} {A B C D all : List OutputCall} → Drives view keeps a A b → Drives view keeps b B c → Drives view keeps c C d → Drives view keeps d D e
      → A ++ (B ++ (C ++ D)) ≡ all → Drives view keeps a all e
  driven4 p q r s h = driven_on p (driven q (driven r s)) h

  pub driven5 : {a b c d e f : Driver O} {A B C D E all : List OutputCall} → Drives view keeps a A b → Drives view keeps b B c → Drives view keeps c C d → Drives view keeps d D e
      → Drives view keeps e E f → A ++ (B ++ (C ++ (D ++ E))) ≡ all → Drives view keeps a all f
  driven5 p q r s t h = driven_on p (driven q (driven r (driven s t))) h

  pub driven6 : {a b c d e f g : Driver O} {A B C D E F all : List OutputCall} → Drives view keeps a A b → Drives view keeps b B c → Drives view keeps c C d → Drives view keeps d D e
      → Drives view keeps e E f → Drives view keeps f F g → A ++ (B ++ (C ++ (D ++ (E ++ F)))) ≡ all → Drives view keeps a all g
  driven6 p q r s t u h = driven_on p (driven q (driven r (driven s (driven t u)))) h

  pub driven7 : {a b c d e f g i : Driver O} {A B C D E F G all : List OutputCall} → Drives view keeps a A b → Drives view keeps b B c → Drives view keeps c C d → Drives view keeps d D e
      → Drives view keeps e E f → Drives view keeps f F g → Drives view keeps g G i → A ++ (B ++ (C ++ (D ++ (E ++ (F ++ G))))) ≡ all → Drives view keeps a all i
  driven7 p q r s t u v h = driven_on p (driven q (driven r (driven s (driven t (driven u v))))) h

  -- grouped to the left
  pub driven3_left : {a b c d : Driver O} {A B C all : List OutputCall} → Drives view keeps a A b → Drives view keeps b B c → Drives view keeps c C d → (A ++ B) ++ C ≡ all → Drives view keeps a all d
  driven3_left p q r h = driven_on (driven p q) r h

  pub driven4_left : {a b c d e : Driver O} {A B C D all : List OutputCall} → Drives view keeps a A b → Drives view keeps b B c → Drives view keeps c C d → Drives view keeps d D e
      → ((A ++ B) ++ C) ++ D ≡ all → Drives view keeps a all e
  driven4_left p q r s h = driven_on (driven (driven p q) r) s h

  -- grouped in pairs
  pub driven4_pairs : {a b c d e : Driver O} {A B C D all : List OutputCall} → Drives view keeps a A b → Drives view keeps b B c → Drives view keeps c C d → Drives view keeps d D e
      → (A ++ B) ++ (C ++ D) ≡ all → Drives view keeps a all e
  driven4_pairs p q r s h = driven_on (driven p q) (driven r s) h

  -- one more of the runs of calls that the elements of a list give
  pub one_run : {X : Type 0} (run : X → List OutputCall) (xs : List X) (i : ℕ) (x : X) {a b c : Driver O} → Drives view keeps a (flat_map run (take i xs)) b → i < length xs → x ≡ get_or xs i x
      → Drives view keeps b (run x) c → Drives view keeps a (flat_map run (take (i + 1) xs)) c
  one_run run xs i x d within e more = driven_on d more (sym (flat_map-take_next run xs i x within e))

  -- calls made by a function of their own
  pub spelled_made : {T E : Type 0} (a b : Driver O) (r : Result T E) (call : OutputCall) → b.output.ghost_name ≡ a.output.ghost_name → a.refused ≡ false → b.refused ≡ is_err r
      → OnOk r (Moves keeps (view a.output.now) (call ∷ []) (view b.output.now)) → OnErr r (Begins keeps (view a.output.now) (call ∷ []) (view b.output.now)) → Drives view keeps a (call ∷ []) b
  spelled_made a b r call s f n h k = record { same = s; runs = runs_by _ _ r _ _ (call ∷ []) f n h k }

  -- a call of the output, or none where one was refused
  pub call_made : {T E : Type 0} (a b : Driver O) (r : Result T E) (call : OutputCall) → b.output.ghost_name ≡ a.output.ghost_name → a.refused ≡ false → b.refused ≡ is_err r
      → OnOk r (Counts keeps (view a.output.now) call (view b.output.now)) → OnErr r (Reaches keeps (view a.output.now) (body_calls call) (view b.output.now)) → Drives view keeps a (call ∷ []) b
  call_made a b r call s f n h k = spelled_made a b r call s f n (on_ok r (λ m. one_moved m) h) (on_err r (λ x. begun_in x) k)

  -- a call that counts as itself
  pub plain_made : {T E : Type 0} (a b : Driver O) (r : Result T E) (call : OutputCall) → b.output.ghost_name ≡ a.output.ghost_name → a.refused ≡ false → b.refused ≡ is_err r
      → OnOk r (view b.output.now ≡ after keeps (view a.output.now) call) → OnErr r (view b.output.now ≡ view a.output.now) → Drives view keeps a (call ∷ []) b
  plain_made a b r call s f n h k = spelled_made a b r call s f n (on_ok r (λ e. one_moved (inl e)) h) (on_err r (λ e. nothing_begun e) k)

  -- no call where one was refused
  pub call_passed : (a : Driver O) (calls : List OutputCall) → a.refused ≡ true → Drives view keeps a calls a
  call_passed a calls f = record { same = refl; runs = subst (λ b. Runs keeps b (view a.output.now) calls b (view a.output.now)) (sym f) (none_made refl) }

  -- what a driver that refused nothing did at its end, by whether it has refused a call
  pub all_moved : {a b : Driver O} {calls : List OutputCall} → Drives view keeps a calls b → a.refused ≡ false → b.refused ≡ false → Moves keeps (view a.output.now) calls (view b.output.now)
  all_moved d f n = runs_moved d.runs f n

  pub some_begun : {a b : Driver O} {calls : List OutputCall} → Drives view keeps a calls b → a.refused ≡ false → b.refused ≡ true → Begins keeps (view a.output.now) calls (view b.output.now)
  some_begun d f n = runs_begun d.runs f n

-- ---- whether a line has just begun

module _ {Kept : Type 0} {keeps : OutputView Kept → OutputCall → Kept} where
  moves_line : {u v : OutputView Kept} {calls : List OutputCall} → Moves keeps u calls v → v.line_begun ≡ lines_begun_after u.line_begun calls
  moves_line (nothing_moved e) = ap (λ x. x.line_begun) e
  moves_line {u = u} (then_moved {between = w} {call = call} {calls = calls} h r) = moves_line r ∙ ap (λ b. lines_begun_after b calls) (Counts-line keeps u call w h)

  runs_line : {a b : Bool} {u v : OutputView Kept} {calls : List OutputCall} → Runs keeps a u calls b v → b ≡ false → v.line_begun ≡ lines_begun_after u.line_begun calls
  runs_line x n = search (std_rules, moves_line, true≢false)

  runs_free : {a b : Bool} {u v : OutputView Kept} {calls : List OutputCall} → Runs keeps a u calls b v → b ≡ false → a ≡ false
  runs_free x n = search std_rules

module _ {O Kept : Type 0} {view : O → OutputView Kept} {keeps : OutputView Kept → OutputCall → Kept} where
  -- whether a line has just begun after calls of which none was refused
  pub line_driven : {a b : Driver O} {calls : List OutputCall} → Drives view keeps a calls b → b.refused ≡ false
      → (view b.output.now).line_begun ≡ lines_begun_after (view a.output.now).line_begun calls
  line_driven d n = runs_line d.runs n

  -- what refused nothing now refused nothing before
  pub free_before : {a b : Driver O} {calls : List OutputCall} → Drives view keeps a calls b → b.refused ≡ false → a.refused ≡ false
  free_before d n = runs_free d.runs n

-- ---- calls before calls

-- Some calls ran, and with those that are left they are these.
pub record Driving {O Kept : Type 0} (view : O → OutputView Kept) (keeps : OutputView Kept → OutputCall → Kept) (left all : List OutputCall) (old now : Driver O) : Type 0 where
  pub made : List OutputCall
  pub driven : Drives view keeps old made now
  pub whole : made ++ left ≡ all

module _ {O Kept : Type 0} {view : O → OutputView Kept} {keeps : OutputView Kept → OutputCall → Kept} where
  -- the first of them ran
  pub driving_first : (run rest : List OutputCall) {all : List OutputCall} {old now : Driver O} → Drives view keeps old run now → run ++ rest ≡ all → Driving view keeps rest all old now
  driving_first run rest d e = record { made = run; driven = d; whole = e }

  -- some of the calls that were left ran
  pub driving_next : (run rest : List OutputCall) {left all : List OutputCall} {old now new : Driver O} → Driving view keeps left all old now → left ≡ run ++ rest → Drives view keeps now run new
      → Driving view keeps rest all old new
  driving_next run rest g e d = record { made = g.made ++ run; driven = driven g.driven d; whole = append_assoc g.made run rest ∙ ap (λ x. g.made ++ x) (sym e) ∙ g.whole }

  -- none was left
  pub driving_done : {left all : List OutputCall} {old now : Driver O} → Driving view keeps left all old now → left ≡ [] → Drives view keeps old all now
  driving_done g e = driven_on g.driven (driven_none _) (ap (λ x. g.made ++ x) (sym e) ∙ g.whole)

-- ---- after a refusal: a driver that has refused a call stays as it is, and calls may be left out

module _ {O Kept : Type 0} {view : O → OutputView Kept} {keeps : OutputView Kept → OutputCall → Kept} where
  -- the others of these calls
  pub driven_cut : {a b : Driver O} {made all : List OutputCall} (others : List OutputCall) → Drives view keeps a made b → b.refused ≡ true → made ++ others ≡ all → Drives view keeps a all b
  driven_cut others d r e = driven_on d (call_passed _ others r) e

  -- the runs of the other elements of a list
  pub run_cut : {X : Type 0} (run : X → List OutputCall) (xs : List X) (i : ℕ) {a b : Driver O} → Drives view keeps a (flat_map run (take i xs)) b → b.refused ≡ true
      → Drives view keeps a (flat_map run xs) b
  run_cut run xs i d r = driven_cut (flat_map run (drop i xs)) d r (sym (flat_map-append run (take i xs) (drop i xs)) ∙ ap (flat_map run) (take-append-drop i xs))

  -- the calls of the other elements of a list, one each
  pub map_cut : {X : Type 0} (call : X → OutputCall) (xs : List X) (i : ℕ) {a b : Driver O} → Drives view keeps a (map call (take i xs)) b → b.refused ≡ true → Drives view keeps a (map call xs) b
  map_cut call xs i d r = driven_cut (map call (drop i xs)) d r (sym (map-append call (take i xs) (drop i xs)) ∙ ap (map call) (take-append-drop i xs))

  -- the calls that are left
  pub driving_cut : {left all : List OutputCall} {old now : Driver O} → Driving view keeps left all old now → now.refused ≡ true → Drives view keeps old all now
  driving_cut {left = left} g r = driven_cut left g.driven r g.whole

-- what is said of a line unless a call was refused
pub line_refused : {O Kept : Type 0} (view : O → OutputView Kept) (begun : Bool) (a : Driver O) → a.refused ≡ true → LineIs view begun a
line_refused view begun a r free = absurd (true≢false (sym r ∙ free))

-- ---- blocks

-- members in turn, which are these, as they are shown
pub block_driven : {O Kept : Type 0} {view : O → OutputView Kept} {keeps : OutputView Kept → OutputCall → Kept} {X Y : Type 0} (start : List OutputCall) (run : Y → List OutputCall) (show : X → Y)
    (members all : List X) {a b c d : Driver O} → Drives view keeps a start b → Drives view keeps b (flat_map (λ x. run (show x)) members) c → Drives view keeps c (IndentEnd ∷ []) d → members ≡ all
    → Drives view keeps a (start ++ (flat_map run (map show all) ++ (IndentEnd ∷ []))) d
block_driven start run show members all p q r e = search (std_rules, driven3, flat_map-map)

pub ruleset driving = (driven_as, driven_none, driven_on, driven3, driven3_left, driven4, driven4_left, driven4_pairs, driven5, driven6, driven7)

pub ruleset finishing = (all_moved, some_begun, on_ok, on_err)
