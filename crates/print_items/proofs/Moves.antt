-- How calls in turn move a view: one call and then the others, some calls and then some more.
use Rattle.std.proofs.Common.{rules as std_rules, ◌≡◌, List, [], ◌∷◌, ◌++◌, refl, sym, inl, inr, ◌∙◌, ap, subst, append_assoc, ◌&&◌, Bool, IsTrue, ℕ}
use Rattle.std.specs.List.{flat_map}
use Rattle.print_output.specs.OutputCall.{OutputCall, OutputView, after_all, body_calls, line_begun_after, Counts, Moves, Begins, is_one_line, may_begin}
use Rattle.print_output.specs.OutputCall.{Moves.nothing_moved, Moves.then_moved, Begins.nothing_begun, Begins.begun_in, Begins.then_begun}
use Rattle.base_lemmas.proofs.{Options.at_err, Bools.right_of}

module _ {Kept : Type 0} (keeps : OutputView Kept → OutputCall → Kept) where
  -- some calls and then more
  pub Moves-append : {calls more : List OutputCall} {u v w : OutputView Kept} → Moves keeps u calls v → Moves keeps v more w → Moves keeps u (calls ++ more) w
  Moves-append {more = more} {w = w} (nothing_moved e) m = subst (λ x. Moves keeps x more w) e m
  Moves-append (then_moved h r) m = then_moved h (Moves-append r m)

  -- some calls and then a refusal
  pub Begins-append : {calls more : List OutputCall} {u v w : OutputView Kept} → Moves keeps u calls v → Begins keeps v more w → Begins keeps u (calls ++ more) w
  Begins-append {more = more} {w = w} (nothing_moved e) b = subst (λ x. Begins keeps x more w) e b
  Begins-append (then_moved h r) b = then_begun h (Begins-append r b)

  -- a refusal before more calls
  pub Begins-more : {calls : List OutputCall} (more : List OutputCall) {u w : OutputView Kept} → Begins keeps u calls w → Begins keeps u (calls ++ more) w
  Begins-more more (nothing_begun e) = nothing_begun e
  Begins-more more (begun_in r) = begun_in r
  Begins-more more (then_begun h b) = then_begun h (Begins-more more b)

  -- whether a line has just begun is the same, however the call counts
  line_after_body : (call : OutputCall) (u : OutputView Kept) → (after_all keeps u (body_calls call)).line_begun ≡ line_begun_after call u.line_begun
  line_after_body x u = search std_rules

  pub Counts-line : (u : OutputView Kept) (call : OutputCall) (v : OutputView Kept) → Counts keeps u call v → v.line_begun ≡ line_begun_after call u.line_begun
  Counts-line u call v h = elim h [ inl e ↦ ap (λ x. x.line_begun) e | inr e ↦ ap (λ x. x.line_begun) e ∙ line_after_body call u ]

module _ {Kept : Type 0} {keeps : OutputView Kept → OutputCall → Kept} where
  -- one call, as a list
  pub one_moved : {u v : OutputView Kept} {call : OutputCall} → Counts keeps u call v → Moves keeps u (call ∷ []) v
  one_moved h = then_moved h (nothing_moved refl)

  -- first some calls and then others, which together are these
  pub moved_on : {u v w : OutputView Kept} {first then all : List OutputCall} → Moves keeps u first v → Moves keeps v then w → first ++ then ≡ all → Moves keeps u all w
  moved_on {u = u} {w = w} a b e = subst (λ x. Moves keeps u x w) e (Moves-append keeps a b)

  -- first some calls and then a refusal in others, which together are these
  pub begun_on : {u v w : OutputView Kept} {first then all : List OutputCall} → Moves keeps u first v → Begins keeps v then w → first ++ then ≡ all → Begins keeps u all w
  begun_on {u = u} {w = w} a b e = subst (λ x. Begins keeps u x w) e (Begins-append keeps a b)

  -- a refusal in the first of these
  pub begun_first : {u w : OutputView Kept} {first : List OutputCall} (then : List OutputCall) {all : List OutputCall} → Begins keeps u first w → first ++ then ≡ all → Begins keeps u all w
  begun_first {u = u} {w = w} then b e = subst (λ x. Begins keeps u x w) e (Begins-more keeps then b)

-- text that equals what a call may print may stand there
pub front_of : (begun : Bool) (text other : List ℕ) → IsTrue (is_one_line text && may_begin begun text) → other ≡ text → IsTrue (may_begin begun other)
front_of begun text other h e = subst (λ t. IsTrue (may_begin begun t)) (sym e) (right_of (is_one_line text) (may_begin begun text) h)

pub ruleset moving = (nothing_moved, then_moved, nothing_begun, begun_in, then_begun, one_moved, at_err, front_of)

-- ---- a run of calls for each element of a list

-- The runs of the elements before these are made, and no others.
pub record Underway {Kept X : Type 0} (keeps : OutputView Kept → OutputCall → Kept) (run : X → List OutputCall) (all left : List X) (old now : OutputView Kept) : Type 0 where
  pub made : List OutputCall
  pub moved : Moves keeps old made now
  pub whole : made ++ flat_map run left ≡ flat_map run all

module _ {Kept X : Type 0} {keeps : OutputView Kept → OutputCall → Kept} {run : X → List OutputCall} where
  pub underway : (all left : List X) (old : OutputView Kept) → left ≡ all → Underway keeps run all left old old
  underway all left old e = record { made = []; moved = nothing_moved refl; whole = ap (flat_map run) e }

  -- one more run
  pub run_made : {all left : List X} {old now new : OutputView Kept} (x : X) (others : List X) → Underway keeps run all left old now → left ≡ x ∷ others → Moves keeps now (run x) new
      → Underway keeps run all others old new
  run_made x others u e m = search (std_rules, Moves-append, append_assoc)

  -- a refusal in a run
  pub run_begun : {all left : List X} {old now new : OutputView Kept} (x : X) (others : List X) → Underway keeps run all left old now → left ≡ x ∷ others → Begins keeps now (run x) new
      → Begins keeps old (flat_map run all) new
  run_begun x others u e b = begun_on u.moved (Begins-more keeps (flat_map run others) b) (ap (λ xs. u.made ++ flat_map run xs) (sym e) ∙ u.whole)

-- ---- calls after calls

-- Some calls are made, and with those that are left they are these.
pub record Going {Kept : Type 0} (keeps : OutputView Kept → OutputCall → Kept) (left all : List OutputCall) (old now : OutputView Kept) : Type 0 where
  pub made : List OutputCall
  pub moved : Moves keeps old made now
  pub whole : made ++ left ≡ all

module _ {Kept : Type 0} {keeps : OutputView Kept → OutputCall → Kept} where
  pub going : (left all : List OutputCall) (old : OutputView Kept) → left ≡ all → Going keeps left all old old
  going left all old e = record { made = []; moved = nothing_moved refl; whole = e }

  -- some of the calls that were left are made
  pub made_on : (run rest : List OutputCall) {left all : List OutputCall} {old now new : OutputView Kept} → Going keeps left all old now → left ≡ run ++ rest → Moves keeps now run new
      → Going keeps rest all old new
  made_on run rest g e m = record { made = g.made ++ run; moved = Moves-append keeps g.moved m; whole = append_assoc g.made run rest ∙ ap (λ x. g.made ++ x) (sym e) ∙ g.whole }

  -- a refusal in those that were left
  pub refused_in : (run rest : List OutputCall) {left all : List OutputCall} {old now new : OutputView Kept} → Going keeps left all old now → left ≡ run ++ rest → Begins keeps now run new
      → Begins keeps old all new
  refused_in run rest g e b = begun_on g.moved (Begins-more keeps rest b) (ap (λ x. g.made ++ x) (sym e) ∙ g.whole)

  -- none was left
  pub made_all : {left all : List OutputCall} {old now : OutputView Kept} → Going keeps left all old now → left ≡ [] → Moves keeps old all now
  made_all g e = moved_on g.moved (nothing_moved refl) (ap (λ x. g.made ++ x) (sym e) ∙ g.whole)

  -- the last of them are made
  pub made_last : (run : List OutputCall) {all : List OutputCall} {old now new : OutputView Kept} → Going keeps run all old now → Moves keeps now run new → Moves keeps old all new
  made_last run g m = moved_on g.moved m g.whole

  -- a refusal in the last of them
  pub refused_last : (run : List OutputCall) {all : List OutputCall} {old now new : OutputView Kept} → Going keeps run all old now → Begins keeps now run new → Begins keeps old all new
  refused_last run g b = begun_on g.moved b g.whole
