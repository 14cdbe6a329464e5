-- What calls do to an output, and to a driver, which makes each call of its output at once, and makes no more once one was refused.
use Rattle.std.specs.Prelude.{◌≡◌, Bool, true, false, List, ℕ, IsTrue}
use Rattle.print_output.specs.OutputCall.{OutputCall, OutputView, Moves, Begins, may_begin, may_follow}
use Rattle.print_items.specs.declared.driver.Driver.{Driver}

-- By whether a call was refused before, and whether one is refused now: all calls were made, in order; or a beginning of them; or none.
pub data Runs {Kept : Type 0} (keeps : OutputView Kept → OutputCall → Kept) : Bool → OutputView Kept → List OutputCall → Bool → OutputView Kept → Type 0 where
  all_made : {old new : OutputView Kept} {calls : List OutputCall} → Moves keeps old calls new → Runs keeps false old calls false new
  one_refused : {old new : OutputView Kept} {calls : List OutputCall} → Begins keeps old calls new → Runs keeps false old calls true new
  none_made : {old new : OutputView Kept} {calls : List OutputCall} → new ≡ old → Runs keeps true old calls true new

module _ {O Kept : Type 0} (view : O → OutputView Kept) (keeps : OutputView Kept → OutputCall → Kept) where
  -- The calls ran on a driver's output, which is the same one.
  pub record Drives (old : Driver O) (calls : List OutputCall) (new : Driver O) : Type 0 where
    pub same : new.output.ghost_name ≡ old.output.ghost_name
    pub runs : Runs keeps old.refused (view old.output.now) calls new.refused (view new.output.now)

  -- An output has made these calls, in order.
  abbrev pub Makes : O → List OutputCall → O → Type 0
  Makes old calls new = Moves keeps (view old) calls (view new)

  -- An output has made a beginning of these calls.
  abbrev pub MakesInPart : O → List OutputCall → O → Type 0
  MakesInPart old calls new = Begins keeps (view old) calls (view new)

module _ {O Kept : Type 0} (view : O → OutputView Kept) where
  -- Unless a call was refused, a line has just begun, or has not.
  abbrev pub LineIs : Bool → Driver O → Type 0
  LineIs begun driver = driver.refused ≡ false → (view driver.output.now).line_begun ≡ begun

  -- Unless a call was refused, this text may stand here.
  abbrev pub MayBegin : Driver O → List ℕ → Type 0
  MayBegin driver text = driver.refused ≡ false → IsTrue (may_begin (view driver.output.now).line_begun text)

  -- Unless a call was refused, these calls may follow.
  abbrev pub MayFollow : Driver O → List OutputCall → Type 0
  MayFollow driver calls = driver.refused ≡ false → IsTrue (may_follow (view driver.output.now).line_begun calls)
