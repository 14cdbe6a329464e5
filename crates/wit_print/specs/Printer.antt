-- A printer, and what it prints.
use Rattle.std.specs.{Prelude.◌≡◌, Prelude.Bool, Prelude.true, Prelude.List, Borrow.Bor, List.list_all}
use Rattle.wit_model.specs.Text.{Text}
use Rattle.wit_model.specs.declared.model.{Resolve.Resolve, TypeId.TypeId, TypeOwner.TypeOwner}
use Rattle.print_output.specs.OutputCall.{Begins, Moves, OutputCall, OutputView}
use Rattle.print_grammar.specs.{Calls.members_calls, Calls.printed_after, Tree.MemberTree}
use Rattle.print_items.specs.Shown.{Listed}
use Rattle.print_uses.specs.UseGroups.{is_listed_type, listed_of}
use Rattle.wit_print.specs.declared.printer.WitPrinter.{WitPrinter}

-- whether a printer prints documentation
abbrev pub emits_docs : {O : Type 0} → WitPrinter O → Bool
emits_docs p = p.emit_docs

-- whether the block that a printer goes on with has printed something
abbrev pub block_has_printed : {O : Type 0} → WitPrinter O → Bool
block_has_printed p = p.has_printed

-- ---- what has been printed

-- the printer has made these calls of its output, in order
abbrev pub Prints : {O Kept : Type 0} → (OutputView Kept → OutputCall → Kept) → (O → OutputView Kept) → WitPrinter O → List OutputCall → WitPrinter O → Type 0
Prints keeps view p calls p' = Moves keeps (view p.output) calls (view p'.output)

-- the printer has made a beginning of these calls
abbrev pub PrintsInPart : {O Kept : Type 0} → (OutputView Kept → OutputCall → Kept) → (O → OutputView Kept) → WitPrinter O → List OutputCall
    → WitPrinter O → Type 0
PrintsInPart keeps view p calls p' = Begins keeps (view p.output) calls (view p'.output)

-- the calls for members in the outer block that the printer goes on with
abbrev pub next_calls : {O : Type 0} → WitPrinter O → List MemberTree → List OutputCall
next_calls p members = members_calls (emits_docs p) (block_has_printed p) members

-- ---- types that are handed in

-- types under their names
abbrev pub GivenTypes : Type 0
GivenTypes = List (Bor Text × TypeId)

-- What is given are named types of an owner, under labels.
abbrev pub AreTypesOf : Resolve → TypeOwner → (GivenTypes → Type 0) → Type 0
AreTypesOf r o given = (xs : GivenTypes) → given xs → list_all (is_listed_type r o) (listed_of xs) ≡ true

-- What is given has been printed, each type as these members, in the block that the printer goes on with, which has printed something from then on
-- where there are members.
pub record PrintsTypes {O Kept : Type 0} (keeps : OutputView Kept → OutputCall → Kept) (view : O → OutputView Kept) (p : WitPrinter O)
    (given : GivenTypes → Type 0)
    (members : List Listed → List MemberTree) (p' : WitPrinter O) : Type 0 where
  pub types : GivenTypes
  pub are : given types
  pub prints : Prints keeps view p (next_calls p (members (listed_of types))) p'
  pub printed : block_has_printed p' ≡ printed_after (block_has_printed p) (members (listed_of types))

-- Nothing has been printed, or a beginning of what is given.
pub data PrintsTypesInPart {O Kept : Type 0} (keeps : OutputView Kept → OutputCall → Kept) (view : O → OutputView Kept) (p : WitPrinter O)
    (given : GivenTypes → Type 0)
    (members : List Listed → List MemberTree) (p' : WitPrinter O) : Type 0 where
  nothing : view p'.output ≡ view p.output → PrintsTypesInPart keeps view p given members p'
  some : (types : GivenTypes) → given types → PrintsInPart keeps view p (next_calls p (members (listed_of types))) p'
      → PrintsTypesInPart keeps view p given members p'
