-- Forms of what was followed are as definitions have them (Binary.md, "Type Definitions"; WIT.md, "Types").
use Rattle.std.specs.Prelude.{◌≡◌, ◌<◌, ℕ, List, Some, slice_get}
use Rattle.std.specs.List.{AllZip}
use Rattle.wit_model.specs.Tree.{Form}
use Rattle.plan_meaning.specs.{NumberedMembers.Homes, NumberedMembers.IsMember, NumberedViews.AreTables, NumberedViews.Tables, Shapes.node_shape}
use Rattle.read_exports.specs.declared.members.Member.{Member}
use Rattle.read_exports.specs.Members.{numbered_members}
use Rattle.plan_types.specs.Showings.{showings_of_members, signatures_of_members}
use Rattle.plan_type_laws.specs.{ShownForms.FormsObey, MembersStand.MembersStand}
use Rattle.comp_meaning.specs.Reads as reads

-- each fixed length of the table is a number of 32 bits
abbrev pub LengthsFit : Tables → Type 0
LengthsFit t = (n l : ℕ) (parts : List ℕ) → slice_get t.shapes n ≡ Some (node_shape (Form.fixed_list_of l) parts) → l < 4294967296

-- Where the parts at the top are well-formed, each form that they show is one that a definition may have.
abbrev pub FormsAreObeyed : Type 0
FormsAreObeyed = (t : Tables) → AreTables t → LengthsFit t → (h : Homes) (ms : List Member) (members : List reads.Member)
    → AllZip (IsMember t h) (numbered_members ms) members → MembersStand members
    → FormsObey t (showings_of_members ms) (signatures_of_members ms)
