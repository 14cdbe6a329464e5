-- What is read by levels is well-formed, since it is what is read of the raw forms.
use Rattle.std.proofs.Common.{◌≡◌, refl, ◌∙◌, List, [], ◌∷◌, Some}
use Rattle.std.specs.List.{AllByRecursion}
use Rattle.wit_model.specs.Text.{Text}
use Rattle.comp_bytes.specs.Levels.{Entry, plain, holds, PartType, wraps, shows, raw_part, declarations_of}
use Rattle.comp_meaning.specs.{Follow.each, Follow.Scope, Reads.Member, Reads.member, ByLevels.entry_scope, ByLevels.member_by_levels}
use Rattle.comp_meaning.proofs.EntryLaws.{scope_is}
use Rattle.read_shown.specs.{Scopes.ScopeStands, Instances.InstancesAreSeen, Parts.MemberStands}
use Rattle.read_shown.proofs.{Instances.instances_seen, Lists.each_found, Parts.member_stands, Scopes.scope_stands}

pub entry_scope_stands : (es : List Entry) (scope : Scope) → entry_scope es ≡ Some scope → ScopeStands scope × InstancesAreSeen scope
entry_scope_stands es scope e = (scope_stands (declarations_of es) scope (scope_is es ∙ e), instances_seen (declarations_of es) scope (scope_is es ∙ e))

member_is : (label : Text) (p : PartType) → member (label, raw_part p) ≡ member_by_levels (label, p)
member_is label (wraps es name) = rw (scope_is es) refl
member_is label (shows []) = refl
member_is label (shows (plain d ∷ es)) = rw (scope_is (plain d ∷ es)) refl
member_is label (shows (holds ds ∷ es)) = rw (scope_is (holds ds ∷ es)) refl

pub members_by_levels_stand : (parts : List (Text × PartType)) (members : List Member) → each member_by_levels parts ≡ Some members → AllByRecursion MemberStands members
members_by_levels_stand parts members e = each_found member_by_levels MemberStands (λ x m h. member_stands (x.0, raw_part x.1) m (member_is x.0 x.1 ∙ h)) parts members e
