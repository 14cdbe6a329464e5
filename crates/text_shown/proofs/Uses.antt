-- What is shown of a use is the use, grouped with others or not. Serves Interfaces.
use Rattle.std.proofs.Common.{◌≡◌, refl, sym, ap, ◌∙◌, Bool, true, false, ◌&&◌, ◌==◌, List, [], ◌∷◌, ◌++◌, append_assoc, map, flat_map, Option, Some, None}
use Rattle.std.proofs.Common.{option_map, unwrap_or, slice_get}
use Rattle.std.specs.{Prelude.if◌then◌else◌, Option.option_eq}
use Rattle.wit_model.specs.declared.model.{Resolve.Resolve, TypeDef.TypeDef, TypeDefKind.TypeDefKind, TypeId.TypeId, TypeOwner.TypeOwner}
use Rattle.wit_model.specs.declared.model.{InterfaceId.InterfaceId, PackageId.PackageId}
use Rattle.wit_model.specs.declared.model.TypeDefKind.TheVariants as defined
use Rattle.wit_model.specs.declared.model.«Type».TheVariants as value
use Rattle.wit_model.specs.declared.model.TypeOwner.TheVariants as owner
use Rattle.wit_model.specs.{Text.Text, Text.text_eq, Text.text_of, Parts.same_owner}
use Rattle.wit_model.proofs.{PartsLemmas.owner_itself, TextLemmas.text_alike, TextLemmas.text_same}
use Rattle.print_grammar.specs.Tree.{Gates, Gates.Ungated, Gates.Since, Gates.Unstable, Prefix, PackageHead, PathTree, UsedName, MemberTree}
use Rattle.print_grammar.specs.Tree.{MemberTree.UseMember}
use Rattle.print_items.specs.Shown.{present_name, shown_gates, shown_external_id, Used, own_name, used_of, same_gates, same_group, grouped_with, grouped}
use Rattle.print_items.specs.Shown.{path_from_owner}
use Rattle.text_types.specs.{Declares.NamedAt, Declares.OwnTarget, Made.name_here}
use Rattle.base_lemmas.proofs.{Bools.left_of, Bools.right_of, Lists.append_of_map, Numbers.equal}
use Rattle.text_shown.specs.{Members.IsForeign, Same.plain_members, Same.plain_path, Same.plain_used}
use Rattle.text_shown.proofs.Types.{present}

-- ---- one use

-- a use of a name: its target's name, and its own where that is another
abbrev pub one_use : InterfaceId → TypeDef → Text → Text → Used
one_use interface def own other = record {
  interface = interface;
  prefix = record { docs = []; gates = shown_gates def.stability; external_id = shown_external_id def.external_id };
  names = record { other = other; own = own_name own other } ∷ [];
}

-- A name for a type of another interface is shown as a use.
pub foreign_use : (r : Resolve) (here : TypeOwner) (own other : Text) (def aliased : TypeDef) (target : TypeId) (interface : InterfaceId)
    → def.kind ≡ defined.Type_ (value.Id target)
    → slice_get r.types.items target.0 ≡ Some aliased → option_map text_of aliased.name ≡ Some other → aliased.owner ≡ owner.Interface interface
    → same_owner here (owner.Interface interface) ≡ false → used_of r here own def ≡ Some (one_use interface def own other)
foreign_use r here own other def aliased target interface kind there named owned apart =
    ap (λ k. used_of r here own (record def { kind = k })) kind ∙ by_target
  where
    name : present_name aliased.name ≡ other
    name = present aliased.name other named

    by_target : used_of r here own (record def { kind = defined.Type_ (value.Id target) }) ≡ Some (one_use interface def own other)
    by_target = rw (there, owned, apart, name) refl

-- a name, and what it is called here
plain_own : (other : Text) (own : Option Text)
    → plain_used (record { other = other; own = own_name (unwrap_or own other) other }) ≡ plain_used (record { other = other; own = own })
plain_own other None = ap (λ b. plain_used (record { other = other; own = if b then None else Some other })) (text_alike other)
plain_own other (Some own) = go (text_eq own other) refl
  where
    go : (b : Bool) → text_eq own other ≡ b
        → plain_used (record { other = other; own = own_name own other }) ≡ plain_used (record { other = other; own = Some own })
    go true e = ap (λ b. plain_used (record { other = other; own = if b then None else Some own })) e
        ∙ ap (λ b. record { other = other; own = if b then None else Some own }) (sym e)
    go false e = ap (λ b. plain_used (record { other = other; own = if b then None else Some own })) e

-- what is shown of a use, in its plain form
module _ (r : Resolve) (here : PackageHead) (own : TypeOwner) (home : Option PackageId) (prefix : Prefix) (path : PathTree)
    (used : UsedName) {id target : TypeId}
    (at : NamedAt r.types.items own (record prefix { docs = [] }) (name_here used) (defined.Type_ (value.Id target)) id)
    (means : IsForeign r here own home path used.other target) where
  pub use_at : used_of r own (name_here used) at.def ≡ Some (one_use means.interface at.def (name_here used) used.other)
  use_at = foreign_use r own (name_here used) used.other at.def means.def target means.interface at.has means.there means.named means.owned means.apart

  pub use_shown : plain_members here (UseMember (one_use means.interface at.def (name_here used) used.other).prefix (path_from_owner r home means.interface)
      (one_use means.interface at.def (name_here used) used.other).names) ≡ plain_members here (UseMember prefix path (used ∷ []))
  use_shown = λ i. UseMember (record { docs = []; gates = at.front.gates i; external_id = at.front.external_id i }) (means.shown i)
      (plain_own used.other used.own i ∷ []) ∷ []

-- ---- declarations

-- the use of a name for a type of this owner, if that is another's
abbrev used_of_target : TypeOwner → Text → Text → TypeDef → TypeOwner → Option Used
used_of_target here own other def (owner.Interface id) =
    if same_owner here (owner.Interface id)
    then None
    else Some (one_use id def own other)
used_of_target here own other def o = None

module _ (r : Resolve) (own : TypeOwner) (name : Text) (def : TypeDef) where
  own_alias : (target : TypeId) (aliased : TypeDef) → slice_get r.types.items target.0 ≡ Some aliased → aliased.owner ≡ own
      → used_of r own name (record def { kind = defined.Type_ (value.Id target) }) ≡ None
  own_alias target aliased there owned = rw (there, owned) (by_owner own (owner_itself own))
    where
      by_owner : (o : TypeOwner) → same_owner own o ≡ true → used_of_target own name (present_name aliased.name) def o ≡ None
      by_owner (owner.Interface id) same = rw same refl
      by_owner (owner.World id) same = refl
      by_owner owner.None same = refl

  -- A declaration is no use.
  pub no_use : OwnTarget r.types.items own def.kind → used_of r own name def ≡ None
  no_use stays = go def.kind refl
    where
      go : (kind : TypeDefKind) → def.kind ≡ kind → used_of r own name (record def { kind = kind }) ≡ None
      go (defined.Type_ (value.Id target)) is = let o = stays.leads target is in own_alias target o.def o.there o.owned
      go _ is = refl

-- ---- groups

pub optional_same : (a b : Option Text) → option_eq text_eq a b ≡ true → a ≡ b
optional_same None None h = refl
optional_same (Some a) (Some b) h = ap Some (text_same a b h)
optional_same None (Some b) h = absurd cc
optional_same (Some a) None h = absurd cc

gates_same : (a b : Gates) → same_gates a b ≡ true → a ≡ b
gates_same Ungated Ungated h = refl
gates_same (Since a d) (Since b e) h = λ i. Since (text_same a b (left_of _ _ h) i) (optional_same d e (right_of (text_eq a b) _ h) i)
gates_same (Unstable a d) (Unstable b e) h = λ i. Unstable (text_same a b (left_of _ _ h) i) (optional_same d e (right_of (text_eq a b) _ h) i)
gates_same Ungated (Since b e) h = absurd cc
gates_same Ungated (Unstable b e) h = absurd cc
gates_same (Since a d) Ungated h = absurd cc
gates_same (Since a d) (Unstable b e) h = absurd cc
gates_same (Unstable a d) Ungated h = absurd cc
gates_same (Unstable a d) (Since b e) h = absurd cc

module _ (here : PackageHead) (path : InterfaceId → PathTree) where
  -- a use as a member
  abbrev pub member_of_use : Used → MemberTree
  member_of_use used = UseMember used.prefix (path used.interface) used.names

  -- the same as it is written alone
  abbrev pub plain_use : Used → List MemberTree
  plain_use used = plain_members here (member_of_use used)

  joined_use : (a b : Used) → same_group a b ≡ true → (names : List UsedName) → plain_use (record a { names = names }) ≡ plain_use (record b { names = names })
  joined_use a b h names =
      let first = left_of ((a.interface.0 == b.interface.0) && same_gates a.prefix.gates b.prefix.gates) _ h in
      let number : a.interface.0 ≡ b.interface.0 = equal _ _ (left_of _ _ first) in
      let gates : a.prefix.gates ≡ b.prefix.gates = gates_same _ _ (right_of (a.interface.0 == b.interface.0) _ first) in
      let id : a.prefix.external_id ≡ b.prefix.external_id = optional_same _ _
      (right_of ((a.interface.0 == b.interface.0) && same_gates a.prefix.gates b.prefix.gates) _ h) in
      λ i. map (λ used. UseMember (record { docs = []; gates = gates i; external_id = id i }) (plain_path here (path (record { 0 = number i })))
      (plain_used used ∷ [])) names

  grouped_first : (used : Used) (groups : List Used) → flat_map plain_use (grouped_with used groups) ≡ plain_use used ++ flat_map plain_use groups
  grouped_first used [] = refl
  grouped_first used (group ∷ groups) = go (same_group used group) refl
    where
      go : (b : Bool) → same_group used group ≡ b → flat_map plain_use (grouped_with used (group ∷ groups))
          ≡ plain_use used ++ flat_map plain_use (group ∷ groups)
      go true e = ap (λ b. flat_map plain_use (if b then record used { names = used.names ++ group.names } ∷ groups else used ∷ group ∷ groups)) e
          ∙ ap (λ ms. ms ++ flat_map plain_use groups) (append_of_map _ used.names group.names)
          ∙ append_assoc (plain_use used) (plain_use (record used { names = group.names })) (flat_map plain_use groups)
          ∙ ap (λ ms. plain_use used ++ (ms ++ flat_map plain_use groups)) (joined_use used group e group.names)
      go false e = ap (λ b. flat_map plain_use (if b then record used { names = used.names ++ group.names } ∷ groups else used ∷ group ∷ groups)) e

  -- Uses in groups are the same uses one by one.
  pub grouped_apart : (uses : List Used) → flat_map plain_use (grouped uses) ≡ flat_map plain_use uses
  grouped_apart [] = refl
  grouped_apart (used ∷ uses) = grouped_first used (grouped uses) ∙ ap (λ ms. plain_use used ++ ms) (grouped_apart uses)
