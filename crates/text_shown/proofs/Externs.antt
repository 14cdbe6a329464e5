-- What is shown of an import or an export is what states it. Serves Worlds.
use Rattle.std.proofs.Common.{◌≡◌, refl, sym, ap, subst, ◌∙◌, Bool, true, false, ◌==◌, List, [], Option, Some, None}
use Rattle.std.specs.{Prelude.if◌then◌else◌, Prelude.is_some, Prelude.String, Option.option_map_or}
use Rattle.std.specs.declared.alloc.Global.{Global}
use Rattle.wit_model.specs.declared.model.{Resolve.Resolve, TypeId.TypeId, InterfaceId.InterfaceId, Package.Package}
use Rattle.wit_model.specs.declared.model.{PackageId.PackageId, Docs.Docs}
use Rattle.wit_model.specs.declared.model.TypeOwner.TheVariants as owner
use Rattle.wit_model.specs.declared.model.WorldKey.TheVariants as key
use Rattle.wit_model.specs.declared.model.WorldItem.TheVariants as item
use Rattle.wit_model.specs.{Text.Text, Text.text_of, Lookup.interface_at, Lookup.package_at, Valid.IsValid}
use Rattle.print_grammar.specs.Tree.{PackageHead, PathTree, Prefix, ExternTree, MemberTree}
use Rattle.print_grammar.specs.Tree.ExternTree.{NamedFunction, NamedPath, NamedInterface}
use Rattle.print_items.specs.Shown.{extern_docs, extern_prefix, shown_docs, shown_extern, shown_signature, shown_head, shown_interface, shown_path, WorldEntry}
use Rattle.text_types.proofs.MadeLaws.{members_carried}
use Rattle.base_lemmas.proofs.{Lists.append_none, Numbers.equal}
use Rattle.text_shown.specs.{Means.IsUsed, Means.PathIs, Means.TargetIs, Members.HasMembers}
use Rattle.text_shown.specs.{SameWorlds.SameDocs, SameWorlds.SameExtern, SameWorlds.SameStated, ShowsWorlds.ExternIs, ShowsWorlds.IsInline}
use Rattle.text_shown.specs.{ShowsWorlds.Stated, ShowsWorlds.StatedIs}
use Rattle.text_shown.proofs.{Functions.signature_shown, Interfaces.interface_shown}
use Rattle.text_shown.proofs.{Targets.path_named, Targets.path_shown, Targets.path_there}
use Rattle.text_types.proofs.MakingLaws.{nothing_shown}

-- an entry as it is shown
abbrev pub shown_stated : Resolve → PackageId → WorldEntry → Stated
shown_stated r home entry = record { prefix = extern_prefix r entry.0 entry.1; extern = shown_extern r home entry.0 entry.1 }

-- an interface under a label, as it is shown
abbrev labelled : Resolve → PackageId → String Global → InterfaceId → ExternTree
labelled r home label id =
    if option_map_or (λ i. is_some i.name) (interface_at r id.0) false
    then NamedPath (text_of label) (shown_path r home id)
    else NamedInterface (text_of label) (option_map_or (shown_interface r id) (interface_at r id.0) [])

-- the same documentation
docs_stated : {extern : ExternTree} {shown stated : List Text} → shown ≡ stated → SameDocs extern shown stated
docs_stated {extern = extern} {shown = shown} same = subst (SameDocs extern shown) same SameDocs.as_stated

module _ (r : Resolve) (valid : IsValid r) (home : PackageId) (p : Package) (at : package_at r home.0 ≡ Some p) where
  abbrev here : PackageHead
  here = shown_head p

  -- ---- documentation under a label

  -- that of the interface of this number
  abbrev docs_of_interface : InterfaceId → List Text
  docs_of_interface id = option_map_or (λ i. shown_docs i.docs) (interface_at r id.0) []

  path_docs : (name : Text) (path : PathTree) (label : String Global) (own : InterfaceId) (docs : Docs) (stated : List Text) → shown_docs docs ≡ stated
      → SameDocs (NamedPath name path) (extern_docs r (key.Name label) own docs) stated
  path_docs name path label own docs stated is = go docs.contents refl
    where
      go : (o : Option (String Global)) → docs.contents ≡ o
          → SameDocs (NamedPath name path) (if is_some docs.contents then shown_docs docs else docs_of_interface own) stated
      go (Some contents) e = docs_stated (ap (λ o. if is_some o then shown_docs docs else docs_of_interface own) e ∙ is)
      go None e = subst (SameDocs (NamedPath name path) (if is_some docs.contents then shown_docs docs else docs_of_interface own))
          (sym (nothing_shown docs e) ∙ is) SameDocs.of_interface

  inline_docs : (members : List MemberTree) (id own : InterfaceId) (label : String Global) (docs : Docs) → IsInline r home.0 members id → own ≡ id
      → extern_docs r (key.Name label) own docs ≡ shown_docs docs
  inline_docs members id own label docs has same = go docs.contents refl
    where
      go : (o : Option (String Global)) → docs.contents ≡ o
          → (if is_some docs.contents then shown_docs docs else docs_of_interface own) ≡ shown_docs docs
      go (Some contents) e = ap (λ o. if is_some o then shown_docs docs else docs_of_interface own) e
      go None e = ap (λ o. if is_some o then shown_docs docs else docs_of_interface own) e ∙ ap docs_of_interface same
          ∙ ap (λ o. option_map_or (λ i. shown_docs i.docs) o []) has.there ∙ nothing_shown has.interface.docs has.docs ∙ sym (nothing_shown docs e)

  -- ---- an interface by its path, under a label

  labelled_path : (name : Text) (path : PathTree) (label : String Global) (id own : InterfaceId) → text_of label ≡ name → PathIs r home.0 path id → own ≡ id
      → SameExtern here (labelled r home label own) (NamedPath name path)
  labelled_path name path label id own named means same =
      subst (λ e. SameExtern here e (NamedPath name path)) (sym shown) (SameExtern.same_named_path (path_shown r valid home p at path id means))
    where
      shown : labelled r home label own ≡ NamedPath name (shown_path r home id)
      shown = ap (labelled r home label) same
          ∙ ap (λ b. if b then NamedPath (text_of label) (shown_path r home id) else NamedInterface (text_of label)
          (option_map_or (shown_interface r id) (interface_at r id.0) []))
          (path_there r valid home.0 path id means)
          ∙ ap (λ n. NamedPath n (shown_path r home id)) named

  -- ---- an interface that stands in the world

  module _ (members : List MemberTree) (id : InterfaceId) (has : IsInline r home.0 members id) where
    -- it has no path, and so uses no type of its own
    other_interface : (path : PathTree) (name : Text) (target : TypeId) → TargetIs r home.0 path name target
        → IsUsed r home.0 (owner.Interface id) path name target
    other_interface path name target t = record { is = t; apart = go (id.0 == t.number.0) refl }
      where
        go : (b : Bool) → (id.0 == t.number.0) ≡ b → b ≡ false
        go false e = refl
        go true e =
            let there : interface_at r t.number.0 ≡ Some has.interface = ap (interface_at r) (sym (equal id.0 t.number.0 e)) ∙ has.there in
            let wrong : true ≡ false = sym (path_named r valid home.0 path t.number t.means has.interface there) ∙ ap is_some has.unnamed in absurd cc

    inline_members : HasMembers r home id has.interface members
    inline_members = record {
      there = has.there;
      placed = has.home;
      are = members_carried (record { more = []; is = sym (append_none r.types.items) }) other_interface has.has;
    }

    labelled_inline : (name : Text) (label : String Global) (own : InterfaceId) → text_of label ≡ name → own ≡ id
        → SameExtern here (labelled r home label own) (NamedInterface name members)
    labelled_inline name label own named same =
        subst (λ e. SameExtern here e (NamedInterface name members)) (sym shown)
        (SameExtern.same_inline (interface_shown r valid home p at id has.interface members inline_members))
      where
        shown : labelled r home label own ≡ NamedInterface name (shown_interface r id has.interface)
        shown = ap (labelled r home label) same
            ∙ ap (λ o. if option_map_or (λ i. is_some i.name) o false then NamedPath (text_of label) (shown_path r home id)
            else NamedInterface (text_of label) (option_map_or (shown_interface r id) o [])) has.there
            ∙ ap (λ o. if is_some o then NamedPath (text_of label) (shown_path r home id) else NamedInterface (text_of label)
            (shown_interface r id has.interface)) has.unnamed
            ∙ ap (λ n. NamedInterface n (shown_interface r id has.interface)) named

  -- What is shown of an entry is what states it.
  pub extern_same : (stated : Stated) (entry : WorldEntry) → StatedIs r home.0 stated entry → SameStated here (shown_stated r home entry) stated
  extern_same stated entry k = go stated.prefix stated.extern entry k
    where
      go : (prefix : Prefix) (extern : ExternTree) (entry : WorldEntry)
          → ExternIs r.types.items (PathIs r home.0) (IsInline r home.0) prefix extern entry
          → SameStated here (shown_stated r home entry) (record { prefix = prefix; extern = extern })
      go prefix extern entry (ExternIs.by_path {path = path} {id = id} {what = item.Interface own gates docs external_id} means front) = record {
        docs = docs_stated front.2;
        gates = front.1;
        external_id = front.3;
        extern = SameExtern.same_path (path_shown r valid home p at path id means);
      }
      go prefix extern entry (ExternIs.by_path {what = item.Function f} means front) = absurd front
      go prefix extern entry (ExternIs.by_path {what = item.Type_ t} means front) = absurd front
      go prefix extern entry
          (ExternIs.by_label {name = name} {path = path} {label = label} {id = id} {what =
          item.Interface own gates docs external_id} named means front) = record {
            docs = path_docs name path label own docs prefix.docs front.2;
            gates = front.1;
            external_id = front.3;
            extern = labelled_path name path label id own named means front.0;
          }
      go prefix extern entry (ExternIs.by_label {what = item.Function f} named means front) = absurd front
      go prefix extern entry (ExternIs.by_label {what = item.Type_ t} named means front) = absurd front
      go prefix extern entry
          (ExternIs.inline {name = name} {members = members} {label = label} {id = id} {what =
          item.Interface own gates docs external_id} named has front) = record {
            docs = docs_stated (inline_docs members id own label docs has front.0 ∙ front.2);
            gates = front.1;
            external_id = front.3;
            extern = labelled_inline members id has name label own named front.0;
          }
      go prefix extern entry (ExternIs.inline {what = item.Function f} named has front) = absurd front
      go prefix extern entry (ExternIs.inline {what = item.Type_ t} named has front) = absurd front
      go prefix extern entry (ExternIs.a_function {name = name} {signature = signature} {label = label} {f = f} named stands) = record {
        docs = docs_stated stands.front.docs;
        gates = stands.front.gates;
        external_id = stands.front.external_id;
        extern = subst (λ n. SameExtern here (NamedFunction n (shown_signature r f)) (NamedFunction name signature)) (sym stands.named)
            (SameExtern.same_function (signature_shown r valid stands.stands));
      }
