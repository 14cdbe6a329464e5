-- What a world is, by its imports, its types, its functions and its exports. Serves exports, worlds.
use Rattle.text_shown.specs.ShowsWorlds.{export_of, extern_functions, world_functions, world_types, ExportsAre, ExternIs, ImportsAre, IsFunctionEntry, Stated}
use Rattle.wit_text.proofs.Paths.{number_made}
use Rattle.base_lemmas.proofs.Lists.{within_there}
use Rattle.base_lemmas.proofs.Elements.{first-contained}
use Rattle.std.proofs.Common.{◌≡◌, ◌∙◌, refl, sym, ap, subst, ℕ, ◌<◌, List, [], ◌∷◌, ◌++◌, Option, Some, slice_get, length, map}
use Rattle.std.proofs.Common.{option_map, unwrap_or}
use Rattle.std.specs.{List.filter_map, List.flat_map}
use Rattle.wit_model.specs.Text.{Text, text_of}
use Rattle.wit_model.specs.declared.model.{Interface.Interface, PackageId.PackageId, TypeDef.TypeDef, TypeId.TypeId, TypeOwner.TypeOwner}
use Rattle.wit_model.specs.declared.model.{World.World}
use Rattle.wit_model.specs.declared.model.TypeOwner.TheVariants as owner
use Rattle.print_grammar.specs.Tree.{ExternTree.NamedFunction, Prefix, SignatureTree, WorldMember.WorldExport}
use Rattle.print_items.specs.Shown.{shown_docs, shown_gates}
use Rattle.text_names.specs.declared.sources.{InterfaceSource.InterfaceSource, Sources.Sources}
use Rattle.text_names.specs.{Contents.text_at, Tables.IsIndex}
use Rattle.text_trees.specs.declared.tree.{ExternTree.ExternTree as CodeExtern, Prefix.Prefix as CodePrefix, SignatureTree.SignatureTree as CodeSignature}
use Rattle.text_trees.specs.declared.tree.{Span.Span, WorldMember.WorldMember as CodeWorldMember}
use Rattle.text_trees.specs.declared.tree.ExternTree.TheVariants as extern
use Rattle.text_trees.specs.{Seen.cut, TreesSeen.docs_of, TreesSeen.extern_of, TreesSeen.gates_of, TreesSeen.prefix_of, TreesSeen.signature_of, TreesSeen.world_member_of}
use Rattle.text_types.specs.declared.{members.Interfaces.Interfaces, scope.Scope.Scope, texts.Text.Text as CodeText}
use Rattle.text_types.specs.{Begins.Begins, Each.EachIs, Making.AreTypesOf, Making.IsHere, Targets.TargetIn}
use Rattle.text_types.specs.Made.{FunctionIs, FunctionTree, InSomeOrder, NameMap, TypeIs}
use Rattle.text_types.specs.Scopes.{made_under, text_in, types_in, AddsTypes}
use Rattle.text_types.proofs.{EachLaws.each_weaker, Growth.begins_join}
use Rattle.wit_text.specs.{Items.WorldEntry, MadeInterfaces.AreAllMade, MadeWorlds.IsWorldMade, MadeWorlds.StatedIn}
use Rattle.wit_text.specs.Puts.{number_at}
use Rattle.wit_text.specs.Sides.{exports_in, home_in, imports_in, members_in, one_stated, sources_in, text_of_world, AreAmong, AreNumbered, Continues}
use Rattle.wit_text.specs.Sides.{GrowsInline, HasLabel, Holds, IsGiven, IsInText, Side}
use Rattle.wit_text.specs.Stages.{AddsCalls, HasItems, MakesTypes}
use Rattle.wit_text.specs.declared.given.Given.{Given}
use Rattle.wit_text.proofs.EntryLaws.{holds_label, known_alone, known_is}
use Rattle.wit_text.proofs.FrontLaws.{keyed_same}
use Rattle.text_types.proofs.MadeLaws.{order_weaker, type_carried}
use Rattle.wit_text.proofs.{ExternLaws.function_entry_stays, WorldsGrow.target_carried}
use Rattle.wit_text.proofs.SideLaws.{given_on, grows_interfaces, holds_none, holds_on, inline_none, Is}
use Rattle.wit_text.proofs.StageLaws.{agrees_entry}

-- ---- functions that are exported

-- the entry of one function
pub record OneFunction (given : Given) (a : Interfaces) (defs : List TypeDef) (one : Stated) (more : List WorldEntry) : Type 0 where
  pub entry : WorldEntry
  pub are : more ≡ entry ∷ []
  pub label : HasLabel entry
  pub is : Is given a defs one entry

function_entry : (given : Given) (a : Interfaces) {defs : List TypeDef} {types : Text
    → Option TypeId} (prefix : Prefix) (name : Text) (signature : SignatureTree)
    (entry : WorldEntry) → IsFunctionEntry defs types (FunctionTree.Free prefix name signature) entry
    → HasLabel entry × Is given a defs (record { prefix = prefix; extern = NamedFunction name signature }) entry
function_entry given a prefix name signature _ (IsFunctionEntry.under {label = label} (FunctionIs.free e k)) =
    (record { label = label; is = refl }, ExternIs.a_function (e ∙ k.named) k)

one_function : {given : Given} {a : Interfaces} {defs : List TypeDef} {types : Text → Option TypeId} (prefix : Prefix) (name : Text) (signature : SignatureTree)
    (more : List WorldEntry) → EachIs (IsFunctionEntry defs types) (FunctionTree.Free prefix name signature ∷ []) more
    → OneFunction given a defs (record { prefix = prefix; extern = NamedFunction name signature }) more
one_function {given = given} {a = a} prefix name signature _ (EachIs.one_more {y = y} k EachIs.no_more) =
    let found = function_entry given a prefix name signature y k in record { entry = y; are = refl; label = found.0; is = found.1 }

continues_function : {given : Given} {side : Side} (a : Interfaces) {defs after : List TypeDef} {types : Text → Option TypeId} {es fs : List WorldEntry}
    (prefix : Prefix) (name : Text) (signature : SignatureTree) → AreAmong (one_stated prefix (NamedFunction name signature)) side.all → Begins defs after
    → AddsCalls after types (FunctionTree.Free prefix name signature ∷ []) es fs
    → Continues given side a a defs after es fs (one_stated prefix (NamedFunction name signature))
continues_function {given = given} {side = side} a {defs = defs} {after = after} {es = es} {fs = fs} prefix name signature among more k =
    record { on = λ seen h. all seen h }
  where
    one : Stated
    one = record { prefix = prefix; extern = NamedFunction name signature }

    found : OneFunction given a after one k.more
    found = one_function prefix name signature k.more k.each

    all : (seen : List Stated) → Holds given a defs side seen es → Holds given a after side (seen ++ one ∷ []) fs
    all seen h =
        subst (λ l. Holds given a after side (seen ++ one ∷ []) l) (sym (k.is ∙ ap (λ l. es ++ l) found.are))
        (holds_label one found.entry es (among one (first-contained one [])) found.label found.is (holds_on (inline_none a) more h))

-- by the tree of the code, in the text of a scope
pub exports_function : {given : Given} (a : Interfaces) {defs after : List TypeDef} {types : Text → Option TypeId} {es fs : List WorldEntry} (own : List ℕ)
    (prefix : CodePrefix) (tree : CodeExtern) (name : Span) (signature : CodeSignature) → own ≡ text_of_world given → tree ≡ extern.NamedFunction name signature
    → AreAmong (filter_map export_of (WorldExport (prefix_of (text_of_world given) prefix) (extern_of (text_of_world given) tree) ∷ [])) (exports_in given).all
    → Begins defs after → AddsCalls after types (extern_functions (prefix_of own prefix) (extern_of own tree)) es fs
    → Continues given (exports_in given) a a defs after es fs
    (filter_map export_of (WorldExport (prefix_of (text_of_world given) prefix) (extern_of (text_of_world given) tree) ∷ []))
exports_function {given = given} a {defs = defs} {after = after} {types = types} {es = es} {fs = fs} own prefix tree name signature same is among more k =
    let text = text_of_world given in
    let here : AddsCalls after types (extern_functions (prefix_of text prefix) (extern_of text tree)) es fs =
    subst (λ t. AddsCalls after types (extern_functions (prefix_of t prefix) (extern_of t tree)) es fs) same k in
    subst (λ t. AreAmong (filter_map export_of (WorldExport (prefix_of text prefix) (extern_of text t) ∷ [])) (exports_in given).all
    → AddsCalls after types (extern_functions (prefix_of text prefix) (extern_of text t)) es fs
    → Continues given (exports_in given) a a defs after es fs (filter_map export_of (WorldExport (prefix_of text prefix) (extern_of text t) ∷ [])))
    (sym is) (λ one calls. continues_function a (prefix_of text prefix) (cut text name) (signature_of text signature) one more calls) among here

-- ---- types

pub scope_here : (given : Given) (scope : Scope) → IsInText given → scope.text ≡ given.text → IsHere (sources_in given) scope
scope_here given scope h same =
    subst (λ (t : CodeText). text_at (sources_in given).texts.now t.number ≡ t.text.now) (sym same)
    (ap (text_at (sources_in given).texts.now) h.number ∙ h.text)

pub types_made : (given : Given) (a : Interfaces) (defs : List TypeDef) (before mid : Scope) (members : List CodeWorldMember) (own : NameMap TypeId)
    → members ≡ given.world.now.members.now.items → before.text ≡ given.text → before.«package» ≡ home_in given → types_in before ≡ []
    → AddsTypes before mid (flat_map world_types (map (world_member_of (text_in before)) members)) → AreTypesOf (sources_in given) a defs mid own
    → InSomeOrder (TypeIs defs (TargetIn (sources_in given) a (home_in given)) before.owner) (flat_map world_types (members_in given)) own.entries
types_made given a defs before mid members own same text home none adds are =
    let all : types_in mid ≡ flat_map world_types (members_in given) =
    adds.types ∙ (ap (λ l. l ++ flat_map world_types (map (world_member_of (text_in before)) members)) none
    ∙ (ap (λ (t : CodeText). flat_map world_types (map (world_member_of t.text.now) members)) text
    ∙ ap (λ ms. flat_map world_types (map (world_member_of (text_of_world given)) ms)) same)) in
    subst (λ l. InSomeOrder (TypeIs defs (TargetIn (sources_in given) a (home_in given)) before.owner) l own.entries) all
    (subst (λ o. InSomeOrder (TypeIs defs (TargetIn (sources_in given) a (home_in given)) o) (types_in mid) own.entries) adds.keeps.owner
    (subst (λ p. InSomeOrder (TypeIs defs (TargetIn (sources_in given) a p) mid.owner) (types_in mid) own.entries) (adds.keeps.home ∙ home) are))

-- ---- a whole world

module _ {given : Given} {a b c : Interfaces} (g : IsGiven given a) (first : GrowsInline a b) (second : GrowsInline b c) where
  pub has_items : {d0 d1 d2 d3 d4 : List TypeDef} {before after : Scope} (whose : TypeOwner) {e0 e1 e2 e3 x0 x1 : List WorldEntry}
      → Begins d1 d2 → Begins d2 d3 → Begins d3 d4 → e0 ≡ [] → x0 ≡ [] → before.owner ≡ whose
      → Continues given (imports_in given) a b d0 d1 e0 e1 (imports_in given).all → MakesTypes given b d2 before after e1 e2
      → AddsCalls d3 (λ name. made_under after name) (flat_map world_functions (members_in given)) e2 e3
      → Continues given (exports_in given) b c d3 d4 x0 x1 (exports_in given).all → HasItems given c d4 whose e3 x1
  has_items {d2 = d2} {d4 = d4} {before = before} {after = after} whose {e1 = e1} {x1 = x1} m2 m3 m4 none empty
      owned imports types calls exports =
      let now : IsGiven given c = given_on second (given_on first g) in
      let held : Holds given c d4 (imports_in given) (imports_in given).all e1 =
      holds_on second (begins_join m2 (begins_join m3 m4)) (imports.on [] (holds_none none)) in
      let out : Holds given c d4 (exports_in given) (exports_in given).all x1 = exports.on [] (holds_none empty) in
      let made = subst (λ o. InSomeOrder (TypeIs d2 (TargetIn (sources_in given) b (home_in given)) o)
      (flat_map world_types (members_in given)) types.own.entries) owned types.are in
      record {
        are_imports = record {
          interfaces = e1;
          own = types.own;
          types = types.adds.more;
          functions = calls.more;
          are = calls.is ∙ ap (λ l. l ++ calls.more) types.adds.is;
          has_interfaces = record {
            stated = held.stated;
            only = λ entry k. known_is now (imports_in given) now.imports d4 entry (held.only entry k);
          };
          has_types = order_weaker (type_carried (begins_join m3 m4) (target_carried _ (grows_interfaces second) _)) made;
          types_are = types.adds.each;
          has_functions =
              each_weaker (λ tree entry k. agrees_entry types.own after types.agrees tree entry (function_entry_stays m4 tree entry k)) calls.each;
        };
        are_exports = record {
          stated = out.stated;
          only = λ entry k. known_alone now (exports_in given) now.exports d4 refl entry (out.only entry k);
        };
      }

pub world_made : {given : Given} {a : Interfaces} {defs : List TypeDef} (number : ℕ) (made : World) (imports exports : List WorldEntry) → IsInText given
    → text_of made.name ≡ cut (text_of_world given) given.world.now.name → made.«package» ≡ Some (record { 0 = home_in given })
    → shown_gates made.stability ≡ gates_of (text_of_world given) given.world.now.gates → shown_docs made.docs ≡ docs_of (text_of_world given) given.world.now.docs
    → made.imports.entries ≡ imports → made.exports.entries ≡ exports → HasItems given a defs (owner.World (record { 0 = number })) imports exports
    → IsWorldMade (sources_in given) a defs given.world.now number made
world_made {given = given} {a = a} {defs = defs} number made imports exports here named home gates docs in_list out_list has =
    let text : text_of_world given ≡ text_at (sources_in given).texts.now given.world.now.text = sym here.text in
    let members = given.world.now.members.now.items in
    record {
      named = subst (λ t. text_of made.name ≡ cut t given.world.now.name) text named;
      home = home;
      gates = subst (λ t. shown_gates made.stability ≡ gates_of t given.world.now.gates) text gates;
      docs = subst (λ t. shown_docs made.docs ≡ docs_of t given.world.now.docs) text docs;
      imports =
          subst (λ t. ImportsAre defs (TargetIn (sources_in given) a (home_in given)) (StatedIn (sources_in given) a defs (home_in given))
          (owner.World (record { 0 = number })) (map (world_member_of t) members) made.imports.entries) text
          (subst (λ l. ImportsAre defs (TargetIn (sources_in given) a (home_in given)) (StatedIn (sources_in given) a defs (home_in given))
          (owner.World (record { 0 = number })) (members_in given) l) (sym in_list) has.are_imports);
      exports =
          subst (λ t. ExportsAre (StatedIn (sources_in given) a defs (home_in given)) (filter_map export_of (map (world_member_of t) members))
          made.exports.entries) text
          (subst (λ l. ExportsAre (StatedIn (sources_in given) a defs (home_in given)) (exports_in given).all l) (sym out_list) has.are_exports);
    }

-- ---- numbers of the texts' interfaces

abbrev name_of : Sources → InterfaceSource → Text
name_of s it = cut (text_at s.texts.now it.text) it.name

home_same : (m n : ℕ) → ◌≡◌ {A = Option PackageId} (Some (record { 0 = m })) (Some (record { 0 = n })) → m ≡ n
home_same m n e = ap (λ (o : Option PackageId). unwrap_or (option_map (λ (p : PackageId). p.0) o) 0) e

text_same : (a b : Text) → Some a ≡ Some b → a ≡ b
text_same a b e = ap (λ (o : Option Text). unwrap_or o []) e

pair_same : {a c : ℕ} {b d : Text} → a ≡ c → b ≡ d → ◌≡◌ {A = ℕ × Text} (a, b) (c, d)
pair_same h k = cc

pub numbered : {s : Sources} {a : Interfaces} {defs : List TypeDef} → IsIndex s → AreAllMade s a defs → AreNumbered s a.numbers.items
numbered {s = s} {a = a} {defs = defs} index all = record { made = made; apart = apart }
  where
    made : (n : ℕ) → n < length s.interfaces.items → slice_get a.numbers.items n ≡ Some (Some (number_at a.numbers.items n))
    made n low =
        let there = within_there s.interfaces.items n low in
        let k = all n there.0 there.1 in
        k.is.number ∙ ap (λ m. Some (Some m)) (sym (number_made a.numbers.items n k.number k.is.number))

    apart : (m n : ℕ) → m < length s.interfaces.items → n < length s.interfaces.items → number_at a.numbers.items m ≡ number_at a.numbers.items n → m ≡ n
    apart m n low small same =
        let one = within_there s.interfaces.items m low in
        let other = within_there s.interfaces.items n small in
        let h = all m one.0 one.1 in
        let k = all n other.0 other.1 in
        let numbers : h.number ≡ k.number = sym (number_made a.numbers.items m h.number h.is.number) ∙ (same ∙ number_made a.numbers.items n k.number k.is.number)
        in
        let both : Some h.made ≡ Some k.made = sym h.is.stands ∙ (ap (slice_get a.list.items) numbers ∙ k.is.stands) in
        let made_same : h.made ≡ k.made = cc both in
        let own = h.stands in
        let others = k.stands in
        let homes : ◌≡◌ {A = Option PackageId} (Some (record { 0 = one.0.«package» })) (Some (record { 0 = other.0.«package» })) =
        sym own.home ∙ (ap (λ (i : Interface). i.«package») made_same ∙ others.home) in
        let names : Some (name_of s one.0) ≡ Some (name_of s other.0) =
        sym own.named ∙ (ap (λ (i : Interface). option_map text_of i.name) made_same ∙ others.named) in
        keyed_same s index one.0.«package» (name_of s one.0) m n (record { interface = one.0; stands = one.1; named = refl })
        (record {
          interface = other.0;
          stands = other.1;
          named = pair_same (sym (home_same one.0.«package» other.0.«package» homes)) (sym (text_same (name_of
              s one.0) (name_of s other.0) names));
        })
