-- Types that are added to a scope, one behind the other. Serves scope::add_use, members::add_types, members::members_of.
use Rattle.std.proofs.Common.{◌≡◌, ◌∙◌, sym, ap, subst, ℕ, ◌+◌, ◌<◌, List, [], ◌∷◌, ◌++◌, length, take, get_or, map, append_assoc}
use Rattle.std.proofs.lemmas.{List.take_more, List.Folds.flat_map-map}
use Rattle.std.specs.List.{flat_map}
use Rattle.base_lemmas.proofs.Lists.{append_of_map}
use Rattle.print_items.proofs.Runs.{flat_map-take_next}
use Rattle.print_grammar.specs.Tree.{UsedName, MemberTree, MemberTree.UseMember}
use Rattle.text_trees.specs.declared.tree.{MemberTree.MemberTree as CodeMember, UsedName.UsedName as CodeUsed}
use Rattle.text_trees.specs.declared.tree.{PathTree.PathTree as CodePath, Prefix.Prefix as CodePrefix}
use Rattle.text_trees.specs.TreesSeen.{member_of, path_of, prefix_of, used_name_of}
use Rattle.text_types.specs.declared.{scope.Scope.Scope, texts.Text.Text}
use Rattle.text_types.specs.Made.{types_of}
use Rattle.text_types.specs.Scopes.{text_in, types_in, AddsTypes}
use Rattle.text_types.proofs.ScopeLaws.{keeps_join}

pub adds_join : {a b c : Scope} {xs ys : List MemberTree} → AddsTypes a b xs → AddsTypes b c ys → AddsTypes a c (xs ++ ys)
adds_join {a = a} {xs = xs} {ys = ys} h k = record {
  keeps = keeps_join h.keeps k.keeps;
  types = k.types ∙ ap (λ l. l ++ ys) h.types ∙ append_assoc (types_in a) xs ys;
}

-- a use, one name more
pub use_more : {a b c : Scope} (prefix : CodePrefix) (path : CodePath) (names : List CodeUsed) (i : ℕ) (d : CodeUsed)
    → AddsTypes a b (types_of (UseMember (prefix_of (text_in a) prefix) (path_of (text_in a) path) (map (used_name_of (text_in a)) (take i names))))
    → AddsTypes b c (UseMember (prefix_of (text_in b) prefix) (path_of (text_in b) path) (used_name_of (text_in b) (get_or names i d) ∷ []) ∷ [])
    → i < length names
    → AddsTypes a c (types_of (UseMember (prefix_of (text_in a) prefix) (path_of (text_in a) path) (map (used_name_of (text_in a)) (take (i + 1) names))))
use_more {a = a} {b = b} {c = c} prefix path names i d h k within =
    let text = text_in a in
    let seen = used_name_of text in
    let alone : UsedName → MemberTree = λ used. UseMember (prefix_of text prefix) (path_of text path) (used ∷ []) in
    let front = take i names in
    let next = get_or names i d in
    let same : text_in b ≡ text = ap (λ (t : Text). t.text.now) h.keeps.text in
    let added : AddsTypes b c (alone (seen next) ∷ []) =
    subst (λ t. AddsTypes b c (UseMember (prefix_of t prefix) (path_of t path) (used_name_of t next ∷ []) ∷ [])) same k in
    let more : map alone (map seen (take (i + 1) names)) ≡ map alone (map seen front) ++ alone (seen next) ∷ [] =
    ap (λ l. map alone (map seen l)) (take_more names i d within)
    ∙ (ap (map alone) (append_of_map seen front (next ∷ [])) ∙ append_of_map alone (map seen front) (seen next ∷ [])) in
    subst (AddsTypes a c) (sym more) (adds_join h added)

-- what is made of members, one member more
pub flat_more : {X Y Z : Type 0} (f : Y → List Z) (g : X → Y) (xs : List X) (i : ℕ) (x : X) → i < length xs → x ≡ get_or xs i x
    → flat_map f (map g (take (i + 1) xs)) ≡ flat_map f (map g (take i xs)) ++ f (g x)
flat_more f g xs i x within is =
    flat_map-map f g (take (i + 1) xs)
    ∙ (flat_map-take_next (λ x. f (g x)) xs i x within is ∙ ap (λ l. l ++ f (g x)) (sym (flat_map-map f g (take i xs))))

pub members_more : {a b c : Scope} (members : List CodeMember) (i : ℕ) (m : CodeMember)
    → AddsTypes a b (flat_map types_of (map (member_of (text_in a)) (take i members))) → AddsTypes b c (types_of (member_of (text_in b) m))
    → i < length members → m ≡ get_or members i m → AddsTypes a c (flat_map types_of (map (member_of (text_in a)) (take (i + 1) members)))
members_more {a = a} {b = b} {c = c} members i m h k within is =
    let same : text_in b ≡ text_in a = ap (λ (t : Text). t.text.now) h.keeps.text in
    subst (AddsTypes a c) (sym (flat_more types_of (member_of (text_in a)) members i m within is))
    (adds_join h (subst (λ t. AddsTypes b c (types_of (member_of t m))) same k))
