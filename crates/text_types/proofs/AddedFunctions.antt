-- Functions that are put into a map, one behind the other. Serves members::add_all, members::add_declared_functions, members::add_functions.
use Rattle.std.proofs.Common.{◌≡◌, ◌∙◌, sym, ap, subst, List, [], ◌∷◌, ◌++◌, append-nil, append_assoc, map, String, Global}
use Rattle.std.proofs.Common.{Option, Some, Result, Ok, Err, OnOk}
use Rattle.wit_model.specs.Text.{Text}
use Rattle.wit_model.specs.declared.model.{TypeDef.TypeDef, TypeId.TypeId, Function.Function}
use Rattle.std.specs.Option.{option_and_then}
use Rattle.print_grammar.specs.Tree.{Prefix, SignatureTree}
use Rattle.text_trees.specs.declared.tree.ResourceMember.{ResourceMember as CodeMember}
use Rattle.text_trees.specs.TreesSeen.{resource_member_of}
use Rattle.text_types.specs.declared.{functions.Callable.Callable, scope.Scope.Scope}
use Rattle.text_types.specs.{Each.EachIs, Functions.FreeStands, Plain.plain_signature, Scopes.made_under, Scopes.text_in, Seen.EachMember, Seen.SeenMember}
use Rattle.text_types.specs.Made.{FunctionIs, FunctionTree, NameMap}
use Rattle.text_types.specs.Making.{AddsAll, AddsFunctions, IsEntryOf}
use Rattle.text_types.proofs.EachLaws.{each_append}

pub all_none : (a : NameMap Function) → AddsAll [] a a
all_none a = record { more = []; is = sym (append-nil a.entries); each = EachIs.no_more }

pub all_join : {a b c : NameMap Function} {xs ys : List Callable} → AddsAll xs a b → AddsAll ys b c → AddsAll (xs ++ ys) a c
all_join {a = a} h k = record {
  more = h.more ++ k.more;
  is = k.is ∙ ap (λ l. l ++ k.more) h.is ∙ append_assoc a.entries h.more k.more;
  each = each_append h.each k.each;
}

-- ---- functions of trees

module _ (defs : List TypeDef) (types : Text → Option TypeId) where
  pub adds_nothing : (trees : List FunctionTree) (a : NameMap Function) → trees ≡ [] → AddsFunctions defs types trees a a
  adds_nothing trees a e = record {
    more = [];
    is = sym (append-nil a.entries);
    each = subst (λ l. EachIs (FunctionIs defs types) l []) (sym e) EachIs.no_more;
  }

  -- one that belongs to no resource
  each_free : (prefix : Prefix) (name : Text) (signature : SignatureTree) (callable : Callable) (more : List (String Global × Function))
      → FreeStands defs prefix name (plain_signature signature) callable.function → EachIs IsEntryOf (callable ∷ []) more
      → EachIs (FunctionIs defs types) (FunctionTree.Free prefix name signature ∷ []) more
  each_free prefix name signature callable more stands (EachIs.one_more {y = entry} k EachIs.no_more) =
      EachIs.one_more
      (subst (λ f. FunctionIs defs types (FunctionTree.Free prefix name signature) (entry.0, f)) (sym k.is) (FunctionIs.free k.named stands))
      EachIs.no_more

  pub adds_free : {E : Type 0} (prefix : Prefix) (name : Text) (signature : SignatureTree) (callable : Callable)
      (old new : NameMap Function) (r : Result (Unit {0}) E) → FreeStands defs prefix name (plain_signature signature) callable.function → OnOk r (AddsAll (callable ∷ []) old new)
      → OnOk r (AddsFunctions defs types (FunctionTree.Free prefix name signature ∷ []) old new)
  adds_free prefix name signature callable old new (Ok x) stands h = record {
    more = h.more;
    is = h.is;
    each = each_free prefix name signature callable h.more stands h.each;
  }
  adds_free prefix name signature callable old new (Err x) stands h = tt

  -- those of a resource
  each_of_resource : (text resource : Text) (id : TypeId) {members : List CodeMember} {callables : List Callable} {more : List (String Global × Function)}
      → types resource ≡ Some id → EachIs (SeenMember defs text resource id) members callables → EachIs IsEntryOf callables more
      → EachIs (FunctionIs defs types) (map (FunctionTree.OfResource resource) (map (resource_member_of text) members)) more
  each_of_resource text resource id found EachIs.no_more EachIs.no_more = EachIs.no_more
  each_of_resource text resource id found (EachIs.one_more {x = member} stands others) (EachIs.one_more {y = entry} k ks) =
      EachIs.one_more (subst (λ f. FunctionIs defs types (FunctionTree.OfResource resource (resource_member_of text member)) (entry.0, f)) (sym k.is)
      (FunctionIs.of_resource k.named found stands)) (each_of_resource text resource id found others ks)

pub adds_of_resource : {E : Type 0} (defs : List TypeDef) (scope : Scope) (resource : Text) (members read : List CodeMember) (callables : List Callable)
    (old new : NameMap Function) (r : Result (Unit {0}) E) → read ≡ members → EachMember scope defs resource read callables → OnOk r (AddsAll callables old new)
    → OnOk r (AddsFunctions defs (λ name. made_under scope name)
    (map (FunctionTree.OfResource resource) (map (resource_member_of (text_in scope)) members)) old new)
adds_of_resource defs scope resource members read callables old new (Ok x) e k h = record {
  more = h.more;
  is = h.is;
  each = each_of_resource defs (λ name. made_under scope name) (text_in scope) resource k.id (ap (option_and_then (λ made. made)) k.made)
      (subst (λ l. EachIs (SeenMember defs (text_in scope) resource k.id) l callables) e k.each) h.each;
}
adds_of_resource defs scope resource members read callables old new (Err x) e k h = tt
