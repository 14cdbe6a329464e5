-- Functions by the resources that they belong to.
use Rattle.std.proofs.Common.{rules as std_rules, ◌≡◌, refl, sym, ap, ◌∙◌, Bool, true, cond, List, [], ◌∷◌, ◌++◌, Option, Some, None, filter, map, option_and_then, if◌then◌else◌}
use Rattle.std.specs.{Prelude.is_some, List.list_all, Option.option_map_or}
use Rattle.wit_model.specs.declared.model.{Resolve.Resolve, Function.Function, TypeDef.TypeDef, TypeId.TypeId, TypeOwner.TypeOwner}
use Rattle.wit_model.specs.Lookup.{type_at}
use Rattle.print_grammar.specs.{Tree.MemberTree, Tree.MemberTree.TypeMember}
use Rattle.print_items.specs.Shown.{DeclaredWith, Listed, belongs_to, declared_of, present_name, shown_prefix, shown_resource_member, used_of}
use Rattle.print_packages.specs.GivenTypes.{Functions, functions_under, given_declarations}
use Rattle.print_uses.specs.UseGroups.{declared_members, listed_declaration}
use Rattle.print_uses.proofs.Listed.{next_declarations}
use Rattle.base_lemmas.proofs.Bools.{left_of, right_of}

module _ {X : Type 0} (test : X → Bool) where
  twice_by : (b : Bool) (x : X) (xs : List X) → test x ≡ b → filter test xs ≡ xs → filter test (cond b (x ∷ xs) xs) ≡ cond b (x ∷ xs) xs
  twice_by y x xs e h = search std_rules

  filter_twice : (xs : List X) → filter test (filter test xs) ≡ filter test xs
  filter_twice [] = refl
  filter_twice (x ∷ xs) = twice_by (test x) x (filter test xs) refl (filter_twice xs)

  some_by : (holds : X → Bool) (b : Bool) (x : X) (xs : List X) → holds x ≡ true → list_all holds xs ≡ true → list_all holds (cond b (x ∷ xs) xs) ≡ true
  some_by holds y x xs one others = search std_rules

  -- what holds of all holds of some
  pub all_of_some : (holds : X → Bool) (xs : List X) → list_all holds xs ≡ true → list_all holds (filter test xs) ≡ true
  all_of_some holds [] h = refl
  all_of_some holds (x ∷ xs) h = some_by holds (test x) x (filter test xs) (left_of _ _ h) (all_of_some holds xs (right_of (holds x) _ h))

module _ (r : Resolve) (o : TypeOwner) where
  -- a listed type that is no use, with the functions of its own if it is a resource
  abbrev declared_own : List Function → Listed → TypeDef → Option DeclaredWith
  declared_own own t def =
      if is_some (used_of r o t.name def)
      then None
      else Some (record { prefix = shown_prefix def.docs def.stability def.external_id; declared = declared_of r (present_name def.name) (map (shown_resource_member r) own) def.kind })

  abbrev own_members : List Function → Listed → List MemberTree
  own_members own t = option_map_or (λ (d : DeclaredWith). TypeMember d.prefix d.declared ∷ []) (option_and_then (declared_own own t) (type_at r t.id.0)) []

  -- the functions of other resources make no difference
  own_alone : (fs : List Function) (t : Listed) → listed_declaration r o (filter (belongs_to t.id) fs) t ≡ listed_declaration r o fs t
  own_alone fs t = ap (λ own. own_members own t) (filter_twice (belongs_to t.id) fs)

  -- types with the functions by their resources are types with all functions
  pub declared_by_resource : (entries : Functions) (fs : List Function) → ((id : TypeId) → functions_under entries id ≡ filter (belongs_to id) fs) → (types : List Listed)
      → given_declarations r o entries types ≡ declared_members r o fs types
  declared_by_resource entries fs same [] = refl
  declared_by_resource entries fs same (t ∷ ts) = ap (λ ms. ms ++ given_declarations r o entries ts) (ap (λ gs. listed_declaration r o gs t) (same t.id) ∙ own_alone fs t)
      ∙ ap (λ ms. listed_declaration r o fs t ++ ms) (declared_by_resource entries fs same ts) ∙ sym (next_declarations r o fs t ts)
