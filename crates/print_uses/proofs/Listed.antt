-- One type of an owner's list after the other is printed.
use Rattle.std.proofs.Common.{rules as std_rules, ◌≡◌, refl, sym, ap, subst, ◌∙◌, ℕ, Bool, true, false, ◌&&◌, ◌||◌, List, [], ◌∷◌, ◌++◌, map, filter_map, Option, Some, None, option_and_then, ◌+◌, ◌<◌, length, drop, get_or}
use Rattle.std.proofs.lemmas.{Bool.lt-ltb, Bool.and_from as both, Option.slice_get_within, List.drop_more}
use Rattle.std.specs.{Prelude.is_some, Prelude.option_map, Option.option_map_or, List.list_all, List.cons_option, Borrow.Bor}
use Rattle.wit_model.specs.declared.model.{Resolve.Resolve, TypeDef.TypeDef, TypeId.TypeId}
use Rattle.wit_model.specs.declared.model.{InterfaceId.InterfaceId, PackageId.PackageId, Function.Function, TypeOwner.TypeOwner}
use Rattle.wit_model.specs.{Names.is_label, Parts.same_owner, Text.Text, Text.text_of}
use Rattle.wit_model.specs.{Lookup.type_at, Rules.has_items, Rules.in_list, Rules.is_stability, Rules.passes, Valid.IsValid, Valid.labels}
use Rattle.print_output.specs.OutputCall.{OutputCall, OutputView, Moves, Begins}
use Rattle.print_grammar.specs.{Tree.MemberTree, Tree.PathTree, Tree.MemberTree.TypeMember, Calls.members_calls, Calls.printed_after}
use Rattle.print_grammar.specs.WellNamed.{are_well_some, is_well_declared, is_well_gates, is_well_prefix, is_well_used}
use Rattle.print_items.specs.Shown.{DeclaredWith, Listed, Used, declared_with, shown_declarations, shown_declared, shown_gates, shown_path, shown_prefix, used_of}
use Rattle.print_uses.specs.Printable.{declaration_of, is_printable_type}
use Rattle.print_uses.specs.UseGroups.{declared_members, is_listed_type, is_printable_use, listed_declaration, listed_use, listed_use_calls, shown_use, use_after, use_members, uses_calls, listed_of}
use Rattle.print_uses.specs.declared.use_group.Use.{Use}
use Rattle.print_uses.proofs.Declarations.{declaration_at}
use Rattle.print_uses.proofs.Valid.{is_named_interface, declared_well, is_known_function, is_known_use, path_well, use_known}
use Rattle.print_uses.proofs.UseGroups.{listed_plain, next_some, next_use, uses_grouped, uses_printed}
use Rattle.print_items.proofs.{ShownWell.shown_prefix_well, TypesWell.name_well, TypesWell.type_rule, Moves.Going, Moves.made_on, Moves.refused_in}
use Rattle.base_lemmas.proofs.{Bools.left_of, Bools.right_of, Lists.within_there as one_there}
use Rattle.wit_model.specs.declared.model.TypeOwner.TheVariants as owner

-- ---- The types that stand in an owner's list, as uses and as declarations.

module _ (r : Resolve) where
  -- ---- a use that can be printed

  named_there : (n : ℕ) → is_named_interface r n ≡ true → in_list r.interfaces.items n ≡ true
  named_there n h = search (std_rules, lt-ltb, slice_get_within)

  -- what is known of a type of an owner's list
  module _ (o : TypeOwner) (name : Text) (id : TypeId) (def : TypeDef) (at : type_at r id.0 ≡ Some def) (known : is_listed_type r o (record { name = name; id = id }) ≡ true) where
    its : (is_some def.name && same_owner def.owner o) ≡ true
    its = subst (λ d. passes (λ x. is_some x.name && same_owner x.owner o) d ≡ true) at (right_of (is_label name) _ (right_of (in_list r.types.items id.0) _ known))

    module _ (valid : IsValid r) where
      gated : is_stability def.stability ≡ true
      unfolding labels
      gated = left_of _ _ (right_of (passes (λ s. is_label (text_of s)) def.name) _ (type_rule r valid labels valid.rules.labels id.0 def at))

      pub use_printable : (here : PackageId) → same_owner o owner.None ≡ false → (u : Use) → u.def.now ≡ def → u.own.now ≡ name → used_of r o name def ≡ Some (shown_use u)
          → is_printable_use r here u ≡ true
      use_printable here placed u same own e =
          let label : is_label name ≡ true = left_of _ _ (right_of (in_list r.types.items id.0) _ known) in
          let use_is : is_known_use r (shown_use u) ≡ true = subst (λ x. passes (is_known_use r) x ≡ true) e (use_known r valid o placed name id.0 def at (right_of (is_some def.name) _ its) label) in
          let named : is_named_interface r u.interface.0 ≡ true = left_of _ _ use_is in
          let rest : (is_well_prefix (shown_use u).prefix && are_well_some is_well_used (shown_use u).names) ≡ true = right_of (is_named_interface r u.interface.0) _ use_is in
          let gates : is_well_gates (shown_gates u.def.now.stability) ≡ true = left_of _ _ (left_of _ _ rest) in
          let other : is_label u.other.now ≡ true = left_of _ _ (left_of _ _ (right_of (is_well_prefix (shown_use u).prefix) _ rest)) in
          both _ _ (both (is_stability u.def.now.stability) _ (subst (λ d. is_stability d.stability ≡ true) (sym same) gated) gates)
          (both _ _ (both (in_list r.interfaces.items u.interface.0) _ (named_there u.interface.0 named) (path_well r valid here u.interface named))
          (both (is_label u.own.now) _ (subst (λ t. is_label t ≡ true) (sym own) label) other))

      -- a declaration that can be printed
      pub declaration_printable : (fs : List Function) → list_all (is_known_function r o) fs ≡ true → is_printable_type r fs id ≡ true
      declaration_printable fs functions = both (in_list r.types.items id.0) _ (left_of _ _ known)
          (subst (λ d. option_map_or (λ x. is_well_prefix (shown_prefix x.docs x.stability x.external_id) && is_well_declared (shown_declared r fs id x)) d false ≡ true) (sym at)
          (both (is_well_prefix (shown_prefix def.docs def.stability def.external_id)) _ (shown_prefix_well def.docs def.stability def.external_id gated)
          (declared_well r valid o fs id def at (name_well r valid id.0 def at (left_of _ _ its)) functions)))

    -- what a listed type is, by whether it is a use
    pub listed_use_at : listed_use r o (record { name = name; id = id }) ≡ used_of r o name def
    listed_use_at = ap (λ d. option_and_then (used_of r o name) d) at

    -- by whether it is a use
    pub nothing_declared : (fs : List Function) (u : Option Use) → option_map shown_use u ≡ used_of r o name def → is_some u ≡ true → listed_declaration r o fs (record { name = name; id = id }) ≡ []
    nothing_declared fs None e h = absurd cc
    nothing_declared fs (Some u) e h = rw (at, sym e) refl

    pub something_declared : (fs : List Function) (u : Option Use) → option_map shown_use u ≡ used_of r o name def → is_some u ≡ false
        → listed_declaration r o fs (record { name = name; id = id }) ≡ declaration_of r fs id
    something_declared fs None e h = rw (at, sym e) refl
    something_declared fs (Some u) e h = absurd cc

    -- a declaration is something printed
    pub declaration_printed : (printed : Bool) (fs : List Function) → printed_after printed (declaration_of r fs id) ≡ true
    declaration_printed printed fs = ap (printed_after printed) (declaration_at r fs id def at)

  -- ---- the next type

  module _ (o : TypeOwner) where
    module _ (path : InterfaceId → PathTree) where
      -- the uses that are left, behind the use before them
      abbrev pub uses_left : Option Used → List Listed → List OutputCall
      uses_left before types = uses_calls path before (filter_map (listed_use r o) types)

      pub next_listed_use : (before : Option Used) (t : Listed) (ts : List Listed)
          → uses_left before (t ∷ ts) ≡ listed_use_calls path before (listed_use r o t) ++ uses_left (use_after before (listed_use r o t)) ts
      next_listed_use before t ts = next_use path before (listed_use r o t) (filter_map (listed_use r o) ts)

    pub next_listed_some : (before : Option Used) (t : Listed) (ts : List Listed)
        → (is_some before || has_items (filter_map (listed_use r o) (t ∷ ts))) ≡ (is_some (use_after before (listed_use r o t)) || has_items (filter_map (listed_use r o) ts))
    next_listed_some before t ts = next_some before (listed_use r o t) (filter_map (listed_use r o) ts)

    -- all uses are the groups
    pub all_uses : (emits printed : Bool) (here : PackageId) (types : List Listed) → uses_left (shown_path r here) None types ≡ members_calls emits printed (use_members r here o types)
    all_uses emits printed here types = uses_grouped emits (shown_path r here) printed (filter_map (listed_use r o) types) (listed_plain r o types)

    pub all_printed : (printed : Bool) (here : PackageId) (types : List Listed) → printed_after printed (use_members r here o types) ≡ (printed || has_items (filter_map (listed_use r o) types))
    all_printed printed here types = uses_printed true (shown_path r here) printed (filter_map (listed_use r o) types) (listed_plain r o types)

    -- the declarations of the next type and the others
    pub next_declarations : (fs : List Function) (t : Listed) (ts : List Listed) → declared_members r o fs (t ∷ ts) ≡ listed_declaration r o fs t ++ declared_members r o fs ts
    next_declarations fs t ts = go (option_and_then (declared_with r o fs t) (type_at r t.id.0))
      where
        go : (d : Option DeclaredWith)
            → map (λ x. TypeMember x.prefix x.declared) (cons_option d (shown_declarations r o fs ts)) ≡ option_map_or
            (λ (x : DeclaredWith). let ms : List MemberTree = TypeMember x.prefix x.declared ∷ [] in ms) d [] ++ declared_members r o fs ts
        go None = refl
        go (Some d) = refl

pub some_mapped : (u : Option Use) → is_some (option_map shown_use u) ≡ is_some u
some_mapped x = search std_rules

-- ---- one type of an owner's list after the other is printed

-- a type under its name
abbrev entry : Bor Text × TypeId → Listed
entry t = record { name = t.0.now; id = t.1 }

module _ (ts : List (Bor Text × TypeId)) (i : ℕ) (d : Bor Text × TypeId) (within : i < length ts) where
  at_place : listed_of (drop i ts) ≡ entry (get_or ts i d) ∷ listed_of (drop (i + 1) ts)
  at_place = ap listed_of (drop_more ts i d within)

  module _ (r : Resolve) (o : TypeOwner) where
    pub known_here : list_all (is_listed_type r o) (listed_of (drop i ts)) ≡ true → is_listed_type r o (entry (get_or ts i d)) ≡ true
    known_here h = left_of _ _ (subst (λ ls. list_all (is_listed_type r o) ls ≡ true) at_place h)

    -- ---- uses

    module _ (path : InterfaceId → PathTree) (before : Option Used) where
      uses_next : uses_calls path before (filter_map (listed_use r o) (listed_of (drop i ts))) ≡ listed_use_calls path before (listed_use r o (entry (get_or ts i d)))
          ++ uses_calls path (use_after before (listed_use r o (entry (get_or ts i d)))) (filter_map (listed_use r o) (listed_of (drop (i + 1) ts)))
      uses_next = ap (λ ls. uses_calls path before (filter_map (listed_use r o) ls)) at_place ∙ next_listed_use r o path before (entry (get_or ts i d)) (listed_of (drop (i + 1) ts))

      pub use_made : {Kept : Type 0} {keeps : OutputView Kept → OutputCall → Kept} {all : List OutputCall} {old now new : OutputView Kept} (after : Option Used)
          → Going keeps (uses_calls path before (filter_map (listed_use r o) (listed_of (drop i ts)))) all old now → after ≡ use_after before (listed_use r o (entry (get_or ts i d)))
          → Moves keeps now (listed_use_calls path before (listed_use r o (entry (get_or ts i d)))) new
          → Going keeps (uses_calls path after (filter_map (listed_use r o) (listed_of (drop (i + 1) ts)))) all old new
      use_made after g e m = made_on (listed_use_calls path before (listed_use r o (entry (get_or ts i d)))) (uses_calls path after (filter_map (listed_use r o) (listed_of (drop (i + 1) ts)))) g
          (uses_next ∙ ap (λ b. listed_use_calls path before (listed_use r o (entry (get_or ts i d))) ++ uses_calls path b (filter_map (listed_use r o) (listed_of (drop (i + 1) ts)))) (sym e)) m

      pub use_refused : {Kept : Type 0} {keeps : OutputView Kept → OutputCall → Kept} {all : List OutputCall} {old now new : OutputView Kept}
          → Going keeps (uses_calls path before (filter_map (listed_use r o) (listed_of (drop i ts)))) all old now
          → Begins keeps now (listed_use_calls path before (listed_use r o (entry (get_or ts i d)))) new → Begins keeps old all new
      use_refused g b = refused_in (listed_use_calls path before (listed_use r o (entry (get_or ts i d))))
          (uses_calls path (use_after before (listed_use r o (entry (get_or ts i d)))) (filter_map (listed_use r o) (listed_of (drop (i + 1) ts)))) g uses_next b

    pub uses_some : (before after : Option Used) (all : Bool) → (is_some before || has_items (filter_map (listed_use r o) (listed_of (drop i ts)))) ≡ all
        → after ≡ use_after before (listed_use r o (entry (get_or ts i d))) → (is_some after || has_items (filter_map (listed_use r o) (listed_of (drop (i + 1) ts)))) ≡ all
    uses_some before after all h e = ap (λ b. is_some b || has_items (filter_map (listed_use r o) (listed_of (drop (i + 1) ts)))) e
        ∙ sym (next_listed_some r o before (entry (get_or ts i d)) (listed_of (drop (i + 1) ts))) ∙ ap (λ ls. is_some before || has_items (filter_map (listed_use r o) ls)) (sym at_place) ∙ h

pub known_after : (ts : List (Bor Text × TypeId)) (i : ℕ) → i < length ts → (r : Resolve) (o : TypeOwner) → list_all (is_listed_type r o) (listed_of (drop i ts)) ≡ true
    → list_all (is_listed_type r o) (listed_of (drop (i + 1) ts)) ≡ true
known_after ts i within r o h =
    let there = one_there ts i within in
    right_of (is_listed_type r o (entry (get_or ts i there.0))) _ (subst (λ ls. list_all (is_listed_type r o) ls ≡ true) (at_place ts i there.0 within) h)
