-- What is carried means what it meant.
use Rattle.std.proofs.Common.{arith, rules as std_rules, ◌≡◌, refl, sym, ap, ◌∙◌, ℕ, true, false, List, [], ◌∷◌, map, Option, Some, None, option_map, option_to_list, is_some, unwrap_or}
use Rattle.std.proofs.lemmas.{Bool.lt-ltb, Option.slice_get_within, Simd.map-map}
use Rattle.std.specs.{Prelude.String, List.list_all, Option.option_map_or, FinMap.from_entries}
use Rattle.std.specs.declared.alloc.Global.{Global}
use Rattle.wit_model.specs.declared.model.{Resolve.Resolve, TypeId.TypeId, Param.Param, Function.Function, Interface.Interface, WorldKey.WorldKey, WorldItem.WorldItem, FunctionKind.FunctionKind, «Type».«Type» as ValueType}
use Rattle.wit_model.specs.{Text.Text, Text.text_of, Tree.Tree, Meaning.TypeMeaning, Meaning.FunctionMeaning, Lookup.interface_at, Lookup.interface_path, Lookup.key_text, Lookup.is_async, Types.number_of, Types.type_tree, Valid.Keeps, Valid.KeepsRules, Valid.IsValid, Checks.references}
use Rattle.wit_model.specs.Meant.{signature_of, function_meaning, type_meaning, type_meaning_at, no_type, interface_meaning, interface_meaning_at, interface_item, entry_meaning, entries_meaning, world_meaning_at}
use Rattle.wit_model.proofs.{Elements.none-in, OnePath.named-path}
use Rattle.bind_union.specs.{Views.renamed_type, Meanings.OwnMeansTheSame, Meanings.CopiesMeanTheSame, Meanings.MergedMeans}
use Rattle.bind_union.specs.Carried.{Renumbering, call_under, IsFunctionCopy, IsInterfaceCopy, KeyBecomes, ItemBecomes, IsCarried}
use Rattle.bind_union.specs.Joined.{Joined, none, met, added, IsJoined}
use Rattle.bind_union.proofs.{Carrying.references_of, Carrying.refers_below, Carrying.carried_types, Carrying.type_tree_same, Carrying.path_same, CopyRules.given_values, Images.same_declarations, Itself.itself, Itself.carried_itself, Kept.own_joined, Kept.below}
use Rattle.base_lemmas.proofs.{Bools.left_of as first_true, Bools.right_of as second_true, Elements.zip_map, Numbers.unequal}

async_under : (f : Renumbering) (k : FunctionKind) → is_async (call_under f k) ≡ is_async k
async_under f x = search std_rules

module _ (r s : Resolve) (f : Renumbering) (valid : KeepsRules r) (is : IsCarried r s f) (below_s : Keeps references s) where
  -- ---- types

  type_means : (n : ℕ) → f.copies_type n ≡ true → type_meaning_at s (f.types n) ≡ type_meaning_at r n
  type_means n copy =
      let t = is.types n (is.copied_types n copy) in
      let k = t.copied copy in
      let same = same_declarations r s f.types f.carries_type (refers_below r (references_of r valid)) (refers_below s below_s) (carried_types r s f valid is below_s) t.def t.image k.kind in
      ap (λ o. option_map_or (type_meaning s) o no_type) t.at_image ∙ ((λ i. record { declaration = same i; external_id = k.external_id i })
      ∙ sym (ap (λ o. option_map_or (type_meaning r) o no_type) t.found))

  -- ---- functions

  module _ (g h : Function) (c : IsFunctionCopy f g h) where
    params_mean : (ps : List Param) → list_all (λ t. list_all f.carries_type (option_to_list (number_of t))) (map (λ p. p.ty) ps) ≡ true
        → map {B = Text × Tree} (λ p. (text_of p.name, type_tree s (renamed_type f.types p.ty))) ps ≡ map (λ p. (text_of p.name, type_tree r p.ty)) ps
    params_mean [] h = refl
    params_mean (p ∷ ps) h = search (std_rules, type_tree_same, first_true, second_true, params_mean ps (second_true (list_all f.carries_type (option_to_list (number_of p.ty))) _ h))

    result_means : (o : Option ValueType) → list_all (λ t. list_all f.carries_type (option_to_list (number_of t))) (option_to_list o) ≡ true
        → option_map (type_tree s) (option_map (renamed_type f.types) o) ≡ option_map (type_tree r) o
    result_means x h = search (std_rules, type_tree_same, first_true)

    params_are : map {B = Text × Tree} (λ p. (text_of p.name, type_tree s p.ty)) h.params.items ≡ map (λ p. (text_of p.name, type_tree r p.ty)) g.params.items
    params_are = simp map-map at (ap (map {B = Text × Tree} (λ (x : Text × ValueType). (x.0, type_tree s x.1))) c.params) ∙ params_mean g.params.items (given_values r s f valid is below_s g h c).0

    result_is : option_map (type_tree s) h.result ≡ option_map (type_tree r) g.result
    result_is = ap (option_map (type_tree s)) c.result ∙ result_means g.result (given_values r s f valid is below_s g h c).1

    pub signature_means : signature_of s h ≡ signature_of r g
    signature_means = λ i. record { is_async = (ap is_async c.kind ∙ async_under f g.kind) i; params = params_are i; result = result_is i }

    pub function_means : function_meaning s h ≡ function_meaning r g
    function_means = λ i. record { signature = signature_means i; external_id = c.external_id i }

  -- ---- interfaces

  types_mean : (es : List (String Global × TypeId)) → list_all (λ (id : TypeId). f.copies_type id.0) (map (λ e. e.1) es) ≡ true
      → map {B = Text × TypeMeaning} (λ e. (text_of e.0, type_meaning_at s (f.types e.1.0))) es ≡ map (λ e. (text_of e.0, type_meaning_at r e.1.0)) es
  types_mean [] h = refl
  types_mean (e ∷ es) h = λ i. (text_of e.0, type_means e.1.0 (first_true _ _ h) i) ∷ types_mean es (second_true (f.copies_type e.1.0) _ h) i

  interface_means : (old image : Interface) → IsInterfaceCopy f old image → interface_meaning s image ≡ interface_meaning r old
  interface_means old image c = λ i. record { types = types_are i; functions = from_entries (functions_are i) }
    where
      types_are : map {B = Text × TypeMeaning} (λ e. (text_of e.0, type_meaning_at s e.1.0)) image.types.entries ≡ map (λ e. (text_of e.0, type_meaning_at r e.1.0)) old.types.entries
      types_are = simp map-map at (ap (map {B = Text × TypeMeaning} (λ (x : Text × ℕ). (x.0, type_meaning_at s x.1))) c.types) ∙ types_mean old.types.entries c.copies

      functions_are : map {B = Text × FunctionMeaning} (λ e. (text_of e.0, function_meaning s e.1)) image.functions.entries ≡ map (λ e. (text_of e.0, function_meaning r e.1)) old.functions.entries
      functions_are = search (std_rules, zip_map, function_means)

  pub interface_means_at : (n : ℕ) → f.copies_interface n ≡ true → interface_meaning_at s (f.interfaces n) ≡ interface_meaning_at r n
  interface_means_at n copy = search (std_rules, interface_means)

  -- ---- worlds, where inline interfaces are copied

  module _ (inline_copied : (m : ℕ) (i : Interface) → f.carries_interface m ≡ true → interface_at r m ≡ Some i → i.name ≡ None → f.copies_interface m ≡ true)
      (pathless : (m : ℕ) (i : Interface) → interface_at r m ≡ Some i → is_some i.name ≡ true → interface_path r m ≡ None → ⊥) where
    interface_item_means : (m : ℕ) → f.carries_interface m ≡ true → interface_item s (f.interfaces m) ≡ interface_item r m
    interface_item_means m c = grind (arith, path_same, interface_means_at)

    pub key_means : (k l : WorldKey) → KeyBecomes f k l → key_text s l ≡ key_text r k
    key_means x y z = search (std_rules, unwrap_or, path_same)

    pub item_means : (i j : WorldItem) → ItemBecomes f i j → entry_meaning s j ≡ entry_meaning r i
    item_means x y z = search (std_rules, interface_item_means, signature_means, type_means)

    pub entries_mean : (xs ys : List (WorldKey × WorldItem)) → Joined f [] xs ys → entries_meaning s ys ≡ entries_meaning r xs
    entries_mean _ _ none = refl
    entries_mean _ _ (met old there olds news c k i rest) = none-in there c
    entries_mean _ _ (added old new olds news n z rest) = λ i. (key_means old.0 new.0 z.0 i, item_means old.1 new.1 z.1 i) ∷ entries_mean olds news rest i

    pub world_means : (n : ℕ) (j : IsJoined r s f n [] []) → world_meaning_at s (f.worlds n) ≡ world_meaning_at r n
    world_means n j = search (std_rules, entries_mean)

-- ---- the whole

pub has_path : (r : Resolve) → IsValid r → (m : ℕ) (i : Interface) → interface_at r m ≡ Some i → is_some i.name ≡ true → interface_path r m ≡ None → ⊥
has_path r v m i at named_ without = search (std_rules, named-path r v m (ap (λ o. option_map_or (λ other. is_some other.name) o false) at ∙ named_))

pub merged_means : MergedMeans
merged_means own other merged bound other_bound first second left_out valid_own valid_other is = (ours, copies, copied_worlds)
  where
    below_s : Keeps references merged
    below_s = below own other merged bound other_bound first second left_out valid_own.rules valid_other.rules is

    carried : IsCarried own merged (itself own)
    carried = carried_itself own valid_own.rules merged is.types is.interfaces is.packages

    ours : OwnMeansTheSame own merged bound
    ours = search (std_rules, lt-ltb, slice_get_within, interface_means_at, itself, carried, below_s, path_same, world_means, has_path, own_joined, unequal)

    copies : CopiesMeanTheSame other merged first
    copies = search (std_rules, interface_means_at, carried, below_s, path_same)

    copied_worlds : (n : ℕ) → first.carries_world n ≡ true → world_meaning_at merged (first.worlds n) ≡ world_meaning_at other n
    copied_worlds n d = world_means other merged first valid_other.rules is.first_copies.carried below_s is.first_copies.inline_copied (has_path other valid_other) n (is.first_worlds n d).joined
