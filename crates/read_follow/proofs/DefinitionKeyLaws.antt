-- The key of each form, from the parts that its indexes stand for.
use Rattle.std.proofs.Common.{rules as std_rules, ◌≡◌, refl, sym, ap, ◌∙◌, subst, ℕ, ◌&&◌, ◌+◌, ◌<◌, arith, inl, inr, Bool, true, false, List, [], ◌∷◌, ◌++◌, map, Option, Some, None, Result, Ok, Err, IfOk, IfSome, IsOkUnless, is_some, option_map, option_to_list, unwrap_or, slice_get}
use Rattle.std.proofs.lemmas.{Bool.le-leb, Bool.lt-ltb, Option.slice_get_past}
use Rattle.std.specs.{List.AllByRecursion}
use Rattle.wit_model.specs.{Meaning.Signature, Types.no_tree}
use Rattle.wit_model.specs.Tree.{Form, Tree, children, fixed_list_tree, future_tree, map_tree, result_tree, stream_tree}
use Rattle.comp_bytes.specs.declared.forms.{ComponentDefinedType.ComponentDefinedType, ComponentValType.ComponentValType, PrimitiveValType.PrimitiveValType}
use Rattle.comp_bytes.specs.{Raw.DefinedType, Reading.◌>>=◌}
use Rattle.comp_meaning.specs.Follow.{definition, given, is_key, is_key_primitive, provided, value_type}
use Rattle.read_follow.specs.declared.{keys.Key.Key, refusal.Refusal.Refusal, slots.Slot.Slot}
use Rattle.read_follow.specs.{Found.Refuses, Slots.slots_in, Slots.AreInRange, Slots.AreNames}
use Rattle.read_follow.specs.{KeyShapes.shape_of, DefinitionKeys.key_marks, DefinitionKeys.HasNoKeys, DefinitionKeys.IsForm, DefinitionKeys.IsKeyOf}
use Rattle.plan_meaning.specs.PlanRules.{is_form as formed_by, is_key_part}
use Rattle.plan_meaning.specs.Shapes.{node_shape, part_tree, primitives, one_mark, two_marks}
use Rattle.read_follow.proofs.Refusing.{refused}
use Rattle.plan_meaning.proofs.ShapeLaws.{part_front, split_part}
use Rattle.base_lemmas.proofs.Lists.{mapped_get, within_there as slice_there}
use Rattle.comp_bytes.specs.declared.forms.ComponentDefinedType.TheVariants as forms
use Rattle.read_follow.specs.declared.refusal.Refusal.TheVariants as refusals

or_none : {A B : Type 0} (o : Option A) (f : A → Option B) → ((x : A) → f x ≡ None) → (o >>= f) ≡ None
or_none y f e = search std_rules

-- the part, if there is one, is in range
abbrev IsIn : List Slot → Option ℕ → Type 0
IsIn ss p = IfSome p (λ k. (n : ℕ) → AreInRange n ss → k < 14 + n)

two_in : (ss : List Slot) (p q : Option ℕ) → IsIn ss p → IsIn ss q → (n : ℕ) → AreInRange n ss → AllByRecursion (λ k. k < 14 + n) (option_to_list p ++ option_to_list q)
two_in ss x y hp hq n ranges = search std_rules

key_part : (T : List Tree) → HasNoKeys T → (k : ℕ) → is_key (part_tree T k) ≡ unwrap_or (slice_get key_marks k) false
key_part T apart k = elim (split_part k) [
  | inl small ↦
      let found = slice_there primitives k small in
      ap is_key (part_front T k small ∙ ap (λ o. unwrap_or o no_tree) (mapped_get Tree.primitive primitives k found.0 found.1))
      ∙ sym (ap (λ o. unwrap_or o false) (mapped_get is_key_primitive primitives k found.0 found.1))
  | inr n ↦ ap (λ m. is_key (part_tree T m)) n.1 ∙ (apart n.0 ∙ sym (ap (λ o. unwrap_or o false) (slice_get_past key_marks k (omega (arith, n.1)))))
]

-- whether it may be the key of a map, by its number
key_begins : (k : ℕ) → is_key_part k ≡ unwrap_or (slice_get key_marks k) false
key_begins k = search std_rules

module _ (ss : List Slot) where
  -- what a key over such parts was made of
  pub passed : (d : DefinedType) (r : Result Key Refusal) (f : Form) (ks : List ℕ) → IfOk r (λ k. shape_of k ≡ node_shape f ks) → IsOkUnless r refusals.Memory
      → ((n : ℕ) → AreInRange n ss → AllByRecursion (λ k. k < 14 + n) ks) → formed_by f ks ≡ true
      → ((T : List Tree) (F : List Signature) → AreNames T ss → HasNoKeys T → definition (slots_in T F ss) d ≡ Some (Tree.node f (children (map (part_tree T) ks)))) → IsKeyOf ss d r
  passed d (Ok k) f ks shape memory ranges formed found = record { form = f; parts = ks; shape = shape; ranges = ranges; formed = formed; found = found }
  passed d (Err refusals.Memory) f ks shape memory ranges formed found = λ T F named apart. tt
  passed d (Err (refusals.Absent cause left)) f ks shape memory ranges formed found = absurd (let wrong : refusals.Absent cause left ≡ refusals.Memory = memory in cc)

  module _ (d : DefinedType) (f : Form) (source : List Tree → List Signature → Option Tree)
      (is : (T : List Tree) (F : List Signature) → definition (slots_in T F ss) d ≡ (source T F >>= λ t. Some (Tree.node f (children (t ∷ []))))) where
    -- a form over one part
    pub one_key : (part : ℕ) (r : Result Key Refusal) → IfOk r (λ k. shape_of k ≡ node_shape f (part ∷ [])) → IsOkUnless r refusals.Memory → ((n : ℕ) → AreInRange n ss → part < 14 + n)
        → formed_by f (part ∷ []) ≡ true → ((T : List Tree) (F : List Signature) → AreNames T ss → source T F ≡ Some (part_tree T part)) → IsKeyOf ss d r
    one_key part r shape memory range formed found =
        passed d r f (part ∷ []) shape memory (λ n ranges. (range n ranges, tt)) formed (λ T F named apart. is T F ∙ ap (λ o. o >>= λ t. Some (Tree.node f (children (t ∷ [])))) (found T F named))

    pub one_refused : (e : Refusal) → ((T : List Tree) (F : List Signature) → AreNames T ss → Refuses e (source T F)) → IsKeyOf ss d (Err e)
    one_refused e r = λ T F named apart. refused e (source T F) (definition (slots_in T F ss) d) (λ none. is T F ∙ ap (λ o. o >>= λ t. Some (Tree.node f (children (t ∷ [])))) none) (r T F named)

  -- a fixed length is at least 1
  pub fixed_list_is : (v : ComponentValType) (n : ℕ) → (n ≡ 0 → ⊥) → (T : List Tree) (F : List Signature)
      → definition (slots_in T F ss) (DefinedType.fixed_length_list_of v n) ≡ (value_type (slots_in T F ss) v >>= λ t. Some (Tree.node (Form.fixed_list_of n) (children (t ∷ []))))
  fixed_list_is v n some T F = ap (λ b. value_type (slots_in T F ss) v >>= λ t. provided b (fixed_list_tree t n)) (le-leb 1 n (omega (arith, some)))

  pub no_fixed_list : (v : ComponentValType) (n : ℕ) → n ≡ 0 → (T : List Tree) (F : List Signature) → definition (slots_in T F ss) (DefinedType.fixed_length_list_of v n) ≡ None
  no_fixed_list v n none T F = search std_rules

  pub fixed_formed : (n part : ℕ) → (n ≡ 0 → ⊥) → n < 4294967296 → formed_by (Form.fixed_list_of n) (part ∷ []) ≡ true
  fixed_formed n part some small = λ i. le-leb 1 n (omega (arith, some)) i && lt-ltb n 4294967296 small i

  module _ (v w : Option ComponentValType) where
    abbrev both : List Tree → List Signature → Option (Option Tree) → Option (Option Tree) → Option Tree
    both T F o e = o >>= λ x. e >>= λ y. Some (result_tree x y)

    pub result_key_is : (p q : Option ℕ) (number : ℕ) (r : Result Key Refusal) → number ≡ two_marks (is_some p) (is_some q)
        → IfOk r (λ k. shape_of k ≡ record { sort = 12; number = number; labels = []; parts = option_to_list p ++ option_to_list q }) → IsOkUnless r refusals.Memory → IsIn ss p → IsIn ss q
        → ((T : List Tree) (F : List Signature) → given (value_type (slots_in T F ss)) v ≡ Some (option_map (part_tree T) p))
        → ((T : List Tree) (F : List Signature) → given (value_type (slots_in T F ss)) w ≡ Some (option_map (part_tree T) q)) → IsKeyOf ss (DefinedType.result_of v w) r
    result_key_is p q number r marks shape memory hp hq fp fq = passed (DefinedType.result_of v w) r (Form.result_of (is_some p) (is_some q)) (option_to_list p ++ option_to_list q)
        (subst (λ (m : ℕ). IfOk r (λ k. shape_of k ≡ record { sort = 12; number = m; labels = []; parts = option_to_list p ++ option_to_list q })) marks shape)
        memory (two_in ss p q hp hq) refl (λ T F named apart. (λ i. both T F (fp T F i) (fq T F i)) ∙ ap Some ((search std_rules)))

    pub no_ok : (e : Refusal) → ((T : List Tree) (F : List Signature) → Refuses e (given (value_type (slots_in T F ss)) v)) → IsKeyOf ss (DefinedType.result_of v w) (Err e)
    no_ok e r = λ T F named apart. refused e (given (value_type (slots_in T F ss)) v) (definition (slots_in T F ss) (DefinedType.result_of v w))
        (λ none. ap (λ o. both T F o (given (value_type (slots_in T F ss)) w)) none) (r T F)

    pub no_err : (e : Refusal) → ((T : List Tree) (F : List Signature) → Refuses e (given (value_type (slots_in T F ss)) w)) → IsKeyOf ss (DefinedType.result_of v w) (Err e)
    no_err e r = λ T F named apart. refused e (given (value_type (slots_in T F ss)) w) (definition (slots_in T F ss) (DefinedType.result_of v w))
        (λ none. or_none (given (value_type (slots_in T F ss)) v) (λ x. given (value_type (slots_in T F ss)) w >>= λ y. Some (result_tree x y))
        (λ x. ap (λ o. o >>= λ y. Some (result_tree x y)) none)) (r T F)

  module _ (v : Option ComponentValType) where
    pub future_key_is : (p : Option ℕ) (number : ℕ) (r : Result Key Refusal) → number ≡ one_mark (is_some p)
        → IfOk r (λ k. shape_of k ≡ record { sort = 13; number = number; labels = []; parts = option_to_list p ++ [] }) → IsOkUnless r refusals.Memory → IsIn ss p
        → ((T : List Tree) (F : List Signature) → given (value_type (slots_in T F ss)) v ≡ Some (option_map (part_tree T) p)) → IsKeyOf ss (DefinedType.future_of v) r
    future_key_is p number r mark shape memory hp fp = passed (DefinedType.future_of v) r (Form.future_of (is_some p)) (option_to_list p ++ [])
        (subst (λ (m : ℕ). IfOk r (λ k. shape_of k ≡ record { sort = 13; number = m; labels = []; parts = option_to_list p ++ [] })) mark shape)
        memory (two_in ss p None hp tt) refl (λ T F named apart. ap (λ o. o >>= λ t. Some (future_tree t)) (fp T F) ∙ ap Some ((search std_rules)))

    pub stream_key_is : (p : Option ℕ) (number : ℕ) (r : Result Key Refusal) → number ≡ one_mark (is_some p)
        → IfOk r (λ k. shape_of k ≡ record { sort = 14; number = number; labels = []; parts = option_to_list p ++ [] }) → IsOkUnless r refusals.Memory → IsIn ss p
        → ((T : List Tree) (F : List Signature) → given (value_type (slots_in T F ss)) v ≡ Some (option_map (part_tree T) p)) → IsKeyOf ss (DefinedType.stream_of v) r
    stream_key_is p number r mark shape memory hp fp = passed (DefinedType.stream_of v) r (Form.stream_of (is_some p)) (option_to_list p ++ [])
        (subst (λ (m : ℕ). IfOk r (λ k. shape_of k ≡ record { sort = 14; number = m; labels = []; parts = option_to_list p ++ [] })) mark shape)
        memory (two_in ss p None hp tt) refl (λ T F named apart. ap (λ o. o >>= λ t. Some (stream_tree t)) (fp T F) ∙ ap Some ((search std_rules)))

    pub no_future : (e : Refusal) → ((T : List Tree) (F : List Signature) → Refuses e (given (value_type (slots_in T F ss)) v)) → IsKeyOf ss (DefinedType.future_of v) (Err e)
    no_future e r = λ T F named apart.
        refused e (given (value_type (slots_in T F ss)) v) (definition (slots_in T F ss) (DefinedType.future_of v)) (λ none. ap (λ o. o >>= λ t. Some (future_tree t)) none) (r T F)

    pub no_stream : (e : Refusal) → ((T : List Tree) (F : List Signature) → Refuses e (given (value_type (slots_in T F ss)) v)) → IsKeyOf ss (DefinedType.stream_of v) (Err e)
    no_stream e r = λ T F named apart.
        refused e (given (value_type (slots_in T F ss)) v) (definition (slots_in T F ss) (DefinedType.stream_of v)) (λ none. ap (λ o. o >>= λ t. Some (stream_tree t)) none) (r T F)

  module _ (k v : ComponentValType) where
    abbrev entry : Option Tree → Option Tree → Option Tree
    entry a b = a >>= λ key. b >>= λ t. provided (is_key key) (map_tree key t)

    mapped : (T : List Tree) (F : List Signature) (p q : ℕ) (b : Bool) → value_type (slots_in T F ss) k ≡ Some (part_tree T p) → value_type (slots_in T F ss) v ≡ Some (part_tree T q)
        → is_key (part_tree T p) ≡ b → definition (slots_in T F ss) (DefinedType.map_of k v) ≡ provided b (map_tree (part_tree T p) (part_tree T q))
    mapped T F p q b fp fq e = (λ i. entry (fp i) (fq i)) ∙ ap (λ c. provided c (map_tree (part_tree T p) (part_tree T q))) e

    module _ (p q : ℕ) (fp : (T : List Tree) (F : List Signature) → value_type (slots_in T F ss) k ≡ Some (part_tree T p))
        (fq : (T : List Tree) (F : List Signature) → value_type (slots_in T F ss) v ≡ Some (part_tree T q)) (b : Bool) (test : b ≡ unwrap_or (slice_get key_marks p) false) where
      pub map_key_is : b ≡ true → (r : Result Key Refusal) → IfOk r (λ x. shape_of x ≡ node_shape Form.map_of (p ∷ q ∷ [])) → IsOkUnless r refusals.Memory
          → ((n : ℕ) → AreInRange n ss → p < 14 + n) → ((n : ℕ) → AreInRange n ss → q < 14 + n) → IsKeyOf ss (DefinedType.map_of k v) r
      map_key_is may r shape memory hp hq = passed (DefinedType.map_of k v) r Form.map_of (p ∷ q ∷ []) shape memory (λ n ranges. (hp n ranges, (hq n ranges, tt))) (key_begins p ∙ (sym test ∙ may))
          (λ T F named apart. mapped T F p q true (fp T F) (fq T F) (key_part T apart p ∙ (sym test ∙ may)))

      pub no_key : b ≡ false → (T : List Tree) (F : List Signature) → HasNoKeys T → definition (slots_in T F ss) (DefinedType.map_of k v) ≡ None
      no_key may T F apart = mapped T F p q false (fp T F) (fq T F) (key_part T apart p ∙ (sym test ∙ may))

    pub no_first : (e : Refusal) → ((T : List Tree) (F : List Signature) → Refuses e (value_type (slots_in T F ss) k)) → IsKeyOf ss (DefinedType.map_of k v) (Err e)
    no_first e r = λ T F named apart.
        refused e (value_type (slots_in T F ss) k) (definition (slots_in T F ss) (DefinedType.map_of k v)) (λ none. ap (λ o. entry o (value_type (slots_in T F ss) v)) none) (r T F)

    pub no_second : (e : Refusal) → ((T : List Tree) (F : List Signature) → Refuses e (value_type (slots_in T F ss) v)) → IsKeyOf ss (DefinedType.map_of k v) (Err e)
    no_second e r = λ T F named apart. refused e (value_type (slots_in T F ss) v) (definition (slots_in T F ss) (DefinedType.map_of k v))
        (λ none. or_none (value_type (slots_in T F ss) k) (λ key. value_type (slots_in T F ss) v >>= λ t. provided (is_key key) (map_tree key t))
        (λ key. ap (λ o. o >>= λ t. provided (is_key key) (map_tree key t)) none)) (r T F)

pub is_form : (d : ComponentDefinedType) → ((p : PrimitiveValType) → d ≡ forms.Primitive p → ⊥) → IsForm d
is_form x other = search std_rules
