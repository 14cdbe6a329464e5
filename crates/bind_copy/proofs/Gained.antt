-- Items that are copied into a map one behind the other, where their keys are new.
use Rattle.std.proofs.Common.{rules as std_rules, ◌≡◌, refl, sym, ap, ap₂, subst, ◌∙◌, ℕ, Bool, true, false, not, ◌||◌, List, [], ◌∷◌, is_some}
use Rattle.std.proofs.lemmas.Map.Made.{is_some-lookup}
use Rattle.std.specs.{List.list_any, List.IsDistinct, Map.keys_of, Map.lookup, Prelude.String}
use Rattle.indexmap.specs.IndexMap.{get_by, insert_entry, IndexMap}
use Rattle.wit_model.specs.{Valid.key_eq}
use Rattle.std.specs.declared.alloc.Global.{Global}
use Rattle.wit_model.specs.declared.model.{InterfaceId.InterfaceId, WorldItem.WorldItem, WorldKey.WorldKey}
use Rattle.bind_copy.specs.Copies.{become_one, is_key_under, is_new_under, number_under, AreNewCopied, CopiedSoFar, IsEntryUnder, IsKeyUnder}
use Rattle.bind_copy.proofs.Copied.{one_copied, one_left}
use Rattle.wit_model.specs.contracts.model.WorldKeyPartialEq.TheImpl as world_key
use Rattle.wit_model.specs.declared.model.WorldKey.TheVariants as key

-- the test of keys that the code makes
code_eq : (a b : WorldKey) → world_key.ghosts.eq a b ≡ key_eq a b
code_eq x y = search std_rules

pub test_is : world_key.ghosts.eq ≡ key_eq
test_is = λ i a b. code_eq a b i

module _ (interfaces : List ℕ) where
  -- keys are one under their new numbers where their images are one
  pub same_images : (x y u v : WorldKey) → IsKeyUnder interfaces x u → IsKeyUnder interfaces y v → key_eq v u ≡ become_one interfaces x y
  same_images z y v w r s = search std_rules

  any_here : (k image : WorldKey) → IsKeyUnder interfaces k image → (es : List (WorldKey × WorldItem))
      → list_any (key_eq image) (keys_of es) ≡ list_any (λ (e : WorldKey × WorldItem). is_key_under interfaces k e.0) es
  any_here k image r [] = refl
  any_here k image r (e ∷ es) = ap₂ (λ a b. a || b) (search std_rules) (any_here k image r es)

  pub new_here : (k image : WorldKey) → IsKeyUnder interfaces k image → (es : List (WorldKey × WorldItem)) → not (is_some (lookup (key_eq image) es)) ≡ is_new_under interfaces es k
  new_here k image r es = ap not (is_some-lookup (key_eq image) es ∙ any_here k image r es)

  pub name_here : (k : WorldKey) (name : String Global) → k ≡ key.Name name → {S : Type 0} (es : IndexMap WorldKey WorldItem S)
      → not (is_some (get_by (world_key.ghosts.eq k) es)) ≡ is_new_under interfaces es.entries k
  name_here k name is es = ap (λ q. not (is_some (lookup (q k) es.entries))) test_is ∙ new_here k k (subst (λ x. IsKeyUnder interfaces x x) (sym is) refl) es.entries

  pub interface_here : (k : WorldKey) (id image : InterfaceId) → k ≡ key.Interface id → image.0 ≡ number_under interfaces id.0 → {S : Type 0} (es : IndexMap WorldKey WorldItem S)
      → not (is_some (get_by (world_key.ghosts.eq (key.Interface image)) es)) ≡ is_new_under interfaces es.entries k
  interface_here k id image is number es = ap (λ q. not (is_some (lookup (q (key.Interface image)) es.entries))) test_is ∙ new_here k (key.Interface image)
      (subst (λ x. IsKeyUnder interfaces x (key.Interface image)) (sym is) number) es.entries

module _ (interfaces types : List ℕ) (here : List (WorldKey × WorldItem)) where
  abbrev test : WorldKey × WorldItem → Bool
  test e = is_new_under interfaces here e.0

  abbrev Apart : List (WorldKey × WorldItem) → Type 0
  Apart es = IsDistinct (become_one interfaces) (keys_of es)

  abbrev SoFar : List (WorldKey × WorldItem) → List (WorldKey × WorldItem) → List (WorldKey × WorldItem) → Type 0
  SoFar whole left done = Apart whole → CopiedSoFar (IsEntryUnder interfaces types) test whole left done

  same : (x y u v : WorldKey × WorldItem) → IsEntryUnder interfaces types x u → IsEntryUnder interfaces types y v → key_eq v.0 u.0 ≡ become_one interfaces x.0 y.0
  same x y u v r s = same_images interfaces x.0 y.0 u.0 v.0 r.0 s.0

  -- one more is copied
  pub item_more : (whole left rest done new : List (WorldKey × WorldItem)) (e n : WorldKey × WorldItem) → left ≡ e ∷ rest → test e ≡ true
      → IsEntryUnder interfaces types e n → new ≡ insert_entry key_eq done n.0 n.1 → SoFar whole left done → SoFar whole rest new
  item_more whole left rest done new e n step passes copied added before apart = one_copied key_eq (become_one interfaces) (IsEntryUnder interfaces types) test same whole rest done e
      (subst (λ l. CopiedSoFar (IsEntryUnder interfaces types) test whole l done) step (before apart)) n new apart passes copied added

  -- one is left, since its key is here
  pub item_left : (whole left rest done : List (WorldKey × WorldItem)) (e : WorldKey × WorldItem) → left ≡ e ∷ rest → test e ≡ false → SoFar whole left done → SoFar whole rest done
  item_left whole left rest done e step fails before apart = one_left key_eq (become_one interfaces) (IsEntryUnder interfaces types) test same whole rest done e
      (subst (λ l. CopiedSoFar (IsEntryUnder interfaces types) test whole l done) step (before apart)) fails

  -- all are copied
  pub items_all : (whole left done : List (WorldKey × WorldItem)) → left ≡ [] → SoFar whole left done → AreNewCopied interfaces types here whole done
  items_all whole left done ended before apart = search std_rules
