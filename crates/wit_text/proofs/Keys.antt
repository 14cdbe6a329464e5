-- Paths as keys of maps.
use Rattle.std.proofs.Common.{rules, ◌≡◌, refl, sym, ap, ◌∙◌, ℕ, Bool, true, false, cond, ◌||◌, List, [], ◌∷◌, ◌++◌, Some, None, Option, is_some, subst, true≢false}
use Rattle.std.specs.{Map.lookup}
use Rattle.indexmap.specs.IndexMap.{IndexMap, get, insert_entry}
use Rattle.indexmap.proofs.CallerLemmas.{insert_entry-new}
use Rattle.wit_model.specs.declared.model.{WorldKey.WorldKey, WorldItem.WorldItem}
use Rattle.wit_model.specs.declared.model.WorldKey.TheVariants as key
use Rattle.wit_text.specs.Items.{WorldEntry, key_test, path_key, has_path, is_path}

pub path_tested : (n : ℕ) (k : WorldKey) → key_test (path_key n) k ≡ is_path n k
path_tested n (key.Interface id) = search rules
path_tested n (key.Name s) = search rules

found_or : {X : Type 0} (b : Bool) (x : X) (o : Option X) → is_some (cond b (Some x) o) ≡ (b || is_some o)
found_or true x o = refl
found_or false x o = refl

-- a map has the key where its entries have the path
pub found_path : (n : ℕ) (test : WorldKey → Bool) → ((k : WorldKey) → test k ≡ is_path n k) → (es : List WorldEntry) → is_some (lookup test es) ≡ has_path es n
found_path n test same [] = refl
found_path n test same (e ∷ es) =
    found_or (test e.0) e.1 (lookup test es) ∙ (ap (λ b. b || is_some (lookup test es)) (same e.0) ∙ ap (λ b. is_path n e.0 || b) (found_path n test same es))

none_from : {X : Type 0} (o : Option X) → is_some o ≡ false → o ≡ None
none_from None h = refl
none_from (Some x) h = absurd (true≢false h)

-- a path that isn't there goes last
pub put_last : {S : Type 0} (n : ℕ) (k : WorldKey) (item : WorldItem) (m : IndexMap WorldKey WorldItem S) → k ≡ path_key n → has_path m.entries n ≡ false
    → insert_entry key_test m.entries k item ≡ m.entries ++ (path_key n, item) ∷ []
put_last n k item m is none =
    subst (λ x. insert_entry key_test m.entries x item ≡ m.entries ++ (path_key n, item) ∷ []) (sym is)
    (insert_entry-new key_test m (path_key n) item (none_from _ (found_path n (key_test (path_key n)) (path_tested n) m.entries ∙ none)))

-- what a test says of a path, by another name of its number
pub has_tested : (es : List WorldEntry) (a n : ℕ) (r b : Bool) → r ≡ has_path es a → a ≡ n → r ≡ b → has_path es n ≡ b
has_tested es a n r b tested same is = ap (has_path es) (sym same) ∙ (sym tested ∙ is)

-- a key that isn't there goes last
pub added_last : {K X S : Type 0} (eq : K → K → Bool) (m : IndexMap K X S) (k : K) (x : X) (o : Option X) → o ≡ get eq m k → is_some o ≡ false
    → insert_entry eq m.entries k x ≡ m.entries ++ (k, x) ∷ []
added_last eq m k x o is none = insert_entry-new eq m k x (sym is ∙ none_from o none)
