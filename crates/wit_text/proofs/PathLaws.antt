-- What walks put are interfaces by their paths. Serves exports, imports.
use Rattle.base_lemmas.proofs.Elements.{last_of}
use Rattle.base_lemmas.proofs.Elements.{first-contained}
use Rattle.std.proofs.Common.{◌≡◌, refl, sym, ap, subst, ℕ, ◌<◌, ◌||◌, not, true, nat_eq, List, [], ◌∷◌, ◌++◌, is_some}
use Rattle.std.proofs.Common.{length, filter, Contains, true≢false}
use Rattle.indexmap.specs.IndexMap.{get}
use Rattle.wit_model.specs.declared.model.WorldItem.{WorldItem}
use Rattle.text_types.specs.declared.members.Interfaces.{Interfaces}
use Rattle.wit_text.specs.{Items.has_path, Items.path_key, Items.WorldEntry}
use Rattle.wit_text.specs.Puts.{goes_to, number_at, IsFrontedBy, Puts, Puts.nothing, Puts.and_one, Reaches, Reaches.is_first}
use Rattle.wit_text.specs.Puts.{Reaches.goes_on as further}
use Rattle.wit_text.specs.Sides.{exports_in, imports_in, text_of_world, AddsPaths, Fronts, IsPut, Side}
use Rattle.wit_text.specs.WorldWalks.{IsWalkIn, PutsExports, PutsImports}
use Rattle.wit_text.specs.declared.{given.Given.Given, imports.Labelled.Labelled, shown.Walk.Walk}
use Rattle.text_names.specs.declared.sources.Sources.{Sources}
use Rattle.wit_text.proofs.SideLaws.{paths_join, paths_none}
use Rattle.base_lemmas.proofs.{Bools.right_of, Elements.filter_kept}

-- where what isn't stated stays away, all that is reached is stated
goes_stated : (walk : Walk) → walk.stated_alone ≡ true → (n : ℕ) → goes_to walk n ≡ true → is_some (get nat_eq walk.mine.now n) ≡ true
goes_stated walk alone n goes =
    let mine : (not walk.stated_alone || is_some (get nat_eq walk.mine.now n)) ≡ true = right_of _ _ goes in
    subst (λ b. (not b || is_some (get nat_eq walk.mine.now n)) ≡ true) alone mine

reached_stated : (walk : Walk) (firsts : List ℕ) → walk.stated_alone ≡ true
    → ((n : ℕ) → Contains firsts n → is_some (get nat_eq walk.mine.now n) ≡ true) → (n : ℕ) → Reaches walk firsts n
    → is_some (get nat_eq walk.mine.now n) ≡ true
reached_stated walk firsts alone all n (is_first m h) = all n h
reached_stated walk firsts alone all n (further k m r needs goes) = goes_stated walk alone n goes

one_path : {given : Given} {a : Interfaces} {side : Side} (es : List WorldEntry) {entry : WorldEntry} → IsPut given a side entry
    → AddsPaths given a side es (es ++ entry ∷ [])
one_path {given = given} {a = a} {side = side} es {entry = entry} k =
    record { more = entry ∷ []; is = refl; put = λ e h. subst (IsPut given a side) (last_of entry e h) k }

module _ {given : Given} {interfaces : Interfaces} {side : Side} (walk : Walk) (is : IsWalkIn given interfaces walk) (mine : walk.mine.now ≡ side.fronts) where
  put_entry : (n : ℕ) (item : WorldItem) → n < length walk.sources.now.interfaces.items
      → IsFrontedBy walk.text.text.now (get nat_eq walk.mine.now n) (number_at walk.numbers.now n) item
      → (side.alone ≡ true → is_some (get nat_eq walk.mine.now n) ≡ true) → IsPut given interfaces side (path_key (number_at walk.numbers.now n), item)
  put_entry n item declared fronted alone = record {
    n = n;
    item = item;
    is = ap (λ ns. (path_key (number_at ns n), item)) is.numbers;
    declared = subst (λ (s : Sources). n < length s.interfaces.items) is.sources declared;
    fronted =
        subst (λ ns. IsFrontedBy (text_of_world given) (get nat_eq side.fronts n) (number_at ns n) item) is.numbers
        (subst (λ (m : Fronts). IsFrontedBy (text_of_world given) (get nat_eq m n) (number_at walk.numbers.now n) item) mine
        (subst (λ t. IsFrontedBy t (get nat_eq walk.mine.now n) (number_at walk.numbers.now n) item) is.text fronted));
    alone = λ a. subst (λ (m : Fronts). is_some (get nat_eq m n) ≡ true) mine (alone a);
  }

  puts_paths : (firsts : List ℕ) → ((n : ℕ) → Reaches walk firsts n → side.alone ≡ true → is_some (get nat_eq walk.mine.now n) ≡ true)
      → (es fs : List WorldEntry) → Puts walk firsts es fs → AddsPaths given interfaces side es fs
  puts_paths firsts stated es _ (nothing gs) = paths_none es
  puts_paths firsts stated es _ (and_one gs fs n item p f) =
      paths_join (puts_paths firsts stated es fs p) (one_path fs (put_entry n item f.declared f.fronted (stated n f.reached)))

pub imports_put : {given : Given} {interfaces : Interfaces} {labelled : Labelled} {firsts : Walk → List ℕ} {es fs : List WorldEntry}
    → PutsImports given interfaces labelled firsts es fs → AddsPaths given interfaces (imports_in given) es fs
imports_put {firsts = firsts} {es = es} {fs = fs} k =
    puts_paths k.walk k.is k.mine (firsts k.walk) (λ n r a. absurd (true≢false (sym a))) es fs k.puts.puts

pub import_there : {given : Given} {interfaces : Interfaces} {labelled : Labelled} (n : ℕ) {es fs : List WorldEntry}
    → PutsImports given interfaces labelled (λ _. n ∷ []) es fs → has_path fs (number_at interfaces.numbers.items n) ≡ true
import_there n {fs = fs} k = subst (λ ns. has_path fs (number_at ns n) ≡ true) k.is.numbers (k.puts.there n (first-contained n []))

exports_by : {given : Given} {interfaces : Interfaces} {firsts : Walk → List ℕ} {es fs : List WorldEntry} → (k : PutsExports given interfaces firsts es fs)
    → ((n : ℕ) → Contains (firsts k.walk) n → is_some (get nat_eq k.walk.mine.now n) ≡ true) → AddsPaths given interfaces (exports_in given) es fs
exports_by {firsts = firsts} {es = es} {fs = fs} k all =
    puts_paths k.walk k.is k.mine (firsts k.walk) (λ n r a. reached_stated k.walk (firsts k.walk) k.alone all n r) es fs k.puts.puts

pub export_put : {given : Given} {interfaces : Interfaces} (n : ℕ) {es fs : List WorldEntry} → PutsExports given interfaces (λ _. n ∷ []) es fs
    → is_some (get nat_eq (exports_in given).fronts n) ≡ true → AddsPaths given interfaces (exports_in given) es fs
export_put {given = given} n k stated =
    exports_by k (λ m h. subst (λ x. is_some (get nat_eq k.walk.mine.now x) ≡ true) (last_of n m h)
    (subst (λ (f : Fronts). is_some (get nat_eq f n) ≡ true) (sym k.mine) stated))

pub export_there : {given : Given} {interfaces : Interfaces} (n : ℕ) {es fs : List WorldEntry} → PutsExports given interfaces (λ _. n ∷ []) es fs
    → has_path fs (number_at interfaces.numbers.items n) ≡ true
export_there n {fs = fs} k = subst (λ ns. has_path fs (number_at ns n) ≡ true) k.is.numbers (k.puts.there n (first-contained n []))

pub exports_put : {given : Given} {interfaces : Interfaces} (ns : List ℕ) {es fs : List WorldEntry}
    → PutsExports given interfaces (λ w. filter (goes_to w) ns) es fs
    → AddsPaths given interfaces (exports_in given) es fs
exports_put ns k = exports_by k (λ n h. goes_stated k.walk k.alone n (filter_kept (goes_to k.walk) ns n h).1)
