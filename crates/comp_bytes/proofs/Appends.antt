-- How what one step appends goes with what the steps before it did.
use Rattle.std.proofs.Common.{rules as std_rules, ◌≡◌, ℕ, Bool, false, ◌&&◌, List, [], ◌∷◌, ◌++◌, Result, Ok, Err, OnOk, OnErr, IsOkUnless, IsErrAnd, sym, ap, ◌∙◌, append_assoc}
use Rattle.std.proofs.lemmas.List.{append-nil}
use Rattle.wit_model.specs.declared.error.Error.{Error}
use Rattle.comp_bytes.specs.{Form.Spellings, Form.Tagged, Form.Joined, Held.Begins, Appending.Appended, Appending.Stopped, Appending.Appends}
use Rattle.wit_model.specs.declared.error.Error.TheVariants as errors

-- ---- what a test on the whole says where it fails on a part

pub first_fails : (a b : Bool) → a ≡ false → a && b ≡ false
first_fails x b e = search std_rules

pub second_fails : (a b : Bool) → b ≡ false → a && b ≡ false
second_fails x b e = search std_rules

-- ---- refusals

pub begins_same : (old : List ℕ) → Begins old old
begins_same old = ([], sym (append-nil old))

pub begins_after : (old text mid new : List ℕ) → mid ≡ old ++ text → Begins mid new → Begins old new
begins_after old text mid new e b = (text ++ b.0, b.1 ∙ ap (λ (l : List ℕ). l ++ b.0) e ∙ append_assoc old text b.0)

pub stopped_after : (part whole : Bool) (form : Spellings) (text old mid new : List ℕ) (e : Error) → Appended form text old mid → Stopped part mid new e → (part ≡ false → whole ≡ false)
    → Stopped whole old new e
stopped_after part whole form text old mid new e a s falls = search (std_rules, begins_after old text mid new a.items s.kept)

-- as an answer
pub refused : {X : Type 0} (form : Spellings) (text : List ℕ) (fits : Bool) (old new : List ℕ) (e : Error) → Stopped fits old new e → Appends {X = X} form text fits old new (Err e)
refused form text fits old new e s = record { ok = tt; err = s }

pub done : {X : Type 0} (form : Spellings) (text : List ℕ) (fits : Bool) (old new : List ℕ) (x : X) → new ≡ old ++ text → form text → Appends form text fits old new (Ok x)
done form text fits old new x items spelled = record { ok = record { items = items; spelled = spelled }; err = tt }

-- ---- a part behind the parts that stand

-- a writer that refuses for want of memory alone, and then leaves the bytes as they were
pub by_memory : {X : Type 0} (form : Spellings) (text : List ℕ) (fits : Bool) (old new : List ℕ) (r : Result X Error)
    → form text → OnOk r (new ≡ old ++ text) → OnErr r (new ≡ old) → IsOkUnless r errors.Memory → Appends form text fits old new r
by_memory form text fits old new y s ok err memory = search std_rules

pub joined : {X : Type 0} (first second : Spellings) (front back : List ℕ) (part whole : Bool) (old mid new : List ℕ) (r : Result X Error)
    → Appended first front old mid → Appends second back part mid new r → (part ≡ false → whole ≡ false) → Appends (Joined first second) (front ++ back) whole old new r
joined first second front back part whole old mid new y a b falls = search (std_rules, done, append_assoc, refused, stopped_after)

pub tagged : {X : Type 0} (tag : ℕ) (form : Spellings) (text : List ℕ) (fits : Bool) (old mid new : List ℕ) (r : Result X Error)
    → mid ≡ old ++ tag ∷ [] → Appends form text fits mid new r → Appends (Tagged tag form) (tag ∷ text) fits old new r
tagged tag form text fits old mid new y e a = search (std_rules, done, append_assoc, refused, stopped_after)

-- a refusal of a part that is passed on
pub passed_on : {X : Type 0} (form : Spellings) (text : List ℕ) (fits : Bool) (old new : List ℕ) (e : Error) (r : Result X Error) → IsErrAnd r (λ given. given ≡ e) → Stopped fits old new e
    → Appends form text fits old new r
passed_on form text fits old new e y h s = search std_rules
