-- Encodings put under one key after the other.
use Rattle.std.proofs.Common.{rules as std_rules, ◌≡◌, refl, sym, ap, ◌∙◌, ◌⊎◌, inl, inr, arith, zero, suc, Bool, true, false, List, [], ◌∷◌, ◌++◌, cond, Option, Some, None, option_map, option_to_list, String, subst}
use Rattle.std.proofs.lemmas.Option.{same_Some as same-some}
use Rattle.std.specs.List.{Contains, cons_option}
use Rattle.std.specs.declared.alloc.Global.{Global}
use Rattle.wit_model.specs.declared.model.{Function.Function, Resolve.Resolve, StringEncoding.StringEncoding, WorldKey.WorldKey}
use Rattle.wit_model.specs.Text.{Text, text_eq}
use Rattle.wit_model.proofs.{Elements.none-in, VersionLaws.same_text, TextLemmas.text_same as text-same}
use Rattle.bind_keys.specs.{Encodings.Encodings, Encodings.encoding_at, Keys.scope_of, Keys.text_under}
use Rattle.bind_keys.specs.KeyLists.{Choice, Entry, entry_of, member_entries, Puts, put_all}

abbrev Look : Type 0
Look = Text → Option StringEncoding

abbrev put_one : Entry → Look → Look
put_one x g q = cond (text_eq q x.0) (Some x.1) (g q)

-- what is put tells only what stood there
same_put : (xs : List Entry) (g h : Look) → ((k : Text) → g k ≡ h k) → (k : Text) → put_all xs g k ≡ put_all xs h k
same_put [] g h e k = e k
same_put (x ∷ xs) g h e k = same_put xs (put_one x g) (put_one x h) (λ q. ap (cond (text_eq q x.0) (Some x.1)) (e q)) k

put_more : (xs ys : List Entry) (g : Look) (k : Text) → put_all (xs ++ ys) g k ≡ put_all ys (put_all xs g) k
put_more [] ys g k = same_put ys g (put_all [] g) (λ q. refl) k
put_more (x ∷ xs) ys g k = put_more xs ys (put_one x g) k ∙ same_put ys (put_all xs (put_one x g)) (put_all (x ∷ xs) g) (λ q. refl) k

-- So far, all that is left still has to be put on what there is.
abbrev pub IsLeft : List Entry → List Entry → Encodings → Encodings → Type 0
IsLeft all rest old now = (k : Text) → put_all rest (encoding_at now) k ≡ put_all all (encoding_at old) k

-- one step
pub left_next : (all first rest : List Entry) (old now next : Encodings) → IsLeft all (first ++ rest) old now → Puts first now next → IsLeft all rest old next
left_next all first rest old now next left puts k = search (std_rules, same_put, put_more)

-- what is given stands in front
pub given-front : {A : Type 0} (o : Option A) (rest : List A) → cons_option o rest ≡ option_to_list o ++ rest
given-front x rest = search std_rules

-- at the end nothing is left
pub left_none : (all : List Entry) (old now : Encodings) → IsLeft all [] old now → Puts all old now
left_none all old now left k = left k

-- ---- what stands there

-- under a key under which something stood, something stands
keeps : (es : List Entry) (g : Look) (k : Text) (e : StringEncoding) → g k ≡ Some e → (f : StringEncoding) × (put_all es g k ≡ Some f)
keeps [] g k e h = (e, h)
keeps (x ∷ xs) g k e h = by (text_eq k x.0) refl (keeps xs (put_one x g) k)
  where
    by : (b : Bool) → text_eq k x.0 ≡ b → ((f : StringEncoding) → put_one x g k ≡ Some f → (f : StringEncoding) × (put_all xs (put_one x g) k ≡ Some f)) → (f : StringEncoding)
        × (put_all xs (put_one x g) k ≡ Some f)
    by true s rest = rest x.1 (ap (λ b. cond b (Some x.1) (g k)) s)
    by false s rest = rest e (ap (λ b. cond b (Some x.1) (g k)) s ∙ h)

-- under each key that is put, something stands
pub holds : (es : List Entry) (g : Look) (k : Text) (e : StringEncoding) → Contains es (k, e) → (f : StringEncoding) × (put_all es g k ≡ Some f)
holds [] g k e c = none-in (k, e) c
holds (x ∷ xs) g k e (zero, l, same) =
    let here : text_eq k x.0 ≡ true = same_text k x.0 (sym (ap (λ (y : Entry). y.0) same)) in
    keeps xs (put_one x g) k x.1 (ap (λ b. cond b (Some x.1) (g k)) here)
holds (x ∷ xs) g k e (suc i, l, same) = holds xs (put_one x g) k e (i, omega (arith, l), same)

-- what stands under a key was put there, or stood there
pub comes : (es : List Entry) (g : Look) (k : Text) (e : StringEncoding) → put_all es g k ≡ Some e → Contains es (k, e) ⊎ (g k ≡ Some e)
comes [] g k e h = inr h
comes (x ∷ xs) g k e h = either (comes xs (put_one x g) k e h)
  where
    by : (b : Bool) → text_eq k x.0 ≡ b → cond b (Some x.1) (g k) ≡ Some e → Contains (x ∷ xs) (k, e) ⊎ (g k ≡ Some e)
    by true s found =
        let key : x.0 ≡ k = sym (text-same k x.0 s) in
        let value : x.1 ≡ e = same-some x.1 e found in
        inl (0, omega arith, λ i. (key i, value i))
    by false s found = inr found

    either : Contains xs (k, e) ⊎ (put_one x g k ≡ Some e) → Contains (x ∷ xs) (k, e) ⊎ (g k ≡ Some e)
    either (inl (i, l, same)) = inl (suc i, omega (arith, l), same)
    either (inr found) = by (text_eq k x.0) refl found

-- ---- the key of one function

-- the entry of a function whose scope is known
pub entry_is : (r : Resolve) (w : Choice) (scope : WorldKey) (name front : Text) (o : Option StringEncoding) → scope_of r scope ≡ Some front → o ≡ w scope name
    → option_map (λ e. (text_under front name, e)) o ≡ entry_of r w scope name
entry_is r w scope name front o at is = search std_rules

-- functions without a scope have no entries
no_members : (r : Resolve) (w : Choice) (scope : WorldKey) (fs : List (String Global × Function)) → None ≡ scope_of r scope → [] ≡ member_entries r w scope fs
no_members r w scope [] none = refl
no_members r w scope (f ∷ fs) none = search (std_rules, no_members r w scope fs none)

pub puts_no_members : (r : Resolve) (w : Choice) (scope : WorldKey) (fs : List (String Global × Function)) (m : Encodings) → None ≡ scope_of r scope → Puts (member_entries r w scope fs) m m
puts_no_members r w scope fs m none = subst (λ (es : List Entry). Puts es m m) (no_members r w scope fs none) (λ k. refl)
