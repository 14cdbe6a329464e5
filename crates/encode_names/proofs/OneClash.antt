-- A list has one first repeat at most, and none where its texts are different.
use Rattle.std.proofs.Common.{rules as std_rules, ◌≡◌, sym, ap, subst, ◌∙◌, ◌⊎◌, inl, inr, true, false, List, [], ◌∷◌, ◌++◌}
use Rattle.std.proofs.lemmas.List.Elements.{Contains-append_cases, Contains-append_left, Contains-append_right}
use Rattle.std.specs.List.{AllByRecursion, Contains, IsDistinct}
use Rattle.wit_model.specs.Text.{Text, text_eq}
use Rattle.wit_model.proofs.{VersionLaws.same_text, Elements.none-in}
use Rattle.encode_names.proofs.Lists.{head-of, tail-of}
use Rattle.encode_names.specs.Clashes.{canonical_names_of, AreDifferent, IsNameClash, IsFirstRepeatedName}
use Rattle.encode_names.specs.ClashLaws.{NoClashWithout, OneClash}
use Rattle.base_lemmas.proofs.Elements.{contains-one, last_of as one-contained}

-- ---- different texts

none-equal : (x : Text) (xs : List Text) → AllByRecursion (λ y. text_eq x y ≡ false) xs → Contains xs x → ⊥
none-equal x [] h c = none-in x c
none-equal x (y ∷ ys) h c = go (none-equal x ys h.1) (Contains-append_cases (y ∷ []) ys x c)
  where
    go : (Contains ys x → ⊥) → Contains (y ∷ []) x ⊎ Contains ys x → ⊥
    go later (inl d) =
        let wrong : true ≡ false = sym (same_text x y (sym (one-contained y x d))) ∙ h.0 in
        cc
    go later (inr d) = later d

-- what stands before a text differs from it
pub stands-once : (xs ys : List Text) (t : Text) → IsDistinct text_eq (xs ++ (t ∷ ys)) → Contains xs t → ⊥
unfolding IsDistinct
stands-once [] ys t d c = none-in t c
stands-once (x ∷ xs) ys t d c = go (stands-once xs ys t d.1) (Contains-append_cases (x ∷ []) xs t c)
  where
    go : (Contains xs t → ⊥) → Contains (x ∷ []) t ⊎ Contains xs t → ⊥
    go later (inl e) = none-equal x (xs ++ (t ∷ ys)) d.0 (subst (Contains (xs ++ (t ∷ ys))) (sym (one-contained x t e))
        (Contains-append_right xs (t ∷ ys) t (Contains-append_left (t ∷ []) ys t (contains-one t))))
    go later (inr e) = later e

-- ---- one list, split twice

data AreSplit (x y : Text) (before other : List Text) : Type 0 where
  same : x ≡ y → AreSplit x y before other
  sooner : (rest : List Text) → other ≡ before ++ (x ∷ rest) → AreSplit x y before other
  later : (rest : List Text) → before ≡ other ++ (y ∷ rest) → AreSplit x y before other

split-twice : (before after other rest : List Text) (x y : Text) → before ++ (x ∷ after) ≡ other ++ (y ∷ rest) → AreSplit x y before other
split-twice [] after [] rest x y e = AreSplit.same (ap (λ l. head-of l x) e)
split-twice [] after (z ∷ other) rest x y e = AreSplit.sooner other (ap (λ h. h ∷ other) (sym (ap (λ l. head-of l x) e)))
split-twice (z ∷ before) after [] rest x y e = AreSplit.later before (ap (λ h. h ∷ before) (ap (λ l. head-of l z) e))
split-twice (z ∷ before) after (u ∷ other) rest x y e = go (ap (λ l. head-of l z) e) (split-twice before after other rest x y (ap tail-of e))
  where
    go : z ≡ u → AreSplit x y before other → AreSplit x y (z ∷ before) (u ∷ other)
    go h (AreSplit.same s) = AreSplit.same s
    go h (AreSplit.sooner more s) = AreSplit.sooner more (ap (λ l. u ∷ l) s ∙ ap (λ v. v ∷ (before ++ (x ∷ more))) (sym h))
    go h (AreSplit.later more s) = AreSplit.later more (ap (λ l. z ∷ l) s ∙ ap (λ v. v ∷ (other ++ (y ∷ more))) h)

-- ---- first repeats

pub one-repeat : (texts : List Text) (x y : Text) → IsFirstRepeatedName texts x → IsFirstRepeatedName texts y → x ≡ y
one-repeat texts x y a b = search (std_rules, split-twice, same, sooner, stands-once, later)

pub no-repeat : (texts : List Text) (x : Text) → AreDifferent texts → IsFirstRepeatedName texts x → ⊥
no-repeat texts x d a = stands-once a.before a.after x (subst AreDifferent a.is d) a.repeats

-- ---- worlds

pub one_clash : OneClash
one_clash r w x y (IsNameClash.of_imports a) (IsNameClash.of_imports b) = one-repeat (canonical_names_of r w.imports.entries) x y a b
one_clash r w x y (IsNameClash.of_imports a) (IsNameClash.of_exports d b) = absurd (no-repeat (canonical_names_of r w.imports.entries) x d a)
one_clash r w x y (IsNameClash.of_exports d a) (IsNameClash.of_imports b) = absurd (no-repeat (canonical_names_of r w.imports.entries) y d b)
one_clash r w x y (IsNameClash.of_exports d a) (IsNameClash.of_exports e b) = one-repeat (canonical_names_of r w.exports.entries) x y a b

pub no_clash_without : NoClashWithout
no_clash_without r w x h (IsNameClash.of_imports a) = no-repeat (canonical_names_of r w.imports.entries) x h.imports a
no_clash_without r w x h (IsNameClash.of_exports d a) = no-repeat (canonical_names_of r w.exports.entries) x h.exports a
