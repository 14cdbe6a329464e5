-- Attributes, gates and what stands in front of items that are there by the grammar are found.
use Rattle.std.proofs.Common.{◌≡◌, refl, ◌∙◌, ◌<◌, ℕ, zero, suc, Bool, true, false, List, ◌∷◌, length, arith, Some, None, codes, ◌&&◌, if◌then◌else◌}
use Rattle.wit_model.specs.Text.{Text}
use Rattle.print_grammar.specs.{Token.Token, Tree.Gates, Tree.Prefix}
use Rattle.print_grammar.specs.Token.Mark.{At, OpenParen, CloseParen, Equals}
use Rattle.print_grammar.specs.Token.Token.{Word, Quoted, Punctuation}
use Rattle.print_grammar.specs.Grammar.{IsId, ReadsVersionArgument, ReadsVersionArgument.version_argument}
use Rattle.text_trees.specs.Grammar.{Documentation, Marks, ReadsMarks, ReadsPrefix, ReadsGates, gates_of_marks, no_marks}
use Rattle.text_trees.specs.Grammar.ReadsMarks.{no_more, since, unstable, deprecated, external_id}
use Rattle.text_trees.specs.Grammar.{ReadsPrefix.prefix, ReadsGates.gates}
use Rattle.text_trees.specs.Reading.{Reading, Reading.Found, then_read, begins, begins_word, behind, behind_mark, if_word, quoted_in_front, version_in_front}
use Rattle.text_trees.specs.ReadDeclared.{if_free, version_argument_in_front, mark_behind, marks_from, marks_in_front, gates_behind, gates_in_front, prefix_in_front}
use Rattle.text_trees.proofs.{Lengths.argument-shortens}
use Rattle.text_trees.proofs.Complete.{then_gives, made_gives, id_gives}

argument-complete : {ts rest : List Token} {version : Text} → ReadsVersionArgument ts version rest → version_argument_in_front ts ≡ Found version rest
unfolding behind_mark if_word version_in_front then_read
argument-complete (version_argument e) = rw e refl

-- ---- one attribute

module _ {X : Type 0} (free : Bool) (text : Text) (read_on other : List Token → Reading X) where
  taken : (ts : List Token) → free ≡ true → begins_word text ts ≡ true → if_free free text read_on other ts ≡ read_on (behind ts)
  unfolding if_free
  taken ts f h = rw (f, h) refl

  passed : (ts : List Token) → begins_word text ts ≡ false → if_free free text read_on other ts ≡ other ts
  unfolding if_free
  passed ts h = go free
    where
      go : (b : Bool) → (if b && begins_word text ts then read_on (behind ts) else other ts) ≡ other ts
      go true = rw h refl
      go false = refl

module _ (ids : Bool) (marks : Marks) where
  since_gives : {ts rest : List Token} {version : Text} → marks.since ≡ None → marks.unstable ≡ None → ReadsVersionArgument ts version rest
      → mark_behind ids marks (Word (codes "since") ∷ ts) ≡ Found (record marks { since = Some version }) rest
  since_gives a b r = taken _ _ _ _ _ (rw (a, b) refl) refl ∙ made_gives _ (argument-complete r)

  unstable_gives : {t : Token} {rest : List Token} {feature : Text} → marks.since ≡ None → marks.unstable ≡ None → IsId t feature
      → mark_behind ids marks (Word (codes "unstable") ∷ Punctuation OpenParen ∷ Word (codes "feature") ∷ Punctuation Equals ∷ t ∷ Punctuation CloseParen ∷ rest)
      ≡ Found (record marks { unstable = Some feature }) rest
  unfolding behind_mark if_word then_read
  unstable_gives a b i = passed _ _ _ _ _ refl ∙ (taken _ _ _ _ _ (rw (a, b) refl) refl ∙ made_gives _ (rw (id_gives _ i) refl))

  deprecated_gives : {ts rest : List Token} {version : Text} → marks.deprecated ≡ None → ReadsVersionArgument ts version rest
      → mark_behind ids marks (Word (codes "deprecated") ∷ ts) ≡ Found (record marks { deprecated = Some version }) rest
  deprecated_gives a r =
      passed _ _ _ _ _ refl ∙ (passed _ _ _ _ _ refl ∙ (taken _ _ _ _ _ (rw a refl) refl ∙ made_gives _ (argument-complete r)))

  id_gives_mark : {rest : List Token} {characters : List ℕ} → ids ≡ true → marks.external_id ≡ None
      → mark_behind ids marks (Word (codes "external-id") ∷ Punctuation OpenParen ∷ Quoted characters ∷ Punctuation CloseParen ∷ rest)
      ≡ Found (record marks { external_id = Some characters }) rest
  unfolding behind_mark quoted_in_front then_read
  id_gives_mark h a =
      passed _ _ _ _ _ refl ∙ (passed _ _ _ _ _ refl ∙ (passed _ _ _ _ _ refl ∙ (taken _ _ _ _ _ (rw (h, a) refl) refl ∙ made_gives _ refl)))

-- ---- attributes

-- an external id stays
id_stays : {ts rest : List Token} {marks all : Marks} {characters : List ℕ} → ReadsMarks marks ts all rest → marks.external_id ≡ Some characters → all.external_id ≡ Some characters
id_stays no_more h = h
id_stays (since e a b r m) h = id_stays m h
id_stays (unstable e f i a b m) h = id_stays m h
id_stays (deprecated e a r m) h = id_stays m h
id_stays (external_id e a m) h = absurd (cc (a, h))

-- an external id may stand there
ids_may : {ts rest : List Token} {marks all : Marks} {characters : List ℕ} (ids : Bool) → ReadsMarks marks ts all rest → marks.external_id ≡ Some characters
    → (ids ≡ false → all.external_id ≡ None) → ids ≡ true
ids_may true m h f = refl
ids_may false m h f = let k = id_stays m h in let l = f refl in absurd (cc (k, l))

marks_from-complete : (ids : Bool) (n : ℕ) {ts rest : List Token} {marks all : Marks} → ReadsMarks marks ts all rest → (ids ≡ false → all.external_id ≡ None)
    → begins At rest ≡ false → length ts < n → marks_from ids n marks ts ≡ Found all rest
unfolding marks_from
marks_from-complete ids zero m f h l = absurd (omega (arith, l))
marks_from-complete ids (suc n) no_more f h l = rw h refl
marks_from-complete ids (suc n) (since {marks} e a b r m) f h l =
    let k = argument-shortens _ _ _ r in rw e (then_gives (marks_from ids n) (since_gives ids marks a b r) (marks_from-complete ids n m f h (omega (arith, k, l))))
marks_from-complete ids (suc n) (unstable {marks} e g i a b m) f h l =
    rw (e, g) (then_gives (marks_from ids n) (unstable_gives ids marks a b i) (marks_from-complete ids n m f h (omega (arith, l))))
marks_from-complete ids (suc n) (deprecated {marks} e a r m) f h l =
    let k = argument-shortens _ _ _ r in rw e (then_gives (marks_from ids n) (deprecated_gives ids marks a r) (marks_from-complete ids n m f h (omega (arith, k, l))))
marks_from-complete ids (suc n) (external_id {marks} e a m) f h l =
    rw e (then_gives (marks_from ids n) (id_gives_mark ids marks (ids_may ids m refl f) a) (marks_from-complete ids n m f h (omega (arith, l))))

marks-complete : (ids : Bool) {ts rest : List Token} {all : Marks} → ReadsMarks no_marks ts all rest → (ids ≡ false → all.external_id ≡ None) → begins At rest ≡ false
    → marks_in_front ids ts ≡ Found all rest
unfolding marks_in_front
marks-complete ids {ts} m f h = marks_from-complete ids (suc (length ts)) m f h (omega arith)

gates_give : (marks : Marks) {given : Gates} (rest : List Token) → gates_of_marks marks ≡ Some given → gates_behind marks rest ≡ Found given rest
gates_give marks rest e = rw e refl

-- Gates are found where no `@` follows them.
pub gates-complete : {ts rest : List Token} {given : Gates} → ReadsGates ts given rest → begins At rest ≡ false → gates_in_front ts ≡ Found given rest
gates-complete {rest = rest} (gates marks m n e) h = then_gives _ (marks-complete false m (λ k. n) h) (gates_give marks rest e)

-- What stands in front of an item is found where no `@` follows it.
pub prefix-complete : {docs : Documentation} {ts rest : List Token} {pre : Prefix} → ReadsPrefix docs ts pre rest → begins At rest ≡ false
    → prefix_in_front docs ts ≡ Found pre rest
prefix-complete {rest = rest} (prefix marks m e) h = then_gives _ (marks-complete true m (λ k. absurd (cc k)) h) (made_gives _ (gates_give marks rest e))
