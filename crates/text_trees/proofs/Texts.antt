-- The tokens of a text are found to be a file exactly where the text is read as that file, and a text has one reading at most.
use Rattle.std.proofs.Common.{◌≡◌, refl, sym, ap, ◌∙◌, subst, ℕ, List, [], ◌∷◌, ◌++◌}
use Rattle.std.proofs.lemmas.List.{append_cancel_right}
use Rattle.print_grammar.specs.{Token.Front, Token.Front.Ended, Token.Front.Skipped, Token.Front.Found as Begins, Token.Token}
use Rattle.text_tokens.specs.{Comments.front_in_text, Gaps.Follows, Gaps.Spaced, Gaps.TextTokens}
use Rattle.text_tokens.specs.Gaps.Follows.{ended, skips, comes}
use Rattle.text_trees.specs.{Grammar.ReadsText, Reads.IsReadAs, TextTree.TextTree}
use Rattle.text_trees.specs.Laws.{OneReading, RefusedTextsAreNotRead, TextsAreRead, docs_here, tokens_here}
use Rattle.text_trees.proofs.Exact.{files_are_read, one_file, refused_are_no_files}

-- ---- tokens

-- what a front leaves, where it is passed over or a token
abbrev left : Front → List ℕ
left (Skipped rest) = rest
left (Begins t rest) = rest
left front = []

ended_so : {gap text : List ℕ} {found : List Spaced} → Follows gap text found → front_in_text text ≡ Ended → found ≡ []
ended_so (ended e) h = refl
ended_so (skips front e f) h = absurd (cc (e, h))
ended_so (comes e f) h = absurd (cc (e, h))

skips_so : {gap text : List ℕ} {found : List Spaced} (front rest : List ℕ) → Follows gap text found → text ≡ front ++ rest → front_in_text text ≡ Skipped rest
    → Follows (gap ++ front) rest found
skips_so front rest (ended e) s h = absurd (cc (e, h))
skips_so {gap} {found = found} front rest (skips {rest = after} before e f) s h =
    let same : after ≡ rest = ap left (sym e ∙ h) in
    let fronts : before ≡ front = append_cancel_right before front rest (ap (λ x. before ++ x) (sym same) ∙ s) in
    subst (λ x. Follows (gap ++ x) rest found) fronts (subst (λ x. Follows (gap ++ before) x found) same f)
skips_so front rest (comes e f) s h = absurd (cc (e, h))

-- what comes behind a token
record Comes (gap rest : List ℕ) (token : Token) (found : List Spaced) : Type 0 where
  more : List Spaced
  all : found ≡ record { gap = gap; token = token } ∷ more
  follows : Follows [] rest more

comes_so : {gap text rest : List ℕ} {token : Token} {found : List Spaced} → Follows gap text found → front_in_text text ≡ Begins token rest → Comes gap rest token found
comes_so (ended e) h = absurd (cc (e, h))
comes_so (skips front e f) h = absurd (cc (e, h))
comes_so {gap} {token = token} (comes {token = other} {found = more} e f) h =
    let same : other ≡ token = cc (e, h) in record {
      more = more;
      all = ap (λ x. record { gap = gap; token = x } ∷ more) same;
      follows = subst (λ x. Follows [] x more) (ap left (sym e ∙ h)) f;
    }

-- The tokens of a text, and the gaps in front of them, are the only ones.
pub one_tokens : {gap text : List ℕ} {a b : List Spaced} → Follows gap text a → Follows gap text b → a ≡ b
one_tokens (ended e) g = sym (ended_so g e)
one_tokens (skips {rest = rest} front e f) g = one_tokens f (skips_so front rest g refl e)
one_tokens {gap} (comes {token = token} e f) g =
    let c = comes_so g e in ap (λ x. record { gap = gap; token = token } ∷ x) (one_tokens f c.follows) ∙ sym c.all

-- ---- texts

-- a text that is read as a file has no other tokens
pub read_tokens : {text : List ℕ} {found : List Spaced} {file : TextTree} → TextTokens text found → IsReadAs text file
    → ReadsText (docs_here found) (tokens_here found) file
read_tokens {text} {found} {file} t r = subst (λ us. ReadsText (docs_here us) (tokens_here us) file) (one_tokens r.spelled t) r.parsed

pub texts_are_read : TextsAreRead
texts_are_read room text found file t = (
  λ e. let r = (files_are_read (docs_here found) room (tokens_here found) [] file).0 e in (record { found = found; spelled = t; parsed = r.0 }, r.1),
  λ r. (files_are_read (docs_here found) room (tokens_here found) [] file).1 (read_tokens t r.0, r.1, refl),
)

pub refused_texts_are_not_read : RefusedTextsAreNotRead
refused_texts_are_not_read room text found rest wanted file t e n r =
    refused_are_no_files (docs_here found) room (tokens_here found) rest wanted file e (read_tokens t r) n

pub one_reading : OneReading
one_reading text one other r s = one_file (docs_here s.found) (tokens_here s.found) one other (read_tokens s.spelled r) s.parsed
