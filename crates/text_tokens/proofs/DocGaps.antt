-- The documentation in a gap, comment by comment.
use Rattle.std.proofs.Common.{◌≡◌, refl, sym, ap, ◌∙◌, subst, ℕ, zero, suc, ◌+◌, ◌-◌, ◌<◌, ◌≤◌, ◌==◌, Bool, true, false, List, [], ◌∷◌, ◌++◌, Option, Some, None, length, take, drop, get_or, slice_range, if◌then◌else◌, arith, length-drop, append-nil, append_assoc}
use Rattle.std.proofs.lemmas.{Bool.eqb-true, List.drop_all}
use Rattle.std.proofs.lemmas.Str.{IsCharBoundary-after_ascii}
use Rattle.std.specs.{List.AllByRecursion, Str.IsCharBoundary, Str.IsUtf8}
use Rattle.base_lemmas.proofs.Bools.{no-and, right_of}
use Rattle.wit_model.specs.Text.{Text}
use Rattle.print_grammar.specs.Token.{after_comment, begins_comment}
use Rattle.text_tokens.specs.Comments.{after_block, begins_block, behind_one}
use Rattle.text_tokens.specs.Documentation.{block_docs, docs_from, docs_in, first_line, line_docs, within}
use Rattle.text_tokens.specs.Gathered.{AddsDocs, IsLine, written}
use Rattle.text_tokens.proofs.CommentFacts.{drop-at, drop-two}
use Rattle.text_tokens.proofs.CutTexts.{after_shorter, block_shorter, slash_no_line_feed}
use Rattle.text_tokens.proofs.DocLines.{one_line}
use Rattle.text_tokens.proofs.DocSteps.{block_docs_lines, first_one, line_docs_lines, written-append}
use Rattle.text_tokens.proofs.Fronts.{behind_at}

-- ---- what comes first

-- what a closed comment documents, and what more
abbrev closed : ℕ → List ℕ → Option (List ℕ) → List Text
closed n cs None = []
closed n cs (Some rest) = block_docs (within (behind_one cs) rest) ++ docs_from n rest

-- the documentation by what comes first
abbrev docs_by : Bool → Bool → ℕ → List ℕ → List Text
docs_by true b n cs = line_docs (first_line (behind_one cs)) ++ docs_from n (after_comment cs)
docs_by false true n cs = closed n cs (after_block 0 (behind_one cs))
docs_by false false n cs = docs_from n cs

docs_are : (n c : ℕ) (cs : List ℕ) (a b : Bool) → begins_comment (c ∷ cs) ≡ a → begins_block (c ∷ cs) ≡ b → docs_from (suc n) (c ∷ cs) ≡ docs_by a b n cs
unfolding docs_from
docs_are n c cs true b e f = rw (e, docs_from) refl
docs_are n c cs false true e f = rw (e, f, docs_from) (go (after_block 0 (behind_one cs)))
  where
    go : (o : Option (List ℕ)) → elim o [ None ↦ [] | Some rest ↦ block_docs (within (behind_one cs) rest) ++ docs_from n rest ] ≡ closed n cs o
    go None = refl
    go (Some rest) = refl
docs_are n c cs false false e f = rw (e, f, docs_from) refl

docs_none : (n : ℕ) → docs_from n [] ≡ []
unfolding docs_from
docs_none zero = refl
docs_none (suc n) = refl

behind_shorter : (cs : List ℕ) → length (behind_one cs) ≤ length cs
behind_shorter [] = omega arith
behind_shorter (c ∷ cs) = omega arith

-- A count that is no less than the length is as good.
docs_count : (n m : ℕ) (text : List ℕ) → length text ≤ n → length text ≤ m → docs_from n text ≡ docs_from m text
docs_count n m [] h k = docs_none n ∙ sym (docs_none m)
docs_count zero m (c ∷ cs) h k = absurd (omega arith)
docs_count (suc n) zero (c ∷ cs) h k = absurd (omega arith)
docs_count (suc n) (suc m) (c ∷ cs) h k =
    docs_are n c cs (begins_comment (c ∷ cs)) (begins_block (c ∷ cs)) refl refl
    ∙ (go (begins_comment (c ∷ cs)) (begins_block (c ∷ cs)) (after_block 0 (behind_one cs)) refl (λ text a b. docs_count n m text a b)
    ∙ sym (docs_are m c cs (begins_comment (c ∷ cs)) (begins_block (c ∷ cs)) refl refl))
  where
    go : (a b : Bool) (o : Option (List ℕ)) → after_block 0 (behind_one cs) ≡ o
        → ((text : List ℕ) → length text ≤ n → length text ≤ m → docs_from n text ≡ docs_from m text) → docs_by a b n cs ≡ docs_by a b m cs
    go true b o e i =
        let s = after_shorter cs in ap (λ x. line_docs (first_line (behind_one cs)) ++ x) (i (after_comment cs) (omega arith) (omega arith))
    go false true None e i = ap (closed n cs) e ∙ sym (ap (closed m cs) e)
    go false true (Some rest) e i =
        let s = block_shorter (behind_one cs) 0 rest e in
        let t = behind_shorter cs in
        ap (closed n cs) e
        ∙ (ap (λ x. block_docs (within (behind_one cs) rest) ++ x) (i rest (omega arith) (omega arith)) ∙ sym (ap (closed m cs) e))
    go false false o e i = i cs (omega arith) (omega arith)

-- ---- at a byte of a gap

docs_at : (gap : Text) (at : ℕ) (a b : Bool) → at < length gap → begins_comment (drop at gap) ≡ a → begins_block (drop at gap) ≡ b
    → docs_in (drop at gap) ≡ docs_by a b (length (drop (at + 1) gap)) (drop (at + 1) gap)
docs_at gap at a b h e f =
    let cs = drop (at + 1) gap in
    let whole = drop-at gap at h in
    ap docs_in whole ∙ docs_are (length cs) (get_or gap at 0) cs a b (ap begins_comment (sym whole) ∙ e) (ap begins_block (sym whole) ∙ f)

docs_fewer : (n : ℕ) (gap : Text) (next : ℕ) → length (drop next gap) ≤ n → docs_from n (drop next gap) ≡ docs_in (drop next gap)
docs_fewer n gap next h = docs_count n (length (drop next gap)) (drop next gap) h (omega arith)

after_second : (c : ℕ) (cs : List ℕ) → begins_comment (c ∷ cs) ≡ true → after_comment cs ≡ after_comment (behind_one cs)
after_second c [] h = refl
after_second c (d ∷ ds) h = ap (λ b. if b then d ∷ ds else after_comment ds) (slash_no_line_feed d (right_of (c == 47) (d == 47) h))

first_is : (text : Text) → first_line text ≡ take (length text - length (after_comment text)) text
first_is [] = refl
first_is (c ∷ cs) = go (c == 10) (first_is cs) (after_shorter cs)
  where
    go : (b : Bool) → first_line cs ≡ take (length cs - length (after_comment cs)) cs → length (after_comment cs) ≤ length cs
        → (if b then [] else c ∷ first_line cs) ≡ take (length (c ∷ cs) - length (if b then c ∷ cs else after_comment cs)) (c ∷ cs)
    go true i s = let z : length (c ∷ cs) - length (c ∷ cs) ≡ 0 = omega arith in sym (ap (λ n. take n (c ∷ cs)) z)
    go false i s =
        let z : length (c ∷ cs) - length (after_comment cs) ≡ suc (length cs - length (after_comment cs)) = omega arith in
        ap (λ x. c ∷ x) i ∙ sym (ap (λ n. take n (c ∷ cs)) z)

pub comment_adds : (gap : Text) (at end : ℕ) (old new : Text) → at + 2 ≤ length gap → begins_comment (drop at gap) ≡ true → drop end gap ≡ after_comment (drop (at + 2) gap)
    → at + 2 ≤ end → end ≤ length gap → new ≡ old ++ written (line_docs (slice_range gap (at + 2) end)) → AddsDocs gap at old new end
comment_adds gap at end old new h b e f w n =
    let cs = drop (at + 1) gap in
    let whole = drop-at gap at (omega arith) in
    let after : after_comment cs ≡ drop end gap =
    after_second (get_or gap at 0) cs (ap begins_comment (sym whole) ∙ b) ∙ (ap after_comment (behind_at gap at) ∙ sym e) in
    let count : length (drop (at + 2) gap) - length (after_comment (drop (at + 2) gap)) ≡ end - (at + 2) =
    ap (λ x. length (drop (at + 2) gap) - length x) (sym e) ∙ omega (arith, length-drop (at + 2) gap, length-drop end gap) in
    let line : first_line (behind_one cs) ≡ slice_range gap (at + 2) end =
    ap first_line (behind_at gap at) ∙ (first_is (drop (at + 2) gap) ∙ ap (λ m. take m (drop (at + 2) gap)) count) in
    record {
      added = line_docs (slice_range gap (at + 2) end);
      here = n;
      are_lines = line_docs_lines (slice_range gap (at + 2) end) (ap one_line (sym line) ∙ first_one (behind_one cs));
      docs =
          docs_at gap at true (begins_block (drop at gap)) (omega arith) b refl
          ∙ (ap (λ x. line_docs x ++ docs_from (length cs) (after_comment cs)) line
          ∙ ap (λ x. line_docs (slice_range gap (at + 2) end) ++ x)
          (ap (docs_from (length cs)) after ∙ docs_fewer (length cs) gap end (omega (arith, length-drop end gap, length-drop (at + 1) gap))));
      further = omega arith;
      within = w;
    }

pub block_adds : (gap : Text) (at end : ℕ) (old new : Text) → at + 2 ≤ length gap → begins_comment (drop at gap) ≡ false → begins_block (drop at gap) ≡ true
    → Some (drop end gap) ≡ after_block 0 (drop (at + 2) gap) → at + 4 ≤ end → end ≤ length gap → new ≡ old ++ written (block_docs (slice_range gap (at + 2) (end - 2)))
    → AddsDocs gap at old new end
block_adds gap at end old new h a b e f w n =
    let cs = drop (at + 1) gap in
    let after : after_block 0 (behind_one cs) ≡ Some (drop end gap) = ap (after_block 0) (behind_at gap at) ∙ sym e in
    let count : length (drop (at + 2) gap) - (length (drop end gap) + 2) ≡ (end - 2) - (at + 2) = omega (arith, length-drop (at + 2) gap, length-drop end gap) in
    let text : within (behind_one cs) (drop end gap) ≡ slice_range gap (at + 2) (end - 2) =
    ap (λ x. within x (drop end gap)) (behind_at gap at) ∙ ap (λ m. take m (drop (at + 2) gap)) count in
    record {
      added = block_docs (slice_range gap (at + 2) (end - 2));
      here = n;
      are_lines = block_docs_lines (slice_range gap (at + 2) (end - 2));
      docs =
          docs_at gap at false true (omega arith) a b
          ∙ (ap (closed (length cs) cs) after
          ∙ (ap (λ x. block_docs x ++ docs_from (length cs) (drop end gap)) text
          ∙ ap (λ x. block_docs (slice_range gap (at + 2) (end - 2)) ++ x) (docs_fewer (length cs) gap end (omega (arith, length-drop end gap, length-drop (at + 1) gap)))));
      further = omega arith;
      within = w;
    }

pub open_adds : (gap : Text) (at : ℕ) (old : Text) → at + 2 ≤ length gap → begins_comment (drop at gap) ≡ false → begins_block (drop at gap) ≡ true
    → None ≡ after_block 0 (drop (at + 2) gap) → AddsDocs gap at old old (length gap)
open_adds gap at old h a b e =
    let cs = drop (at + 1) gap in
    record {
      added = [];
      here = sym (append-nil old);
      are_lines = tt;
      docs =
          docs_at gap at false true (omega arith) a b
          ∙ (ap (closed (length cs) cs) (ap (after_block 0) (behind_at gap at) ∙ sym e) ∙ sym (ap docs_in (drop_all (length gap) gap (omega arith)) ∙ docs_none 0));
      further = omega arith;
      within = omega arith;
    }

pub other_adds : (gap : Text) (at : ℕ) (old : Text) → at < length gap → begins_comment (drop at gap) ≡ false → begins_block (drop at gap) ≡ false
    → AddsDocs gap at old old (at + 1)
other_adds gap at old h a b = record {
  added = [];
  here = sym (append-nil old);
  are_lines = tt;
  docs = docs_at gap at false false h a b;
  further = omega arith;
  within = omega arith;
}

-- ---- where a gap is cut

pub comment_within : (text : Text) (at : ℕ) → begins_comment (drop at text) ≡ true → at + 2 ≤ length text
comment_within text at h = omega (arith, length-drop at text, long (drop at text) h)
  where
    long : (cs : List ℕ) → begins_comment cs ≡ true → 2 ≤ length cs
    long [] h = absurd cc
    long (c ∷ []) h = absurd (cc (h, no-and (c == 47)))
    long (c ∷ d ∷ cs) h = omega arith

after_byte : (gap : Text) (at d : ℕ) → IsUtf8 gap → at + 2 ≤ length gap → get_or gap (at + 1) 0 ≡ d → d < 128 → IsCharBoundary gap (at + 2)
after_byte gap at d u h e l =
    let z : at + 1 + 1 ≡ at + 2 = omega arith in
    subst (λ n. IsCharBoundary gap n) z (IsCharBoundary-after_ascii gap (at + 1) u (omega arith) (omega (arith, e)))

pub slash_boundary : (gap : Text) (at : ℕ) → IsUtf8 gap → at + 2 ≤ length gap → begins_comment (drop at gap) ≡ true → IsCharBoundary gap (at + 2)
slash_boundary gap at u h b =
    let c = get_or gap at 0 in
    let d = get_or gap (at + 1) 0 in
    after_byte gap at 47 u h (eqb-true d 47 (right_of (c == 47) (d == 47) (ap begins_comment (sym (drop-two gap at (omega arith))) ∙ b))) (omega arith)

pub star_boundary : (gap : Text) (at : ℕ) → IsUtf8 gap → at + 2 ≤ length gap → begins_block (drop at gap) ≡ true → IsCharBoundary gap (at + 2)
star_boundary gap at u h b =
    let c = get_or gap at 0 in
    let d = get_or gap (at + 1) 0 in
    after_byte gap at 42 u h (eqb-true d 42 (right_of (c == 47) (d == 42) (ap begins_block (sym (drop-two gap at (omega arith))) ∙ b))) (omega arith)

-- ---- a whole gap

-- The documentation up to a byte is gathered.
pub record Gathers (gap : Text) (at : ℕ) (new : Text) : Type 0 where
  pub added : List Text
  pub here : new ≡ written added
  pub are_lines : AllByRecursion IsLine added
  pub docs : docs_in gap ≡ added ++ docs_in (drop at gap)
  pub within : at ≤ length gap

all_lines : (xs ys : List Text) → AllByRecursion IsLine xs → AllByRecursion IsLine ys → AllByRecursion IsLine (xs ++ ys)
all_lines [] ys a b = b
all_lines (x ∷ xs) ys a b = (a.0, all_lines xs ys a.1 b)

pub gathers_more : (gap : Text) (at next : ℕ) (old new : Text) → Gathers gap at old → AddsDocs gap at old new next → Gathers gap next new
gathers_more gap at next old new g a = record {
  added = g.added ++ a.added;
  here = a.here ∙ (ap (λ x. x ++ written a.added) g.here ∙ sym (written-append g.added a.added));
  are_lines = all_lines g.added a.added g.are_lines a.are_lines;
  docs = g.docs ∙ (ap (λ x. g.added ++ x) a.docs ∙ sym (append_assoc g.added a.added (docs_in (drop next gap))));
  within = a.within;
}

pub gathers_all : (gap : Text) (at : ℕ) (new : Text) (g : Gathers gap at new) → length gap ≤ at → g.added ≡ docs_in gap
gathers_all gap at new g h = sym (g.docs ∙ (ap (λ x. g.added ++ docs_in x) (drop_all at gap h) ∙ (ap (λ x. g.added ++ x) (docs_none 0) ∙ append-nil g.added)))
