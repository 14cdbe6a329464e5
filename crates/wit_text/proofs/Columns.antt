-- The characters since the last line feed, counted from the front. Serves places::column_behind.
use Rattle.std.proofs.Common.{◌≡◌, ◌∙◌, ◌+◌, arith, not, sym, ap, refl, ℕ, Bool, true, false, cond, List, [], ◌∷◌, count_by, reverse}
use Rattle.std.specs.List.{fold, take_while}
use Rattle.std.proofs.lemmas.List.{reverse-append, reverse-reverse}
use Rattle.std.proofs.lemmas.List.Sums.{fold-append, sum_by-cons, take_while-cons}
use Rattle.wit_text.specs.Places.{begins_character, is_in_line, is_line_feed, since_line_feed}

one_more : (b : ℕ) (ys : List ℕ) → count_by begins_character (b ∷ ys) ≡ cond (begins_character b) 1 0 + count_by begins_character ys
one_more b ys = sum_by-cons (λ x. cond (begins_character x) 1 0) b ys

with_one : (n z m : ℕ) → n ≡ z → m ≡ 1 + z → n + 1 ≡ m
with_one n z m h k = omega arith

with_none : (n z m : ℕ) → n ≡ z → m ≡ 0 + z → n ≡ m
with_none n z m h k = omega arith

by_case : (feed begins : Bool) (n : ℕ) (b : ℕ) (zs : List ℕ) → n ≡ count_by begins_character zs → begins_character b ≡ begins
    → cond feed 0 (cond begins (n + 1) n) ≡ count_by begins_character (cond (not feed) (b ∷ zs) [])
by_case true begins n b zs h k = refl
by_case false true n b zs h k = with_one n _ _ h (one_more b zs ∙ ap (λ x. cond x 1 0 + count_by begins_character zs) k)
by_case false false n b zs h k = with_none n _ _ h (one_more b zs ∙ ap (λ x. cond x 1 0 + count_by begins_character zs) k)

one_byte : (b n : ℕ) (ys : List ℕ) → n ≡ count_by begins_character (take_while is_in_line ys)
    → since_line_feed n b ≡ count_by begins_character (take_while is_in_line (b ∷ ys))
one_byte b n ys h = by_case (is_line_feed b) (begins_character b) n b (take_while is_in_line ys) h refl
    ∙ ap (count_by begins_character) (sym (take_while-cons is_in_line b ys))

pub counted : (ys : List ℕ) → fold since_line_feed 0 (reverse ys) ≡ count_by begins_character (take_while is_in_line ys)
counted [] = refl
counted (b ∷ ys) =
    ap (fold since_line_feed 0) (reverse-append (b ∷ []) ys) ∙ fold-append since_line_feed 0 (reverse ys) (b ∷ []) ∙ one_byte b (fold since_line_feed 0 (reverse ys)) ys (counted ys)

pub counted_behind : (xs : List ℕ) → fold since_line_feed 0 xs ≡ count_by begins_character (take_while is_in_line (reverse xs))
counted_behind xs = ap (fold since_line_feed 0) (sym (reverse-reverse xs)) ∙ counted (reverse xs)
