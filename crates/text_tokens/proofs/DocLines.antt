-- Lines that are written with a line feed behind each are the lines of that text, also without the last line feed where the last line has bytes.
use Rattle.std.proofs.Common.{◌≡◌, refl, sym, ap, ◌∙◌, ℕ, zero, suc, ◌+◌, ◌-◌, ◌<◌, ◌≤◌, ◌==◌, not, Bool, true, false, cond, List, [], ◌∷◌, ◌++◌, length, take, get_or, if◌then◌else◌, arith, append-nil, length-append}
use Rattle.std.proofs.lemmas.{Bool.Decides.nat_tests}
use Rattle.std.specs.{List.list_all, List.AllByRecursion, List.slice_split, List.onto_first, Str.Lines.lines, Str.Lines.lines_of_parts, Str.Lines.strip_carriage_return}
use Rattle.base_lemmas.proofs.Bools.{left_of, right_of}
use Rattle.wit_model.specs.Text.{Text}
use Rattle.text_tokens.specs.Gathered.{IsLine, written}
use Rattle.std.proofs.lemmas.Bool.{not-true}

-- whether a byte is a line feed
abbrev is_feed : ℕ → Bool
is_feed b = b == 10

-- whether no line feed stands in a text
abbrev pub one_line : Text → Bool
one_line text = list_all (λ b. not (b == 10)) text

abbrev parts : Text → List Text
parts text = slice_split is_feed text

-- ---- where a line ends

split_line : (line rest : Text) → one_line line ≡ true → parts (line ++ (10 ∷ rest)) ≡ line ∷ parts rest
split_line [] rest h = refl
split_line (c ∷ cs) rest h =
    let e = not-true (c == 10) (left_of (not (c == 10)) (one_line cs) h) in
    ap (λ b. cond b ([] ∷ parts (cs ++ (10 ∷ rest))) (onto_first c (parts (cs ++ (10 ∷ rest))))) e ∙ ap (onto_first c) (split_line cs rest (right_of (not (c == 10)) (one_line cs) h))

split_last : (line : Text) → one_line line ≡ true → parts line ≡ line ∷ []
split_last [] h = refl
split_last (c ∷ cs) h =
    let e = not-true (c == 10) (left_of (not (c == 10)) (one_line cs) h) in
    ap (λ b. cond b ([] ∷ parts cs) (onto_first c (parts cs))) e ∙ ap (onto_first c) (split_last cs (right_of (not (c == 10)) (one_line cs) h))

-- the parts of a text are one at least
record Parts (text : Text) : Type 0 where
  first : Text
  more : List Text
  here : parts text ≡ first ∷ more

onto_some : (c : ℕ) (xs : List Text) (first : Text) (more : List Text) → xs ≡ first ∷ more → onto_first c xs ≡ (c ∷ first) ∷ more
onto_some c xs first more e = ap (onto_first c) e

parts_some : (text : Text) → Parts text
parts_some [] = record { first = []; more = []; here = refl }
parts_some (c ∷ cs) = go (c == 10) refl (parts_some cs)
  where
    go : (b : Bool) → (c == 10) ≡ b → Parts cs → Parts (c ∷ cs)
    go true e p = record { first = []; more = parts cs; here = ap (λ b. cond b ([] ∷ parts cs) (onto_first c (parts cs))) e }
    go false e p = record {
      first = c ∷ p.first;
      more = p.more;
      here = ap (λ b. cond b ([] ∷ parts cs) (onto_first c (parts cs))) e ∙ onto_some c (parts cs) p.first p.more p.here;
    }

stripped : (line : Text) → IsLine line → strip_carriage_return line ≡ line
stripped line l = ap (λ b. if b then take (length line - 1) line else line) l.ends

lines_with : (line rest : Text) → IsLine line → lines (line ++ (10 ∷ rest)) ≡ line ∷ lines rest
lines_with line rest l =
    let p = parts_some rest in
    ap lines_of_parts (split_line line rest l.one ∙ ap (λ x. line ∷ x) p.here)
    ∙ (ap (λ x. x ∷ lines_of_parts (p.first ∷ p.more)) (stripped line l) ∙ ap (λ x. line ∷ lines_of_parts x) (sym p.here))

-- What is written has its lines.
pub written_lines : (found : List Text) → AllByRecursion IsLine found → lines (written found) ≡ found
written_lines [] h = refl
written_lines (line ∷ more) h = lines_with line (written more) h.0 ∙ ap (λ x. line ∷ x) (written_lines more h.1)

-- ---- without the last line feed

nonempty : (n : ℕ) → 0 < n → (n == 0) ≡ false
nonempty n h = grind (arith, nat_tests)

some_line : (c : ℕ) (cs : Text) → IsLine (c ∷ cs) → lines (c ∷ cs) ≡ (c ∷ cs) ∷ []
some_line c cs l = ap lines_of_parts (split_last (c ∷ cs) l.one) ∙ ap (λ b. if b then [] else (c ∷ cs) ∷ []) (nonempty (length (c ∷ cs)) (omega arith))

last_line : (line : Text) → 2 ≤ length (line ++ (10 ∷ [])) → IsLine line → lines line ≡ line ∷ []
last_line [] h l = absurd (omega arith)
last_line (c ∷ cs) h l = some_line c cs l

take_front : (xs ys : Text) (n : ℕ) → take (length xs + n) (xs ++ ys) ≡ xs ++ take n ys
take_front [] ys n = let z : 0 + n ≡ n = omega arith in ap (λ m. take m ys) z
take_front (x ∷ xs) ys n =
    let z : length (x ∷ xs) + n ≡ suc (length xs + n) = omega arith in ap (λ m. take m (x ∷ xs ++ ys)) z ∙ ap (λ zs. x ∷ zs) (take_front xs ys n)

get_front : (xs ys : Text) (n : ℕ) → get_or (xs ++ ys) (length xs + n) 0 ≡ get_or ys n 0
get_front [] ys n = let z : 0 + n ≡ n = omega arith in ap (λ m. get_or ys m 0) z
get_front (x ∷ xs) ys n =
    let z : length (x ∷ xs) + n ≡ suc (length xs + n) = omega arith in ap (λ m. get_or (x ∷ xs ++ ys) m 0) z ∙ get_front xs ys n

written_some : (line : Text) (more : List Text) → 1 ≤ length (written (line ∷ more))
written_some line more = omega (arith, length-append line (10 ∷ written more))

-- What is written has its lines without the last line feed, where no line feed stands in front of that.
pub cut_lines : (found : List Text) → AllByRecursion IsLine found → 2 ≤ length (written found) → (get_or (written found) (length (written found) - 2) 0 ≡ 10 → ⊥)
    → lines (take (length (written found) - 1) (written found)) ≡ found
cut_lines [] h l n = absurd (omega arith)
cut_lines (line ∷ []) h l n =
    let z : length (line ++ (10 ∷ [])) - 1 ≡ length line + 0 = omega (arith, length-append line (10 ∷ [])) in
    ap lines (ap (λ m. take m (line ++ (10 ∷ []))) z ∙ (take_front line (10 ∷ []) 0 ∙ append-nil line)) ∙ last_line line l h.0
cut_lines (line ∷ next ∷ more) h l n = go (length (written (next ∷ more))) refl (cut_lines (next ∷ more) h.1)
  where
    behind : Text
    behind = written (next ∷ more)

    whole : length (line ++ (10 ∷ behind)) ≡ length line + suc (length behind)
    whole = length-append line (10 ∷ behind)

    byte : (k : ℕ) → length (line ++ (10 ∷ behind)) - 2 ≡ length line + k → get_or (10 ∷ behind) k 0 ≡ 10 → ⊥
    byte k z e = n (ap (λ m. get_or (line ++ (10 ∷ behind)) m 0) z ∙ (get_front line (10 ∷ behind) k ∙ e))

    go : (count : ℕ) → length behind ≡ count
        → (2 ≤ length behind → (get_or behind (length behind - 2) 0 ≡ 10 → ⊥) → lines (take (length behind - 1) behind) ≡ next ∷ more)
        → lines (take (length (line ++ (10 ∷ behind)) - 1) (line ++ (10 ∷ behind))) ≡ line ∷ next ∷ more
    go zero e i = let s = written_some next more in absurd (omega arith)
    go (suc zero) e i = absurd (byte 0 (let w = whole in omega arith) refl)
    go (suc (suc count)) e i =
        let w = whole in
        let z : length (line ++ (10 ∷ behind)) - 1 ≡ length line + suc (length behind - 1) = omega arith in
        let y : length (line ++ (10 ∷ behind)) - 2 ≡ length line + suc (length behind - 2) = omega arith in
        ap lines (ap (λ m. take m (line ++ (10 ∷ behind))) z ∙ take_front line (10 ∷ behind) (suc (length behind - 1)))
        ∙ (lines_with line (take (length behind - 1) behind) h.0
        ∙ ap (λ x. line ∷ x) (i (omega arith) (λ f. byte (suc (length behind - 2)) y f)))

pub none_written : (found : List Text) → length (written found) ≡ 0 → [] ≡ found
none_written [] h = refl
none_written (line ∷ more) h = let s = written_some line more in absurd (omega arith)

-- the last byte that is written
pub last_byte : (found : List Text) → 1 ≤ length (written found) → get_or (written found) (length (written found) - 1) 0 ≡ 10
last_byte [] h = absurd (omega arith)
last_byte (line ∷ []) h =
    let z : length (line ++ (10 ∷ [])) - 1 ≡ length line + 0 = omega (arith, length-append line (10 ∷ [])) in
    ap (λ m. get_or (line ++ (10 ∷ [])) m 0) z ∙ get_front line (10 ∷ []) 0
last_byte (line ∷ next ∷ more) h =
    let s = written_some next more in
    let w = length-append line (10 ∷ written (next ∷ more)) in
    let z : length (line ++ (10 ∷ written (next ∷ more))) - 1 ≡ length line + suc (length (written (next ∷ more)) - 1) = omega arith in
    ap (λ m. get_or (line ++ (10 ∷ written (next ∷ more))) m 0) z
    ∙ (get_front line (10 ∷ written (next ∷ more)) (suc (length (written (next ∷ more)) - 1)) ∙ last_byte (next ∷ more) s)
