-- What a comment documents: lines with no line feed in them and no carriage return at their end.
use Rattle.std.proofs.Common.{◌≡◌, refl, sym, ap, ◌∙◌, ℕ, zero, suc, ◌-◌, ◌==◌, not, ◌&&◌, Bool, true, false, cond, List, [], ◌∷◌, ◌++◌, length, map, take, slice_index, if◌then◌else◌, arith, append_assoc}
use Rattle.std.proofs.lemmas.Bool.{and_from, eqb-true}
use Rattle.std.proofs.lemmas.{List.map-append, Simd.map-map}
use Rattle.std.specs.Borrow.{Bor}
use Rattle.std.specs.{List.list_all, List.AllByRecursion, List.slice_split, List.onto_first, Str.trim, Str.Lines.lines, Str.Lines.lines_of_parts}
use Rattle.base_lemmas.proofs.Bools.{left_of, right_of, and-true}
use Rattle.wit_model.specs.Text.{Text}
use Rattle.print_grammar.specs.Token.{begins_with_slash}
use Rattle.text_tokens.specs.Comments.{begins_with_star}
use Rattle.text_tokens.specs.Documentation.{block_docs, first_line, line_docs, without_returns, without_space}
use Rattle.text_tokens.specs.Gathered.{IsLine, written}
use Rattle.text_tokens.proofs.DocLines.{one_line}

-- ---- carriage returns at the end

-- whether carriage returns are all of a text
abbrev returns : Text → Bool
returns text = list_all (λ b. b == 13) text

returns_one_more : (xs : Text) → returns (xs ++ (13 ∷ [])) ≡ returns xs
returns_one_more [] = refl
returns_one_more (c ∷ cs) = ap (λ b. (c == 13) && b) (returns_one_more cs)

pub return_cut : (xs : Text) → without_returns (xs ++ (13 ∷ [])) ≡ without_returns xs
return_cut [] = refl
return_cut (c ∷ cs) =
    ap (λ b. if b then [] else c ∷ without_returns (cs ++ (13 ∷ []))) (returns_one_more (c ∷ cs))
    ∙ ap (λ x. if returns (c ∷ cs) then [] else c ∷ x) (return_cut cs)

returns_front : (c : ℕ) (cs : Text) → returns (c ∷ cs) ≡ true → (front : Text) × (c ∷ cs ≡ front ++ (13 ∷ []))
returns_front c [] h = ([], ap (λ x. x ∷ []) (eqb-true c 13 (left_of (c == 13) true h)))
returns_front c (d ∷ ds) h = let i = returns_front d ds (right_of (c == 13) (returns (d ∷ ds)) h) in (c ∷ i.0, ap (λ x. c ∷ x) i.1)

pub no_return : (xs : Text) → ((front : Text) → xs ≡ front ++ (13 ∷ []) → ⊥) → xs ≡ without_returns xs
no_return [] h = refl
no_return (c ∷ cs) h = go (returns (c ∷ cs)) refl (no_return cs (λ front e. h (c ∷ front) (ap (λ x. c ∷ x) e)))
  where
    go : (b : Bool) → returns (c ∷ cs) ≡ b → cs ≡ without_returns cs → c ∷ cs ≡ (if b then [] else c ∷ without_returns cs)
    go true e i = let f = returns_front c cs e in absurd (h f.0 f.1)
    go false e i = ap (λ x. c ∷ x) i

returns_none : (cs : Text) → without_returns cs ≡ [] → returns cs ≡ true
returns_none [] e = refl
returns_none (c ∷ cs) e = go (returns (c ∷ cs)) refl e
  where
    go : (b : Bool) → returns (c ∷ cs) ≡ b → (if b then [] else c ∷ without_returns cs) ≡ [] → returns (c ∷ cs) ≡ true
    go true f g = f
    go false f g = absurd cc

-- whether a text ends with a carriage return
abbrev ends_so : Text → Bool
ends_so text = slice_index text (length text - 1) == 13

last_of : (c d : ℕ) (ds : Text) → ends_so (c ∷ d ∷ ds) ≡ ends_so (d ∷ ds)
last_of c d ds =
    let z : length (c ∷ d ∷ ds) - 1 ≡ suc (length (d ∷ ds) - 1) = omega arith in ap (λ n. slice_index (c ∷ d ∷ ds) n == 13) z

no_end : (xs : Text) → ends_so (without_returns xs) ≡ false
no_end [] = refl
no_end (c ∷ cs) = go (returns (c ∷ cs)) refl (without_returns cs) refl (no_end cs)
  where
    go : (b : Bool) → returns (c ∷ cs) ≡ b → (rest : Text) → without_returns cs ≡ rest → ends_so (without_returns cs) ≡ false
        → ends_so (if b then [] else c ∷ without_returns cs) ≡ false
    go true e rest f i = refl
    go false e [] f i = ap (λ x. ends_so (c ∷ x)) f ∙ (sym (and-true (c == 13)) ∙ (ap (λ b. (c == 13) && b) (sym (returns_none cs f)) ∙ e))
    go false e (d ∷ ds) f i = ap (λ x. ends_so (c ∷ x)) f ∙ (last_of c d ds ∙ (ap ends_so (sym f) ∙ i))

one_kept : (xs : Text) → one_line xs ≡ true → one_line (without_returns xs) ≡ true
one_kept [] h = refl
one_kept (c ∷ cs) h = go (returns (c ∷ cs)) (one_kept cs (right_of (not (c == 10)) (one_line cs) h))
  where
    go : (b : Bool) → one_line (without_returns cs) ≡ true → one_line (if b then [] else c ∷ without_returns cs) ≡ true
    go true i = refl
    go false i = and_from (not (c == 10)) (one_line (without_returns cs)) (left_of (not (c == 10)) (one_line cs) h) i

-- A text without a line feed is a line, without the carriage returns at its end.
is_line : (xs : Text) → one_line xs ≡ true → IsLine (without_returns xs)
is_line xs h = record { one = one_kept xs h; ends = no_end xs }

-- ---- what `//` begins

pub no_space : (xs : Text) → ((rest : Text) → xs ≡ 32 ∷ rest → ⊥) → xs ≡ without_space xs
no_space [] h = refl
no_space (c ∷ cs) h = go (c == 32) refl
  where
    go : (b : Bool) → (c == 32) ≡ b → c ∷ cs ≡ (if b then cs else c ∷ cs)
    go true e = absurd (h cs (ap (λ x. x ∷ cs) (eqb-true c 32 e)))
    go false e = refl

pub slash_first : (xs : Text) → begins_with_slash xs ≡ (slice_index xs 0 == 47)
slash_first [] = refl
slash_first (c ∷ cs) = refl

pub star_first : (xs : Text) → begins_with_star xs ≡ (slice_index xs 0 == 42)
star_first [] = refl
star_first (c ∷ cs) = refl

pub line_docs_none : (xs : Text) → ((rest : Text) → xs ≡ 47 ∷ rest → ⊥) → line_docs xs ≡ []
line_docs_none [] h = refl
line_docs_none (c ∷ cs) h = go (c == 47) refl
  where
    go : (b : Bool) → (c == 47) ≡ b → (if b then (if begins_with_slash cs then [] else without_returns (without_space cs) ∷ []) else []) ≡ []
    go true e = absurd (h cs (ap (λ x. x ∷ cs) (eqb-true c 47 e)))
    go false e = refl

pub line_docs_by : (line : Text) (b : Bool) → begins_with_slash line ≡ b → line_docs (47 ∷ line) ≡ (if b then [] else without_returns (without_space line) ∷ [])
line_docs_by line b e = ap (λ b. if b then [] else without_returns (without_space line) ∷ []) e

pub block_docs_none : (xs : Text) → ((rest : Text) → xs ≡ 42 ∷ rest → ⊥) → block_docs xs ≡ []
block_docs_none [] h = refl
block_docs_none (c ∷ cs) h = go (c == 42) refl
  where
    go : (b : Bool) → (c == 42) ≡ b → (if b then (if begins_with_star cs then [] else map without_returns (lines (trim cs))) else []) ≡ []
    go true e = absurd (h cs (ap (λ x. x ∷ cs) (eqb-true c 42 e)))
    go false e = refl

pub block_docs_by : (text : Text) (b : Bool) → begins_with_star text ≡ b → block_docs (42 ∷ text) ≡ (if b then [] else map without_returns (lines (trim text)))
block_docs_by text b e = ap (λ b. if b then [] else map without_returns (lines (trim text))) e

-- ---- what is documented is lines

space_kept : (xs : Text) → one_line xs ≡ true → one_line (without_space xs) ≡ true
space_kept [] h = refl
space_kept (c ∷ cs) h = go (c == 32)
  where
    go : (b : Bool) → one_line (if b then cs else c ∷ cs) ≡ true
    go true = right_of (not (c == 10)) (one_line cs) h
    go false = h

pub first_one : (xs : Text) → one_line (first_line xs) ≡ true
first_one [] = refl
first_one (c ∷ cs) = go (c == 10) refl (first_one cs)
  where
    go : (b : Bool) → (c == 10) ≡ b → one_line (first_line cs) ≡ true → one_line (if b then [] else c ∷ first_line cs) ≡ true
    go true e i = refl
    go false e i = and_from (not (c == 10)) (one_line (first_line cs)) (ap not e) i

pub line_docs_lines : (xs : Text) → one_line xs ≡ true → AllByRecursion IsLine (line_docs xs)
line_docs_lines [] h = tt
line_docs_lines (c ∷ cs) h = go (c == 47) (begins_with_slash cs)
  where
    go : (a b : Bool) → AllByRecursion IsLine (if a then (if b then [] else without_returns (without_space cs) ∷ []) else [])
    go true true = tt
    go true false = (is_line (without_space cs) (space_kept cs (right_of (not (c == 10)) (one_line cs) h)), tt)
    go false b = tt

cut_one : (v : Bool) (b : ℕ) (parts : List Text) → (b == 10) ≡ v → list_all one_line parts ≡ true → list_all one_line (cond v ([] ∷ parts) (onto_first b parts)) ≡ true
cut_one true b parts e h = h
cut_one false b [] e h = and_from (not (b == 10) && true) true (and_from (not (b == 10)) true (ap not e) refl) refl
cut_one false b (part ∷ parts) e h =
    and_from (not (b == 10) && one_line part) (list_all one_line parts)
    (and_from (not (b == 10)) (one_line part) (ap not e) (left_of (one_line part) (list_all one_line parts) h)) (right_of (one_line part) (list_all one_line parts) h)

parts_one : (text : Text) → list_all one_line (slice_split (λ b. b == 10) text) ≡ true
parts_one [] = refl
parts_one (b ∷ bs) = cut_one (b == 10) b (slice_split (λ c. c == 10) bs) refl (parts_one bs)

take_one : (n : ℕ) (text : Text) → one_line text ≡ true → one_line (take n text) ≡ true
take_one zero text h = refl
take_one (suc n) [] h = refl
take_one (suc n) (b ∷ bs) h =
    and_from (not (b == 10)) (one_line (take n bs)) (left_of (not (b == 10)) (one_line bs) h) (take_one n bs (right_of (not (b == 10)) (one_line bs) h))

stripped_one : (v : Bool) (n : ℕ) (text : Text) → one_line text ≡ true → one_line (if v then take n text else text) ≡ true
stripped_one true n text h = take_one n text h
stripped_one false n text h = h

last_one : (v : Bool) (part : Text) → one_line part ≡ true → list_all one_line (if v then [] else part ∷ []) ≡ true
last_one true part h = refl
last_one false part h = and_from (one_line part) true h refl

lines_one : (parts : List Text) → list_all one_line parts ≡ true → list_all one_line (lines_of_parts parts) ≡ true
lines_one [] h = refl
lines_one (part ∷ []) h = last_one (length part == 0) part (left_of (one_line part) true h)
lines_one (part ∷ next ∷ more) h =
    and_from (one_line (if slice_index part (length part - 1) == 13 then take (length part - 1) part else part)) (list_all one_line (lines_of_parts (next ∷ more)))
    (stripped_one (slice_index part (length part - 1) == 13) (length part - 1) part (left_of (one_line part) (list_all one_line (next ∷ more)) h))
    (lines_one (next ∷ more) (right_of (one_line part) (list_all one_line (next ∷ more)) h))

all_lines : (xs : List Text) → list_all one_line xs ≡ true → AllByRecursion IsLine (map without_returns xs)
all_lines [] h = tt
all_lines (x ∷ xs) h = (is_line x (left_of (one_line x) (list_all one_line xs) h), all_lines xs (right_of (one_line x) (list_all one_line xs) h))

pub block_docs_lines : (xs : Text) → AllByRecursion IsLine (block_docs xs)
block_docs_lines [] = tt
block_docs_lines (c ∷ cs) = go (c == 42) (begins_with_star cs)
  where
    go : (a b : Bool) → AllByRecursion IsLine (if a then (if b then [] else map without_returns (lines (trim cs))) else [])
    go true true = tt
    go true false = all_lines (lines (trim cs)) (lines_one (slice_split (λ b. b == 10) (trim cs)) (parts_one (trim cs)))
    go false b = tt

-- ---- what is written

pub written-append : (xs ys : List Text) → written (xs ++ ys) ≡ written xs ++ written ys
written-append [] ys = refl
written-append (x ∷ xs) ys = ap (λ z. x ++ (10 ∷ z)) (written-append xs ys) ∙ sym (append_assoc x (10 ∷ written xs) (written ys))

-- a line more
pub written_on : (start old new : Text) (xs : List (Bor Text)) (x : Bor Text) → old ≡ start ++ written (map (λ line. without_returns line.now) xs)
    → new ≡ old ++ written (without_returns x.now ∷ []) → new ≡ start ++ written (map (λ line. without_returns line.now) (xs ++ x ∷ []))
written_on start old new xs x e f =
    let so_far = map (λ line. without_returns line.now) xs in
    let all = map-append (λ line. without_returns line.now) xs (x ∷ []) in
    f
    ∙ (ap (λ y. y ++ written (without_returns x.now ∷ [])) e
    ∙ (append_assoc start (written so_far) (written (without_returns x.now ∷ []))
    ∙ ap (λ y. start ++ y) (sym (ap written all ∙ written-append so_far (without_returns x.now ∷ [])))))

pub written_all : (start new text : Text) (xs : List (Bor Text)) → new ≡ start ++ written (map (λ line. without_returns line.now) xs) → map (λ line. line.now) xs ≡ lines text
    → new ≡ start ++ written (map without_returns (lines text))
written_all start new text xs e f = e ∙ ap (λ x. start ++ written x) (sym (map-map without_returns (λ line. line.now) xs) ∙ ap (map without_returns) f)
