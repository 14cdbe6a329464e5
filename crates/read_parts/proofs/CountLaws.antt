-- The parts that are exported make no more types than the input has bytes.
use Rattle.std.proofs.Common.{rules as std_rules, ◌≡◌, refl, sym, ap, ◌∙◌, subst, ℕ, zero, suc, ◌+◌, ◌≤◌, ◌==◌, ◌||◌, ◌&&◌, arith, Bool, true, false, not, cond, List, [], ◌∷◌, ◌++◌, map, length, length-append, append_assoc, append-nil, Option, Some, None, slice_get}
use Rattle.std.proofs.lemmas.{Bool.eq-eqb, Option.same_Some as some_same}
use Rattle.std.specs.List.{list_any}
use Rattle.wit_model.specs.{Text.Text, Names.is_label}
use Rattle.comp_bytes.specs.Levels.{Entry, IsEntry, IsPartType, PartType, Piece, custom, exports, holds, levels_of, plain, raw_part, raw_piece, shows, types, wraps}
use Rattle.comp_bytes.specs.{Raw.Declaration, Raw.TopExport, Raw.TopType, Form.Sequence, Spelling.IsDeclaration, Spelling.IsSection, Spelling.IsTopType}
use Rattle.comp_bytes.specs.Reading.{◌>>=◌}
use Rattle.comp_bytes.proofs.{ComponentLaws.component_takes, LevelLaws.part_out, PieceLaws.levels_are_sections}
use Rattle.comp_meaning.specs.{ByLevels.Top, ByLevels.top_export, ByLevels.top_part, ByLevels.top_piece, Follow.each, Follow.provided, Follow.when}
use Rattle.comp_meaning.specs.{Reads.is_bare_name, Reads.steps, Rules.distinct}
use Rattle.read_follow.specs.Scopes.{weight, weights}
use Rattle.read_parts.specs.{Counts.types_weight, Counts.pieces_weight, Counts.PartsFit, Exported.part_under, Members.part_weight, Members.parts_weight}
use Rattle.read_parts.specs.Tops.{empty_top}
use Rattle.read_follow.proofs.ScopeLaws.{any_more, fewer}

-- ---- bytes

long_joined : (text front rest : List ℕ) → text ≡ front ++ rest → length text ≡ length front + length rest
long_joined text front rest e = ap length e ∙ length-append front rest

declaration_long : (d : Declaration) (text : List ℕ) → IsDeclaration d text → 1 ≤ length text
declaration_long x text s = search std_rules

declarations_long : (ds : List Declaration) (text : List ℕ) → Sequence IsDeclaration ds text → length ds ≤ length text
declarations_long [] text s = omega arith
declarations_long (d ∷ ds) text s = search (std_rules, long_joined, declaration_long, declarations_long ds s.1 s.4)

entry_long : (e : Entry) (text : List ℕ) → IsEntry e text → weight e ≤ length text
entry_long (plain d) text s = declaration_long d text s
entry_long (holds ds) text s = search (std_rules, long_joined, declarations_long)

entries_long : (es : List Entry) (text : List ℕ) → Sequence IsEntry es text → weights es ≤ length text
entries_long [] text s = omega arith
entries_long (e ∷ es) text s = search (std_rules, long_joined, entry_long, entries_long es s.1 s.4)

part_long : (p : PartType) (text : List ℕ) → IsPartType p text → part_weight p ≤ length text
part_long (shows es) text s = search (std_rules, long_joined, entries_long)
part_long (wraps es name) text s =
    let first : length text ≡ suc (length s.0) = ap length s.1 in
    let v = s.2 in
    let whole = long_joined s.0 v.0 v.1 v.2 in
    let w = v.4 in
    let inner = long_joined v.1 w.0 w.1 w.2 in
    let a = w.3 in
    let tag_1 : length w.0 ≡ suc (length a.0) = ap length a.1 in
    let tag_2 : length a.0 ≡ suc (length a.2.0) = ap length a.2.1 in
    let u = a.2.2 in
    let counted = long_joined a.2.0 u.0 u.1 u.2 in
    let held = entries_long es u.1 u.4 in
    omega (arith, first, whole, inner, tag_1, tag_2, counted, held)

types_long : (ps : List PartType) (text : List ℕ) → Sequence IsTopType (map (λ p. TopType.component (raw_part p)) ps) text → types_weight ps ≤ length text
types_long [] text s = omega arith
types_long (p ∷ ps) text s = search (std_rules, long_joined text s.0 s.1 s.2, part_long p s.0 (part_out p s.0 s.3), part_out p s.0 s.3, types_long ps s.1 s.4)

piece_long : (p : Piece) (text : List ℕ) → IsSection (raw_piece p) text → pieces_weight (p ∷ []) ≤ length text
piece_long (custom name contents) text s = omega arith
piece_long (exports es) text s = omega arith
piece_long (types ps) text s = search (std_rules, long_joined, types_long)

piece_first : (p : Piece) (ps : List Piece) → pieces_weight (p ∷ ps) ≡ pieces_weight (p ∷ []) + pieces_weight ps
piece_first x ps = search std_rules

pieces_long : (ps : List Piece) (text : List ℕ) → Sequence IsSection (map raw_piece ps) text → pieces_weight ps ≤ length text
pieces_long [] text s = omega arith
pieces_long (p ∷ ps) text s = search (std_rules, long_joined, piece_long, piece_first, pieces_long ps s.1 s.4)

bytes_long : (bytes : List ℕ) (ps : List Piece) → levels_of bytes ≡ Some ps → pieces_weight ps ≤ length bytes
bytes_long bytes ps e =
    let s = (component_takes bytes (map raw_piece ps) ((levels_are_sections bytes ps).0 e)).0 in
    let whole = long_joined bytes s.0 s.1 s.2 in
    let held = pieces_long ps s.1 s.4 in
    omega (arith, whole, held)

-- ---- the types at the top

types_both : (ps qs : List PartType) → types_weight (ps ++ qs) ≡ types_weight ps + types_weight qs
types_both [] qs = omega arith
types_both (p ∷ ps) qs = let rest = types_both ps qs in omega (arith, rest)

-- none is of a number that is used, or of an earlier one
abbrev AreFresh : List ℕ → List (Text × ℕ) → Type 0
AreFresh used [] = Unit {0}
AreFresh used (x ∷ xs) = (list_any (λ m. m == x.1) used ≡ false) × AreFresh (used ++ x.1 ∷ []) xs

abbrev number : Text × ℕ → ℕ
number x = x.1

fresh_end : (used : List ℕ) (xs : List (Text × ℕ)) (x : Text × ℕ) → AreFresh used xs → list_any (λ m. m == x.1) (used ++ map number xs) ≡ false → AreFresh used (xs ++ x ∷ [])
fresh_end used [] x f none = (ap (list_any (λ m. m == x.1)) (sym (append-nil used)) ∙ none, tt)
fresh_end used (y ∷ xs) x f none = (f.0, fresh_end (used ++ y.1 ∷ []) xs x f.1 (ap (list_any (λ m. m == x.1)) (append_assoc used (y.1 ∷ []) (map number xs)) ∙ none))

any_number : (n : ℕ) (xs : List (Text × ℕ)) → list_any (λ m. m == n) (map number xs) ≡ list_any (λ (x : Text × ℕ). x.1 == n) xs
any_number n [] = refl
any_number n (x ∷ xs) = ap (λ b. (x.1 == n) || b) (any_number n xs)

-- so many types have been gone along, and no type was exported twice
record IsAlong (top : Top) (many : ℕ) : Type 0 where
  all : types_weight top.types ≡ many
  once : AreFresh [] top.exported

along_part : (top next : Top) (many : ℕ) (p : PartType) → IsAlong top many → top_part top p ≡ Some next → IsAlong next (many + part_weight p)
along_part top next many p a e =
    let same : record { types = top.types ++ p ∷ []; slots = top.slots ++ length top.types ∷ []; exported = top.exported } ≡ next = some_same _ _ e in
    subst (λ (t : Top). IsAlong t (many + part_weight p)) same (record { all = (let both = types_both top.types (p ∷ []) in let before = a.all in omega (arith, both, before)); once = a.once })

along_parts : (ps : List PartType) (top next : Top) (many : ℕ) → IsAlong top many → steps top_part top ps ≡ Some next → IsAlong next (many + types_weight ps)
along_parts [] top next many a e = search std_rules
along_parts (p ∷ ps) top next many a e =
    let with_one : Top = record { types = top.types ++ p ∷ []; slots = top.slots ++ length top.types ∷ []; exported = top.exported } in
    let rest = along_parts ps with_one next (many + part_weight p) (along_part top with_one many p a refl) e in
    subst (λ (n : ℕ). IsAlong next n) (let sum : many + part_weight p + types_weight ps ≡ many + (part_weight p + types_weight ps) = omega arith in sum) rest

along_export : (top next : Top) (many : ℕ) (x : TopExport) → IsAlong top many → top_export top x ≡ Some next → IsAlong next many
along_export top next many x a e = by (slice_get top.slots x.type_index) e
  where
    last : (a b c : Bool) (t : Top) → provided (a && (b && not c)) t ≡ Some next → (t ≡ next) × (c ≡ false)
    last true true false t h = (some_same t next h, refl)
    last true true true t h = absurd cc
    last true false c t h = absurd cc
    last false b c t h = absurd cc

    by : (o : Option ℕ) → (o >>= λ n. provided (is_bare_name x.exported_as && (is_label x.exported_as.text && not (list_any (λ (y : Text × ℕ). y.1 == n) top.exported)))
        (record { types = top.types; slots = top.slots ++ n ∷ []; exported = top.exported ++ (x.exported_as.text, n) ∷ [] })) ≡ Some next → IsAlong next many
    by None h = absurd cc
    by (Some n) h =
        let r = last (is_bare_name x.exported_as) (is_label x.exported_as.text) (list_any (λ (y : Text × ℕ). y.1 == n) top.exported)
        (record { types = top.types; slots = top.slots ++ n ∷ []; exported = top.exported ++ (x.exported_as.text, n) ∷ [] }) h in
        subst (λ (t : Top). IsAlong t many) r.0 (record { all = a.all; once = fresh_end [] top.exported (x.exported_as.text, n) a.once (any_number n top.exported ∙ r.1) })

along_exports : (xs : List TopExport) (top next : Top) (many : ℕ) → IsAlong top many → steps top_export top xs ≡ Some next → IsAlong next many
along_exports [] top next many a e = subst (λ (t : Top). IsAlong t many) (some_same top next e) a
along_exports (x ∷ xs) top next many a e = by (λ t b h. along_exports xs t next many b h) (top_export top x) refl e
  where
    by : ((t : Top) → IsAlong t many → steps top_export t xs ≡ Some next → IsAlong next many) → (o : Option Top) → top_export top x ≡ o → (o >>= λ t. steps top_export t xs) ≡ Some next
        → IsAlong next many
    by rec None is h = absurd cc
    by rec (Some t) is h = rec t (along_export top t many x a is) h

along_piece : (p : Piece) (top next : Top) (many : ℕ) → IsAlong top many → top_piece top p ≡ Some next → IsAlong next (many + pieces_weight (p ∷ []))
along_piece (custom name contents) top next many a e = search std_rules
along_piece (exports xs) top next many a e = subst (λ (n : ℕ). IsAlong next n) (let none : many ≡ many + 0 = omega arith in none) (along_exports xs top next many a e)
along_piece (types ps) top next many a e = search (std_rules, along_parts ps top next many a e)

along_pieces : (ps : List Piece) (top next : Top) (many : ℕ) → IsAlong top many → steps top_piece top ps ≡ Some next → IsAlong next (many + pieces_weight ps)
along_pieces [] top next many a e = subst (λ (n : ℕ). IsAlong next n) (let none : many ≡ many + 0 = omega arith in none) (subst (λ (t : Top). IsAlong t many) (some_same top next e) a)
along_pieces (p ∷ ps) top next many a e = by (λ t n b h. along_pieces ps t next n b h) (top_piece top p) refl e
  where
    by : ((t : Top) (n : ℕ) → IsAlong t n → steps top_piece t ps ≡ Some next → IsAlong next (n + pieces_weight ps)) → (o : Option Top) → top_piece top p ≡ o
        → (o >>= λ t. steps top_piece t ps) ≡ Some next → IsAlong next (many + pieces_weight (p ∷ ps))
    by rec None is h = absurd cc
    by rec (Some t) is h =
        let split = piece_first p ps in
        subst (λ (n : ℕ). IsAlong next n) (let sum : many + pieces_weight (p ∷ []) + pieces_weight ps ≡ many + pieces_weight (p ∷ ps) = omega (arith, split) in sum)
        (rec t (many + pieces_weight (p ∷ [])) (along_piece p top t many a is) h)

-- ---- what is exported of them

-- the types whose numbers aren't used, where the first has the number n
abbrev left_over : List ℕ → ℕ → List PartType → ℕ
left_over used n [] = 0
left_over used n (p ∷ ps) = cond (list_any (λ m. m == n) used) 0 (part_weight p) + left_over used (suc n) ps

all_left : (n : ℕ) (ps : List PartType) → left_over [] n ps ≡ types_weight ps
all_left n [] = refl
all_left n (p ∷ ps) = ap (λ k. part_weight p + k) (all_left (suc n) ps)

less_left : (used : List ℕ) (m n : ℕ) (ps : List PartType) → left_over (used ++ m ∷ []) n ps ≤ left_over used n ps
less_left used m n [] = omega arith
less_left used m n (p ∷ ps) = search (std_rules, any_more, fewer, less_left used m (suc n) ps)

one_used : (used : List ℕ) (k n : ℕ) (ps : List PartType) (p : PartType) → slice_get ps k ≡ Some p → list_any (λ m. m == n + k) used ≡ false
    → left_over (used ++ (n + k) ∷ []) n ps + part_weight p ≤ left_over used n ps
one_used used k n [] p at unused = absurd cc
one_used used zero n (x ∷ ps) p at unused = search (std_rules, less_left, any_more, eq-eqb)
one_used used (suc k) n (x ∷ ps) p at unused =
    let moved : suc n + k ≡ n + suc k = omega arith in
    let rest = one_used used k (suc n) ps p at (ap (λ j. list_any (λ m. m == j) used) moved ∙ unused) in
    let here = subst (λ j. left_over (used ++ j ∷ []) (suc n) ps + part_weight p ≤ left_over used (suc n) ps) moved rest in
    let same = ap (λ u. cond u 0 (part_weight x)) (any_more used (n + suc k) n) in
    let less = fewer (list_any (λ m. m == n) used) ((n + suc k) == n) (part_weight x) in
    omega (arith, here, same, less)

-- what the parts of these exports spend
abbrev Spends : List PartType → List ℕ → List (Text × ℕ) → Type 0
Spends ps used xs = (qs : List (Text × PartType)) → each (part_under ps) xs ≡ Some qs → parts_weight qs ≤ left_over used 0 ps

spent : (ps : List PartType) (used : List ℕ) (xs : List (Text × ℕ)) (parts : List (Text × PartType)) → AreFresh used xs → each (part_under ps) xs ≡ Some parts
    → parts_weight parts ≤ left_over used 0 ps
spent ps used [] parts f e = let same : [] ≡ parts = some_same [] parts e in subst (λ (qs : List (Text × PartType)). parts_weight qs ≤ left_over used 0 ps) same (omega arith)
spent ps used (x ∷ xs) parts f e = by (λ qs is. spent ps (used ++ x.1 ∷ []) xs qs f.1 is) (slice_get ps x.1) refl e
  where
    step : Spends ps (used ++ x.1 ∷ []) xs → (p : PartType) → slice_get ps x.1 ≡ Some p → (o : Option (List (Text × PartType))) → each (part_under ps) xs ≡ o
        → (o >>= λ qs. Some ((x.0, p) ∷ qs)) ≡ Some parts → parts_weight parts ≤ left_over used 0 ps
    step rec p at None is h = absurd cc
    step rec p at (Some qs) is h =
        let same : (x.0, p) ∷ qs ≡ parts = some_same _ parts h in
        let zeroth : 0 + x.1 ≡ x.1 = omega arith in
        let one = one_used used x.1 0 ps p at (ap (λ j. list_any (λ m. m == j) used) zeroth ∙ f.0) in
        let spent_one = subst (λ j. left_over (used ++ j ∷ []) 0 ps + part_weight p ≤ left_over used 0 ps) zeroth one in
        let rest = rec qs is in
        subst (λ (rs : List (Text × PartType)). parts_weight rs ≤ left_over used 0 ps) same (omega (arith, spent_one, rest))

    by : Spends ps (used ++ x.1 ∷ []) xs → (o : Option PartType) → slice_get ps x.1 ≡ o
        → ((o >>= λ p. let q : Text × PartType = (x.0, p) in Some q) >>= λ y. each (part_under ps) xs >>= λ ys. Some (y ∷ ys)) ≡ Some parts → parts_weight parts ≤ left_over used 0 ps
    by rec None at h = absurd cc
    by rec (Some p) at h = step rec p at (each (part_under ps) xs) refl h

chosen : (top : Top) (parts : List (Text × PartType)) (b : Bool) → AreFresh [] top.exported → when b (each (part_under top.types) top.exported) ≡ Some parts
    → parts_weight parts ≤ types_weight top.types
chosen top parts x f e = search (std_rules, spent top.types, all_left 0 top.types)

pub parts_fit : PartsFit
parts_fit bytes pieces parts read found = by (steps top_piece empty_top pieces) refl found
  where
    by : (o : Option Top) → steps top_piece empty_top pieces ≡ o
        → (o >>= λ top. when (length top.exported == length top.types && distinct (map (λ x. x.0) top.exported)) (each (part_under top.types) top.exported)) ≡ Some parts
        → parts_weight parts ≤ length bytes
    by None is h = absurd cc
    by (Some top) is h =
        let a = along_pieces pieces empty_top top 0 (record { all = refl; once = tt }) is in
        let less = chosen top parts (length top.exported == length top.types && distinct (map (λ x. x.0) top.exported)) a.once h in
        let all = a.all in
        let long = bytes_long bytes pieces read in
        omega (arith, less, all, long)
