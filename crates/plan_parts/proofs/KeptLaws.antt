-- Marked numbers, each with its place among them.
use Rattle.std.proofs.Common.{rules as std_rules, ◌≡◌, refl, sym, ap, ◌∙◌, subst, ℕ, zero, suc, ◌+◌, ◌-◌, ◌<◌, ◌≤◌, arith, Bool, true, false, cond, List, [], ◌∷◌, ◌++◌, length, take, get_or, Some, slice_get}
use Rattle.std.proofs.lemmas.{List.take_more, List.append-nil, List.length-take-le, Option.slice_get_within, Option.slice_get_read}
use Rattle.plan_meaning.specs.Renumbering.{IsPart}
use Rattle.plan_parts.specs.Kept.{marked_from, counted_from, AreMarked, AreNumbered, IsKeptPart}

-- ---- one mark more

pub marked_more : (n : ℕ) (marks : List Bool) (mark : Bool) → marked_from n (marks ++ mark ∷ []) ≡ marked_from n marks ++ cond mark ((n + length marks) ∷ []) []
marked_more n [] true = ap (λ m. m ∷ []) (omega arith)
marked_more n [] false = refl
marked_more n (true ∷ marks) mark = ap (λ ns. n ∷ ns) (marked_more (n + 1) marks mark ∙ ap (λ m. marked_from (n + 1) marks ++ cond mark (m ∷ []) []) (omega arith))
marked_more n (false ∷ marks) mark = marked_more (n + 1) marks mark ∙ ap (λ m. marked_from (n + 1) marks ++ cond mark (m ∷ []) []) (omega arith)

pub counted_more : (n c : ℕ) (marks : List Bool) (mark : Bool) → counted_from c (marks ++ mark ∷ []) ≡ counted_from c marks ++ (c + length (marked_from n marks)) ∷ []
counted_more n c [] true = ap (λ m. m ∷ []) (omega arith)
counted_more n c [] false = ap (λ m. m ∷ []) (omega arith)
counted_more n c (true ∷ marks) mark = ap (λ ns. c ∷ ns) (counted_more (n + 1) (c + 1) marks mark ∙ ap (λ m. counted_from (c + 1) marks ++ m ∷ []) (omega arith))
counted_more n c (false ∷ marks) mark = ap (λ ns. c ∷ ns) (counted_more (n + 1) c marks mark)

-- what has been found, where a mark more is behind us
taken : (marks : List Bool) (i : ℕ) (d : Bool) → i < length marks → take (i + 1) marks ≡ take i marks ++ get_or marks i d ∷ []
taken marks i d within = take_more marks i d within

so_many : (marks : List Bool) (i : ℕ) → i < length marks → length (take i marks) ≡ i
so_many marks i within = length-take-le i marks (omega arith)

pub next_shapes : (marks : List Bool) (i : ℕ) (d b : Bool) (old new : List ℕ) → i < length marks → get_or marks i d ≡ b → old ≡ marked_from 0 (take i marks) → new ≡ cond b (old ++ i ∷ []) old
    → new ≡ marked_from 0 (take (i + 1) marks)
next_shapes marks i d b old new within is before added = search (std_rules, so_many marks i within, append-nil old, marked_more 0 (take i marks) b, taken marks i d within)

pub next_numbers : (marks : List Bool) (i : ℕ) (d : Bool) (shapes old new : List ℕ) (k : ℕ) → i < length marks → shapes ≡ marked_from 0 (take i marks) → k ≡ length shapes
    → old ≡ counted_from 0 (take i marks) → new ≡ old ++ k ∷ [] → new ≡ counted_from 0 (take (i + 1) marks)
next_numbers marks i d shapes old new k within found many before added = search (std_rules, counted_more 0 0 (take i marks) (get_or marks i d), taken marks i d within)

-- ---- what stands among the marked

-- the number of a marked one is its own, and so many are marked before it
pub record StandsAt (a c : ℕ) (marks : List Bool) (j n : ℕ) : Type 0 where
  pub m : ℕ
  pub is : n ≡ a + m
  pub mark : slice_get marks m ≡ Some true
  pub count : slice_get (counted_from c marks) m ≡ Some (c + j)

stands_later : (a c : ℕ) (b : Bool) (marks : List Bool) (j n d : ℕ) → counted_from c (b ∷ marks) ≡ c ∷ counted_from d marks → (k : ℕ) → d + j ≡ c + k → StandsAt (a + 1) d marks j n
    → StandsAt a c (b ∷ marks) k n
stands_later a c b marks j n d same k e s = record { m = suc s.m; is = omega (arith, s.is); mark = s.mark; count = ap (λ ns. slice_get ns (suc s.m)) same ∙ (s.count ∙ ap Some e) }

pub stands : (a c : ℕ) (marks : List Bool) (j n : ℕ) → slice_get (marked_from a marks) j ≡ Some n → StandsAt a c marks j n
stands a c [] j n e = absurd cc
stands a c (true ∷ marks) zero n e = let same : a ≡ n = cc in record { m = zero; is = omega arith; mark = refl; count = ap Some (omega arith) }
stands a c (true ∷ marks) (suc j) n e = stands_later a c true marks j n (c + 1) refl (suc j) (omega arith) (stands (a + 1) (c + 1) marks j n e)
stands a c (false ∷ marks) j n e = stands_later a c false marks j n c refl j refl (stands (a + 1) c marks j n e)

pub found : (a : ℕ) (marks : List Bool) (m : ℕ) → slice_get marks m ≡ Some true → (j : ℕ) × (slice_get (marked_from a marks) j ≡ Some (a + m))
found a [] m e = absurd cc
found a (true ∷ marks) zero e = (zero, ap Some (omega arith))
found a (false ∷ marks) zero e = absurd cc
found a (true ∷ marks) (suc m) e = let later = found (a + 1) marks m e in (suc later.0, later.1 ∙ ap Some (omega arith))
found a (false ∷ marks) (suc m) e = let later = found (a + 1) marks m e in (later.0, later.1 ∙ ap Some (omega arith))

-- what comes later is larger
behind_all : (a : ℕ) (marks : List Bool) (j n : ℕ) → slice_get (marked_from (a + 1) marks) j ≡ Some n → a < n
behind_all a marks j n e = let s = stands (a + 1) 0 marks j n e in omega (arith, s.is)

rises : (a : ℕ) (marks : List Bool) (i j m n : ℕ) → slice_get (marked_from a marks) i ≡ Some m → slice_get (marked_from a marks) j ≡ Some n → m < n → i < j
rises a [] i j m n e f less = absurd cc
rises a (true ∷ marks) zero zero m n e f less = let same : a ≡ m = cc in let other : a ≡ n = cc in absurd (omega arith)
rises a (true ∷ marks) zero (suc j) m n e f less = omega arith
rises a (true ∷ marks) (suc i) zero m n e f less = let same : a ≡ n = cc in let larger = behind_all a marks i m e in absurd (omega arith)
rises a (true ∷ marks) (suc i) (suc j) m n e f less = let rest = rises (a + 1) marks i j m n e f less in omega arith
rises a (false ∷ marks) i j m n e f less = rises (a + 1) marks i j m n e f less

stands_once : (a : ℕ) (marks : List Bool) (i j m : ℕ) → slice_get (marked_from a marks) i ≡ Some m → slice_get (marked_from a marks) j ≡ Some m → i ≡ j
stands_once a [] i j m e f = absurd cc
stands_once a (true ∷ marks) zero zero m e f = refl
stands_once a (true ∷ marks) zero (suc j) m e f = let same : a ≡ m = cc in let larger = behind_all a marks j m f in absurd (omega arith)
stands_once a (true ∷ marks) (suc i) zero m e f = let same : a ≡ m = cc in let larger = behind_all a marks i m e in absurd (omega arith)
stands_once a (true ∷ marks) (suc i) (suc j) m e f = ap suc (stands_once (a + 1) marks i j m e f)
stands_once a (false ∷ marks) i j m e f = stands_once (a + 1) marks i j m e f

-- ---- all of them

pub are_marked : (marks : List Bool) (kept : List ℕ) → kept ≡ marked_from 0 marks → AreMarked marks kept
are_marked marks kept same = subst (λ (ns : List ℕ). AreMarked marks ns) (sym same) (record {
  among = λ j n e. let s = stands 0 0 marks j n e in let m : s.m ≡ n = omega (arith, s.is) in subst (λ (k : ℕ). slice_get marks k ≡ Some true) m s.mark;
  stand = λ n e. let f = found 0 marks n e in (f.0, f.1 ∙ ap Some (omega arith));
  rise = λ i j m n e f less. rises 0 marks i j m n e f less;
  once = λ i j m e f. stands_once 0 marks i j m e f;
})

pub are_numbered : (marks : List Bool) (kept numbers : List ℕ) → kept ≡ marked_from 0 marks → numbers ≡ counted_from 0 marks → AreNumbered kept numbers
are_numbered marks kept numbers same counts j n e = search (std_rules, stands 0 0 marks j n (ap (λ ns. slice_get ns j) (sym same) ∙ e))

-- the new number of a type is behind those of the primitives
new_behind : (kept : List ℕ) (old new : ℕ) → IsPart kept old new → 14 ≤ old → 14 ≤ new
new_behind kept old new x high = search std_rules

-- the number of a type that is kept
pub numbered_part : (kept numbers : List ℕ) → AreNumbered kept numbers → (old new : ℕ) → IsPart kept old new → 14 ≤ old → slice_get numbers (old - 14) ≡ Some (new - 14)
numbered_part kept numbers are old new x high = search std_rules

module _ (kept numbers : List ℕ) (are : AreNumbered kept numbers) (old : ℕ) (stays : IsKeptPart kept old) (high : 14 ≤ old) where
  abbrev there : slice_get numbers (old - 14) ≡ Some (stays.0 - 14)
  there = numbered_part kept numbers are old stays.0 stays.1 high

  pub part_within : old - 14 < length numbers
  part_within = slice_get_within numbers (old - 14) (stays.0 - 14) there

  pub part_read : (x : ℕ) → x ≡ get_or numbers (old - 14) x → IsPart kept old (14 + x)
  part_read x is =
      let found : Some (stays.0 - 14) ≡ Some x = sym there ∙ slice_get_read numbers _ (old - 14) x refl part_within is in
      let same : stays.0 - 14 ≡ x = cc in
      let behind = new_behind kept old stays.0 stays.1 high in
      let whole : stays.0 ≡ 14 + x = omega arith in
      subst (λ (new : ℕ). IsPart kept old new) whole stays.1
