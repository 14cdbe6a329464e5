-- A section's frame from an offset on, and where its contents stand.
use Rattle.std.proofs.Common.{rules as std_rules, ◌≡◌, ℕ, false, ◌+◌, ◌-◌, ◌≤◌, ◌<◌, ◌==◌, List, ◌∷◌, ◌++◌, length, take, drop, Some, None, refl, sym, ap, ◌∙◌, arith, append_assoc}
use Rattle.std.proofs.lemmas.{List.take_at, List.take-append-drop, List.length-append, List.length-drop, List.length-take-le, List.Folds.drop_split}
use Rattle.std.proofs.{lemmas.Bool.false≢true, Math.Seq.drop-append_seam}
use Rattle.std.specs.Prelude.{slice_range}
use Rattle.comp_bytes.specs.{Reading.frame_at, Reading.name_at, Frames.IsFrame, Frames.IsCustom}
use Rattle.comp_bytes.proofs.{Readers.read_ok, Readers.read_len, PartLaws.name_law, PartLaws.no_some, ComponentLaws.frame_law}

-- what ends a part of a list ends where the part does
ends_there : (xs before front contents after : List ℕ) (end : ℕ) → xs ≡ (before ++ front) ++ (contents ++ after) → end ≡ length (before ++ front) + length contents
    → slice_range xs (end - length contents) end ≡ contents
ends_there xs before front contents after end parts is =
    let from : end - length contents ≡ length (before ++ front) = omega (arith, is) in
    let long : end - (end - length contents) ≡ length contents = omega (arith, is) in
    let behind : drop (length (before ++ front)) xs ≡ contents ++ after = ap (drop (length (before ++ front))) parts ∙ drop-append_seam (before ++ front) (contents ++ after) in
    ap (λ n. take n (drop (end - length contents) xs)) long ∙ (ap (λ n. take (length contents) (drop n xs)) from ∙ (ap (take (length contents)) behind ∙ take_at contents after (length contents) refl))

-- the frame that stands at the offset: its contents are the end of it
pub record Found (bytes : List ℕ) (at id : ℕ) (contents rest : List ℕ) : Type 0 where
  pub fits : length rest ≤ length bytes
  pub inner : length contents ≤ length bytes - length rest
  pub spelled : IsFrame (id, contents) (slice_range bytes at (length bytes - length rest))
  pub part : slice_range bytes (length bytes - length rest - length contents) (length bytes - length rest) ≡ contents

pub found : (bytes : List ℕ) (at id : ℕ) (contents rest : List ℕ) → at ≤ length bytes → frame_at (drop at bytes) ≡ Some ((id, contents), rest) → Found bytes at id contents rest
found bytes at id contents rest le e = go (read_ok frame_law bytes at (id, contents) rest le e)
  where
    end : ℕ
    end = length bytes - length rest

    go : (at ≤ end) × (end ≤ length bytes) × IsFrame (id, contents) (slice_range bytes at end) → Found bytes at id contents rest
    go (from, to, spelled) =
        let counted = spelled.2 in
        let front = id ∷ counted.0 in
        let slice : slice_range bytes at end ≡ front ++ contents = spelled.1 ∙ ap (λ (t : List ℕ). id ∷ t) (counted.2 ∙ ap (λ (t : List ℕ). counted.0 ++ t) counted.4) in
        let split : bytes ≡ take at bytes ++ (slice_range bytes at end ++ drop end bytes) = sym (take-append-drop at bytes) ∙ ap (λ (t : List ℕ). take at bytes ++ t) (drop_split bytes at end from) in
        let parts : bytes ≡ (take at bytes ++ front) ++ (contents ++ drop end bytes) = split ∙ simp (slice, append_assoc) in
        let sliced : length (slice_range bytes at end) ≡ end - at = length-take-le (end - at) (drop at bytes)
        (let d = ap length (take-append-drop at bytes) in omega (arith, from, to, length-append (take at bytes) (drop at bytes), length-take-le at bytes le, d)) in
        let whole : end - at ≡ length front + length contents = sym sliced ∙ (ap length slice ∙ length-append front contents) in
        let is : end ≡ length (take at bytes ++ front) + length contents = omega (arith, whole, from, length-append (take at bytes) front, length-take-le at bytes le) in
        record {
          fits = read_len frame_law bytes at (id, contents) rest e;
          inner = omega (arith, is);
          spelled = spelled;
          part = ends_there bytes (take at bytes) front contents (drop end bytes) end parts is;
        }

-- the contents of a custom section, by the name at their front
pub custom_found : (contents name rest : List ℕ) → name_at contents ≡ Some (name, rest) → IsCustom (name, rest) contents
custom_found contents name rest e = let t = name_law.takes contents name rest e in (t.front, rest, t.parts, t.spelled, refl)

pub custom_none : (contents : List ℕ) → name_at contents ≡ None → (c : List ℕ × List ℕ) → IsCustom c contents → ⊥
custom_none contents none c (front, rest, parts, spelled, is) =
    let again : name_at contents ≡ Some (c.0, rest) = ap name_at parts ∙ name_law.again c.0 front rest spelled in
    no_some (c.0, rest) (sym none ∙ again)

-- the frame in front, as the definition finds it
pub front_found : (bytes : List ℕ) (id : ℕ) (contents rest : List ℕ) → frame_at bytes ≡ Some ((id, contents), rest) → (front : List ℕ) × (bytes ≡ front ++ rest) × IsFrame (id, contents) front
front_found bytes id contents rest e = let t = frame_law.takes bytes (id, contents) rest e in (t.front, t.parts, t.spelled)

pub front_none : (bytes : List ℕ) → frame_at bytes ≡ None → (f : ℕ × List ℕ) (front rest : List ℕ) → bytes ≡ front ++ rest → IsFrame f front → ⊥
front_none bytes none f front rest parts spelled =
    let again : frame_at bytes ≡ Some (f, rest) = ap frame_at parts ∙ frame_law.again f front rest spelled in
    no_some (f, rest) (sym none ∙ again)

-- where something is left behind the offset, the offset lies before the end
pub some_left : (bytes rest : List ℕ) (at : ℕ) → rest ≡ drop at bytes → false ≡ (length rest == 0) → at < length bytes
some_left bytes x at is empty = search (std_rules, false≢true, length-drop)

-- the same, where the contents begin at a place that is counted from the offset
pub record FoundBehind (bytes : List ℕ) (at start id : ℕ) (contents rest : List ℕ) : Type 0 where
  pub fits : length rest ≤ length bytes
  pub starts : at + start + length contents ≡ length bytes - length rest
  pub spelled : IsFrame (id, contents) (slice_range bytes at (length bytes - length rest))
  pub part : slice_range bytes (at + start) (length bytes - length rest) ≡ contents

-- what the reader of the front says of the part from an offset on
pub found_behind : (bytes part : List ℕ) (at start id : ℕ) (contents rest : List ℕ) → at ≤ length bytes → part ≡ drop at bytes → frame_at part ≡ Some ((id, contents), rest)
    → start + length contents + length rest ≡ length part → FoundBehind bytes at start id contents rest
found_behind bytes part at start id contents rest le is e begins =
    let f = found bytes at id contents rest le (ap frame_at (sym is) ∙ e) in
    let long : length part ≡ length bytes - at = ap length is ∙ length-drop at bytes in
    let from : length bytes - length rest - length contents ≡ at + start = omega (arith, long, begins, le, f.fits, f.inner) in
    record { fits = f.fits; starts = omega (arith, from, f.fits, f.inner); spelled = f.spelled; part = ap (λ n. slice_range bytes n (length bytes - length rest)) (sym from) ∙ f.part }
