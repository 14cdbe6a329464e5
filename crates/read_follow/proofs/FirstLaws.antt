-- Entries, the first of which is read already: the others are what is behind it, also where the entries are cut from the bytes.
use Rattle.std.proofs.Common.{◌≡◌, sym, ap, ◌∙◌, ℕ, suc, ◌-◌, ◌<◌, arith, List, ◌∷◌, ◌++◌, length, take, Option, Some, None, append_assoc}
use Rattle.comp_bytes.specs.{Levels.Entry, Levels.entry_at, Reading.◌>>=◌, Reading.sequence_at}
use Rattle.comp_bytes.proofs.{LevelLaws.entry_law, PartLaws.sequence_takes}
use Rattle.read_follow.specs.Bodies.{behind}
use Rattle.read_follow.proofs.{BodyLaws.cut_is, BodyLaws.found_before, SkipLaws.behind_as}

pub one_less : (n : ℕ) → 0 < n → n ≡ suc (n - 1)
one_less n some = omega (arith, some)

module _ (bytes : List ℕ) where
  more : (n : ℕ) (found : Option (Entry × List ℕ)) → entry_at bytes ≡ found → sequence_at entry_at (suc n) bytes ≡ (found >>= λ x. sequence_at entry_at n x.1 >>= λ es. Some (x.0 ∷ es.0, es.1))
  unfolding sequence_at
  more n found is = ap (λ o. o >>= λ x. sequence_at entry_at n x.1 >>= λ es. Some (x.0 ∷ es.0, es.1)) is

  pub no_first : (m n : ℕ) → m ≡ suc n → entry_at bytes ≡ None → sequence_at entry_at m bytes ≡ None
  no_first m n is none = ap (λ k. sequence_at entry_at k bytes) is ∙ more n None none

  module _ (n : ℕ) (e : Entry) (others : List ℕ) (first : entry_at bytes ≡ Some (e, others)) where
    -- what is behind the others is behind all
    pub all_passed : (m : ℕ) → m ≡ suc n → behind (sequence_at entry_at m bytes) ≡ behind (sequence_at entry_at n others)
    all_passed m is = ap (λ k. behind (sequence_at entry_at k bytes)) is ∙ (ap behind (more n (Some (e, others)) first) ∙ behind_as (λ es. e ∷ es) (sequence_at entry_at n others))

    -- the first is in front of the entries alone, and the others alone are behind it
    pub still_first : (rest : List ℕ) → behind (sequence_at entry_at n others) ≡ Some rest → entry_at (take (length bytes - length rest) bytes) ≡ Some (e, take (length others - length rest) others)
    still_first rest passed =
        let t = entry_law.takes bytes e others first in
        let b = found_before (sequence_at entry_at n others) rest passed in
        let u = (sequence_takes entry_law n others b.0 rest b.1).0 in
        (let whole : bytes ≡ (t.front ++ u.front) ++ rest = t.parts ∙ (ap (λ ys. t.front ++ ys) u.parts ∙ sym (append_assoc t.front u.front rest)) in
        ap entry_at (cut_is bytes (t.front ++ u.front) rest whole) ∙ (entry_law.again e t.front u.front t.spelled ∙ ap (λ (ys : List ℕ). Some (e, ys)) (sym (cut_is others u.front rest u.parts))))
