-- The least of the texts that have a fault, found one after the other.
use Rattle.std.proofs.Common.{rules as std_rules, ◌≡◌, refl, ap, subst, ◌∙◌, ◌⊎◌, inl, inr, ℕ, ◌+◌, ◌<◌, cond, Option, Some, None, arith}
use Rattle.std.proofs.lemmas.Bool.{cases_order}
use Rattle.std.specs.declared.cmp.{Ordering.Ordering, Ordering.TheVariants.Less, Ordering.TheVariants.Equal, Ordering.TheVariants.Greater}
use Rattle.std.specs.{Ordering.is_le, Ordering.ordering_reverse, Cmp.Lexicographic.nat_list_cmp_total}
use Rattle.wit_model.specs.Text.{Text, text_cmp}
use Rattle.bind_meaning.proofs.{Maps.tied, Searches.never-less}
use Rattle.bind_clash.specs.Faults.{Below, IsLeastFault, least_of}

-- the same faults have the same least
pub same_faults : (P Q : Text → Type 0) → ((t : Text) → P t → Q t) → ((t : Text) → Q t → P t) → (o : Option Text) → IsLeastFault P o → IsLeastFault Q o
same_faults x y f g z none = search std_rules

-- a fault of one text alone
pub one_fault : (P : Text → Type 0) (t : Text) → P t → ((s : Text) → P s → s ≡ t) → IsLeastFault P (Some t)
one_fault P t p alone = (p, λ s less q. never-less t (subst (λ (x : Text). text_cmp x t ≡ Less) (alone s q) less))

-- of two
pub of_two : (P Q : Text → Type 0) (a b : Option Text) → IsLeastFault P a → IsLeastFault Q b → IsLeastFault (λ t. P t ⊎ Q t) (least_of a b)
of_two P Q None None p q = λ t h. elim h [ inl x ↦ p t x | inr y ↦ q t y ]
of_two P Q None (Some b) p q = (inr q.0, λ s less h. elim h [ inl x ↦ p s x | inr y ↦ q.1 s less y ])
of_two P Q (Some a) None p q = (inl p.0, λ s less h. elim h [ inl x ↦ p.1 s less x | inr y ↦ q s y ])
of_two P Q (Some a) (Some b) p q = by (text_cmp a b) refl
  where
    by : (o : Ordering) → text_cmp a b ≡ o → IsLeastFault (λ t. P t ⊎ Q t) (Some (cond (is_le o) a b))
    by Less e = (inl p.0, λ s less h. elim h [ inl x ↦ p.1 s less x | inr y ↦ q.1 s (nat_list_cmp_total.trans s a b less e) y ])
    by Equal e = (inl p.0, λ s less h. elim h [ inl x ↦ p.1 s less x | inr y ↦ q.1 s (subst (λ (x : Text). text_cmp s x ≡ Less) (tied a b e) less) y ])
    by Greater e =
        let back : text_cmp b a ≡ Less = nat_list_cmp_total.antisymm b a ∙ ap ordering_reverse e in
        (inr q.0, λ s less h. elim h [ inl x ↦ p.1 s (nat_list_cmp_total.trans s b a less back) x | inr y ↦ q.1 s less y ])

-- ---- of more and more numbers

pub one_more : (F : ℕ → Text → Type 0) (k : ℕ) (a b : Option Text) → IsLeastFault (Below F k) a → IsLeastFault (F k) b → IsLeastFault (Below F (k + 1)) (least_of a b)
one_more F k a b p q = same_faults (λ t. Below F k t ⊎ F k t) (Below F (k + 1)) forth back (least_of a b) (of_two (Below F k) (F k) a b p q)
  where
    forth : (t : Text) → Below F k t ⊎ F k t → Below F (k + 1) t
    forth t (inl h) = (h.0, (let lt : h.0 < k = h.1 in let le : h.0 < k + 1 = omega (arith, lt) in le), h.2)
    forth t (inr h) = (k, (let le : k < k + 1 = omega arith in le), h)

    at : (t : Text) (n : ℕ) → n < k + 1 → F n t → (n < k) ⊎ (n ≡ k) → Below F k t ⊎ F k t
    at t n lt f (inl less) = inl (n, less, f)
    at t n lt f (inr same) = inr (subst (λ (m : ℕ). F m t) same f)

    back : (t : Text) → Below F (k + 1) t → Below F k t ⊎ F k t
    back t h = at t h.0 h.1 h.2 (elim (cases_order h.0 k) [ inl same ↦ inr same | inr (inl less) ↦ inl less | inr (inr more) ↦ (let lt : h.0 < k + 1 = h.1 in absurd (omega (arith, lt, more))) ])
