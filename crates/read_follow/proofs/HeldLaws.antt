-- Declarations of an instance type: those of which none is an import.
use Rattle.std.proofs.Common.{rules as std_rules, ◌≡◌, refl, sym, ap, ◌∙◌, ℕ, zero, suc, Bool, false, cond, List, ◌∷◌, Option, Some, None}
use Rattle.comp_bytes.specs.{Raw.Declaration, Form.Spellings, Laws.IsReadBy, Spelling.IsDeclaration}
use Rattle.comp_bytes.specs.{Levels.import_free, Levels.held_at, Reading.◌>>=◌, Reading.u32_at, Reading.sequence_at, Reading.vector_at, Reading.declaration_at}
use Rattle.comp_bytes.proofs.{Readers.bind_some, DeclarationLaws.declaration_law}
use Rattle.read_follow.specs.Bodies.{is_import, held_declaration_at}

abbrev Found : Type 0
Found = Option (List Declaration × List ℕ)

-- what was found, if no import is among it
abbrev free : Found → Found
free found = found >>= λ ds. cond (import_free ds.0) (Some ds) None

-- what was found, with this in front
abbrev headed : Declaration → Found → Found
headed d found = found >>= λ ds. Some (d ∷ ds.0, ds.1)

-- in front of one that is no import
in_front : (d : Declaration) → ((ds : List Declaration) → import_free ds ≡ import_free (d ∷ ds)) → (found : Found) → headed d (free found) ≡ free (headed d found)
in_front d same x = search std_rules

one_more : (d : Declaration) (found : Found) → cond (is_import d) None (headed d (free found)) ≡ free (headed d found)
one_more x found = search std_rules

-- a declaration, if it is no import, and what is read behind it
guarded : (b : Bool) (d : Declaration × List ℕ) (next : Declaration × List ℕ → Found) → (cond b None (Some d) >>= next) ≡ cond b None (next d)
guarded x d next = search std_rules

by_first : (n : ℕ) → ((bytes : List ℕ) → sequence_at held_declaration_at n bytes ≡ free (sequence_at declaration_at n bytes)) → (o : Option (Declaration × List ℕ))
    → ((o >>= λ d. cond (is_import d.0) None (Some d)) >>= λ d. headed d.0 (sequence_at held_declaration_at n d.1)) ≡ free (o >>= λ d. headed d.0 (sequence_at declaration_at n d.1))
by_first n others x = search std_rules

held_sequence : (n : ℕ) (bytes : List ℕ) → sequence_at held_declaration_at n bytes ≡ free (sequence_at declaration_at n bytes)
unfolding sequence_at held_declaration_at
held_sequence zero bytes = refl
held_sequence (suc n) bytes = by_first n (held_sequence n) (declaration_at bytes)

-- the declarations of an instance type behind their number
pub held_behind : (bytes : List ℕ) (o : Option (ℕ × List ℕ)) → u32_at bytes ≡ o → held_at bytes ≡ (o >>= λ n. sequence_at held_declaration_at n.0 n.1)
unfolding held_at vector_at
held_behind bytes o e = (search (std_rules, held_sequence)) ∙ ap (λ p. p >>= λ n. sequence_at held_declaration_at n.0 n.1) e

-- what spells a declaration of an instance type
abbrev pub IsHeld : Declaration → Spellings
IsHeld d text = IsDeclaration d text × (is_import d ≡ false)

pub held_declaration_law : IsReadBy IsHeld held_declaration_at
unfolding held_declaration_at
held_declaration_law = record {
  takes = λ bytes d rest e.
      let b = bind_some (declaration_at bytes) (λ x. cond (is_import x.0) None (Some x)) (d, rest) e in
      let c = unless b.0 (d, rest) b.2 in
      let t = declaration_law.takes bytes d rest (b.1 ∙ ap Some c.1) in
      record { front = t.front; parts = t.parts; spelled = (t.spelled, ap (λ x. is_import x.0) (sym c.1) ∙ c.0) };
  again = λ d front rest s. ap (λ o. o >>= λ x. cond (is_import x.0) None (Some x)) (declaration_law.again d front rest s.0) ∙ ap (λ b. cond b None (Some (d, rest))) s.1;
}
  where
    unless : (x y : Declaration × List ℕ) → cond (is_import x.0) None (Some x) ≡ Some y → (is_import x.0 ≡ false) × (x ≡ y)
    unless x y e = search std_rules
