-- A body has all the bytes of its items.
use Rattle.std.proofs.Common.{rules as std_rules, ◌≡◌, refl, sym, ap, ◌∙◌, ℕ, ◌+◌, ◌-◌, ◌≤◌, arith, List, [], ◌++◌, length, take, Option, Some, None, append-nil}
use Rattle.std.proofs.lemmas.{List.take_at, List.length-append, Option.same_Some as some_is}
use Rattle.comp_bytes.specs.{Form.Spellings, Laws.IsReadBy, Reading.Reader, Reading.sequence_at}
use Rattle.comp_bytes.proofs.PartLaws.{sequence_takes, sequence_again}
use Rattle.read_follow.specs.declared.bodies.Body.{Body}
use Rattle.read_follow.specs.Bodies.{behind, items_of, items_in, IsBody}

abbrev followed_by : {A : Type 0} → A → List ℕ → Option (A × List ℕ)
followed_by x rest = Some (x, rest)

-- what was found where these bytes are behind it
pub found_before : {A : Type 0} (found : Option (A × List ℕ)) (rest : List ℕ) → behind found ≡ Some rest → (x : A) × (found ≡ Some (x, rest))
found_before None rest e = absurd cc
found_before (Some x) rest e = (x.0, ap (followed_by x.0) (some_is x.1 rest e))

-- what is in front of the rest
pub cut_is : (items front rest : List ℕ) → items ≡ front ++ rest → take (length items - length rest) items ≡ front
cut_is items front rest parts = ap (λ j. take j items) (omega (arith, (ap length parts ∙ length-append front rest))) ∙ (ap (take (length front)) parts ∙ take_at front rest (length front) refl)

module _ {A : Type 0} {form : A → Spellings} {reader : Reader A} (law : IsReadBy form reader) (n : ℕ) (items rest : List ℕ) (passed : behind (sequence_at reader n items) ≡ Some rest) where
  read : (xs : List A) × (sequence_at reader n items ≡ Some (xs, rest))
  read = found_before (sequence_at reader n items) rest passed

  -- the items alone, cut from the bytes
  alone : sequence_at reader n (take (length items - length rest) items) ≡ Some (read.0, [])
  alone =
      let t = sequence_takes law n items read.0 rest read.1 in
      (ap (λ j. sequence_at reader j (take (length items - length rest) items)) (sym t.1)
      ∙ (ap (sequence_at reader (length read.0)) (cut_is items t.0.front rest t.0.parts ∙ sym (append-nil t.0.front)) ∙ sequence_again law read.0 t.0.front [] t.0.spelled))

  pub shorter : length rest ≤ length items
  shorter = search (std_rules, sequence_takes, read, length-append)

  module _ (b : Body) (count : b.count ≡ n) (cut : b.bytes.now ≡ take (length items - length rest) items) where
    body_read : sequence_at reader b.count b.bytes.now ≡ Some (read.0, [])
    body_read = ap (λ j. sequence_at reader j b.bytes.now) count ∙ (ap (sequence_at reader n) cut ∙ alone)

    items_are : items_in reader b ≡ read.0
    items_are = ap items_of body_read

    pub is_body : IsBody reader b
    is_body = body_read ∙ ap (λ xs. Some (xs, [])) (sym items_are)

    pub body_found : sequence_at reader n items ≡ Some (items_in reader b, rest)
    body_found = read.1 ∙ ap (λ xs. Some (xs, rest)) (sym items_are)

-- nothing is behind nothing
pub none_found : {A : Type 0} (found : Option (A × List ℕ)) → behind found ≡ None → found ≡ None
none_found x e = search std_rules
