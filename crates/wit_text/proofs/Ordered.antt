-- Interfaces are made one after the other, each once. Serves read.
use Rattle.std.proofs.Common.{◌≡◌, ◌∙◌, sym, ap, subst, ◌<◌, ◌≤◌, ◌+◌, ℕ, List, [], ◌∷◌, ◌++◌, Option, Some, None, Contains, slice_get, slice_set, length, take, get_or, replicate, arith, ◌⊎◌, inl, inr}
use Rattle.std.proofs.lemmas.List.Elements.{Contains-append_left, Contains-push, Contains-push_cases}
use Rattle.std.proofs.lemmas.List.{length-set, length-replicate, length-take, take_more, get_or-replicate, get_or-set_same, get_or-take}
use Rattle.std.proofs.lemmas.Bool.{cases_eq}
use Rattle.base_lemmas.proofs.Lists.{at_last, set_there}
use Rattle.text_types.proofs.Growth.{begins_none, entry_stays}
use Rattle.std.proofs.lemmas.Option.{slice_get-get_or, slice_get_read, slice_get_within, get_or_from_slice_get}
use Rattle.base_lemmas.proofs.Elements.{none_in}
use Rattle.wit_model.specs.declared.model.TypeDef.{TypeDef}
use Rattle.text_names.specs.declared.sources.{InterfaceSource.InterfaceSource, Sources.Sources}
use Rattle.text_types.specs.declared.members.Interfaces.{Interfaces}
use Rattle.text_types.specs.Begins.{Begins}
use Rattle.wit_text.specs.MadeInterfaces.{AddsInterface, AreAllMade, GrowsInterfaces, IsInterfaceMade}
use Rattle.wit_text.specs.SoFar.{AreMadeSoFar, HasNumber, IsMadeOf, MakesNext}
use Rattle.wit_text.proofs.WorldsGrow.{interface_carried}
use Rattle.text_plain.specs.Orders.{AreApart}

no_number : (k n number : ℕ) → slice_get (replicate k None) n ≡ Some (Some number) → ⊥
no_number k n number h =
    let here : Option ℕ = None in
    let low : n < k = subst (λ m. n < m) (length-replicate k here) (slice_get_within (replicate k here) n (Some number) h) in
    let is : get_or (replicate k here) n here ≡ Some number = get_or_from_slice_get (replicate k here) n (Some number) here h in
    let is_none : get_or (replicate k here) n here ≡ here = get_or-replicate k n here here low in
    cc

-- at first none has a number
pub none_made : (s : Sources) (a : Interfaces) (defs : List TypeDef) → a.numbers.items ≡ replicate (length s.interfaces.items) None → AreMadeSoFar s [] a defs
none_made s a defs none = record {
  many = ap length none ∙ length-replicate (length s.interfaces.items) None;
  made = λ n number h. absurd (no_number (length s.interfaces.items) n number (subst (λ xs. slice_get xs n ≡ Some (Some number)) none h));
  known = λ n number h. absurd (no_number (length s.interfaces.items) n number (subst (λ xs. slice_get xs n ≡ Some (Some number)) none h));
  each = λ n h low. absurd (none_in n h);
}

-- at last all have one
pub all_made : (s : Sources) (order : List ℕ) (a : Interfaces) (defs : List TypeDef) → ((n : ℕ) → n < length s.interfaces.items → Contains order n)
    → AreMadeSoFar s order a defs → AreAllMade s a defs
all_made s order a defs all so n source there =
    let low = slice_get_within s.interfaces.items n source there in
    let has = so.each n (all n low) low in
    let is = so.made n has.number has.is in
    let same : is.source ≡ source = cc (is.there, there) in
    record {
      number = has.number;
      made = is.made;
      is = record { number = has.is; stands = is.stands };
      stands = subst (λ x. IsInterfaceMade s a defs x has.number is.made) same is.is;
    }

-- what stands among the first stands at a place before the end of them
among_first : (xs : List ℕ) (i n : ℕ) → Contains (take i xs) n → (k : ℕ) × (k < i) × (slice_get xs k ≡ Some n)
among_first xs i n h =
    let long = length-take i xs in
    let low : h.0 < i = omega (arith, h.1) in
    let within : h.0 < length xs = omega (arith, h.1) in
    let is : get_or xs h.0 n ≡ n = sym (get_or-take i xs h.0 n low) ∙ h.2 in
    (h.0, low, slice_get-get_or xs h.0 n within ∙ ap Some is)

module _ (s : Sources) (order : List ℕ) (apart : AreApart order) (i own : ℕ) (low : i < length order) (is : own ≡ get_or order i own) (a b c : Interfaces)
    {defs more : List TypeDef} (h : Begins defs more) (source : InterfaceSource) (there : slice_get s.interfaces.items own ≡ Some source) (number : ℕ)
    (adds : AddsInterface s a b more source number) (so : AreMadeSoFar s (take i order) a defs) (listed : c.list.items ≡ b.list.items)
    (set : c.numbers.items ≡ slice_set b.numbers.items own (Some number)) where
  fresh : (other : ℕ) → slice_get a.numbers.items own ≡ Some (Some other) → ⊥
  fresh other e =
      let before = among_first order i own (so.known own other e) in
      let here : slice_get order i ≡ Some own = slice_get-get_or order i own low ∙ ap Some (sym is) in
      let same : before.0 ≡ i = apart before.0 i own before.2 here in
      absurd (omega (arith, before.1, same))

  as_set : c.numbers.items ≡ slice_set a.numbers.items own (Some number)
  as_set = set ∙ ap (λ v. slice_set v.items own (Some number)) adds.numbers

  -- the numbers of others stay
  others : (n : ℕ) → (n ≡ own → ⊥) → slice_get c.numbers.items n ≡ slice_get a.numbers.items n
  others n other = ap (λ xs. slice_get xs n) as_set ∙ set_there a.numbers.items own n (Some number) other

  its_number : slice_get c.numbers.items own ≡ Some (Some number)
  its_number =
      let within : own < length a.numbers.items = subst (λ n. own < n) (sym so.many) (slice_get_within s.interfaces.items own source there) in
      let new : List (Option ℕ) = slice_set a.numbers.items own (Some number) in
      ap (λ xs. slice_get xs own) as_set
      ∙ slice_get_read new (length a.numbers.items) own (Some number) (sym (length-set a.numbers.items own (Some number))) within
      (sym (get_or-set_same a.numbers.items own (Some number) (Some number) within))

  number_stays : (n made : ℕ) → slice_get a.numbers.items n ≡ Some (Some made) → slice_get c.numbers.items n ≡ Some (Some made)
  number_stays n made e = by (cases_eq n own)
    where
      by : (n ≡ own) ⊎ (n ≡ own → ⊥) → slice_get c.numbers.items n ≡ Some (Some made)
      by (inl same) = absurd (fresh made (subst (λ m. slice_get a.numbers.items m ≡ Some (Some made)) same e))
      by (inr other) = others n other ∙ e

  pub one_grows : GrowsInterfaces a c
  one_grows = record { list = record { more = adds.made ∷ []; is = listed ∙ adds.list }; numbers = number_stays }

  its_making : IsMadeOf s c more own number
  its_making = record {
    source = source;
    there = there;
    made = adds.made;
    stands =
        ap (λ xs. slice_get xs number) (listed ∙ adds.list)
        ∙ (ap (λ n. slice_get (a.list.items ++ adds.made ∷ []) n) adds.last ∙ at_last a.list.items adds.made);
    is = interface_carried s one_grows (begins_none more) adds.is;
  }

  making_stays : (n made : ℕ) → IsMadeOf s a defs n made → IsMadeOf s c more n made
  making_stays n made k = record {
    source = k.source;
    there = k.there;
    made = k.made;
    stands = entry_stays made k.made one_grows.list k.stands;
    is = interface_carried s one_grows h k.is;
  }

  more_done : take (i + 1) order ≡ take i order ++ own ∷ []
  more_done = take_more order i own low ∙ ap (λ x. take i order ++ x ∷ []) (sym is)

  made_now : (n made : ℕ) → slice_get c.numbers.items n ≡ Some (Some made) → IsMadeOf s c more n made
  made_now n made e = by (cases_eq n own)
    where
      by : (n ≡ own) ⊎ (n ≡ own → ⊥) → IsMadeOf s c more n made
      by (inl same) =
          let its : slice_get c.numbers.items n ≡ Some (Some number) = subst (λ m. slice_get c.numbers.items m ≡ Some (Some number)) (sym same) its_number in
          let is_it : number ≡ made = cc (its, e) in
          subst (λ m. IsMadeOf s c more m made) (sym same) (subst (λ m. IsMadeOf s c more own m) is_it its_making)
      by (inr other) = making_stays n made (so.made n made (sym (others n other) ∙ e))

  known_now : (n made : ℕ) → slice_get c.numbers.items n ≡ Some (Some made) → Contains (take (i + 1) order) n
  known_now n made e = by (cases_eq n own)
    where
      by : (n ≡ own) ⊎ (n ≡ own → ⊥) → Contains (take (i + 1) order) n
      by (inl same) = subst (λ xs. Contains xs n) (sym more_done) (subst (λ m. Contains (take i order ++ m ∷ []) n) same (Contains-push (take i order) n))
      by (inr other) =
          subst (λ xs. Contains xs n) (sym more_done) (Contains-append_left (take i order) (own ∷ []) n (so.known n made (sym (others n other) ∙ e)))

  each_now : (n : ℕ) → Contains (take (i + 1) order) n → n < length s.interfaces.items → HasNumber c n
  each_now n has within = by (Contains-push_cases (take i order) own n (subst (λ xs. Contains xs n) more_done has))
    where
      by : Contains (take i order) n ⊎ (own ≡ n) → HasNumber c n
      by (inl earlier) = let k = so.each n earlier within in record { number = k.number; is = number_stays n k.number k.is }
      by (inr same) = record { number = number; is = subst (λ m. slice_get c.numbers.items m ≡ Some (Some number)) same its_number }

  -- one more is made
  pub one_made : AreMadeSoFar s (take (i + 1) order) c more
  one_made = record {
    many = ap length as_set ∙ (length-set a.numbers.items own (Some number) ∙ so.many);
    made = made_now;
    known = known_now;
    each = each_now;
  }

-- where no interface has the number, nothing is made
pub one_missing : (s : Sources) (order : List ℕ) (i own : ℕ) → i < length order → own ≡ get_or order i own → (a : Interfaces) (defs : List TypeDef)
    → length s.interfaces.items ≤ own → AreMadeSoFar s (take i order) a defs → AreMadeSoFar s (take (i + 1) order) a defs
one_missing s order i own low is a defs past so = record {
  many = so.many;
  made = so.made;
  known = λ n number e. subst (λ xs. Contains xs n) (sym more) (Contains-append_left (take i order) (own ∷ []) n (so.known n number e));
  each = λ n has within. by n within (Contains-push_cases (take i order) own n (subst (λ xs. Contains xs n) more has));
}
  where
    more : take (i + 1) order ≡ take i order ++ own ∷ []
    more = take_more order i own low ∙ ap (λ x. take i order ++ x ∷ []) (sym is)

    by : (n : ℕ) → n < length s.interfaces.items → Contains (take i order) n ⊎ (own ≡ n) → HasNumber a n
    by n within (inl earlier) = so.each n earlier within
    by n within (inr same) = absurd (omega arith)

-- where one is added, and its number set, it is made
pub next_made : (s : Sources) (own : ℕ) (a b : Interfaces) {defs more : List TypeDef} → Begins defs more → (source : InterfaceSource)
    → slice_get s.interfaces.items own ≡ Some source → (number : ℕ) → AddsInterface s a b more source number → (c : Interfaces) → c.list.items ≡ b.list.items
    → c.numbers.items ≡ slice_set b.numbers.items own (Some number) → MakesNext s own a defs c more
next_made s own a b h source there number adds c listed set order i next so =
    one_made s order next.apart i own next.low next.is a b c h source there number adds so listed set

pub none_next : (s : Sources) (own : ℕ) (a : Interfaces) (defs : List TypeDef) → length s.interfaces.items ≤ own → MakesNext s own a defs a defs
none_next s own a defs past order i next so = one_missing s order i own next.low next.is a defs past so
