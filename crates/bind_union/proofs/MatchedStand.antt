-- Matched interfaces and their types stand in what begins with own lists, numbers given in order rise, and entries and names are joined one by one.
use Rattle.std.proofs.Common.{◌≡◌, ◌⊎◌, inl, inr, refl, sym, ap, ◌∙◌, ℕ, zero, suc, ◌<◌, ◌≤◌, ◌+◌, arith, Bool, true, false, List, [], ◌∷◌, length, Option, Some, None, slice_get, unwrap_or, subst, ◌++◌, append-nil}
use Rattle.wit_model.specs.{Text.text_of, Text.Text, Lookup.interface_path, Uses.has, Uses.alias_target, Rules.passes, Rules.interface_type_numbers}
use Rattle.wit_model.proofs.{OnePath.has-path, Chains.all_has as passes_at}
use Rattle.bind_union.specs.Carried.{owner_under, carries_owner, IsType, IsInterface, Renumbering}
use Rattle.bind_union.specs.Matching.{type_names, AreNamesakes, MatchedStand, numbers_of, NumbersRise, StepsKeep}
use Rattle.bind_union.specs.{Joined.Joined, Merged.JoinedNames}
use Rattle.bind_union.proofs.{Lists.no_true, Itself.get_begin}
use Rattle.bind_union.proofs.Namesakes.{under_contains, number_listed, numbers_are, home_listed, target_named, target_home, matches_are_namesakes, matches_are_onto}
use Rattle.base_lemmas.proofs.Options.{there as some_of}
use Rattle.wit_model.specs.declared.model.{WorldKey.WorldKey, WorldItem.WorldItem}
use Rattle.bind_union.specs.Joined as joined
use Rattle.bind_union.specs.Merged as names

-- ---- matched interfaces

pub matched_stand : MatchedStand
matched_stand own other merged f valid_own valid_other types interfaces matched named_carried types_carried n is no_copy name in_package = (the_interface, the_type)
  where
    carried : f.carries_interface n ≡ true
    carried = named_carried n is.has_path

    the_interface : IsInterface other merged f n
    the_interface = record {
      old = is.old;
      found = is.found;
      image = is.image;
      at_image = get_begin own.interfaces.items merged.interfaces.items interfaces (f.interfaces n) is.image is.at_image;
      name = name;
      in_package = λ h. in_package;
      types = λ m h. let t = matches_are_onto own other f.interfaces f.types valid_own valid_other n is m h in
          (t.0, t.1, passes_at f.carries_type (interface_type_numbers is.old) t.0 (types_carried n is.old carried is.found) t.1, t.2);
      copied = λ h. no_true (sym no_copy ∙ h);
    }

    the_type : (t : ℕ) → has (interface_type_numbers is.old) t ≡ true → f.copies_type t ≡ false → IsType other merged f t
    the_type t listed no_type_copy = record {
      def = x.def;
      found = x.found;
      image = x.image;
      at_image = get_begin own.types.items merged.types.items types (f.types t) x.image x.at_image;
      name = x.name;
      home = x.image_home ∙ ap (owner_under f) (sym x.home);
      carries_home = ap (carries_owner f) x.home ∙ carried;
      kind = inr (record { named = x.named; resource = x.resource; alias = x.alias; target = target (alias_target x.def.kind) refl });
      copied = λ h. no_true (sym no_type_copy ∙ h);
    }
      where
        x : AreNamesakes own other f.interfaces f.types n t
        x = matches_are_namesakes own other f.interfaces f.types valid_own valid_other matched n is t listed

        target : (o : Option ℕ) → alias_target x.def.kind ≡ o → passes f.carries_type o ≡ true
        target None k = refl
        target (Some u) k =
            let a = target_named other valid_other t x.def x.found u k in
            let home = target_home other valid_other t x.def x.found n x.home is.has_path u k a in
            let path = some_of (interface_path other home.0) home.2 in
            let i = has-path other home.0 path.0 path.1 in
            let found = home_listed other valid_other u a.def a.found a.name a.named_ home.0 home.1 i.def i.there in
            passes_at f.carries_type (interface_type_numbers i.def) u (types_carried home.0 i.def (named_carried home.0 home.2) i.there)
            (ap (λ ns. has ns u) (numbers_are i.def) ∙ number_listed (type_names i.def) (text_of a.name) u (under_contains (text_of a.name) (type_names i.def) u found.0))

-- ---- numbers

abbrev at : List ℕ → ℕ → ℕ
at xs n = unwrap_or (slice_get xs n) 0

abbrev flag : List Bool → ℕ → Bool
flag bs n = unwrap_or (slice_get bs n) false

-- a copy's number is the first or past it
past_first : (first : ℕ) (bs : List Bool) (ns : List ℕ) → length ns ≡ length bs → (n : ℕ) → flag bs n ≡ true → first ≤ at (numbers_of first bs ns) n
past_first first (b ∷ bs) [] long n h = absurd (omega (arith, long))
past_first first (true ∷ bs) (x ∷ ns) long zero h = omega arith
past_first first (true ∷ bs) (x ∷ ns) long (suc n) h = let r = past_first (first + 1) bs ns (omega (arith, long)) n h in omega (arith, r)
past_first first (false ∷ bs) (x ∷ ns) long (suc n) h = past_first first bs ns (omega (arith, long)) n h
past_first first _ _ long _ h = no_true h

-- copies rise
copies_rise : (first : ℕ) (bs : List Bool) (ns : List ℕ) → length ns ≡ length bs → (m n : ℕ) → m < n → flag bs m ≡ true → flag bs n ≡ true
    → at (numbers_of first bs ns) m < at (numbers_of first bs ns) n
copies_rise first (b ∷ bs) [] long m n less h k = absurd (omega (arith, long))
copies_rise first (b ∷ bs) (x ∷ ns) long m zero less h k = absurd (omega (arith, less))
copies_rise first (true ∷ bs) (x ∷ ns) long zero (suc n) less h k = let r = past_first (first + 1) bs ns (omega (arith, long)) n k in omega (arith, r)
copies_rise first (true ∷ bs) (x ∷ ns) long (suc m) (suc n) less h k = copies_rise (first + 1) bs ns (omega (arith, long)) m n (omega (arith, less)) h k
copies_rise first (false ∷ bs) (x ∷ ns) long (suc m) (suc n) less h k = copies_rise first bs ns (omega (arith, long)) m n (omega (arith, less)) h k
copies_rise first _ _ long _ _ less h k = no_true h

pub numbers_rise : NumbersRise
numbers_rise first copies others carries long low m n c d before = go (flag copies m) refl before
  where
    go : (b : Bool) → flag copies m ≡ b → (m < n) ⊎ (flag copies m ≡ false) → at (numbers_of first copies others) m < at (numbers_of first copies others) n
    go true e (inl less) = copies_rise first copies others long m n less e d
    go true e (inr other) = no_true (sym other ∙ e)
    go false e before = let below = low m c e in let high = past_first first copies others long n d in omega (arith, below, high)

module _ (f : Renumbering) (own : List (WorldKey × WorldItem)) where
  append : (olds news xs ys : List (WorldKey × WorldItem)) → Joined f own olds news → Joined f own xs ys → Joined f own (olds ++ xs) (news ++ ys)
  append _ _ xs ys joined.none k = k
  append _ _ xs ys (joined.met old there olds news c k i rest) j = joined.met old there (olds ++ xs) (news ++ ys) c k i (append olds news xs ys rest j)
  append _ _ xs ys (joined.added old new olds news n z rest) j = joined.added old new (olds ++ xs) (news ++ ys) n z (append olds news xs ys rest j)

module _ (number : ℕ → ℕ) (copies left_out : ℕ → Bool) (own : List (Text × ℕ)) where
  abbrev Named : List (Text × ℕ) → List (Text × ℕ) → Type 0
  Named olds news = JoinedNames number copies left_out own olds news

  append_names : (olds news xs ys : List (Text × ℕ)) → Named olds news → Named xs ys → Named (olds ++ xs) (news ++ ys)
  append_names _ _ xs ys names.none k = k
  append_names _ _ xs ys (names.met t n olds news d rest) j = names.met t n (olds ++ xs) (news ++ ys) d (append_names olds news xs ys rest j)
  append_names _ _ xs ys (names.left t n olds news d rest) j = names.left t n (olds ++ xs) (news ++ ys) d (append_names olds news xs ys rest j)
  append_names _ _ xs ys (names.added t n olds news d l e rest) j = names.added t n (olds ++ xs) (news ++ ys) d l e (append_names olds news xs ys rest j)

pub steps_keep : StepsKeep
steps_keep = record {
  met = λ f own olds news j old there c k i. subst (Joined f own (olds ++ old ∷ [])) (append-nil news) (append f own olds news _ _ j (joined.met old there [] [] c k i joined.none));
  added = λ f own olds news j old new n z. append f own olds news _ _ j (joined.added old new [] [] n z joined.none);
  met_name = λ number copies left_out own olds news j name old c.
      subst (JoinedNames number copies left_out own (olds ++ (name, old) ∷ [])) (append-nil news) (append_names number copies left_out own olds news _ _ j (names.met name old [] [] c names.none));
  left_name = λ number copies left_out own olds news j name old c.
      subst (JoinedNames number copies left_out own (olds ++ (name, old) ∷ [])) (append-nil news) (append_names number copies left_out own olds news _ _ j (names.left name old [] [] c names.none));
  added_name = λ number copies left_out own olds news j name old c l e. append_names number copies left_out own olds news _ _ j (names.added name old [] [] c l e names.none);
}
