-- The tokens up to a place are those of the text that is cut there.
use Rattle.std.proofs.Common.{◌≡◌, refl, sym, ap, ◌∙◌, subst, ℕ, zero, suc, ◌+◌, ◌-◌, ◌<◌, ◌≤◌, Bool, true, false, ◌==◌, if◌then◌else◌, List, [], ◌∷◌, length, Option, Some, None, take, drop, slice_range, arith, length-drop}
use Rattle.std.proofs.lemmas.List.{drop-take, length-take, take_all, take-take}
use Rattle.std.proofs.lemmas.{Bool.Decides.nat_tests}
use Rattle.base_lemmas.proofs.Bools.{no-and, right_of}
use Rattle.print_grammar.specs.Token as grammar
use Rattle.print_grammar.specs.Token.Front.{Skipped, Found, Unknown}
use Rattle.print_grammar.specs.Token.{after_comment, begins_comment, found, is_blank, longest, spelled}
use Rattle.text_tokens.specs.Comments.{after_block, begins_block, behind_one, front_in_text, skipped}
use Rattle.text_tokens.specs.declared.state.State.{State}
use Rattle.text_tokens.specs.declared.state.State.TheVariants.{Start}
use Rattle.text_tokens.specs.declared.token.Token.{Token}
use Rattle.text_tokens.specs.Places.Placed.{none_placed, skip_placed, one_placed}
use Rattle.text_tokens.specs.Places.{HasNoTokenAt, Placed}
use Rattle.text_tokens.specs.States.{is_dead, is_ok, reach, step, taken}
use Rattle.text_tokens.specs.Steps.{IsUnknown}
use Rattle.text_tokens.proofs.CommentFacts.{block_all, block_more, block_on, block_short, block_whole, closes, opens}
use Rattle.text_tokens.proofs.Fronts.{front_is, never_found, never_skipped, same_bytes, skipped_some}
use Rattle.text_tokens.proofs.EndFacts.{reach_some, reach_within}
use Rattle.text_tokens.proofs.PlaceFacts.{SoFar, longest-some, no_others, placed_follows, token_of}
use Rattle.base_lemmas.proofs.{Bools.no-and}
use Rattle.text_tokens.proofs.TokenScans.{dead_not_ok, longest_scan}

-- ---- a scan of less text

-- what a scan reaches, by whether it is dead, by what it reaches from the next byte on, and by whether it stands well
abbrev onward : Bool → Option ℕ → Bool → Option ℕ
onward true o b = None
onward false (Some n) b = Some (suc n)
onward false None true = Some 0
onward false None false = None

onward-is : (d : Bool) (o : Option ℕ) (b : Bool) → (if d then None else elim o [ Some n ↦ Some (suc n) | None ↦ if b then Some 0 else None ]) ≡ onward d o b
onward-is true o b = refl
onward-is false (Some n) b = refl
onward-is false None true = refl
onward-is false None false = refl

reach-onward : (s : State) (c : ℕ) (cs : List ℕ) → reach s (c ∷ cs) ≡ onward (is_dead s) (reach (step s c) cs) (is_ok s)
reach-onward s c cs = onward-is (is_dead s) (reach (step s c) cs) (is_ok s)

reach-end : (s : State) (b : Bool) → is_ok s ≡ b → reach s [] ≡ (if b then Some 0 else None)
reach-end s b e = rw e refl

none_cut : (cs : List ℕ) (s : State) (k : ℕ) → reach s cs ≡ None → reach s (take k cs) ≡ None
none_cut [] s k e = ap (reach s) (take_all k [] (omega arith)) ∙ e
none_cut (c ∷ cs) s zero e = go (is_dead s) refl (reach (step s c) cs) (is_ok s) refl (sym (reach-onward s c cs) ∙ e)
  where
    go : (d : Bool) → is_dead s ≡ d → (o : Option ℕ) (b : Bool) → is_ok s ≡ b → onward d o b ≡ None → reach s [] ≡ None
    go true f o b g h = reach-end s false (dead_not_ok s f)
    go false f (Some n) b g h = absurd cc
    go false f None true g h = absurd cc
    go false f None false g h = reach-end s false g
none_cut (c ∷ cs) s (suc k) e = reach-onward s c (take k cs) ∙ go (is_dead s) (reach (step s c) cs) refl (is_ok s) (sym (reach-onward s c cs) ∙ e) (none_cut cs (step s c) k)
  where
    go : (d : Bool) (o : Option ℕ) → reach (step s c) cs ≡ o → (b : Bool) → onward d o b ≡ None → (reach (step s c) cs ≡ None → reach (step s c) (take k cs) ≡ None)
        → onward d (reach (step s c) (take k cs)) b ≡ None
    go true o g b f h = refl
    go false (Some n) g b f h = absurd cc
    go false None g true f h = absurd cc
    go false None g false f h = ap (λ o. onward false o false) (h g)

-- Less text that has the token has the same.
reach_cut : (cs : List ℕ) (s : State) (k n : ℕ) → reach s cs ≡ Some n → n ≤ k → reach s (take k cs) ≡ Some n
reach_cut [] s k n e w = ap (reach s) (take_all k [] (omega arith)) ∙ e
reach_cut (c ∷ cs) s zero n e w = go (is_dead s) (reach (step s c) cs) (is_ok s) refl (sym (reach-onward s c cs) ∙ e)
  where
    go : (d : Bool) (o : Option ℕ) (b : Bool) → is_ok s ≡ b → onward d o b ≡ Some n → reach s [] ≡ Some n
    go true o b g f = absurd cc
    go false (Some m) b g f = let z : suc m ≡ n = cc in absurd (omega arith)
    go false None true g f = reach-end s true g ∙ f
    go false None false g f = absurd cc
reach_cut (c ∷ cs) s (suc k) n e w = reach-onward s c (take k cs) ∙ go (is_dead s) (reach (step s c) cs) refl (is_ok s) (sym (reach-onward s c cs) ∙ e) (reach_cut cs (step s c) k)
  where
    go : (d : Bool) (o : Option ℕ) → reach (step s c) cs ≡ o → (b : Bool) → onward d o b ≡ Some n
        → ((m : ℕ) → reach (step s c) cs ≡ Some m → m ≤ k → reach (step s c) (take k cs) ≡ Some m) → onward d (reach (step s c) (take k cs)) b ≡ Some n
    go true o g b f h = absurd cc
    go false (Some m) g b f h = let z : suc m ≡ n = cc in ap (λ o. onward false o b) (h m g (omega arith)) ∙ f
    go false None g true f h = ap (λ o. onward false o true) (none_cut cs (step s c) k g) ∙ f
    go false None g false f h = absurd cc

-- ---- what stands at the front of less text

pub after_shorter : (cs : List ℕ) → length (after_comment cs) ≤ length cs
after_shorter [] = omega arith
after_shorter (c ∷ cs) = go (c == 10) (after_shorter cs)
  where
    go : (b : Bool) → length (after_comment cs) ≤ length cs → length (if b then c ∷ cs else after_comment cs) ≤ length (c ∷ cs)
    go true h = omega arith
    go false h = omega arith

after_cut : (cs : List ℕ) (k j : ℕ) → j + length (after_comment cs) ≡ length cs → j ≤ k → after_comment (take k cs) ≡ take (k - j) (after_comment cs)
after_cut [] k j e w = ap after_comment (take_all k [] (omega arith)) ∙ sym (take_all (k - j) [] (omega arith))
after_cut (c ∷ cs) k j e w = go (c == 10) refl k w e (after_shorter cs) (after_cut cs)
  where
    here : (i : ℕ) → (c == 10) ≡ true → after_comment (take i (c ∷ cs)) ≡ take i (c ∷ cs)
    here zero f = refl
    here (suc i) f = rw f refl

    go : (b : Bool) → (c == 10) ≡ b → (i : ℕ) → j ≤ i → j + length (if b then c ∷ cs else after_comment cs) ≡ length (c ∷ cs) → length (after_comment cs) ≤ length cs
        → ((i j : ℕ) → j + length (after_comment cs) ≡ length cs → j ≤ i → after_comment (take i cs) ≡ take (i - j) (after_comment cs))
        → after_comment (take i (c ∷ cs)) ≡ take (i - j) (if b then c ∷ cs else after_comment cs)
    go true f i v g s h = let z : i ≡ i - j = omega arith in here i f ∙ ap (λ n. take n (c ∷ cs)) z
    go false f zero v g s h = absurd (omega arith)
    go false f (suc i) v g s h =
        let z : i - (j - 1) ≡ suc i - j = omega arith in
        ap (λ b. if b then c ∷ take i cs else after_comment (take i cs)) f ∙ (h i (j - 1) (omega arith) (omega arith) ∙ ap (λ n. take n (after_comment cs)) z)

-- what follows a comment in `/* */` is shorter by its end at least
pub block_shorter : (cs : List ℕ) (inner : ℕ) (rest : List ℕ) → after_block inner cs ≡ Some rest → length rest + 2 ≤ length cs
block_shorter [] inner rest e = absurd (cc (e, block_short inner [] (omega arith)))
block_shorter (c ∷ []) inner rest e = absurd (cc (e, block_short inner (c ∷ []) (omega arith)))
block_shorter (c ∷ d ∷ cs) inner rest e = go (closes c d) refl (opens c d) refl inner e (block_shorter cs) (block_shorter (d ∷ cs))
  where
    whole : Some cs ≡ Some rest → length rest + 2 ≤ length (c ∷ d ∷ cs)
    whole e = let x : cs ≡ rest = cc in let l = ap length x in omega arith

    go : (a : Bool) → closes c d ≡ a → (b : Bool) → opens c d ≡ b → (inner : ℕ) → after_block inner (c ∷ d ∷ cs) ≡ Some rest
        → ((n : ℕ) (r : List ℕ) → after_block n cs ≡ Some r → length r + 2 ≤ length cs)
        → ((n : ℕ) (r : List ℕ) → after_block n (d ∷ cs) ≡ Some r → length r + 2 ≤ length (d ∷ cs)) → length rest + 2 ≤ length (c ∷ d ∷ cs)
    go true f b g zero e h k = whole (sym (block_whole c d cs f) ∙ e)
    go true f b g (suc n) e h k = let l = h n rest (sym (block_all n c d cs f) ∙ e) in omega arith
    go false f true g n e h k = let l = h (suc n) rest (sym (block_more n c d cs f g) ∙ e) in omega arith
    go false f false g n e h k = let l = k n rest (sym (block_on n c d cs f g) ∙ e) in omega arith

-- A comment in `/* */` is closed in less text that has its end.
abbrev BlockCuts : List ℕ → Type 0
BlockCuts cs = (inner k j : ℕ) (rest : List ℕ) → after_block inner cs ≡ Some rest → j + length rest ≡ length cs → j ≤ k → after_block inner (take k cs) ≡ Some (take (k - j) rest)

block_cut : (cs : List ℕ) → BlockCuts cs
block_cut [] inner k j rest e f w = absurd (cc (e, block_short inner [] (omega arith)))
block_cut (c ∷ []) inner k j rest e f w = absurd (cc (e, block_short inner (c ∷ []) (omega arith)))
block_cut (c ∷ d ∷ cs) inner k j rest e f w = at k w (block_cut cs) (block_cut (d ∷ cs))
  where
    behind : j ≡ 2 + (j - 2)
    behind = let s = block_shorter (c ∷ d ∷ cs) inner rest e in omega arith

    fewer : (i : ℕ) → i - (j - 2) ≡ suc (suc i) - j
    fewer i = let b = behind in omega arith

    same : (m n : ℕ) → m ≡ n → Some (take m rest) ≡ Some (take n rest)
    same m n h = ap (λ x. Some (take x rest)) h

    whole : (i : ℕ) → Some cs ≡ Some rest → Some (take i cs) ≡ Some (take (suc (suc i) - j) rest)
    whole i h = let x : cs ≡ rest = cc in let l = ap length x in ap (λ y. Some (take i y)) x ∙ same i (suc (suc i) - j) (omega arith)

    go : (a : Bool) → closes c d ≡ a → (b : Bool) → opens c d ≡ b → (n : ℕ) → after_block n (c ∷ d ∷ cs) ≡ Some rest → (i : ℕ) → j ≤ suc (suc i) → BlockCuts cs → BlockCuts (d ∷ cs)
        → after_block n (c ∷ d ∷ take i cs) ≡ Some (take (suc (suc i) - j) rest)
    go true p b q zero e i v h g = block_whole c d (take i cs) p ∙ whole i (sym (block_whole c d cs p) ∙ e)
    go true p b q (suc n) e i v h g =
        let z = behind in
        block_all n c d (take i cs) p ∙ (h n i (j - 2) rest (sym (block_all n c d cs p) ∙ e) (omega arith) (omega arith) ∙ same (i - (j - 2)) (suc (suc i) - j) (fewer i))
    go false p true q n e i v h g =
        let z = behind in
        block_more n c d (take i cs) p q
        ∙ (h (suc n) i (j - 2) rest (sym (block_more n c d cs p q) ∙ e) (omega arith) (omega arith) ∙ same (i - (j - 2)) (suc (suc i) - j) (fewer i))
    go false p false q n e i v h g =
        let z = behind in
        block_on n c d (take i cs) p q
        ∙ (g n (suc i) (j - 1) rest (sym (block_on n c d cs p q) ∙ e) (omega arith) (omega arith) ∙ same (suc i - (j - 1)) (suc (suc i) - j) (omega arith))

    at : (k : ℕ) → j ≤ k → BlockCuts cs → BlockCuts (d ∷ cs) → after_block inner (take k (c ∷ d ∷ cs)) ≡ Some (take (k - j) rest)
    at zero v h g = let z = behind in absurd (omega arith)
    at (suc zero) v h g = let z = behind in absurd (omega arith)
    at (suc (suc i)) v h g = go (closes c d) refl (opens c d) refl inner e i v h g

pub slash_no_line_feed : (d : ℕ) → (d == 47) ≡ true → (d == 10) ≡ false
slash_no_line_feed d h = grind (arith, nat_tests)

cut_skip : (x : List ℕ) (k j : ℕ) (rest : List ℕ) → front_in_text x ≡ Skipped rest → j + length rest ≡ length x → j ≤ k → front_in_text (take k x) ≡ Skipped (take (k - j) rest)
cut_skip [] k j rest e f w = absurd cc
cut_skip (c ∷ cs) k j rest e f w = go (is_blank c) refl (begins_comment (c ∷ cs)) refl (begins_block (c ∷ cs)) refl
  where
    blank : (i : ℕ) → is_blank c ≡ true → cs ≡ rest → j ≤ i → front_in_text (take i (c ∷ cs)) ≡ Skipped (take (i - j) rest)
    blank zero h p v = let l = ap length p in absurd (omega arith)
    blank (suc i) h p v =
        let l = ap length p in
        let z : i ≡ suc i - j = omega arith in
        front_is c (take i cs) true (begins_comment (c ∷ take i cs)) (begins_block (c ∷ take i cs)) h refl refl ∙ ap Skipped (ap (take i) p ∙ ap (λ n. take n rest) z)

    comment : (ds : List ℕ) (i : ℕ) → is_blank c ≡ false → begins_comment (c ∷ ds) ≡ true → after_comment ds ≡ rest → j + length rest ≡ length (c ∷ ds) → j ≤ i
        → front_in_text (take i (c ∷ ds)) ≡ Skipped (take (i - j) rest)
    comment [] i h b p g v = absurd (cc (b, no-and (c == 47)))
    comment (d ∷ ds) i h b p g v = go_on i v
      where
        slash : (d == 47) ≡ true
        slash = right_of (c == 47) (d == 47) b

        shorter : length rest ≤ length ds
        shorter = let l = ap length p in let m = ap (λ y. length (if y then d ∷ ds else after_comment ds)) (slash_no_line_feed d slash) in let n = after_shorter ds in omega arith

        go_on : (i : ℕ) → j ≤ i → front_in_text (take i (c ∷ d ∷ ds)) ≡ Skipped (take (i - j) rest)
        go_on zero v = let s = shorter in absurd (omega arith)
        go_on (suc zero) v = let s = shorter in absurd (omega arith)
        go_on (suc (suc i)) v =
            let s = shorter in
            let l = ap length p in
            let z : suc i - (j - 1) ≡ suc (suc i) - j = omega arith in
            front_is c (d ∷ take i ds) false true (begins_block (c ∷ d ∷ take i ds)) h b refl
            ∙ ap Skipped (after_cut (d ∷ ds) (suc i) (j - 1) (omega arith) (omega arith) ∙ (ap (take (suc i - (j - 1))) p ∙ ap (λ n. take n rest) z))

    block : (ds : List ℕ) (i : ℕ) → is_blank c ≡ false → begins_comment (c ∷ ds) ≡ false → begins_block (c ∷ ds) ≡ true → after_block 0 (behind_one ds) ≡ Some rest
        → j + length rest ≡ length (c ∷ ds) → j ≤ i → front_in_text (take i (c ∷ ds)) ≡ Skipped (take (i - j) rest)
    block [] i h n b p g v = absurd (cc (b, no-and (c == 47)))
    block (d ∷ ds) i h n b p g v = go_on i v
      where
        shorter : length rest + 2 ≤ length ds
        shorter = block_shorter ds 0 rest p

        go_on : (i : ℕ) → j ≤ i → front_in_text (take i (c ∷ d ∷ ds)) ≡ Skipped (take (i - j) rest)
        go_on zero v = let s = shorter in absurd (omega arith)
        go_on (suc zero) v = let s = shorter in absurd (omega arith)
        go_on (suc (suc i)) v =
            let s = shorter in
            let z : i - (j - 2) ≡ suc (suc i) - j = omega arith in
            front_is c (d ∷ take i ds) false false true h n b
            ∙ (ap skipped (block_cut ds 0 i (j - 2) rest p (omega arith) (omega arith)) ∙ ap (λ n. Skipped (take n rest)) z)

    go : (a : Bool) → is_blank c ≡ a → (b : Bool) → begins_comment (c ∷ cs) ≡ b → (d : Bool) → begins_block (c ∷ cs) ≡ d → front_in_text (take k (c ∷ cs)) ≡ Skipped (take (k - j) rest)
    go true g b h d i = blank k g (same_bytes cs rest (sym (front_is c cs true b d g h i) ∙ e)) w
    go false g true h d i = comment cs k g h (same_bytes (after_comment cs) rest (sym (front_is c cs false true d g h i) ∙ e)) f w
    go false g false h true i = block cs k g h i (skipped_some (after_block 0 (behind_one cs)) rest (sym (front_is c cs false false true g h i) ∙ e)) f w
    go false g false h false i = absurd (never_skipped (longest [] (c ∷ cs)) rest (sym (front_is c cs false false false g h i) ∙ e))

no_comment_cut : (c : ℕ) (cs : List ℕ) (i : ℕ) → begins_comment (c ∷ cs) ≡ false → begins_comment (c ∷ take i cs) ≡ false
no_comment_cut c cs zero h = no-and (c == 47)
no_comment_cut c [] (suc i) h = h
no_comment_cut c (d ∷ ds) (suc i) h = h

no_block_cut : (c : ℕ) (cs : List ℕ) (i : ℕ) → begins_block (c ∷ cs) ≡ false → begins_block (c ∷ take i cs) ≡ false
no_block_cut c cs zero h = no-and (c == 47)
no_block_cut c [] (suc i) h = h
no_block_cut c (d ∷ ds) (suc i) h = h

same_found : (t u : grammar.Token) (xs ys : List ℕ) → Found t xs ≡ Found u ys → (t ≡ u) × (xs ≡ ys)
same_found t u xs ys e = (cc, cc)

cut_found : (x : List ℕ) (k j : ℕ) (t : grammar.Token) (rest : List ℕ) → front_in_text x ≡ Found t rest → j + length rest ≡ length x → j ≤ k → front_in_text (take k x) ≡ Found t (take (k - j) rest)
cut_found [] k j t rest e f w = absurd cc
cut_found (c ∷ cs) k j t rest e f w = go (is_blank c) refl (begins_comment (c ∷ cs)) refl (begins_block (c ∷ cs)) refl
  where
    at : (i n : ℕ) → front_in_text (c ∷ cs) ≡ found (longest [] (c ∷ cs)) → is_blank c ≡ false → begins_comment (c ∷ cs) ≡ false → begins_block (c ∷ cs) ≡ false → reach Start (c ∷ cs) ≡ Some n → j ≤ i
        → front_in_text (take i (c ∷ cs)) ≡ Found t (take (i - j) rest)
    at i n g b h y r v = go_on i v
      where
        u : (x : grammar.Token) × (spelled (take n (c ∷ cs)) ≡ Some x)
        u = token_of (c ∷ cs) n r

        same : (u.0 ≡ t) × (drop n (c ∷ cs) ≡ rest)
        same = same_found u.0 t (drop n (c ∷ cs)) rest (sym (g ∙ ap found (longest-some (c ∷ cs) n u.0 r u.1)) ∙ e)

        count : j ≡ n
        count = let l = ap length same.1 in let w = reach_within (c ∷ cs) Start n r in omega (arith, length-drop n (c ∷ cs))

        go_on : (i : ℕ) → j ≤ i → front_in_text (take i (c ∷ cs)) ≡ Found t (take (i - j) rest)
        go_on zero v = let s = reach_some (c ∷ cs) n r in let m = count in absurd (omega arith)
        go_on (suc i) v =
            let m = count in
            let w : n ≤ suc i = omega arith in
            let z : n + (suc i - j) ≡ suc i = omega arith in
            let spell = ap spelled (take-take n (suc i) (c ∷ cs) w) ∙ u.1 in
            let behind = ap (λ y. drop n (take y (c ∷ cs))) (sym z) ∙ (drop-take n (suc i - j) (c ∷ cs) ∙ ap (take (suc i - j)) same.1) in
            front_is c (take i cs) false false false b (no_comment_cut c cs i h) (no_block_cut c cs i y)
            ∙ (ap found (longest-some (take (suc i) (c ∷ cs)) n u.0 (reach_cut (c ∷ cs) Start (suc i) n r w) spell)
            ∙ (ap (λ y. Found y (drop n (take (suc i) (c ∷ cs)))) same.0 ∙ ap (Found t) behind))

    reached : (o : Option ℕ) → reach Start (c ∷ cs) ≡ o → front_in_text (c ∷ cs) ≡ found (longest [] (c ∷ cs)) → is_blank c ≡ false → begins_comment (c ∷ cs) ≡ false → begins_block (c ∷ cs) ≡ false
        → front_in_text (take k (c ∷ cs)) ≡ Found t (take (k - j) rest)
    reached None r g b h y = let x : Unknown ≡ Found t rest = sym (g ∙ ap found (longest_scan (c ∷ cs) ∙ ap (taken [] (c ∷ cs)) r)) ∙ e in absurd (cc x)
    reached (Some n) r g b h y = at k n g b h y r w

    go : (a : Bool) → is_blank c ≡ a → (b : Bool) → begins_comment (c ∷ cs) ≡ b → (d : Bool) → begins_block (c ∷ cs) ≡ d → front_in_text (take k (c ∷ cs)) ≡ Found t (take (k - j) rest)
    go true g b h d i = let x : Skipped cs ≡ Found t rest = sym (front_is c cs true b d g h i) ∙ e in absurd (cc x)
    go false g true h d i = let x : Skipped (after_comment cs) ≡ Found t rest = sym (front_is c cs false true d g h i) ∙ e in absurd (cc x)
    go false g false h true i = absurd (never_found (after_block 0 (behind_one cs)) t rest (sym (front_is c cs false false true g h i) ∙ e))
    go false g false h false i = reached (reach Start (c ∷ cs)) refl (front_is c cs false false false g h i) g h i

-- ---- tokens with places

placed_order : {text : List ℕ} {from to : ℕ} {places : List Token} {tokens : List grammar.Token} → Placed text from to places tokens → from ≤ to
placed_order none_placed = omega arith
placed_order (skip_placed e l w more) = let h = placed_order more in omega arith
placed_order (one_placed place t s more) = let h = placed_order more in let l = s.longer in omega arith

part : (text : List ℕ) (n to : ℕ) → n ≤ to → take (to - n) (drop n text) ≡ drop n (take to text)
part text n to h = let z : n + (to - n) ≡ to = omega arith in sym (drop-take n (to - n) text) ∙ ap (λ y. drop n (take y text)) z

-- how many bytes a step takes
taken_bytes : (text : List ℕ) (at next : ℕ) → at < next → next ≤ length text → (next - at) + length (drop next text) ≡ length (drop at text)
taken_bytes text at next h w = omega (arith, length-drop at text, length-drop next text)

rest_part : (text : List ℕ) (at next to : ℕ) → at < next → next ≤ to → take ((to - at) - (next - at)) (drop next text) ≡ drop next (take to text)
rest_part text at next to h w = let z : (to - at) - (next - at) ≡ to - next = omega arith in ap (λ n. take n (drop next text)) z ∙ part text next to w

cut_range : (text : List ℕ) (start end to : ℕ) → start ≤ end → end ≤ to → slice_range (take to text) start end ≡ slice_range text start end
cut_range text start end to h k =
    ap (take (end - start)) (sym (part text start to (omega arith))) ∙ take-take (end - start) (to - start) (drop start text) (omega arith)

-- Tokens with places up to a byte are at these places in the text that is cut there.
cut_placed : {text : List ℕ} {from to : ℕ} {places : List Token} {tokens : List grammar.Token} → to ≤ length text → Placed text from to places tokens
    → Placed (take to text) from to places tokens
cut_placed u none_placed = none_placed
cut_placed {text} {from} {to} u (skip_placed {next = next} e l w more) =
    let h = placed_order more in
    let f = cut_skip (drop from text) (to - from) (next - from) (drop next text) e (taken_bytes text from next l w) (omega arith) in
    skip_placed (ap front_in_text (sym (part text from to (omega arith))) ∙ (f ∙ ap Skipped (rest_part text from next to l h))) l (omega (arith, length-take to text)) (cut_placed u more)
cut_placed {text} {from} {to} u (one_placed place t s more) =
    let h = placed_order more in
    let l = s.longer in
    let f = cut_found (drop place.start text) (to - place.start) (place.end - place.start) t (drop place.end text) s.found (taken_bytes text place.start place.end l s.within) (omega arith) in
    one_placed place t
    (record {
      found = ap front_in_text (sym (part text place.start to (omega arith))) ∙ (f ∙ ap (Found t) (rest_part text place.start place.end to l h));
      spelled = ap spelled (cut_range text place.start place.end to (omega arith) h) ∙ s.spelled;
      kind = s.kind;
      longer = l;
      within = omega (arith, length-take to text);
    }) (cut_placed u more)

-- ---- a place where none begins

pub has_no_token : (text : List ℕ) (at : ℕ) (places : List Token) → SoFar text at places → IsUnknown text at → HasNoTokenAt text at
has_no_token text at places s u =
    let w = s.within in
    let i = placed_follows 0 (omega arith) (omega (arith, length-take at text)) (cut_placed w s.placed) in
    record {
      places = places;
      found = i.found;
      before = i.follows;
      placed = subst (λ x. Placed text 0 at places x) (sym i.tokens) s.placed;
      within = u.within;
      unknown = u.unknown;
      none = λ others x. no_others u.unknown s.placed x;
    }
