-- What a world has so far, and the table of what of it is imported or exported by itself.
use Rattle.std.proofs.Common.{rules as std_rules, ◌≡◌, refl, sym, ap, ◌∙◌, subst, Bool, true, false, cond, ◌||◌, List, [], ◌∷◌, ◌++◌, map, Option, Some, None, option_map}
use Rattle.std.specs.{List.cons_option, List.filter_map, List.list_any, Option.option_map_or}
use Rattle.std.proofs.lemmas.{List.Elements.filter_map-append}
use Rattle.base_lemmas.proofs.Bools.{absorbed, or_false, or_line}
use Rattle.base_lemmas.proofs.Lists.{append_none, append_of_map}
use Rattle.base_lemmas.proofs.Elements.{any_of_map}
use Rattle.indexmap.specs.IndexSet.{insert_key}
use Rattle.wit_model.specs.Text.{Text}
use Rattle.print_grammar.specs.Tree.{PackageHead, WorldMember}
use Rattle.text_plain.specs.contracts.merging.StandingKeyPartialEq.TheImpl as keys_eq
use Rattle.text_trees.specs.TreesSeen.{world_member_of}
use Rattle.text_trees.specs.declared.tree.{WorldMember.WorldMember as CodeMember}
use Rattle.text_plain.specs.declared.{merging.Merged.Merged, merging.StandingKey.StandingKey, scopes.Heading.Heading}
use Rattle.text_plain.specs.Scopes.{heading_of}
use Rattle.text_plain.specs.Merging.{Becomes, members_seen, standing_there}
use Rattle.text_plain.specs.Plain.{Standing, same_standing, standing_of, stands_already}

abbrev pub same_keys : StandingKey → StandingKey → Bool
same_keys = keys_eq.ghosts.eq

same_both : (a b : StandingKey) → same_keys a b ≡ same_standing (standing_there a) (standing_there b)
same_both a b = search std_rules

-- an interface without its package's documentation
abbrev bare : Standing → Standing
bare s = record { exported = s.exported; named = record { home = record s.named.home { docs = [] }; name = s.named.name } }

bare_same : (a b : Standing) → same_standing a b ≡ true → bare a ≡ bare b
bare_same a b e = search std_rules

same_onward : (a b x : Standing) → same_standing a b ≡ true → same_standing b x ≡ true → same_standing a x ≡ true
same_onward a b x e f = subst (λ (s : Standing). same_standing s x ≡ true) (sym (bare_same a b e)) f

any_more : {X : Type 0} (test : X → Bool) (xs : List X) (x : X) → list_any test (xs ++ x ∷ []) ≡ (list_any test xs || test x)
any_more test [] x = or_false (test x)
any_more test (y ∷ ys) x = ap (λ (b : Bool). test y || b) (any_more test ys x) ∙ sym (or_line (test y) (list_any test ys) (test x))

-- what a key stands for stands in a table of keys
any_key : (k : StandingKey) (keys : List StandingKey) → list_any (same_keys k) keys ≡ list_any (same_standing (standing_there k)) (map standing_there keys)
any_key k keys =
    ap (λ (f : StandingKey → Bool). list_any f keys) (λ i x. same_both k x i) ∙ sym (any_of_map (same_standing (standing_there k)) standing_there keys)

any_onward : (q k : Standing) (xs : List Standing) → same_standing q k ≡ true → list_any (same_standing k) xs ≡ true → list_any (same_standing q) xs ≡ true
any_onward q k [] e f = absurd cc
any_onward q k (x ∷ xs) e f = by_first (same_standing k x) refl (any_onward q k xs e)
  where
    by_first : (b : Bool) → same_standing k x ≡ b → (list_any (same_standing k) xs ≡ true → list_any (same_standing q) xs ≡ true)
        → (same_standing q x || list_any (same_standing q) xs) ≡ true
    by_first true h later = ap (λ (b : Bool). b || list_any (same_standing q) xs) (same_onward q k x e h)
    by_first false h later = let rest : list_any (same_standing k) xs ≡ true = rw h at f in rw (later rest) (or_true' (same_standing q x))
      where
        or_true' : (b : Bool) → (b || true) ≡ true
        or_true' true = refl
        or_true' false = refl

-- Keys stand for what is among these.
abbrev pub StandFor : List StandingKey → List Standing → Type 0
StandFor keys standings = (q : Standing) → list_any (same_standing q) (map standing_there keys) ≡ list_any (same_standing q) standings

pub key_more : (old new : List StandingKey) (k : StandingKey) (standings : List Standing) → StandFor old standings → new ≡ insert_key same_keys old k
    → StandFor new (standings ++ standing_there k ∷ [])
key_more old new k standings held is q = by_there (list_any (same_keys k) old) refl
  where
    by_there : (b : Bool) → list_any (same_keys k) old ≡ b
        → list_any (same_standing q) (map standing_there new) ≡ list_any (same_standing q) (standings ++ standing_there k ∷ [])
    by_there true e =
        let same : new ≡ old = is ∙ ap (λ (b : Bool). cond b old (old ++ k ∷ [])) e in
        let there : list_any (same_standing (standing_there k)) (map standing_there old) ≡ true = sym (any_key k old) ∙ e in
        ap (λ (l : List StandingKey). list_any (same_standing q) (map standing_there l)) same
        ∙ (absorbed (list_any (same_standing q) (map standing_there old)) (same_standing q (standing_there k)) (λ h. any_onward q (standing_there k) (map standing_there old) h there)
        ∙ (ap (λ (b : Bool). b || same_standing q (standing_there k)) (held q) ∙ sym (any_more (same_standing q) standings (standing_there k))))
    by_there false e =
        let more : new ≡ old ++ k ∷ [] = is ∙ ap (λ (b : Bool). cond b old (old ++ k ∷ [])) e in
        ap (λ (l : List StandingKey). list_any (same_standing q) (map standing_there l)) more
        ∙ (ap (list_any (same_standing q)) (append_of_map standing_there old (k ∷ []))
        ∙ (any_more (same_standing q) (map standing_there old) (standing_there k)
        ∙ (ap (λ (b : Bool). b || same_standing q (standing_there k)) (held q) ∙ sym (any_more (same_standing q) standings (standing_there k)))))

pub standings_more : (here : PackageHead) (members : List WorldMember) (it : WorldMember)
    → filter_map (standing_of here) (members ++ it ∷ []) ≡ filter_map (standing_of here) members ++ cons_option (standing_of here it) []
standings_more here members it = filter_map-append (standing_of here) members (it ∷ [])

module _ (here : PackageHead) (members : List WorldMember) (it : WorldMember) (keys : List StandingKey) (held : StandFor keys (filter_map (standing_of here) members)) where
  pub pushed_new : (k : StandingKey) (new : List StandingKey) → option_map standing_there (Some k) ≡ standing_of here it → new ≡ insert_key same_keys keys k
      → StandFor new (filter_map (standing_of here) (members ++ it ∷ []))
  pushed_new k new is more q =
      key_more keys new k (filter_map (standing_of here) members) held more q
      ∙ ap (list_any (same_standing q)) (sym (standings_more here members it ∙ ap (λ (o : Option Standing). filter_map (standing_of here) members ++ cons_option o []) (sym is)))

  pub pushed_none : None ≡ standing_of here it → StandFor keys (filter_map (standing_of here) (members ++ it ∷ []))
  pushed_none is q =
      held q ∙ ap (list_any (same_standing q)) (sym (standings_more here members it
      ∙ (ap (λ (o : Option Standing). filter_map (standing_of here) members ++ cons_option o []) (sym is) ∙ append_none (filter_map (standing_of here) members))))

  pub stands_there : (k : StandingKey) (b : Bool) → option_map standing_there (Some k) ≡ standing_of here it → b ≡ list_any (same_keys k) keys → b ≡ stands_already here members it
  stands_there k b is e =
      e ∙ (any_key k keys ∙ (held (standing_there k)
      ∙ ap (λ (o : Option Standing). option_map_or (λ own. list_any (same_standing own) (filter_map (standing_of here) members)) o false) is))

pub becomes : (whole : Text) (heading : Heading) (old : List CodeMember) (it : CodeMember) (new : Merged) → new.whole.now ≡ whole → new.heading ≡ heading → new.members.items ≡ old ++ it ∷ []
    → StandFor new.standing.keys (filter_map (standing_of (heading_of whole heading)) (map (world_member_of whole) old ++ world_member_of whole it ∷ []))
    → Becomes whole heading (map (world_member_of whole) old ++ world_member_of whole it ∷ []) new
becomes whole heading old it new whole_is heading_is more held =
    let seen : members_seen new ≡ map (world_member_of whole) old ++ world_member_of whole it ∷ [] =
    ap (λ (w : Text). map (world_member_of w) new.members.items) whole_is ∙ (ap (map (world_member_of whole)) more ∙ append_of_map (world_member_of whole) old (it ∷ [])) in
    record {
      index = λ q. held q ∙ ap (λ (l : List Standing). list_any (same_standing q) l)
          (ap (filter_map (standing_of (heading_of whole heading))) (sym seen)
          ∙ (ap (λ (w : Text). filter_map (standing_of (heading_of w heading)) (members_seen new)) (sym whole_is)
          ∙ ap (λ (h : Heading). filter_map (standing_of (heading_of new.whole.now h)) (members_seen new)) (sym heading_is)));
      whole_is = whole_is;
      heading_is = heading_is;
      members_are = seen;
    }
