-- Packages list what texts declare, one after the other. Serves packages.
use Rattle.std.proofs.Common.{◌≡◌, ◌∙◌, refl, sym, ap, subst, ◌<◌, ◌≤◌, ◌+◌, ℕ, Bool, true, false, cond, nat_eq, List, [], ◌∷◌, ◌++◌, Option, Some, None, option_map, slice_get, slice_set, length, take, get_or, map, filter, arith, ◌⊎◌, inl, inr, append-nil, String, Global, Result, Ok, Err, OnOk}
use Rattle.std.specs.List.{AllZip}
use Rattle.std.specs.Map.{lookup}
use Rattle.std.proofs.lemmas.Bool.{cases_eq, eq-eqb, eqb-true}
use Rattle.std.proofs.lemmas.List.{get_or-set_same, length-set, take_more}
use Rattle.wit_model.proofs.Elements.{zip-push}
use Rattle.std.proofs.lemmas.List.Elements.{filter_more}
use Rattle.std.proofs.lemmas.Option.{get_or_from_slice_get, slice_get_read, slice_get_within, slice_get-map}
use Rattle.base_lemmas.proofs.Elements.{zip_at_right, zip_map}
use Rattle.base_lemmas.proofs.Lists.{get_back, set_there}
use Rattle.wit_model.specs.Text.{Text, text_of}
use Rattle.wit_model.specs.declared.model.{InterfaceId.InterfaceId, Package.Package, WorldId.WorldId}
use Rattle.print_items.specs.Shown.{shown_head}
use Rattle.text_names.specs.declared.sources.{InterfaceSource.InterfaceSource, Sources.Sources, WorldSource.WorldSource}
use Rattle.text_names.specs.{Contents.text_at, Tables.head_there, Tables.heads_of, Tables.interface_key, Tables.world_key, Tables.IsIndex}
use Rattle.text_trees.specs.Seen.{cut}
use Rattle.text_types.specs.Each.{EachIs}
use Rattle.text_types.proofs.EachLaws.{each_weaker, push_each}
use Rattle.wit_text.specs.Puts.{number_at}
use Rattle.wit_text.specs.Listed.{AreListed, AreWorldsListed, IsBarePackage, IsListed, IsWorldListed, KeepsInterfaces, KeepsWorlds, ListsPackages, is_of}
use Rattle.std.proofs.Math.Seq.{map-set_same}
use Rattle.indexmap.specs.IndexMap.{insert_entry}
use Rattle.indexmap.proofs.CallerLemmas.{insert_entry-new}
use Rattle.text_types.specs.Made.{NameMap}

-- ---- one entry more

-- Of packages, that of this number has one entry more, and the others have theirs.
pub record AddsOne {E : Type 0} (entries_of : Package → List E) (home : ℕ) (entry : E) (old new : List Package) : Type 0 where
  pub own : (q : Package) → slice_get new home ≡ Some q → (p : Package) × (slice_get old home ≡ Some p) × (entries_of q ≡ entries_of p ++ entry ∷ [])
  pub others : (n : ℕ) → (n ≡ home → ⊥) → slice_get new n ≡ slice_get old n

module _ {E : Type 0} (entries_of : Package → List E) (home : ℕ) (entry : E) (old : List Package) where
  pub adds_found : (p q : Package) → slice_get old home ≡ Some p → entries_of q ≡ entries_of p ++ entry ∷ []
      → AddsOne entries_of home entry old (slice_set old home q)
  adds_found p q there grown =
      let low = slice_get_within old home p there in
      let its : slice_get (slice_set old home q) home ≡ Some q =
      slice_get_read (slice_set old home q) (length old) home q (sym (length-set old home q)) low (sym (get_or-set_same old home q q low)) in
      record {
        own = λ x is. let same : q ≡ x = cc (its, is) in (p, there, subst (λ z. entries_of z ≡ entries_of p ++ entry ∷ []) same grown);
        others = λ n other. set_there old home n q other;
      }

  pub adds_past : length old ≤ home → AddsOne entries_of home entry old old
  adds_past past = record {
    own = λ q is. absurd (let low = slice_get_within old home q is in omega arith);
    others = λ n other. refl;
  }

module _ {X E : Type 0} (Is : ℕ → ℕ → X → E → Type 0) (home_of : X → ℕ) (entries_of : Package → List E) (xs : List X) where
  -- what packages list of the first
  abbrev pub ListFirst : ℕ → List Package → Type 0
  ListFirst count packages =
      (n : ℕ) (p : Package) → slice_get packages n ≡ Some p → EachIs (Is n count) (filter (λ x. nat_eq (home_of x) n) (take count xs)) (entries_of p)

  module _ (weaker : (home count : ℕ) (x : X) (e : E) → Is home count x e → Is home (count + 1) x e) (count : ℕ) (x : X) (there : slice_get xs count ≡ Some x)
      (entry : E) (is : Is (home_of x) (count + 1) x entry) (old new : List Package) (listed : ListFirst count old)
      (adds : AddsOne entries_of (home_of x) entry old new) where
    low : count < length xs
    low = slice_get_within xs count x there

    at : get_or xs count x ≡ x
    at = get_or_from_slice_get xs count x x there

    its_filter : filter (λ y. nat_eq (home_of y) (home_of x)) (take (count + 1) xs) ≡ filter (λ y. nat_eq (home_of y) (home_of x)) (take count xs) ++ x ∷ []
    its_filter =
        filter_more (λ y. nat_eq (home_of y) (home_of x)) xs count x low
        ∙ ap (λ z. filter (λ y. nat_eq (home_of y) (home_of x)) (take count xs) ++ z)
        (ap (λ y. cond (nat_eq (home_of y) (home_of x)) (y ∷ []) []) at ∙ ap (λ b. cond b (x ∷ []) []) (eq-eqb (home_of x) (home_of x) refl))

    other_filter : (n : ℕ) → (n ≡ home_of x → ⊥) → filter (λ y. nat_eq (home_of y) n) (take (count + 1) xs) ≡ filter (λ y. nat_eq (home_of y) n) (take count xs)
    other_filter n other =
        filter_more (λ y. nat_eq (home_of y) n) xs count x low
        ∙ (ap (λ z. filter (λ y. nat_eq (home_of y) n) (take count xs) ++ z)
        (ap (λ y. cond (nat_eq (home_of y) n) (y ∷ []) []) at ∙ ap (λ b. cond b (x ∷ []) []) (by (nat_eq (home_of x) n) refl)) ∙ append-nil _)
      where
        by : (b : Bool) → nat_eq (home_of x) n ≡ b → nat_eq (home_of x) n ≡ false
        by true e = absurd (other (sym (eqb-true (home_of x) n e)))
        by false e = e

    pub one_listed : ListFirst (count + 1) new
    one_listed n q h = by (cases_eq n (home_of x))
      where
        by : (n ≡ home_of x) ⊎ (n ≡ home_of x → ⊥) → EachIs (Is n (count + 1)) (filter (λ y. nat_eq (home_of y) n) (take (count + 1) xs)) (entries_of q)
        by (inl same) =
            let here : slice_get new (home_of x) ≡ Some q = subst (λ m. slice_get new m ≡ Some q) same h in
            let p = adds.own q here in
            let before = each_weaker (weaker (home_of x) count) (listed (home_of x) p.0 p.1) in
            let grown = push_each x entry before is in
            subst (λ m. EachIs (Is m (count + 1)) (filter (λ y. nat_eq (home_of y) m) (take (count + 1) xs)) (entries_of q)) (sym same)
            (subst (λ zs. EachIs (Is (home_of x) (count + 1)) zs (entries_of q)) (sym its_filter)
            (subst (λ es. EachIs (Is (home_of x) (count + 1)) (filter (λ y. nat_eq (home_of y) (home_of x)) (take count xs) ++ x ∷ []) es) (sym p.2) grown))
        by (inr other) =
            subst (λ zs. EachIs (Is n (count + 1)) zs (entries_of q)) (sym (other_filter n other))
            (each_weaker (weaker n count) (listed n q (sym (adds.others n other) ∙ h)))

-- ---- names are apart

module _ (s : Sources) (index : IsIndex s) where
  pub same_interface : (i j : ℕ) (a b : InterfaceSource) → slice_get s.interfaces.items i ≡ Some a → slice_get s.interfaces.items j ≡ Some b
      → interface_key s.texts.now a ≡ interface_key s.texts.now b → i ≡ j
  same_interface i j a b one other same =
      let key : InterfaceSource → ℕ × Text = interface_key s.texts.now in
      let first = index.interfaces.has i (key a) (slice_get-map key s.interfaces.items i ∙ ap (option_map key) one) in
      let second = index.interfaces.has j (key b) (slice_get-map key s.interfaces.items j ∙ ap (option_map key) other) in
      cc (first, second, same)

  pub same_world : (i j : ℕ) (a b : WorldSource) → slice_get s.worlds.items i ≡ Some a → slice_get s.worlds.items j ≡ Some b
      → world_key s.texts.now a ≡ world_key s.texts.now b → i ≡ j
  same_world i j a b one other same =
      let key : WorldSource → ℕ × Text = world_key s.texts.now in
      let first = index.worlds.has i (key a) (slice_get-map key s.worlds.items i ∙ ap (option_map key) one) in
      let second = index.worlds.has j (key b) (slice_get-map key s.worlds.items j ∙ ap (option_map key) other) in
      cc (first, second, same)

same_pair : {A B : Type 0} {a c : A} {b d : B} → a ≡ c → b ≡ d → ◌≡◌ {A = A × B} (a, b) (c, d)
same_pair {a = a} {c = c} {b = b} {d = d} h k = cc

-- no key passes a test that none passes
pub none_passes : {X V : Type 0} {Is : X → String Global × V → Type 0} (test : String Global → Bool)
    → ((x : X) (e : String Global × V) → Is x e → test e.0 ≡ true → ⊥)
    → {xs : List X} {es : List (String Global × V)} → EachIs Is xs es → lookup test es ≡ None
none_passes test never EachIs.no_more = refl
none_passes {V = V} test never (EachIs.one_more {x = x} {y = e} {ys = es} k ks) = by (test e.0) refl (none_passes test never ks)
  where
    by : (b : Bool) → test e.0 ≡ b → lookup test es ≡ None → cond b (Some e.1) (lookup test es) ≡ None
    by true h rest = absurd (never x e k h)
    by false h rest = rest

pub listed_weaker : (s : Sources) (numbers : List (Option ℕ)) (home n : ℕ) (source : InterfaceSource) (e : String Global × InterfaceId)
    → IsListed s numbers home n source e → IsListed s numbers home (n + 1) source e
listed_weaker s numbers home n source e k = record {
  own = k.own;
  below = let low = k.below in omega arith;
  there = k.there;
  home_is = k.home_is;
  name = k.name;
  number = k.number;
}

pub world_weaker : (s : Sources) (home n : ℕ) (source : WorldSource) (e : String Global × WorldId) → IsWorldListed s home n source e
    → IsWorldListed s home (n + 1) source e
world_weaker s home n source e k = record {
  own = k.own;
  below = let low = k.below in omega arith;
  there = k.there;
  home_is = k.home_is;
  name = k.name;
  number = k.number;
}

module _ (s : Sources) (index : IsIndex s) (count : ℕ) where
  -- a name of the package isn't among the earlier ones
  pub new_interface : (numbers : List (Option ℕ)) (source : InterfaceSource) → slice_get s.interfaces.items count ≡ Some source → (name : Text)
      → name ≡ cut (text_at s.texts.now source.text) source.name → (test : String Global → Bool) → ((k : String Global) → test k ≡ true → name ≡ text_of k)
      → {zs : List InterfaceSource} {es : List (String Global × InterfaceId)} → EachIs (IsListed s numbers source.«package» count) zs es → lookup test es ≡ None
  new_interface numbers source there name named test tests each =
      none_passes {Is = IsListed s numbers source.«package» count} test
      (λ x e k passes.
      let names : cut (text_at s.texts.now source.text) source.name ≡ cut (text_at s.texts.now x.text) x.name = sym named ∙ (tests e.0 passes ∙ k.name) in
      let keys : interface_key s.texts.now x ≡ interface_key s.texts.now source = same_pair k.home_is (sym names) in
      let same = same_interface s index k.own count x source k.there there keys in
      let low = k.below in
      absurd (omega arith)) each

  pub new_world : (source : WorldSource) → slice_get s.worlds.items count ≡ Some source → (name : Text)
      → name ≡ cut (text_at s.texts.now source.text) source.name → (test : String Global → Bool) → ((k : String Global) → test k ≡ true → name ≡ text_of k)
      → {zs : List WorldSource} {es : List (String Global × WorldId)} → EachIs (IsWorldListed s source.«package» count) zs es → lookup test es ≡ None
  new_world source there name named test tests each =
      none_passes {Is = IsWorldListed s source.«package» count} test
      (λ x e k passes.
      let names : cut (text_at s.texts.now source.text) source.name ≡ cut (text_at s.texts.now x.text) x.name = sym named ∙ (tests e.0 passes ∙ k.name) in
      let keys : world_key s.texts.now x ≡ world_key s.texts.now source = same_pair k.home_is (sym names) in
      let same = same_world s index k.own count x source k.there there keys in
      let low = k.below in
      absurd (omega arith)) each

-- ---- what stays

same_past : {B : Type 0} (f : Package → B) (ps : List Package) (n : ℕ) (p q : Package) → slice_get ps n ≡ Some p → f q ≡ f p
    → map f (slice_set ps n q) ≡ map f ps
same_past f ps n p q there same = map-set_same f ps n q q (same ∙ ap f (sym (get_or_from_slice_get ps n p q there)))

pub keeps_worlds : (ps : List Package) (n : ℕ) (p q : Package) → slice_get ps n ≡ Some p → shown_head q ≡ shown_head p → q.worlds.entries ≡ p.worlds.entries
    → KeepsWorlds ps (slice_set ps n q)
keeps_worlds ps n p q there head worlds =
    record { heads = same_past shown_head ps n p q there head; worlds = same_past (λ x. x.worlds.entries) ps n p q there worlds }

pub keeps_interfaces : (ps : List Package) (n : ℕ) (p q : Package) → slice_get ps n ≡ Some p → shown_head q ≡ shown_head p
    → q.interfaces.entries ≡ p.interfaces.entries → KeepsInterfaces ps (slice_set ps n q)
keeps_interfaces ps n p q there head interfaces =
    record { heads = same_past shown_head ps n p q there head; interfaces = same_past (λ x. x.interfaces.entries) ps n p q there interfaces }

-- packages that have the same of something as others
same_at : {B : Type 0} (f : Package → B) (ps qs : List Package) (n : ℕ) (q : Package) → map f qs ≡ map f ps → slice_get qs n ≡ Some q
    → (p : Package) × (slice_get ps n ≡ Some p) × (f p ≡ f q)
same_at f ps qs n q same there =
    get_back f ps n (f q) (sym (ap (λ xs. slice_get xs n) same) ∙ (slice_get-map f qs n ∙ ap (option_map f) there))

-- ---- at first, and at last

pub bare_heads : (s : Sources) (ps : List Package) → AllZip (IsBarePackage s) s.packages.items ps → map shown_head ps ≡ heads_of s
bare_heads s ps bare = zip_map (IsBarePackage s) (head_there s.texts.now) shown_head (λ a b k. k.head) s.packages.items ps bare

pub bare_listed : (s : Sources) (numbers : List (Option ℕ)) (ps : List Package) → AllZip (IsBarePackage s) s.packages.items ps → AreListed s numbers 0 ps
bare_listed s numbers ps bare n p there =
    let k = zip_at_right (IsBarePackage s) s.packages.items ps bare n p there in
    subst (λ es. EachIs (IsListed s numbers n 0) [] es) (sym k.2.interfaces) EachIs.no_more

pub bare_worlds : (s : Sources) (ps qs : List Package) → AllZip (IsBarePackage s) s.packages.items ps → KeepsWorlds ps qs → AreWorldsListed s 0 qs
bare_worlds s ps qs bare kept n q there =
    let p = same_at (λ x. x.worlds.entries) ps qs n q kept.worlds there in
    let k = zip_at_right (IsBarePackage s) s.packages.items ps bare n p.0 p.1 in
    subst (λ es. EachIs (IsWorldListed s n 0) [] es) (sym (sym p.2 ∙ k.2.worlds)) EachIs.no_more

pub all_listed : (s : Sources) (numbers : List (Option ℕ)) (ps qs rs : List Package) → AllZip (IsBarePackage s) s.packages.items ps → KeepsWorlds ps qs
    → AreListed s numbers (length s.interfaces.items) qs → KeepsInterfaces qs rs → AreWorldsListed s (length s.worlds.items) rs → ListsPackages s numbers rs
all_listed s numbers ps qs rs bare first listed second worlds = record {
  heads = second.heads ∙ (first.heads ∙ bare_heads s ps bare);
  interfaces = λ n r there.
      let q = same_at (λ x. x.interfaces.entries) qs rs n r second.interfaces there in
      subst (λ es. EachIs (IsListed s numbers n (length s.interfaces.items)) (filter (is_of n) (take (length s.interfaces.items) s.interfaces.items)) es) q.2
      (listed n q.0 q.1);
  worlds = worlds;
}

pub named_last : (s : Sources) (numbers : List (Option ℕ)) (ps qs rs : List Package) {X E : Type 0} (r : Result X E)
    → AllZip (IsBarePackage s) s.packages.items ps
    → KeepsWorlds ps qs → AreListed s numbers (length s.interfaces.items) qs → OnOk r (KeepsInterfaces qs rs)
    → OnOk r (AreWorldsListed s (length s.worlds.items) rs) → OnOk r (ListsPackages s numbers rs)
named_last s numbers ps qs rs (Ok x) bare first listed second worlds = all_listed s numbers ps qs rs bare first listed second worlds
named_last s numbers ps qs rs (Err e) bare first listed second worlds = tt

-- ---- one more entry, where there is room for its name

pub interface_put : (s : Sources) (numbers : List (Option ℕ)) (count : ℕ) (source : InterfaceSource)
    → slice_get s.interfaces.items count ≡ Some source → (name : String Global) → text_of name ≡ cut (text_at s.texts.now source.text) source.name
    → (id : InterfaceId) → id.0 ≡ number_at numbers count → (ps : List Package) → AreListed s numbers count ps → (qs : List Package)
    → AddsOne (λ (p : Package). p.interfaces.entries) source.«package» (name, id) ps qs → AreListed s numbers (count + 1) qs
interface_put s numbers count source there name named id number ps listed qs adds =
    one_listed (IsListed s numbers) (λ x. x.«package») (λ p. p.interfaces.entries) s.interfaces.items (listed_weaker s numbers) count source there
    (name, id) (record { own = count; below = omega arith; there = there; home_is = refl; name = named; number = number }) ps qs listed adds

pub world_put : (s : Sources) (count : ℕ) (source : WorldSource)
    → slice_get s.worlds.items count ≡ Some source → (name : String Global) → text_of name ≡ cut (text_at s.texts.now source.text) source.name
    → (id : WorldId) → id.0 ≡ count → (ps : List Package) → AreWorldsListed s count ps → (qs : List Package)
    → AddsOne (λ (p : Package). p.worlds.entries) source.«package» (name, id) ps qs → AreWorldsListed s (count + 1) qs
world_put s count source there name named id number ps listed qs adds =
    one_listed (IsWorldListed s) (λ x. x.«package») (λ p. p.worlds.entries) s.worlds.items (world_weaker s) count source there
    (name, id) (record { own = count; below = omega arith; there = there; home_is = refl; name = named; number = number }) ps qs listed adds

pub put_interface : (s : Sources) (index : IsIndex s) (numbers : List (Option ℕ)) (count : ℕ) (source : InterfaceSource)
    → slice_get s.interfaces.items count ≡ Some source → (name : String Global) → text_of name ≡ cut (text_at s.texts.now source.text) source.name
    → (id : InterfaceId) → id.0 ≡ number_at numbers count → (ps : List Package) → AreListed s numbers count ps → (p : Package)
    → slice_get ps source.«package» ≡ Some p → (eq : String Global → String Global → Bool)
    → ((k : String Global) → eq name k ≡ true → text_of name ≡ text_of k) → (m : NameMap InterfaceId)
    → m.entries ≡ insert_entry eq p.interfaces.entries name id
    → AreListed s numbers (count + 1) (slice_set ps source.«package» (record p { interfaces = m }))
put_interface s index numbers count source there name named id number ps listed p home eq tests m grown =
    interface_put s numbers count source there name named id number ps listed _
    (adds_found (λ x. x.interfaces.entries) source.«package» (name, id) ps p (record p { interfaces = m }) home
    (grown ∙ insert_entry-new eq p.interfaces name id
    (new_interface s index count numbers source there (text_of name) named (eq name) tests (listed source.«package» p home))))

pub put_world : (s : Sources) (index : IsIndex s) (count : ℕ) (source : WorldSource)
    → slice_get s.worlds.items count ≡ Some source → (name : String Global) → text_of name ≡ cut (text_at s.texts.now source.text) source.name
    → (id : WorldId) → id.0 ≡ count → (ps : List Package) → AreWorldsListed s count ps → (p : Package)
    → slice_get ps source.«package» ≡ Some p → (eq : String Global → String Global → Bool)
    → ((k : String Global) → eq name k ≡ true → text_of name ≡ text_of k) → (m : NameMap WorldId)
    → m.entries ≡ insert_entry eq p.worlds.entries name id
    → AreWorldsListed s (count + 1) (slice_set ps source.«package» (record p { worlds = m }))
put_world s index count source there name named id number ps listed p home eq tests m grown =
    world_put s count source there name named id number ps listed _
    (adds_found (λ x. x.worlds.entries) source.«package» (name, id) ps p (record p { worlds = m }) home
    (grown ∙ insert_entry-new eq p.worlds name id
    (new_world s index count source there (text_of name) named (eq name) tests (listed source.«package» p home))))

-- one package more
pub zip_next : (A B : Type 0) (R : A → B → Type 0) (xs items : List A) → items ≡ xs → (i : ℕ) (d : A) (ys new : List B) (y : B) → i < length items
    → AllZip R (take i xs) ys → R (get_or items i d) y → new ≡ ys ++ y ∷ [] → AllZip R (take (i + 1) xs) new
zip_next A B R xs items same i d ys new y low before is grown =
    let within : i < length xs = subst (λ (zs : List A). i < length zs) same low in
    let its : R (get_or xs i d) y = subst (λ (zs : List A). R (get_or zs i d) y) same is in
    subst (λ zs. AllZip R zs new) (sym (take_more xs i d within))
    (subst (λ l. AllZip R (take i xs ++ get_or xs i d ∷ []) l) (sym grown) (zip-push R (take i xs) ys (get_or xs i d) y before its))
