-- The interfaces that a world states by path. Serves externs, given, imports, exports, worlds.
use Rattle.text_types.proofs.PathLaws.{means_interface}
use Rattle.base_lemmas.proofs.Elements.{last_of}
use Rattle.base_lemmas.proofs.Elements.{first-contained}
use Rattle.std.proofs.Common.{◌≡◌, ◌∙◌, refl, sym, ap, subst, ℕ, ◌<◌, Bool, true, false, cond, nat_eq, List, [], ◌∷◌, ◌++◌, append-nil, append_assoc, Option}
use Rattle.std.proofs.Common.{Some, None, is_some, slice_get, length, map, Contains, ◌⊎◌, inl, inr, Result, Ok, Err, OnOk, IfOk, option_map}
use Rattle.std.proofs.Common.{true≢false}
use Rattle.std.proofs.lemmas.Bool.{eqb-true}
use Rattle.std.proofs.lemmas.List.Elements.{Contains-append_left, Contains-append_right, Contains-append_cases}
use Rattle.std.proofs.lemmas.Option.{slice_get_within, slice_get-map}
use Rattle.std.specs.{Borrow.Bor, List.filter_map, Map.lookup}
use Rattle.base_lemmas.proofs.{Numbers.same-number}
use Rattle.indexmap.specs.IndexMap.{get}
use Rattle.wit_model.specs.Text.{Text}
use Rattle.print_grammar.specs.Tree.{ExternTree, ExternTree.Path, ExternTree.NamedPath, ExternTree.NamedFunction, ExternTree.NamedInterface}
use Rattle.print_grammar.specs.Tree.{PathTree, PathTree.Local, PathTree.Full, Prefix, PackageHead}
use Rattle.text_names.specs.declared.sources.{Sources.Sources}
use Rattle.text_names.specs.{Contents.text_at, Paths.IsInterfaceOf, Tables.interface_key, Tables.IsIndex, Tables.IsNumberOf}
use Rattle.text_trees.specs.declared.tree.{PathTree.PathTree as CodePath, Prefix.Prefix as CodePrefix}
use Rattle.text_trees.specs.TreesSeen.{path_of, prefix_of}
use Rattle.text_types.specs.Targets.{IsKeyed, MeansInterface}
use Rattle.print_grammar.specs.Tree.WorldMember.{WorldImport}
use Rattle.text_shown.specs.ShowsWorlds.{import_of, Stated}
use Rattle.wit_text.specs.Sides.{one_stated, AddsFronts, AreFronts, Fronts, HasFront, IsStatedPath}
use Rattle.wit_text.proofs.SideLaws.{contains_nil}

-- ---- paths

pub means_ok : {E : Type 0} (s : Sources) (number own : ℕ) (text : Text) (path : CodePath) (r : Result ℕ E) → text_at s.texts.now number ≡ text
    → IfOk r (IsInterfaceOf s number own path) → IfOk r (MeansInterface s own (path_of text path))
means_ok s number own text path (Ok n) same h = means_interface s number text same own path n h
means_ok s number own text path (Err e) same h = tt

key_there : (s : Sources) (home : ℕ) (name : Text) (n : ℕ) → IsKeyed s home name n
    → slice_get (map (interface_key s.texts.now) s.interfaces.items) n ≡ Some (home, name)
key_there s home name n k =
    slice_get-map (interface_key s.texts.now) s.interfaces.items n ∙ (ap (λ o. option_map (interface_key s.texts.now) o) k.stands ∙ ap Some k.named)

pub keyed_same : (s : Sources) → IsIndex s → (home : ℕ) (name : Text) (m n : ℕ) → IsKeyed s home name m → IsKeyed s home name n → m ≡ n
keyed_same s index home name m n h k =
    let one = index.interfaces.has m (home, name) (key_there s home name m h) in
    let other = index.interfaces.has n (home, name) (key_there s home name n k) in
    cc (one, other)

-- a path means one interface
home_same : (s : Sources) → IsIndex s → (head : PackageHead) (m n : ℕ) → IsNumberOf s head m → IsNumberOf s head n → m ≡ n
home_same s index head m n h k = index.apart m n head h k

local_same : (s : Sources) → IsIndex s → (own : ℕ) (name : Text) (m n : ℕ) → IsKeyed s own name m → MeansInterface s own (Local name) n → m ≡ n
local_same s index own name m n h (MeansInterface.own_package k) = keyed_same s index own name m n h k

full_same : (s : Sources) → IsIndex s → (own there : ℕ) (namespace name interface : Text) (version : Option Text) (m n : ℕ)
    → IsNumberOf s (record { docs = []; namespace = namespace; name = name; version = version }) there → IsKeyed s there interface m
    → MeansInterface s own (Full namespace name interface version) n → m ≡ n
full_same s index own there namespace name interface version m n is h (MeansInterface.other_package {home = other} also k) =
    let same : other ≡ there = home_same s index (record { docs = []; namespace = namespace; name = name; version = version }) other there also is in
    keyed_same s index there interface m n h (subst (λ x. IsKeyed s x interface n) same k)

pub means_same : (s : Sources) → IsIndex s → (own : ℕ) (path : PathTree) (m n : ℕ) → MeansInterface s own path m → MeansInterface s own path n → m ≡ n
means_same s index own (Local name) m n (MeansInterface.own_package h) k = local_same s index own name m n h k
means_same s index own (Full namespace name interface version) m n (MeansInterface.other_package {home = home} is h) k =
    full_same s index own home namespace name interface version m n is h k

pub means_within : (s : Sources) (own : ℕ) (path : PathTree) (n : ℕ) → MeansInterface s own path n → n < length s.interfaces.items
means_within s own _ n (MeansInterface.own_package k) = slice_get_within s.interfaces.items n k.interface k.stands
means_within s own _ n (MeansInterface.other_package is k) = slice_get_within s.interfaces.items n k.interface k.stands

-- ---- look-ups

kept_by : (b : Bool) (first : Bor CodePrefix) (v : Bor CodePrefix) (old new : Option (Bor CodePrefix)) → (old ≡ Some v → new ≡ Some v)
    → cond b (Some first) old ≡ Some v → cond b (Some first) new ≡ Some v
kept_by true first v old new rest h = h
kept_by false first v old new rest h = rest h

found_kept : (es more : List (ℕ × Bor CodePrefix)) (n : ℕ) (v : Bor CodePrefix) → lookup (nat_eq n) es ≡ Some v → lookup (nat_eq n) (es ++ more) ≡ Some v
found_kept [] more n v h = absurd (cc h)
found_kept (e ∷ es) more n v h = kept_by (nat_eq n e.0) e.1 v (lookup (nat_eq n) es) (lookup (nat_eq n) (es ++ more)) (found_kept es more n v) h

last_by : (b : Bool) (first : Bor CodePrefix) (v : Bor CodePrefix) (old new : Option (Bor CodePrefix)) → (is_some old ≡ false → new ≡ Some v)
    → is_some (cond b (Some first) old) ≡ false → cond b (Some first) new ≡ Some v
last_by true first v old new rest h = absurd (true≢false h)
last_by false first v old new rest h = rest h

found_last : (es : List (ℕ × Bor CodePrefix)) (n : ℕ) (v : Bor CodePrefix) → is_some (lookup (nat_eq n) es) ≡ false
    → lookup (nat_eq n) (es ++ (n, v) ∷ []) ≡ Some v
found_last [] n v h = ap (λ b. cond b (Some v) None) (same-number n)
found_last (e ∷ es) n v h =
    last_by (nat_eq n e.0) e.1 v (lookup (nat_eq n) es) (lookup (nat_eq n) (es ++ (n, v) ∷ [])) (found_last es n v) h

one_found : (b : Bool) (m n : ℕ) (v w : Bor CodePrefix) → nat_eq m n ≡ b → cond b (Some v) None ≡ Some w → (None ≡ Some w) ⊎ ((m ≡ n) × (v ≡ w))
one_found true m n v w t k = inr (eqb-true m n t, cc k)
one_found false m n v w t k = inl k

either_by : (b : Bool) (P : Type 0) (first w : Bor CodePrefix) (old new : Option (Bor CodePrefix)) → (new ≡ Some w → (old ≡ Some w) ⊎ P)
    → cond b (Some first) new ≡ Some w → (cond b (Some first) old ≡ Some w) ⊎ P
either_by true P first w old new rest h = inl h
either_by false P first w old new rest h = rest h

found_either : (es : List (ℕ × Bor CodePrefix)) (n : ℕ) (v : Bor CodePrefix) (m : ℕ) (w : Bor CodePrefix) → lookup (nat_eq m) (es ++ (n, v) ∷ []) ≡ Some w
    → (lookup (nat_eq m) es ≡ Some w) ⊎ ((m ≡ n) × (v ≡ w))
found_either [] n v m w h = one_found (nat_eq m n) m n v w refl h
found_either (e ∷ es) n v m w h =
    either_by (nat_eq m e.0) ((m ≡ n) × (v ≡ w)) e.1 w (lookup (nat_eq m) es) (lookup (nat_eq m) (es ++ (n, v) ∷ [])) (found_either es n v m w) h

-- ---- one more that is stated

path_same : (p q : PathTree) → ExternTree.Path p ≡ ExternTree.Path q → p ≡ q
path_same p q e = cc

abbrev pub is_path_tree : ExternTree → Bool
is_path_tree (Path path) = true
is_path_tree (NamedFunction name signature) = false
is_path_tree (NamedPath name path) = false
is_path_tree (NamedInterface name members) = false

module _ {s : Sources} {home : ℕ} {text : List ℕ} where
  fronts_on : {seen : List Stated} {n : ℕ} {front : Bor CodePrefix} (added : List Stated) → IsStatedPath s home text seen n front
      → IsStatedPath s home text (seen ++ added) n front
  fronts_on {seen = seen} added k = record { path = k.path; means = k.means; among = Contains-append_left seen added _ k.among }

  pub adds_none : {m : Fronts} → AddsFronts s home text m m []
  adds_none {m = m} = record { on = λ seen h. subst (λ l. AreFronts s home text l m) (sym (append-nil seen)) h }

  pub adds_join : {a b c : Fronts} {p q : List Stated} → AddsFronts s home text a b p → AddsFronts s home text b c q → AddsFronts s home text a c (p ++ q)
  adds_join {c = c} {p = p} {q = q} h k = record {
    on = λ seen f. subst (λ l. AreFronts s home text l c) (append_assoc seen p q) (k.on (seen ++ p) (h.on seen
        f));
  }

  -- what is no path leaves them
  pub adds_other : {m : Fronts} (prefix : Prefix) (extern : ExternTree) → is_path_tree extern ≡ false → AddsFronts s home text m m (one_stated prefix extern)
  adds_other {m = m} prefix extern other = record {
    on = λ seen f. record {
      sound = λ n front e. fronts_on (one_stated prefix extern) (f.sound n front e);
      complete = λ pre path c. by seen f pre path (Contains-append_cases seen (one_stated prefix extern) _ c);
    };
  }
    where
      by : (seen : List Stated) → AreFronts s home text seen m → (pre : Prefix) (path : PathTree)
          → Contains seen (record { prefix = pre; extern = Path path }) ⊎ Contains (one_stated prefix extern) (record { prefix = pre; extern = Path path })
          → HasFront s home text m pre path
      by seen f pre path (inl c) = f.complete pre path c
      by seen f pre path (inr c) =
          let same = last_of _ _ c in
          let tree : extern ≡ Path path = ap (λ (x : Stated). x.extern) same in
          absurd (true≢false (sym (ap is_path_tree tree) ∙ other))

  pub adds_import : {m : Fronts} (prefix : Prefix) (extern : ExternTree) → is_path_tree extern ≡ false
      → AddsFronts s home text m m (filter_map import_of (WorldImport prefix extern ∷ []))
  adds_import prefix (Path path) other = absurd (true≢false other)
  adds_import prefix (NamedFunction name signature) other = adds_none
  adds_import prefix (NamedPath name path) other = adds_other prefix (NamedPath name path) refl
  adds_import prefix (NamedInterface name members) other = adds_other prefix (NamedInterface name members) refl

  -- a path comes to them
  pub adds_path : {a b : Fronts} (path : PathTree) (n : ℕ) (front : Bor CodePrefix) → MeansInterface s home path n → is_some (get nat_eq a n) ≡ false
      → b.entries ≡ a.entries ++ (n, front) ∷ [] → AddsFronts s home text a b (one_stated (prefix_of text front.now) (Path path))
  adds_path {a = a} {b = b} path n front means fresh grown = record {
    on = λ seen f. record {
      sound = λ m w e. by_sound seen f m w (found_either a.entries n front m w (subst (λ l. lookup (nat_eq m) l ≡ Some w) grown e));
      complete = λ pre p c. by_complete seen f pre p (Contains-append_cases seen added _ c);
    };
  }
    where
      added : List Stated
      added = one_stated (prefix_of text front.now) (Path path)

      by_sound : (seen : List Stated) → AreFronts s home text seen a → (m : ℕ) (w : Bor CodePrefix)
          → (lookup (nat_eq m) a.entries ≡ Some w) ⊎ ((m ≡ n) × (front ≡ w))
          → IsStatedPath s home text (seen ++ added) m w
      by_sound seen f m w (inl e) = fronts_on added (f.sound m w e)
      by_sound seen f m w (inr e) =
          subst (λ x. IsStatedPath s home text (seen ++ added) m x) e.1
          (subst (λ x. IsStatedPath s home text (seen ++ added) x front) (sym e.0)
          (record { path = path; means = means; among = Contains-append_right seen added _ (first-contained _ []) }))

      by_complete : (seen : List Stated) → AreFronts s home text seen a → (pre : Prefix) (p : PathTree)
          → Contains seen (record { prefix = pre; extern = Path p }) ⊎ Contains added (record { prefix = pre; extern = Path p }) → HasFront s home text b pre p
      by_complete seen f pre p (inl c) =
          let k = f.complete pre p c in
          record {
            n = k.n;
            front = k.front;
            means = k.means;
            has = ap (lookup (nat_eq k.n)) grown ∙ found_kept a.entries _ k.n k.front k.has;
            same = k.same;
          }
      by_complete seen f pre p (inr c) =
          let same = last_of _ _ c in
          record {
            n = n;
            front = front;
            means = subst (λ x. MeansInterface s home x n) (path_same path p (ap (λ (x : Stated). x.extern) same)) means;
            has = ap (lookup (nat_eq n)) grown ∙ found_last a.entries n front fresh;
            same = ap (λ (x : Stated). x.prefix) same;
          }

  pub fronts_none : {m : Fronts} → m.entries ≡ [] → AreFronts s home text [] m
  fronts_none {m = m} none = record {
    sound = λ n front e. absurd (let k : lookup (nat_eq n) [] ≡ Some front = subst (λ l. lookup (nat_eq n) l ≡ Some front) none e in cc k);
    complete = λ prefix path c. contains_nil _ c;
  }

pub state_ok : {X E : Type 0} (s : Sources) (home : ℕ) (text : List ℕ) (a b : Fronts) (path : CodePath) (n : ℕ) (front : Bor CodePrefix) (r : Result X E)
    → MeansInterface s home (path_of text path) n → OnOk r (b.entries ≡ a.entries ++ (n, front) ∷ []) → OnOk r (is_some (get nat_eq a n) ≡ false)
    → OnOk r (AddsFronts s home text a b (one_stated (prefix_of text front.now) (Path (path_of text path))))
state_ok s home text a b path n front (Ok x) means grown fresh = adds_path (path_of text path) n front means fresh grown
state_ok s home text a b path n front (Err e) means grown fresh = tt

pub fronts_ok : {s : Sources} {home : ℕ} {text : List ℕ} {a b : Fronts} {all : List Stated} → a.entries ≡ [] → AddsFronts s home text a b all
    → AreFronts s home text all b
fronts_ok none h = h.on [] (fronts_none none)

pub ruleset fronts = (adds_none, adds_join)
