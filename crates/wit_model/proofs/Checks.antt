-- A list keeps a rule where each number of it passes, and a rule is kept where its four lists keep it.
use Rattle.std.proofs.Common.{rules as std_rules, ◌≡◌, refl, ap, ◌∙◌, ℕ, zero, suc, ◌+◌, ◌<◌, ◌≤◌, Bool, true, false, List, [], ◌∷◌, ◌++◌, Some, slice_get, unwrap_or, option_map, length, nat_lt, arith}
use Rattle.std.proofs.{lemmas.Option.slice_get_within, lemmas.Option.slice_get_past, lemmas.Option.same_Some as some_same, lemmas.Bool.and_from as both_true}
use Rattle.std.specs.List.{list_all}
use Rattle.wit_model.specs.declared.model.{Resolve.Resolve, TypeDef.TypeDef}
use Rattle.wit_model.specs.{Lookup.type_at, Parts.kind_numbers, Rules.each_from, Checks.KeepsIn, Checks.references, Checks.flags, Checks.entry_of}
use Rattle.wit_model.specs.Valid.{Rule, Keeps, Breaks, free, entry_keeps, order_of_types}
use Rattle.wit_model.proofs.Entries.{each_from_all, each_from_at, lists_pass, free_passes}
use Rattle.base_lemmas.proofs.Lists.{at_last as get_last}
use Rattle.wit_model.specs.declared.error.EntryList.TheVariants as lists

-- each number of the list passes the test
all_pass : {A : Type 0} (test : ℕ → A → Bool) (xs : List A) → ((n : ℕ) → n < length xs → option_map (test n) (slice_get xs n) ≡ Some true) → each_from test 0 xs ≡ true
all_pass test xs all = search (std_rules, each_from_all, some_same, slice_get_within)

pub interfaces_pass : (rule : Rule) (r : Resolve) → ((n : ℕ) → n < length r.interfaces.items → entry_keeps rule r lists.Interfaces n ≡ Some true) → KeepsIn rule r lists.Interfaces
interfaces_pass rule r all = all_pass (rule.interface_ r) r.interfaces.items all

pub worlds_pass : (rule : Rule) (r : Resolve) → ((n : ℕ) → n < length r.worlds.items → entry_keeps rule r lists.Worlds n ≡ Some true) → KeepsIn rule r lists.Worlds
worlds_pass rule r all = all_pass (rule.world_ r) r.worlds.items all

pub types_pass : (rule : Rule) (r : Resolve) → ((n : ℕ) → n < length r.types.items → entry_keeps rule r lists.Types n ≡ Some true) → KeepsIn rule r lists.Types
types_pass rule r all = all_pass (rule.type_ r) r.types.items all

-- the four lists together
pub keeps_lists : (rule : Rule) (r : Resolve) → KeepsIn rule r lists.Packages → KeepsIn rule r lists.Interfaces → KeepsIn rule r lists.Worlds → KeepsIn rule r lists.Types → Keeps rule r
keeps_lists rule r ps is ws ts = both_true _ _ ps (both_true _ _ is (both_true _ _ ws ts))

-- a rule that asks nothing of packages
pub keeps_three : (rule : Rule) (r : Resolve) → rule.package_ ≡ free → KeepsIn rule r lists.Interfaces → KeepsIn rule r lists.Worlds → KeepsIn rule r lists.Types → Keeps rule r
keeps_three rule r e is ws ts = keeps_lists rule r (ap (λ test. each_from (test r) 0 r.packages.items) e ∙ free_passes r 0 r.packages.items) is ws ts

-- a rule that asks nothing of packages and types
pub keeps_two : (rule : Rule) (r : Resolve) → rule.package_ ≡ free → rule.type_ ≡ free → KeepsIn rule r lists.Interfaces → KeepsIn rule r lists.Worlds → Keeps rule r
keeps_two rule r e t is ws = keeps_three rule r e is ws (ap (λ test. each_from (test r) 0 r.types.items) t ∙ free_passes r 0 r.types.items)

-- a rule on types alone
pub references_kept : (r : Resolve) → KeepsIn references r lists.Types → Keeps references r
unfolding references
references_kept r ts = keeps_lists references r (free_passes r 0 r.packages.items) (free_passes r 0 r.interfaces.items) (free_passes r 0 r.worlds.items) ts

-- a type refers to smaller numbers alone
pub below_at : (r : Resolve) → Keeps references r → (n : ℕ) (def : TypeDef) → type_at r n ≡ Some def → list_all (λ m. nat_lt m n) (kind_numbers def.kind) ≡ true
unfolding references
below_at r h n def is = search (std_rules, each_from_at, lists_pass)

-- a type that refers to a number that isn't smaller breaks the rule on the order of types
pub reference_breaks : (r : Resolve) (n : ℕ) → entry_keeps references r lists.Types n ≡ Some false → Breaks r 5 lists.Types n
unfolding references order_of_types
reference_breaks r n e = search std_rules

-- a fact on every number, below a limit and from it on
pub below_or_past : (P : ℕ → Type 0) (k : ℕ) → ((n : ℕ) → n < k → P n) → ((n : ℕ) → k ≤ n → P n) → (n : ℕ) → P n
below_or_past P k low high n = search std_rules

-- ---- tables that are made by pushing

pub get_before : {X : Type 0} (xs : List X) (x : X) (n : ℕ) → n < length xs → slice_get (xs ++ x ∷ []) n ≡ slice_get xs n
get_before [] x n h = absurd (omega (arith, h))
get_before (y ∷ ys) x zero h = refl
get_before (y ∷ ys) x (suc n) h = get_before ys x n (omega (arith, h))

-- One more entry of a table that holds what f says of each number. The default d stands past the end.
pub table_more : {X : Type 0} (d : X) (f : ℕ → X) (xs : List X) (x : X) (k : ℕ) → length xs ≡ k → ((n : ℕ) → n < k → unwrap_or (slice_get xs n) d ≡ f n) → x ≡ f k → (n : ℕ) → n < k + 1
    → unwrap_or (slice_get (xs ++ x ∷ []) n) d ≡ f n
table_more d f xs x k len all last n h = search (std_rules, below_or_past, unwrap_or, get_before, get_last)

pub flags_more : (f : ℕ → Bool) (xs : List Bool) (x : Bool) (k : ℕ) → length xs ≡ k → ((n : ℕ) → n < k → flags xs n ≡ f n) → x ≡ f k → (n : ℕ) → n < k + 1 → flags (xs ++ x ∷ []) n ≡ f n
flags_more f xs x k len all last n h = table_more false f xs x k len all last n h

pub flags_past : (xs : List Bool) (n : ℕ) → length xs ≤ n → flags xs n ≡ false
flags_past xs n h = ap (λ o. unwrap_or o false) (slice_get_past xs n h)

pub entries_more : (f : ℕ → ℕ) (xs : List ℕ) (x : ℕ) (k : ℕ) → length xs ≡ k → ((n : ℕ) → n < k → entry_of xs n ≡ f n) → x ≡ f k → (n : ℕ) → n < k + 1 → entry_of (xs ++ x ∷ []) n ≡ f n
entries_more f xs x k len all last n h = table_more 0 f xs x k len all last n h

pub entries_past : (xs : List ℕ) (n : ℕ) → length xs ≤ n → entry_of xs n ≡ 0
entries_past xs n h = ap (λ o. unwrap_or o 0) (slice_get_past xs n h)
