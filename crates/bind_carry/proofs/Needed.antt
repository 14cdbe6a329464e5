-- Which types are needed: marks stay, what is named is marked, and so are parts of what is copied in the end.
use Rattle.base_lemmas.proofs.{Bools.left_of as first_true, Bools.right_of as second_true, Lists.set_there}
use Rattle.bind_add.proofs.Gains.{set_here, set_length}
use Rattle.bind_carry.specs.{BoundGains.gained_marks, First.first_marks, TooLong.CarriedThings}
use Rattle.std.proofs.Common.{replicate}
use Rattle.std.proofs.lemmas.{List.drop_more, List.length-replicate, Option.slice_get-get_or}
use Rattle.wit_model.specs.declared.model.Resolve.{Resolve}
use Rattle.bind_carry.specs.{CarriedParts.is_function_carried, Fates.carries, Fates.copies, Fates.is_carried, First.flag_under, MadeOf.type_parts, Renumbered.is_copied, declared.fate.Fate.Fate}
use Rattle.bind_carry.specs.Needs.{mark_all, mark_function_of, mark_functions, mark_interfaces, mark_new, mark_numbers, mark_parts, mark_worlds_of, needed_of, pruned, pruned_by}
use Rattle.bind_copy.specs.Copies.{is_new_under}
use Rattle.bind_union.proofs.Lists.{no_true}
use Rattle.std.proofs.Common.{Bool, List, Some, [], ap, arith, drop, false, get_or, length, map, nat_lt, option_map, option_to_list, refl, slice_get, slice_set, subst, suc, sym, true, unwrap_or, zero, ℕ, ◌&&◌, ◌+◌, ◌-◌, ◌++◌, ◌<◌, ◌≤◌, ◌∙◌, ◌∷◌, ◌≡◌, if◌then◌else◌}
use Rattle.std.proofs.lemmas.Bool.{and_from as both, lt-ltb, ltb-true}
use Rattle.std.specs.{List.list_all, Prelude.String, declared.alloc.Global.Global}
use Rattle.wit_model.specs.{Parts.function_numbers, Valid.item_function}
use Rattle.wit_model.specs.declared.model.{Function.Function, Interface.Interface, TypeDef.TypeDef, TypeOwner.TypeOwner, World.World, WorldItem.WorldItem, WorldKey.WorldKey}
use Rattle.wit_model.specs.declared.model.WorldItem.TheVariants as item
use Rattle.wit_model.specs.declared.model.TypeOwner.TheVariants as owner
use Rattle.bind_carry.specs.declared.fate.Fate.TheVariants as fate

-- ---- marks stay

-- there are as many, and what was marked is
pub record Grows (old new : List Bool) : Type 0 where
  pub long : length new ≡ length old
  pub keeps : (n : ℕ) → flag_under old n ≡ true → flag_under new n ≡ true

pub same_marks : (marks : List Bool) → Grows marks marks
same_marks marks = record { long = refl; keeps = λ n h. h }

pub then_grows : (a b c : List Bool) → Grows a b → Grows b c → Grows a c
then_grows a b c x y = record { long = y.long ∙ x.long; keeps = λ n h. y.keeps n (x.keeps n h) }

set_keeps : (marks : List Bool) (k n : ℕ) → flag_under marks n ≡ true → flag_under (slice_set marks k true) n ≡ true
set_keeps [] k n h = no_true h
set_keeps (b ∷ bs) zero zero h = refl
set_keeps (b ∷ bs) zero (suc n) h = h
set_keeps (b ∷ bs) (suc k) zero h = h
set_keeps (b ∷ bs) (suc k) (suc n) h = set_keeps bs k n h

set_grows : (marks : List Bool) (k : ℕ) → Grows marks (slice_set marks k true)
set_grows marks k = record { long = set_length marks k true; keeps = λ n h. set_keeps marks k n h }

pub numbers_grow : (ns : List ℕ) (marks : List Bool) → Grows marks (mark_numbers marks ns)
numbers_grow [] marks = same_marks marks
numbers_grow (n ∷ ns) marks = then_grows marks (slice_set marks n true) (mark_numbers (slice_set marks n true) ns) (set_grows marks n) (numbers_grow ns (slice_set marks n true))

pub functions_grow : (es : List (String Global × Function)) (marks : List Bool) → Grows marks (mark_functions marks es)
functions_grow [] marks = same_marks marks
functions_grow (e ∷ es) marks =
    let next = mark_numbers marks (function_numbers e.1) in then_grows marks next (mark_functions next es) (numbers_grow (function_numbers e.1) marks) (functions_grow es next)

pub interfaces_grow : (flags : List Bool) (is : List Interface) (marks : List Bool) → Grows marks (mark_interfaces marks flags is)
interfaces_grow (true ∷ bs) (i ∷ is) marks =
    let next = mark_functions marks i.functions.entries in then_grows marks next (mark_interfaces next bs is) (functions_grow i.functions.entries marks) (interfaces_grow bs is next)
interfaces_grow (false ∷ bs) (i ∷ is) marks = interfaces_grow bs is marks
interfaces_grow [] is marks = same_marks marks
interfaces_grow (b ∷ bs) [] marks = same_marks marks

item_grows : (i : WorldItem) (marks : List Bool) → Grows marks (mark_function_of marks i)
item_grows (item.Function f) marks = numbers_grow (function_numbers f) marks
item_grows (item.Interface id stability docs external_id) marks = same_marks marks
item_grows (item.Type_ id) marks = same_marks marks

pub items_grow : (es : List (WorldKey × WorldItem)) (marks : List Bool) → Grows marks (mark_all marks es)
items_grow [] marks = same_marks marks
items_grow (e ∷ es) marks = let next = mark_function_of marks e.1 in then_grows marks next (mark_all next es) (item_grows e.1 marks) (items_grow es next)

pub worlds_grow : (flags : List Bool) (ws : List World) (marks : List Bool) → Grows marks (mark_worlds_of marks flags ws)
worlds_grow (true ∷ bs) (w ∷ ws) marks =
    let imports = mark_all marks w.imports.entries in
    let next = mark_all imports w.exports.entries in
    then_grows marks next (mark_worlds_of next bs ws) (then_grows marks imports next (items_grow w.imports.entries marks) (items_grow w.exports.entries imports)) (worlds_grow bs ws next)
worlds_grow (false ∷ bs) (w ∷ ws) marks = worlds_grow bs ws marks
worlds_grow [] ws marks = same_marks marks
worlds_grow (b ∷ bs) [] marks = same_marks marks

pub new_grow : (interfaces : List ℕ) (here es : List (WorldKey × WorldItem)) (marks : List Bool) → Grows marks (mark_new interfaces here marks es)
new_grow interfaces here [] marks = same_marks marks
new_grow interfaces here (e ∷ es) marks =
    let next = if is_new_under interfaces here e.0 then mark_function_of marks e.1 else marks in
    then_grows marks next (mark_new interfaces here next es) (one (is_new_under interfaces here e.0)) (new_grow interfaces here es next)
  where
    one : (b : Bool) → Grows marks (if b then mark_function_of marks e.1 else marks)
    one true = item_grows e.1 marks
    one false = same_marks marks

-- each type has a mark
pub first_many : (other : Resolve) (c : CarriedThings) → length (first_marks other c) ≡ length other.types.items
first_many other c =
    let none = replicate (length other.types.items) false in
    (worlds_grow c.copied_worlds.items other.worlds.items (mark_interfaces none c.copied_interfaces.items other.interfaces.items)).long
    ∙ ((interfaces_grow c.copied_interfaces.items other.interfaces.items none).long ∙ length-replicate (length other.types.items) false)

pub gained_many : (other : Resolve) (copied : List Bool) (interfaces : List ℕ) (w v : World) → length (gained_marks other copied interfaces w v) ≡ length other.types.items
gained_many other copied interfaces w v =
    let none = replicate (length other.types.items) false in
    let inline = mark_interfaces none copied other.interfaces.items in
    let imports = mark_new interfaces w.imports.entries inline v.imports.entries in
    (new_grow interfaces w.exports.entries v.exports.entries imports).long ∙ ((new_grow interfaces w.imports.entries v.imports.entries inline).long
    ∙ ((interfaces_grow copied other.interfaces.items none).long ∙ length-replicate (length other.types.items) false))

-- ---- what is named is marked

abbrev pub all_marked : List Bool → List ℕ → Bool
all_marked marks ns = list_all (flag_under marks) ns

pub all_stay : (old new : List Bool) → Grows old new → (ns : List ℕ) → all_marked old ns ≡ true → all_marked new ns ≡ true
all_stay old new grows [] h = refl
all_stay old new grows (n ∷ ns) h = both (flag_under new n) (all_marked new ns) (grows.keeps n (first_true (flag_under old n) (all_marked old ns) h))
    (all_stay old new grows ns (second_true (flag_under old n) (all_marked old ns) h))

abbrev pub function_marked : List Bool → Function → Bool
function_marked marks f = all_marked marks (function_numbers f)

abbrev pub item_marked : List Bool → WorldKey × WorldItem → Bool
item_marked marks e = list_all (function_marked marks) (option_to_list (item_function e.1))

-- where all that is named has a mark at all
module _ (inside : ℕ → Bool) (count : ℕ) (small : (n : ℕ) → inside n ≡ true → n < count) where
  pub numbers_marked : (ns : List ℕ) (marks : List Bool) → length marks ≡ count → list_all inside ns ≡ true → all_marked (mark_numbers marks ns) ns ≡ true
  numbers_marked [] marks long h = refl
  numbers_marked (n ∷ ns) marks long h =
      let next = slice_set marks n true in
      let less = small n (first_true (inside n) (list_all inside ns) h) in
      both (flag_under (mark_numbers next ns) n) (all_marked (mark_numbers next ns) ns)
      ((numbers_grow ns next).keeps n (ap (λ o. unwrap_or o false) (set_here marks n true (omega (arith, less, long)))))
      (numbers_marked ns next (set_length marks n true ∙ long) (second_true (inside n) (list_all inside ns) h))

  pub functions_marked : (es : List (String Global × Function)) (marks : List Bool) → length marks ≡ count → list_all (is_function_carried inside) (map (λ e. e.1) es) ≡ true
      → list_all (function_marked (mark_functions marks es)) (map (λ e. e.1) es) ≡ true
  functions_marked [] marks long h = refl
  functions_marked (e ∷ es) marks long h =
      let next = mark_numbers marks (function_numbers e.1) in
      let last = mark_functions next es in
      let fs = map (λ (x : String Global × Function). x.1) es in
      both (function_marked last e.1) (list_all (function_marked last) fs)
      (all_stay next last (functions_grow es next) (function_numbers e.1)
      (numbers_marked (function_numbers e.1) marks long (first_true (is_function_carried inside e.1) (list_all (is_function_carried inside) fs) h)))
      (functions_marked es next ((numbers_grow (function_numbers e.1) marks).long ∙ long) (second_true (is_function_carried inside e.1) (list_all (is_function_carried inside) fs) h))

  functions_stay : (old new : List Bool) → Grows old new → (fs : List Function) → list_all (function_marked old) fs ≡ true → list_all (function_marked new) fs ≡ true
  functions_stay old new grows [] h = refl
  functions_stay old new grows (f ∷ fs) h = both (function_marked new f) (list_all (function_marked new) fs)
      (all_stay old new grows (function_numbers f) (first_true (function_marked old f) (list_all (function_marked old) fs) h))
      (functions_stay old new grows fs (second_true (function_marked old f) (list_all (function_marked old) fs) h))

  abbrev functions_of : Interface → List Function
  functions_of i = map (λ e. e.1) i.functions.entries

  pub interfaces_marked : (flags : List Bool) (is : List Interface) (marks : List Bool) → length marks ≡ count → (n : ℕ) (i : Interface) → slice_get is n ≡ Some i → flag_under flags n ≡ true
      → list_all (is_function_carried inside) (functions_of i) ≡ true → list_all (function_marked (mark_interfaces marks flags is)) (functions_of i) ≡ true
  interfaces_marked (true ∷ bs) (j ∷ is) marks long zero i at set h =
      let same : j ≡ i = ap (λ o. unwrap_or o j) at in
      let next = mark_functions marks j.functions.entries in
      functions_stay next (mark_interfaces next bs is) (interfaces_grow bs is next) (functions_of i)
      (subst (λ (x : Interface). list_all (function_marked next) (functions_of x) ≡ true) same
      (functions_marked j.functions.entries marks long (ap (λ (x : Interface). list_all (is_function_carried inside) (functions_of x)) same ∙ h)))
  interfaces_marked (true ∷ bs) (j ∷ is) marks long (suc n) i at set h =
      interfaces_marked bs is (mark_functions marks j.functions.entries) ((functions_grow j.functions.entries marks).long ∙ long) n i at set h
  interfaces_marked (false ∷ bs) (j ∷ is) marks long zero i at set h = no_true set
  interfaces_marked (false ∷ bs) (j ∷ is) marks long (suc n) i at set h = interfaces_marked bs is marks long n i at set h
  interfaces_marked [] is marks long n i at set h = no_true set
  interfaces_marked (b ∷ bs) [] marks long n i at set h = let wrong : ⊥ = cc in absurd wrong

  item_here : (i : WorldItem) (k : WorldKey) (marks : List Bool) → length marks ≡ count → list_all (is_function_carried inside) (option_to_list (item_function i)) ≡ true
      → item_marked (mark_function_of marks i) (k, i) ≡ true
  item_here (item.Function f) k marks long h =
      both (function_marked (mark_numbers marks (function_numbers f)) f) true (numbers_marked (function_numbers f) marks long (first_true (is_function_carried inside f) true h)) refl
  item_here (item.Interface id stability docs external_id) k marks long h = refl
  item_here (item.Type_ id) k marks long h = refl

  abbrev item_inside : WorldKey × WorldItem → Bool
  item_inside e = list_all (is_function_carried inside) (option_to_list (item_function e.1))

  pub items_marked : (es : List (WorldKey × WorldItem)) (marks : List Bool) → length marks ≡ count → list_all item_inside es ≡ true → list_all (item_marked (mark_all marks es)) es ≡ true
  items_marked [] marks long h = refl
  items_marked (e ∷ es) marks long h =
      let next = mark_function_of marks e.1 in
      let last = mark_all next es in
      both (item_marked last e) (list_all (item_marked last) es)
      (functions_stay next last (items_grow es next) (option_to_list (item_function e.1)) (item_here e.1 e.0 marks long (first_true (item_inside e) (list_all item_inside es) h)))
      (items_marked es next ((item_grows e.1 marks).long ∙ long) (second_true (item_inside e) (list_all item_inside es) h))

  items_stay : (old new : List Bool) → Grows old new → (es : List (WorldKey × WorldItem)) → list_all (item_marked old) es ≡ true → list_all (item_marked new) es ≡ true
  items_stay old new grows [] h = refl
  items_stay old new grows (e ∷ es) h = both (item_marked new e) (list_all (item_marked new) es)
      (functions_stay old new grows (option_to_list (item_function e.1)) (first_true (item_marked old e) (list_all (item_marked old) es) h))
      (items_stay old new grows es (second_true (item_marked old e) (list_all (item_marked old) es) h))

  abbrev items_of : World → List (WorldKey × WorldItem)
  items_of w = w.imports.entries ++ w.exports.entries

  -- imports and exports of a world whose flag is set
  pub worlds_marked : (flags : List Bool) (ws : List World) (marks : List Bool) → length marks ≡ count → (n : ℕ) (w : World) → slice_get ws n ≡ Some w → flag_under flags n ≡ true
      → list_all item_inside w.imports.entries ≡ true → list_all item_inside w.exports.entries ≡ true
      → (list_all (item_marked (mark_worlds_of marks flags ws)) w.imports.entries && list_all (item_marked (mark_worlds_of marks flags ws)) w.exports.entries) ≡ true
  worlds_marked (true ∷ bs) (v ∷ ws) marks long zero w at set h k =
      let same : v ≡ w = ap (λ o. unwrap_or o v) at in
      let imports = mark_all marks v.imports.entries in
      let next = mark_all imports v.exports.entries in
      let last = mark_worlds_of next bs ws in
      let first = items_grow v.exports.entries imports in
      let rest = worlds_grow bs ws next in
      subst (λ (x : World). (list_all (item_marked last) x.imports.entries && list_all (item_marked last) x.exports.entries) ≡ true) same
      (both (list_all (item_marked last) v.imports.entries) (list_all (item_marked last) v.exports.entries)
      (items_stay imports last (then_grows imports next last first rest) v.imports.entries
      (items_marked v.imports.entries marks long (ap (λ (x : World). list_all item_inside x.imports.entries) same ∙ h)))
      (items_stay next last rest v.exports.entries
      (items_marked v.exports.entries imports ((items_grow v.imports.entries marks).long ∙ long) (ap (λ (x : World). list_all item_inside x.exports.entries) same ∙ k))))
  worlds_marked (true ∷ bs) (v ∷ ws) marks long (suc n) w at set h k =
      let imports = mark_all marks v.imports.entries in
      worlds_marked bs ws (mark_all imports v.exports.entries) ((items_grow v.exports.entries imports).long ∙ ((items_grow v.imports.entries marks).long ∙ long)) n w at set h k
  worlds_marked (false ∷ bs) (v ∷ ws) marks long zero w at set h k = no_true set
  worlds_marked (false ∷ bs) (v ∷ ws) marks long (suc n) w at set h k = worlds_marked bs ws marks long n w at set h k
  worlds_marked [] ws marks long n w at set h k = no_true set
  worlds_marked (b ∷ bs) [] marks long n w at set h k = let wrong : ⊥ = cc in absurd wrong

  -- an item whose key is new
  pub new_marked : (interfaces : List ℕ) (here es : List (WorldKey × WorldItem)) (marks : List Bool) → length marks ≡ count → (n : ℕ) (e : WorldKey × WorldItem) → slice_get es n ≡ Some e
      → is_new_under interfaces here e.0 ≡ true → item_inside e ≡ true → item_marked (mark_new interfaces here marks es) e ≡ true
  new_marked interfaces here [] marks long n e at new h = let wrong : ⊥ = cc in absurd wrong
  new_marked interfaces here (x ∷ es) marks long zero e at new h =
      let same : x ≡ e = ap (λ o. unwrap_or o x) at in
      let next = if is_new_under interfaces here x.0 then mark_function_of marks x.1 else marks in
      let set : next ≡ mark_function_of marks x.1 = ap (λ b. if b then mark_function_of marks x.1 else marks) (ap (λ (y : WorldKey × WorldItem). is_new_under interfaces here y.0) same ∙ new) in
      functions_stay next (mark_new interfaces here next es) (new_grow interfaces here es next) (option_to_list (item_function e.1))
      (subst (λ (y : WorldKey × WorldItem). item_marked next y ≡ true) same (ap (λ l. item_marked l x) set ∙ item_here x.1 x.0 marks long (ap item_inside same ∙ h)))
  new_marked interfaces here (x ∷ es) marks long (suc n) e at new h =
      let next = if is_new_under interfaces here x.0 then mark_function_of marks x.1 else marks in
      new_marked interfaces here es next (one (is_new_under interfaces here x.0)) n e at new h
    where
      one : (b : Bool) → length (if b then mark_function_of marks x.1 else marks) ≡ count
      one true = (item_grows x.1 marks).long ∙ long
      one false = long

  -- ---- what both passes mark

  pub first_interface_marked : (other : Resolve) (c : CarriedThings) → length other.types.items ≡ count → (n : ℕ) (i : Interface) → slice_get other.interfaces.items n ≡ Some i
      → flag_under c.copied_interfaces.items n ≡ true → list_all (is_function_carried inside) (functions_of i) ≡ true → list_all (function_marked (first_marks other c)) (functions_of i) ≡ true
  first_interface_marked other c many n i at set h =
      let none = replicate (length other.types.items) false in
      let marks = mark_interfaces none c.copied_interfaces.items other.interfaces.items in
      functions_stay marks (first_marks other c) (worlds_grow c.copied_worlds.items other.worlds.items marks) (functions_of i)
      (interfaces_marked c.copied_interfaces.items other.interfaces.items none (length-replicate (length other.types.items) false ∙ many) n i at set h)

  pub first_world_marked : (other : Resolve) (c : CarriedThings) → length other.types.items ≡ count → (n : ℕ) (w : World) → slice_get other.worlds.items n ≡ Some w
      → flag_under c.copied_worlds.items n ≡ true → list_all item_inside w.imports.entries ≡ true → list_all item_inside w.exports.entries ≡ true
      → (list_all (item_marked (first_marks other c)) w.imports.entries && list_all (item_marked (first_marks other c)) w.exports.entries) ≡ true
  first_world_marked other c many n w at set h k =
      let none = replicate (length other.types.items) false in
      let marks = mark_interfaces none c.copied_interfaces.items other.interfaces.items in
      worlds_marked c.copied_worlds.items other.worlds.items marks
      ((interfaces_grow c.copied_interfaces.items other.interfaces.items none).long ∙ (length-replicate (length other.types.items) false ∙ many)) n w at set h k

  module _ (other : Resolve) (copied : List Bool) (interfaces : List ℕ) (w v : World) (many : length other.types.items ≡ count) where
    abbrev none : List Bool
    none = replicate (length other.types.items) false

    abbrev inline : List Bool
    inline = mark_interfaces none copied other.interfaces.items

    abbrev imports : List Bool
    imports = mark_new interfaces w.imports.entries inline v.imports.entries

    long_none : length none ≡ count
    long_none = length-replicate (length other.types.items) false ∙ many

    long_inline : length inline ≡ count
    long_inline = (interfaces_grow copied other.interfaces.items none).long ∙ long_none

    from_imports : Grows imports (gained_marks other copied interfaces w v)
    from_imports = new_grow interfaces w.exports.entries v.exports.entries imports

    from_inline : Grows inline (gained_marks other copied interfaces w v)
    from_inline = then_grows inline imports (gained_marks other copied interfaces w v) (new_grow interfaces w.imports.entries v.imports.entries inline) from_imports

    pub gained_interface_marked : (n : ℕ) (i : Interface) → slice_get other.interfaces.items n ≡ Some i → flag_under copied n ≡ true → list_all (is_function_carried inside) (functions_of i) ≡ true
        → list_all (function_marked (gained_marks other copied interfaces w v)) (functions_of i) ≡ true
    gained_interface_marked n i at set h = functions_stay inline (gained_marks other copied interfaces w v) from_inline (functions_of i)
        (interfaces_marked copied other.interfaces.items none long_none n i at set h)

    pub gained_import_marked : (n : ℕ) (e : WorldKey × WorldItem) → slice_get v.imports.entries n ≡ Some e → is_new_under interfaces w.imports.entries e.0 ≡ true → item_inside e ≡ true
        → item_marked (gained_marks other copied interfaces w v) e ≡ true
    gained_import_marked n e at new h = functions_stay imports (gained_marks other copied interfaces w v) from_imports (option_to_list (item_function e.1))
        (new_marked interfaces w.imports.entries v.imports.entries inline long_inline n e at new h)

    pub gained_export_marked : (n : ℕ) (e : WorldKey × WorldItem) → slice_get v.exports.entries n ≡ Some e → is_new_under interfaces w.exports.entries e.0 ≡ true → item_inside e ≡ true
        → item_marked (gained_marks other copied interfaces w v) e ≡ true
    gained_export_marked n e at new h =
        new_marked interfaces w.exports.entries v.exports.entries imports ((new_grow interfaces w.imports.entries v.imports.entries inline).long ∙ long_inline) n e at new h

  -- ---- parts of what is copied in the end

  set_apart : (marks : List Bool) (k n : ℕ) → k < n → flag_under (slice_set marks k true) n ≡ flag_under marks n
  set_apart marks k n less = ap (λ o. unwrap_or o false) (set_there marks k n true (λ e. let wrong : ⊥ = omega (arith, less, e) in wrong))

  -- smaller numbers leave a mark as it was
  numbers_apart : (ns : List ℕ) (marks : List Bool) (n : ℕ) → list_all (λ m. nat_lt m n) ns ≡ true → flag_under (mark_numbers marks ns) n ≡ flag_under marks n
  numbers_apart [] marks n h = refl
  numbers_apart (m ∷ ns) marks n h = numbers_apart ns (slice_set marks m true) n (second_true (nat_lt m n) (list_all (λ k. nat_lt k n) ns) h)
      ∙ set_apart marks m n (ltb-true m n (first_true (nat_lt m n) (list_all (λ k. nat_lt k n) ns) h))

  parts_grow : (marks : List Bool) (t : TypeDef) (f : Fate) → Grows marks (mark_parts marks t f)
  parts_grow marks t f = by (copies f)
    where
      by : (b : Bool) → Grows marks (if b then mark_numbers marks (type_parts t) else marks)
      by true = numbers_grow (type_parts t) marks
      by false = same_marks marks

  pub needed_grow : (types : List TypeDef) (fates : List Fate) (place : ℕ) (marks : List Bool) → Grows marks (needed_of marks place types fates)
  needed_grow [] fates place marks = same_marks marks
  needed_grow (t ∷ ts) [] place marks = same_marks marks
  needed_grow (t ∷ ts) (f ∷ fs) place marks =
      let later = needed_of marks (suc place) ts fs in
      let g = pruned f (flag_under later place) in
      then_grows marks later (mark_parts later t g) (needed_grow ts fs (suc place) marks) (parts_grow later t g)

  parts_apart : (marks : List Bool) (t : TypeDef) (f : Fate) (n : ℕ) → list_all (λ m. nat_lt m n) (type_parts t) ≡ true → flag_under (mark_parts marks t f) n ≡ flag_under marks n
  parts_apart marks t f n h = by (copies f)
    where
      by : (b : Bool) → flag_under (if b then mark_numbers marks (type_parts t) else marks) n ≡ flag_under marks n
      by true = numbers_apart (type_parts t) marks n h
      by false = refl

  abbrev FallsFrom : ℕ → List TypeDef → Type 0
  FallsFrom place types = (k : ℕ) (d : TypeDef) → slice_get types k ≡ Some d → list_all (λ m. nat_lt m (place + k)) (type_parts d) ≡ true

  pub parts_needed : (types : List TypeDef) (fates : List Fate) (place : ℕ) (marks : List Bool) → length marks ≡ count → FallsFrom place types → (k n : ℕ) → n ≡ place + k → (t : TypeDef) (f : Fate)
      → slice_get types k ≡ Some t → slice_get fates k ≡ Some f → copies (pruned f (flag_under (needed_of marks place types fates) n)) ≡ true → list_all inside (type_parts t) ≡ true
      → all_marked (needed_of marks place types fates) (type_parts t) ≡ true
  parts_needed [] fates place marks long falls k n e t f at_t at_f copy h = let wrong : ⊥ = cc in absurd wrong
  parts_needed (u ∷ ts) [] place marks long falls k n e t f at_t at_f copy h = let wrong : ⊥ = cc in absurd wrong
  parts_needed (u ∷ ts) (g ∷ fs) place marks long falls zero n e t f at_t at_f copy h =
      let later = needed_of marks (suc place) ts fs in
      let same_type : u ≡ t = ap (λ o. unwrap_or o u) at_t in
      let same_fate : g ≡ f = ap (λ o. unwrap_or o g) at_f in
      let here : n ≡ place = omega (arith, e) in
      let low : list_all (λ m. nat_lt m place) (type_parts u) ≡ true = let z : place ≡ place + 0 = omega arith in ap (λ (m : ℕ). list_all (λ k. nat_lt k m) (type_parts u)) z ∙ falls zero u refl in
      let flag : flag_under (needed_of marks place (u ∷ ts) (g ∷ fs)) n ≡ flag_under later place = (λ i. flag_under (needed_of marks place (u ∷ ts) (g ∷ fs)) (here i))
      ∙ parts_apart later u (pruned g (flag_under later place)) place low in
      let copied : copies (pruned g (flag_under later place)) ≡ true = (λ i. copies (pruned (same_fate i) (sym flag i))) ∙ copy in
      let set : mark_parts later u (pruned g (flag_under later place)) ≡ mark_numbers later (type_parts u) = ap (λ b. if b then mark_numbers later (type_parts u) else later) copied in
      subst (λ (x : TypeDef). all_marked (mark_parts later u (pruned g (flag_under later place))) (type_parts x) ≡ true) same_type
      (ap (λ l. all_marked l (type_parts u)) set ∙ numbers_marked (type_parts u) later ((needed_grow ts fs (suc place) marks).long ∙ long)
      (ap (λ (x : TypeDef). list_all inside (type_parts x)) same_type ∙ h))
  parts_needed (u ∷ ts) (g ∷ fs) place marks long falls (suc k) n e t f at_t at_f copy h =
      let later = needed_of marks (suc place) ts fs in
      let x = pruned g (flag_under later place) in
      let low : list_all (λ m. nat_lt m n) (type_parts u) ≡ true = lower (type_parts u) (falls zero u refl) in
      let flag : flag_under (mark_parts later u x) n ≡ flag_under later n = parts_apart later u x n low in
      all_stay later (mark_parts later u x) (parts_grow later u x) (type_parts t)
      (parts_needed ts fs (suc place) marks long
      (λ j d at. let z : place + suc j ≡ suc place + j = omega arith in subst (λ (m : ℕ). list_all (λ i. nat_lt i m) (type_parts d) ≡ true) z (falls (suc j) d at))
      k n (omega (arith, e)) t f at_t at_f (ap (λ b. copies (pruned f b)) (sym flag) ∙ copy) h)
    where
      lower : (ns : List ℕ) → list_all (λ m. nat_lt m (place + 0)) ns ≡ true → list_all (λ m. nat_lt m n) ns ≡ true
      lower [] h = refl
      lower (m ∷ ns) h = both (nat_lt m n) (list_all (λ j. nat_lt j n) ns)
          (lt-ltb m n (let l = ltb-true m (place + 0) (first_true (nat_lt m (place + 0)) (list_all (λ j. nat_lt j (place + 0)) ns) h) in omega (arith, l, e)))
          (lower ns (second_true (nat_lt m (place + 0)) (list_all (λ j. nat_lt j (place + 0)) ns) h))

-- one type more, from the end
pub needed_more : (types : List TypeDef) (fates : List Fate) (marks now : List Bool) (left : ℕ) (t : TypeDef) → 0 < left → left ≤ length types → length fates ≡ length types
    → length now ≡ length types → t ≡ get_or types (left - 1) t → now ≡ needed_of marks left (drop left types) (drop left fates)
    → mark_parts now t (pruned (get_or fates (left - 1) fate.Left) (get_or now (left - 1) false)) ≡ needed_of marks (left - 1) (drop (left - 1) types) (drop (left - 1) fates)
needed_more types fates marks now left t low high long count is before =
    let n = left - 1 in
    let next : n + 1 ≡ left = omega (arith, low) in
    let more : suc n ≡ left = omega (arith, low) in
    let f = get_or fates n fate.Left in
    let at_type : drop n types ≡ t ∷ drop left types = drop_more types n t (omega (arith, low, high)) ∙ (λ i. sym is i ∷ drop (next i) types) in
    let at_fate : drop n fates ≡ f ∷ drop left fates = drop_more fates n fate.Left (omega (arith, low, high, long)) ∙ (λ i. f ∷ drop (next i) fates) in
    let at_mark : slice_get now n ≡ Some (get_or now n false) = slice_get-get_or now n false (omega (arith, low, high, count)) in
    let same : needed_of marks (suc n) (drop left types) (drop left fates) ≡ now = (λ i. needed_of marks (more i) (drop left types) (drop left fates)) ∙ sym before in
    sym ((λ i. needed_of marks n (at_type i) (at_fate i)) ∙ ((λ i. mark_parts (same i) t (pruned f (unwrap_or (slice_get (same i) n) false)))
    ∙ ap (λ o. mark_parts now t (pruned f (unwrap_or o false))) at_mark))

-- ---- fates in the end

pub pruned_at : (needs : List Bool) (fates : List Fate) → length needs ≡ length fates → (n : ℕ)
    → slice_get (pruned_by needs fates) n ≡ option_map (λ f. pruned f (flag_under needs n)) (slice_get fates n)
pruned_at [] [] long n = refl
pruned_at [] (f ∷ fs) long n = absurd (omega (arith, long))
pruned_at (b ∷ bs) [] long n = refl
pruned_at (b ∷ bs) (f ∷ fs) long zero = refl
pruned_at (b ∷ bs) (f ∷ fs) long (suc n) = pruned_at bs fs (omega (arith, long)) n

pub pruned_long : (needs : List Bool) (fates : List Fate) → length (pruned_by needs fates) ≡ length fates
pruned_long needs [] = refl
pruned_long [] (f ∷ fs) = refl
pruned_long (b ∷ bs) (f ∷ fs) = let r = pruned_long bs fs in omega (arith, r)

-- what is carried in the end was carried, and what is copied was copied
pub carried_before : (needs : List Bool) (fates : List Fate) (n : ℕ) → is_carried (pruned_by needs fates) n ≡ true → is_carried fates n ≡ true
carried_before needs [] n h = h
carried_before [] (f ∷ fs) n h = h
carried_before (b ∷ bs) (f ∷ fs) zero h = one f b h
  where
    one : (f : Fate) (b : Bool) → carries (pruned f b) ≡ true → carries f ≡ true
    one fate.Left b h = h
    one (fate.Stands n) b h = h
    one (fate.Copied home) b h = refl
carried_before (b ∷ bs) (f ∷ fs) (suc n) h = carried_before bs fs n h

pub copied_before : (needs : List Bool) (fates : List Fate) (n : ℕ) → is_copied (pruned_by needs fates) n ≡ true → is_copied fates n ≡ true
copied_before needs [] n h = h
copied_before [] (f ∷ fs) n h = h
copied_before (b ∷ bs) (f ∷ fs) zero h = one f b h
  where
    one : (f : Fate) (b : Bool) → copies (pruned f b) ≡ true → copies f ≡ true
    one fate.Left b h = h
    one (fate.Stands n) b h = h
    one (fate.Copied home) b h = refl
copied_before (b ∷ bs) (f ∷ fs) (suc n) h = copied_before bs fs n h

-- what is needed and was carried is carried
pub carried_needed : (needs : List Bool) (fates : List Fate) (n : ℕ) → is_carried fates n ≡ true → flag_under needs n ≡ true → is_carried (pruned_by needs fates) n ≡ true
carried_needed needs [] n h set = h
carried_needed [] (f ∷ fs) n h set = h
carried_needed (b ∷ bs) (f ∷ fs) zero h set = one f b h set
  where
    one : (f : Fate) (b : Bool) → carries f ≡ true → b ≡ true → carries (pruned f b) ≡ true
    one fate.Left b h set = h
    one (fate.Stands n) b h set = h
    one (fate.Copied owner.None) b h set = ap (λ c. carries (if c then fate.Copied owner.None else fate.Left)) set
    one (fate.Copied (owner.Interface id)) b h set = refl
    one (fate.Copied (owner.World id)) b h set = refl
carried_needed (b ∷ bs) (f ∷ fs) (suc n) h set = carried_needed bs fs n h set

pub all_needed : (needs : List Bool) (fates : List Fate) (ns : List ℕ) → list_all (is_carried fates) ns ≡ true → all_marked needs ns ≡ true → list_all (is_carried (pruned_by needs fates)) ns ≡ true
all_needed needs fates [] h set = refl
all_needed needs fates (n ∷ ns) h set = both (is_carried (pruned_by needs fates) n) (list_all (is_carried (pruned_by needs fates)) ns)
    (carried_needed needs fates n (first_true (is_carried fates n) (list_all (is_carried fates) ns) h) (first_true (flag_under needs n) (all_marked needs ns) set))
    (all_needed needs fates ns (second_true (is_carried fates n) (list_all (is_carried fates) ns) h) (second_true (flag_under needs n) (all_marked needs ns) set))

-- a type with an owner has its fate, and so has one that stands for another
pub stands_kept : (needs : List Bool) (fates : List Fate) (n k : ℕ) → slice_get fates n ≡ Some (fate.Stands k) → slice_get (pruned_by needs fates) n ≡ Some (fate.Stands k)
stands_kept needs [] n k e = e
stands_kept [] (f ∷ fs) n k e = e
stands_kept (b ∷ bs) (f ∷ fs) zero k e = let same : f ≡ fate.Stands k = ap (λ o. unwrap_or o f) e in ap (λ g. Some (pruned g b)) same
stands_kept (b ∷ bs) (f ∷ fs) (suc n) k e = stands_kept bs fs n k e

-- whether there is an owner
abbrev pub is_home : TypeOwner → Bool
is_home owner.None = false
is_home (owner.Interface id) = true
is_home (owner.World id) = true

pub copied_kept : (needs : List Bool) (fates : List Fate) (n : ℕ) (home : TypeOwner) → is_home home ≡ true → slice_get fates n ≡ Some (fate.Copied home)
    → slice_get (pruned_by needs fates) n ≡ Some (fate.Copied home)
copied_kept needs [] n home h e = e
copied_kept [] (f ∷ fs) n home h e = e
copied_kept (b ∷ bs) (f ∷ fs) zero home h e = let same : f ≡ fate.Copied home = ap (λ o. unwrap_or o f) e in ap (λ g. Some (pruned g b)) same ∙ ap Some (one home h)
  where
    one : (home : TypeOwner) → is_home home ≡ true → pruned (fate.Copied home) b ≡ fate.Copied home
    one owner.None h = no_true h
    one (owner.Interface id) h = refl
    one (owner.World id) h = refl
copied_kept (b ∷ bs) (f ∷ fs) (suc n) home h e = copied_kept bs fs n home h e
