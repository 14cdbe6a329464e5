-- Each type without a name that is copied is named by something that comes.
use Rattle.base_lemmas.proofs.Elements.{contains-later, first-contained}
use Rattle.bind_carry.proofs.Needed.{needed_grow, pruned_at}
use Rattle.bind_meaning.proofs.Listed.{tested}
use Rattle.bind_carry.proofs.CopiesPlaced.{some_same}
use Rattle.bind_carry.specs.{Fates.copies, First.flag_under, Renumbered.is_copied, declared.fate.Fate.Fate}
use Rattle.bind_carry.specs.MadeOf.{by_function, by_type, by_unnamed, type_parts, IsMadeUp, IsMet}
use Rattle.bind_carry.specs.Needs.{mark_all, mark_function_of, mark_functions, mark_interfaces, mark_new, mark_numbers, mark_parts, mark_worlds_of, needed_of, pruned, pruned_by}
use Rattle.bind_copy.specs.Copies.{is_new_under}
use Rattle.bind_union.proofs.Lists.{no_true}
use Rattle.std.proofs.Common.{Bool, Contains, List, Some, [], ap, arith, false, inl, inr, is_none, length, map, option_map, refl, replicate, slice_get, slice_set, subst, suc, sym, true, zero, ℕ, ◌+◌, ◌⊎◌, ◌∙◌, ◌∷◌, ◌≡◌, if◌then◌else◌}
use Rattle.std.proofs.lemmas.Option.{slice_get-map}
use Rattle.std.specs.{Prelude.String, declared.alloc.Global.Global}
use Rattle.wit_model.specs.{Parts.function_numbers, Valid.item_function}
use Rattle.wit_model.specs.declared.model.{Function.Function, Interface.Interface, TypeDef.TypeDef, TypeOwner.TypeOwner, World.World, WorldItem.WorldItem, WorldKey.WorldKey}
use Rattle.wit_model.specs.declared.model.WorldItem.TheVariants as item
use Rattle.wit_model.specs.declared.model.TypeOwner.TheVariants as owner
use Rattle.bind_carry.specs.declared.fate.Fate.TheVariants as fate

-- ---- what is marked

-- each number that is marked has this property
abbrev pub Fits : (ℕ → Type 0) → List Bool → Type 0
Fits P marks = (n : ℕ) → flag_under marks n ≡ true → P n

set_how : (marks : List Bool) (k n : ℕ) → flag_under (slice_set marks k true) n ≡ true → (flag_under marks n ≡ true) ⊎ (n ≡ k)
set_how [] k n h = no_true h
set_how (b ∷ bs) zero zero h = inr refl
set_how (b ∷ bs) zero (suc n) h = inl h
set_how (b ∷ bs) (suc k) zero h = inl h
set_how (b ∷ bs) (suc k) (suc n) h = elim (set_how bs k n h) [ inl e ↦ inl e | inr e ↦ inr (ap suc e) ]

none_marked : (count n : ℕ) → flag_under (replicate count false) n ≡ true → ⊥
none_marked zero n h = no_true h
none_marked (suc k) zero h = no_true h
none_marked (suc k) (suc n) h = none_marked k n h

pub none_fit : (P : ℕ → Type 0) (count : ℕ) → Fits P (replicate count false)
none_fit P count n h = absurd (none_marked count n h)

module _ (P : ℕ → Type 0) where
  numbers_fit : (ns : List ℕ) (marks : List Bool) → Fits P marks → ((n : ℕ) → Contains ns n → P n) → Fits P (mark_numbers marks ns)
  numbers_fit [] marks old new = old
  numbers_fit (m ∷ ns) marks old new = numbers_fit ns (slice_set marks m true) one (λ n held. new n (contains-later m ns n held))
    where
      one : Fits P (slice_set marks m true)
      one n h = elim (set_how marks m n h) [ inl e ↦ old n e | inr e ↦ subst P (sym e) (new m (first-contained m ns)) ]

  -- ---- what functions name that come

  module _ (Calls : Function → Type 0) (named : (f : Function) → Calls f → (n : ℕ) → Contains (function_numbers f) n → P n) where
    functions_fit : (es : List (String Global × Function)) (marks : List Bool) → Fits P marks → ((f : Function) → Contains (map (λ e. e.1) es) f → Calls f) → Fits P (mark_functions marks es)
    functions_fit [] marks old come = old
    functions_fit (e ∷ es) marks old come =
        let fs = map (λ (x : String Global × Function). x.1) es in
        functions_fit es (mark_numbers marks (function_numbers e.1)) (numbers_fit (function_numbers e.1) marks old (named e.1 (come e.1 (first-contained e.1 fs))))
        (λ f held. come f (contains-later e.1 fs f held))

    -- all functions of interfaces come whose flags are set
    abbrev pub InterfacesCome : List Bool → List Interface → Type 0
    InterfacesCome flags is = (n : ℕ) (i : Interface) → slice_get is n ≡ Some i → flag_under flags n ≡ true → (f : Function) → Contains (map (λ e. e.1) i.functions.entries) f → Calls f

    pub interfaces_fit : (flags : List Bool) (is : List Interface) (marks : List Bool) → Fits P marks → InterfacesCome flags is → Fits P (mark_interfaces marks flags is)
    interfaces_fit (true ∷ bs) (i ∷ is) marks old come =
        interfaces_fit bs is (mark_functions marks i.functions.entries) (functions_fit i.functions.entries marks old (come zero i refl refl)) (λ n j at set. come (suc n) j at set)
    interfaces_fit (false ∷ bs) (i ∷ is) marks old come = interfaces_fit bs is marks old (λ n j at set. come (suc n) j at set)
    interfaces_fit [] is marks old come = old
    interfaces_fit (b ∷ bs) [] marks old come = old

    item_fits : (i : WorldItem) (marks : List Bool) → Fits P marks → ((f : Function) → item_function i ≡ Some f → Calls f) → Fits P (mark_function_of marks i)
    item_fits (item.Function f) marks old come = numbers_fit (function_numbers f) marks old (named f (come f refl))
    item_fits (item.Interface id stability docs external_id) marks old come = old
    item_fits (item.Type_ id) marks old come = old

    items_fit : (es : List (WorldKey × WorldItem)) (marks : List Bool) → Fits P marks
        → ((e : WorldKey × WorldItem) → Contains es e → (f : Function) → item_function e.1 ≡ Some f → Calls f) → Fits P (mark_all marks es)
    items_fit [] marks old come = old
    items_fit (e ∷ es) marks old come =
        items_fit es (mark_function_of marks e.1) (item_fits e.1 marks old (come e (first-contained e es))) (λ x held. come x (contains-later e es x held))

    -- all functions come of the items of worlds whose flags are set
    abbrev pub WorldsCome : List Bool → List World → Type 0
    WorldsCome flags ws = (n : ℕ) (w : World) → slice_get ws n ≡ Some w → flag_under flags n ≡ true → (e : WorldKey × WorldItem)
        → Contains w.imports.entries e ⊎ Contains w.exports.entries e → (f : Function) → item_function e.1 ≡ Some f → Calls f

    pub worlds_fit : (flags : List Bool) (ws : List World) (marks : List Bool) → Fits P marks → WorldsCome flags ws → Fits P (mark_worlds_of marks flags ws)
    worlds_fit (true ∷ bs) (w ∷ ws) marks old come =
        let imports = mark_all marks w.imports.entries in
        let here = come zero w refl refl in
        worlds_fit bs ws (mark_all imports w.exports.entries)
        (items_fit w.exports.entries imports (items_fit w.imports.entries marks old (λ e held. here e (inl held))) (λ e held. here e (inr held))) (λ n v at set. come (suc n) v at set)
    worlds_fit (false ∷ bs) (w ∷ ws) marks old come = worlds_fit bs ws marks old (λ n v at set. come (suc n) v at set)
    worlds_fit [] ws marks old come = old
    worlds_fit (b ∷ bs) [] marks old come = old

    -- all functions come among items whose keys have no item here
    abbrev pub NewCome : List ℕ → List (WorldKey × WorldItem) → List (WorldKey × WorldItem) → Type 0
    NewCome interfaces here es = (e : WorldKey × WorldItem) → Contains es e → is_new_under interfaces here e.0 ≡ true → (f : Function) → item_function e.1 ≡ Some f → Calls f

    pub new_fit : (interfaces : List ℕ) (here es : List (WorldKey × WorldItem)) (marks : List Bool) → Fits P marks → NewCome interfaces here es → Fits P (mark_new interfaces here marks es)
    new_fit interfaces here [] marks old come = old
    new_fit interfaces here (e ∷ es) marks old come = new_fit interfaces here es (if is_new_under interfaces here e.0 then mark_function_of marks e.1 else marks)
        (one (is_new_under interfaces here e.0) refl) (λ x held. come x (contains-later e es x held))
      where
        one : (b : Bool) → is_new_under interfaces here e.0 ≡ b → Fits P (if b then mark_function_of marks e.1 else marks)
        one true q = item_fits e.1 marks old (come e (first-contained e es) q)
        one false q = old

  -- ---- parts of what is copied in the end

  -- so are parts of what is copied, if what is copied where it is needed has the property
  abbrev PartsFit : ℕ → List TypeDef → List Fate → Type 0
  PartsFit place ts fs = (k : ℕ) (t : TypeDef) (f : Fate) (b : Bool) → slice_get ts k ≡ Some t → slice_get fs k ≡ Some f → copies (pruned f b) ≡ true → (b ≡ true → P (place + k))
      → (n : ℕ) → Contains (type_parts t) n → P n

  -- one type more, from the end
  one_fits : (t : TypeDef) (f : Fate) (place : ℕ) (later : List Bool) → Fits P later
      → ((b : Bool) → copies (pruned f b) ≡ true → (b ≡ true → P place) → (n : ℕ) → Contains (type_parts t) n → P n)
      → Fits P (mark_parts later t (pruned f (flag_under later place)))
  one_fits t f place later fits parts = one (copies (pruned f (flag_under later place))) refl
    where
      one : (b : Bool) → copies (pruned f (flag_under later place)) ≡ b → Fits P (if b then mark_numbers later (type_parts t) else later)
      one true q = numbers_fit (type_parts t) later fits (parts (flag_under later place) q (λ e. fits place e))
      one false q = fits

  needed_fit : (ts : List TypeDef) (fs : List Fate) (place : ℕ) (marks : List Bool) → Fits P marks → PartsFit place ts fs → Fits P (needed_of marks place ts fs)
  needed_fit [] fs place marks old parts = old
  needed_fit (t ∷ ts) [] place marks old parts = old
  needed_fit (t ∷ ts) (f ∷ fs) place marks old parts = one_fits t f place (needed_of marks (suc place) ts fs)
      (needed_fit ts fs (suc place) marks old
      (λ k u g b at_u at_g copy so. parts (suc k) u g b at_u at_g copy (λ e. let z : suc place + k ≡ place + suc k = omega arith in subst P z (so e))))
      (λ b copy so. parts zero t f b refl refl copy (λ e. let z : place ≡ place + 0 = omega arith in subst P z (so e)))

-- ---- what is copied in the end

-- what is copied in the end was copied before
copied_one : (f : Fate) (b : Bool) → copies (pruned f b) ≡ true → copies f ≡ true
copied_one fate.Left b h = h
copied_one (fate.Stands n) b h = h
copied_one (fate.Copied home) b h = refl

pub marked_before : (needs : List Bool) (fates : List Fate) (n : ℕ) → slice_get (map copies (pruned_by needs fates)) n ≡ Some true → slice_get (map copies fates) n ≡ Some true
marked_before needs [] n h = h
marked_before [] (f ∷ fs) n h = h
marked_before (b ∷ bs) (f ∷ fs) zero h = ap Some (copied_one f b (some_same (copies (pruned f b)) true h))
marked_before (b ∷ bs) (f ∷ fs) (suc n) h = marked_before bs fs n h

-- the mark of what is copied
pub copied_mark : (fates : List Fate) (n : ℕ) → is_copied fates n ≡ true → slice_get (map copies fates) n ≡ Some true
copied_mark fates n h = let x = tested copies (slice_get fates n) h in slice_get-map copies fates n ∙ (ap (option_map copies) x.1 ∙ ap Some x.2)

-- without an owner it is copied where it is needed alone
needed_one : (b : Bool) → copies (pruned (fate.Copied owner.None) b) ≡ true → b ≡ true
needed_one true h = refl
needed_one false h = no_true h

-- What is copied comes, or has no owner and is made up; and marks are of what is met.
module _ (types : List TypeDef) (Calls : Function → Type 0) (Comes : ℕ → Type 0) (Owner : TypeOwner → Type 0) (all : List Fate) (marks : List Bool)
    (how : (n : ℕ) → slice_get (map copies all) n ≡ Some true → Comes n ⊎ (IsMadeUp types Owner n × (slice_get all n ≡ Some (fate.Copied owner.None))))
    (fits : Fits (λ n. IsMet types Calls Comes n) marks) (many : length marks ≡ length all) where
  abbrev Met : ℕ → Type 0
  Met n = IsMet types Calls Comes n

  abbrev needs : List Bool
  needs = needed_of marks 0 types all

  long : length needs ≡ length all
  long = (needed_grow (λ n. false) 0 (λ n h. no_true h) types all 0 marks).long ∙ many

  parts_fit : PartsFit Met 0 types all
  parts_fit k t f b at_t at_f copy so n held = elim (how k mark) [
    | inl c ↦ by_type k t at_t c held
    | inr x ↦ by_unnamed k t at_t (ap (λ (d : TypeDef). is_none d.name) (some_same t x.0.def (sym at_t ∙ x.0.found)) ∙ x.0.nameless)
        (let z : 0 + k ≡ k = omega arith in subst Met z (so (needed_one b (ap (λ g. copies (pruned g b)) (some_same (fate.Copied owner.None) f (sym x.1 ∙ at_f)) ∙ copy)))) held
  ]
    where
      mark : slice_get (map copies all) k ≡ Some true
      mark = slice_get-map copies all k ∙ (ap (option_map copies) at_f ∙ ap Some (copied_one f b copy))

  all_met : Fits Met needs
  all_met = needed_fit Met types all 0 marks fits parts_fit

  pub copied_met : (n : ℕ) → slice_get (map copies (pruned_by needs all)) n ≡ Some true → Comes n ⊎ (IsMadeUp types Owner n × IsMet types Calls Comes n)
  copied_met n mark = elim (how n (marked_before needs all n mark)) [ inl c ↦ inl c | inr x ↦ inr (x.0, all_met n (flag x.1)) ]
    where
      flag : slice_get all n ≡ Some (fate.Copied owner.None) → flag_under needs n ≡ true
      flag e =
          let there : slice_get (pruned_by needs all) n ≡ Some (pruned (fate.Copied owner.None) (flag_under needs n)) =
          pruned_at needs all long n ∙ ap (option_map (λ g. pruned g (flag_under needs n))) e in
          needed_one (flag_under needs n) (some_same (copies (pruned (fate.Copied owner.None) (flag_under needs n))) true
          (sym (ap (option_map copies) there) ∙ (sym (slice_get-map copies (pruned_by needs all) n) ∙ mark)))

-- ---- what meets it

module _ (types : List TypeDef) (Calls : Function → Type 0) (Comes : ℕ → Type 0) where
  -- a function or a type that comes
  pub met_by : (n : ℕ) → IsMet types Calls Comes n → ((f : Function) × Calls f) ⊎ ((m : ℕ) × Comes m)
  met_by n (by_function f come held) = inl (f, come)
  met_by n (by_type m def at come held) = inr (m, come)
  met_by n (by_unnamed m def at none met held) = met_by m met

  -- the same where what comes is named otherwise
  pub met_as : (Others : ℕ → Type 0) → ((m : ℕ) → Comes m → Others m) → (n : ℕ) → IsMet types Calls Comes n → IsMet types Calls Others n
  met_as Others turn n (by_function f come held) = by_function f come held
  met_as Others turn n (by_type m def at come held) = by_type m def at (turn m come) held
  met_as Others turn n (by_unnamed m def at none met held) = by_unnamed m def at none (met_as Others turn m met) held
