-- Packages that stay what they are while they get room.
use Rattle.std.proofs.Common.{◌≡◌, ◌≢◌, sym, ap, subst, ◌∙◌, ◌⊎◌, inl, inr, ℕ, ◌+◌, ◌<◌, ◌≤◌, arith, List, length, get_or, slice_get, Some}
use Rattle.std.proofs.lemmas.{Option.slice_get_within, Option.slice_get-get_or, Bool.cases_lt as below_or}
use Rattle.wit_model.specs.declared.model.Package.{Package}
use Rattle.bind_add.specs.Growth.{ArePackages, HasRoom, HaveRoom, IsSameWithRoom, OthersStay}
use Rattle.bind_add.specs.declared.added.Names.{Names}

-- what stands at a place of the one list stands at it in a list that is as long
pub there : {X : Type 0} (xs ys : List X) → length ys ≡ length xs → (n : ℕ) (q : X) → slice_get ys n ≡ Some q → (p : X) × (slice_get xs n ≡ Some p)
there xs ys same n q at =
    let within : n < length xs = subst (λ m. n < m) same (slice_get_within ys n q at) in
    (get_or xs n q, slice_get-get_or xs n q within)

pub same_then : (xs ys zs : List Package) → ArePackages IsSameWithRoom xs ys → ArePackages IsSameWithRoom ys zs → ArePackages IsSameWithRoom xs zs
same_then xs ys zs a b = record { count = b.count ∙ a.count; each = λ n p r at_p at_r. both n p r at_p at_r (there ys zs b.count n r at_r) }
  where
    both : (n : ℕ) (p r : Package) → slice_get xs n ≡ Some p → slice_get zs n ≡ Some r → (q : Package) × (slice_get ys n ≡ Some q) → IsSameWithRoom p r
    both n p r at_p at_r q =
        let one = a.each n p q.0 at_p q.1 in
        let two = b.each n q.0 r q.1 at_r in (
          record { name = two.0.name ∙ one.0.name; docs = two.0.docs ∙ one.0.docs; interfaces = two.0.interfaces ∙ one.0.interfaces; worlds = two.0.worlds ∙ one.0.worlds },
          record { interfaces = omega (arith, one.1.interfaces, two.1.interfaces); worlds = omega (arith, one.1.worlds, two.1.worlds) },
        )

-- those in front have room
abbrev pub HaveRoomBefore : ℕ → List Names → List Package → Type 0
HaveRoomBefore i names packages = (k : ℕ) (n : Names) (p : Package) → k < i → slice_get names k ≡ Some n → slice_get packages n.«package».0 ≡ Some p → HasRoom n p

still : (n : Names) (p q : Package) → HasRoom n p → IsSameWithRoom p q → HasRoom n q
still n p q h s = record { interfaces = omega (arith, h.interfaces, s.1.interfaces); worlds = omega (arith, h.worlds, s.1.worlds) }

pub room_more : (i : ℕ) (names : List Names) (xs ys : List Package) (n : Names) → HaveRoomBefore i names xs → ArePackages IsSameWithRoom xs ys → slice_get names i ≡ Some n
    → ((p : Package) → slice_get ys n.«package».0 ≡ Some p → HasRoom n p) → HaveRoomBefore (i + 1) names ys
room_more i names xs ys n before same at room k m q below at_m at_q = by (below_or k i)
  where
    earlier : k < i → (p : Package) × (slice_get xs m.«package».0 ≡ Some p) → HasRoom m q
    earlier less p = still m p.0 q (before k m p.0 less at_m p.1) (same.each m.«package».0 p.0 q p.1 at_q)

    some : Some n ≡ Some m → n ≡ m
    some e = cc

    by : (k < i) ⊎ (i ≤ k) → HasRoom m q
    by (inl less) = earlier less (there xs ys same.count m.«package».0 q at_q)
    by (inr more) =
        let last : k ≡ i = omega (arith, more, below) in
        let is : n ≡ m = some (sym at ∙ (ap (slice_get names) (sym last) ∙ at_m)) in
        subst (λ z. HasRoom z q) is (room q (ap (λ z. slice_get ys z.«package».0) is ∙ at_q))

pub room_end : (i : ℕ) (names : List Names) (packages : List Package) → length names ≤ i → HaveRoomBefore i names packages → HaveRoom names packages
room_end i names packages past h k n p at_n at_p = h k n p (omega (arith, past, slice_get_within names k n at_n)) at_n at_p

-- one more gets room, and those that gain nothing are the very same
pub others_more : (i : ℕ) (names : List Names) (xs ys zs : List Package) (n : Names) → slice_get names i ≡ Some n → OthersStay names xs ys
    → ((k : ℕ) → k ≢ n.«package».0 → slice_get zs k ≡ slice_get ys k) → OthersStay names xs zs
others_more i names xs ys zs n at stay one k none = one k (λ e. none i n at (sym e)) ∙ stay k none
