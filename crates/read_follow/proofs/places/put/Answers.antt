use Rattle.std.proofs.Common.{◌≡◌, ◌==◌, ◌≤◌, ◌+◌, arith, length, ◌∙◌, ap, sym, subst, refl, false, Bool, List, [], ◌∷◌, ◌++◌, ℕ, map, Some}
use Rattle.std.proofs.{Math.ListN.length-map, lemmas.Bool.not-true}
use Rattle.std.specs.List.{list_any}
use Rattle.wit_model.specs.Text.{Text}
use Rattle.read_follow.specs.Places.{place_shape, ArePlaces}
use Rattle.read_follow.proofs.JoinLaws.{fresh, grown, joins}
use Rattle.read_follow.proofs.PlaceLaws.{same_place, place_same, place_again, kept_more, mark_is}
use Rattle.base_lemmas.proofs.Lists.{mapped_get}
use Rattle.read_follow.proofs.places.put.Goals as goal

pub returns-then-not-is_new-clause-found : goal.returns-then-not-is_new-clause-found
returns-then-not-is_new-clause-found c =
    let s = c.in_ok-number.ensures.stored in
    mapped_get place_shape c.insert_full.new.self.keys c.in_ok-number.number s.0 s.1 ∙ ap Some (sym (place_same c.args.key s.0 s.2))

pub returns-then-not-is_new-clause-joins : goal.returns-then-not-is_new-clause-joins
returns-then-not-is_new-clause-joins c = joins place_shape same_place place_again c.args.keys.now.keys c.insert_full.new.self.keys c.args.key _ refl c.in_ok-number.ensures.keys

pub returns-clause-found : goal.returns-clause-found
returns-clause-found c =
    let s = c.in_ok-number.ensures.stored in
    mapped_get place_shape c.insert_full.new.self.keys c.in_ok-number.number s.0 s.1 ∙ ap Some (sym (place_same c.args.key s.0 s.2))

pub returns-clause-joins : goal.returns-clause-joins
returns-clause-joins c = joins place_shape same_place place_again c.args.keys.now.keys c.insert_full.new.self.keys c.args.key _ refl c.in_ok-number.ensures.keys

pub returns-clause-places : goal.returns-clause-places
returns-clause-places c =
    let ks = c.args.keys.now.keys in
    let absent : list_any (same_place c.args.key) ks ≡ false = not-true (list_any (same_place c.args.key) ks) (sym c.in_ok-number.ensures.added ∙ c.if-not-is_new.false) in
    let long = length-map ks place_shape in
    let number = c.requires.number in
    let few : (place_shape c.args.key).1 ≤ length (map place_shape ks) + 1 = omega (arith, long, number) in
    subst (λ (ss : List (Text × ℕ)). ArePlaces ss c.push_reserved.new.self.items)
    (sym (grown place_shape same_place place_again ks c.insert_full.new.self.keys c.args.key absent c.in_ok-number.ensures.keys))
    (subst (λ (ms : List Bool). ArePlaces (map place_shape ks ++ place_shape c.args.key ∷ []) ms)
    (sym (c.push_reserved.ensures.items ∙ (ap (λ (ms : List Bool). ms ++ (c.args.key.number == 0) ∷ []) c.reserve.ensures.items ∙ ap (λ (b : Bool). c.args.marks.now.items ++ b ∷ [])
    (mark_is (place_shape c.args.key) (c.args.key.number == 0) refl))))
    (kept_more (map place_shape ks) c.args.marks.now.items (place_shape c.args.key) c.requires.places few c.requires.read (fresh place_shape same_place place_again ks c.args.key absent)))
