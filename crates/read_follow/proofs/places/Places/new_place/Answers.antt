use Rattle.std.proofs.Common.{◌∙◌, ◌+◌, ℕ, ap, arith, refl, ◌∷◌, [], ◌++◌, None, Option, List, map}
use Rattle.std.proofs.Math.ListN.{length-map}
use Rattle.wit_model.specs.Text.{Text, text_of}
use Rattle.read_follow.specs.Places.{place_shape}
use Rattle.read_follow.proofs.PlaceLaws.{behind_all, no_path, none_read, with_none}
use Rattle.read_follow.proofs.places.Places.new_place.Goals as goal

pub returns-clause-grows : goal.returns-clause-grows
returns-clause-grows c =
    let shapes = map place_shape c.self.inside.keys.keys in
    let new = map place_shape c.put.new.keys.keys in
    let x : Text × ℕ = (text_of c.new.result, c.len-2.result + 1) in
    let long = length-map c.self.inside.keys.keys place_shape in
    let counted = c.len-2.ensures.len in
    let behind = behind_all shapes new c.self.inside.marks.items x c.in_ok-put.field-0 c.self.invariant (omega (arith, long, counted)) c.in_ok-put.ensures.joins c.in_ok-put.ensures.found in
    with_none shapes new x behind (no_path x c.len-2.result refl) ∙ ap (λ (ps : List (Option Text)). ps ++ None ∷ []) c.self.view_is

pub put-requires-clause-read : goal.put-requires-clause-read
put-requires-clause-read c = none_read (text_of c.new.result, c.len-2.result + 1) c.len-2.result refl
