use Rattle.std.proofs.Common.{◌≡◌, map, subst, List, Option, Some, slice_get}
use Rattle.wit_model.specs.Text.{Text, text_of}
use Rattle.read_follow.specs.Places.{path_in, place_shape, IsOnlyNew}
use Rattle.read_follow.proofs.PlaceLaws.{counted_as, only_joined, one_read, paths_apart}
use Rattle.read_follow.proofs.places.Places.number_of.Goals as goal
use Rattle.base_lemmas.proofs.Lists.{mapped_get}

pub returns-in_err-number-clause-apart : goal.returns-in_err-number-clause-apart
returns-in_err-number-clause-apart c = paths_apart (map place_shape c.put.new.keys.keys) c.put.new.marks.items c.put.ensures.places

pub returns-clause-found : goal.returns-clause-found
returns-clause-found c = counted_as c.counted.result c.in_ok-number.number (λ n. slice_get (map path_in (map place_shape c.put.new.keys.keys)) n ≡ Some (Some (text_of c.args.path)))
    c.counted.ensures.same (mapped_get path_in (map place_shape c.put.new.keys.keys) c.in_ok-number.number (text_of c.args.path, 0) c.in_ok-number.ensures.found)

pub returns-clause-only : goal.returns-clause-only
returns-clause-only c =
    let new = map path_in (map place_shape c.put.new.keys.keys) in
    counted_as c.counted.result c.in_ok-number.number (λ n. IsOnlyNew c.args.self.now n new) c.counted.ensures.same
    (subst (λ (ps : List (Option Text)). IsOnlyNew ps c.in_ok-number.number new) c.self.view_is
    (only_joined (map place_shape c.self.inside.keys.keys) (map place_shape c.put.new.keys.keys) (text_of c.args.path, 0) c.in_ok-number.number c.in_ok-number.ensures.joins
    c.in_ok-number.ensures.found))

pub returns-clause-apart : goal.returns-clause-apart
returns-clause-apart c = paths_apart (map place_shape c.put.new.keys.keys) c.put.new.marks.items c.put.ensures.places

pub put-requires-clause-read : goal.put-requires-clause-read
put-requires-clause-read c = one_read (text_of c.args.path) c.requires
