use Rattle.std.proofs.Common.{sym, ap, ◌∙◌, subst, Option, Some}
use Rattle.wit_model.specs.Text.{Text, text_of}
use Rattle.comp_bytes.specs.{Levels.entry_at, Reading.◌>>=◌}
use Rattle.comp_meaning.specs.{ByLevels.entry_scope, Follow.Scope as MeantScope}
use Rattle.read_follow.specs.{Bodies.items_in, PartTypes.raw_part_type}
use Rattle.read_follow.specs.declared.part_types.PartType.{PartType}
use Rattle.read_parts.specs.{Followed.interface, Followed.world, Members.IsPartFollowed}
use Rattle.read_parts.specs.declared.members.FollowedPart.TheVariants as followed
use Rattle.read_parts.proofs.members.follow_part.Goals as goal

pub returns-in-Ok-follow_component-clause-followed : goal.returns-in-Ok-follow_component-clause-followed
returns-in-Ok-follow_component-clause-followed c =
    let s = c.in-Ok-follow_component.ensures.shown in
    let part = followed.World c.in-Ok.path c.in-Ok-follow_component.scope in
    let es = items_in entry_at c.in-Wraps.entries.body in
    subst (λ (p : PartType). IsPartFollowed c.args.table.now c.args.functions.now c.args.places.now (raw_part_type p) c.follow_component.new.table c.follow_component.new.functions
    c.follow_component.new.places part) (sym c.in-Wraps.is) (record {
      stands = s.world;
      shapes_grow = s.shapes_grow;
      signatures_grow = s.signatures_grow;
      paths_grow = s.paths_grow;
      count = s.count;
      parts = s.parts;
      counted = s.counted;
      trees = s.trees;
      scoped = s.scoped;
      placed = s.placed;
      met = s.met;
      order = s.order;
      stages = s.stages;
      shows = λ place of. ap (λ (o : Option Text). o >>= λ path. entry_scope es >>= λ scope. Some (world path scope)) c.in-Ok.ensures
          ∙ ap (λ (o : Option MeantScope). o >>= λ scope. Some (world (text_of c.in-Ok.path) scope)) (s.shows place of);
    })

pub returns-in-Ok-follow_component-2-clause-followed : goal.returns-in-Ok-follow_component-2-clause-followed
returns-in-Ok-follow_component-2-clause-followed c =
    let s = c.in-Ok-follow_component-2.ensures.shown in
    let part = followed.Interface c.in-Ok-follow_component-2.scope in
    subst (λ (p : PartType). IsPartFollowed c.args.table.now c.args.functions.now c.args.places.now (raw_part_type p) c.follow_component-in-Shows.new.table c.follow_component-in-Shows.new.functions
    c.follow_component-in-Shows.new.places part) (sym c.in-Shows.is) (record {
      stands = s.world;
      shapes_grow = s.shapes_grow;
      signatures_grow = s.signatures_grow;
      paths_grow = s.paths_grow;
      count = s.count;
      parts = s.parts;
      counted = s.counted;
      trees = s.trees;
      scoped = s.scoped;
      placed = s.placed;
      met = s.met;
      order = s.order;
      stages = s.stages;
      shows = λ place of. ap (λ (o : Option MeantScope). o >>= λ scope. Some (interface scope)) (s.shows place of);
    })
