use Rattle.std.proofs.Common.{subst, List, [], ◌∷◌, map, Bool, ℕ}
use Rattle.read_follow.specs.{Defining.Grows, ExternNames.raw_name, InstanceScopes.tables_of, Places.has_path, Places.place_number}
use Rattle.read_follow.specs.Scopes.{direction, world_of, Goes, HasNoUsedView, IsInstanceAdded, IsUsedView}
use Rattle.comp_meaning.specs.Follow.{see_instance}
use Rattle.read_follow.proofs.{FollowingLaws.on_ok, UsedLaws.instance_goes, UsedLaws.instance_stops, ScopeLaws.world_with}
use Rattle.read_follow.proofs.seeing.see_instance.Goals as goal

pub returns-in-Ok-used_view-clause-seen : goal.returns-in-Ok-used_view-clause-seen
returns-in-Ok-used_view-clause-seen c =
    let old = world_of c.args.table.now c.args.functions.now c.args.places.now c.args.scope.now in
    let new = world_of c.used_view.new.table c.used_view.new.functions c.key_of.new.places c.push_instance.new.scope in
    let start = tables_of c.args.table.now c.args.functions.now in
    let now = tables_of c.used_view.new.table c.used_view.new.functions in
    let shown : IsUsedView (map has_path c.key_of.new.places) (place_number c.in-Ok.key) start c.args.scope.now.slots.items c.args.scope.now.used.keys c.args.n c.in-Ok-used_view.view now =
    subst (λ (ms : List Bool). IsUsedView ms (place_number c.in-Ok.key) start c.args.scope.now.slots.items c.args.scope.now.used.keys c.args.n c.in-Ok-used_view.view now) c.marks.ensures
    (subst (λ (p : ℕ). IsUsedView c.marks.result.now p start c.args.scope.now.slots.items c.args.scope.now.used.keys c.args.n c.in-Ok-used_view.view now) c.place_of-here.ensures
    (rw c.deref.ensures.value at c.in-Ok-used_view.ensures.shown)) in
    on_ok (IsInstanceAdded c.args.scope.now c.push_instance.new.scope c.args.is_import c.in-Ok.key c.args.name.external_id c.args.n c.in-Ok-used_view.view)
    (Goes 0 (see_instance (direction c.args.is_import) (raw_name c.args.name) c.args.n) old new) c.push_instance.result
    (λ a. instance_goes old c.requires c.args.is_import c.args.name c.args.n c.key_of.new.places c.in-Ok.key c.in-Ok.ensures.key c.in-Ok.ensures.grows c.in-Ok.ensures.fresh c.in-Ok.ensures.only
    c.in-Ok-used_view.view c.used_view.new.table c.used_view.new.functions shown new
    (λ i. world_with (a.home i) c.used_view.new.table c.used_view.new.functions c.key_of.new.places ((a.slots i).items) (a.instances i) (a.imports i) (a.exports i) (a.used i)))
    c.push_instance.ensures.added

pub returns-in-Err-used_view-clause-absent : goal.returns-in-Err-used_view-clause-absent
returns-in-Err-used_view-clause-absent c =
    let old = world_of c.args.table.now c.args.functions.now c.args.places.now c.args.scope.now in
    let start = tables_of c.args.table.now c.args.functions.now in
    let none : HasNoUsedView (map has_path c.key_of.new.places) (place_number c.in-Ok.key) start c.args.scope.now.slots.items c.args.scope.now.used.keys c.args.n c.in-Err-used_view.refusal =
    subst (λ (ms : List Bool). HasNoUsedView ms (place_number c.in-Ok.key) start c.args.scope.now.slots.items c.args.scope.now.used.keys c.args.n c.in-Err-used_view.refusal) c.marks.ensures
    (subst (λ (p : ℕ). HasNoUsedView c.marks.result.now p start c.args.scope.now.slots.items c.args.scope.now.used.keys c.args.n c.in-Err-used_view.refusal) c.place_of-here.ensures
    (rw c.deref.ensures.value at c.in-Err-used_view.ensures.absent)) in
    instance_stops old c.requires c.args.is_import c.args.name c.args.n c.key_of.new.places c.in-Ok.key c.in-Ok.ensures.key c.in-Err-used_view.refusal none

pub returns-in-Ok-used_view-clause-instances : goal.returns-in-Ok-used_view-clause-instances
returns-in-Ok-used_view-clause-instances c = on_ok (IsInstanceAdded c.args.scope.now c.push_instance.new.scope c.args.is_import c.in-Ok.key c.args.name.external_id c.args.n c.in-Ok-used_view.view)
    (Grows c.args.scope.now.instances.items c.push_instance.new.scope.instances.items) c.push_instance.result
    (λ a. record { more = record { place = place_number c.in-Ok.key; view = c.in-Ok-used_view.view } ∷ []; is = a.instances }) c.push_instance.ensures.added
