use Rattle.std.proofs.Common.{rules, ◌≡◌, ◌∷◌, ◌++◌, [], ◌<◌, ◌≤◌, ◌+◌, ◌∙◌, drop, get_or, length, refl, sym, ap, subst, true}
use Rattle.std.proofs.lemmas.{List.drop_all, List.drop_more, Option.slice_get_read}
use Rattle.bind_copy.specs.Copies.{all_below}
use Rattle.bind_union.specs.Views.{kind_view, view_numbers}
use Rattle.bind_carry.specs.{Fates.AreCopiedSoFar, Fates.MeetsFate, TooLong.copies_of}
use Rattle.bind_carry.proofs.{Counting.counted_more, Settling.all_met, Settling.one_more}
use Rattle.bind_carry.specs.declared.fate.Fate.TheVariants as fate
use Rattle.bind_carry.proofs.fates.copy_types.Goals as goal

pub loop-number-preserved : goal.loop-number-preserved
loop-number-preserved c =
    let own = c.args.own in
    let types = c.args.types.now in
    let fates = c.args.fates.now in
    let old = c.args.added.now.items in
    let n = c.loop-number.number in
    let def = c.index-types-number.result in
    let f = get_or fates n fate.Left in
    let so_far = c.loop-number.numbers.items in
    let within : n < length types = search rules in
    let within_fates : n < length fates = search rules in
    let at_type : drop n types ≡ def ∷ drop (n + 1) types = drop_more types n def within ∙ ap (λ t. t ∷ drop (n + 1) types) (sym c.index-types-number.is) in
    let at_fate : drop n fates ≡ f ∷ drop (n + 1) fates = drop_more fates n fate.Left within_fates in
    let below : all_below n (view_numbers (kind_view def.kind)) ≡ true = c.requires.falls n def (slice_get_read types _ n def refl within c.index-types-number.is) in
    let small : all_below (length so_far) (view_numbers (kind_view def.kind)) ≡ true = subst (λ k. all_below k (view_numbers (kind_view def.kind)) ≡ true) (sym c.loop-number.invariant.count) below in
    let told : MeetsFate own c.deref.result.now def f c.loop-number.added.items c.carried_type.new.added.items c.in_ok-image.image = c.in_ok-image.ensures.met in
    let met : MeetsFate own so_far def f c.loop-number.added.items c.carried_type.new.added.items c.in_ok-image.image =
    subst (λ l. MeetsFate own l def f c.loop-number.added.items c.carried_type.new.added.items c.in_ok-image.image) c.deref.ensures.value told in
    let more : AreCopiedSoFar own types fates old (so_far ++ c.in_ok-image.image ∷ []) (drop (n + 1) types) (drop (n + 1) fates) c.carried_type.new.added.items =
    one_more own types fates old so_far (drop n types) (drop n fates) def (drop (n + 1) types) f (drop (n + 1) fates) c.loop-number.added.items c.carried_type.new.added.items c.in_ok-image.image
    at_type at_fate small met c.loop-number.invariant.met
    in
    record {
      count = search rules;
      met = subst (λ l. AreCopiedSoFar own types fates old l (drop (n + 1) types) (drop (n + 1) fates) c.carried_type.new.added.items) (sym c.in_ok-push.ensures.items) more;
      counted = counted_more own c.deref.result.now def f c.loop-number.added.items c.carried_type.new.added.items c.in_ok-image.image (drop (n + 1) fates) (drop n fates)
          (length old + copies_of fates) at_fate told c.loop-number.invariant.counted;
    }

pub returns-clause-copied : goal.returns-clause-copied
returns-clause-copied c =
    let types = c.args.types.now in
    let fates = c.args.fates.now in
    let n = c.loop-number.number in
    let past : length types ≤ n = search rules in
    let past_fates : length fates ≤ n = search rules in
    all_met c.args.own types fates c.args.added.now.items c.loop-number.numbers.items (drop n types) (drop n fates) c.loop-number.added.items (drop_all n types past) (drop_all n fates past_fates)
    c.loop-number.invariant.met
