use Rattle.std.proofs.Common.{rules, ◌≡◌, ◌∷◌, ◌∙◌, ◌+◌, ◌<◌, ◌≤◌, ap, sym, drop, get_or, length}
use Rattle.std.proofs.lemmas.List.{drop_all, drop_more}
use Rattle.bind_carry.proofs.Gaining.{all_gained, one_passed}
use Rattle.bind_carry.proofs.packages.gained_names.Goals as goal

pub loop-number-preserved : goal.loop-number-preserved
loop-number-preserved c =
    let flags = c.args.carried.now.new_packages.items in
    let numbers = c.args.carried.now.packages.items in
    let xs = c.args.other.now.packages.items in
    let n = c.loop-number.number in
    let p = c.package-item.result in
    let within : n < length xs = search rules in
    let within_flags : n < length flags = search rules in
    let within_numbers : n < length numbers = search rules in
    let b = c.index-is_new.result.now in
    let k = c.index-own.result.now in
    let at_flag : drop n flags ≡ b ∷ drop (n + 1) flags = drop_more flags n b within_flags ∙ ap (λ t. t ∷ drop (n + 1) flags) (sym c.index-is_new.ensures) in
    let at_number : drop n numbers ≡ k ∷ drop (n + 1) numbers = drop_more numbers n k within_numbers ∙ ap (λ t. t ∷ drop (n + 1) numbers) (sym c.index-own.ensures) in
    let at_package : drop n xs ≡ p ∷ drop (n + 1) xs = drop_more xs n p within ∙ ap (λ t. t ∷ drop (n + 1) xs)
    (ap (λ l. get_or l n p) (sym c.deref-package-items.ensures.value) ∙ sym c.package-item.is) in
    one_passed c.args.carried.now xs (drop n flags) (drop (n + 1) flags) (drop n numbers) (drop (n + 1) numbers) (drop n xs) (drop (n + 1) xs) b k p c.loop-number.gained.items c.gain.new.gained.items
    at_flag at_number at_package
    c.in_ok-gain.ensures.new c.in_ok-gain.ensures.grown c.loop-number.invariant

pub returns-clause-names : goal.returns-clause-names
returns-clause-names c =
    let flags = c.args.carried.now.new_packages.items in
    let numbers = c.args.carried.now.packages.items in
    let xs = c.args.other.now.packages.items in
    let n = c.loop-number.number in
    let past : length flags ≤ n = search rules in
    all_gained c.args.carried.now xs (drop n flags) (drop n numbers) (drop n xs) c.loop-number.gained.items (drop_all n flags past) c.loop-number.invariant
