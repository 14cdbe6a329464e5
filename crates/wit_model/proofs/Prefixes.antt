-- What stands after a prefix.
use Rattle.std.proofs.Common.{rules as std_rules, ◌≡◌, refl, Bool, true, false, ◌==◌, [], ◌∷◌, ◌++◌, cond, Option, Some, None, MatchOption}
use Rattle.std.proofs.lemmas.Option.{same_Some}
use Rattle.std.specs.{Option.option_copied, Str.Pattern.FindsTextPrefix, Str.Pattern.StripsPrefix, Borrow.Bor}
use Rattle.wit_model.specs.{Text.Text, Rules.after_prefix}
use Rattle.base_lemmas.proofs.Numbers.{equal as same_byte}
use Rattle.wit_model.proofs.PathParts.{after-itself as after_complete}

-- the prefix stands before what follows it
pub after_sound : (ps bs rest : Text) → after_prefix ps bs ≡ Some rest → bs ≡ ps ++ rest
after_sound [] bs rest h = same_Some bs rest h
after_sound (p ∷ ps) [] rest h = let wrong : ⊥ = cc in absurd wrong
after_sound (p ∷ ps) (b ∷ bs) rest h = go (after_sound ps bs rest) (p == b) refl h
  where
    go : (after_prefix ps bs ≡ Some rest → bs ≡ ps ++ rest) → (v : Bool) → (p == b) ≡ v → cond v (after_prefix ps bs) None ≡ Some rest → b ∷ bs ≡ (p ∷ ps) ++ rest
    go again true e k = let head : p ≡ b = same_byte p b e in let tail : bs ≡ ps ++ rest = again k in cc
    go again false e k = let wrong : ⊥ = cc in absurd wrong

-- what `strip_prefix` gives
pub stripped : (ps bs : Text) (r : Option (Bor Text)) → MatchOption r (FindsTextPrefix ps bs None) (λ x. StripsPrefix (FindsTextPrefix ps) bs x.now) → option_copied r ≡ after_prefix ps bs
stripped ps bs None h = none_after (after_prefix ps bs) refl
  where
    none_after : (o : Option Text) → after_prefix ps bs ≡ o → None ≡ o
    none_after None e = refl
    none_after (Some rest) e = absurd (h rest (after_sound ps bs rest e))
stripped ps bs (Some x) h = search (std_rules, after_complete)
