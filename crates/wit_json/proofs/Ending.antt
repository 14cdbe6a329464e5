-- Parts, and a last token behind them.
use Rattle.std.proofs.Common.{◌≡◌, List, [], ◌∷◌, ◌++◌, Result, Ok, Err, OnOk}
use Rattle.json.specs.{Token.Token, Written.Written, Written.Writes}
use Rattle.wit_json.specs.Adds.{Adds}
use Rattle.wit_json.proofs.Adding.{added, adds4}

pub adds3_then : {E : Type 0} (r : Result (Unit {0}) E) {a b c d e : Written} {A B C all : List Token} {t : Token} → Adds a b A → Adds b c B → Adds c d C → Writes r d e t
    → A ++ (B ++ (C ++ t ∷ [])) ≡ all → OnOk r (Adds a e all)
adds3_then (Ok x) p q s h e = adds4 p q s (added h) e
adds3_then (Err x) p q s h e = tt
