use Rattle.std.proofs.Common.{refl}
use Rattle.wit_text.proofs.Walking.{on_ok}
use Rattle.wit_text.proofs.imports.put_imports.Goals as goal

pub returns : goal.returns
returns c =
    on_ok _ _ c.put_needs.result
    (λ puts. record {
      walk = _;
      is = record { sources = refl; text = refl; needs = refl; numbers = c.as_slice.ensures.value };
      mine = refl;
      away = refl;
      alone = refl;
      puts = puts;
    })
    c.put_needs.ensures
