use Rattle.std.proofs.Common.{ℕ, take}
use Rattle.std.specs.List.{Contains}
use Rattle.encode_types.specs.Maps.{IsKnown, LearnsOnly}
use Rattle.encode_types.specs.{View.HoldsLearnt, View.WritesLearnt, Aliases.ImportsMet, Aliases.MakesMet, Leaves.Leaves, Leaves.LearnsParts, Leaves.CountsTypes}
use Rattle.encode_kinds.proofs.define.define_parts.Given as goal

abbrev pub invariant-loop-n : goal.invariant-loop-n
invariant-loop-n g l = record {
  known : (j : ℕ) → Contains (take l.n-index l.n-items) j → IsKnown (g.E.ValtypeEncoder.view l.enc).maps j;
  learns : LearnsOnly (λ n. Contains (take l.n-index l.n-items) n) (g.E.ValtypeEncoder.view l.fn.enc).maps (g.E.ValtypeEncoder.view l.enc).maps;
  learnt : LearnsParts l.resolve (g.E.ValtypeEncoder.view l.fn.enc) (g.E.ValtypeEncoder.view l.enc);
  aliases : MakesMet l.resolve l.types (g.E.ValtypeEncoder.view l.fn.enc) (g.E.ValtypeEncoder.view l.enc);
  imports : ImportsMet l.resolve l.types (g.E.ValtypeEncoder.view l.fn.enc) (g.E.ValtypeEncoder.view l.enc);
  leaves : Leaves l.resolve (g.E.ValtypeEncoder.view l.fn.enc) (g.E.ValtypeEncoder.view l.enc);
  held : HoldsLearnt l.resolve 0 (g.E.ValtypeEncoder.view l.fn.enc) (g.E.ValtypeEncoder.view l.enc);
  written : WritesLearnt l.resolve 0 (g.E.ValtypeEncoder.view l.fn.enc) (g.E.ValtypeEncoder.view l.enc);
  counts : CountsTypes l.resolve (g.E.ValtypeEncoder.view l.fn.enc) (g.E.ValtypeEncoder.view l.enc);
}
