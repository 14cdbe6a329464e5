-- Worlds are made one after the other. Serves read.
use Rattle.std.proofs.Common.{◌≡◌, ◌∙◌, sym, ap, subst, ◌<◌, ◌+◌, ℕ, List, [], ◌∷◌, ◌++◌, Some, slice_get, length, arith, ◌⊎◌, inl, inr}
use Rattle.std.proofs.lemmas.Bool.{cases_eq}
use Rattle.std.proofs.lemmas.List.{length-append}
use Rattle.std.proofs.lemmas.Option.{slice_get_within}
use Rattle.wit_model.specs.declared.model.{TypeDef.TypeDef, World.World}
use Rattle.text_names.specs.declared.sources.{Sources.Sources, WorldSource.WorldSource}
use Rattle.text_types.specs.declared.members.Interfaces.{Interfaces}
use Rattle.text_types.specs.Begins.{Begins}
use Rattle.text_types.proofs.Growth.{entry_stays}
use Rattle.wit_text.specs.MadeInterfaces.{GrowsInterfaces}
use Rattle.wit_text.specs.MadeWorlds.{AreWorldsMade, IsEachWorldMade, IsWorldMade}
use Rattle.wit_text.specs.SoFar.{AreWorldsSoFar}
use Rattle.base_lemmas.proofs.Lists.{at_last}
use Rattle.wit_text.proofs.WorldsGrow.{world_carried}

pub no_worlds : (s : Sources) (a : Interfaces) (defs : List TypeDef) (worlds : List World) → worlds ≡ [] → AreWorldsSoFar s a defs worlds 0
no_worlds s a defs worlds none = record { many = ap length none; each = λ n source low there. absurd (omega arith) }

module _ (s : Sources) {a b : Interfaces} (g : GrowsInterfaces a b) {defs more : List TypeDef} (h : Begins defs more) (worlds new : List World) (count : ℕ)
    (source : WorldSource) (there : slice_get s.worlds.items count ≡ Some source) (made : World) (is : IsWorldMade s b more source count made)
    (grown : new ≡ worlds ++ made ∷ []) (so : AreWorldsSoFar s a defs worlds count) where
  pub worlds_more : AreWorldsSoFar s b more new (count + 1)
  worlds_more = record {
    many = ap length grown ∙ (length-append worlds (made ∷ []) ∙ ap (λ n. n + 1) so.many);
    each = λ n other low known. by n other low known (cases_eq n count);
  }
    where
      by : (n : ℕ) (other : WorldSource) → n < count + 1 → slice_get s.worlds.items n ≡ Some other → (n ≡ count) ⊎ (n ≡ count → ⊥)
          → IsEachWorldMade s b more new n other
      by n other low known (inl same) =
          let here : slice_get new count ≡ Some made =
          ap (λ ws. slice_get ws count) grown ∙ (ap (λ n. slice_get (worlds ++ made ∷ []) n) (sym so.many) ∙ at_last worlds made) in
          let its : source ≡ other = cc (there, known, same) in
          subst (λ m. IsEachWorldMade s b more new m other) (sym same)
          (subst (λ x. IsEachWorldMade s b more new count x) its (record { made = made; there = here; is = is }))
      by n other low known (inr apart) =
          let k = so.each n other (omega arith) known in
          record { made = k.made; there = entry_stays n k.made (record { more = made ∷ []; is = grown }) k.there; is = world_carried s g h k.is }

pub all_worlds : (s : Sources) (a : Interfaces) (defs : List TypeDef) (worlds : List World) (count : ℕ) → count ≡ length s.worlds.items
    → AreWorldsSoFar s a defs worlds count → AreWorldsMade s a defs worlds
all_worlds s a defs worlds count all so = record {
  many = so.many ∙ all;
  each = λ n source there. let low = slice_get_within s.worlds.items n source there in so.each n source (omega arith) there;
}
