-- An interface that bytes show often is gathered once: one view of each path is enough (Component Model WIT.md, "Package Format").
use Rattle.std.specs.{Prelude.◌≡◌, Prelude.true, Prelude.List, Prelude.map, List.Contains, FinMap.from_entries}
use Rattle.wit_model.specs.{Text.TextMap, Meaning.InterfaceMeaning}
use Rattle.comp_meaning.specs.Reads.{Sight, all_agree, seen_meaning}

-- Some of these, one of each path at least
pub record AreEnough (chosen shown : List Sight) : Type 0 where
  pub among : (s : Sight) → Contains chosen s → Contains shown s
  pub each : (s : Sight) → Contains shown s → (t : Sight) × Contains chosen t × (t.path ≡ s.path)

-- Where all views agree, those of one path mean one interface.
abbrev pub ViewsMeanOne : Type 0
ViewsMeanOne = (all : List Sight) → all_agree all ≡ true → (s t : Sight) → Contains all s → Contains all t → s.path ≡ t.path
    → seen_meaning all s ≡ seen_meaning all t

-- So any views, one of each path at least, gather to the same map.
abbrev pub OneViewIsEnough : Type 0
OneViewIsEnough = (all chosen shown : List Sight) → all_agree all ≡ true → ((s : Sight) → Contains shown s → Contains all s) → AreEnough chosen shown
    → ◌≡◌ {A = TextMap InterfaceMeaning} (from_entries (map (seen_meaning all) chosen)) (from_entries (map (seen_meaning all) shown))
