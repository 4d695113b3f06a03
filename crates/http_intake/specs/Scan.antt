-- A scan for the end of the text of a head, by the bytes that it has seen.
use Rattle.std.specs.Prelude.{◌≡◌, ◌≢◌, ℕ, ◌≤◌, List, [], ◌∷◌, length, take}
use Rattle.http_model.specs.Heads.{skip_breaks, EndsIn, HasNoHeadText, IsHeadText}
use Rattle.http_chunks.specs.declared.place.Place.{Place}
use Rattle.http_chunks.specs.declared.place.Place.TheVariants.{Before, Inside, Fresh, Return, Behind, Line}
use Rattle.http_chunks.specs.declared.place.TextEnd.{TextEnd}
use Rattle.http_chunks.specs.declared.place.TextEnd.TheVariants.{Here, Later}

-- what a text ends in, where the empty lines in front are passed over; no head has chunk lines
abbrev pub IsBehind : List ℕ → Place → Type 0
IsBehind text Before = text ≡ []
IsBehind text Inside = (text ≢ []) × ¬ (EndsIn text (10 ∷ [])) × ¬ (EndsIn text (10 ∷ 13 ∷ []))
IsBehind text Fresh = EndsIn text (10 ∷ [])
IsBehind text Return = EndsIn text (10 ∷ 13 ∷ [])
IsBehind text Behind = ⊥
IsBehind text Line = ⊥

-- no head ends in these bytes, and the scan is at this place behind them
pub record Scanned (seen : List ℕ) (place : Place) : Type 0 where
  pub open_so_far : HasNoHeadText seen
  pub behind : IsBehind (skip_breaks seen) place

-- the text ends there, or not in these bytes
abbrev pub FindsEnd : List ℕ → TextEnd → Type 0
FindsEnd bytes (Here n) = (n ≤ length bytes) × IsHeadText (take n bytes)
FindsEnd bytes (Later place) = Scanned bytes place
