-- The next head of a connection and the next bytes of a body, in whatever pieces the bytes come.
use Rattle.std.specs.Prelude.{◌≡◌, ◌≢◌, ℕ, ◌<◌, ◌≤◌, List, [], ◌++◌, length, take, Option, Some, None, Result, Ok, Err}
use Rattle.std.specs.Io.KnownBytes.{Consumes, IsAtEnd}
use Rattle.http_model.specs.declared.head.Head.{Head}
use Rattle.http_model.specs.declared.reading.TheConstants.{HEAD_LIMIT}
use Rattle.http_model.specs.Heads.{skip_breaks, IsHeadText, BeginsWith}
use Rattle.http_model.specs.Streams.{IsBlank, IsCutHead, IsNoHead, IsUnframed, IsOversized}
use Rattle.http_intake.specs.declared.fault.IntakeFault.{IntakeFault}
use Rattle.http_intake.specs.declared.fault.IntakeFault.TheVariants.{OutOfMemory, ReadFault, Cut, BadHead, HeadTooLarge, BadFraming, BadChunk, BodyTooLarge}

-- these bytes were read, and stand behind those that were there
abbrev pub Reads : Option (List ℕ) → Option (List ℕ) → List ℕ → List ℕ → Type 0
Reads old new before after = (more : List ℕ) × Consumes old new more × (after ≡ before ++ more)

-- why no head is read from these bytes, the last of an input that has ended, if it has
abbrev pub HasNoNext : List ℕ → Type 0 → IntakeFault → Type 0
HasNoNext bytes ended OutOfMemory = Unit {0}
HasNoNext bytes ended ReadFault = IsCutHead bytes
HasNoNext bytes ended Cut = (skip_breaks bytes ≢ []) × IsCutHead bytes × ended
HasNoNext bytes ended BadHead = IsNoHead bytes
HasNoNext bytes ended HeadTooLarge = IsOversized bytes
HasNoNext bytes ended (BadFraming bodiless) = IsUnframed bytes bodiless
HasNoNext bytes ended BadChunk = ⊥
HasNoNext bytes ended BodyTooLarge = ⊥

-- the length of the head's text at the front of the bytes, or why there is none
abbrev pub FindsText : List ℕ → Type 0 → Result (Option ℕ) IntakeFault → Type 0
FindsText bytes ended (Ok (Some n)) = (n ≤ length bytes) × (n ≤ HEAD_LIMIT) × IsHeadText (take n bytes)
FindsText bytes ended (Ok None) = IsBlank bytes × ended
FindsText bytes ended (Err fault) = HasNoNext bytes ended fault

-- the head at the front of all the bytes and what is left of them, or why there is none
abbrev pub FindsHead : List ℕ → Type 0 → List ℕ → Result (Option Head) IntakeFault → Type 0
FindsHead all ended left (Ok (Some head)) = BeginsWith all head left
FindsHead all ended left (Ok None) = (left ≡ all) × IsBlank all × ended
FindsHead all ended left (Err fault) = (left ≡ all) × HasNoNext all ended fault

-- bytes were read, and with those that were there before they are that
abbrev pub TakesHead : Option (List ℕ) → Option (List ℕ) → List ℕ → List ℕ → Result (Option Head) IntakeFault → Type 0
TakesHead old new before left result =
    (more : List ℕ) × Consumes old new more × FindsHead (before ++ more) (IsAtEnd new) left result

-- bytes were read, and with those that were there before they begin with n bytes that stand in out now; or the input ended
abbrev pub TakesBytes : Option (List ℕ) → Option (List ℕ) → List ℕ → List ℕ → List ℕ → Result ℕ IntakeFault → Type 0
TakesBytes old new before left out (Ok n) =
    ((more : List ℕ) × Consumes old new more × (before ++ more ≡ take n out ++ left)) × (n ≤ length out) × (0 < n)
TakesBytes old new before left out (Err ReadFault) = (before ≡ []) × (left ≡ before) × Consumes old new []
TakesBytes old new before left out (Err Cut) = (before ≡ []) × (left ≡ before) × Consumes old new [] × IsAtEnd new
TakesBytes old new before left out (Err OutOfMemory) = ⊥
TakesBytes old new before left out (Err BadHead) = ⊥
TakesBytes old new before left out (Err HeadTooLarge) = ⊥
TakesBytes old new before left out (Err (BadFraming bodiless)) = ⊥
TakesBytes old new before left out (Err BadChunk) = ⊥
TakesBytes old new before left out (Err BodyTooLarge) = ⊥
