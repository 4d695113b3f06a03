-- What opens a chunk at the front of bytes, and the trailers behind the last one.
use Rattle.std.proofs.Common.{◌≡◌, ℕ, ◌≤◌, Bool, List, ◌++◌, length, take, drop, sym, ap, ◌∙◌, refl, subst, subst₂, inl, inr, ◌⊎◌, ◌≢◌, Ok, Err, arith, append_assoc, length-append}
use Rattle.std.proofs.KnownBytes.{Consumes-trans}
use Rattle.std.specs.Io.KnownBytes.{Consumes, IsAtEnd}
use Rattle.std.specs.declared.option.Option.{Option}
use Rattle.http_chunks.specs.declared.place.Place.{Place}
use Rattle.http_chunks.specs.declared.place.Place.TheVariants.{Fresh}
use Rattle.http_chunks.specs.declared.trailers.TheConstants.{TRAILER_LIMIT}
use Rattle.http_chunks.specs.Scans.{BeginsWithText, opening_start}
use Rattle.http_chunks.specs.Chunks.{SaysOpening, OpensChunk, BeginsWithTrailers, opening_limit, IsLongOpening, IsNoOpening, AreLongTrailers, AreNoTrailers, IsNoChunk}
use Rattle.http_chunks.proofs.Bodies.{take_front, drop_front}
use Rattle.http_chunks.proofs.Scanning.{opens_more}
use Rattle.http_intake.specs.declared.fault.IntakeFault.{IntakeFault}
use Rattle.http_intake.specs.declared.fault.IntakeFault.TheVariants as Fault
use Rattle.http_intake.specs.Faults.{CountsFaults}
use Rattle.http_intake.specs.Chunks.{FindsTextFrom, HasNoOpening, HasNoTrailers, HasNoChunk, TakesOpening, GoesOn}

-- the first n bytes are the text
abbrev pub HasText : Place → ℕ → List ℕ → ℕ → Type 0
HasText place limit bytes n = (text : List ℕ) × (rest : List ℕ) × BeginsWithText place limit bytes text rest × (n ≡ length text)

pub text_at : (place : Place) (limit n : ℕ) (bytes : List ℕ) → HasText place limit bytes n
    → (n ≤ length bytes) × BeginsWithText place limit bytes (take n bytes) (drop n bytes)
text_at place limit n bytes found =
    let whole = found.2.whole in
    let text : take n bytes ≡ found.0 = ap (take n) whole ∙ take_front found.0 found.1 n found.3 in
    let rest : drop n bytes ≡ found.1 = ap (drop n) whole ∙ drop_front found.0 found.1 n found.3 in (
      omega (arith, found.3, ap length whole, length-append found.0 found.1),
      subst (λ t. BeginsWithText place limit bytes t (drop n bytes)) (sym text) (subst (BeginsWithText place limit bytes found.0) (sym rest) found.2),
    )

-- why no text was found is why no chunk is opened
pub no_opening : (behind : Bool) (room : ℕ) (bytes : List ℕ) (ended : Type 0) (fault : IntakeFault)
    → FindsTextFrom (opening_start behind) (opening_limit behind) bytes ended (Err fault) → HasNoOpening behind room bytes ended fault
no_opening behind room bytes ended Fault.OutOfMemory found = absurd found
no_opening behind room bytes ended Fault.ReadFault found = found
no_opening behind room bytes ended Fault.Cut found = ((found.0, found.1), found.2)
no_opening behind room bytes ended Fault.BadHead found = absurd found
no_opening behind room bytes ended Fault.HeadTooLarge found = absurd found
no_opening behind room bytes ended (Fault.BadFraming b) found = absurd found
no_opening behind room bytes ended Fault.BadChunk found = absurd found
no_opening behind room bytes ended Fault.BodyTooLarge found = absurd found

pub no_trailers : (bytes : List ℕ) (ended : Type 0) (fault : IntakeFault) → FindsTextFrom Fresh TRAILER_LIMIT bytes ended (Err fault) → HasNoTrailers bytes ended fault
no_trailers bytes ended Fault.OutOfMemory found = absurd found
no_trailers bytes ended Fault.ReadFault found = found
no_trailers bytes ended Fault.Cut found = ((found.0, found.1), found.2)
no_trailers bytes ended Fault.BadHead found = absurd found
no_trailers bytes ended Fault.HeadTooLarge found = absurd found
no_trailers bytes ended (Fault.BadFraming b) found = absurd found
no_trailers bytes ended Fault.BadChunk found = absurd found
no_trailers bytes ended Fault.BodyTooLarge found = absurd found

-- ---- an opening, and what comes of it

by_opening : (behind : Bool) (bytes : List ℕ) → (IsLongOpening behind bytes ⊎ IsNoOpening behind bytes) → IsNoChunk behind bytes
by_opening behind bytes (inl long) = inl long
by_opening behind bytes (inr none) = inr (inl none)

by_trailers : (behind : Bool) (bytes after : List ℕ) → OpensChunk behind bytes 0 after → (AreLongTrailers after ⊎ AreNoTrailers after) → IsNoChunk behind bytes
by_trailers behind bytes after opens none = inr (inr (after, opens, none))

pub first_fault : (behind : Bool) (room : ℕ) (bytes : List ℕ) (ended : Type 0) (fault : IntakeFault) → HasNoOpening behind room bytes ended fault → HasNoChunk behind room bytes ended fault
first_fault behind room bytes ended Fault.OutOfMemory found = absurd found
first_fault behind room bytes ended Fault.ReadFault found = inl found
first_fault behind room bytes ended Fault.Cut found = (inl found.0, found.1)
first_fault behind room bytes ended Fault.BadHead found = absurd found
first_fault behind room bytes ended Fault.HeadTooLarge found = absurd found
first_fault behind room bytes ended (Fault.BadFraming b) found = absurd found
first_fault behind room bytes ended Fault.BadChunk found = by_opening behind bytes found
first_fault behind room bytes ended Fault.BodyTooLarge found = found

-- behind the last chunk
pub last_fault : (behind : Bool) (room : ℕ) (bytes after : List ℕ) (ended : Type 0) (fault : IntakeFault) → OpensChunk behind bytes 0 after
    → HasNoTrailers after ended fault → HasNoChunk behind room bytes ended fault
last_fault behind room bytes after ended Fault.OutOfMemory opens found = absurd found
last_fault behind room bytes after ended Fault.ReadFault opens found = inr (after, opens, found)
last_fault behind room bytes after ended Fault.Cut opens found = (inr (after, opens, found.0), found.1)
last_fault behind room bytes after ended Fault.BadHead opens found = absurd found
last_fault behind room bytes after ended Fault.HeadTooLarge opens found = absurd found
last_fault behind room bytes after ended (Fault.BadFraming b) opens found = absurd found
last_fault behind room bytes after ended Fault.BadChunk opens found = by_trailers behind bytes after opens found
last_fault behind room bytes after ended Fault.BodyTooLarge opens found = absurd found

-- a last chunk was opened, and then bytes were read
pub opened_on : (behind : Bool) (before more next mid : List ℕ) → OpensChunk behind (before ++ more) 0 mid → OpensChunk behind (before ++ (more ++ next)) 0 (mid ++ next)
opened_on behind before more next mid opens =
    subst (λ l. OpensChunk behind l 0 (mid ++ next)) (append_assoc before more next) (opens_more behind (before ++ more) mid next 0 opens)

-- ---- what a function comes to

pub opens_none : (behind : Bool) (start : Place) (limit n : ℕ) (bytes held : List ℕ) → start ≡ opening_start behind → limit ≡ opening_limit behind → held ≡ bytes
    → HasText start limit bytes n → ((size : ℕ) → ¬ (SaysOpening behind (take n held) size)) → IsNoOpening behind bytes
opens_none behind start limit n bytes held place most same found none =
    let there = (text_at start limit n bytes found).1 in
    let begins = subst₂ (λ p m. BeginsWithText p m bytes (take n bytes) (drop n bytes)) place most there in
    (take n bytes, drop n bytes, begins, subst (λ l. (size : ℕ) → ¬ (SaysOpening behind (take n l) size)) same none)

pub other_fault : {T : Type 0} (before now : ℕ) (fault : IntakeFault) → now ≡ before → fault ≢ Fault.ReadFault → CountsFaults {T = T} before now (Err fault)
other_fault before now fault kept other = record {
  rose = λ e. let same : fault ≡ Fault.ReadFault = cc in absurd (other same);
  kept = λ e. kept;
}

pub last_on : (behind : Bool) (room : ℕ) (old mid new : Option (List ℕ)) (before middle left : List ℕ) (size : ℕ) → size ≡ 0
    → TakesOpening behind room old mid before middle (Ok size)
    → ((y : List ℕ) × Consumes mid new y × BeginsWithTrailers (middle ++ y) left)
    → (x : List ℕ) × Consumes old new x × GoesOn behind room (before ++ x) left 0
last_on behind room old mid new before middle left size none opening trailers =
    let opens = subst (λ n. OpensChunk behind (before ++ opening.0) n middle) none opening.2.0 in (
      opening.0 ++ trailers.0,
      Consumes-trans old mid new opening.0 trailers.0 opening.1 trailers.1,
      inr (refl, (middle ++ trailers.0, opened_on behind before opening.0 trailers.0 middle opens, trailers.2)),
    )

pub last_off : (behind : Bool) (room : ℕ) (old mid new : Option (List ℕ)) (before middle : List ℕ) (size : ℕ) (fault : IntakeFault) → size ≡ 0
    → TakesOpening behind room old mid before middle (Ok size)
    → ((y : List ℕ) × Consumes mid new y × HasNoTrailers (middle ++ y) (IsAtEnd new) fault)
    → (x : List ℕ) × Consumes old new x × HasNoChunk behind room (before ++ x) (IsAtEnd new) fault
last_off behind room old mid new before middle size fault none opening trailers =
    let opens = subst (λ n. OpensChunk behind (before ++ opening.0) n middle) none opening.2.0 in (
      opening.0 ++ trailers.0,
      Consumes-trans old mid new opening.0 trailers.0 opening.1 trailers.1,
      last_fault behind room (before ++ (opening.0 ++ trailers.0)) (middle ++ trailers.0) (IsAtEnd new) fault
          (opened_on behind before opening.0 trailers.0 middle opens) trailers.2,
    )
