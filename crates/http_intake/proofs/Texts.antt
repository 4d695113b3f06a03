-- A search for the end of a text in bytes that come in pieces.
use Rattle.std.proofs.Common.{◌≡◌, ℕ, ◌+◌, ◌<◌, ◌≤◌, min, List, [], length, take, drop, sym, ap, ◌∙◌, refl, subst, arith, take-append-drop, length-take-le}
use Rattle.std.proofs.lemmas.List.{append-nil, length-append, length-take, take_all, take-append-le}
use Rattle.std.proofs.KnownBytes.{Consumes-nil}
use Rattle.std.specs.declared.option.Option.{Option}
use Rattle.http_chunks.specs.declared.place.Place.{Place}
use Rattle.http_chunks.specs.declared.place.TextEnd.{TextEnd}
use Rattle.http_chunks.specs.declared.place.TextEnd.TheVariants.{Here, Later}
use Rattle.http_chunks.specs.Scans.{scan_from, IsOpen, BeginsWithText}
use Rattle.http_chunks.proofs.Scanning.{scan_none, scan_append, begins_at}
use Rattle.http_intake.specs.Reading.{Reads}
use Rattle.http_intake.proofs.Searching.{reads_on}

-- the bytes so far, of which the first were scanned
pub record Passes (start : Place) (limit : ℕ) (old new : Option (List ℕ)) (before bytes : List ℕ) (seen : ℕ) (place : Place) (first now : ℕ) : Type 0 where
  pub read : Reads old new before bytes
  pub within : seen ≤ length bytes
  pub few : seen ≤ limit
  pub scanned : scan_from start 0 (take seen bytes) ≡ Later place
  pub kept : now ≡ first

pub passes_start : (start : Place) (limit : ℕ) (source : Option (List ℕ)) (bytes : List ℕ) (faults : ℕ) → Passes start limit source source bytes bytes 0 start faults faults
passes_start start limit source bytes faults = record {
  read = ([], Consumes-nil source, sym (append-nil bytes));
  within = omega arith;
  few = omega arith;
  scanned = scan_none start 0;
  kept = refl;
}

take_within : (bytes : List ℕ) (seen n : ℕ) → seen ≤ n → n ≤ length bytes → take seen (take n bytes) ≡ take seen bytes
take_within bytes seen n below within =
    sym (take-append-le seen (take n bytes) (drop n bytes) (omega (arith, below, length-take-le n bytes within))) ∙ ap (take seen) (take-append-drop n bytes)

scans_front : (start place : Place) (front : List ℕ) (seen : ℕ) (end : TextEnd) → seen ≤ length front → scan_from start 0 (take seen front) ≡ Later place
    → end ≡ scan_from place seen (drop seen front) → scan_from start 0 front ≡ end
scans_front start place front seen end within scanned is =
    let count : 0 + length (take seen front) ≡ seen = omega (arith, length-take-le seen front within) in
    ap (scan_from start 0) (sym (take-append-drop seen front)) ∙ scan_append (take seen front) (drop seen front) start place 0 scanned
    ∙ ap (λ m. scan_from place m (drop seen front)) count ∙ sym is

-- the scan behind the bytes that were seen is that of all of them within the limit
pub front_scanned : (start place : Place) (limit : ℕ) (buffer bytes : List ℕ) (seen n : ℕ) (end : TextEnd) → bytes ≡ buffer → seen ≤ length buffer → seen ≤ limit
    → n ≡ min (length bytes) limit → scan_from start 0 (take seen buffer) ≡ Later place → end ≡ scan_from place seen (drop seen (take n bytes))
    → scan_from start 0 (take n bytes) ≡ end
front_scanned start place limit buffer bytes seen n end same within few least scanned is =
    let size = ap length same in
    let below : seen ≤ n = omega (arith, within, few, least, size) in
    let all : n ≤ length bytes = omega (arith, least) in
    let front = take_within bytes seen n below all ∙ ap (take seen) same in
    scans_front start place (take n bytes) seen end (omega (arith, below, length-take-le n bytes all)) (ap (scan_from start 0) front ∙ scanned) is

-- a text ends within the limit
pub text_there : (start : Place) (limit n len : ℕ) (bytes buffer : List ℕ) → bytes ≡ buffer → n ≡ min (length bytes) limit → scan_from start 0 (take n bytes) ≡ Here len
    → (text : List ℕ) × (rest : List ℕ) × BeginsWithText start limit buffer text rest × (len ≡ length text)
text_there start limit n len bytes buffer same least ends =
    let found = begins_at start limit n len bytes (omega (arith, least)) ends in
    (found.0, found.1, subst (λ l. BeginsWithText start limit l found.0 found.1) same found.2, found.3)

-- none does, and more is there
pub text_long : (start next : Place) (limit n : ℕ) (bytes buffer : List ℕ) → bytes ≡ buffer → n ≡ min (length bytes) limit → length (take n bytes) < length bytes
    → scan_from start 0 (take n bytes) ≡ Later next → (limit < length buffer) × IsOpen start (take limit buffer)
text_long start next limit n bytes buffer same least more open_so_far =
    let all : n ≡ limit = omega (arith, least, more, length-take n bytes) in
    (omega (arith, least, more, length-take n bytes, ap length same), (next, ap (scan_from start 0) (sym (ap (take n) same ∙ ap (λ m. take m buffer) all)) ∙ open_so_far))

-- none does in the bytes that are there
pub text_open : (start next : Place) (limit n : ℕ) (bytes buffer : List ℕ) → bytes ≡ buffer → n ≡ min (length bytes) limit → length bytes ≤ length (take n bytes)
    → scan_from start 0 (take n bytes) ≡ Later next → (length buffer ≤ limit) × IsOpen start buffer
text_open start next limit n bytes buffer same least all open_so_far =
    let few : length bytes ≤ n = omega (arith, all, length-take n bytes) in
    (omega (arith, least, few, ap length same), (next, ap (scan_from start 0) (sym (take_all n bytes few ∙ same)) ∙ open_so_far))

pub passes_on : (start next : Place) (limit : ℕ) (old mid new : Option (List ℕ)) (before buffer bytes later : List ℕ) (n seen : ℕ) (first now : ℕ)
    → Reads old mid before buffer → Reads mid new buffer later → bytes ≡ buffer → n ≡ min (length bytes) limit → seen ≡ length (take n bytes) → length bytes ≤ length (take n bytes)
    → scan_from start 0 (take n bytes) ≡ Later next → now ≡ first → Passes start limit old new before later seen next first now
passes_on start next limit old mid new before buffer bytes later n seen first now read more same least is all open_so_far kept =
    let few : length bytes ≤ n = omega (arith, all, length-take n bytes) in
    let whole : take n bytes ≡ bytes = take_all n bytes few in
    let size : seen ≡ length buffer = omega (arith, is, ap length whole, ap length same) in
    let front : take seen later ≡ buffer =
    ap (take seen) more.2 ∙ take-append-le seen buffer more.0 (omega (arith, size)) ∙ take_all seen buffer (omega (arith, size)) in
    record {
      read = reads_on old mid new before buffer later read more;
      within = omega (arith, size, ap length more.2, length-append buffer more.0);
      few = omega (arith, size, least, few, ap length same);
      scanned = ap (scan_from start 0) (front ∙ sym same ∙ sym whole) ∙ open_so_far;
      kept = kept;
    }
