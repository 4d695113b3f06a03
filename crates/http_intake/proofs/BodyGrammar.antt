-- What is left of a body, from call to call.
use Rattle.std.proofs.Common.{◌≡◌, ◌≢◌, ℕ, ◌+◌, ◌-◌, ◌<◌, ◌≤◌, Bool, true, false, List, [], ◌∷◌, ◌++◌, length, take, Option, Result, Ok, Err, refl, sym, ap, ◌∙◌, subst, subst₂, inl, inr, arith, append_assoc, length-append}
use Rattle.std.proofs.lemmas.List.{length-take-le}
use Rattle.std.proofs.KnownBytes.{Consumes-trans}
use Rattle.std.specs.Io.KnownBytes.{IsAtEnd}
use Rattle.http_chunks.specs.declared.body.BodyEnd.{BodyEnd}
use Rattle.http_chunks.specs.declared.body.BodyEnd.TheVariants as End
use Rattle.http_chunks.specs.declared.place.Place.TheVariants.{Fresh}
use Rattle.http_chunks.specs.declared.trailers.TheConstants.{TRAILER_LIMIT}
use Rattle.http_chunks.specs.Chunks.{OpensChunk, BeginsWithTrailers, IsCutChunk, EndsBody, AreChunks, content_of}
use Rattle.http_chunks.proofs.Scanning.{begins_more, opens_more}
use Rattle.http_intake.specs.declared.fault.IntakeFault.{IntakeFault}
use Rattle.http_intake.specs.declared.fault.IntakeFault.TheVariants as Fault
use Rattle.http_intake.specs.Chunks.{HasNoChunk}
use Rattle.http_intake.specs.Intake.{IntakeState, GivesBytes, GivesBody, opened, finished, OpensNext, OpensBody, GivesChunk}
use Rattle.http_intake.specs.Grammar.{IsLeftBy, IsLeft, IsBrokenBy, IsBroken, IsWrong, GoesWrongBy, GoesWrong, Gives, BreaksBody, ReadsBody}

-- ---- a body in chunks

-- the bytes are this body, in what is left of the present chunk and in further ones, as far as that end, and rest follows
abbrev pub LeadsTo : IntakeState → List ℕ → List ℕ → BodyEnd → List ℕ → Type 0
LeadsTo intake bytes body end rest =
    (piece : List ℕ) × (next : List ℕ) × (contents : List (List ℕ)) × (bytes ≡ piece ++ next) × (length piece ≡ intake.body_left)
    × AreChunks intake.behind intake.room next contents end rest × (body ≡ piece ++ content_of contents)

-- no further chunk follows
leads_here : (intake : IntakeState) (bytes : List ℕ) (end : BodyEnd) → intake.body_left ≡ 0 → EndsBody intake.behind intake.room bytes end bytes → LeadsTo intake bytes [] end bytes
leads_here intake bytes end none ends = ([], bytes, [], refl, sym none, ends, refl)

broken_by : (intake : IntakeState) (bytes body rest : List ℕ) (why : BodyEnd) → LeadsTo intake bytes body why rest → why ≢ End.Whole → IsBrokenBy true intake bytes why
broken_by intake bytes body rest why (piece, next, contents, is, size, chunks, held) other = inr (piece, next, contents, rest, is, size, chunks, other)

pub wrong_by : (intake : IntakeState) (bytes came rest : List ℕ) (why : BodyEnd) → IsWrong why → LeadsTo intake bytes came why rest → GoesWrongBy true intake bytes why came
wrong_by intake bytes came rest why wrong (piece, next, contents, is, size, chunks, held) = (wrong, piece, next, contents, rest, is, size, chunks, held)

pub not_whole : (why : BodyEnd) → IsWrong why → why ≢ End.Whole
not_whole why wrong is = subst IsWrong is wrong

wrong_broken : (b : Bool) (intake : IntakeState) (bytes : List ℕ) (why : BodyEnd) (came : List ℕ) → GoesWrongBy b intake bytes why came → IsBrokenBy b intake bytes why
wrong_broken false intake bytes why came goes = absurd goes
wrong_broken true intake bytes why came (wrong, piece, next, contents, rest, is, size, chunks, held) =
    broken_by intake bytes came rest why (piece, next, contents, is, size, chunks, held) (not_whole why wrong)

-- a body whose chunks go wrong is not whole
pub wrong_is_broken : (intake : IntakeState) (bytes : List ℕ) (why : BodyEnd) (came : List ℕ) → GoesWrong intake bytes why came → IsBroken intake bytes why
wrong_is_broken intake bytes why came goes = wrong_broken intake.chunked intake bytes why came goes

-- ---- bytes were given

-- they stood in front of those that are kept
pub record Moves (old new : IntakeState) (bytes given : List ℕ) : Type 0 where
  pub all : bytes ≡ given ++ new.buffer
  pub due : length given + new.body_left ≡ old.body_left
  pub chunked : new.chunked ≡ old.chunked
  pub behind : new.behind ≡ old.behind
  pub room : new.room ≡ old.room

moved : (bytes given kept later piece next : List ℕ) → bytes ≡ given ++ kept → kept ++ later ≡ piece ++ next → bytes ++ later ≡ (given ++ piece) ++ next
moved bytes given kept later piece next all is =
    ap (λ l. l ++ later) all ∙ append_assoc given kept later ∙ ap (λ l. given ++ l) is ∙ sym (append_assoc given piece next)

leads_on : (old new : IntakeState) (bytes given later body rest : List ℕ) (end : BodyEnd) → Moves old new bytes given
    → LeadsTo new (new.buffer ++ later) body end rest → LeadsTo old (bytes ++ later) (given ++ body) end rest
leads_on old new bytes given later body rest end moves (piece, next, contents, is, size, chunks, held) = (
  given ++ piece,
  next,
  contents,
  moved bytes given new.buffer later piece next moves.all is,
  omega (arith, size, moves.due, length-append given piece),
  subst₂ (λ b r. AreChunks b r next contents end rest) moves.behind moves.room chunks,
  ap (λ l. given ++ l) held ∙ sym (append_assoc given piece (content_of contents)),
)

left_on : (b : Bool) (old new : IntakeState) (bytes given later body rest : List ℕ) → Moves old new bytes given
    → IsLeftBy b new (new.buffer ++ later) body rest → IsLeftBy b old (bytes ++ later) (given ++ body) rest
left_on false old new bytes given later body rest moves (is, size) =
    (moved bytes given new.buffer later body rest moves.all is, omega (arith, size, moves.due, length-append given body))
left_on true old new bytes given later body rest moves left = leads_on old new bytes given later body rest End.Whole moves left

few_on : (old new : IntakeState) (bytes given later : List ℕ) → Moves old new bytes given → length (new.buffer ++ later) < new.body_left → length (bytes ++ later) < old.body_left
few_on old new bytes given later moves few =
    omega (arith, few, moves.due, ap length moves.all, length-append given new.buffer, length-append new.buffer later, length-append bytes later)

broken_on : (b : Bool) (old new : IntakeState) (bytes given later : List ℕ) (why : BodyEnd) → Moves old new bytes given
    → IsBrokenBy b new (new.buffer ++ later) why → IsBrokenBy b old (bytes ++ later) why
broken_on false old new bytes given later why moves (is, few) = (is, few_on old new bytes given later moves few)
broken_on true old new bytes given later why moves (inl (is, few)) = inl (is, few_on old new bytes given later moves few)
broken_on true old new bytes given later why moves (inr (piece, next, contents, rest, is, size, chunks, other)) =
    let body = piece ++ content_of contents in
    broken_by old (bytes ++ later) (given ++ body) rest why (leads_on old new bytes given later body rest why moves (piece, next, contents, is, size, chunks, refl)) other

wrong_on : (b : Bool) (old new : IntakeState) (bytes given later : List ℕ) (why : BodyEnd) (came : List ℕ) → Moves old new bytes given
    → GoesWrongBy b new (new.buffer ++ later) why came → GoesWrongBy b old (bytes ++ later) why (given ++ came)
wrong_on false old new bytes given later why came moves goes = absurd goes
wrong_on true old new bytes given later why came moves (wrong, piece, next, contents, rest, is, size, chunks, held) =
    wrong_by old (bytes ++ later) (given ++ came) rest why wrong (leads_on old new bytes given later came rest why moves (piece, next, contents, is, size, chunks, held))

gives_moved : (old new : IntakeState) (bytes given : List ℕ) → Moves old new bytes given → Gives old new bytes given
gives_moved old new bytes given moves = record {
  whole = λ later body rest left.
      left_on old.chunked old new bytes given later body rest moves (subst (λ b. IsLeftBy b new (new.buffer ++ later) body rest) moves.chunked left);
  broken = λ later why broken.
      broken_on old.chunked old new bytes given later why moves (subst (λ b. IsBrokenBy b new (new.buffer ++ later) why) moves.chunked broken);
  wrong = λ later why came wrong.
      wrong_on old.chunked old new bytes given later why came moves (subst (λ b. GoesWrongBy b new (new.buffer ++ later) why came) moves.chunked wrong);
}

gives_bytes : (before after : Option (List ℕ)) (old new : IntakeState) (out : List ℕ) (n : ℕ) (given : GivesBytes before after old new out n)
    → Gives old new (old.buffer ++ given.more) (take n out)
gives_bytes before after old new out n given =
    gives_moved old new (old.buffer ++ given.more) (take n out)
    (record {
      all = given.bytes;
      due = omega (arith, given.due, length-take-le n out given.fits);
      chunked = given.chunked;
      behind = given.behind;
      room = given.room;
    })

-- ---- a chunk was opened

module _ (old : IntakeState) (all kept : List ℕ) (size : ℕ) (none : old.body_left ≡ 0) (some : 0 < size) (fits : size ≤ old.room)
    (chunk : OpensChunk old.behind all size kept) where
  opens_leads : (later body rest : List ℕ) (end : BodyEnd) → LeadsTo (opened old kept size) (kept ++ later) body end rest → LeadsTo old (all ++ later) body end rest
  opens_leads later body rest end (piece, next, contents, is, length_is, chunks, held) = (
    [],
    all ++ later,
    piece ∷ contents,
    refl,
    sym none,
    (
      next,
      subst₂ (OpensChunk old.behind (all ++ later)) (sym length_is) is (opens_more old.behind all kept later size chunk),
      omega (arith, some, length_is),
      omega (arith, fits, length_is),
      subst (λ n. AreChunks true (old.room - n) next contents end rest) (sym length_is) chunks,
    ),
    held,
  )

  opens_broken : (later : List ℕ) (why : BodyEnd) → IsBrokenBy true (opened old kept size) (kept ++ later) why → IsBrokenBy true old (all ++ later) why
  opens_broken later why (inl (is, few)) =
      let bytes = all ++ later in
      let ends : EndsBody old.behind old.room bytes End.Cut bytes = (inr (size, kept ++ later, opens_more old.behind all kept later size chunk, fits, few), refl) in
      subst (IsBrokenBy true old bytes) (sym is) (broken_by old bytes [] bytes End.Cut (leads_here old bytes End.Cut none ends) (λ e. cc))
  opens_broken later why (inr (piece, next, contents, rest, is, length_is, chunks, other)) =
      let body = piece ++ content_of contents in
      broken_by old (all ++ later) body rest why (opens_leads later body rest why (piece, next, contents, is, length_is, chunks, refl)) other

  opens_wrong : (later : List ℕ) (why : BodyEnd) (came : List ℕ) → GoesWrongBy true (opened old kept size) (kept ++ later) why came → GoesWrongBy true old (all ++ later) why came
  opens_wrong later why came (wrong, piece, next, contents, rest, is, length_is, chunks, held) =
      wrong_by old (all ++ later) came rest why wrong (opens_leads later came rest why (piece, next, contents, is, length_is, chunks, held))

-- ---- the body has ended

pub empty_of : (bytes : List ℕ) → length bytes ≡ 0 → bytes ≡ []
empty_of [] e = refl
empty_of (b ∷ bytes) e = absurd (cc)

trailers_more : (bytes rest more : List ℕ) → BeginsWithTrailers bytes rest → BeginsWithTrailers (bytes ++ more) (rest ++ more)
trailers_more bytes rest more trailers = (trailers.0, begins_more Fresh TRAILER_LIMIT bytes trailers.0 rest more trailers.1, trailers.2)

ends_left : (old : IntakeState) (all kept after later body rest : List ℕ) → old.body_left ≡ 0 → OpensChunk old.behind all 0 after → BeginsWithTrailers after kept
    → IsLeftBy false (finished old kept) (kept ++ later) body rest → IsLeftBy true old (all ++ later) body rest
ends_left old all kept after later body rest none chunk trailers (is, size) =
    let empty : body ≡ [] = empty_of body (size ∙ none) in
    let left : kept ++ later ≡ rest = is ∙ ap (λ l. l ++ rest) empty in (
      [],
      all ++ later,
      [],
      refl,
      sym none,
      (after ++ later, opens_more old.behind all after later 0 chunk, subst (BeginsWithTrailers (after ++ later)) left (trailers_more after kept later trailers)),
      empty,
    )

ends_broken : (old : IntakeState) (bytes : List ℕ) (why : BodyEnd) (answer : Type 0) → old.body_left ≡ 0 → IsBrokenBy false old bytes why → answer
ends_broken old bytes why answer none (is, few) = absurd (omega (arith, few, none))

-- what a state says of the bytes that are left, and so the one before it, in a body in chunks
from_next : (b : Bool) (P : Bool → IntakeState → Type 0) (Q : Bool → Type 0) (old new next : IntakeState) → old.chunked ≡ true → new ≡ next → next.chunked ≡ b
    → (P b next → Q true) → P new.chunked new → Q old.chunked
from_next b P Q old new next chunked same now step said =
    subst Q (sym chunked) (step (subst (λ c. P c next) now (subst (λ i. P i.chunked i) same said)))

pub gives_opened : (all : List ℕ) (old new : IntakeState) (size : ℕ) → old.chunked ≡ true → old.body_left ≡ 0 → OpensNext all old new size → Gives old new all []
gives_opened all old new size chunked none (inl (some, fits, chunk, same)) =
    let next = opened old new.buffer size in
    record {
      whole = λ later body rest.
          from_next true (λ b i. IsLeftBy b i (new.buffer ++ later) body rest) (λ b. IsLeftBy b old (all ++ later) body rest) old new next chunked same chunked
          (opens_leads old all new.buffer size none some fits chunk later body rest End.Whole);
      broken = λ later why.
          from_next true (λ b i. IsBrokenBy b i (new.buffer ++ later) why) (λ b. IsBrokenBy b old (all ++ later) why) old new next chunked same chunked
          (opens_broken old all new.buffer size none some fits chunk later why);
      wrong = λ later why came.
          from_next true (λ b i. GoesWrongBy b i (new.buffer ++ later) why came) (λ b. GoesWrongBy b old (all ++ later) why came) old new next chunked same chunked
          (opens_wrong old all new.buffer size none some fits chunk later why came);
    }
gives_opened all old new size chunked none (inr (last, (after, chunk, trailers), same)) =
    let next = finished old new.buffer in
    record {
      whole = λ later body rest.
          from_next false (λ b i. IsLeftBy b i (new.buffer ++ later) body rest) (λ b. IsLeftBy b old (all ++ later) body rest) old new next chunked same refl
          (ends_left old all new.buffer after later body rest none chunk trailers);
      broken = λ later why.
          from_next false (λ b i. IsBrokenBy b i (new.buffer ++ later) why) (λ b. IsBrokenBy b old (all ++ later) why) old new next chunked same refl
          (ends_broken next (new.buffer ++ later) why (IsBrokenBy true old (all ++ later) why) none);
      wrong = λ later why came.
          from_next false (λ b i. GoesWrongBy b i (new.buffer ++ later) why came) (λ b. GoesWrongBy b old (all ++ later) why came) old new next chunked same refl
          (λ goes. absurd goes);
    }

-- ---- one call after another

pub gives_none : (intake : IntakeState) → Gives intake intake intake.buffer []
gives_none intake = record { whole = λ later body rest left. left; broken = λ later why broken. broken; wrong = λ later why came wrong. wrong }

-- what two calls leave of what is left, where the first leaves it so
both_calls : (P : IntakeState → List ℕ → List ℕ → Type 0) (old mid : IntakeState) (bytes more later given next body : List ℕ)
    → (P mid (mid.buffer ++ (more ++ later)) (next ++ body) → P old (bytes ++ (more ++ later)) (given ++ (next ++ body)))
    → P mid ((mid.buffer ++ more) ++ later) (next ++ body) → P old ((bytes ++ more) ++ later) ((given ++ next) ++ body)
both_calls P old mid bytes more later given next body first left =
    subst₂ (P old) (sym (append_assoc bytes more later)) (sym (append_assoc given next body))
    (first (subst (λ l. P mid l (next ++ body)) (append_assoc mid.buffer more later) left))

pub gives_trans : (old mid new : IntakeState) (bytes more given next : List ℕ) → Gives old mid bytes given → Gives mid new (mid.buffer ++ more) next
    → Gives old new (bytes ++ more) (given ++ next)
gives_trans old mid new bytes more given next first second = record {
  whole = λ later body rest left.
      both_calls (λ i l g. IsLeft i l g rest) old mid bytes more later given next body (first.whole (more ++ later) (next ++ body) rest)
      (second.whole later body rest left);
  broken = λ later why broken.
      subst (λ l. IsBroken old l why) (sym (append_assoc bytes more later))
      (first.broken (more ++ later) why (subst (λ l. IsBroken mid l why) (append_assoc mid.buffer more later) (second.broken later why broken)));
  wrong = λ later why came wrong.
      both_calls (λ i l g. GoesWrong i l why g) old mid bytes more later given next came (first.wrong (more ++ later) why (next ++ came))
      (second.wrong later why came wrong);
}

-- ---- a call

starved_by : (b : Bool) (old : IntakeState) → old.buffer ≡ [] → 0 < old.body_left → IsBrokenBy b old (old.buffer ++ []) End.Cut
starved_by false old empty due = (refl, omega (arith, due, ap length empty, length-append old.buffer []))
starved_by true old empty due = inl (refl, omega (arith, due, ap length empty, length-append old.buffer []))

pub reads_bytes : (before after : Option (List ℕ)) (old new : IntakeState) (out : List ℕ) (result : Result ℕ IntakeFault)
    → GivesBody before after old new out result → ReadsBody before after old new out result
reads_bytes before after old new out (Ok n) given =
    (given.more, given.read, gives_bytes before after old new out n given, omega (arith, given.due, given.room), given.largest)
reads_bytes before after old new out (Err Fault.OutOfMemory) given = absurd given
reads_bytes before after old new out (Err Fault.ReadFault) (empty, due, read, same) = ([], read, starved_by old.chunked old empty due)
reads_bytes before after old new out (Err Fault.Cut) (empty, due, read, end, same) = ([], read, (starved_by old.chunked old empty due, end))
reads_bytes before after old new out (Err Fault.BadHead) given = absurd given
reads_bytes before after old new out (Err Fault.HeadTooLarge) given = absurd given
reads_bytes before after old new out (Err (Fault.BadFraming b)) given = absurd given
reads_bytes before after old new out (Err Fault.BadChunk) given = absurd given
reads_bytes before after old new out (Err Fault.BodyTooLarge) given = absurd given

cut_here : (old : IntakeState) (bytes : List ℕ) → old.chunked ≡ true → old.body_left ≡ 0 → IsCutChunk old.behind bytes → IsBroken old bytes End.Cut
cut_here old bytes chunked none cut =
    subst (λ b. IsBrokenBy b old bytes End.Cut) (sym chunked) (broken_by old bytes [] bytes End.Cut (leads_here old bytes End.Cut none (inl cut, refl)) (λ e. cc))

wrong_here : (old : IntakeState) (bytes : List ℕ) (why : BodyEnd) → old.chunked ≡ true → old.body_left ≡ 0 → IsWrong why → EndsBody old.behind old.room bytes why bytes
    → GoesWrong old bytes why []
wrong_here old bytes why chunked none wrong ends =
    subst (λ b. GoesWrongBy b old bytes why []) (sym chunked) (wrong_by old bytes [] bytes why wrong (leads_here old bytes why none ends))

no_chunk : (old : IntakeState) (bytes : List ℕ) (ended : Type 0) (fault : IntakeFault) → old.chunked ≡ true → old.body_left ≡ 0
    → HasNoChunk old.behind old.room bytes ended fault → BreaksBody old bytes ended fault
no_chunk old bytes ended Fault.OutOfMemory chunked none found = absurd found
no_chunk old bytes ended Fault.ReadFault chunked none found = cut_here old bytes chunked none found
no_chunk old bytes ended Fault.Cut chunked none found = (cut_here old bytes chunked none found.0, found.1)
no_chunk old bytes ended Fault.BadHead chunked none found = absurd found
no_chunk old bytes ended Fault.HeadTooLarge chunked none found = absurd found
no_chunk old bytes ended (Fault.BadFraming b) chunked none found = absurd found
no_chunk old bytes ended Fault.BadChunk chunked none found = wrong_here old bytes End.BadChunk chunked none tt (found, refl)
no_chunk old bytes ended Fault.BodyTooLarge chunked none found = wrong_here old bytes End.TooLarge chunked none tt (found, refl)

opened_sum : (all : List ℕ) (old new : IntakeState) (size : ℕ) → old.body_left ≡ 0 → OpensNext all old new size → new.body_left + new.room ≡ old.body_left + old.room
opened_sum all old new size none (inl (some, fits, chunk, same)) = omega (arith, none, fits, ap (λ i. i.body_left) same, ap (λ i. i.room) same)
opened_sum all old new size none (inr (last, trailers, same)) = omega (arith, ap (λ i. i.body_left) same, ap (λ i. i.room) same)

same_largest : (all : List ℕ) (old new : IntakeState) (size : ℕ) → OpensNext all old new size → new.largest ≡ old.largest
same_largest all old new size (inl (some, fits, chunk, same)) = ap (λ i. i.largest) same
same_largest all old new size (inr (last, trailers, same)) = ap (λ i. i.largest) same

breaks_back : (old mid : IntakeState) (before more next : List ℕ) (ended : Type 0) (fault : IntakeFault) → Gives old mid (before ++ more) []
    → BreaksBody mid (mid.buffer ++ next) ended fault → BreaksBody old (before ++ (more ++ next)) ended fault
breaks_back old mid before more next ended Fault.OutOfMemory gives broken = absurd broken
breaks_back old mid before more next ended Fault.ReadFault gives broken = subst (λ l. IsBroken old l End.Cut) (append_assoc before more next) (gives.broken next End.Cut broken)
breaks_back old mid before more next ended Fault.Cut gives broken =
    (subst (λ l. IsBroken old l End.Cut) (append_assoc before more next) (gives.broken next End.Cut broken.0), broken.1)
breaks_back old mid before more next ended Fault.BadHead gives broken = absurd broken
breaks_back old mid before more next ended Fault.HeadTooLarge gives broken = absurd broken
breaks_back old mid before more next ended (Fault.BadFraming b) gives broken = absurd broken
breaks_back old mid before more next ended Fault.BadChunk gives broken =
    subst (λ l. GoesWrong old l End.BadChunk []) (append_assoc before more next) (gives.wrong next End.BadChunk [] broken)
breaks_back old mid before more next ended Fault.BodyTooLarge gives broken =
    subst (λ l. GoesWrong old l End.TooLarge []) (append_assoc before more next) (gives.wrong next End.TooLarge [] broken)

-- the next chunk was opened, and then its first bytes were given or not
reads_on : (before middle after : Option (List ℕ)) (old mid new : IntakeState) (out : List ℕ) (size : ℕ) (result : Result ℕ IntakeFault) → old.chunked ≡ true → old.body_left ≡ 0
    → OpensBody before middle old mid (Ok size) → ReadsBody middle after mid new out result → ReadsBody before after old new out result
reads_on before middle after old mid new out size (Ok n) chunked none (more, read, opens) (next, then, gives, sum, kept) =
    let first = gives_opened (old.buffer ++ more) old mid size chunked none opens in (
      more ++ next,
      Consumes-trans before middle after more next read then,
      subst (λ l. Gives old new l (take n out)) (append_assoc old.buffer more next) (gives_trans old mid new (old.buffer ++ more) next [] (take n out) first gives),
      omega (arith, sum, opened_sum (old.buffer ++ more) old mid size none opens),
      kept ∙ same_largest (old.buffer ++ more) old mid size opens,
    )
reads_on before middle after old mid new out size (Err fault) chunked none (more, read, opens) (next, then, broken) = (
  more ++ next,
  Consumes-trans before middle after more next read then,
  breaks_back old mid old.buffer more next (IsAtEnd after) fault (gives_opened (old.buffer ++ more) old mid size chunked none opens) broken,
)

pub reads_chunk : (before after : Option (List ℕ)) (old new : IntakeState) (out : List ℕ) (result : Result ℕ IntakeFault) → old.chunked ≡ true → old.body_left ≡ 0
    → GivesChunk before after old new out result → ReadsBody before after old new out result
reads_chunk before after old new out result chunked none (inl (size, middle, mid, some, opens, given)) =
    reads_on before middle after old mid new out size result chunked none opens (reads_bytes middle after mid new out result given)
reads_chunk before after old new out result chunked none (inr (inl (is, (more, read, opens)))) =
    let sum : 0 + (new.body_left + new.room) ≡ old.body_left + old.room = omega (arith, opened_sum (old.buffer ++ more) old new 0 none opens) in
    subst (ReadsBody before after old new out) (sym is) (more, read, gives_opened (old.buffer ++ more) old new 0 chunked none opens, sum, same_largest (old.buffer ++ more) old new 0 opens)
reads_chunk before after old new out result chunked none (inr (inr (fault, is, (more, read, found, same)))) =
    subst (ReadsBody before after old new out) (sym is) (more, read, no_chunk old (old.buffer ++ more) (IsAtEnd after) fault chunked none found)
