-- Every input is a stream of calls, whichever of the bodies that are waited for are left. What a text says is not decided for
-- that: whichever it is, the input is one.
use Rattle.std.proofs.Common.{◌≡◌, ◌≢◌, inl, inr, ℕ, zero, suc, ◌-◌, ◌<◌, ◌≤◌, Bool, true, false, List, [], ◌∷◌, ◌++◌, length, take, drop, ◌∙◌, append_assoc, Option, Some, None, refl, sym, ap, subst, subst₂, arith, take-append-drop, length-take-le, length-append}
use Rattle.std.specs.Prelude.{MatchBool}
use Rattle.std.proofs.lemmas.Bool.{cases_lt}
use Rattle.std.proofs.lemmas.List.{length-take, take-take, take_all}
use Rattle.http_chunks.specs.declared.body.BodyEnd.{BodyEnd}
use Rattle.http_chunks.specs.declared.body.BodyEnd.TheVariants as Body
use Rattle.http_chunks.specs.declared.place.Place.{Place}
use Rattle.http_chunks.specs.declared.place.Place.TheVariants.{Fresh}
use Rattle.http_chunks.specs.declared.place.TextEnd.{TextEnd}
use Rattle.http_chunks.specs.declared.place.TextEnd.TheVariants.{Here, Later}
use Rattle.http_chunks.specs.declared.trailers.TheConstants.{TRAILER_LIMIT}
use Rattle.http_chunks.specs.Scans.{scan_from, IsOpen, BeginsWithText as BeginsText, opening_start}
use Rattle.http_chunks.specs.Chunks.{opening_limit, OpensChunk, AreChunks, content_of}
use Rattle.http_chunks.proofs.Scanning.{begins_at}
use Rattle.http_intake.specs.Grammar.{IsBodyOf, HasNoBody, HasWrongBody}
use Rattle.http_model.specs.declared.head.Framing.{Framing}
use Rattle.http_model.specs.declared.head.Framing.TheVariants.{Empty, Length, Chunked}
use Rattle.http_model.specs.declared.head.Head.{Head}
use Rattle.http_model.specs.declared.reading.TheConstants.{HEAD_LIMIT}
use Rattle.http_model.specs.declared.reply.BadRequest.{BadRequest}
use Rattle.http_model.specs.declared.reply.BadRequest.TheVariants as Word
use Rattle.http_model.specs.Forms.{is_bodiless}
use Rattle.http_model.specs.Heads.{skip_breaks, EndsIn, EndsHead, IsHeadText, HasNoHeadText, IsTree, framing_in, head_of, BeginsWithText, BeginsWith}
use Rattle.http_model.specs.Streams.{IsBlank, IsCutHead, BreaksGrammar}
use Rattle.http_model.proofs.PlainLemmas.{begun_not_blank}
use Rattle.http_model.proofs.StreamLaws.{one_head}
use Rattle.swift_auth.specs.Users.{UserView}
use Rattle.swift_requests.specs.Bodies.{is_unread, is_awaited}
use Rattle.swift_requests.specs.declared.body.BodyUse.{BodyUse}
use Rattle.swift_requests.specs.declared.body.BodyUse.TheVariants.{Fed, Awaited, Dropped, Unread}
use Rattle.call_words.specs.Bodies.{read_whole, broken_off, unread, IsWrong, Suits}
use Rattle.call_words.specs.Streams.{use_of, form_of, CallsEnd, at_clean, at_close, at_cut, at_bad, Taken, TakesCall, IsCutBody, IsCutRequest, IsEnd, IsStreamFrom, AreLeft}
use Rattle.call_words.proofs.Reading.{Agrees, one_call, AreLeftAs}

-- ---- the text of a head, or none

-- the bytes begin with the text of a head
abbrev HasText : List ℕ → Type 0
HasText bytes = (text : List ℕ) × (rest : List ℕ) × BeginsWithText bytes text rest

-- none of the first fronts ends a head
abbrev NoneBelow : List ℕ → ℕ → Type 0
NoneBelow bytes len = (n : ℕ) → n < len → ¬ (EndsHead (take n bytes))

first_end : (bytes : List ℕ) (len : ℕ) → len ≤ length bytes → NoneBelow bytes len → EndsHead (take len bytes) → IsHeadText (take len bytes)
first_end bytes len inside before here =
    let long = length-take-le len bytes inside in
    record {
      ends = here;
      first = λ n h.
          let below : n < len = omega (arith, long, h) in
          subst (λ (text : List ℕ). ¬ (EndsHead text)) (sym (take-take n len bytes (omega arith))) (before n below);
    }

front_ends : (bytes : List ℕ) (n : ℕ) → ¬ (HasText bytes) → n ≤ length bytes → n ≤ HEAD_LIMIT → NoneBelow bytes n → ¬ (EndsHead (take n bytes))
front_ends bytes n none inside fits before ends =
    none (
      take n bytes,
      drop n bytes,
      record {
        is_text = first_end bytes n inside before ends;
        fits = omega (arith, fits, length-take-le n bytes inside);
        whole = sym (take-append-drop n bytes);
      },
    )

no_front_ends : (bytes : List ℕ) (n : ℕ) → ¬ (HasText bytes) → n ≤ length bytes → n ≤ HEAD_LIMIT → NoneBelow bytes n
no_front_ends bytes zero none inside fits m below ends = omega (arith, below)
no_front_ends bytes (suc n) none inside fits m below ends =
    let before = no_front_ends bytes n none (omega (arith, inside)) (omega (arith, fits)) in
    elim (cases_lt m n) [
      | inl lower ↦ before m lower ends
      | inr upper ↦
          let same : m ≡ n = omega (arith, below, upper) in
          front_ends bytes n none (omega (arith, inside)) (omega (arith, fits)) before (subst (λ i. EndsHead (take i bytes)) same ends)
    ]

none_at_all : (bytes : List ℕ) (len : ℕ) → length bytes ≤ len → NoneBelow bytes len → ¬ (EndsHead (take len bytes)) → HasNoHeadText bytes
none_at_all bytes len end before here n =
    elim (cases_lt n len) [
      | inl below ↦ before n below
      | inr above ↦
          subst (λ (text : List ℕ). ¬ (EndsHead text)) (take_all len bytes end ∙ sym (take_all n bytes (omega (arith, end, above)))) here
    ]

no_text_within : (bytes : List ℕ) → length bytes ≤ HEAD_LIMIT → ¬ (HasText bytes) → HasNoHeadText bytes
no_text_within bytes short none =
    let below = no_front_ends bytes (length bytes) none (omega arith) short in
    none_at_all bytes (length bytes) (omega arith) below (front_ends bytes (length bytes) none (omega arith) short below)

text_of_front : (bytes : List ℕ) (n : ℕ) → HasText (take n bytes) → HasText bytes
text_of_front bytes n (text, rest, begins) = (
  text,
  rest ++ drop n bytes,
  record {
    is_text = begins.is_text;
    fits = begins.fits;
    whole = sym (take-append-drop n bytes) ∙ ap (λ l. l ++ drop n bytes) begins.whole ∙ append_assoc text rest (drop n bytes);
  },
)

no_text : (bytes : List ℕ) → ¬ (HasText bytes) → HasNoHeadText (take HEAD_LIMIT bytes)
no_text bytes none =
    no_text_within (take HEAD_LIMIT bytes) (omega (arith, length-take HEAD_LIMIT bytes)) (λ text. none (text_of_front bytes HEAD_LIMIT text))

-- a head is not empty
ends_in_some : (bytes last : List ℕ) → EndsIn bytes last → length last ≤ length bytes
ends_in_some bytes last (front, is) = omega (arith, ap length is, length-append front last)

head_has_bytes : (text : List ℕ) → EndsHead text → 0 < length text
head_has_bytes [] (inl ends) = omega (arith, ends_in_some [] (10 ∷ 10 ∷ []) ends)
head_has_bytes [] (inr ends) = omega (arith, ends_in_some [] (10 ∷ 13 ∷ 10 ∷ []) ends)
head_has_bytes (b ∷ text) ends = omega arith

begun_has_bytes : (bytes text rest : List ℕ) → BeginsWithText bytes text rest → length rest < length bytes
begun_has_bytes bytes text rest begins =
    let some = head_has_bytes text begins.is_text.ends in
    omega (arith, some, ap length begins.whole, length-append text rest)

-- ---- a head, or an end without one

module _ (bytes : List ℕ) (blank : ¬ (IsBlank bytes)) (cut : ¬ ((skip_breaks bytes ≢ []) × IsCutHead bytes)) (bad : (word : BadRequest) (bodiless : Bool) → ¬ (BreaksGrammar bytes word bodiless)) where
  blank_or_cut : (left : List ℕ) → length bytes ≤ HEAD_LIMIT → HasNoHeadText (take HEAD_LIMIT bytes) → skip_breaks bytes ≡ left → ⊥
  blank_or_cut [] short none is = blank (short, is)
  blank_or_cut (b ∷ left) short none is =
      cut (
        (λ empty. let clash : ◌∷◌ b left ≡ [] = sym is ∙ empty in absurd (cc)),
        (short, subst (λ (front : List ℕ). HasNoHeadText front) (take_all HEAD_LIMIT bytes short) none),
      )

  without_text : ¬ (HasText bytes) → ⊥
  without_text none =
      let empty = no_text bytes none in
      elim (cases_lt HEAD_LIMIT (length bytes)) [
        | inl long ↦ bad Word.Size false ((long, empty), refl)
        | inr short ↦ blank_or_cut (skip_breaks bytes) short empty refl
      ]

  module _ (headed : (head : Head) (after : List ℕ) → ¬ (BeginsWith bytes head after)) where
    framed : (text rest : List ℕ) (tree : _) (framing : Option Framing) → BeginsWithText bytes text rest → IsTree text tree → framing_in tree ≡ framing → ⊥
    framed text rest tree None begins is_tree is = bad Word.Framing (is_bodiless tree.method) (text, rest, begins, tree, is_tree, is, refl)
    framed text rest tree (Some framing) begins is_tree is =
        headed (head_of tree framing) rest (text, begins, record { tree = tree; is_tree = is_tree; framed = is; head_is = refl })

    with_text : ¬ (HasText bytes)
    with_text (text, rest, begins) = bad Word.Head false ((text, rest, begins, λ tree is_tree. framed text rest tree (framing_in tree) begins is_tree refl), refl)

    some_head : ⊥
    some_head = without_text with_text

-- ---- texts that a scan ends

texted : (place : Place) (limit : ℕ) (bytes : List ℕ) → ¬ ((length bytes ≤ limit) × IsOpen place bytes) → ¬ ((limit < length bytes) × IsOpen place (take limit bytes))
    → ((text rest : List ℕ) → ¬ (BeginsText place limit bytes text rest)) → ⊥
texted place limit bytes cut long begins = by_scan (scan_from place 0 (take limit bytes)) refl
  where
    by_scan : (end : TextEnd) → scan_from place 0 (take limit bytes) ≡ end → ⊥
    by_scan (Here m) is = let front = begins_at place limit limit m bytes (omega arith) is in begins front.0 front.1 front.2
    by_scan (Later next) is =
        elim (cases_lt limit (length bytes)) [
          | inl many ↦ long (many, (next, is))
          | inr few ↦ cut (few, (next, subst (λ l. scan_from place 0 l ≡ Later next) (take_all limit bytes few) is))
        ]

-- ---- chunks

-- no list of chunks with an end is the bytes
abbrev NoChunks : Bool → ℕ → List ℕ → Type 0
NoChunks behind room bytes = (contents : List (List ℕ)) (end : BodyEnd) (rest : List ℕ) → length rest ≤ length bytes → ¬ (AreChunks behind room bytes contents end rest)

-- shorter bytes are chunks
abbrev ShorterChunks : ℕ → Type 0
ShorterChunks size = (behind : Bool) (room : ℕ) (bytes : List ℕ) → length bytes < size → ¬ (NoChunks behind room bytes)

module _ (behind : Bool) (room : ℕ) (bytes : List ℕ) (shorter : ShorterChunks (length bytes)) (none : NoChunks behind room bytes) where
  trailed : (after : List ℕ) → length after ≤ length bytes → OpensChunk behind bytes 0 after → ⊥
  trailed after inside opens =
      texted Fresh TRAILER_LIMIT after
      (λ cut. none [] Body.Cut bytes (omega arith) (inl (inr (after, opens, cut)), refl))
      (λ long. none [] Body.BadChunk bytes (omega arith) (inr (inr (after, opens, inl long)), refl))
      (λ text rest begins.
      none [] Body.BadChunk bytes (omega arith) (
        inr (inr (
          after,
          opens,
          inr (
            text,
            rest,
            begins,
            λ trailers.
                none [] Body.Whole rest (omega (arith, inside, ap length begins.whole, length-append text rest)) (after, opens, (text, begins, trailers)),
          ),
        )),
        refl,
      ))

  held : (n : ℕ) (after : List ℕ) → length after ≤ length bytes → OpensChunk behind bytes (suc n) after → suc n ≤ room → suc n ≤ length after → ⊥
  held n after inside opens fits whole =
      let content = take (suc n) after in
      let next = drop (suc n) after in
      let both : content ++ next ≡ after = take-append-drop (suc n) after in
      let size : length content ≡ suc n = length-take-le (suc n) after whole in
      let sum = length-append content next in
      let less : length next < length bytes = omega (arith, inside, size, sum, ap length both) in
      let chunk : OpensChunk behind bytes (length content) (content ++ next) = subst₂ (λ m l. OpensChunk behind bytes m l) (sym size) (sym both) opens in
      shorter true (room - length content) next less (λ contents end rest short chunks.
      none (content ∷ contents) end rest (omega (arith, short, less)) (next, chunk, omega (arith, size), omega (arith, size, fits), chunks))

  opened : (size : ℕ) (after : List ℕ) → length after ≤ length bytes → OpensChunk behind bytes size after → ⊥
  opened zero after inside opens = trailed after inside opens
  opened (suc n) after inside opens =
      elim (cases_lt room (suc n)) [
        | inl large ↦ none [] Body.TooLarge bytes (omega arith) ((suc n, after, opens, large), refl)
        | inr fits ↦ elim (cases_lt (length after) (suc n)) [
          | inl short ↦ none [] Body.Cut bytes (omega arith) (inr (suc n, after, opens, fits, short), refl)
          | inr whole ↦ held n after inside opens fits whole
        ]
      ]

  first_chunk : ⊥
  first_chunk =
      texted (opening_start behind) (opening_limit behind) bytes
      (λ cut. none [] Body.Cut bytes (omega arith) (inl (inl cut), refl))
      (λ long. none [] Body.BadChunk bytes (omega arith) (inl long, refl))
      (λ text rest begins.
      none [] Body.BadChunk bytes (omega arith)
      (inr (inl (text, rest, begins, λ size says. opened size rest (omega (arith, ap length begins.whole, length-append text rest)) (text, begins, says))), refl))

chunks_up_to : (size : ℕ) → ShorterChunks size
chunks_up_to zero behind room bytes short none = omega (arith, short)
chunks_up_to (suc size) behind room bytes short none =
    first_chunk behind room bytes (λ b r l less. chunks_up_to size b r l (omega (arith, short, less))) none

-- ---- a body

bodied : (largest : ℕ) (framing : Framing) (after : List ℕ) → ((body rest : List ℕ) → length rest ≤ length after → ¬ (IsBodyOf largest framing after body rest))
    → ((why : BodyEnd) (came : List ℕ) → IsWrong why → ¬ (HasWrongBody largest framing after why came)) → ¬ (HasNoBody largest framing after Body.Cut) → ⊥
bodied largest Empty after whole wrong cut = whole [] after (omega arith) (refl, refl)
bodied largest (Length n) after whole wrong cut =
    elim (cases_lt (length after) n) [
      | inl short ↦ cut (refl, short)
      | inr long ↦
          let both : take n after ++ drop n after ≡ after = take-append-drop n after in
          whole (take n after) (drop n after) (omega (arith, ap length both, length-append (take n after) (drop n after))) (sym both, length-take-le n after long)
    ]
bodied largest Chunked after whole wrong cut =
    chunks_up_to (suc (length after)) false largest after (omega arith) by_end
  where
    by_end : NoChunks false largest after
    by_end contents Body.Whole rest inside chunks = whole (content_of contents) rest inside (contents, chunks, refl)
    by_end contents Body.Cut rest inside chunks = cut ((λ is. cc), contents, rest, chunks)
    by_end contents Body.BadChunk rest inside chunks = wrong Body.BadChunk (content_of contents) tt (tt, contents, rest, chunks, refl)
    by_end contents Body.TooLarge rest inside chunks = wrong Body.TooLarge (content_of contents) tt (tt, contents, rest, chunks, refl)

-- ---- a request

read_suits : (plan : BodyUse) → is_unread plan ≡ false → Suits plan read_whole
read_suits Fed is = tt
read_suits Awaited is = tt
read_suits Dropped is = tt
read_suits Unread is = absurd (cc)

wrong_suits : (plan : BodyUse) (why : BodyEnd) → is_unread plan ≡ false → IsWrong why → Suits plan (broken_off why)
wrong_suits Fed why is wrong = wrong
wrong_suits Awaited why is wrong = wrong
wrong_suits Dropped why is wrong = wrong
wrong_suits Unread why is wrong = absurd (cc)

cut_request : (largest : ℕ) (users : List UserView) (bytes : List ℕ) (continued : Bool) → IsCutBody largest users bytes continued → IsCutRequest largest users bytes continued
cut_request largest users bytes true cut = cut
cut_request largest users bytes false cut = inr cut

module _ (says : ℕ → Head → Bool) (largest : ℕ) (users : List UserView) where
  -- what follows the kth request, by whether its reply closes the connection
  abbrev Follows : ℕ → List ℕ → List Taken → CallsEnd → Bool → Type 0
  Follows k rest ms e closed = MatchBool closed ((ms ≡ []) × (e ≡ at_close)) (IsStreamFrom largest users (suc k) rest ms e)

  -- no list of requests with an end is the stream
  abbrev HasNone : ℕ → List ℕ → Type 0
  HasNone k bytes = (requests : List Taken) (end : CallsEnd) → IsStreamFrom largest users k bytes requests end → ¬ (AreLeftAs says largest users k bytes requests end)

  -- a shorter input is a stream, whichever request of a connection is its first
  abbrev ShorterAre : ℕ → Type 0
  ShorterAre size = (k : ℕ) (bytes : List ℕ) → length bytes < size → ¬ (HasNone k bytes)

  module _ (k : ℕ) (bytes : List ℕ) (none : HasNone k bytes) (shorter : ShorterAre (length bytes)) where
    taken : (t : Taken) (rest : List ℕ) (closed : Bool) → length rest < length bytes → Agrees largest users (says k t.request.head) t → TakesCall largest users bytes t rest → (form_of k t.request.head t.fate).close ≡ closed → ⊥
    taken t rest true less agrees takes is =
        none (t ∷ []) at_close
        (rest, takes, subst (Follows k rest [] at_close) (sym is) (refl, refl))
        (agrees, λ other also stays. let clash : true ≡ false = sym is ∙ stays in absurd (cc))
    taken t rest false less agrees takes is =
        shorter (suc k) rest less (λ requests end stream left.
        none (t ∷ requests) end
        (rest, takes, subst (Follows k rest requests end) (sym is) stream) (
          agrees,
          λ other also stays.
              subst (λ l. AreLeftAs says largest users (suc k) l requests end) (one_call largest users bytes (says k t.request.head) t t rest other agrees agrees takes also).1 left,
        ))

    module _ (head : Head) (after : List ℕ) (begins : BeginsWith bytes head after) where
      abbrev plan : BodyUse
      plan = use_of largest users head

      less : length after < length bytes
      less = begun_has_bytes bytes begins.0 after begins.1

      -- the body is left
      left_there : Suits plan unread → (is_awaited plan ≡ true → true ≡ says k head) → ⊥
      left_there suits agrees =
          taken (record { request = record { head = head; body = [] }; fate = unread }) after (form_of k head unread).close less agrees
          (record { after = after; head = begins; suits = suits; body = (refl, refl) }) refl

      -- it is read
      read_there : is_unread plan ≡ false → (is_awaited plan ≡ true → says k head ≡ false) → ⊥
      read_there is_read kept =
          bodied largest head.framing after
          (λ body rest inside whole.
          taken (record { request = record { head = head; body = body }; fate = read_whole }) rest (form_of k head read_whole).close (omega (arith, inside, less)) (λ awaits. sym (kept awaits))
          (record { after = after; head = begins; suits = read_suits plan is_read; body = whole }) refl)
          (λ why came wrong goes.
          taken (record { request = record { head = head; body = came }; fate = broken_off why }) after (form_of k head (broken_off why)).close less (λ awaits. sym (kept awaits))
          (record { after = after; head = begins; suits = wrong_suits plan why is_read wrong; body = (goes, refl) }) refl)
          (λ cut.
          none [] (at_cut (is_awaited plan))
          (begun_not_blank bytes begins.0 after begins.1, cut_request largest users bytes (is_awaited plan) (head, after, begins, is_read, refl, cut))
          (λ other behind starts is.
          let same = one_head bytes head other after behind begins starts in
          let awaits : is_awaited plan ≡ true = cc in
          ap (says k) (sym same.0) ∙ kept awaits))

      planned : (p : BodyUse) → plan ≡ p → (left : Bool) → says k head ≡ left → ⊥
      planned Fed is left said = read_there (ap is_unread is) (λ awaits. let clash : false ≡ true = sym (ap is_awaited is) ∙ awaits in absurd (cc))
      planned Awaited is true said = left_there (subst (λ p. Suits p unread) (sym is) tt) (λ awaits. sym said)
      planned Awaited is false said = read_there (ap is_unread is) (λ awaits. said)
      planned Dropped is left said = read_there (ap is_unread is) (λ awaits. let clash : false ≡ true = sym (ap is_awaited is) ∙ awaits in absurd (cc))
      planned Unread is left said = left_there (subst (λ p. Suits p unread) (sym is) tt) (λ awaits. let clash : false ≡ true = sym (ap is_awaited is) ∙ awaits in absurd (cc))

    cut_head_ends : (skip_breaks bytes ≢ []) × IsCutHead bytes → IsEnd largest users bytes (at_cut false)
    cut_head_ends (some, cut) = (some, inl cut)

    some_stream : ⊥
    some_stream =
        some_head bytes
        (λ blank. none [] at_clean blank (λ head after begins is. absurd (cc)))
        (λ cut. none [] (at_cut false) (cut_head_ends cut) (λ head after begins is. absurd (cc)))
        (λ word bodiless bad. none [] (at_bad word bodiless) bad (λ head after begins is. absurd (cc)))
        (λ head after begins. planned head after begins (use_of largest users head) refl (says k head) refl)

  up_to : (size : ℕ) → ShorterAre size
  up_to zero k bytes short none = omega (arith, short)
  up_to (suc size) k bytes short none = some_stream k bytes none (λ j rest less. up_to size j rest (omega (arith, short, less)))

  pub every_input : (k : ℕ) (bytes : List ℕ) → ¬ (HasNone k bytes)
  every_input k bytes = up_to (suc (length bytes)) k bytes (omega arith)

-- ---- where the place alone says which bodies are left

module _ (left : ℕ → Bool) (largest : ℕ) (users : List UserView) where
  cut_says : (k : ℕ) (bytes : List ℕ) (end : CallsEnd) → end ≡ at_cut true → IsEnd largest users bytes (at_cut true) → AreLeftAs (λ k head. left k) largest users k bytes [] end → left k ≡ false
  cut_says k bytes end is (some, (head, after, begins, read, awaits, cut)) says = says head after begins is

  behind_says : (k : ℕ) (closed : Bool) (rest : List ℕ) (ms : List Taken) (end : CallsEnd) → (IsStreamFrom largest users k rest ms end → AreLeftAs (λ k head. left k) largest users k rest ms end → AreLeft left largest users k ms end)
      → MatchBool closed ((ms ≡ []) × (end ≡ at_close)) (IsStreamFrom largest users k rest ms end) → (closed ≡ false → AreLeftAs (λ k head. left k) largest users k rest ms end) → AreLeft left largest users k ms end
  behind_says k true rest [] end further after says = λ is. let clash : at_close ≡ at_cut true = sym after.1 ∙ is in absurd (cc)
  behind_says k true rest (m ∷ ms) end further after says = let clash : ◌∷◌ m ms ≡ [] = after.0 in absurd (cc)
  behind_says k false rest ms end further after says = further after (says refl)

  place_says : (k : ℕ) (bytes : List ℕ) (ms : List Taken) (end : CallsEnd) → IsStreamFrom largest users k bytes ms end → AreLeftAs (λ k head. left k) largest users k bytes ms end → AreLeft left largest users k ms end
  place_says k bytes [] end stream says = λ is. cut_says k bytes end is (subst (IsEnd largest users bytes) is stream) says
  place_says k bytes (m ∷ ms) end (rest, takes, after) says =
      (says.0, behind_says (suc k) (form_of k m.request.head m.fate).close rest ms end (place_says (suc k) rest ms end) after (says.1 rest takes))

pub every_stream : (left : ℕ → Bool) (largest : ℕ) (users : List UserView) (k : ℕ) (bytes : List ℕ) → ¬ ((requests : List Taken) (end : CallsEnd) → IsStreamFrom largest users k bytes requests end → ¬ (AreLeft left largest users k requests end))
every_stream left largest users k bytes none =
    every_input (λ k head. left k) largest users k bytes (λ requests end stream says. none requests end stream (place_says left largest users k bytes requests end stream says))
