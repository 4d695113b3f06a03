-- What became of a body, and what it makes of a reply.
use Rattle.std.proofs.Common.{◌≡◌, ◌≢◌, inl, inr, ℕ, Bool, true, false, cond, ◌||◌, List, [], ◌∷◌, ◌++◌, length, Option, refl, sym, ap, ◌∙◌, subst, subst₂, append-nil, arith}
use Rattle.std.specs.Io.KnownBytes.{Consumes}
use Rattle.http_chunks.specs.declared.body.BodyEnd.{BodyEnd}
use Rattle.http_chunks.specs.declared.body.BodyEnd.TheVariants as End
use Rattle.http_chunks.specs.Chunks.{AreChunks, content_of}
use Rattle.http_intake.specs.Grammar.{IsBodyOf, HasNoBody, IsLeft, IsLeftBy, IsBroken, IsBrokenBy}
use Rattle.http_intake.proofs.WrongBodies.{wrong_body}
use Rattle.http_intake.specs.Intake.{IntakeState, is_in_chunks}
use Rattle.http_model.specs.declared.head.Framing.{Framing}
use Rattle.http_model.specs.declared.head.Framing.TheVariants.{Empty, Length, Chunked}
use Rattle.http_model.specs.declared.head.Head.{Head}
use Rattle.http_model.specs.declared.reply.ReplyForm.{ReplyForm}
use Rattle.http_model.specs.Forms.{content_length, waits}
use Rattle.swift_reply.specs.declared.reply.SwiftRefusal.{SwiftRefusal}
use Rattle.swift_reply.specs.declared.reply.SwiftRefusal.TheVariants as why
use Rattle.swift_requests.specs.Bodies.{body_use, unwanted, is_unread, is_awaited, closes}
use Rattle.swift_requests.specs.declared.asked.Asked.{Asked}
use Rattle.swift_requests.specs.declared.asked.Asked.TheVariants.{Refused, Put, Unfed}
use Rattle.swift_requests.specs.declared.body.BodyUse.{BodyUse}
use Rattle.swift_requests.specs.declared.body.BodyUse.TheVariants.{Fed, Awaited, Dropped, Unread}
use Rattle.task_words.specs.declared.outcome.Outcome.TheVariants.{BodyFailed}
use Rattle.call_words.specs.Bodies.{Fate, read_whole, broken_off, unread, is_left, is_broken, IsWrong, Suits, IsBehind}
use Rattle.call_words.specs.Ends.{TaskEnd, on_object, body_failed}
use Rattle.call_words.specs.Calls.{alone as by_itself, task, text_by, is_waiting, IsByHead}
use Rattle.call_words.specs.Texts.{continue_if}
use Rattle.call_service.specs.Serving.{form_at}
use Rattle.gateway.specs.Texts.{is_failing}
use Rattle.gateway.specs.Requests.{IsBehindHead, TakesBody}

-- ---- uses

pub suits_read : (plan : BodyUse) → is_unread plan ≡ false → Suits plan read_whole
suits_read Fed is = tt
suits_read Awaited is = tt
suits_read Dropped is = tt
suits_read Unread is = absurd (cc)

pub suits_broken : (plan : BodyUse) (why : BodyEnd) → is_unread plan ≡ false → IsWrong why → Suits plan (broken_off why)
suits_broken Fed why is wrong = wrong
suits_broken Awaited why is wrong = wrong
suits_broken Dropped why is wrong = wrong
suits_broken Unread why is wrong = absurd (cc)

pub read_suits : (plan : BodyUse) (why : BodyEnd) → Suits plan (broken_off why) → is_unread plan ≡ false
read_suits Fed why suits = refl
read_suits Awaited why suits = refl
read_suits Dropped why suits = refl
read_suits Unread why suits = absurd suits

-- ---- forms

-- the form of a reply behind a body of a fate that suits its use
pub form_suits : (bodiless : Bool) (k : ℕ) (head : Head) (plan : BodyUse) (fate : Fate) → Suits plan fate
    → form_at (record { bodiless = bodiless; close = closes k head (is_unread plan) }) fate ≡ record { bodiless = bodiless; close = closes k head (is_left fate) }
unfolding closes
form_suits bodiless k head Fed read_whole suits = refl
form_suits bodiless k head Awaited read_whole suits = refl
form_suits bodiless k head Dropped read_whole suits = refl
form_suits bodiless k head Unread read_whole suits = absurd suits
form_suits bodiless k head plan (broken_off why) suits = refl
form_suits bodiless k head plan unread suits = refl

-- where some of it is left, the connection is closed
pub left_closes : (k : ℕ) (head : Head) → closes k head true ≡ true
unfolding closes
left_closes k head = refl

or_left : (a b : Bool) → (a || b) ≡ false → a ≡ false
or_left true b e = absurd (cc)
or_left false b e = refl

-- where it is not, none is
pub open_whole : (k : ℕ) (head : Head) (fate : Fate) → closes k head (is_left fate) ≡ false → fate ≡ read_whole
unfolding closes
open_whole k head read_whole e = refl
open_whole k head (broken_off why) e = absurd (cc)
open_whole k head unread e = absurd (cc)

pub shut_closes : (form : ReplyForm) (fate : Fate) → form.close ≡ true → (form_at form fate).close ≡ true
shut_closes form read_whole is = is
shut_closes form (broken_off why) is = refl
shut_closes form unread is = refl

pub shut_same : (form : ReplyForm) → form.close ≡ true → form ≡ record form { close = true }
shut_same form is = λ i. record { bodiless = form.bodiless; close = is i }

-- the text of a reply by the head alone does not say what became of the body
pub head_text : (form : ReplyForm) (asked : Asked) (fate other : Fate) → IsByHead asked → text_by form asked fate by_itself [] ≡ text_by form asked other by_itself []
head_text form (Put asker c) fate other is = absurd is
head_text form (Unfed asker u) fate other is = absurd is
head_text form asked fate other is = refl

-- where a body that is not waited for is left and not broken, the form closes
pub left_shut : (plan : BodyUse) (fate : Fate) (close : Bool) → is_awaited plan ≡ false → Suits plan fate → is_broken fate ≡ false → (is_unread plan ≡ true → close ≡ true) → is_left fate ≡ true → close ≡ true
left_shut plan read_whole close quiet suits whole shut left = absurd (cc)
left_shut plan (broken_off why) close quiet suits whole shut left = absurd (cc)
left_shut Fed unread close quiet suits whole shut left = absurd suits
left_shut Awaited unread close quiet suits whole shut left = absurd (cc)
left_shut Dropped unread close quiet suits whole shut left = absurd suits
left_shut Unread unread close quiet suits whole shut left = shut refl

-- ---- bodies that are read

-- some of it was read, or all
abbrev pub IsReadIn : Fate → Type 0
IsReadIn read_whole = Unit {0}
IsReadIn (broken_off why) = Unit {0}
IsReadIn unread = ⊥

pub fed_read : (fate : Fate) → Suits Fed fate → IsReadIn fate
fed_read read_whole suits = tt
fed_read (broken_off why) suits = tt
fed_read unread suits = suits

pub fed_suits : (fate : Fate) → Suits Fed fate → Suits Awaited fate
fed_suits read_whole suits = tt
fed_suits (broken_off why) suits = suits
fed_suits unread suits = tt

pub fed_open : (fate : Fate) (close : Bool) → Suits Fed fate → is_broken fate ≡ false → is_left fate ≡ true → close ≡ true
fed_open read_whole close suits whole left = absurd (cc)
fed_open (broken_off why) close suits whole left = absurd (cc)
fed_open unread close suits whole left = absurd suits

-- ---- clients that wait

put_waits : (b : Bool) → b ≡ is_awaited (cond b Awaited Fed)
put_waits true = refl
put_waits false = refl

other_quiet : (b : Bool) → false ≡ is_awaited (cond b Dropped Unread)
other_quiet true = refl
other_quiet false = refl

unwanted_quiet : (largest : ℕ) (head : Head) → false ≡ is_awaited (unwanted largest head)
unwanted_quiet largest head = other_quiet _

refused_quiet : (largest : ℕ) (head : Head) (w : SwiftRefusal) → false ≡ is_awaited (body_use largest head (Refused w))
refused_quiet largest head why.NotBuilt = refl
refused_quiet largest head why.TooLarge = refl
refused_quiet largest head other = unwanted_quiet largest head

-- a 100 is waited for just where the body is
pub waits_so : (largest : ℕ) (head : Head) (asked : Asked) → is_waiting asked head ≡ is_awaited (body_use largest head asked)
waits_so largest head (Refused w) = refused_quiet largest head w
waits_so largest head (Put asker c) = put_waits (waits head)
waits_so largest head other = unwanted_quiet largest head

-- a reply by the head alone is no answer to such a client
pub head_waits : (head : Head) (asked : Asked) → IsByHead asked → is_waiting asked head ≡ false
head_waits head (Put asker c) is = absurd is
head_waits head other is = refl

-- no 100 is written for a body that is left
pub unread_quiet : (waiting : Bool) → [] ≡ continue_if waiting unread
unread_quiet true = refl
unread_quiet false = refl

-- ---- ends

pub not_failing : (actor : ℕ) (end : TaskEnd) → end ≢ body_failed → is_failing (task actor end) ≡ false
not_failing actor (on_object BodyFailed) not = absurd (not refl)
not_failing actor other not = refl

-- ---- bytes

empty_of : (bytes : List ℕ) → length bytes ≡ 0 → bytes ≡ []
empty_of [] e = refl
empty_of (b ∷ bytes) e = absurd (cc)

module _ (largest : ℕ) (intake : IntakeState) (head : Head) (behind : IsBehindHead largest intake head) where
  -- what is left behind a head is its body
  body_by : (f : Framing) → intake.body_left ≡ content_length f → intake.chunked ≡ is_in_chunks f → (bytes body rest : List ℕ) → IsLeft intake bytes body rest → IsBodyOf largest f bytes body rest
  body_by Empty size chunked bytes body rest left =
      let plain = subst (λ b. IsLeftBy b intake bytes body rest) chunked left in
      let none = empty_of body (plain.1 ∙ size) in
      (none, sym (plain.0 ∙ ap (λ l. l ++ rest) none))
  body_by (Length n) size chunked bytes body rest left =
      let plain = subst (λ b. IsLeftBy b intake bytes body rest) chunked left in
      (plain.0, plain.1 ∙ size)
  body_by Chunked size chunked bytes body rest left = in_chunks (subst (λ b. IsLeftBy b intake bytes body rest) chunked left)
    where
      in_chunks : IsLeftBy true intake bytes body rest → IsBodyOf largest Chunked bytes body rest
      in_chunks (piece, next, contents, is, length_is, chunks, held) =
          let none = empty_of piece (length_is ∙ size) in
          let here : next ≡ bytes = sym (is ∙ ap (λ l. l ++ next) none) in (
            contents,
            subst₂ (λ b r. AreChunks b r bytes contents End.Whole rest) behind.behind behind.room (subst (λ l. AreChunks intake.behind intake.room l contents End.Whole rest) here chunks),
            held ∙ ap (λ l. l ++ content_of contents) none,
          )

  pub is_body : (bytes body rest : List ℕ) → IsLeft intake bytes body rest → IsBodyOf largest head.framing bytes body rest
  is_body bytes body rest left = body_by head.framing behind.body_left behind.chunked bytes body rest left

  broken_by : (f : Framing) → intake.body_left ≡ content_length f → intake.chunked ≡ is_in_chunks f → (bytes : List ℕ) (why : BodyEnd) → IsBroken intake bytes why → HasNoBody largest f bytes why
  broken_by Empty size chunked bytes why broken =
      let plain = subst (λ b. IsBrokenBy b intake bytes why) chunked broken in
      absurd (let few = plain.1 in omega (arith, few, size))
  broken_by (Length n) size chunked bytes why broken =
      let plain = subst (λ b. IsBrokenBy b intake bytes why) chunked broken in
      (plain.0, (let few = plain.1 in omega (arith, few, size)))
  broken_by Chunked size chunked bytes why broken = in_chunks (subst (λ b. IsBrokenBy b intake bytes why) chunked broken)
    where
      in_chunks : IsBrokenBy true intake bytes why → HasNoBody largest Chunked bytes why
      in_chunks (inl (cut, few)) = absurd (omega (arith, few, size))
      in_chunks (inr (piece, next, contents, rest, is, length_is, chunks, other)) =
          let none = empty_of piece (length_is ∙ size) in
          let here : next ≡ bytes = sym (is ∙ ap (λ l. l ++ next) none) in (
            other,
            contents,
            rest,
            subst₂ (λ b r. AreChunks b r bytes contents why rest) behind.behind behind.room (subst (λ l. AreChunks intake.behind intake.room l contents why rest) here chunks),
          )

  pub no_body : (bytes : List ℕ) (why : BodyEnd) → IsBroken intake bytes why → HasNoBody largest head.framing bytes why
  no_body bytes why broken = broken_by head.framing behind.body_left behind.chunked bytes why broken

  -- what was taken of the bytes behind a head; where none is left, the intake keeps what follows
  pub taken_body : (plan : BodyUse) (fate : Fate) (new : IntakeState) (a b : Option (List ℕ)) (body : List ℕ) → TakesBody plan fate intake new a b body
      → (more : List ℕ) × (rest : List ℕ) × Consumes a b more × IsBehind largest head.framing (intake.buffer ++ more) body fate rest × (fate ≡ read_whole → rest ≡ new.buffer)
  taken_body plan read_whole new a b body (suits, given) =
      let has = given.has_given in
      let bytes = intake.buffer ++ has.more in
      let ended : IsLeft new (new.buffer ++ []) [] new.buffer = subst (λ c. IsLeftBy c new (new.buffer ++ []) [] new.buffer) (sym given.whole.1) (append-nil new.buffer, sym given.whole.0) in
      let left = has.gives.whole [] [] new.buffer ended in (
        has.more,
        new.buffer,
        has.read,
        is_body bytes body new.buffer (subst₂ (λ l g. IsLeft intake l g new.buffer) (append-nil bytes) (append-nil body) left),
        λ is. refl,
      )
  taken_body plan (broken_off why) new a b body (suits, breaks) =
      let bytes = intake.buffer ++ breaks.more in
      let wrong = wrong_body largest intake behind.behind behind.room bytes why body head.framing behind.body_left behind.chunked breaks.wrong in
      (breaks.more, bytes, breaks.read, (wrong, refl), λ is. let clash : broken_off why ≡ read_whole = is in absurd (cc))
  taken_body plan unread new a b body (suits, (none, same, read)) =
      ([], intake.buffer ++ [], read, (none, refl), λ is. let clash : unread ≡ read_whole = is in absurd (cc))
