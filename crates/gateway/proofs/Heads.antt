-- What a head asks, and what becomes of the bytes behind it.
use Rattle.std.proofs.Common.{◌≡◌, ℕ, ◌+◌, ◌≤◌, Bool, true, false, not, cond, List, refl, sym, ap, ◌∙◌, subst, codes, arith}
use Rattle.std.specs.Prelude.{bytes_eq}
use Rattle.std.proofs.lemmas.Bool.Decides.{nat_tests}
use Rattle.std.proofs.lemmas.Slice.Eq.{bytes_eq-Decides}
use Rattle.http_intake.specs.Intake.{IntakeState, is_in_chunks}
use Rattle.http_model.specs.declared.head.Framing.{Framing}
use Rattle.http_model.specs.declared.head.Framing.TheVariants.{Empty, Length, Chunked}
use Rattle.http_model.specs.declared.head.Head.{Head}
use Rattle.http_model.specs.Forms.{is_put, is_bodiless, content_length, waits}
use Rattle.swift_reply.specs.declared.reply.SwiftRefusal.{SwiftRefusal}
use Rattle.swift_reply.specs.declared.reply.SwiftRefusal.TheVariants as why
use Rattle.swift_auth.specs.Users.{UserView}
use Rattle.swift_requests.specs.Asks.{asked_of}
use Rattle.swift_requests.specs.Fields.{is_above}
use Rattle.swift_requests.proofs.Puts.{asks_put}
use Rattle.swift_requests.proofs.Refusals.{put_passed}
use Rattle.task_words.specs.declared.asker.Asker.{Asker}
use Rattle.swift_requests.specs.Bodies.{body_use, is_unread}
use Rattle.swift_requests.specs.declared.asked.Asked.{Asked}
use Rattle.swift_requests.specs.declared.asked.Asked.TheVariants.{Refused, Put, Unfed}
use Rattle.swift_requests.specs.declared.asked.UnfedCommand.{UnfedCommand}
use Rattle.swift_requests.specs.declared.body.BodyUse.{BodyUse}
use Rattle.swift_requests.specs.declared.body.BodyUse.TheVariants.{Fed, Awaited, Dropped, Unread}
use Rattle.task_words.specs.declared.command.PutCommand.{PutCommand}
use Rattle.call_words.specs.Calls.{IsByHead}
use Rattle.call_words.specs.Streams.{use_of}
use Rattle.call_service.specs.Bodies.{most_due, most_due_by, dropped_if}
use Rattle.gateway.specs.Requests.{IsBehindHead}
use Rattle.gateway.specs.Texts.{is_refusing}

-- ---- methods

same_bytes : (a b : List ℕ) → bytes_eq a b ≡ true → a ≡ b
same_bytes a b is = (bytes_eq-Decides a b).0 is

pub put_has_body : (head : Head) → is_put head ≡ true → is_bodiless head.method ≡ false
put_has_body head is = ap (λ m. bytes_eq m (codes "HEAD")) (same_bytes head.method (codes "PUT") is)

-- ---- bodies

due_by : (largest : ℕ) (f : Framing) (intake : IntakeState) → intake.body_left ≡ content_length f → intake.chunked ≡ is_in_chunks f → intake.room ≡ largest → is_above largest f ≡ false → most_due intake ≤ largest
due_by largest Empty intake size chunked room below =
    let due : most_due intake ≡ intake.body_left = ap (λ b. most_due_by b intake) chunked in omega (arith, due, size)
due_by largest (Length n) intake size chunked room below =
    let due : most_due intake ≡ intake.body_left = ap (λ b. most_due_by b intake) chunked in
    let few : n ≤ largest = grind (arith, nat_tests) in
    omega (arith, due, size, few)
due_by largest Chunked intake size chunked room below =
    let due : most_due intake ≡ intake.body_left + intake.room = ap (λ b. most_due_by b intake) chunked in omega (arith, due, size, room)

-- the body of a PUT has no more bytes than the largest object
pub put_body : (largest : ℕ) (users : List UserView) (head : Head) (intake : IntakeState) (asker : Asker) (c : PutCommand) → asked_of largest users head ≡ Put asker c → IsBehindHead largest intake head
    → (most_due intake ≤ largest) × (is_bodiless head.method ≡ false)
put_body largest users head intake asker c e behind =
    let asks = asks_put largest users head asker c e in
    let tests = put_passed largest head asks.passed in
    (due_by largest head.framing intake behind.body_left behind.chunked behind.room tests.4, put_has_body head asks.is_one)

-- the uses of the body of a PUT
abbrev pub IsOfPut : BodyUse → Type 0
IsOfPut Fed = Unit {0}
IsOfPut Awaited = Unit {0}
IsOfPut Dropped = ⊥
IsOfPut Unread = ⊥

of_put : (b : Bool) → IsOfPut (cond b Awaited Fed)
of_put true = tt
of_put false = tt

pub put_use : (largest : ℕ) (users : List UserView) (head : Head) (asker : Asker) (c : PutCommand) → asked_of largest users head ≡ Put asker c → IsOfPut (use_of largest users head)
put_use largest users head asker c e = subst (λ (a : Asked). IsOfPut (body_use largest head a)) (sym e) (of_put (waits head))

dropped_so : (b : Bool) → dropped_if (not (is_unread (cond b Dropped Unread))) ≡ cond b Dropped Unread
dropped_so true = refl
dropped_so false = refl

-- a body that is not wanted is dropped, where it is read
pub unfed_use : (largest : ℕ) (users : List UserView) (head : Head) (asker : Asker) (u : UnfedCommand) → asked_of largest users head ≡ Unfed asker u
    → dropped_if (not (is_unread (use_of largest users head))) ≡ use_of largest users head
unfed_use largest users head asker u e = subst (λ (a : Asked). dropped_if (not (is_unread (body_use largest head a))) ≡ body_use largest head a) (sym e) (dropped_so _)

-- nothing is read behind a request that ends the connection refused
refusing_unread : (largest : ℕ) (head : Head) (w : SwiftRefusal) → is_refusing (Refused w) ≡ true → is_unread (body_use largest head (Refused w)) ≡ true
refusing_unread largest head why.TooLarge is = refl
refusing_unread largest head why.NotBuilt is = refl
refusing_unread largest head other is = absurd (cc)

pub read_not_refusing : (largest : ℕ) (head : Head) (asked : Asked) → is_unread (body_use largest head asked) ≡ false → is_refusing asked ≡ false
read_not_refusing largest head (Refused w) read = by (is_refusing (Refused w)) refl
  where
    by : (b : Bool) → is_refusing (Refused w) ≡ b → is_refusing (Refused w) ≡ false
    by false is = is
    by true is = let clash : true ≡ false = sym (refusing_unread largest head w is) ∙ read in absurd (cc)
read_not_refusing largest head other read = refl

pub is_by_head : (asked : Asked) → ((asker : Asker) (c : PutCommand) → asked ≡ Put asker c → ⊥) → ((asker : Asker) (u : UnfedCommand) → asked ≡ Unfed asker u → ⊥) → IsByHead asked
is_by_head (Put asker c) not_put not_unfed = absurd (not_put asker c refl)
is_by_head (Unfed asker u) not_put not_unfed = absurd (not_unfed asker u refl)
is_by_head other not_put not_unfed = tt
