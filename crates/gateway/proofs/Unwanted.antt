-- A body that is not wanted.
use Rattle.std.proofs.Common.{◌≡◌, ℕ, true, false, List, [], Option, Some, None, refl, ap, ◌∙◌, subst}
use Rattle.std.proofs.KnownBytes.{Consumes-nil}
use Rattle.std.specs.Io.KnownBytes.{Appends}
use Rattle.http_chunks.specs.declared.body.BodyEnd.{BodyEnd}
use Rattle.http_chunks.specs.declared.body.BodyEnd.TheVariants as End
use Rattle.http_intake.specs.Intake.{IntakeState}
use Rattle.http_model.specs.declared.reply.ReplyForm.{ReplyForm}
use Rattle.swift_requests.specs.Bodies.{is_unread, is_awaited}
use Rattle.swift_requests.specs.declared.asked.Asked.{Asked}
use Rattle.swift_requests.specs.declared.body.BodyUse.{BodyUse}
use Rattle.swift_requests.specs.declared.body.BodyUse.TheVariants.{Fed, Awaited, Dropped, Unread}
use Rattle.call_words.specs.Bodies.{Fate, read_whole, broken_off, unread, is_broken, Suits}
use Rattle.call_words.specs.Calls.{alone as by_itself, text_by, IsByHead}
use Rattle.call_service.specs.Bodies.{DropsBody, LeavesBody as LeavesDropped}
use Rattle.call_service.proofs.Passing.{falls_here}
use Rattle.call_service.specs.Serving.{AppendsFront, LeavesText, form_at}
use Rattle.call_service.specs.declared.fault.ServeFault.{ServeFault}
use Rattle.call_service.specs.declared.fault.ServeFault.TheVariants as faults
use Rattle.call_service.specs.declared.served.Served.TheVariants as services
use Rattle.gateway.specs.Requests.{TakesBody, UsesBody, LeavesBody, RepliesAt, RepliesByHead, LeavesReply, is_cut, fate_by}
use Rattle.gateway.proofs.Fates.{suits_read, suits_broken, shut_same, head_text}

pub used : (plan : BodyUse) (old new : IntakeState) (a b : Option (List ℕ)) (end : BodyEnd) → is_unread plan ≡ false → DropsBody old new a b end → UsesBody plan old new a b (Some end)
used plan old new a b End.Whole read x = (x.0, (suits_read plan read, x.1))
used plan old new a b End.Cut read x = ((read, x.0, x.1.0), x.1.1)
used plan old new a b End.BadChunk read x = (x.0, (suits_broken plan End.BadChunk read tt, x.1))
used plan old new a b End.TooLarge read x = (x.0, (suits_broken plan End.TooLarge read tt, x.1))

pub not_used : (plan : BodyUse) (intake : IntakeState) (a : Option (List ℕ)) → is_unread plan ≡ true → UsesBody plan intake intake a a None
not_used Fed intake a is = absurd (cc)
not_used Awaited intake a is = absurd (cc)
not_used Dropped intake a is = absurd (cc)
not_used Unread intake a is = ([], (tt, (refl, refl, Consumes-nil a)))

pub left : (plan : BodyUse) (old : IntakeState) (a b : Option (List ℕ)) (fault : ServeFault) → is_unread plan ≡ false → old.failed ≡ None → LeavesDropped old a b fault → LeavesBody plan old a b fault
left plan old a b faults.ReadFault read sound x = (read, [], falls_here old a b sound x)
left plan old a b faults.OutOfMemory read sound x = x
left plan old a b faults.WriteFault read sound x = x
left plan old a b faults.Worn read sound x = x
left plan old a b (faults.Late read_at clock) read sound x = x

-- ---- the reply behind it

module _ (plan : BodyUse) (old new : IntakeState) (a b : Option (List ℕ)) where
  cut_so : (end : Option BodyEnd) → is_cut end ≡ true → UsesBody plan old new a b end → UsesBody plan old new a b (Some End.Cut)
  cut_so None is x = absurd (cc)
  cut_so (Some End.Whole) is x = absurd (cc)
  cut_so (Some End.Cut) is x = x
  cut_so (Some End.BadChunk) is x = absurd (cc)
  cut_so (Some End.TooLarge) is x = absurd (cc)

  fate_so : (end : Option BodyEnd) → is_cut end ≡ false → UsesBody plan old new a b end → (body : List ℕ) × TakesBody plan (fate_by end) old new a b body
  fate_so None is x = x
  fate_so (Some End.Whole) is x = x
  fate_so (Some End.Cut) is x = absurd (cc)
  fate_so (Some End.BadChunk) is x = x
  fate_so (Some End.TooLarge) is x = x

  broken_so : (end : Option BodyEnd) → is_cut end ≡ false → is_broken (fate_by end) ≡ true → (why : BodyEnd) × (fate_by end ≡ broken_off why)
  broken_so None is broken = absurd (cc)
  broken_so (Some End.Whole) is broken = absurd (cc)
  broken_so (Some End.Cut) is broken = absurd (cc)
  broken_so (Some End.BadChunk) is broken = (End.BadChunk, refl)
  broken_so (Some End.TooLarge) is broken = (End.TooLarge, refl)

  module _ (form : ReplyForm) (asked : Asked) (by_head : IsByHead asked) (quiet : is_awaited plan ≡ false) (shut : is_unread plan ≡ true → form.close ≡ true) (taken taken' : Option (List ℕ)) where
    pub cut_refuses : (end : Option BodyEnd) → is_cut end ≡ true → UsesBody plan old new a b end → Appends taken taken' [] → RepliesByHead form asked plan old new a b taken taken' services.Cut
    cut_refuses end is x quiet = (cut_so end is x, quiet)

    -- the form of a reply behind a body that did not go wrong is the one that was meant
    form_here : (end : Option BodyEnd) → is_cut end ≡ false → is_broken (fate_by end) ≡ false → UsesBody plan old new a b end → form ≡ form_at form (fate_by end)
    form_here None is whole x = shut_same form (shut (not_read plan quiet x.1.0))
      where
        not_read : (p : BodyUse) → is_awaited p ≡ false → Suits p unread → is_unread p ≡ true
        not_read Fed calm suits = absurd suits
        not_read Awaited calm suits = absurd (cc)
        not_read Dropped calm suits = absurd suits
        not_read Unread calm suits = refl
    form_here (Some End.Whole) is whole x = refl
    form_here (Some End.Cut) is whole x = absurd (cc)
    form_here (Some End.BadChunk) is whole x = absurd (cc)
    form_here (Some End.TooLarge) is whole x = absurd (cc)

    at_fate : (fate : Fate) (grown : List ℕ → Type 0) (f : ReplyForm) → f ≡ form_at form fate → ((body : List ℕ) × TakesBody plan fate old new a b body) → grown (text_by f asked read_whole by_itself [])
        → RepliesAt form asked plan fate old new a b grown
    at_fate fate grown f is x written =
        (x, subst grown (ap (λ (g : ReplyForm). text_by g asked read_whole by_itself []) is ∙ head_text (form_at form fate) asked read_whole fate by_head) written)

    pub whole_refuses : (end : Option BodyEnd) → is_cut end ≡ false → is_broken (fate_by end) ≡ false → UsesBody plan old new a b end → Appends taken taken' (text_by form asked read_whole by_itself [])
        → RepliesByHead form asked plan old new a b taken taken' services.Replied
    whole_refuses end is whole x written =
        (fate_by end, whole, at_fate (fate_by end) (Appends taken taken') form (form_here end is whole x) (fate_so end is x) written)

    pub broken_refuses : (end : Option BodyEnd) (f : ReplyForm) → f ≡ record form { close = true } → is_cut end ≡ false → is_broken (fate_by end) ≡ true → UsesBody plan old new a b end
        → Appends taken taken' (text_by f asked read_whole by_itself []) → RepliesByHead form asked plan old new a b taken taken' services.Closed
    broken_refuses end f form_is is broken x written =
        let why = broken_so end is broken in
        (why.0, at_fate (broken_off why.0) (Appends taken taken') f form_is (subst (λ t. (body : List ℕ) × TakesBody plan t old new a b body) why.1 (fate_so end is x)) written)

    text_left : (fate : Fate) (f : ReplyForm) (fault : ServeFault) → f ≡ form_at form fate → ((body : List ℕ) × TakesBody plan fate old new a b body)
        → LeavesText taken taken' (text_by f asked read_whole by_itself []) fault → LeavesReply form asked plan old new a b taken taken' fault
    text_left fate f faults.OutOfMemory is x leaves = ((fate, x.0, x.1), leaves)
    text_left fate f faults.WriteFault is x leaves = (fate, at_fate fate (AppendsFront taken taken') f is x leaves)
    text_left fate f fault is x leaves = absurd leaves

    pub whole_left : (end : Option BodyEnd) (fault : ServeFault) → is_cut end ≡ false → is_broken (fate_by end) ≡ false → UsesBody plan old new a b end
        → LeavesText taken taken' (text_by form asked read_whole by_itself []) fault → LeavesReply form asked plan old new a b taken taken' fault
    whole_left end fault is whole x leaves = text_left (fate_by end) form fault (form_here end is whole x) (fate_so end is x) leaves

    pub broken_left : (end : Option BodyEnd) (f : ReplyForm) (fault : ServeFault) → f ≡ record form { close = true } → is_cut end ≡ false → is_broken (fate_by end) ≡ true → UsesBody plan old new a b end
        → LeavesText taken taken' (text_by f asked read_whole by_itself []) fault → LeavesReply form asked plan old new a b taken taken' fault
    broken_left end f fault form_is is broken x leaves =
        let why = broken_so end is broken in
        text_left (broken_off why.0) f fault form_is (subst (λ t. (body : List ℕ) × TakesBody plan t old new a b body) why.1 (fate_so end is x)) leaves

    pub unread_left : (fault : ServeFault) → LeavesBody plan old a b fault → Appends taken taken' [] → LeavesReply form asked plan old new a b taken taken' fault
    unread_left faults.ReadFault x quiet = (x, quiet)
    unread_left fault x quiet = absurd x
