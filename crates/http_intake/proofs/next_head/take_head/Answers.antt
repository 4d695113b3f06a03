use Rattle.std.proofs.Common.{Err, take, refl, sym, ap, subst}
use Rattle.std.proofs.lemmas.Result.{err_from_is_err_and}
use Rattle.std.specs.Io.KnownBytes.{IsAtEnd}
use Rattle.http_model.specs.Heads.{SaysHead, BeginsWith}
use Rattle.http_intake.specs.Reading.{HasNoNext}
use Rattle.http_intake.proofs.Taking.{head_there, no_head_there}
use Rattle.http_intake.proofs.next_head.take_head.Goals as goal

pub returns-in_err-find_text-clause-head : goal.returns-in_err-find_text-clause-head
returns-in_err-find_text-clause-head g c =
    let p = err_from_is_err_and c.from_residual.result c.from_residual.ensures.1 in
    let read = c.find_text.ensures.read in
    let ended = IsAtEnd (g.S.Source.left c.find_text.new.source) in
    (read.0, read.1, rw (p.1, ← read.2) (refl, subst (HasNoNext c.find_text.new.buffer ended) (sym p.2) c.in_err-find_text.ensures.found))

pub returns-in_err-head-in-Some-clause-head : goal.returns-in_err-head-in-Some-clause-head
returns-in_err-head-in-Some-clause-head g c =
    let p = err_from_is_err_and c.from_residual-in_err-head-in-Some.result c.from_residual-in_err-head-in-Some.ensures.1 in
    let read = c.find_text.ensures.read in
    let ended = IsAtEnd (g.S.Source.left c.find_text.new.source) in
    let found = rw c.in-Some.is at c.in_ok-find_text.ensures.found in
    let refused = c.in_err-head-in-Some.ensures in
    let none = no_head_there c.find_text.new.buffer c.in-Some.len ended c.in_err-head-in-Some.field-0.0 found
    (λ is. rw (← c.as_slice.ensures) (refused.bad_head (ap Err is))) (λ b is. rw (← c.as_slice.ensures) (refused.bad_framing b (ap Err is))) in
    (read.0, read.1, rw (p.1, ← read.2) (refl, subst (HasNoNext c.find_text.new.buffer ended) (sym p.2) none))

pub returns-in_ok-head-in-Some-clause-head : goal.returns-in_ok-head-in-Some-clause-head
returns-in_ok-head-in-Some-clause-head g c =
    let read = c.find_text.ensures.read in
    let found = rw c.in-Some.is at c.in_ok-find_text.ensures.found in
    let head = c.in_ok-head-in-Some.head in
    let says = subst (λ l. SaysHead (take c.in-Some.len l) head) c.as_slice.ensures c.in_ok-head-in-Some.ensures.head in
    (read.0, read.1, rw (← read.2) (subst (BeginsWith c.find_text.new.buffer head) (sym c.consume.ensures) (head_there c.find_text.new.buffer c.in-Some.len head found says)))
