use Rattle.std.proofs.Common.{◌≡◌, true, take, subst, sym, refl, bytes_eq}
use Rattle.std.specs.BTreeSet.{contains}
use Rattle.std.specs.List.{IsDistinct}
use Rattle.std.proofs.lemmas.Bool.{false≢true}
use Rattle.std.proofs.lemmas.List.{take_all}
use Rattle.swift_auth.proofs.Differing.{texts_at, ref_cmp, nothing_seen, seen_more, texts_more, not_new, was_new, was_old}
use Rattle.swift_auth.proofs.users.all_differ.Goals as goal

pub loop-text-init : goal.loop-text-init
loop-text-init c = nothing_seen c.new-seen.result c.new-seen.ensures.empty

pub loop-text-preserved : goal.loop-text-preserved
loop-text-preserved c =
    let refs = c.args.texts.now in
    let i = c.loop-text.text-index in
    let text = c.text-item.result in
    let here = sym c.text-item.is in
    rw (texts_more refs i text c.loop-text-test.true)
    (rw here (seen_more (texts_at (take i refs)) c.loop-text.seen c.insert.new.self text c.loop-text.invariant
    (was_new _ c.in_ok-insert.field-0 c.in_ok-insert.ensures.added c.if-not-branch.false) c.in_ok-insert.ensures.updates))

pub returns-then-not-branch : goal.returns-then-not-branch
returns-then-not-branch c =
    let refs = c.args.texts.now in
    let i = c.loop-text.text-index in
    let text = c.text-item.result in
    let had = was_old _ c.in_ok-insert.field-0 c.in_ok-insert.ensures.added c.if-not-branch.true in
    let twice : ¬ (IsDistinct bytes_eq (texts_at refs)) =
    not_new refs i text c.loop-text-test.true c.loop-text.seen c.loop-text.invariant (subst (λ t. contains ref_cmp c.loop-text.seen t ≡ true) c.text-item.is had) in
    (λ h. absurd (false≢true h), λ h. absurd (twice h))

pub returns : goal.returns
returns c = (λ _. rw (← take_all c.loop-text.text-index c.args.texts.now c.loop-text-test.false) c.loop-text.invariant.differ, λ _. refl)
