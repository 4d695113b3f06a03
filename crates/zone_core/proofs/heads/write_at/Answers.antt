use Rattle.std.proofs.Common.{rules, ◌≡◌, subst, sym}
use Rattle.object_pool.specs.Objects.{object_at}
use Rattle.object_pool.specs.Places.{IsUnchanged}
use Rattle.object_words.specs.HeadCalls.{change_of, write_refusal, written}
use Rattle.cls_head.specs.Heads.{IsHead}
use Rattle.zone_core.proofs.HeadCallLemmas.{head_answers_at, stands_still}
use Rattle.zone_core.proofs.heads.write_at.Goals as goal

pub returns-in_default : goal.returns-in_default
returns-in_default c settings st container name stands at =
    let same : IsUnchanged c.args.pool.now c.place.follows.lender-at-none = search rules in
    stands_still settings c.args.zone c.args.pool.now c.place.follows.lender-at-none st stands same.0 same.2.frame same.2.free

pub returns : goal.returns
returns c settings st container name stands at =
    head_answers_at settings c.args.zone c.args.pool.now _ st stands c.write.result c.args.key.now container name at c.in-Ok.head c.write.new.head c.in-Ok.ensures.ok c.write.ensures.works (search rules)
    (λ h free frame. write_refusal h c.args.guard c.args.new.now c.args.when.now c.args.clock free frame)
    (λ h free frame changed. changed ≡ change_of h (written h c.args.guard c.args.new.now c.args.when.now c.args.zone c.args.number c.args.clock free frame))
    (λ h free frame. written h c.args.guard c.args.new.now c.args.when.now c.args.zone c.args.number c.args.clock free frame)
    (c.write.ensures.answers (st.heads c.args.zone c.args.key.now)
    (subst (λ o. IsHead o (st.heads c.args.zone c.args.key.now)) (sym c.in-Ok.ensures.ok.object)
    (subst (λ k. IsHead (object_at c.args.pool.now k) (st.heads c.args.zone k)) (sym at) (stands.heads container name))))
