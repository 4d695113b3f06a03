use Rattle.std.proofs.Common.{rules, Ok, Err, subst, sym}
use Rattle.object_pool.specs.Objects.{object_at}
use Rattle.object_pool.specs.Places.{IsUnchanged}
use Rattle.object_words.specs.Tails.{tail_made, tail_refusal}
use Rattle.cls_head.specs.Tails.{IsTail}
use Rattle.zone_core.proofs.HeadCallLemmas.{stands_still, tail_replies_at}
use Rattle.zone_core.proofs.heads.make_at.Goals as goal

pub returns-in_default : goal.returns-in_default
returns-in_default c settings zone st write part stands at =
    let same : IsUnchanged c.args.pool.now c.place.follows.lender-at-none = search rules in
    stands_still settings zone c.args.pool.now c.place.follows.lender-at-none st stands same.0 same.2.frame same.2.free

pub returns-in-Ok-make_tail : goal.returns-in-Ok-make_tail
returns-in-Ok-make_tail c settings zone st write part stands at =
    tail_replies_at settings zone c.args.pool.now _ st stands (Ok c.in-Ok-make_tail.field-0) c.args.key.now write part at c.in-Ok.tail c.make_tail.new.tail c.in-Ok.ensures.ok c.make_tail.ensures.works (search rules)
    (λ free frame. tail_refusal c.args.bytes.now free frame) (λ _. Unit {0}) (λ t free frame. tail_made t c.args.bytes.now free frame)
    (c.in-Ok-make_tail.ensures.answers (st.tails zone c.args.key.now)
    (subst (λ o. IsTail o (st.tails zone c.args.key.now)) (sym c.in-Ok.ensures.ok.object)
    (subst (λ k. IsTail (object_at c.args.pool.now k) (st.tails zone k)) (sym at) (stands.tails write part))))

pub returns-in-Err : goal.returns-in-Err
returns-in-Err c settings zone st write part stands at =
    tail_replies_at settings zone c.args.pool.now _ st stands {V = Unit {0}} (Err c.in-Err.why) c.args.key.now write part at c.in-Ok.tail c.make_tail.new.tail c.in-Ok.ensures.ok c.make_tail.ensures.works (search rules)
    (λ free frame. tail_refusal c.args.bytes.now free frame) (λ _. Unit {0}) (λ t free frame. tail_made t c.args.bytes.now free frame)
    (c.in-Err.ensures.answers (st.tails zone c.args.key.now)
    (subst (λ o. IsTail o (st.tails zone c.args.key.now)) (sym c.in-Ok.ensures.ok.object)
    (subst (λ k. IsTail (object_at c.args.pool.now k) (st.tails zone k)) (sym at) (stands.tails write part))))
