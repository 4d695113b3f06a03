use Rattle.std.proofs.Common.{rules, subst, sym}
use Rattle.object_pool.specs.Places.{IsUnchanged}
use Rattle.cls_log.specs.LogObjects.{IsLogObject}
use Rattle.zone_core.proofs.HeadCallLemmas.{stands_still}
use Rattle.zone_core.proofs.RecordLemmas.{log_answers}
use Rattle.zone_core.proofs.records.announce.Goals as goal

pub returns-in_default : goal.returns-in_default
returns-in_default c settings zone st stands few =
    let same : IsUnchanged c.args.pool.now c.place.follows.lender-at-none = search rules in
    stands_still settings zone c.args.pool.now c.place.follows.lender-at-none st stands same.0 same.2.frame same.2.free

pub returns : goal.returns
returns c settings zone st stands few =
    log_answers settings zone c.args.pool.now _ st stands c.in-Ok.log c.add.new.log c.add.ensures.works (search rules) c.in-Ok.ensures.ok c.add.result _ _
    (c.add.ensures.answers (st.changes zone) (subst (λ o. IsLogObject o (st.changes zone)) (sym c.in-Ok.ensures.ok.object) stands.changes) few)
