use Rattle.std.proofs.Common.{rules, subst, sym}
use Rattle.object_pool.specs.Places.{IsUnchanged}
use Rattle.cls_record.specs.RootObjects.{IsRoot}
use Rattle.zone_core.proofs.HeadCallLemmas.{stands_still}
use Rattle.zone_core.proofs.RecordLemmas.{root_answers}
use Rattle.zone_core.proofs.records.swap_bucket.Goals as goal

pub returns-in_default : goal.returns-in_default
returns-in_default c settings zone st stands few =
    let same : IsUnchanged c.args.pool.now c.place.follows.lender-at-none = search rules in
    stands_still settings zone c.args.pool.now c.place.follows.lender-at-none st stands same.0 same.2.frame same.2.free

pub swap-requires : goal.swap-requires
swap-requires c =
    let given = c.requires.stands in
    let st = given.2 in
    (st.root given.1, subst (λ o. IsRoot o (st.root given.1)) (sym c.in-Ok.ensures.ok.object) given.3.root, given.4)

pub returns : goal.returns
returns c settings zone st stands few =
    root_answers settings zone c.args.pool.now _ st stands c.in-Ok.root c.swap.new.root c.swap.ensures.works (search rules) c.in-Ok.ensures.ok c.swap.result _ _ _
    (c.swap.ensures.answers (st.root zone) (subst (λ o. IsRoot o (st.root zone)) (sym c.in-Ok.ensures.ok.object) stands.root) few)
