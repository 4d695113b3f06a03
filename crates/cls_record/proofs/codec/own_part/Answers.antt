use Rattle.std.proofs.Common.{◌∷◌, [], refl}
use Rattle.index_entry.proofs.EntryLemmas.{none_some}
use Rattle.cls_record.proofs.PieceLemmas.{same_in_some}
use Rattle.cls_record.proofs.codec.own_part.Goals as goal

pub returns-in_err-head-clause-exact : goal.returns-in_err-head-clause-exact
returns-in_err-head-clause-exact c b rest is here = absurd (c.in_err-head.ensures.exact (235 ∷ 1 ∷ []) _ refl here).0

pub returns-in_err-shards-clause-exact : goal.returns-in_err-shards-clause-exact
returns-in_err-shards-clause-exact c b rest is here =
    let e0 = c.in_ok-head.ensures.exact (235 ∷ 1 ∷ []) _ refl here in
    let e1 = c.in_ok-version.ensures.exact b.version _ is.version_fits e0.1 in
    let e2 = c.in_ok-shared.ensures.exact b.shared _ is.shared_fits e1.1 in
    let e3 = c.in_ok-number.ensures.exact b.number _ is.number_fits e2.1 in
    let e4 = c.in_ok-busy.ensures.exact b.busy _ is.busy_fits e3.1 in
    let e5 = c.in_ok-instance.ensures.exact b.instance _ is.instance_fits e4.1 in
    absurd (none_some b.shards (c.in_err-shards.ensures.exact b.shards rest is.shards_low is.shards_high e5.1).0)

pub returns-clause-exact : goal.returns-clause-exact
returns-clause-exact c b rest is here =
    let e0 = c.in_ok-head.ensures.exact (235 ∷ 1 ∷ []) _ refl here in
    let e1 = c.in_ok-version.ensures.exact b.version _ is.version_fits e0.1 in
    let e2 = c.in_ok-shared.ensures.exact b.shared _ is.shared_fits e1.1 in
    let e3 = c.in_ok-number.ensures.exact b.number _ is.number_fits e2.1 in
    let e4 = c.in_ok-busy.ensures.exact b.busy _ is.busy_fits e3.1 in
    let e5 = c.in_ok-instance.ensures.exact b.instance _ is.instance_fits e4.1 in
    let e6 = c.in_ok-shards.ensures.exact b.shards rest is.shards_low is.shards_high e5.1 in (
      (same_in_some _ _ e1.0, same_in_some _ _ e2.0, same_in_some _ _ e3.0, same_in_some _ _ e4.0, same_in_some _ _ e5.0, same_in_some _ _ e6.0),
      e6.1,
    )
