use Rattle.std.proofs.Common.{rules, ◌≡◌, ◌∙◌, false, subst, sym}
use Rattle.rgw_types.specs.declared.pool_key.Key.TheVariants.{Root}
use Rattle.object_pool.specs.Objects.{exists, object_at}
use Rattle.cls_record.specs.RootObjects.{IsRoot}
use Rattle.zone_core.proofs.RecordLemmas.{no_bucket_names}
use Rattle.zone_core.proofs.records.bucket_page_at.Goals as goal

pub returns-in_default-clause-found : goal.returns-in_default-clause-found
returns-in_default-clause-found c settings zone st stands =
    let o = object_at c.args.pool.now Root in
    let gone : exists o ≡ false = search rules in
    c.new.ensures ∙ no_bucket_names o (st.root zone) c.args.after.now c.args.limit stands.root gone

pub bucket_page-requires : goal.bucket_page-requires
bucket_page-requires c =
    let given = c.requires in
    let root = given.2.root given.1 in
    (root, subst (λ o. IsRoot o root) (sym c.in-Some.ensures.some.object) given.3.root)
