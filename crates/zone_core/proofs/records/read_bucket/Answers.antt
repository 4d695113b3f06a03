use Rattle.std.proofs.Common.{rules, ◌≡◌, false, sym}
use Rattle.rgw_types.specs.declared.pool_key.Key.TheVariants.{Root}
use Rattle.object_pool.specs.Objects.{exists, object_at}
use Rattle.zone_core.proofs.RecordLemmas.{no_bucket}
use Rattle.zone_core.proofs.records.read_bucket.Goals as goal

pub returns-in_default-clause-found : goal.returns-in_default-clause-found
returns-in_default-clause-found c settings zone st stands =
    let o = object_at c.args.pool.now Root in
    let gone : exists o ≡ false = search rules in
    sym (no_bucket o (st.root zone) c.args.name.now stands.root gone)
