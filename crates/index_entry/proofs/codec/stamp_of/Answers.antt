use Rattle.index_entry.proofs.EntryLemmas.{are_read}
use Rattle.index_entry.proofs.codec.stamp_of.Goals as goal

pub returns : goal.returns
returns c row rest is exists here =
    let r = are_read c.args.bytes.now row rest is.etag_long exists here in
    let m = c.u64_at.ensures.once row.stamp.micros _ is.micros_fits r.micros_here in
    let z = r.zone_here in
    λ i. record { micros = m i; zone = z i }
