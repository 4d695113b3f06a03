use Rattle.std.proofs.Common.{◌≡◌, ◌+◌, ◌-◌, ◌++◌, Some, true≢false, length, take, drop, sym, ap, ◌∙◌, subst, arith}
use Rattle.std.specs.Str.{IsUtf8}
use Rattle.index_entry.specs.Numbers.{short_bytes}
use Rattle.index_entry.proofs.EntryLemmas.{live_found, are_read}
use Rattle.index_entry.proofs.entry.live_end.Goals as goal
use Rattle.index_entry.proofs.entry.live_end.Goals.{then-zone-lt1-via-then-zone-lt1, then-zone-lt1-via-else-zone-lt1+then-zone-gt-LAST_ZONE, then-zone-lt1-via-else-zone-lt1+else-zone-gt-LAST_ZONE+then-kind_len-gt-KIND_MOST, then-zone-lt1-via-else-zone-lt1+else-zone-gt-LAST_ZONE+else-kind_len-gt-KIND_MOST+then-bytes-end}

pub returns-then-bytes-lt62-clause-exact : goal.returns-then-bytes-lt62-clause-exact
returns-then-bytes-lt62-clause-exact c row rest is exists more here =
    let r = are_read c.args.bytes.now row rest is.etag_long exists here in absurd (omega (arith, r.long, more, c.if-bytes-lt62.true))

pub returns-then-zone-lt1-clause-exact : goal.returns-then-zone-lt1-clause-exact
returns-then-zone-lt1-clause-exact c row rest is exists more here =
    let r = are_read c.args.bytes.now row rest is.etag_long exists here in
    let k = c.u16_at.ensures.once (length row.kind) _ (omega (arith, is.bounds.kind_high)) r.len_here in
    elim c.then-zone-lt1.branch [
      | then-zone-lt1-via-then-zone-lt1 w ↦ absurd (omega (arith, w.if-zone-lt1.true, r.zone_here, is.bounds.zone_low))
      | then-zone-lt1-via-else-zone-lt1+then-zone-gt-LAST_ZONE w ↦ absurd (omega (arith, w.if-zone-gt-LAST_ZONE.true, r.zone_here, is.bounds.zone_high))
      | then-zone-lt1-via-else-zone-lt1+else-zone-gt-LAST_ZONE+then-kind_len-gt-KIND_MOST w ↦ absurd (omega (arith, w.if-kind_len-gt-KIND_MOST.true, c.from-kind_len.ensures, k, is.bounds.kind_high))
      | then-zone-lt1-via-else-zone-lt1+else-zone-gt-LAST_ZONE+else-kind_len-gt-KIND_MOST+then-bytes-end w ↦ absurd (omega (arith, w.if-bytes-end.true, c.from-kind_len.ensures, k, r.long, more))
    ]

pub returns-then-not-is_text-clause-exact : goal.returns-then-not-is_text-clause-exact
returns-then-not-is_text-clause-exact c row rest is exists more here =
    let r = are_read c.args.bytes.now row rest is.etag_long exists here in
    let k = c.u16_at.ensures.once (length row.kind) _ (omega (arith, is.bounds.kind_high)) r.len_here in
    let n : length row.kind ≡ 54 + c.from-kind_len.result - 54 = omega (arith, k, c.from-kind_len.ensures) in
    let text : IsUtf8 (take (54 + c.from-kind_len.result - 54) (drop 54 c.args.bytes.now)) = subst (λ m. IsUtf8 (take m (drop 54 c.args.bytes.now))) n (subst IsUtf8 (sym r.kind_here) is.kind_text) in
    absurd (true≢false (sym (c.is_text.ensures.1 text) ∙ c.if-not-is_text.true))

pub returns-clause-found : goal.returns-clause-found
returns-clause-found c =
    let n : 54 + c.from-kind_len.result - 54 ≡ c.from-kind_len.result = omega arith in
    let same : c.u16_at.result ≡ c.from-kind_len.result = omega (arith, c.from-kind_len.ensures) in
    live_found c.args.bytes.now c.from-kind_len.result (record {
      bytes = λ i. omega (arith, c.type_inv.bytes i);
      long = c.if-bytes-end.false;
      few = c.if-kind_len-gt-KIND_MOST.false;
      zone_low = c.if-zone-lt1.false;
      zone_high = c.if-zone-gt-LAST_ZONE.false;
      kind_len = subst (λ m. drop 52 c.args.bytes.now ≡ short_bytes m ++ drop 54 c.args.bytes.now) same c.u16_at.ensures.read;
      kind_text = subst (λ m. IsUtf8 (take m (drop 54 c.args.bytes.now))) n (c.is_text.ensures.0 c.if-not-is_text.false);
    })

pub returns-clause-exact : goal.returns-clause-exact
returns-clause-exact c row rest is exists more here =
    let r = are_read c.args.bytes.now row rest is.etag_long exists here in
    let k = c.u16_at.ensures.once (length row.kind) _ (omega (arith, is.bounds.kind_high)) r.len_here in
    ap Some (omega (arith, k, c.from-kind_len.ensures, r.end))
