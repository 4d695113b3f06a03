use Rattle.std.proofs.Common.{◌≡◌, ℕ, List, Some, sym, ap, ◌∙◌, subst, arith}
use Rattle.index_entry.specs.LogRows.{IsNameText, shard_bytes}
use Rattle.index_entry.proofs.EntryLemmas.{none_some}
use Rattle.index_entry.proofs.LogRowLemmas.{same_shard, shard_read, whole_rest}
use Rattle.index_entry.proofs.log_row.shard_in.Goals as goal

short : (c : goal.Then-bytes-lt20) (container instance shard : ℕ) (bucket : List ℕ) → c.args.bytes.now ≡ shard_bytes container instance shard bucket → ⊥
short c container instance shard bucket here =
    let r = shard_read c.args.bytes.now container instance shard bucket here in omega (arith, r.long, c.if-bytes-lt20.true)

pub returns-then-bytes-lt20-clause-exact : goal.returns-then-bytes-lt20-clause-exact
returns-then-bytes-lt20-clause-exact c container instance shard bucket is here = absurd (short c container instance shard bucket here)

pub returns-then-bytes-lt20-clause-none : goal.returns-then-bytes-lt20-clause-none
returns-then-bytes-lt20-clause-none c container instance shard bucket is here = short c container instance shard bucket here

no_name : (c : goal.In_default) (container instance shard : ℕ) (bucket : List ℕ) → IsNameText 256 bucket → c.args.bytes.now ≡ shard_bytes container instance shard bucket → ⊥
no_name c container instance shard bucket is here =
    let r = shard_read c.args.bytes.now container instance shard bucket here in
    none_some _ (sym c.in_default.is ∙ c.in_ok-bucket.ensures.exact (subst (IsNameText 256) (sym (whole_rest c.args.bytes.now 20 ∙ r.at_20)) is))

pub returns-in_default-clause-exact : goal.returns-in_default-clause-exact
returns-in_default-clause-exact c container instance shard bucket is here = absurd (no_name c container instance shard bucket is.3 here)

pub returns-in_default-clause-none : goal.returns-in_default-clause-none
returns-in_default-clause-none c container instance shard bucket is here = no_name c container instance shard bucket is.3 here

pub returns-clause-exact : goal.returns-clause-exact
returns-clause-exact c container instance shard bucket is here =
    let r = shard_read c.args.bytes.now container instance shard bucket here in
    let name = rw c.in-Some.is at c.in_ok-bucket.ensures.found in
    ap Some (same_shard (c.u64_at.ensures.once container _ is.0 r.at_0) (c.u64_at-2.ensures.once instance _ is.1 r.at_8) (c.u32_at.ensures.once shard _ is.2 r.at_16) (sym name.1 ∙ whole_rest c.args.bytes.now 20 ∙ r.at_20))
