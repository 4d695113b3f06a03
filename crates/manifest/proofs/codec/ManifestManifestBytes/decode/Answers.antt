use Rattle.std.proofs.Common.{arith}
use Rattle.manifest.proofs.CodecLemmas.{decoded, decoded_exactly, decoded_none}
use Rattle.manifest.proofs.codec.ManifestManifestBytes.decode.Goals as goal

pub returns-clause-found : goal.returns-clause-found
returns-clause-found c = decoded c.args.bytes.now _ c.new.result (λ i. omega (arith, c.type_inv.bytes i)) (omega arith) (omega arith)
    (record { write_read = c.u64_at.ensures; stripe_read = c.u32_at.ensures; size_read = c.u64_at-2.ensures })
    (record { made = c.new.ensures.made; bounds = c.new.ensures.bounds })

pub returns-clause-exact : goal.returns-clause-exact
returns-clause-exact c = decoded_exactly c.args.bytes.now _ c.new.result
    (record { write_read = c.u64_at.ensures; stripe_read = c.u32_at.ensures; size_read = c.u64_at-2.ensures })
    (record { made = c.new.ensures.made; bounds = c.new.ensures.bounds })

pub returns-clause-none : goal.returns-clause-none
returns-clause-none c = decoded_none c.args.bytes.now _ c.new.result
    (record { write_read = c.u64_at.ensures; stripe_read = c.u32_at.ensures; size_read = c.u64_at-2.ensures })
    (record { made = c.new.ensures.made; bounds = c.new.ensures.bounds })
