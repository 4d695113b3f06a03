use Rattle.std.proofs.Common.{◌≡◌, Bor, option_map, sym, ap, subst, arith}
use Rattle.object_pool.specs.Places.{object_of}
use Rattle.object_words.specs.declared.bucket.Bucket.{Bucket}
use Rattle.object_words.specs.Names.{at}
use Rattle.object_words.specs.Roots.{version_of}
use Rattle.cls_record.specs.RootObjects.{IsRoot}
use Rattle.cls_record.proofs.SwapLemmas.{expected_kept, swapped_so}
use Rattle.cls_record.proofs.record.swap.Goals as goal

pub returns-in-Ok-clause-answers : goal.returns-in-Ok-clause-answers
returns-in-Ok-clause-answers c r is small =
    let name = c.args.name.now in
    let expected : version_of (at r.buckets name) ≡ c.args.expected =
    omega (arith, ap (λ k. version_of (at r.buckets k)) (sym c.key_of.ensures.key), c.kept_version-version.ensures r is) in (
      expected_kept r name c.args.expected expected,
      tt,
      subst (IsRoot (object_of c.renew.new.root)) (swapped_so r name c.args.expected (option_map (λ (b : Bor Bucket). b.now) c.args.new) c.args.master c.args.number expected)
          (c.in-Ok.ensures.ok r is small),
    )
