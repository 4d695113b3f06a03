use Rattle.std.proofs.Common.{◌≡◌, List, ℕ, Option, Some, Result, Ok, Err, IfOk, sym, ap, ◌∙◌}
use Rattle.object_pool.specs.Objects.{Object}
use Rattle.object_pool.specs.Places.{object_of}
use Rattle.omap_pages.specs.Rows.{value_at}
use Rattle.object_words.specs.declared.bucket.Bucket.{Bucket}
use Rattle.object_words.specs.Names.{at}
use Rattle.object_words.specs.Roots.{Root}
use Rattle.cls_record.specs.BucketRows.{IsBucket, bucket_bytes}
use Rattle.cls_record.specs.RootObjects.{IsBucketName, IsRoot}
use Rattle.cls_record.proofs.RootLemmas.{kept_row, no_row}
use Rattle.cls_record.proofs.record.read.Goals as goal

found_row : {E : Type 0} (result : Result (Option Bucket) E) (o : Object) (key name row : List ℕ) → key ≡ name → IsBucketName key → Some row ≡ value_at o.rows.rows key
    → IfOk result (λ found. (b : Bucket) → IsBucket b → row ≡ bucket_bytes b → found ≡ Some b) → IfOk result (λ found. (r : Root) → IsRoot o r → found ≡ at r.buckets name)
found_row (Ok found) o key name row same named there exact = λ r is.
    let k = kept_row o r key row is named there in exact k.bucket k.is k.bytes ∙ sym k.here ∙ ap (at r.buckets) same
found_row (Err e) o key name row same named there exact = tt

pub returns-in-Some : goal.returns-in-Some
returns-in-Some c =
    found_row c.decode_bucket.result (object_of c.args.root.now) c.key_of.result.now c.args.name.now c.in-Some.row.now c.key_of.ensures.key c.key_of.ensures.named c.in-Some.ensures.value
    c.decode_bucket.ensures.exact

pub returns-in-None : goal.returns-in-None
returns-in-None c r is =
    sym (no_row (object_of c.args.root.now) r c.key_of.result.now is c.key_of.ensures.named c.in-None.ensures.value) ∙ ap (at r.buckets) c.key_of.ensures.key
