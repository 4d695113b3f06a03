-- A container's metadata and lists are changed: a swap of what was read before is raced, and pages of names show the
-- container under its account.
use Rattle.std.specs.Prelude.{ℕ, codes, List, [], ◌∷◌, ◌++◌, Some}
use Rattle.object_words.specs.declared.bucket.Bucket.{Bucket}
use Rattle.object_words.specs.declared.why.Why.TheVariants.{Raced}
use Rattle.realm_model.specs.declared.op.Op.TheVariants.{BucketRead, BucketSwap, AccountPage, BucketPage}
use Rattle.realm_model.specs.declared.event.Reply.TheVariants.{Done, No, Row, Names}
use Rattle.realm_model.specs.declared.event.Event.{Event}
use Rattle.realm_model.specs.KnownWords.{by, made, reads, box, bucket}

-- the row of box with a pair of metadata and a list of readers, under this version and this number of the shared part
abbrev pub changed : ℕ → ℕ → Bucket
changed version shared = record (bucket 1 version 1) {
  shared = shared;
  meta = (codes "colour", codes "blue") ∷ [];
  readers = codes ".r:*";
}

abbrev pub history : List Event
history =
    made 1 0 1
    ++ reads 2 0 1
    ∷ reads 3 0 1
    ∷ by 2 0 (BucketSwap 1 box 3 (Some (changed 3 3))) Done
    ∷ by 3 0 (BucketSwap 1 box 3 (Some (bucket 1 3 1))) (No (Raced 6))
    ∷ by 3 0 (BucketRead 1 box) (Row (changed 6 6))
    ∷ by 3 0 (BucketSwap 1 box 6 (Some (changed 6 6))) Done
    ∷ by 4 0 (BucketRead 1 box) (Row (changed 9 6))
    ∷ by 5 0 (AccountPage 1 (codes "acme") [] 1000) (Names (box ∷ []))
    ∷ by 5 0 (AccountPage 1 (codes "acme") box 1000) (Names [])
    ∷ by 5 0 (AccountPage 1 (codes "acm") [] 1000) (Names [])
    ∷ by 5 0 (BucketPage 1 (codes "a") 1) (Names (box ∷ []))
    ∷ []
