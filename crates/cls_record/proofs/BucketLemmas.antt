-- Rows of containers in bytes.
use Rattle.std.proofs.Common.{◌≡◌, ◌≢◌, ℕ, ◌-◌, ◌≤◌, ◌&&◌, ◌==◌, Bool, true, false, if◌then◌else◌, List, [], ◌∷◌, ◌++◌, length, get_or, take, drop, Option, Some, None, refl, sym, ap, ◌∙◌, arith, append-nil, length-append}
use Rattle.std.specs.Str.{bytes_eq}
use Rattle.std.specs.Cmp.Lexicographic.{pointwise}
use Rattle.std.proofs.lemmas.List.{length-drop, take_all}
use Rattle.std.proofs.lemmas.Bool.{false_from_ne_true, true≢false}
use Rattle.std.proofs.lemmas.Bool.Decides.{nat_tests}
use Rattle.std.proofs.lemmas.Slice.Eq.{bytes_eq-Decides}
use Rattle.object_words.specs.declared.bucket.Bucket.{Bucket}
use Rattle.object_words.specs.declared.bucket.Busy.{Busy}
use Rattle.object_words.specs.Roots.{is_same_pair, shares_all}
use Rattle.object_words.proofs.KeyLemmas.{number_itself}
use Rattle.index_entry.specs.Numbers.{number_bytes}
use Rattle.index_entry.proofs.PieceLemmas.{behind, length-number_bytes}
use Rattle.cls_record.specs.BucketRows.{IsBucket, IsShared, bucket_bytes, busy_kind, busy_number, pairs_bytes, shared_bytes, shared_then, text_bytes}
use Rattle.cls_record.specs.RootObjects.{same_shared}
use Rattle.cls_record.proofs.PieceLemmas.{all_pairs, number_start, text_start}

-- where the parts of a row are
pub record RowRead (bs : List ℕ) (b : Bucket) : Type 0 where
  pub rest : List ℕ
  pub more : List ℕ
  pub at_2 : drop 2 bs ≡ number_bytes b.version ++ rest
  pub at_10 : drop 10 bs ≡ number_bytes b.shared ++ more
  pub at_51 : drop 51 bs ≡ shared_bytes b
  pub long : 51 ≤ length bs

pub row_read : (bs : List ℕ) (b : Bucket) → bs ≡ bucket_bytes b → RowRead bs b
row_read bs b here =
    let at_2 = ap (drop 2) here in
    let at_10 = behind bs 2 8 10 _ _ at_2 (length-number_bytes b.version) refl in
    let at_18 = behind bs 10 8 18 _ _ at_10 (length-number_bytes b.shared) refl in
    let at_26 = behind bs 18 8 26 _ _ at_18 (length-number_bytes b.number) refl in
    let at_27 = behind bs 26 1 27 (busy_kind b.busy ∷ []) _ at_26 refl refl in
    let at_35 = behind bs 27 8 35 _ _ at_27 (length-number_bytes (busy_number b.busy)) refl in
    let at_43 = behind bs 35 8 43 _ _ at_35 (length-number_bytes b.instance) refl in
    let at_51 = behind bs 43 8 51 _ _ at_43 (length-number_bytes b.shards) refl in
    record {
      rest = _;
      more = _;
      at_2 = at_2;
      at_10 = at_10;
      at_51 = at_51;
      long = omega (arith, length-drop 43 bs, ap length at_43, length-append (number_bytes b.shards) (shared_bytes b), length-number_bytes b.shards);
    }

-- where the owner is
pub record OwnerRead (bs : List ℕ) (b : Bucket) : Type 0 where
  pub rest : List ℕ
  pub sliced : take (length bs - 59) (drop 59 bs) ≡ text_bytes b.owner ++ rest
  pub long : 59 ≤ length bs

pub owner_read : (bs : List ℕ) (b : Bucket) → bs ≡ bucket_bytes b → OwnerRead bs b
owner_read bs b here =
    let r = row_read bs b here in
    record {
      rest = _;
      sliced = take_all (length bs - 59) (drop 59 bs) (omega (arith, length-drop 59 bs)) ∙ behind bs 51 8 59 (number_bytes b.id) _ r.at_51 (length-number_bytes b.id) refl;
      long = omega (arith, r.long, length-drop 51 bs, ap length r.at_51, length-append (number_bytes b.id) (text_bytes b.owner ++ (text_bytes b.readers ++ (text_bytes b.writers ++ (number_bytes (length b.meta) ++ pairs_bytes b.meta)))), length-number_bytes b.id);
    }

-- ---- one spelling

pub record SharesAll (a b : Bucket) : Type 0 where
  pub id : a.id ≡ b.id
  pub owner : a.owner ≡ b.owner
  pub readers : a.readers ≡ b.readers
  pub writers : a.writers ≡ b.writers
  pub meta : a.meta ≡ b.meta

pub one_shared : (a b : Bucket) → IsShared a → IsShared b → shared_bytes a ≡ shared_bytes b → SharesAll a b
one_shared a b p q e =
    let id = number_start a.id b.id _ _ p.id_fits q.id_fits e in
    let owner = text_start a.owner b.owner _ _ p.owner q.owner id.1 in
    let readers = text_start a.readers b.readers _ _ p.readers q.readers owner.1 in
    let writers = text_start a.writers b.writers _ _ p.writers q.writers readers.1 in
    let count = number_start (length a.meta) (length b.meta) _ _ p.count_fits q.count_fits writers.1 in
    let meta = all_pairs a.meta b.meta [] p.pairs q.pairs count.0 (append-nil (pairs_bytes a.meta) ∙ count.1) in
    record { id = id.0; owner = owner.0; readers = readers.0; writers = writers.0; meta = meta.0 }

abbrev work_kind : Bool → ℕ
work_kind closing = if closing then 2 else 1

same_closing : (x y : Bool) → work_kind x ≡ work_kind y → x ≡ y
same_closing true true e = refl
same_closing true false e = absurd (omega (arith, e))
same_closing false true e = absurd (omega (arith, e))
same_closing false false e = refl

some_work : (x : Bool) → ◌≡◌ {A = ℕ} 0 (work_kind x) → ⊥
some_work true e = omega (arith, e)
some_work false e = omega (arith, e)

same_busy : (a b : Option Busy) → busy_kind a ≡ busy_kind b → busy_number a ≡ busy_number b → a ≡ b
same_busy None None k n = refl
same_busy None (Some b) k n = absurd (some_work b.closing k)
same_busy (Some a) None k n = absurd (some_work a.closing (sym k))
same_busy (Some a) (Some b) k n = let closing = same_closing a.closing b.closing k in λ i. Some (record { number = n i; closing = closing i })

pub one_bucket : (a b : Bucket) → IsBucket a → IsBucket b → bucket_bytes a ≡ bucket_bytes b → a ≡ b
one_bucket a b p q e =
    let version = number_start a.version b.version _ _ p.version_fits q.version_fits (ap (drop 2) e) in
    let shared = number_start a.shared b.shared _ _ p.shared_fits q.shared_fits version.1 in
    let number = number_start a.number b.number _ _ p.number_fits q.number_fits shared.1 in
    let kind : busy_kind a.busy ≡ busy_kind b.busy = ap (λ z. get_or z 0 0) number.1 in
    let busy = number_start (busy_number a.busy) (busy_number b.busy) _ _ p.busy_fits q.busy_fits (ap (drop 1) number.1) in
    let instance = number_start a.instance b.instance _ _ p.instance_fits q.instance_fits busy.1 in
    let shards = number_start a.shards b.shards _ _ (omega (arith, p.shards_high)) (omega (arith, q.shards_high)) instance.1 in
    let all = one_shared a b p.shared_part q.shared_part shards.1 in
    let work = same_busy a.busy b.busy kind busy.0 in
    λ i. record {
      id = all.id i;
      owner = all.owner i;
      version = version.0 i;
      shared = shared.0 i;
      number = number.0 i;
      busy = work i;
      instance = instance.0 i;
      shards = shards.0 i;
      meta = all.meta i;
      readers = all.readers i;
      writers = all.writers i;
    }

-- ---- the part that zones share

both : (a b : Bool) → a ≡ true → b ≡ true → (a && b) ≡ true
both a b p q = rw p q

left : (a b : Bool) → (a && b) ≡ true → a ≡ true
left true b e = refl
left false b e = absurd (true≢false (sym e))

right : (a b : Bool) → (a && b) ≡ true → b ≡ true
right true b e = e
right false b e = absurd (true≢false (sym e))

text_itself : (x : List ℕ) → bytes_eq x x ≡ true
text_itself x = (bytes_eq-Decides x x).1 refl

pairs_alike : (xs ys : List (List ℕ × List ℕ)) → xs ≡ ys → pointwise is_same_pair xs ys ≡ true
pairs_alike xs ys e = ap (λ z. pointwise is_same_pair xs z) (sym e) ∙ itself xs where
  itself : (xs : List (List ℕ × List ℕ)) → pointwise is_same_pair xs xs ≡ true
  itself [] = refl
  itself (x ∷ xs) = both (is_same_pair x x) (pointwise is_same_pair xs xs) (both (bytes_eq x.0 x.0) (bytes_eq x.1 x.1) (text_itself x.0) (text_itself x.1)) (itself xs)

same_pairs : (xs ys : List (List ℕ × List ℕ)) → pointwise is_same_pair xs ys ≡ true → xs ≡ ys
same_pairs [] [] e = refl
same_pairs [] (y ∷ ys) e = absurd (true≢false (sym e))
same_pairs (x ∷ xs) [] e = absurd (true≢false (sym e))
same_pairs (x ∷ xs) (y ∷ ys) e =
    let one = left (is_same_pair x y) (pointwise is_same_pair xs ys) e in
    let name = (bytes_eq-Decides x.0 y.0).0 (left (bytes_eq x.0 y.0) (bytes_eq x.1 y.1) one) in
    let value = (bytes_eq-Decides x.1 y.1).0 (right (bytes_eq x.0 y.0) (bytes_eq x.1 y.1) one) in
    let more = same_pairs xs ys (right (is_same_pair x y) (pointwise is_same_pair xs ys) e) in
    λ i. (name i, value i) ∷ more i

pub shared_alike : (a b : Bucket) → shares_all a b ≡ true → shared_bytes a ≡ shared_bytes b
shared_alike a b e =
    let id : a.id ≡ b.id = same_id a.id b.id (left (a.id == b.id) _ e) in
    let e1 = right (a.id == b.id) _ e in
    let owner = (bytes_eq-Decides a.owner b.owner).0 (left (bytes_eq a.owner b.owner) _ e1) in
    let e2 = right (bytes_eq a.owner b.owner) _ e1 in
    let meta = same_pairs a.meta b.meta (left (pointwise is_same_pair a.meta b.meta) _ e2) in
    let e3 = right (pointwise is_same_pair a.meta b.meta) _ e2 in
    let readers = (bytes_eq-Decides a.readers b.readers).0 (left (bytes_eq a.readers b.readers) _ e3) in
    let writers = (bytes_eq-Decides a.writers b.writers).0 (right (bytes_eq a.readers b.readers) _ e3) in
    λ i. shared_then (id i) (owner i) (readers i) (writers i) (length (meta i)) (pairs_bytes (meta i)) where
      same_id : (x y : ℕ) → (x == y) ≡ true → x ≡ y
      same_id x y here = grind (arith, nat_tests)

pub alike_shared : (a b : Bucket) → SharesAll a b → shares_all a b ≡ true
alike_shared a b is =
    both (a.id == b.id) _ (ap (λ z. a.id == z) (sym is.id) ∙ number_itself a.id)
    (both (bytes_eq a.owner b.owner) _ ((bytes_eq-Decides a.owner b.owner).1 is.owner)
    (both (pointwise is_same_pair a.meta b.meta) _ (pairs_alike a.meta b.meta is.meta)
    (both (bytes_eq a.readers b.readers) _ ((bytes_eq-Decides a.readers b.readers).1 is.readers) ((bytes_eq-Decides a.writers b.writers).1 is.writers))))

-- the kept row has the same shared part, or another one
pub found_shared : (old b : Bucket) → IsShared old → IsShared b → shared_bytes old ≡ shared_bytes b → same_shared (Some old) b ≡ Some old.shared
found_shared old b p q e = let yes = alike_shared old b (one_shared old b p q e) in ap (λ x. if x then Some old.shared else None) yes

pub other_shared : (old b : Bucket) → shared_bytes old ≢ shared_bytes b → same_shared (Some old) b ≡ None
other_shared old b differs = ap (λ x. if x then Some old.shared else None) (false_from_ne_true (shares_all old b) (λ yes. differs (shared_alike old b yes)))
