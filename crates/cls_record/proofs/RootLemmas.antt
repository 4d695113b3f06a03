-- What a root has under a name, and what a change of one row leaves of it.
use Rattle.std.proofs.Common.{◌≡◌, ◌≢◌, ℕ, ◌+◌, ◌^◌, ◌<◌, ◌==◌, ◌&&◌, Bool, true, false, true≢false, cond, if◌then◌else◌, nat_lt, nat_le, List, [], length, bytes_eq, Option, Some, None, IfSome, option_map, refl, sym, ap, ◌∙◌, subst, arith}
use Rattle.std.specs.Ordering.{eq_by_cmp, is_lt}
use Rattle.std.proofs.lemmas.Bool.{and_parts}
use Rattle.std.proofs.lemmas.Slice.Eq.{bytes_eq-Decides}
use Rattle.std.proofs.lemmas.Bool.Decides.{nat_tests}
use Rattle.omap_pages.specs.Rows.{KeepsOthers, key_cmp, value_at}
use Rattle.object_pool.specs.declared.place.Place.{Place}
use Rattle.object_pool.specs.Objects.{Object, nothing}
use Rattle.object_pool.specs.Places.{Readies, object_of}
use Rattle.object_words.specs.declared.bucket.Bucket.{Bucket}
use Rattle.object_words.specs.declared.log.LogWhat.TheVariants.{Bucket as bucket_row}
use Rattle.object_words.specs.Names.{Named, at}
use Rattle.object_words.specs.Logs.{Log, logged}
use Rattle.object_words.specs.Roots.{Root, no_root, with_bucket}
use Rattle.object_words.proofs.NameLemmas.{at-none, at-with_name, at-without_name}
use Rattle.index_entry.specs.Numbers.{number_bytes}
use Rattle.index_entry.specs.LogRows.{log_key, what_bytes}
use Rattle.index_entry.proofs.EntryLemmas.{none_some}
use Rattle.class_words.specs.LogRows.{logged_at, or_logged}
use Rattle.class_words.specs.Shards.{IsObjectName}
use Rattle.class_words.proofs.LogLemmas.{absent_after, grown_log, grown_others, grown_there, name_itself, names_apart, next_plain, no_log_row, not_log_key, same_name}
use Rattle.cls_record.specs.BucketRows.{IsBucket, bucket_bytes}
use Rattle.cls_record.specs.RootObjects.{IsBucketName, IsRoot, IsRootWith, account_key, accounts_start, is_owner, with_log_row, with_owner, with_row}
use Rattle.cls_record.proofs.KeyLemmas.{name_low, one_account, other_key}
use Rattle.cls_record.proofs.PieceLemmas.{same_in_some}

longer : (n : ℕ) (b : Bool) → (nat_lt 0 n && (nat_le n 256 && b)) ≡ true → (nat_lt 0 n && (nat_le n 1024 && b)) ≡ true
longer n b e = grind (arith, nat_tests)

-- the name of a container could be one of an object
pub object_name : (name : List ℕ) → IsBucketName name → IsObjectName name
object_name name is = (longer (length name) _ is.0, is.1)

pub no_log_row_there : (log : Log) (name : List ℕ) → IsBucketName name → logged_at log name ≡ None
no_log_row_there log name is = no_log_row log name (object_name name is)

alone : (found : Option (List ℕ)) → or_logged found None ≡ found
alone None = refl
alone (Some x) = refl

-- ---- what is under a name

pub row_under : (o : Object) (r : Root) (name : List ℕ) → IsRoot o r → IsBucketName name → value_at o.rows.rows name ≡ option_map bucket_bytes (at r.buckets name)
row_under o r name is named =
    is.rows name (name_low name named) ∙ ap (or_logged (option_map bucket_bytes (at r.buckets name))) (no_log_row_there r.log name named) ∙ alone (option_map bucket_bytes (at r.buckets name))

-- the row that these bytes are
pub record IsKept (found : Option Bucket) (row : List ℕ) : Type 0 where
  pub bucket : Bucket
  pub is : IsBucket bucket
  pub here : found ≡ Some bucket
  pub bytes : row ≡ bucket_bytes bucket

kept_of : (found : Option Bucket) (row : List ℕ) → IfSome found IsBucket → option_map bucket_bytes found ≡ Some row → IsKept found row
kept_of None row is e = absurd (none_some row e)
kept_of (Some b) row is e = record { bucket = b; is = is; here = refl; bytes = sym (same_in_some _ _ e) }

pub kept_row : (o : Object) (r : Root) (name row : List ℕ) → IsRoot o r → IsBucketName name → Some row ≡ value_at o.rows.rows name → IsKept (at r.buckets name) row
kept_row o r name row is named e = kept_of (at r.buckets name) row (is.bucket name) (sym (row_under o r name is named) ∙ sym e)

none_of : (found : Option Bucket) → option_map bucket_bytes found ≡ None → found ≡ None
none_of None e = refl
none_of (Some b) e = absurd (none_some _ (sym e))

pub no_row : (o : Object) (r : Root) (name : List ℕ) → IsRoot o r → IsBucketName name → None ≡ value_at o.rows.rows name → at r.buckets name ≡ None
no_row o r name is named e = none_of (at r.buckets name) (sym (row_under o r name is named) ∙ sym e)

-- ---- the object changes, and the root stays

pub readied : (old new : Place) (r : Root) → Readies old new → IsRoot (object_of old) r → IsRoot (object_of new) r
readied old new r ready is = record {
  bytes = ap (λ (o : Object). o.bytes) ready.change.object ∙ is.bytes;
  attrs = ap (λ (o : Object). o.attrs) ready.change.object ∙ is.attrs;
  rows = λ key low. ap (λ rows. value_at rows key) ready.kept.rows ∙ is.rows key low;
  accounts = λ account name fits. ap (λ rows. value_at rows (account_key account name)) ready.kept.rows ∙ is.accounts account name fits;
  named = is.named;
  bucket = is.bucket;
  log = is.log;
}

-- ---- one row changes

pub at-with_bucket : (m : Named Bucket) (name : List ℕ) (x : Option Bucket) (q : List ℕ) → at (with_bucket m name x) q ≡ cond (eq_by_cmp key_cmp q name) x (at m q)
at-with_bucket m name (Some b) q = at-with_name m name b q
at-with_bucket m name None q = at-without_name m name q

always : {A : Type 0} (found : Option A) (P : Type 0) → P → IfSome found (λ _. P)
always None P p = tt
always (Some x) P p = p

pub row_changed : (o p : Object) (r : Root) (owns : List ℕ → List ℕ → Bool) (name : List ℕ) (x : Option Bucket) → IsRootWith o r owns → IsBucketName name → IfSome x IsBucket → p.bytes ≡ o.bytes → p.attrs ≡ o.attrs
    → value_at p.rows.rows name ≡ option_map bucket_bytes x → KeepsOthers o.rows.rows p.rows.rows name → IsRootWith p (with_row r name x) owns
row_changed o p r owns name x is named fits bytes attrs there others = record {
  bytes = bytes ∙ is.bytes;
  attrs = attrs ∙ is.attrs;
  rows = rows;
  accounts = λ account n fits. others (account_key account n) (other_key account n name (name_low name named)) ∙ is.accounts account n fits;
  named = λ q. subst (λ f. IfSome f (λ _. IsBucketName q)) (sym (at-with_bucket r.buckets name x q)) (name_of q);
  bucket = λ q. subst (λ f. IfSome f IsBucket) (sym (at-with_bucket r.buckets name x q)) (bucket_of q);
  log = is.log;
} where
  rows : (key : List ℕ) → is_lt (key_cmp key accounts_start) ≡ true → value_at p.rows.rows key ≡ or_logged (option_map bucket_bytes (at (with_bucket r.buckets name x) key)) (logged_at r.log key)
  rows key low =
      elim (eq_by_cmp key_cmp key name) as (λ b. eq_by_cmp key_cmp key name ≡ b → value_at p.rows.rows key ≡ or_logged (option_map bucket_bytes (cond b x (at r.buckets key))) (logged_at r.log key)) [
        | true ↦ λ e. let same = same_name key name e in
            ap (value_at p.rows.rows) same ∙ there ∙ sym (alone (option_map bucket_bytes x)) ∙ ap (or_logged (option_map bucket_bytes x)) (sym (no_log_row_there r.log name named) ∙ ap (logged_at r.log) (sym same))
        | false ↦ λ e. others key (names_apart key name e) ∙ is.rows key low
      ] refl ∙ ap (λ f. or_logged (option_map bucket_bytes f) (logged_at r.log key)) (sym (at-with_bucket r.buckets name x key))

  name_of : (q : List ℕ) → IfSome (cond (eq_by_cmp key_cmp q name) x (at r.buckets q)) (λ _. IsBucketName q)
  name_of q =
      elim (eq_by_cmp key_cmp q name) as (λ b. eq_by_cmp key_cmp q name ≡ b → IfSome (cond b x (at r.buckets q)) (λ _. IsBucketName q)) [
        | true ↦ λ e. always x (IsBucketName q) (subst IsBucketName (sym (same_name q name e)) named)
        | false ↦ λ e. is.named q
      ] refl

  bucket_of : (q : List ℕ) → IfSome (cond (eq_by_cmp key_cmp q name) x (at r.buckets q)) IsBucket
  bucket_of q = elim (eq_by_cmp key_cmp q name) as (λ b. IfSome (cond b x (at r.buckets q)) IsBucket) [ true ↦ fits | false ↦ is.bucket q ]

-- ---- one account row changes

-- the account row of one container is put or taken away
pub account_changed : (o p : Object) (r : Root) (owns : List ℕ → List ℕ → Bool) (account name : List ℕ) (there : Bool) → IsRootWith o r owns → length account < 2 ^ 64
    → p.bytes ≡ o.bytes → p.attrs ≡ o.attrs → value_at p.rows.rows (account_key account name) ≡ (if there then Some [] else None)
    → KeepsOthers o.rows.rows p.rows.rows (account_key account name) → IsRootWith p r (with_owner owns account name there)
account_changed o p r owns account name there is fits bytes attrs here others = record {
  bytes = bytes ∙ is.bytes;
  attrs = attrs ∙ is.attrs;
  rows = λ key low. others key (λ same. other_key account name key low (sym same)) ∙ is.rows key low;
  accounts = accounts;
  named = is.named;
  bucket = is.bucket;
  log = is.log;
} where
  accounts : (a n : List ℕ) → length a < 2 ^ 64 → value_at p.rows.rows (account_key a n) ≡ (if with_owner owns account name there a n then Some [] else None)
  accounts a n a_fits =
      elim (bytes_eq account a && eq_by_cmp key_cmp n name) as (λ b. (bytes_eq account a && eq_by_cmp key_cmp n name) ≡ b → value_at p.rows.rows (account_key a n) ≡ (if (if b then there else owns a n) then Some [] else None)) [
        | true ↦ λ e.
            let both = and_parts _ _ e in
            let same_account : account ≡ a = (bytes_eq-Decides account a).0 both.0 in
            let same_container : n ≡ name = same_name n name both.1 in
            ap (value_at p.rows.rows) (λ i. account_key (sym same_account i) (same_container i)) ∙ here
        | false ↦ λ e.
            let apart : account_key a n ≢ account_key account name = λ same.
            let both = one_account a account n name a_fits fits same in
            let alike : (bytes_eq account a && eq_by_cmp key_cmp n name) ≡ true = rw ((bytes_eq-Decides account a).1 (sym both.0)) (ap (λ z. eq_by_cmp key_cmp z name) both.1 ∙ name_itself name) in
            true≢false (sym alike ∙ e) in
            others (account_key a n) apart ∙ is.accounts a n a_fits
      ] refl

-- account rows are as those say that say the same
pub owners_as : (o : Object) (r : Root) (owns same : List ℕ → List ℕ → Bool) → ((a n : List ℕ) → owns a n ≡ same a n) → IsRootWith o r owns → IsRootWith o r same
owners_as o r owns same all is = record {
  bytes = is.bytes;
  attrs = is.attrs;
  rows = is.rows;
  accounts = λ a n fits. is.accounts a n fits ∙ ap (λ b. if b then Some [] else None) (all a n);
  named = is.named;
  bucket = is.bucket;
  log = is.log;
}

-- ---- one row more in the log

no_bucket_of : (found : Option Bucket) (key : List ℕ) (p : ℕ) → key ≡ log_key p → IfSome found (λ _. IsBucketName key) → found ≡ None
no_bucket_of None key p same is = refl
no_bucket_of (Some b) key p same is = absurd (not_log_key key p (object_name key is) same)

no_bucket : (o : Object) (r : Root) (key : List ℕ) (p : ℕ) → IsRoot o r → key ≡ log_key p → at r.buckets key ≡ None
no_bucket o r key p is same = no_bucket_of (at r.buckets key) key p same (is.named key)

pub no_next_row : (o : Object) (r : Root) (p : ℕ) → IsRoot o r → r.log.last < 2 ^ 63 → p ≡ r.log.last + 1 → value_at o.rows.rows (log_key p) ≡ None
no_next_row o r p is small next =
    is.rows (log_key p) refl ∙ ap (λ f. or_logged (option_map bucket_bytes f) (logged_at r.log (log_key p))) (no_bucket o r (log_key p) p is refl)
    ∙ ap (λ n. logged_at r.log (log_key n)) next ∙ absent_after r.log is.log (omega (arith, small))

later_attrs : (n : ℕ) → 0 < n → (if n == 0 then [] else number_bytes n) ≡ number_bytes n
later_attrs n above = let e : (n == 0) ≡ false = grind (arith, nat_tests) in ap (λ b. if b then [] else number_bytes n) e

pub log_grown : (o p : Object) (r : Root) (name : List ℕ) → IsRoot o r → IsBucketName name → r.log.last < 2 ^ 63 → p.bytes ≡ o.bytes → p.attrs ≡ number_bytes (r.log.last + 1)
    → value_at p.rows.rows (log_key (r.log.last + 1)) ≡ Some (what_bytes (bucket_row name)) → KeepsOthers o.rows.rows p.rows.rows (log_key (r.log.last + 1))
    → IsRoot p (with_log_row r name)
log_grown o p r name is named small bytes attrs there others = record {
  bytes = bytes ∙ is.bytes;
  attrs = attrs ∙ sym (ap (λ n. if n == 0 then [] else number_bytes n) (next_plain r.log.last fits) ∙ later_attrs (r.log.last + 1) (omega arith));
  rows = rows;
  accounts = λ account n accounts_fit. others (account_key account n) (other_key account n (log_key (r.log.last + 1)) refl) ∙ is.accounts account n accounts_fit;
  named = is.named;
  bucket = is.bucket;
  log = grown_log r.log (bucket_row name) is.log named fits;
} where
  fits : r.log.last + 1 < 2 ^ 64
  fits = omega (arith, small)

  rows : (key : List ℕ) → is_lt (key_cmp key accounts_start) ≡ true → value_at p.rows.rows key ≡ or_logged (option_map bucket_bytes (at r.buckets key)) (logged_at (logged r.log (bucket_row name)) key)
  rows key low =
      elim (eq_by_cmp key_cmp key (log_key (r.log.last + 1))) as (λ b. eq_by_cmp key_cmp key (log_key (r.log.last + 1)) ≡ b → value_at p.rows.rows key ≡ or_logged (option_map bucket_bytes (at r.buckets key)) (logged_at (logged r.log (bucket_row name)) key)) [
        | true ↦ λ e. let same = same_name key (log_key (r.log.last + 1)) e in
            ap (value_at p.rows.rows) same ∙ there ∙ sym (ap (logged_at (logged r.log (bucket_row name))) same ∙ grown_there r.log (bucket_row name) is.log fits)
            ∙ ap (λ f. or_logged (option_map bucket_bytes f) (logged_at (logged r.log (bucket_row name)) key)) (sym (no_bucket o r key (r.log.last + 1) is same))
        | false ↦ λ e. let apart = names_apart key (log_key (r.log.last + 1)) e in
            others key apart ∙ is.rows key low ∙ ap (or_logged (option_map bucket_bytes (at r.buckets key))) (sym (grown_others r.log (bucket_row name) key is.log fits apart))
      ] refl

-- a zone without containers
pub new_root : IsRoot nothing no_root
new_root = record {
  bytes = refl;
  attrs = refl;
  rows = λ key low. sym (ap (λ f. or_logged (option_map bucket_bytes f) None) (at-none key));
  accounts = λ account name fits. sym (ap (λ f. if is_owner account f then Some [] else None) (at-none name));
  named = λ q. subst (λ f. IfSome f (λ _. IsBucketName q)) (sym (at-none q)) tt;
  bucket = λ q. subst (λ f. IfSome f IsBucket) (sym (at-none q)) tt;
  log = record { rows = tt; rise = refl; last_fits = omega arith };
}
