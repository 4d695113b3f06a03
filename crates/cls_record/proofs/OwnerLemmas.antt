-- Which account owns which container, once a row and account rows changed.
use Rattle.std.proofs.Common.{◌≡◌, ◌≢◌, ℕ, ◌&&◌, Bool, true, false, if◌then◌else◌, List, length, ◌^◌, ◌<◌, bytes_eq, Option, Some, None, IfSome, option_map, refl, sym, ap, ◌∙◌, subst}
use Rattle.std.specs.Ordering.{eq_by_cmp}
use Rattle.std.proofs.lemmas.Bool.{and_parts}
use Rattle.std.proofs.lemmas.Slice.Eq.{bytes_eq-Decides}
use Rattle.object_words.specs.declared.bucket.Bucket.{Bucket}
use Rattle.object_words.specs.Names.{Named, at, name_cmp}
use Rattle.object_words.specs.Roots.{with_bucket}
use Rattle.index_entry.proofs.EntryLemmas.{none_some}
use Rattle.class_words.proofs.LogLemmas.{same_name}
use Rattle.cls_record.specs.RootObjects.{account_key, is_owner, owned, with_owner}
use Rattle.cls_record.specs.BucketRows.{IsBucket}
use Rattle.cls_record.proofs.PieceLemmas.{same_in_some}
use Rattle.cls_record.proofs.KeyLemmas.{one_account}
use Rattle.cls_record.proofs.RootLemmas.{at-with_bucket}

and_true : (t : Bool) (x y : Bool) → (if t && true then x else y) ≡ (if t then x else y)
and_true true x y = refl
and_true false x y = refl

and_false : (t : Bool) (x y : Bool) → (if t && false then x else y) ≡ y
and_false true x y = refl
and_false false x y = refl

itself : (t : Bool) → (if t then true else false) ≡ t
itself true = refl
itself false = refl

module _ (buckets : Named Bucket) (name : List ℕ) where
  -- at this name, and at another
  here : (owns : List ℕ → List ℕ → Bool) (account : List ℕ) (there : Bool) (a n : List ℕ) → eq_by_cmp name_cmp n name ≡ true
      → with_owner owns account name there a n ≡ (if bytes_eq account a then there else owns a n)
  here owns account there a n e = ap (λ t. if bytes_eq account a && t then there else owns a n) e ∙ and_true (bytes_eq account a) there (owns a n)

  else_where : (owns : List ℕ → List ℕ → Bool) (account : List ℕ) (there : Bool) (a n : List ℕ) → eq_by_cmp name_cmp n name ≡ false
      → with_owner owns account name there a n ≡ owns a n
  else_where owns account there a n e = ap (λ t. if bytes_eq account a && t then there else owns a n) e ∙ and_false (bytes_eq account a) there (owns a n)

  kept_here : (a n : List ℕ) → eq_by_cmp name_cmp n name ≡ true → owned buckets a n ≡ is_owner a (at buckets name)
  kept_here a n e = ap (λ q. is_owner a (at buckets q)) (same_name n name e)

  -- only the row of this name changes
  owned_after : (owns : List ℕ → List ℕ → Bool) (x : Option Bucket) → ((a n : List ℕ) → eq_by_cmp name_cmp n name ≡ true → owns a n ≡ is_owner a x)
      → ((a n : List ℕ) → eq_by_cmp name_cmp n name ≡ false → owns a n ≡ owned buckets a n) → (a n : List ℕ) → owns a n ≡ owned (with_bucket buckets name x) a n
  owned_after owns x at_name others a n =
      elim (eq_by_cmp name_cmp n name) as (λ t. eq_by_cmp name_cmp n name ≡ t → owns a n ≡ is_owner a (if t then x else at buckets n)) [
        | true ↦ λ e. at_name a n e
        | false ↦ λ e. others a n e
      ] refl ∙ ap (is_owner a) (sym (at-with_bucket buckets name x n))

  pub owners_made : (b : Bucket) → at buckets name ≡ None → (a n : List ℕ) → with_owner (owned buckets) b.owner name true a n ≡ owned (with_bucket buckets name (Some b)) a n
  owners_made b none = owned_after (with_owner (owned buckets) b.owner name true) (Some b)
      (λ a n e. here (owned buckets) b.owner true a n e ∙ ap (λ t. if bytes_eq b.owner a then true else t) (kept_here a n e ∙ ap (is_owner a) none) ∙ itself (bytes_eq b.owner a))
      (λ a n e. else_where (owned buckets) b.owner true a n e)

  pub owners_kept : (old b : Bucket) → at buckets name ≡ Some old → old.owner ≡ b.owner → (a n : List ℕ) → owned buckets a n ≡ owned (with_bucket buckets name (Some b)) a n
  owners_kept old b is same = owned_after (owned buckets) (Some b) (λ a n e. kept_here a n e ∙ ap (is_owner a) is ∙ ap (λ o. bytes_eq o a) same) (λ a n e. refl)

  one_owner : (x y a : List ℕ) → x ≢ y → (if bytes_eq x a then false else (if bytes_eq y a then true else bytes_eq x a)) ≡ bytes_eq y a
  one_owner x y a apart =
      elim (bytes_eq x a) as (λ t. bytes_eq x a ≡ t → (if t then false else (if bytes_eq y a then true else t)) ≡ bytes_eq y a) [
        | true ↦ λ e. elim (bytes_eq y a) as (λ t. bytes_eq y a ≡ t → false ≡ t) [
          | true ↦ λ d. absurd (apart ((bytes_eq-Decides x a).0 e ∙ sym ((bytes_eq-Decides y a).0 d)))
          | false ↦ λ d. refl
        ] refl
        | false ↦ λ e. itself (bytes_eq y a)
      ] refl

  pub owners_moved : (old b : Bucket) → at buckets name ≡ Some old → old.owner ≢ b.owner
      → (a n : List ℕ) → with_owner (with_owner (owned buckets) b.owner name true) old.owner name false a n ≡ owned (with_bucket buckets name (Some b)) a n
  owners_moved old b is apart =
      let both = with_owner (owned buckets) b.owner name true in
      owned_after (with_owner both old.owner name false) (Some b)
      (λ a n e. here both old.owner false a n e
      ∙ ap (λ t. if bytes_eq old.owner a then false else t) (here (owned buckets) b.owner true a n e ∙ ap (λ t. if bytes_eq b.owner a then true else t) (kept_here a n e ∙ ap (is_owner a) is))
      ∙ one_owner old.owner b.owner a apart)
      (λ a n e. else_where both old.owner false a n e ∙ else_where (owned buckets) b.owner true a n e)

  gone : (t : Bool) → (if t then false else t) ≡ false
  gone true = refl
  gone false = refl

  pub owners_taken : (old : Bucket) → at buckets name ≡ Some old → (a n : List ℕ) → with_owner (owned buckets) old.owner name false a n ≡ owned (with_bucket buckets name None) a n
  owners_taken old is = owned_after (with_owner (owned buckets) old.owner name false) None
      (λ a n e. here (owned buckets) old.owner false a n e ∙ ap (λ t. if bytes_eq old.owner a then false else t) (kept_here a n e ∙ ap (is_owner a) is) ∙ gone (bytes_eq old.owner a))
      (λ a n e. else_where (owned buckets) old.owner false a n e)

  pub owners_none : at buckets name ≡ None → (a n : List ℕ) → owned buckets a n ≡ owned (with_bucket buckets name None) a n
  owners_none none = owned_after (owned buckets) None (λ a n e. kept_here a n e ∙ ap (is_owner a) none) (λ a n e. refl)

-- what was put and taken away again
pub owners_undone : (owns : List ℕ → List ℕ → Bool) (account name : List ℕ) → owns account name ≡ false
    → (a n : List ℕ) → with_owner (with_owner owns account name true) account name false a n ≡ owns a n
owners_undone owns account name none a n =
    elim (bytes_eq account a && eq_by_cmp name_cmp n name) as (λ t. (bytes_eq account a && eq_by_cmp name_cmp n name) ≡ t → (if t then false else (if t then true else owns a n)) ≡ owns a n) [
      | true ↦ λ e.
          let both = and_parts _ _ e in
          sym none ∙ (λ i. owns ((bytes_eq-Decides account a).0 both.0 i) (sym (same_name n name both.1) i))
      | false ↦ λ e. refl
    ] refl

-- what the key of the account row that is kept says
pub kept_none : (found : Option Bucket) (name : List ℕ) → option_map (λ (b : Bucket). account_key b.owner name) found ≡ None → found ≡ None
kept_none None name e = refl
kept_none (Some b) name e = absurd (none_some _ (sym e))

pub record HasAccount (found : Option Bucket) (name key : List ℕ) : Type 0 where
  pub old : Bucket
  pub here : found ≡ Some old
  pub key_is : key ≡ account_key old.owner name

pub kept_some : (found : Option Bucket) (name key : List ℕ) → option_map (λ (b : Bucket). account_key b.owner name) found ≡ Some key → HasAccount found name key
kept_some None name key e = absurd (none_some key e)
kept_some (Some b) name key e = record { old = b; here = refl; key_is = sym (same_in_some _ _ e) }

-- keys of one container tell whether the accounts are the same
pub same_owner : (x y name : List ℕ) → length x < 2 ^ 64 → length y < 2 ^ 64 → account_key x name ≡ account_key y name → x ≡ y
same_owner x y name fx fy e = (one_account x y name name fx fy e).0

-- an owner that is kept fits
pub owner_fits : (found : Option Bucket) (old : Bucket) → IfSome found IsBucket → found ≡ Some old → length old.owner < 2 ^ 64
owner_fits None old is e = absurd (none_some old e)
owner_fits (Some b) old is e = subst (λ (x : Bucket). length x.owner < 2 ^ 64) (same_in_some b old e) is.shared_part.owner.1
