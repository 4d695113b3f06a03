-- The rows that a page of names is read from are those of the names.
use Rattle.std.proofs.Common.{◌≡◌, ℕ, zero, suc, ◌-◌, Bool, true, false, true≢false, cond, if◌then◌else◌, T, List, [], ◌∷◌, ◌++◌, map, take, drop, get_or, length, ◌^◌, ◌<◌, bytes_eq, append_assoc, append-nil, Option, Some, None, IfSome, option_map, refl, sym, ap, ◌∙◌, subst, arith, length-append}
use Rattle.std.specs.List.{AllByRecursion}
use Rattle.std.specs.Ordering.{is_lt}
use Rattle.std.specs.FinMap.Entries.{find, find-where_key, is_sorted, is_sorted-where_key, where_key}
use Rattle.std.proofs.lemmas.List.{drop_at, length-drop, nil_from_length, take-map, take_all}
use Rattle.omap_pages.specs.Rows.{Rows, key_cmp, value_at}
use Rattle.omap_pages.specs.Rows.{rows_after as later_rows}
use Rattle.object_pool.specs.Objects.{Object}
use Rattle.object_words.specs.declared.bucket.Bucket.{Bucket}
use Rattle.object_words.specs.Names.{at, entries, name_cmp, where_name}
use Rattle.object_words.specs.Pages.{account_names, bucket_names, rows_after}
use Rattle.object_words.specs.Roots.{Root}
use Rattle.index_entry.proofs.EntryLemmas.{none_some}
use Rattle.class_words.specs.LogRows.{logged_at, or_logged}
use Rattle.cls_record.specs.BucketRows.{bucket_bytes}
use Rattle.class_words.specs.Pages.{StartsAt}
use Rattle.cls_record.specs.Pages.{keys_below}
use Rattle.cls_record.specs.RootObjects.{IsBucketName, IsRoot, account_front, account_key, accounts_start, is_owner}
use Rattle.cls_record.proofs.KeyLemmas.{name_low}
use Rattle.class_words.proofs.AboveLog.{none_in, same_key}
use Rattle.cls_record.proofs.FrontLemmas.{behind_front, between, front_cmp, not_behind}
use Rattle.cls_record.proofs.RootLemmas.{object_name}
use Rattle.cls_record.proofs.ListLemmas.{Entries, all_below, all_found, all_passing, find_passing, first_below, is_below_end, keys_written, passed, passing, same_rows, sorted_passing}

abbrev names_of : Entries → List (List ℕ)
names_of es = map (λ (e : List ℕ × Bucket). e.0) es

-- ---- the rows above a name

after_at : (r : Root) (after q : List ℕ) → find key_cmp q (rows_after r after) ≡ cond (is_lt (key_cmp after q)) (at r.buckets q) None
unfolding entries where_name at
after_at r after q = find-where_key key_cmp (λ n. is_lt (key_cmp after n)) q (λ x tie. ap (λ n. is_lt (key_cmp after n)) (sym (same_key q x tie))) r.buckets.list

after_sorted : (r : Root) (after : List ℕ) → T (is_sorted key_cmp (rows_after r after))
unfolding entries where_name
after_sorted r after = (where_name (λ name. is_lt (name_cmp after name)) r.buckets).sorted

of_some : (b : Bool) (o : Option Bucket) (x : Bucket) → cond b o None ≡ Some x → o ≡ Some x
of_some true o x e = e
of_some false o x e = absurd (none_some x e)

named_after : (o : Object) (r : Root) (after : List ℕ) → IsRoot o r → AllByRecursion (λ (e : List ℕ × Bucket). IsBucketName e.0) (rows_after r after)
named_after o r after is = all_found IsBucketName (rows_after r after) (after_sorted r after) (λ q x here.
    subst (λ o. IfSome o (λ _. IsBucketName q)) (of_some (is_lt (key_cmp after q)) (at r.buckets q) x (sym (after_at r after q) ∙ here)) (is.named q))

first_named : (n : ℕ) (es : Entries) → AllByRecursion (λ (e : List ℕ × Bucket). IsBucketName e.0) es → AllByRecursion IsBucketName (take n (names_of es))
first_named zero es all = tt
first_named (suc n) [] all = tt
first_named (suc n) (e ∷ es) all = (all.0, first_named n es all.1)

-- ---- the rows between a start and an end

abbrev rows_between : Rows → List ℕ → List ℕ → Rows
rows_between rows start end = where_key key_cmp (is_below_end end) (later_rows rows start)

between_at : (rows : Rows) (start end q : List ℕ) → find key_cmp q (rows_between rows start end) ≡ cond (is_lt (key_cmp q end)) (cond (is_lt (key_cmp start q)) (value_at rows q) None) None
between_at rows start end q =
    find-where_key key_cmp (is_below_end end) q (λ x tie. ap (is_below_end end) (sym (same_key q x tie))) (later_rows rows start)
    ∙ ap (λ v. cond (is_lt (key_cmp q end)) v None) (find-where_key key_cmp (λ k. is_lt (key_cmp start k)) q (λ x tie. ap (λ n. is_lt (key_cmp start n)) (sym (same_key q x tie))) rows)

page_keys : (rows found : Rows) (start end p : List ℕ) (f : Bucket → List ℕ) (es : Entries) (limit : ℕ) → T (is_sorted key_cmp rows) → T (is_sorted key_cmp es)
    → found ≡ take limit (later_rows rows start) → ((n : List ℕ) → find key_cmp (p ++ n) (rows_between rows start end) ≡ option_map f (find key_cmp n es))
    → ((q : List ℕ) → behind_front p q ≡ None → find key_cmp q (rows_between rows start end) ≡ None)
    → keys_below end found ≡ map (λ n. p ++ n) (take limit (names_of es))
page_keys rows found start end p f es limit order es_order is here others =
    let later = is_sorted-where_key key_cmp (λ k. is_lt (key_cmp start k)) rows order in
    let chosen = is_sorted-where_key key_cmp (is_below_end end) (later_rows rows start) later in
    ap (keys_below end) is ∙ first_below end limit (later_rows rows start)
    ∙ ap (take limit) (all_below end (later_rows rows start) later ∙ ap (map (λ (row : List ℕ × List ℕ). row.0)) (same_rows p f (rows_between rows start end) es chosen es_order here others) ∙ keys_written p f es)
    ∙ take-map (λ n. p ++ n) limit (names_of es)

-- what a page of names is read from
pub record IsNamesPage (front end : List ℕ) (found : Rows) (names : List (List ℕ)) : Type 0 where
  pub keys : keys_below end found ≡ map (λ n. front ++ n) names
  pub named : AllByRecursion IsBucketName names

-- ---- the names of all containers

module _ (o : Object) (r : Root) (is : IsRoot o r) where
  no_bucket : (found : Option Bucket) (n : List ℕ) → IfSome found (λ _. IsBucketName n) → is_lt (key_cmp n accounts_start) ≡ false → found ≡ None
  no_bucket None n named high = refl
  no_bucket (Some b) n named high = absurd (true≢false (sym (name_low n named) ∙ high))

  nothing_left : (b : Bool) (f : Bucket → List ℕ) → option_map f (cond b None None) ≡ None
  nothing_left true f = refl
  nothing_left false f = refl

  one_low : (after start n : List ℕ) → StartsAt after start → is_lt (key_cmp n accounts_start) ≡ true
      → cond (is_lt (key_cmp start n)) (value_at o.rows.rows n) None ≡ option_map bucket_bytes (cond (is_lt (key_cmp after n)) (at r.buckets n) None)
  one_low after start n from low =
      ap (λ v. cond (is_lt (key_cmp start n)) v None) (is.rows n low)
      ∙ elim (at r.buckets n) as (λ f. IfSome f (λ _. IsBucketName n) → cond (is_lt (key_cmp start n)) (or_logged (option_map bucket_bytes f) (logged_at r.log n)) None ≡ option_map bucket_bytes (cond (is_lt (key_cmp after n)) f None)) [
        | Some e ↦ λ named. rw (from.low n (object_name n named)) (elim (is_lt (key_cmp after n)) as (λ b. cond b (Some (bucket_bytes e)) None ≡ option_map bucket_bytes (cond b (Some e) None)) [ true ↦ refl | false ↦ refl ])
        | None ↦ λ named.
            elim (is_lt (key_cmp start n)) as (λ b. is_lt (key_cmp start n) ≡ b → cond b (logged_at r.log n) None ≡ None) [
              | true ↦ λ above. none_in r.log.rows n (from.log n above)
              | false ↦ λ above. refl
            ] refl ∙ sym (nothing_left (is_lt (key_cmp after n)) bucket_bytes)
      ] (is.named n)

  bucket_here : (after start n : List ℕ) → StartsAt after start
      → find key_cmp n (rows_between o.rows.rows start accounts_start) ≡ option_map bucket_bytes (find key_cmp n (rows_after r after))
  bucket_here after start n from =
      between_at o.rows.rows start accounts_start n
      ∙ elim (is_lt (key_cmp n accounts_start)) as (λ b. is_lt (key_cmp n accounts_start) ≡ b → cond b (cond (is_lt (key_cmp start n)) (value_at o.rows.rows n) None) None ≡ option_map bucket_bytes (cond (is_lt (key_cmp after n)) (at r.buckets n) None)) [
        | true ↦ λ low. one_low after start n from low
        | false ↦ λ high. sym (ap (λ f. option_map bucket_bytes (cond (is_lt (key_cmp after n)) f None)) (no_bucket (at r.buckets n) n (is.named n) high) ∙ nothing_left (is_lt (key_cmp after n)) bucket_bytes)
      ] refl ∙ ap (option_map bucket_bytes) (sym (after_at r after n))

  pub bucket_rows : (after start : List ℕ) (limit : ℕ) (found : Rows) → T (is_sorted key_cmp o.rows.rows) → StartsAt after start
      → found ≡ take limit (later_rows o.rows.rows start) → IsNamesPage [] accounts_start found (bucket_names r after limit)
  bucket_rows after start limit found order from here = record {
    keys = page_keys o.rows.rows found start accounts_start [] bucket_bytes (rows_after r after) limit order (after_sorted r after) here (λ n. bucket_here after start n from)
        (λ q none. absurd (none_some q (sym none)));
    named = first_named limit (rows_after r after) (named_after o r after is);
  }

  -- ---- the names of an account

  module _ (account : List ℕ) (fits : length account < 2 ^ 64) where
    abbrev is_its : Bucket → Bool
    is_its b = bytes_eq b.owner account

    abbrev no_value : Bucket → List ℕ
    no_value b = []

    account_here : (after n : List ℕ)
        → find key_cmp (account_front account ++ n) (rows_between o.rows.rows (account_key account after) (account_key account accounts_start))
        ≡ option_map no_value (find key_cmp n (passing is_its (rows_after r after)))
    account_here after n =
        let front = account_front account in
        between_at o.rows.rows (front ++ after) (front ++ accounts_start) (front ++ n)
        ∙ (λ i. cond (is_lt (front_cmp front n accounts_start i)) (cond (is_lt (front_cmp front after n i)) (is.accounts account n fits i) None) None)
        ∙ elim (at r.buckets n) as (λ f. IfSome f (λ _. IsBucketName n)
        → cond (is_lt (key_cmp n accounts_start)) (cond (is_lt (key_cmp after n)) (if is_owner account f then Some [] else None) None) None ≡ option_map no_value (passed is_its (cond (is_lt (key_cmp after n)) f None))) [
          | None ↦ λ named. none_owned (is_lt (key_cmp n accounts_start)) (is_lt (key_cmp after n))
          | Some b ↦ λ named. rw (name_low n named) (some_owned (is_lt (key_cmp after n)) b)
        ] (is.named n)
        ∙ ap (option_map no_value) (sym (find_passing is_its n (rows_after r after) (after_sorted r after) ∙ ap (passed is_its) (after_at r after n)))
      where
        none_owned : (x y : Bool) → cond x (cond y None None) None ≡ option_map no_value (passed is_its (cond y None None))
        none_owned true true = refl
        none_owned true false = refl
        none_owned false true = refl
        none_owned false false = refl

        some_owned : (y : Bool) (b : Bucket) → cond y (if is_its b then Some [] else None) None ≡ option_map no_value (passed is_its (cond y (Some b) None))
        some_owned false b = refl
        some_owned true b = elim (is_its b) as (λ t. (if t then Some [] else None) ≡ option_map no_value (if t then Some b else None)) [ true ↦ refl | false ↦ refl ]

    account_others : (after q : List ℕ) → behind_front (account_front account) q ≡ None
        → find key_cmp q (rows_between o.rows.rows (account_key account after) (account_key account accounts_start)) ≡ None
    account_others after q none =
        let front = account_front account in
        between_at o.rows.rows (front ++ after) (front ++ accounts_start) q
        ∙ elim (is_lt (key_cmp q (front ++ accounts_start))) as (λ b. is_lt (key_cmp q (front ++ accounts_start)) ≡ b → cond b (cond (is_lt (key_cmp (front ++ after) q)) (value_at o.rows.rows q) None) None ≡ None) [
          | true ↦ λ high. elim (is_lt (key_cmp (front ++ after) q)) as (λ b. is_lt (key_cmp (front ++ after) q) ≡ b → cond b (value_at o.rows.rows q) None ≡ None) [
            | true ↦ λ low. let n = between front after accounts_start q low high in absurd (not_behind front q n.0 none n.1)
            | false ↦ λ low. refl
          ] refl
          | false ↦ λ high. refl
        ] refl

    pub account_rows : (after : List ℕ) (limit : ℕ) (found : Rows) → T (is_sorted key_cmp o.rows.rows)
        → found ≡ take limit (later_rows o.rows.rows (account_key account after)) → IsNamesPage (account_front account) (account_key account accounts_start) found (account_names r account after limit)
    account_rows after limit found order here = record {
      keys = page_keys o.rows.rows found (account_key account after) (account_key account accounts_start) (account_front account) no_value (passing is_its (rows_after r after)) limit order
          (sorted_passing is_its (rows_after r after) (after_sorted r after)) here (account_here after) (account_others after);
      named = first_named limit (passing is_its (rows_after r after)) (all_passing IsBucketName is_its (rows_after r after) (named_after o r after is));
    }

-- the name stands behind the front in the end too
pub front_long : (account end : List ℕ) (n : ℕ) → n ≡ length end → end ≡ account_key account accounts_start → length (account_front account) ≡ n - 1
front_long account end n long is = omega (arith, long, ap length is, length-append (account_front account) accounts_start)

-- ---- names are read one by one

-- these names were read, and these rows are left
pub record IsRead (front end : List ℕ) (names read : List (List ℕ)) (rest : Rows) : Type 0 where
  pub left : List (List ℕ)
  pub split : names ≡ read ++ left
  pub here : keys_below end rest ≡ map (λ n. front ++ n) left
  pub named : AllByRecursion IsBucketName left

-- the key of the first row that is left, and those behind it
pub record IsFirst (front end : List ℕ) (left : List (List ℕ)) (key : List ℕ) (rest : Rows) : Type 0 where
  pub name : List ℕ
  pub is_name : IsBucketName name
  pub key_is : key ≡ front ++ name
  pub behind : List (List ℕ)
  pub split : left ≡ name ∷ behind
  pub rest_here : keys_below end rest ≡ map (λ n. front ++ n) behind
  pub rest_named : AllByRecursion IsBucketName behind

first_row : (front end : List ℕ) (left : List (List ℕ)) (row : List ℕ × List ℕ) (rest : Rows) → is_lt (key_cmp row.0 end) ≡ true
    → keys_below end (row ∷ rest) ≡ map (λ n. front ++ n) left → AllByRecursion IsBucketName left → IsFirst front end left row.0 rest
first_row front end left row rest below here named =
    let more : row.0 ∷ keys_below end rest ≡ map (λ n. front ++ n) left = sym (ap (λ b. if b then row.0 ∷ keys_below end rest else []) below) ∙ here in
    by left more named
  where
    by : (left : List (List ℕ)) → row.0 ∷ keys_below end rest ≡ map (λ n. front ++ n) left → AllByRecursion IsBucketName left → IsFirst front end left row.0 rest
    by [] e all = absurd (omega (arith, ap length e))
    by (n ∷ ns) e all = record {
      name = n;
      is_name = all.0;
      key_is = ap (λ l. get_or l 0 row.0) e;
      behind = ns;
      split = refl;
      rest_here = ap (drop 1) e;
      rest_named = all.1;
    }

pub first_left : (front end : List ℕ) (names read : List (List ℕ)) (rows : Rows) (row : List ℕ × List ℕ) (rest : Rows) → (is : IsRead front end names read rows) → rows ≡ row ∷ rest
    → is_lt (key_cmp row.0 end) ≡ true → IsFirst front end is.left row.0 rest
first_left front end names read rows row rest is next below = first_row front end is.left row rest below (ap (keys_below end) (sym next) ∙ is.here) is.named

pub read_more : (front end : List ℕ) (names read left : List (List ℕ)) (key : List ℕ) (rest : Rows) → names ≡ read ++ left → (first : IsFirst front end left key rest)
    → IsRead front end names (read ++ first.name ∷ []) rest
read_more front end names read left key rest split first = record {
  left = first.behind;
  split = split ∙ ap (λ l. read ++ l) first.split ∙ sym (append_assoc read (first.name ∷ []) first.behind);
  here = first.rest_here;
  named = first.rest_named;
}

none_left : (front end : List ℕ) (names read : List (List ℕ)) (rows : Rows) → IsRead front end names read rows → keys_below end rows ≡ [] → read ≡ names
none_left front end names read rows is none =
    elim is.left as (λ l. names ≡ read ++ l → keys_below end rows ≡ map (λ n. front ++ n) l → read ≡ names) [
      | [] ↦ λ split here. sym (append-nil read) ∙ sym split
      | n ∷ ns ↦ λ split here. absurd (omega (arith, ap length (sym none ∙ here)))
    ] is.split is.here

pub read_to_end : (front end : List ℕ) (names read : List (List ℕ)) (rows : Rows) (row : List ℕ × List ℕ) (rest : Rows) → IsRead front end names read rows → rows ≡ row ∷ rest
    → is_lt (key_cmp row.0 end) ≡ false → read ≡ names
read_to_end front end names read rows row rest is next past =
    none_left front end names read rows is (ap (keys_below end) next ∙ ap (λ b. if b then row.0 ∷ keys_below end rest else []) past)

pub all_read : (front end : List ℕ) (names read : List (List ℕ)) (rows : Rows) → IsRead front end names read rows → length rows ≡ 0 → read ≡ names
all_read front end names read rows is none = none_left front end names read rows is (ap (keys_below end) (nil_from_length rows none))

-- the name that is cut out of a key
pub cut_out : (key front name : List ℕ) (skip : ℕ) → length front ≡ skip → key ≡ front ++ name → take (length key - skip) (drop skip key) ≡ name
cut_out key front name skip long is =
    take_all (length key - skip) (drop skip key) (omega (arith, length-drop skip key)) ∙ ap (drop skip) is ∙ drop_at front name skip long
