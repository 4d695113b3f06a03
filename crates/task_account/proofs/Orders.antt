-- Names rise over the pages.
use Rattle.std.proofs.Common.{◌≡◌, ℕ, ◌&&◌, zero, suc, Bool, true, false, T, cond, bytes_eq, List, [], ◌∷◌, ◌++◌, map, filter, take, refl, sym, subst}
use Rattle.std.specs.List.{AllByRecursion}
use Rattle.std.specs.Ordering.{is_lt}
use Rattle.std.specs.FinMap.Entries.{below_all, is_sorted, is_sorted-where_key, where_key}
use Rattle.std.proofs.lemmas.Bool.{both_ways, false_from_ne_true}
use Rattle.std.proofs.lemmas.Slice.Eq.{bytes_eq-Decides}
use Rattle.object_words.specs.declared.bucket.Bucket.{Bucket}
use Rattle.object_words.specs.Names.{name_cmp, entries, where_name}
use Rattle.object_words.specs.Pages.{account_names}
use Rattle.object_words.specs.Roots.{Root}
use Rattle.list_words.specs.Listings.{is_before}
use Rattle.list_words.proofs.Texts.{before_itself, before_trans}
use Rattle.realm_model.specs.Settings.{SettingsView}
use Rattle.realm_model.specs.Allowed.{page_limit}
use Rattle.realm_model.specs.States.{State}
use Rattle.realm_model.specs.Steps.{reply_of}
use Rattle.realm_model.specs.declared.event.Reply.{Reply}
use Rattle.realm_model.specs.declared.event.Reply.TheVariants.{Names}
use Rattle.task_account.specs.Stages.{asks_page, names_shown}
use Rattle.task_account.specs.Tasks.{Rises, last_in}

-- ---- names that rise

-- names that rise differ
pub differ : (m n : List ℕ) → is_before m n ≡ true → bytes_eq m n ≡ false
differ m n before =
    false_from_ne_true _ (λ same.
    let lower : is_before n n ≡ true = subst (λ t. is_before t n ≡ true) ((bytes_eq-Decides m n).0 same) before in
    both_ways _ (before_itself n) lower)

pub differ_back : (m n : List ℕ) → is_before n m ≡ true → bytes_eq m n ≡ false
differ_back m n before =
    false_from_ne_true _ (λ same.
    let lower : is_before n n ≡ true = subst (λ t. is_before n t ≡ true) ((bytes_eq-Decides m n).0 same) before in
    both_ways _ (before_itself n) lower)

pub itself : (name : List ℕ) → bytes_eq name name ≡ true
itself name = (bytes_eq-Decides name name).1 refl

pub rises_append : (start : List ℕ) (xs ys : List (List ℕ)) → Rises start xs → Rises (last_in start xs) ys → Rises start (xs ++ ys)
rises_append start [] ys low high = high
rises_append start (x ∷ xs) ys low high = (low.0, rises_append x xs ys low.1 high)

pub last_append : (start : List ℕ) (xs : List (List ℕ)) (name : List ℕ) → last_in start (xs ++ name ∷ []) ≡ name
last_append start [] name = refl
last_append start (x ∷ xs) name = last_append x xs name

-- the names behind one that rises are above it, and those before it are below
pub behind : (start : List ℕ) (xs : List (List ℕ)) (name : List ℕ) (ys : List (List ℕ)) → Rises start (xs ++ name ∷ ys) → Rises name ys
behind start [] name ys rise = rise.1
behind start (x ∷ xs) name ys rise = behind x xs name ys rise.1

above_start : (start : List ℕ) (xs : List (List ℕ)) (name : List ℕ) (ys : List (List ℕ)) → Rises start (xs ++ name ∷ ys) → is_before start name ≡ true
above_start start [] name ys rise = rise.0
above_start start (x ∷ xs) name ys rise = before_trans start x name rise.0 (above_start x xs name ys rise.1)

pub others : (start : List ℕ) (xs : List (List ℕ)) (name : List ℕ) (ys : List (List ℕ)) → Rises start (xs ++ name ∷ ys) → AllByRecursion (λ m. bytes_eq m name ≡ false) xs
others start [] name ys rise = tt
others start (x ∷ xs) name ys rise = (differ x name (above_start x xs name ys rise.1), others x xs name ys rise.1)

-- ---- pages as the step answers them

left_of : (a b : Bool) → T (a && b) → T a
left_of true b p = tt
left_of false b p = p

right_of : (a b : Bool) → T (a && b) → T b
right_of true b p = p
right_of false b p = absurd p

truth : (b : Bool) → T b → b ≡ true
truth true p = refl
truth false p = absurd p

both_of : (a b : Bool) → a ≡ true → T b → T (a && b)
both_of true b p q = q
both_of false b p q = absurd (both_ways _ refl p)

abbrev Kept : Type 0
Kept = List (List ℕ × Bucket)

kept_below : (after : List ℕ) (es : Kept) → T (below_all name_cmp after (where_key name_cmp (λ name. is_lt (name_cmp after name)) es))
kept_below after [] = tt
kept_below after (e ∷ es) =
    let rest = kept_below after es in
    let kept = where_key name_cmp (λ name. is_lt (name_cmp after name)) es in
    elim (is_before after e.0) as (λ b. is_before after e.0 ≡ b → T (below_all name_cmp after (cond b (e ∷ kept) kept))) [
      | true ↦ λ is. both_of _ _ is rest
      | false ↦ λ is. rest
    ] refl

module _ (test : List ℕ × Bucket → Bool) where
  page_rises : (after : List ℕ) (limit : ℕ) (es : Kept) → T (below_all name_cmp after es) → T (is_sorted name_cmp es) → Rises after (take limit (map (λ (e : List ℕ × Bucket). e.0) (filter test es)))
  page_rises after zero es below sorted = tt
  page_rises after (suc limit) [] below sorted = tt
  page_rises after (suc limit) (e ∷ es) below sorted =
      elim (test e) as (λ b. Rises after (take (suc limit) (map (λ (e : List ℕ × Bucket). e.0) (cond b (e ∷ filter test es) (filter test es))))) [
        | true ↦ (truth _ (left_of _ _ below), page_rises e.0 limit es (left_of _ _ sorted) (right_of _ _ sorted))
        | false ↦ page_rises after (suc limit) es (right_of _ _ below) (right_of _ _ sorted)
      ]

names_rise : (root : Root) (account after : List ℕ) (limit : ℕ) → Rises after (account_names root account after limit)
unfolding entries where_name
names_rise root account after limit =
    page_rises (λ e. bytes_eq (e.1).owner account) after limit (where_key name_cmp (λ name. is_lt (name_cmp after name)) (root.buckets).list)
    (kept_below after (root.buckets).list) (is_sorted-where_key name_cmp (λ name. is_lt (name_cmp after name)) (root.buckets).list (root.buckets).sorted)

names_are : {one other : List (List ℕ)} → Names one ≡ Names other → one ≡ other
names_are same = cc

-- the names of a page that the step answers rise, and are above the name
pub page_answered : (settings : SettingsView) (st : State) (zone : ℕ) (account after : List ℕ) (reply : Reply) → reply ≡ reply_of settings st (asks_page zone account after) → Rises after (names_shown reply)
page_answered settings st zone account after reply is =
    subst (λ r. Rises after (names_shown r)) (sym is) (names_rise (st.root zone) account after page_limit)
