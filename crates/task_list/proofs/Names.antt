-- Lists by rising name, and what stands in them under a name.
use Rattle.std.proofs.Common.{◌≡◌, ◌≢◌, ℕ, ◌&&◌, Bool, true, false, T, cond, List, [], ◌∷◌, ◌++◌, take, length, Some, None, zero, suc, refl, sym, ◌∙◌, ap, subst, arith}
use Rattle.std.specs.declared.cmp.Ordering.{Ordering}
use Rattle.std.specs.declared.cmp.Ordering.TheVariants.{Less, Equal, Greater}
use Rattle.std.specs.Ordering.{is_lt, is_eq, eq_by_cmp}
use Rattle.std.specs.List.{All}
use Rattle.std.specs.FinMap.Entries.{find, below_all, is_sorted, is_sorted-where_key}
use Rattle.std.proofs.lemmas.Bool.{both_ways, false_from_ne_true}
use Rattle.std.proofs.lemmas.Bool.Decides.{nat_tests}
use Rattle.std.proofs.lemmas.List.{length-take}
use Rattle.std.proofs.lemmas.List.Elements.{All-head, All-tail, All-take, filter_passes}
use Rattle.object_words.specs.Names.{name_cmp, entries, where_name}
use Rattle.object_words.specs.Entries.{EntryView}
use Rattle.object_words.specs.Shards.{Shard}
use Rattle.object_words.specs.ShardCalls.{entries_after, page_of}
use Rattle.object_words.proofs.KeyLemmas.{same_text}
use Rattle.object_words.proofs.NameLemmas.{name_itself}
use Rattle.realm_model.specs.Allowed.{page_limit}
use Rattle.list_words.specs.Listings.{is_before}
use Rattle.list_words.proofs.Texts.{before_itself, before_trans, before_upto, not_after}
use Rattle.task_list.specs.Listed.{last_name, reaches}
use Rattle.task_list.specs.Stages.{IsPageAbove}

pub truth : (b : Bool) → T b → b ≡ true
truth true p = refl
truth false p = absurd p

pub from_truth : (b : Bool) → b ≡ true → T b
from_truth b is = subst T (sym is) tt

left_of : (a b : Bool) → T (a && b) → T a
left_of true b p = tt
left_of false b p = p

right_of : (a b : Bool) → T (a && b) → T b
right_of true b p = p
right_of false b p = absurd p

both_of : (a b : Bool) → T a → T b → T (a && b)
both_of true b p q = q
both_of false b p q = p

less_not_equal : (o : Ordering) → is_lt o ≡ true → is_eq o ≡ false
less_not_equal Less is = refl
less_not_equal Equal is = cc
less_not_equal Greater is = cc

-- names that differ are told apart
pub told_apart : (n m : List ℕ) → n ≢ m → eq_by_cmp name_cmp n m ≡ false
told_apart n m apart = false_from_ne_true _ (λ tied. apart (same_text n m tied))

pub before_apart : (n m : List ℕ) → is_before n m ≡ true → n ≢ m
before_apart n m before same = both_ways _ (before_itself m) (subst (λ t. is_before t m ≡ true) same before)

module _ {X : Type 0} where
  pub rest_rises : (e : List ℕ × X) (es : List (List ℕ × X)) → T (is_sorted name_cmp (e ∷ es)) → T (is_sorted name_cmp es)
  rest_rises e es rise = right_of _ _ rise

  below_lower : (n m : List ℕ) (es : List (List ℕ × X)) → is_before n m ≡ true → T (below_all name_cmp m es) → T (below_all name_cmp n es)
  below_lower n m [] before below = tt
  below_lower n m (e ∷ es) before below =
      both_of _ _ (from_truth _ (before_trans n m e.0 before (truth _ (left_of _ _ below)))) (below_lower n m es before (right_of _ _ below))

  missing : (n : List ℕ) (es : List (List ℕ × X)) → T (below_all name_cmp n es) → find name_cmp n es ≡ None
  missing n [] below = refl
  missing n (e ∷ es) below =
      ap (λ b. cond b (Some e.1) (find name_cmp n es)) (less_not_equal _ (truth _ (left_of _ _ below))) ∙ missing n es (right_of _ _ below)

  -- nothing stands under a name before the first
  pub find-below : (n : List ℕ) (e : List ℕ × X) (es : List (List ℕ × X)) → T (is_sorted name_cmp (e ∷ es)) → is_before n e.0 ≡ true → find name_cmp n (e ∷ es) ≡ None
  find-below n e es rise before =
      missing n (e ∷ es) (both_of _ _ (from_truth _ before) (below_lower n e.0 es before (left_of _ _ rise)))

  pub find-head : (n : List ℕ) (x : X) (es : List (List ℕ × X)) → find name_cmp n ((n, x) ∷ es) ≡ Some x
  find-head n x es = ap (λ b. cond b (Some x) (find name_cmp n es)) (name_itself n)

  pub find-other : (n : List ℕ) (e : List ℕ × X) (es : List (List ℕ × X)) → n ≢ e.0 → find name_cmp n (e ∷ es) ≡ find name_cmp n es
  find-other n e es apart = ap (λ b. cond b (Some e.1) (find name_cmp n es)) (told_apart n e.0 apart)

  pub find-push_other : (n : List ℕ) (es : List (List ℕ × X)) (e : List ℕ × X) → n ≢ e.0 → find name_cmp n (es ++ e ∷ []) ≡ find name_cmp n es
  find-push_other n [] e apart = find-other n e [] apart
  find-push_other n (f ∷ es) e apart = ap (λ o. cond (eq_by_cmp name_cmp n f.0) (Some f.1) o) (find-push_other n es e apart)

  pub find-push_same : (n : List ℕ) (es : List (List ℕ × X)) (x : X) → find name_cmp n es ≡ None → find name_cmp n (es ++ (n, x) ∷ []) ≡ Some x
  find-push_same n [] x none = find-head n x []
  find-push_same n (f ∷ es) x none =
      elim (eq_by_cmp name_cmp n f.0) as (λ b. cond b (Some f.1) (find name_cmp n es) ≡ None → cond b (Some f.1) (find name_cmp n (es ++ (n, x) ∷ [])) ≡ Some x) [
        | true ↦ λ no. cc
        | false ↦ λ none'. find-push_same n es x none'
      ] none

  -- nothing stands under a name that is not among those of a list
  pub find-none : (n : List ℕ) (es : List (List ℕ × X)) → All (λ e. n ≢ e.0) es → find name_cmp n es ≡ None
  find-none n [] apart = refl
  find-none n (e ∷ es) apart = find-other n e es (All-head (λ f. n ≢ f.0) e es apart) ∙ find-none n es (All-tail (λ f. n ≢ f.0) e es apart)

  below_push : (n : List ℕ) (es : List (List ℕ × X)) (e : List ℕ × X) → T (below_all name_cmp n es) → is_before n e.0 ≡ true → T (below_all name_cmp n (es ++ e ∷ []))
  below_push n [] e below before = both_of _ _ (from_truth _ before) tt
  below_push n (f ∷ es) e below before = both_of _ _ (left_of _ _ below) (below_push n es e (right_of _ _ below) before)

  pub sorted-push : (es : List (List ℕ × X)) (e : List ℕ × X) → T (is_sorted name_cmp es) → All (λ f. is_before f.0 e.0 ≡ true) es → T (is_sorted name_cmp (es ++ e ∷ []))
  sorted-push [] e rise before = tt
  sorted-push (f ∷ es) e rise before =
      both_of _ _ (below_push f.0 es e (left_of _ _ rise) (All-head (λ g. is_before g.0 e.0 ≡ true) f es before))
      (sorted-push es e (right_of _ _ rise) (All-tail (λ g. is_before g.0 e.0 ≡ true) f es before))

  below_take : (n : List ℕ) (k : ℕ) (es : List (List ℕ × X)) → T (below_all name_cmp n es) → T (below_all name_cmp n (take k es))
  below_take n zero es below = tt
  below_take n (suc k) [] below = tt
  below_take n (suc k) (e ∷ es) below = both_of _ _ (left_of _ _ below) (below_take n k es (right_of _ _ below))

  sorted_take : (k : ℕ) (es : List (List ℕ × X)) → T (is_sorted name_cmp es) → T (is_sorted name_cmp (take k es))
  sorted_take zero es rise = tt
  sorted_take (suc k) [] rise = tt
  sorted_take (suc k) (e ∷ es) rise = both_of _ _ (below_take e.0 k es (left_of _ _ rise)) (sorted_take k es (right_of _ _ rise))

-- ---- pages

-- the last name is not before the first
last_upto : (e : List ℕ × EntryView) (es : List (List ℕ × EntryView)) → T (is_sorted name_cmp (e ∷ es)) → is_before (last_name (e ∷ es)) e.0 ≡ false
last_upto e [] rise = before_itself e.0
last_upto e (f ∷ es) rise =
    let after : is_before e.0 f.0 ≡ true = truth _ (left_of _ _ (left_of _ _ rise)) in
    let last = last_upto f es (right_of _ _ rise) in
    not_after e.0 (last_name (f ∷ es)) (before_upto e.0 f.0 (last_name (f ∷ es)) after last)

pub reaches_by : (end : Bool) (rows : List (List ℕ × EntryView)) (n : List ℕ) → is_before (last_name rows) n ≡ false → reaches end rows n ≡ true
reaches_by true rows n upto = refl
reaches_by false rows n upto = rw upto refl

-- a page reaches each name before its first
pub reaches-before : (end : Bool) (e : List ℕ × EntryView) (es : List (List ℕ × EntryView)) (n : List ℕ) → T (is_sorted name_cmp (e ∷ es)) → is_before n e.0 ≡ true → reaches end (e ∷ es) n ≡ true
reaches-before end e es n rise before =
    reaches_by end (e ∷ es) n (not_after n (last_name (e ∷ es)) (before_upto n e.0 (last_name (e ∷ es)) before (last_upto e es rise)))

-- a page reaches its first name
pub reaches-first : (end : Bool) (e : List ℕ × EntryView) (es : List (List ℕ × EntryView)) → T (is_sorted name_cmp (e ∷ es)) → reaches end (e ∷ es) e.0 ≡ true
reaches-first end e es rise = reaches_by end (e ∷ es) e.0 (last_upto e es rise)

-- what the step answers to a read of a page
pub page_is_above : (s : Shard) (after : List ℕ) (clock : ℕ) → IsPageAbove after (page_of s after page_limit clock)
unfolding entries where_name
page_is_above s after clock =
    let rows = entries_after s after in
    record {
      rise = sorted_take page_limit rows (is_sorted-where_key name_cmp (λ name. is_lt (name_cmp after name)) (s.entries).list (s.entries).sorted);
      above = All-take (λ e. is_before after e.0 ≡ true) page_limit rows (filter_passes (λ e. is_lt (name_cmp after e.0)) (s.entries).list);
      some = λ empty.
          let none : length (take page_limit rows) ≡ 0 = ap length empty in
          let cut = length-take page_limit rows in
          grind (arith, nat_tests, none, cut);
    }
