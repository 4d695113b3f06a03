-- What the forms of a swap say.
use Rattle.std.proofs.Common.{◌≡◌, ◌⊎◌, inl, inr, ℕ, ◌+◌, ◌-◌, ◌==◌, ◌≤◌, ◌&&◌, ◌||◌, not, Bool, true, false, cond, List, Option, Some, None, refl, sym, ap, ◌∙◌, subst, arith}
use Rattle.std.specs.Prelude.{IfSome, is_some, bytes_eq, nat_lt}
use Rattle.std.specs.Cmp.Lexicographic.{pointwise}
use Rattle.std.proofs.lemmas.Bool.Decides.{nat_tests}
use Rattle.object_words.specs.declared.bucket.Bucket.{Bucket}
use Rattle.object_words.specs.declared.bucket.Busy.{Busy}
use Rattle.object_words.specs.Limits.{is_name, shard_limit}
use Rattle.object_words.specs.Roots.{is_same_pair}
use Rattle.realm_model.specs.Containers.{over_in}
use Rattle.realm_model.specs.Needs.{is_between, bucket_limit, is_first, takes_over, is_make, same_busy, same_index, same_shared, is_change_of, is_begin, is_clear, is_removal, is_form}
use Rattle.realm_model.specs.Phases.{FirstEvent, Phase}
use Rattle.realm_model.proofs.Computing.{left_of, right_of}
use Rattle.realm_model.proofs.ObjectLemmas.{number_same}
use Rattle.index_law.proofs.Tests.{so, none_of}

same_in : {A : Type 0} {x y : A} → Some x ≡ Some y → x ≡ y
same_in same = cc

pub not_true : (b : Bool) → not b ≡ true → b ≡ false
not_true true is = cc
not_true false is = refl

pub either_of : (a b : Bool) → (a || b) ≡ true → (a ≡ true) ⊎ (b ≡ true)
either_of true b is = inl refl
either_of false b is = inr is

-- a number in progress is the last one that was set
abbrev pub HasBusy : Bucket → Type 0
HasBusy row = IfSome row.busy (λ busy. (busy.number ≡ row.number) × (1 ≤ row.number))

-- ---- a row that is made

pub record Makes (p : Phase) (zone : ℕ) (name : List ℕ) (b : Bucket) : Type 0 where
  pub first : FirstEvent
  pub first_is : p.first ≡ Some first
  pub instance_is : first.number ≡ b.instance
  pub shards_are : b.shards ≡ (p.shards zone b.id).made
  pub some : 1 ≤ b.shards
  pub not_placed : (p.shards zone b.id).placed ≡ false
  pub idle : b.busy ≡ None
  pub from : cond (zone == 1) (is_first p b.id) (takes_over p name b) ≡ true

pub makes : (p : Phase) (zone : ℕ) (name : List ℕ) (b : Bucket) → is_make p zone name b ≡ true → Makes p zone name b
makes p zone name b make =
    let own = p.shards zone b.id in
    let f = so p.first _ (left_of (is_first p b.instance) _ make) in
    let rest = right_of (is_first p b.instance) _ make in
    let counted = right_of (b.shards == own.made) _ rest in
    let more = right_of (is_between 1 shard_limit b.shards) _ counted in
    let last = right_of (not own.placed) _ more in
    let numbers = right_of (not (is_some b.busy)) _ last in
    record {
      first = f.x;
      first_is = f.is;
      instance_is = number_same (f.x).number b.instance f.passes;
      shards_are = number_same b.shards own.made (left_of (b.shards == own.made) _ rest);
      some = at_least b.shards (left_of (is_between 1 shard_limit b.shards) _ counted);
      not_placed = not_true own.placed (left_of (not own.placed) _ more);
      idle = none_of b.busy (left_of (not (is_some b.busy)) _ last);
      from = right_of (is_name bucket_limit name) (cond (zone == 1) (is_first p b.id) (takes_over p name b)) (right_of (b.number == 0) _ numbers);
    } where
      at_least : (n : ℕ) → is_between 1 shard_limit n ≡ true → 1 ≤ n
      at_least n within = grind (arith, nat_tests, within)

-- ---- a row that is altered: changed, or with a number set or cleared

pub record Alters (p : Phase) (zone : ℕ) (name : List ℕ) (old b : Bucket) : Type 0 where
  pub id : old.id ≡ b.id
  pub instance : old.instance ≡ b.instance
  pub shards : old.shards ≡ b.shards
  pub number : old.number ≤ b.number
  pub over : HasBusy old → over_in old ≤ over_in b
  pub busy_is : HasBusy old → HasBusy b
  pub shared : (zone == 1) ≡ false → (old.shared ≡ b.shared) ⊎ (takes_over p name b ≡ true)
  -- a number that stays in progress is the same, and one that is set is the next
  pub still : (was now : Busy) → old.busy ≡ Some was → b.busy ≡ Some now → was.number ≡ now.number
  pub set : (busy : Busy) → old.busy ≡ None → b.busy ≡ Some busy → b.number ≡ old.number + 1

record IsSameIndex (old b : Bucket) : Type 0 where
  id : old.id ≡ b.id
  instance : old.instance ≡ b.instance
  shards : old.shards ≡ b.shards

indexed : (old b : Bucket) → same_index old b ≡ true → IsSameIndex old b
indexed old b is =
    let more = right_of (bytes_eq old.owner b.owner) _ (right_of (old.id == b.id) _ is) in
    record {
      id = number_same old.id b.id (left_of (old.id == b.id) _ is);
      instance = number_same old.instance b.instance (left_of (old.instance == b.instance) (old.shards == b.shards) more);
      shards = number_same old.shards b.shards (right_of (old.instance == b.instance) (old.shards == b.shards) more);
    }

-- outside zone 1 the shared part has its number still
shared_still : (zone : ℕ) (old b : Bucket) → same_shared zone old b ≡ true → (zone == 1) ≡ false → old.shared ≡ b.shared
shared_still zone old b is other =
    let readers = right_of (pointwise is_same_pair old.meta b.meta) _ is in
    let writers = right_of (bytes_eq old.readers b.readers) _ readers in
    let last = right_of (bytes_eq old.writers b.writers) (zone == 1 || old.shared == b.shared) writers in
    number_same old.shared b.shared (by_zone (zone == 1) other last) where
      by_zone : (at_one : Bool) → at_one ≡ false → (at_one || old.shared == b.shared) ≡ true → (old.shared == b.shared) ≡ true
      by_zone true apart is = cc
      by_zone false apart is = is

pub over_none : (row : Bucket) → row.busy ≡ None → over_in row ≡ row.number
over_none row none = ap (λ o. cond (is_some o) (row.number - 1) row.number) none

pub over_some : (row : Bucket) (busy : Busy) → row.busy ≡ Some busy → over_in row ≡ row.number - 1
over_some row busy is = ap (λ o. cond (is_some o) (row.number - 1) row.number) is

changes : (p : Phase) (zone : ℕ) (name : List ℕ) (old b : Bucket) → is_change_of p zone name old b ≡ true → Alters p zone name old b
changes p zone name old b is =
    let same = indexed old b (left_of (same_index old b) _ is) in
    let rest = right_of (same_index old b) _ is in
    let number = number_same old.number b.number (left_of (old.number == b.number) _ rest) in
    let more = right_of (old.number == b.number) _ rest in
    let busy = left_of (same_busy old.busy b.busy) _ more in
    record {
      id = same.id;
      instance = same.instance;
      shards = same.shards;
      number = omega (arith, number);
      over = λ has. subst (λ n. over_in old ≤ n) (λ i. cond (some_same old.busy b.busy busy i) (number i - 1) (number i)) (omega arith);
      busy_is = λ has. same_has old.busy b.busy busy number has;
      shared = λ other. inr (taken (zone == 1) other (nat_lt old.shared b.shared) (takes_over p name b) (right_of (same_busy old.busy b.busy) _ more));
      still = λ was now at_was at_now. numbers old.busy b.busy busy was now at_was at_now;
      set = λ set none some. absurd (apart old.busy b.busy busy none set some);
    } where
      some_same : (x y : Option Busy) → same_busy x y ≡ true → is_some x ≡ is_some y
      some_same None None is = refl
      some_same (Some x) (Some y) is = refl
      some_same None (Some y) is = cc
      some_same (Some x) None is = cc

      same_has : (x y : Option Busy) → same_busy x y ≡ true → {n m : ℕ} → n ≡ m → IfSome x (λ busy. (busy.number ≡ n) × (1 ≤ n)) → IfSome y (λ busy. (busy.number ≡ m) × (1 ≤ m))
      same_has None None is at has = tt
      same_has (Some x) (Some y) is at has =
          let numbers = number_same x.number y.number (left_of (x.number == y.number) _ is) in
          (sym numbers ∙ has.0 ∙ at, subst (λ k. 1 ≤ k) at has.1)
      same_has None (Some y) is at has = cc
      same_has (Some x) None is at has = tt

      numbers : (x y : Option Busy) → same_busy x y ≡ true → (was now : Busy) → x ≡ Some was → y ≡ Some now → was.number ≡ now.number
      numbers (Some x) (Some y) same was now at_was at_now =
          let one : x ≡ was = same_in at_was in
          let two : y ≡ now = same_in at_now in
          ap (λ (z : Busy). z.number) (sym one) ∙ number_same x.number y.number (left_of (x.number == y.number) _ same) ∙ ap (λ (z : Busy). z.number) two
      numbers None y same was now at_was at_now = absurd cc
      numbers (Some x) None same was now at_was at_now = absurd cc

      taken : (at_one : Bool) → at_one ≡ false → (a c : Bool) → (at_one || (a && c)) ≡ true → c ≡ true
      taken true apart a c is = cc
      taken false apart a c is = right_of a c is

      apart : (x y : Option Busy) → same_busy x y ≡ true → x ≡ None → (busy : Busy) → y ≡ Some busy → ⊥
      apart None None same none busy some = cc
      apart None (Some y) same none busy some = cc
      apart (Some x) y same none busy some = cc

begins : (p : Phase) (zone : ℕ) (name : List ℕ) (old b : Bucket) → is_begin p zone old b ≡ true → Alters p zone name old b
begins p zone name old b is =
    let same = indexed old b (left_of (same_index old b) _ is) in
    let rest = right_of (same_index old b) _ is in
    let more = right_of (same_shared zone old b) _ rest in
    let none = none_of old.busy (left_of (not (is_some old.busy)) _ more) in
    let numbers = right_of (not (is_some old.busy)) _ more in
    let number = number_same b.number (old.number + 1) (left_of (b.number == old.number + 1) _ numbers) in
    let some = so b.busy _ (right_of (b.number == old.number + 1) _ numbers) in
    let busy_number = number_same (some.x).number b.number (left_of ((some.x).number == b.number) _ some.passes) in
    let before = over_none old none in
    let after = over_some b some.x some.is in
    record {
      id = same.id;
      instance = same.instance;
      shards = same.shards;
      number = omega (arith, number);
      over = λ has. omega (arith, number, before, after);
      busy_is = λ has. subst (λ o. IfSome o (λ busy. (busy.number ≡ b.number) × (1 ≤ b.number))) (sym some.is) (busy_number, omega (arith, number));
      shared = λ other. inl (shared_still zone old b (left_of (same_shared zone old b) _ rest) other);
      still = λ was now at_was at_now. absurd (let two = sym none ∙ at_was in cc);
      set = λ busy was now. number;
    }

clears : (p : Phase) (zone : ℕ) (name : List ℕ) (old b : Bucket) → is_clear zone old b ≡ true → Alters p zone name old b
clears p zone name old b is =
    let same = indexed old b (left_of (same_index old b) _ is) in
    let rest = right_of (same_index old b) _ is in
    let more = right_of (same_shared zone old b) _ rest in
    let number = number_same old.number b.number (left_of (old.number == b.number) _ more) in
    let last = right_of (old.number == b.number) _ more in
    let none = none_of b.busy (right_of (is_some old.busy) (not (is_some b.busy)) last) in
    let after = over_none b none in
    record {
      id = same.id;
      instance = same.instance;
      shards = same.shards;
      number = omega (arith, number);
      over = λ has. omega (arith, number, after, most old);
      busy_is = λ has. subst (λ o. IfSome o (λ busy. (busy.number ≡ b.number) × (1 ≤ b.number))) (sym none) tt;
      shared = λ other. inl (shared_still zone old b (left_of (same_shared zone old b) _ rest) other);
      still = λ was now at_was at_now. absurd (let two = sym none ∙ at_now in cc);
      set = λ busy was now. absurd (let two = sym none ∙ now in cc);
    } where
      most : (row : Bucket) → over_in row ≤ row.number
      most row = elim (is_some row.busy) as (λ s. cond s (row.number - 1) row.number ≤ row.number) [ true ↦ omega arith | false ↦ omega arith ]

alters : (p : Phase) (zone : ℕ) (name : List ℕ) (old b : Bucket) → (is_change_of p zone name old b || (is_begin p zone old b || is_clear zone old b)) ≡ true → Alters p zone name old b
alters p zone name old b is =
    elim (either_of (is_change_of p zone name old b) _ is) [
      | inl change ↦ changes p zone name old b change
      | inr other ↦ elim (either_of (is_begin p zone old b) _ other) [
        | inl begin ↦ begins p zone name old b begin
        | inr clear ↦ clears p zone name old b clear
      ]
    ]

-- ---- the forms

pub data Form (p : Phase) (zone : ℕ) (name : List ℕ) : Option Bucket → Option Bucket → Type 0 where
  making : {b : Bucket} → Makes p zone name b → Form p zone name None (Some b)
  altering : {old b : Bucket} → Alters p zone name old b → Form p zone name (Some old) (Some b)
  removing : {old : Bucket} → is_removal p zone name old ≡ true → Form p zone name (Some old) None

pub form_of : (p : Phase) (zone : ℕ) (name : List ℕ) (old new : Option Bucket) → is_form p zone name old new ≡ true → Form p zone name old new
form_of p zone name None (Some b) is = making (makes p zone name b is)
form_of p zone name (Some old) (Some b) is = altering (alters p zone name old b is)
form_of p zone name (Some old) None is = removing is
form_of p zone name None None is = cc
