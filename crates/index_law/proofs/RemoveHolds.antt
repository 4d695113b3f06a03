-- What holds shards, over a swap that takes a row away.
use Rattle.std.proofs.Common.{◌≡◌, ◌⊎◌, inl, inr, ℕ, zero, suc, ◌+◌, ◌==◌, ◌<◌, ◌≤◌, ◌&&◌, Bool, true, false, List, Option, Some, None, refl, sym, subst, ap, ◌∙◌, arith}
use Rattle.std.specs.Prelude.{IfSome}
use Rattle.std.specs.List.{list_all, range_with_len}
use Rattle.std.proofs.lemmas.Bool.{true≢false}
use Rattle.std.proofs.lemmas.Bool.Decides.{nat_tests}
use Rattle.object_words.specs.declared.bucket.Bucket.{Bucket}
use Rattle.object_words.specs.declared.bucket.Busy.{Busy}
use Rattle.object_words.specs.declared.shard.Hold.TheVariants.{Closing}
use Rattle.object_words.specs.Keys.{shard_key}
use Rattle.object_words.specs.Logs.{Log}
use Rattle.object_words.proofs.KeyLemmas.{number_itself}
use Rattle.realm_model.specs.Containers.{over_in}
use Rattle.realm_model.specs.Facts.{Instance}
use Rattle.realm_model.specs.Needs.{has_closed, is_removal}
use Rattle.realm_model.specs.Phases.{ActorId, OwnNumber, OwnWork, Phase}
use Rattle.realm_model.specs.Learnt.{row_known, worked, learnt}
use Rattle.realm_model.specs.States.{clock_at}
use Rattle.realm_model.specs.Tests.{is_so}
use Rattle.realm_model.specs.Worlds.{World, put_actor}
use Rattle.realm_model.specs.declared.op.Op.TheVariants.{BucketSwap}
use Rattle.realm_model.specs.declared.event.Reply.TheVariants.{Done}
use Rattle.realm_model.proofs.Computing.{left_of, right_of}
use Rattle.realm_model.proofs.ObjectLemmas.{number_same, put_bundle_cases}
use Rattle.index_law.specs.Tables.{rows_of, StandsIn}
use Rattle.index_law.specs.Rows.{IsNamed}
use Rattle.index_law.specs.Works.{IsUnnamed}
use Rattle.index_law.specs.Holds.{IsTaken, IsLeft, HoldsStand, HoldsIn}
use Rattle.index_law.specs.Invariants.{IndexHolds}
use Rattle.index_law.proofs.Tests.{so}
use Rattle.index_law.proofs.Forms.{over_some}
use Rattle.index_law.proofs.RowLaws.{same_in}
use Rattle.index_law.proofs.Moving.{with_root, row_back}
use Rattle.index_law.proofs.Changing as changing
use Rattle.index_law.proofs.Removing as removing
use Rattle.index_law.proofs.Holding.{TakenBy}
use Rattle.index_law.proofs.SwapHolds.{swapped_holds}

-- what a removal needs: the number in progress is an own closing's, and each shard was closed under it
pub record Removes (p : Phase) (zone : ℕ) (old : Bucket) : Type 0 where
  pub busy : Busy
  pub in_progress : old.busy ≡ Some busy
  pub own : OwnNumber
  pub begun : (p.work zone old.id old.instance).begun busy.number ≡ Some own
  pub closing : own.closing ≡ true
  pub closed : (number : ℕ) → number < old.shards → own.closed number ≡ true

all_in : (test : ℕ → Bool) (from count : ℕ) → list_all test (range_with_len from count) ≡ true → (n : ℕ) → from ≤ n → n < from + count → test n ≡ true
all_in test from zero all n low high = absurd (omega (arith, low, high))
all_in test from (suc count) all n low high =
    elim (n == from) as (λ b. (n == from) ≡ b → test n ≡ true) [
      | true ↦ λ same. ap test (number_same n from same) ∙ left_of (test from) (list_all test (range_with_len (from + 1) count)) all
      | false ↦ λ other. all_in test (from + 1) count (right_of (test from) (list_all test (range_with_len (from + 1) count)) all) n (grind (arith, nat_tests, low, other)) (omega (arith, high))
    ] refl

pub removes : (p : Phase) (zone : ℕ) (name : List ℕ) (old : Bucket) → is_removal p zone name old ≡ true → Removes p zone old
removes p zone name old is =
    let busy = so old.busy _ (left_of (is_so old.busy (λ busy. has_closed (p.work zone old.id old.instance) busy.number old.shards)) _ is) in
    let own = so ((p.work zone old.id old.instance).begun (busy.x).number) _ busy.passes in
    record {
      busy = busy.x;
      in_progress = busy.is;
      own = own.x;
      begun = own.is;
      closing = left_of (own.x).closing _ own.passes;
      closed = λ number less. all_in (own.x).closed 0 old.shards (right_of (own.x).closing (list_all (own.x).closed (range_with_len 0 old.shards)) own.passes) number (omega arith) (omega (arith, less));
    }

module _ (w : World) (j : IndexHolds w) (h : HoldsIn w) (me : ActorId) (moment : ℕ) (zone : ℕ) (name : List ℕ) (expected : ℕ) (old : Bucket) (log : Log) (kept : rows_of w.state.root zone name ≡ Some old)
    (known : row_known ((w.phases me).rows zone) name ≡ Some old) (gone : (zone ≡ 1) ⊎ (StandsIn w old.id → ⊥)) (r : Removes (w.phases me) zone old) where
  abbrev rows : ℕ → List ℕ → Option Bucket
  rows = rows_of (with_root w.state.root zone name None log)

  named_old : IsNamed w.rows.homes w.rows.instances zone name old
  named_old = (changing.kept_old w j zone name old kept).named

  -- each shard of the row is held by the number in progress
  pub each_taken : (number : ℕ) → number < old.shards → IsTaken (w.state.shards zone (shard_key old.id old.instance number)) zone (r.busy).number
  each_taken number less = h.taken me zone name old r.busy r.own number kept r.in_progress r.begun r.closing (r.closed number less)

  taken_by : (work : ℕ → ℕ → ℕ → OwnWork) → TakenBy (rows_of w.state.root) w.state.shards work → TakenBy rows w.state.shards work
  taken_by work was z n x busy own number is in_progress begun closing closed =
      elim (row_back w.state.root zone name None log z n (Some x) is) [
        | inl moved ↦ absurd (none_some moved.2)
        | inr there ↦ was z n x busy own number there.0 in_progress begun closing closed
      ] where
        none_some : {x : Bucket} → ◌≡◌ {A = Option Bucket} None (Some x) → ⊥
        none_some is = cc

  mine : TakenBy rows w.state.shards (worked (w.phases me).work zone (Some old) None)
  mine z n x busy own number is in_progress begun closing closed =
      let before : ((w.phases me).work z x.id x.instance).begun busy.number ≡ Some own =
      put_bundle_cases (λ z c i (v : OwnWork). v.begun busy.number ≡ Some own → ((w.phases me).work z c i).begun busy.number ≡ Some own) (w.phases me).work zone old.id old.instance (record ((w.phases me).work zone old.id old.instance) { removed = Some old.shards })
      (λ there. there) (λ z c i there. there) z x.id x.instance begun in
      taken_by (w.phases me).work (h.taken me) z n x busy own number is in_progress before closing closed

  left_now : (z c i : ℕ) (x : Instance) (n : ℕ) → w.rows.instances z c i ≡ Some x → IsUnnamed rows z c i → n < x.shards → IsLeft (w.state.shards z (shard_key c i n)) x.over
  unfolding named_old
  left_now z c i x n is unnamed less =
      elim (zone == z && (old.id == c && old.instance == i)) as (λ b. (zone == z && (old.id == c && old.instance == i)) ≡ b → IsLeft (w.state.shards z (shard_key c i n)) x.over) [
        | true ↦ λ here.
            let at_zone = number_same zone z (left_of (zone == z) _ here) in
            let id = number_same old.id c (left_of (old.id == c) _ (right_of (zone == z) _ here)) in
            let instance = number_same old.instance i (right_of (old.id == c) (old.instance == i) (right_of (zone == z) _ here)) in
            let one : named_old.instance ≡ x = same_in (sym named_old.placed ∙ (λ k. w.rows.instances (at_zone k) (id k) (instance k)) ∙ is) in
            let shards : x.shards ≡ old.shards = ap (λ (y : Instance). y.shards) (sym one) ∙ named_old.shards_are in
            let taken = each_taken n (omega (arith, less, shards)) in
            let over : (named_old.instance).over ≡ over_in old = (changing.kept_old w j zone name old kept).over_is in
            let overs = ap (λ (y : Instance). y.over) one in
            let before = over_some old r.busy r.in_progress in
            let numbers : ((r.busy).number ≡ old.number) × (1 ≤ old.number) = subst (λ o. IfSome o (λ (y : Busy). (y.number ≡ old.number) × (1 ≤ old.number))) r.in_progress named_old.busy_is in
            let at_number = numbers.0 in
            let positive = numbers.1 in
            let last : (r.busy).number ≡ x.over + 1 = omega (arith, over, overs, before, at_number, positive) in
            subst (λ y. IsLeft (w.state.shards y (shard_key c i n)) x.over) at_zone (subst (λ k. IsLeft (w.state.shards zone k) x.over) (λ k. shard_key (id k) (instance k) n)
            (record { shard = taken.shard; there = taken.there; closed = inr (taken.hold ∙ ap Closing last) }))
        | false ↦ λ other.
            h.left z c i x n is
            (λ m y there id_is instance_is.
            elim (row_back w.state.root zone name None log z m (rows z m) refl) [
              | inl moved ↦
                  let one : old ≡ y = same_in (sym kept ∙ (λ k. rows_of w.state.root (sym moved.0 k) (sym moved.1 k)) ∙ there) in
                  apart z c i (sym moved.0) (ap (λ (q : Bucket). q.id) one ∙ id_is) (ap (λ (q : Bucket). q.instance) one ∙ instance_is) other
              | inr still ↦ unnamed m y (sym still.0 ∙ there) id_is instance_is
            ]) less
      ] refl where
        apart : (z c i : ℕ) → zone ≡ z → old.id ≡ c → old.instance ≡ i → (zone == z && (old.id == c && old.instance == i)) ≡ false → ⊥
        apart z c i a b d other =
            true≢false (sym (subst (λ y. (zone == y && (old.id == c && old.instance == i)) ≡ true) a (subst (λ y. (zone == zone && (old.id == y && old.instance == i)) ≡ true) b (subst (λ y. (zone == zone && (old.id == old.id && old.instance == y)) ≡ true) d (rw (number_itself zone, number_itself old.id, number_itself old.instance) refl)))) ∙ other)

  pub remove_holds : HoldsStand w.rows.instances rows w.state.shards (put_actor w.phases me (learnt (w.phases me) (BucketSwap zone name expected None) Done (w.state.count + 1) (clock_at w.state.clock moment)))
  remove_holds =
      swapped_holds w j h w.rows.homes w.rows.instances rows (removing.moves w j me moment zone name expected old log kept known gone) me _
      (subst (TakenBy rows w.state.shards) (sym (ap (λ o. worked (w.phases me).work zone o None) known)) mine) (λ a. taken_by (w.phases a).work (h.taken a)) left_now
