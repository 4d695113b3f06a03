-- What holds shards, over a swap that alters a row.
use Rattle.std.proofs.Common.{◌≡◌, inl, inr, ℕ, ◌+◌, ◌==◌, ◌<◌, ◌≤◌, true, false, cond, List, Option, Some, None, refl, sym, subst, ap, ◌∙◌, arith}
use Rattle.std.specs.Prelude.{IfSome}
use Rattle.object_words.specs.declared.bucket.Bucket.{Bucket}
use Rattle.object_words.specs.declared.bucket.Busy.{Busy}
use Rattle.object_words.specs.Keys.{shard_key}
use Rattle.object_words.specs.Logs.{Log}
use Rattle.object_words.specs.Names.{at}
use Rattle.object_words.specs.Roots.{stored}
use Rattle.realm_model.specs.Facts.{Instance}
use Rattle.realm_model.specs.Phases.{ActorId, OwnNumber, OwnWork}
use Rattle.realm_model.specs.Learnt.{put_bundle, row_known, set_in, numbered, worked, learnt}
use Rattle.realm_model.specs.States.{clock_at}
use Rattle.realm_model.specs.Steps.{is_master}
use Rattle.realm_model.specs.Worlds.{World, put_actor, instance_in}
use Rattle.realm_model.specs.declared.op.Op.TheVariants.{BucketSwap}
use Rattle.realm_model.specs.declared.event.Reply.TheVariants.{Done}
use Rattle.realm_model.proofs.ObjectLemmas.{put_bundle_cases}
use Rattle.index_law.specs.Tables.{rows_of, Instances}
use Rattle.index_law.specs.Rows.{IsNamed}
use Rattle.index_law.specs.Works.{IsUnnamed}
use Rattle.index_law.specs.Holds.{IsTaken, IsLeft, HoldsStand, HoldsIn}
use Rattle.index_law.specs.Invariants.{IndexHolds}
use Rattle.index_law.proofs.Forms.{Alters}
use Rattle.index_law.proofs.RowLaws.{same_in}
use Rattle.index_law.proofs.Moving.{with_root, row_back, row_here}
use Rattle.index_law.proofs.Changing as changing
use Rattle.index_law.proofs.Holding.{TakenBy}
use Rattle.index_law.proofs.SwapHolds.{swapped_holds}

module _ (w : World) (j : IndexHolds w) (h : HoldsIn w) (me : ActorId) (moment : ℕ) (zone : ℕ) (name : List ℕ) (expected : ℕ) (old b : Bucket) (log : Log) (kept : rows_of w.state.root zone name ≡ Some old)
    (known : row_known ((w.phases me).rows zone) name ≡ Some old) (alt : Alters (w.phases me) zone name old b) where
  abbrev row : Bucket
  row = stored (at (w.state.root zone).buckets name) b (is_master zone) (w.state.count + 1)

  abbrev rows : ℕ → List ℕ → Option Bucket
  rows = rows_of (with_root w.state.root zone name (Some row) log)

  abbrev instances : Instances
  instances = put_bundle w.rows.instances zone b.id b.instance (Some (instance_in b))

  named_old : IsNamed w.rows.homes w.rows.instances zone name old
  named_old = (changing.kept_old w j zone name old kept).named

  -- the number of the row in progress was in progress before, as no actor set a later one
  was_busy : (work : ℕ → ℕ → ℕ → OwnWork) → ((n : ℕ) (x : OwnNumber) → (work zone old.id old.instance).begun n ≡ Some x → n ≤ old.number) → (busy : Busy) (own : OwnNumber) → b.busy ≡ Some busy → (work zone old.id old.instance).begun busy.number ≡ Some own
      → (was : Busy) × (old.busy ≡ Some was) × (was.number ≡ busy.number)
  was_busy work given busy own now begun = by old.busy refl where
    by : (o : Option Busy) → old.busy ≡ o → (was : Busy) × (old.busy ≡ Some was) × (was.number ≡ busy.number)
    by (Some was) some = (was, some, alt.still was busy some now)
    by None none =
        let numbers : (busy.number ≡ b.number) × (1 ≤ b.number) = subst (λ o. IfSome o (λ (x : Busy). (x.number ≡ b.number) × (1 ≤ b.number))) now (alt.busy_is named_old.busy_is) in
        let at_number = numbers.0 in
        let next = alt.set busy none now in
        let most = given busy.number own begun in
        absurd (omega (arith, at_number, next, most))

  given_by : (a : ActorId) (n : ℕ) (x : OwnNumber) → ((w.phases a).work zone old.id old.instance).begun n ≡ Some x → n ≤ old.number
  given_by a n x is = ((j.rows_stand.knows a).works.begun zone old.id old.instance n x is).given name old kept refl refl

  taken_by : (work : ℕ → ℕ → ℕ → OwnWork) → ((n : ℕ) (x : OwnNumber) → (work zone old.id old.instance).begun n ≡ Some x → n ≤ old.number) → TakenBy (rows_of w.state.root) w.state.shards work → TakenBy rows w.state.shards work
  taken_by work given was z n r busy own number is in_progress begun closing closed =
      elim (row_back w.state.root zone name (Some row) log z n (Some r) is) [
        | inl moved ↦
            let one : row ≡ r = same_in moved.2 in
            let id : old.id ≡ r.id = alt.id ∙ ap (λ (x : Bucket). x.id) one in
            let instance : old.instance ≡ r.instance = alt.instance ∙ ap (λ (x : Bucket). x.instance) one in
            let now : b.busy ≡ Some busy = ap (λ (x : Bucket). x.busy) one ∙ in_progress in
            let at_old : (work zone old.id old.instance).begun busy.number ≡ Some own = (λ i. (work (sym moved.0 i) (id i) (instance i)).begun busy.number) ∙ begun in
            let before = was_busy work given busy own now at_old in
            let old_taken = was zone name old before.0 own number kept before.1 ((λ i. (work zone old.id old.instance).begun (before.2 i)) ∙ at_old) closing closed in
            subst (λ y. IsTaken (w.state.shards y (shard_key r.id r.instance number)) y busy.number) (sym moved.0)
            (subst (λ m. IsTaken (w.state.shards zone (shard_key r.id r.instance number)) zone m) before.2
            (subst (λ k. IsTaken (w.state.shards zone k) zone (before.0).number) (λ i. shard_key (id i) (instance i) number) old_taken))
        | inr there ↦ was z n r busy own number there.0 in_progress begun closing closed
      ]

  abbrev work : ℕ → ℕ → ℕ → OwnWork
  work = worked (w.phases me).work zone (Some old) (Some b)

  -- a number that was just set closed no shard
  numbered_back : (o : OwnWork) (ob nb : Option Busy) (n : ℕ) (x : OwnNumber) (number : ℕ) → (numbered o ob nb).begun n ≡ Some x → x.closed number ≡ true → o.begun n ≡ Some x
  numbered_back o None (Some busy) n x number is closed =
      elim (busy.number == n) as (λ t. cond t (Some (set_in busy)) (o.begun n) ≡ Some x → o.begun n ≡ Some x) [
        | true ↦ λ set. absurd (let one : set_in busy ≡ x = same_in set in let none = ap (λ (y : OwnNumber). y.closed number) one ∙ closed in cc)
        | false ↦ λ there. there
      ] is
  numbered_back o None None n x number is closed = is
  numbered_back o (Some busy) None n x number is closed = is
  numbered_back o (Some busy) (Some other) n x number is closed = is

  mine : TakenBy rows w.state.shards work
  mine z n r busy own number is in_progress begun closing closed =
      let before : ((w.phases me).work z r.id r.instance).begun busy.number ≡ Some own =
      put_bundle_cases (λ z c i (v : OwnWork). v.begun busy.number ≡ Some own → ((w.phases me).work z c i).begun busy.number ≡ Some own) (w.phases me).work zone old.id old.instance (numbered ((w.phases me).work zone old.id old.instance) old.busy b.busy)
      (λ set. numbered_back ((w.phases me).work zone old.id old.instance) old.busy b.busy busy.number own number set closed) (λ z c i there. there) z r.id r.instance begun in
      taken_by (w.phases me).work (given_by me) (h.taken me) z n r busy own number is in_progress before closing closed

  left_now : (z c i : ℕ) (x : Instance) (n : ℕ) → instances z c i ≡ Some x → IsUnnamed rows z c i → n < x.shards → IsLeft (w.state.shards z (shard_key c i n)) x.over
  left_now z c i x n is unnamed less =
      elim (changing.instances_back w j me moment zone name expected old b log kept known alt z c i (Some x) is) [
        | inl before ↦
            h.left z c i x n before
            (λ m r there id_is instance_is.
            elim (row_back w.state.root zone name (Some row) log z m (rows z m) refl) [
              | inl moved ↦
                  let one : old ≡ r = same_in (sym kept ∙ (λ k. rows_of w.state.root (sym moved.0 k) (sym moved.1 k)) ∙ there) in
                  unnamed m row (sym moved.2) (sym alt.id ∙ ap (λ (y : Bucket). y.id) one ∙ id_is) (sym alt.instance ∙ ap (λ (y : Bucket). y.instance) one ∙ instance_is)
              | inr still ↦ unnamed m r (sym still.0 ∙ there) id_is instance_is
            ]) less
        | inr new ↦ absurd (unnamed name row ((λ k. rows (sym new.0 k) name) ∙ row_here w.state.root zone name (Some row) log) new.1 new.2)
      ]

  pub alter_holds : HoldsStand instances rows w.state.shards (put_actor w.phases me (learnt (w.phases me) (BucketSwap zone name expected (Some b)) Done (w.state.count + 1) (clock_at w.state.clock moment)))
  alter_holds =
      swapped_holds w j h w.rows.homes instances rows (changing.moves w j me moment zone name expected old b log kept known alt) me _
      (subst (TakenBy rows w.state.shards) (sym (ap (λ o. worked (w.phases me).work zone o (Some b)) known)) mine) (λ a. taken_by (w.phases a).work (given_by a) (h.taken a)) left_now
