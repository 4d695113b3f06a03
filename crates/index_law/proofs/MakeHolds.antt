-- What holds shards, over a swap that makes a row.
use Rattle.std.proofs.Common.{◌≡◌, inl, inr, ℕ, ◌+◌, ◌<◌, List, Option, Some, None, sym, subst, ap, ◌∙◌}
use Rattle.object_words.specs.declared.bucket.Bucket.{Bucket}
use Rattle.object_words.specs.declared.bucket.Busy.{Busy}
use Rattle.object_words.specs.Keys.{shard_key}
use Rattle.object_words.specs.Logs.{Log}
use Rattle.object_words.specs.Names.{at}
use Rattle.object_words.specs.Roots.{stored}
use Rattle.realm_model.specs.Facts.{Home, Instance}
use Rattle.realm_model.specs.Phases.{ActorId, OwnWork}
use Rattle.realm_model.specs.Learnt.{put_bundle, row_known, worked, learnt}
use Rattle.realm_model.specs.States.{clock_at}
use Rattle.realm_model.specs.Steps.{is_master}
use Rattle.realm_model.specs.Worlds.{World, put_actor, with_home, instance_in}
use Rattle.realm_model.specs.declared.op.Op.TheVariants.{BucketSwap}
use Rattle.realm_model.specs.declared.event.Reply.TheVariants.{Done}
use Rattle.index_law.specs.Tables.{rows_of, Instances}
use Rattle.index_law.specs.Works.{IsUnnamed}
use Rattle.index_law.specs.Holds.{IsLeft, HoldsStand, HoldsIn}
use Rattle.index_law.specs.Invariants.{IndexHolds}
use Rattle.index_law.proofs.Forms.{Makes}
use Rattle.index_law.proofs.RowLaws.{same_in}
use Rattle.index_law.proofs.Moving.{with_root, row_back, row_here, row_else}
use Rattle.index_law.proofs.Placing as placing
use Rattle.index_law.proofs.Holding.{TakenBy}
use Rattle.index_law.proofs.SwapHolds.{swapped_holds}

module _ (w : World) (j : IndexHolds w) (h : HoldsIn w) (me : ActorId) (moment : ℕ) (zone : ℕ) (name : List ℕ) (b : Bucket) (log : Log) (makes : Makes (w.phases me) zone name b)
    (from : placing.HomeFrom w.rows.homes zone (makes.first).number name b) (free : rows_of w.state.root zone name ≡ None) (known : row_known ((w.phases me).rows zone) name ≡ None) where
  abbrev row : Bucket
  row = stored (at (w.state.root zone).buckets name) b (is_master zone) (w.state.count + 1)

  abbrev rows : ℕ → List ℕ → Option Bucket
  rows = rows_of (with_root w.state.root zone name (Some row) log)

  abbrev homes : ℕ → Option Home
  homes = with_home w.rows.homes zone name 0 (Some b) (w.state.count + 1)

  abbrev instances : Instances
  instances = put_bundle w.rows.instances zone b.id b.instance (Some (instance_in b))

  none_some : {x : Busy} → ◌≡◌ {A = Option Busy} None (Some x) → ⊥
  none_some is = cc

  taken_by : (work : ℕ → ℕ → ℕ → OwnWork) → TakenBy (rows_of w.state.root) w.state.shards work → TakenBy rows w.state.shards work
  taken_by work was z n r busy own number is in_progress begun closing closed =
      elim (row_back w.state.root zone name (Some row) log z n (Some r) is) [
        | inl moved ↦ absurd (none_some (sym makes.idle ∙ ap (λ (x : Bucket). x.busy) (same_in moved.2) ∙ in_progress))
        | inr there ↦ was z n r busy own number there.0 in_progress begun closing closed
      ]

  left_now : (z c i : ℕ) (x : Instance) (n : ℕ) → instances z c i ≡ Some x → IsUnnamed rows z c i → n < x.shards → IsLeft (w.state.shards z (shard_key c i n)) x.over
  left_now z c i x n is unnamed less =
      elim (placing.instances_back w j me moment zone name b log makes.first makes.first_is makes.instance_is makes.not_placed makes.idle makes.some from free known z c i (Some x) is) [
        | inl old ↦ h.left z c i x n old (λ m r kept id_is instance_is. unnamed m r (row_else w.state.root zone name (Some row) log z m (λ at_zone at_name. none_row (sym free ∙ (λ k. rows_of w.state.root (sym at_zone k) (sym at_name k)) ∙ kept)) ∙ kept) id_is instance_is) less
        | inr new ↦ absurd (unnamed name row ((λ k. rows (sym new.0 k) name) ∙ row_here w.state.root zone name (Some row) log) new.1 new.2)
      ] where
        none_row : {r : Bucket} → ◌≡◌ {A = Option Bucket} None (Some r) → ⊥
        none_row is = cc

  pub make_holds : HoldsStand instances rows w.state.shards (put_actor w.phases me (learnt (w.phases me) (BucketSwap zone name 0 (Some b)) Done (w.state.count + 1) (clock_at w.state.clock moment)))
  make_holds =
      swapped_holds w j h homes instances rows (placing.moves w j me moment zone name b log makes.first makes.first_is makes.instance_is makes.not_placed makes.idle makes.some from free known) me _
      (subst (TakenBy rows w.state.shards) (sym (ap (λ o. worked (w.phases me).work zone o (Some b)) known)) (taken_by (w.phases me).work (h.taken me))) (λ a. taken_by (w.phases a).work (h.taken a)) left_now
