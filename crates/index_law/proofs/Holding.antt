-- What holds shards, event by event.
use Rattle.std.proofs.Common.{◌≡◌, ◌⊎◌, inl, inr, ℕ, ◌+◌, ◌≤◌, true, List, Option, Some, None, refl, sym, subst, ap, ◌∙◌}
use Rattle.rgw_types.specs.declared.pool_key.Key.{Key}
use Rattle.object_words.specs.declared.bucket.Bucket.{Bucket}
use Rattle.object_words.specs.declared.bucket.Busy.{Busy}
use Rattle.object_words.specs.declared.shard.Fate.TheVariants as Fates
use Rattle.object_words.specs.declared.shard.Hold.{Hold}
use Rattle.object_words.specs.declared.shard.Hold.TheVariants.{Free, Reshard, Closing}
use Rattle.object_words.specs.declared.why.Why.{Why}
use Rattle.object_words.specs.Keys.{shard_key, container_of, instance_of, number_of}
use Rattle.object_words.specs.Names.{at}
use Rattle.object_words.specs.Refusals.{first_refusal, fate_refusal, hold_refusal, change_refusal}
use Rattle.object_words.specs.Shards.{Shard}
use Rattle.object_words.specs.HoldCalls.{hold_number}
use Rattle.realm_model.specs.Facts.{Instance}
use Rattle.realm_model.specs.Phases.{ActorId, OwnNumber, OwnWork, Phase}
use Rattle.realm_model.specs.Learnt.{learnt}
use Rattle.realm_model.specs.States.{clock_at, put_in}
use Rattle.realm_model.specs.Worlds.{World, put_actor}
use Rattle.realm_model.specs.declared.op.Op.{Op}
use Rattle.realm_model.specs.declared.event.Reply.{Reply}
use Rattle.realm_model.proofs.ObjectLemmas.{put_in_cases, put_actor_cases}
use Rattle.index_law.specs.Tables.{rows_of, Instances}
use Rattle.index_law.specs.Holds.{Pool, IsClosing, IsHeldUpTo, IsNew, IsGiven, IsShut, IsTaken, IsLeft, HoldsStand, HoldsIn}
use Rattle.index_law.specs.Invariants.{IndexHolds}
use Rattle.index_law.proofs.RowLaws.{same_in}

-- ---- one shard

-- the hold, the fence and the fate are the same; and the entries where a closing holds it
pub record KeepsHold (s t : Shard) : Type 0 where
  pub hold : t.hold ≡ s.hold
  pub fence : t.fence ≡ s.fence
  pub fate : t.fate ≡ s.fate
  pub entries : (n : ℕ) → s.hold ≡ Closing n → t.entries ≡ s.entries

pub keeps_itself : (s : Shard) → KeepsHold s s
keeps_itself s = record { hold = refl; fence = refl; fate = refl; entries = λ n is. refl }

held_same : (s t : Shard) (over : ℕ) → KeepsHold s t → IsHeldUpTo over s → IsHeldUpTo over t
held_same s t over k is = record {
  hold = subst (λ x. (x ≡ Free) ⊎ IsClosing x (over + 1)) (sym k.hold) is.hold;
  fence = subst (λ n. n ≤ over) (sym k.fence) is.fence;
}

given_same : (rows : ℕ → List ℕ → Option Bucket) (zone : ℕ) (key : Key) (s t : Shard) → KeepsHold s t → IsGiven rows zone key s → IsGiven rows zone key t
given_same rows zone key s t k is name row there id instance = subst (λ x. hold_number x ≤ row.number) (sym k.hold) (is name row there id instance)

new_same : (s t : Shard) → KeepsHold s t → IsNew s → IsNew t
new_same s t k is = record { hold = k.hold ∙ is.hold; fence = k.fence ∙ is.fence }

fates_same : (instances : Instances) (rows : ℕ → List ℕ → Option Bucket) (zone : ℕ) (key : Key) (s t : Shard) → KeepsHold s t → (s.fate ≡ Fates.Serving) ⊎ IsShut instances rows zone key s → (t.fate ≡ Fates.Serving) ⊎ IsShut instances rows zone key t
fates_same instances rows zone key s t k (inl serving) = inl (k.fate ∙ serving)
fates_same instances rows zone key s t k (inr shut) = inr (record { fate = k.fate ∙ shut.fate; instance = shut.instance; placed = shut.placed; unnamed = shut.unnamed })

taken_same : (s t : Shard) (zone n : ℕ) → KeepsHold s t → (o : Option Shard) → o ≡ Some s → IsTaken o zone n → IsTaken (Some t) zone n
taken_same s t zone n k o there is =
    let one : is.shard ≡ s = same_in (sym is.there ∙ there) in
    let held : s.hold ≡ Closing n = ap (λ (x : Shard). x.hold) (sym one) ∙ is.hold in
    record {
      shard = t;
      there = refl;
      hold = k.hold ∙ held;
      empty = λ at_one name. ap (λ es. at es name) (k.entries n held) ∙ ap (λ (x : Shard). at x.entries name) (sym one) ∙ is.empty at_one name;
    }

left_same : (s t : Shard) (over : ℕ) → KeepsHold s t → (o : Option Shard) → o ≡ Some s → IsLeft o over → IsLeft (Some t) over
left_same s t over k o there is =
    let one : is.shard ≡ s = same_in (sym is.there ∙ there) in
    record { shard = t; there = refl; closed = by is.closed one } where
      by : {x : Shard} → (x.fate ≡ Fates.Closed) ⊎ (x.hold ≡ Closing (over + 1)) → x ≡ s → (t.fate ≡ Fates.Closed) ⊎ (t.hold ≡ Closing (over + 1))
      by (inl fate) one = inl (k.fate ∙ ap (λ (x : Shard). x.fate) (sym one) ∙ fate)
      by (inr hold) one = inr (k.hold ∙ ap (λ (x : Shard). x.hold) (sym one) ∙ hold)

-- ---- refusals

pub first_passes : (a b : Option Why) → first_refusal a b ≡ None → a ≡ None
first_passes None b is = refl
first_passes (Some why) b is = cc

pub second_passes : (a b : Option Why) → first_refusal a b ≡ None → b ≡ None
second_passes None b is = is
second_passes (Some why) b is = cc

free_of : (hold : Hold) → hold_refusal hold ≡ None → hold ≡ Free
free_of Free is = refl
free_of (Reshard n) is = absurd cc
free_of (Closing n) is = absurd cc

not_both : (n : ℕ) → Free ≡ Closing n → ⊥
not_both n is = cc

one_closing : {n m : ℕ} → Closing n ≡ Closing m → n ≡ m
one_closing is = cc

-- a shard that took a change is held by no closing
pub took_change : (s t : Shard) → change_refusal s ≡ None → t.hold ≡ s.hold → t.fence ≡ s.fence → t.fate ≡ s.fate → KeepsHold s t
took_change s t ok hold fence fate = record {
  hold = hold;
  fence = fence;
  fate = fate;
  entries = λ n is. absurd (not_both n (sym (free_of s.hold (second_passes (fate_refusal s.fate) (hold_refusal s.hold) ok)) ∙ is));
}

-- ---- one event

-- what the work of an actor says of shards that it closed
abbrev pub TakenBy : (ℕ → List ℕ → Option Bucket) → Pool → (ℕ → ℕ → ℕ → OwnWork) → Type 0
TakenBy rows shards work = (zone : ℕ) (name : List ℕ) (row : Bucket) (busy : Busy) (own : OwnNumber) (number : ℕ) → rows zone name ≡ Some row → row.busy ≡ Some busy
    → (work zone row.id row.instance).begun busy.number ≡ Some own → own.closing ≡ true → own.closed number ≡ true → IsTaken (shards zone (shard_key row.id row.instance number)) zone busy.number

module _ (w : World) (j : IndexHolds w) (h : HoldsIn w) (me : ActorId) (moment : ℕ) (op : Op) (reply : Reply) where
  abbrev phase : Phase
  phase = learnt (w.phases me) op reply (w.state.count + 1) (clock_at w.state.clock moment)

  abbrev phases : ActorId → Phase
  phases = put_actor w.phases me phase

  abbrev rows : ℕ → List ℕ → Option Bucket
  rows = rows_of w.state.root

  abbrev Holds : Pool → Type 0
  Holds shards = HoldsStand w.rows.instances rows shards phases

  -- no shard changed
  pub holds_same : phase.work ≡ (w.phases me).work → Holds w.state.shards
  holds_same work = record {
    keyed = h.keyed;
    placed = h.placed;
    new = h.new;
    given = h.given;
    fates = h.fates;
    taken = put_actor_cases (λ a p. TakenBy rows w.state.shards p.work) w.phases me phase (subst (TakenBy rows w.state.shards) (sym work) (h.taken me)) h.taken;
    left = h.left;
  }

  -- the shard of one key changed
  module _ (zone : ℕ) (key : Key) (o : Option Shard)
      (keyed : (s : Shard) → o ≡ Some s → key ≡ shard_key (container_of key) (instance_of key) (number_of key))
      (placed : (s : Shard) (instance : Instance) → o ≡ Some s → w.rows.instances zone (container_of key) (instance_of key) ≡ Some instance → IsHeldUpTo instance.over s)
      (new : (s : Shard) → o ≡ Some s → w.rows.instances zone (container_of key) (instance_of key) ≡ None → IsNew s)
      (given : (s : Shard) → o ≡ Some s → IsGiven rows zone key s)
      (fates : (s : Shard) → o ≡ Some s → (s.fate ≡ Fates.Serving) ⊎ IsShut w.rows.instances rows zone key s)
      (taken : (name : List ℕ) (row : Bucket) (busy : Busy) (number : ℕ) → rows zone name ≡ Some row → row.busy ≡ Some busy → shard_key row.id row.instance number ≡ key → IsTaken (w.state.shards zone key) zone busy.number → IsTaken o zone busy.number)
      (left : (i : Instance) → w.rows.instances zone (container_of key) (instance_of key) ≡ Some i → IsLeft (w.state.shards zone key) i.over → IsLeft o i.over) where
    abbrev shards : Pool
    shards = put_in w.state.shards zone key o

    pub taken_on : (work : ℕ → ℕ → ℕ → OwnWork) → TakenBy rows w.state.shards work → TakenBy rows shards work
    taken_on work was z n row busy own number kept in_progress begun closing closed =
        put_in_cases (λ y k x. z ≡ y → shard_key row.id row.instance number ≡ k → IsTaken x z busy.number) w.state.shards zone key o
        (λ at_zone at_key.
        let old = subst (λ k. IsTaken (w.state.shards z k) z busy.number) at_key (was z n row busy own number kept in_progress begun closing closed) in
        subst (λ y. IsTaken o y busy.number) (sym at_zone) (taken n row busy number ((λ i. rows (sym at_zone i) n) ∙ kept) in_progress at_key (subst (λ y. IsTaken (w.state.shards y key) y busy.number) at_zone old)))
        (λ y k at_zone at_key. subst (λ y. IsTaken (w.state.shards y k) z busy.number) at_zone (subst (λ k. IsTaken (w.state.shards z k) z busy.number) at_key (was z n row busy own number kept in_progress begun closing closed)))
        z (shard_key row.id row.instance number) refl refl

    pub one_changed : TakenBy rows shards phase.work → Holds shards
    one_changed mine = record {
      keyed = put_in_cases (λ z k x. (s : Shard) → x ≡ Some s → k ≡ shard_key (container_of k) (instance_of k) (number_of k)) w.state.shards zone key o keyed h.keyed;
      placed = put_in_cases (λ z k x. (s : Shard) (instance : Instance) → x ≡ Some s → w.rows.instances z (container_of k) (instance_of k) ≡ Some instance → IsHeldUpTo instance.over s) w.state.shards zone key o placed h.placed;
      new = put_in_cases (λ z k x. (s : Shard) → x ≡ Some s → w.rows.instances z (container_of k) (instance_of k) ≡ None → IsNew s) w.state.shards zone key o new h.new;
      given = put_in_cases (λ z k x. (s : Shard) → x ≡ Some s → IsGiven rows z k s) w.state.shards zone key o given h.given;
      fates = put_in_cases (λ z k x. (s : Shard) → x ≡ Some s → (s.fate ≡ Fates.Serving) ⊎ IsShut w.rows.instances rows z k s) w.state.shards zone key o fates h.fates;
      taken = put_actor_cases (λ a p. TakenBy rows shards p.work) w.phases me phase mine (λ a. taken_on (w.phases a).work (h.taken a));
      left = λ z c i x number is unnamed less.
          put_in_cases (λ y k v. z ≡ y → shard_key c i number ≡ k → IsLeft v x.over) w.state.shards zone key o
          (λ at_zone at_key.
          let old = subst (λ k. IsLeft (w.state.shards z k) x.over) at_key (h.left z c i x number is unnamed less) in
          left x ((λ t. w.rows.instances (sym at_zone t) (container_of (sym at_key t)) (instance_of (sym at_key t))) ∙ is) (subst (λ y. IsLeft (w.state.shards y key) x.over) at_zone old))
          (λ y k at_zone at_key. subst (λ y. IsLeft (w.state.shards y k) x.over) at_zone (subst (λ k. IsLeft (w.state.shards z k) x.over) at_key (h.left z c i x number is unnamed less)))
          z (shard_key c i number) refl refl;
    }

  -- a shard whose hold is the same
  module _ (zone : ℕ) (key : Key) (s t : Shard) (there : w.state.shards zone key ≡ Some s) (k : KeepsHold s t) where
    pub hold_kept : phase.work ≡ (w.phases me).work → Holds (put_in w.state.shards zone key (Some t))
    hold_kept work =
        let taken = λ (n : List ℕ) (row : Bucket) (busy : Busy) (number : ℕ) (kept : rows zone n ≡ Some row) (in_progress : row.busy ≡ Some busy) (at_key : shard_key row.id row.instance number ≡ key) (was : IsTaken (w.state.shards zone key) zone busy.number).
        taken_same s t zone busy.number k (w.state.shards zone key) there was in
        let left = λ (i : Instance) (is : w.rows.instances zone (container_of key) (instance_of key) ≡ Some i) (was : IsLeft (w.state.shards zone key) i.over). left_same s t i.over k (w.state.shards zone key) there was in
        let keyed = λ (x : Shard) (is : Some t ≡ Some x). h.keyed zone key s there in
        let placed = λ (x : Shard) (i : Instance) (is : Some t ≡ Some x) (at_instance : w.rows.instances zone (container_of key) (instance_of key) ≡ Some i).
        subst (IsHeldUpTo i.over) (same_in is) (held_same s t i.over k (h.placed zone key s i there at_instance)) in
        let new = λ (x : Shard) (is : Some t ≡ Some x) (none : w.rows.instances zone (container_of key) (instance_of key) ≡ None). subst IsNew (same_in is) (new_same s t k (h.new zone key s there none)) in
        let given = λ (x : Shard) (is : Some t ≡ Some x). subst (IsGiven rows zone key) (same_in is) (given_same rows zone key s t k (h.given zone key s there)) in
        let fates = λ (x : Shard) (is : Some t ≡ Some x).
        subst (λ y. (y.fate ≡ Fates.Serving) ⊎ IsShut w.rows.instances rows zone key y) (same_in is) (fates_same w.rows.instances rows zone key s t k (h.fates zone key s there)) in
        one_changed zone key (Some t) keyed placed new given fates taken left
        (subst (TakenBy rows (put_in w.state.shards zone key (Some t))) (sym work) (taken_on zone key (Some t) keyed placed new given fates taken left (w.phases me).work (h.taken me)))
