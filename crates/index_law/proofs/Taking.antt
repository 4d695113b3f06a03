-- What holds shards, over the calls on one shard.
use Rattle.std.proofs.Common.{◌≡◌, ◌⊎◌, inl, inr, ℕ, ◌+◌, ◌==◌, ◌<◌, ◌≤◌, ◌&&◌, ◌||◌, not, Bool, true, false, cond, List, [], ◌∷◌, Option, Some, None, refl, sym, subst, ap, ◌∙◌, arith}
use Rattle.std.specs.Prelude.{nat_le, nat_lt, max, IfSome, length}
use Rattle.std.proofs.lemmas.Bool.{true≢false}
use Rattle.std.proofs.lemmas.Bool.Decides.{nat_tests}
use Rattle.rgw_types.specs.declared.pool_key.Key.{Key}
use Rattle.object_words.specs.declared.bucket.Bucket.{Bucket}
use Rattle.object_words.specs.declared.bucket.Busy.{Busy}
use Rattle.object_words.specs.declared.shard.Fate.{Fate}
use Rattle.object_words.specs.declared.shard.Fate.TheVariants as Fates
use Rattle.object_words.specs.declared.shard.Hold.{Hold}
use Rattle.object_words.specs.declared.shard.Hold.TheVariants.{Free, Closing}
use Rattle.object_words.specs.declared.why.Why.{Why}
use Rattle.object_words.specs.declared.why.Why.TheVariants.{NotEmpty, Unsettled}
use Rattle.object_words.specs.Keys.{is_key, put, shard_key, container_of, instance_of, number_of}
use Rattle.object_words.specs.Names.{Named, at, entries as names_of}
use Rattle.object_words.specs.Entries.{EntryView}
use Rattle.object_words.specs.Refusals.{first_refusal, unless_refused, fate_refusal}
use Rattle.object_words.specs.Shards.{Shard, new_shard}
use Rattle.object_words.specs.ShardCalls.{made}
use Rattle.object_words.specs.HoldCalls.{hold_number, fence_refusal, greater_refusal, take_refusal, entry_refusal, close_refusal, taken, released, shut_down}
use Rattle.object_words.proofs.KeyLemmas.{same_key, number_itself, key_itself}
use Rattle.realm_model.specs.Containers.{over_in}
use Rattle.realm_model.specs.Facts.{Instance}
use Rattle.realm_model.specs.Needs.{has_ended, is_closing, may_release, is_removed, is_next_shard}
use Rattle.realm_model.specs.Phases.{ActorId, OwnNumber, OwnWork, Phase}
use Rattle.realm_model.specs.Learnt.{with_closed, learnt}
use Rattle.realm_model.specs.States.{clock_at, put_in}
use Rattle.realm_model.specs.Steps.{change_at, on_shard, reply_or}
use Rattle.realm_model.specs.Tests.{is_so}
use Rattle.realm_model.specs.Worlds.{World, put_actor}
use Rattle.realm_model.specs.declared.op.Op.{Op}
use Rattle.realm_model.specs.declared.op.Op.TheVariants.{ShardMake, CloseShard, Release, Shut}
use Rattle.realm_model.specs.declared.event.Reply.{Reply}
use Rattle.realm_model.specs.declared.event.Reply.TheVariants.{Done, No}
use Rattle.realm_model.proofs.Computing.{left_of, right_of}
use Rattle.realm_model.proofs.ObjectLemmas.{number_same, put_bundle_cases}
use Rattle.realm_model.proofs.TouchLemmas.{put_in_same}
use Rattle.index_law.specs.Tables.{rows_of}
use Rattle.index_law.specs.Rows.{ReadHolds}
use Rattle.index_law.specs.Works.{IsBegun, IsRemoved}
use Rattle.index_law.specs.Holds.{Pool, IsClosing, IsHeldUpTo, IsNew, IsGiven, IsShut, IsTaken, IsLeft, HoldsStand, HoldsIn}
use Rattle.index_law.specs.Invariants.{IndexHolds}
use Rattle.index_law.proofs.Puts.{call_cases}
use Rattle.index_law.proofs.TagLists.{find_any}
use Rattle.index_law.proofs.Tests.{So, so}
use Rattle.index_law.proofs.Forms.{not_true, over_none, over_some, either_of}
use Rattle.index_law.proofs.RowLaws.{same_in}
use Rattle.index_law.proofs.Holding.{KeepsHold, keeps_itself, first_passes, second_passes, TakenBy, holds_same, taken_on, one_changed, hold_kept}

-- ---- a shard that is closed under a number

-- the closing under the number holds it
record IsClosed (s t : Shard) (id over : ℕ) : Type 0 where
  hold : t.hold ≡ Closing id
  fence : t.fence ≤ over
  fate : t.fate ≡ s.fate
  entries : t.entries ≡ s.entries

most_of : (a b over : ℕ) → a ≤ over → b ≤ over → max a b ≤ over
most_of a b over first second = omega (arith, first, second)

now_closed : (s : Shard) (id over : ℕ) → IsHeldUpTo over s → 1 ≤ id → id ≤ over + 1 → hold_number s.hold ≤ id → IsClosed s (taken s id (Closing id)) id over
now_closed s id over held low high below =
    elim (hold_number s.hold == id) as (λ t. (hold_number s.hold == id) ≡ t → IsClosed s (cond t s (record s { hold = Closing id; fence = max s.fence (hold_number s.hold) })) id over) [
      | true ↦ λ same.
          let number = number_same (hold_number s.hold) id same in
          elim held.hold [
            | inl free ↦ let zero : hold_number s.hold ≡ 0 = ap hold_number free in absurd (omega (arith, zero, number, low))
            | inr c ↦
                let is : c.number ≡ id = ap hold_number (sym c.is) ∙ number in
                record { hold = c.is ∙ ap Closing is; fence = held.fence; fate = refl; entries = refl }
          ]
      | false ↦ λ other.
          let lower : hold_number s.hold ≤ over = grind (arith, nat_tests, below, high, other) in
          record { hold = refl; fence = most_of s.fence (hold_number s.hold) over held.fence lower; fate = refl; entries = refl }
    ] refl

none_of_test : {A : Type 0} (test : Bool) (x : A) → cond test (Some x) None ≡ None → test ≡ false
none_of_test true x is = cc
none_of_test false x is = refl

-- what a closing that was not refused says
record MayClose (s : Shard) (id : ℕ) (force : Bool) : Type 0 where
  serving : fate_refusal s.fate ≡ None
  below : hold_number s.hold ≤ id
  empty : force ≡ false → names_of s.entries ≡ []

no_entries : (es : List (List ℕ × EntryView)) → entry_refusal es false ≡ None → es ≡ []
no_entries [] is = refl
no_entries (e ∷ es) is =
    absurd (
    elim (length (e.1).tags == 0) as (λ b. cond b (Some (NotEmpty e.0)) (Some (Unsettled e.0)) ≡ None → ⊥) [
      | true ↦ λ bad. some_none bad
      | false ↦ λ bad. some_none bad
    ] is) where
      some_none : {why : Why} → Some why ≡ None → ⊥
      some_none bad = cc

may_close : (s : Shard) (id : ℕ) (force : Bool) → close_refusal s id force ≡ None → MayClose s id force
may_close s id force ok =
    let take = first_passes (take_refusal s id) (entry_refusal (names_of s.entries) force) ok in
    let rest = second_passes (fate_refusal s.fate) (first_refusal (fence_refusal s id) (greater_refusal s id)) take in
    let greater = none_of_test (nat_lt id (hold_number s.hold)) _ (second_passes (fence_refusal s id) (greater_refusal s id) rest) in
    record {
      serving = first_passes (fate_refusal s.fate) (first_refusal (fence_refusal s id) (greater_refusal s id)) take;
      below = grind (arith, nat_tests, greater);
      empty = λ is. no_entries (names_of s.entries) (ap (entry_refusal (names_of s.entries)) (sym is) ∙ second_passes (take_refusal s id) (entry_refusal (names_of s.entries) force) ok);
    }

at_empty : (m : Named EntryView) (name : List ℕ) → names_of m ≡ [] → at m name ≡ None
unfolding names_of at
at_empty m name is = rw is refl

serving_not_closed : (fate : Fate) → fate_refusal fate ≡ None → fate ≡ Fates.Closed → ⊥
serving_not_closed fate none is = absurd (let bad = ap fate_refusal (sym is) ∙ none in cc)

put_in_here : {A : Type 0} (f : ℕ → Key → A) (z : ℕ) (k : Key) (x : A) → put_in f z k x z k ≡ x
put_in_here f z k x = rw (number_itself z, key_itself k) refl

module _ (w : World) (j : IndexHolds w) (h : HoldsIn w) (me : ActorId) (moment : ℕ) where
  abbrev p : Phase
  p = w.phases me

  abbrev rows : ℕ → List ℕ → Option Bucket
  rows = rows_of w.state.root

  abbrev Left : Op → Reply → Pool → Type 0
  Left op reply shards = HoldsStand w.rows.instances rows shards (put_actor w.phases me (learnt p op reply (w.state.count + 1) (clock_at w.state.clock moment)))

  -- a call that changes entries alone
  pub called_holds : (op : Op) → ((reply : Reply) → (learnt p op reply (w.state.count + 1) (clock_at w.state.clock moment)).work ≡ p.work) → (zone : ℕ) (key : Key) (refusal : Shard → Option Why) (new : Shard → Shard) (reply : Shard → Reply)
      → ((s : Shard) → refusal s ≡ None → KeepsHold s (new s))
      → Left op (on_shard (w.state.shards zone key) (λ s. reply_or (reply s) (refusal s))) (put_in w.state.shards zone key (change_at (w.state.shards zone key) (λ s. unless_refused (refusal s) s (new s))))
  called_holds op works zone key refusal new reply keeps =
      call_cases (λ shards said. Left op said shards) w.state.shards zone key refusal new reply
      (λ why. holds_same w j h me moment op (No why) (works (No why)))
      (λ s there ok. hold_kept w j h me moment op (reply s) zone key s (new s) there (keeps s ok) (works (reply s)))

  -- a shard that is made is new
  pub make_holds : (zone : ℕ) (key : Key) → is_next_shard p zone key ≡ true → Left (ShardMake zone key) Done (put_in w.state.shards zone key (made (w.state.shards zone key)))
  make_holds zone key may =
      let first = so p.first _ (left_of (is_so p.first (λ f. is_key (shard_key (container_of key) f.number (p.shards zone (container_of key)).made) key)) _ may) in
      let is_shard = subst (λ k. k ≡ shard_key (container_of k) (instance_of k) (number_of k)) (same_key (shard_key (container_of key) (first.x).number (p.shards zone (container_of key)).made) key first.passes) refl in
      elim (w.state.shards zone key) as (λ x. w.state.shards zone key ≡ x → Left (ShardMake zone key) Done (put_in w.state.shards zone key (made x))) [
        | None ↦ λ none.
            let keyed = λ (s : Shard) (is : Some new_shard ≡ Some s). is_shard in
            let placed = λ (s : Shard) (i : Instance) (is : Some new_shard ≡ Some s) (at_instance : w.rows.instances zone (container_of key) (instance_of key) ≡ Some i). subst (IsHeldUpTo i.over) (same_in is) (record { hold = inl refl; fence = omega arith }) in
            let new = λ (s : Shard) (is : Some new_shard ≡ Some s) (no_instance : w.rows.instances zone (container_of key) (instance_of key) ≡ None). subst IsNew (same_in is) (record { hold = refl; fence = refl }) in
            let given = λ (s : Shard) (is : Some new_shard ≡ Some s). subst (IsGiven rows zone key) (same_in is) (λ n row kept id instance. omega arith) in
            let fates = λ (s : Shard) (is : Some new_shard ≡ Some s). subst (λ (y : Shard). (y.fate ≡ Fates.Serving) ⊎ IsShut w.rows.instances rows zone key y) (same_in is) (inl refl) in
            let taken = λ (n : List ℕ) (row : Bucket) (busy : Busy) (number : ℕ) (kept : rows zone n ≡ Some row) (in_progress : row.busy ≡ Some busy) (at_key : shard_key row.id row.instance number ≡ key) (was : IsTaken (w.state.shards zone key) zone busy.number).
            absurd_taken zone busy.number (w.state.shards zone key) none was in
            let left = λ (i : Instance) (is : w.rows.instances zone (container_of key) (instance_of key) ≡ Some i) (was : IsLeft (w.state.shards zone key) i.over). absurd_left i.over (w.state.shards zone key) none was in
            one_changed w j h me moment (ShardMake zone key) Done zone key (Some new_shard) keyed placed new given fates taken left
            (taken_on w j h me moment (ShardMake zone key) Done zone key (Some new_shard) keyed placed new given fates taken left p.work (h.taken me))
        | Some s ↦ λ there. hold_kept w j h me moment (ShardMake zone key) Done zone key s s there (keeps_itself s) refl
      ] refl where
        absurd_taken : (z n : ℕ) (o : Option Shard) → o ≡ None → IsTaken o z n → IsTaken (Some new_shard) z n
        absurd_taken z n o none was = let there = was.there in absurd cc

        absurd_left : (over : ℕ) (o : Option Shard) → o ≡ None → IsLeft o over → IsLeft (Some new_shard) over
        absurd_left over o none was = let there = was.there in absurd cc

  -- ---- a closing

  module _ (zone : ℕ) (key : Key) (id : ℕ) (force : Bool) (may : (is_closing p zone key id && (not force || not (zone == 1))) ≡ true) where
    abbrev closing : Op
    closing = CloseShard zone key id force

    own : So ((p.work zone (container_of key) (instance_of key)).begun id) (λ x. x.closing)
    own = so ((p.work zone (container_of key) (instance_of key)).begun id) (λ x. x.closing) (left_of (is_closing p zone key id) _ may)

    begun : IsBegun w.rows.instances rows zone (container_of key) (instance_of key) id
    begun = (j.rows_stand.knows me).works.begun zone (container_of key) (instance_of key) id own.x own.is

    unforced : zone ≡ 1 → force ≡ false
    unforced one = by force (zone == 1) (ap (λ z. z == 1) one) (right_of (is_closing p zone key id) (not force || not (zone == 1)) may) where
      by : (f at_one : Bool) → at_one ≡ true → (not f || not at_one) ≡ true → f ≡ false
      by true at_one is ok = absurd (true≢false (sym (subst (λ b. (false || not b) ≡ true) is ok)))
      by false at_one is ok = refl

    module _ (s : Shard) (there : w.state.shards zone key ≡ Some s) (ok : close_refusal s id force ≡ None) where
      abbrev t : Shard
      t = taken s id (Closing id)

      may_it : MayClose s id force
      may_it = may_close s id force ok

      now : IsClosed s t id (begun.instance).over
      now = now_closed s id (begun.instance).over (h.placed zone key s begun.instance there begun.placed) begun.low begun.high may_it.below

      -- the number that is in progress in the row that names the shard is not below this one
      in_row : (n : List ℕ) (row : Bucket) (busy : Busy) (number : ℕ) → rows zone n ≡ Some row → row.busy ≡ Some busy → shard_key row.id row.instance number ≡ key → (begun.instance).over + 1 ≡ busy.number
      in_row n row busy number kept in_progress at_key =
          let k = j.rows_stand.kept zone n row kept in
          let named = k.named in
          let one : named.instance ≡ begun.instance = same_in (sym named.placed ∙ (λ i. w.rows.instances zone (container_of (at_key i)) (instance_of (at_key i))) ∙ begun.placed) in
          let overs = ap (λ (i : Instance). i.over) one in
          let over = k.over_is in
          let before = over_some row busy in_progress in
          let has : (busy.number ≡ row.number) × (1 ≤ row.number) = subst (λ o. IfSome o (λ (x : Busy). (x.number ≡ row.number) × (1 ≤ row.number))) in_progress named.busy_is in
          let numbers = has.0 in
          let positive = has.1 in
          omega (arith, overs, over, before, numbers, positive)

      keyed : (x : Shard) → Some t ≡ Some x → key ≡ shard_key (container_of key) (instance_of key) (number_of key)
      keyed x is = h.keyed zone key s there

      placed : (x : Shard) (i : Instance) → Some t ≡ Some x → w.rows.instances zone (container_of key) (instance_of key) ≡ Some i → IsHeldUpTo i.over x
      placed x i is at_instance =
          let one : begun.instance ≡ i = same_in (sym begun.placed ∙ at_instance) in
          subst (λ (y : Shard). IsHeldUpTo i.over y) (same_in is)
          (subst (λ (y : Instance). IsHeldUpTo y.over t) one (record { hold = inr (record { number = id; is = now.hold; low = begun.low; high = begun.high }); fence = now.fence }))

      new : (x : Shard) → Some t ≡ Some x → w.rows.instances zone (container_of key) (instance_of key) ≡ None → IsNew x
      new x is none = absurd (let some = begun.placed in cc)

      given : (x : Shard) → Some t ≡ Some x → IsGiven rows zone key x
      given x is = subst (IsGiven rows zone key) (same_in is) (λ n row kept id instance. subst (λ k. k ≤ row.number) (sym (ap hold_number now.hold)) (begun.given n row kept id instance))

      fates : (x : Shard) → Some t ≡ Some x → (x.fate ≡ Fates.Serving) ⊎ IsShut w.rows.instances rows zone key x
      fates x is =
          elim (h.fates zone key s there) [
            | inl serving ↦ subst (λ (y : Shard). (y.fate ≡ Fates.Serving) ⊎ IsShut w.rows.instances rows zone key y) (same_in is) (inl (now.fate ∙ serving))
            | inr shut ↦ absurd (serving_not_closed s.fate may_it.serving shut.fate)
          ]

      -- a shard that another closing holds is one of this number
      still_taken : (n : List ℕ) (row : Bucket) (busy : Busy) (number : ℕ) → rows zone n ≡ Some row → row.busy ≡ Some busy → shard_key row.id row.instance number ≡ key → IsTaken (w.state.shards zone key) zone busy.number → IsTaken (Some t) zone busy.number
      still_taken n row busy number kept in_progress at_key was =
          let one : was.shard ≡ s = same_in (sym was.there ∙ there) in
          let held : hold_number s.hold ≡ busy.number = ap (λ (x : Shard). hold_number x.hold) (sym one) ∙ ap hold_number was.hold in
          let last = in_row n row busy number kept in_progress at_key in
          let below = may_it.below in
          let high = begun.high in
          let same : id ≡ busy.number = omega (arith, held, last, below, high) in
          record {
            shard = t;
            there = refl;
            hold = now.hold ∙ ap Closing same;
            empty = λ at_one name. ap (λ es. at es name) now.entries ∙ ap (λ (x : Shard). at x.entries name) (sym one) ∙ was.empty at_one name;
          }

      still_left : (i : Instance) → w.rows.instances zone (container_of key) (instance_of key) ≡ Some i → IsLeft (w.state.shards zone key) i.over → IsLeft (Some t) i.over
      still_left i is was =
          let one : was.shard ≡ s = same_in (sym was.there ∙ there) in
          let same : begun.instance ≡ i = same_in (sym begun.placed ∙ is) in
          elim was.closed [
            | inl fate ↦ absurd (serving_not_closed s.fate may_it.serving (ap (λ (x : Shard). x.fate) (sym one) ∙ fate))
            | inr hold ↦
                let held : hold_number s.hold ≡ i.over + 1 = ap (λ (x : Shard). hold_number x.hold) (sym one) ∙ ap hold_number hold in
                let overs = ap (λ (x : Instance). x.over) same in
                let below = may_it.below in
                let high = begun.high in
                let number : id ≡ i.over + 1 = omega (arith, held, overs, below, high) in
                record { shard = t; there = refl; closed = inr (now.hold ∙ ap Closing number) }
          ]

      abbrev shards : Pool
      shards = put_in w.state.shards zone key (Some t)

      abbrev phase : Phase
      phase = learnt p closing Done (w.state.count + 1) (clock_at w.state.clock moment)

      old_taken : TakenBy rows shards p.work
      old_taken = taken_on w j h me moment closing Done zone key (Some t) keyed placed new given fates still_taken still_left p.work (h.taken me)

      -- the shard itself
      here : IsTaken (shards zone key) zone id
      here = subst (λ o. IsTaken o zone id) (sym (put_in_here w.state.shards zone key (Some t)))
          (record { shard = t; there = refl; hold = now.hold; empty = λ one name. ap (λ es. at es name) now.entries ∙ at_empty s.entries name (may_it.empty (unforced one)) })

      mine : TakenBy rows shards phase.work
      mine z n row busy x number kept in_progress begun_now closing_now closed =
          put_bundle_cases (λ z' c i (v : OwnWork). z ≡ z' → row.id ≡ c → row.instance ≡ i → v.begun busy.number ≡ Some x → IsTaken (shards z (shard_key row.id row.instance number)) z busy.number) p.work zone (container_of key) (instance_of key) _
          (λ at_zone at_id at_instance is.
          let before = p.work zone (container_of key) (instance_of key) in
          let was : before.begun busy.number ≡ Some x → IsTaken (shards z (shard_key row.id row.instance number)) z busy.number =
          λ there_then. old_taken z n row busy x number kept in_progress ((λ i. (p.work (at_zone i) (at_id i) (at_instance i)).begun busy.number) ∙ there_then) closing_now closed in
          elim (id == busy.number) as (λ b. (id == busy.number) ≡ b → cond b (with_closed (before.begun id) (number_of key)) (before.begun busy.number) ≡ Some x → IsTaken (shards z (shard_key row.id row.instance number)) z busy.number) [
            | false ↦ λ other there_then. was there_then
            | true ↦ λ same closed_now.
                let number_is = number_same id busy.number same in
                let new_own : record own.x { closed = put (own.x).closed (number_of key) true } ≡ x = same_in (ap (λ o. with_closed o (number_of key)) (sym own.is) ∙ closed_now) in
                elim (number_of key == number) as (λ b. (number_of key == number) ≡ b → cond b true ((own.x).closed number) ≡ true → IsTaken (shards z (shard_key row.id row.instance number)) z busy.number) [
                  | true ↦ λ at_number yes_closed.
                      let at_key : key ≡ shard_key row.id row.instance number = h.keyed zone key s there ∙ (λ i. shard_key (sym at_id i) (sym at_instance i) (number_same (number_of key) number at_number i)) in
                      subst (λ y. IsTaken (shards y (shard_key row.id row.instance number)) y busy.number) (sym at_zone) (subst (λ m. IsTaken (shards zone (shard_key row.id row.instance number)) zone m) number_is (subst (λ k. IsTaken (shards zone k) zone id) at_key here))
                  | false ↦ λ other closed_before.
                      old_taken z n row busy own.x number kept in_progress ((λ i. (p.work (at_zone i) (at_id i) (at_instance i)).begun (sym number_is i)) ∙ own.is) own.passes closed_before
                ] refl (ap (λ (y : OwnNumber). y.closed number) new_own ∙ closed)
          ] refl is)
          (λ z' c i at_zone at_id at_instance is. old_taken z n row busy x number kept in_progress ((λ k. (p.work (at_zone k) (at_id k) (at_instance k)).begun busy.number) ∙ is) closing_now closed)
          z row.id row.instance refl refl refl begun_now

      close_done : Left closing Done shards
      close_done = one_changed w j h me moment closing Done zone key (Some t) keyed placed new given fates still_taken still_left mine

    pub close_holds : Left closing (on_shard (w.state.shards zone key) (λ s. reply_or Done (close_refusal s id force))) (put_in w.state.shards zone key (change_at (w.state.shards zone key) (λ s. unless_refused (close_refusal s id force) s (taken s id (Closing id)))))
    close_holds =
        call_cases (λ shards said. Left closing said shards) w.state.shards zone key (λ s. close_refusal s id force) (λ s. taken s id (Closing id)) (λ s. Done)
        (λ why. holds_same w j h me moment closing (No why) refl) close_done

  -- ---- a release

  -- the number is over in the instance
  record IsOver (zone : ℕ) (key : Key) (id : ℕ) : Type 0 where
    instance : Instance
    placed : w.rows.instances zone (container_of key) (instance_of key) ≡ Some instance
    over : id ≤ instance.over

  over_by : (zone : ℕ) (key : Key) (id : ℕ) → may_release p zone key id ≡ true → IsOver zone key id
  over_by zone key id may =
      elim (either_of ((p.work zone (container_of key) (instance_of key)).cleared id) _ may) [
        | inl cleared ↦ let c = (j.rows_stand.knows me).works.cleared zone (container_of key) (instance_of key) id cleared in record { instance = c.instance; placed = c.placed; over = c.over }
        | inr saw ↦
            let f = find_any (λ e. nat_lt 0 (e.1).at && is_so (e.1).row (has_ended key id)) (ReadHolds w.state.count w.rows.homes w.rows.instances rows zone) (names_of (p.rows zone)) saw ((j.rows_stand.knows me).reads zone) in
            let r = so ((f.x).1).row (has_ended key id) (right_of (nat_lt 0 ((f.x).1).at) (is_so ((f.x).1).row (has_ended key id)) f.passes) in
            let n = (f.holds.shown r.x r.is).named in
            let row : Bucket = r.x in
            let more = right_of (row.id == container_of key) _ r.passes in
            let last = right_of (row.instance == instance_of key) _ more in
            let id_is = number_same row.id (container_of key) (left_of (row.id == container_of key) _ r.passes) in
            let instance_is = number_same row.instance (instance_of key) (left_of (row.instance == instance_of key) _ more) in
            let given = left_of (nat_le id row.number) _ last in
            let ended = right_of (nat_le id row.number) (not (is_so row.busy (λ busy. nat_le busy.number id))) last in
            let low = n.over_low in
            let below = ended_below row row.busy refl n.busy_is given ended in
            record { instance = n.instance; placed = (λ i. w.rows.instances zone (sym id_is i) (sym instance_is i)) ∙ n.placed; over = omega (arith, low, below) }
      ] where
        ended_below : (row : Bucket) (o : Option Busy) → row.busy ≡ o → IfSome row.busy (λ busy. (busy.number ≡ row.number) × (1 ≤ row.number)) → nat_le id row.number ≡ true → not (is_so o (λ busy. nat_le busy.number id)) ≡ true → id ≤ over_in row
        ended_below row None none has given ended = let over = over_none row none in grind (arith, nat_tests, given, over)
        ended_below row (Some busy) some has given ended =
            let numbers : (busy.number ≡ row.number) × (1 ≤ row.number) = subst (λ o. IfSome o (λ (x : Busy). (x.number ≡ row.number) × (1 ≤ row.number))) some has in
            let over = over_some row busy some in
            let later = not_true (nat_le busy.number id) ended in
            let same = numbers.0 in
            let positive = numbers.1 in
            grind (arith, nat_tests, given, over, later, same, positive)

  pub release_holds : (zone : ℕ) (key : Key) (id : ℕ) → may_release p zone key id ≡ true → Left (Release zone key id) Done (put_in w.state.shards zone key (change_at (w.state.shards zone key) (λ s. released s id)))
  release_holds zone key id may =
      elim (w.state.shards zone key) as (λ x. w.state.shards zone key ≡ x → Left (Release zone key id) Done (put_in w.state.shards zone key (change_at x (λ s. released s id)))) [
        | None ↦ λ none. subst (λ shards. Left (Release zone key id) Done shards) (sym (ap (λ o. put_in w.state.shards zone key o) (sym none) ∙ put_in_same w.state.shards zone key)) (holds_same w j h me moment (Release zone key id) Done refl)
        | Some s ↦ λ there. some_released s there
      ] refl where
        is_over : IsOver zone key id
        is_over = over_by zone key id may

        -- a hold by a number that is not over stays
        hold_stays : (hold : Hold) (n : ℕ) → hold ≡ Closing n → id < n → cond (nat_le (hold_number hold) id) Free hold ≡ Closing n
        hold_stays hold n is late =
            let number : hold_number hold ≡ n = ap hold_number is in
            let test : nat_le (hold_number hold) id ≡ false = grind (arith, nat_tests, number, late) in
            ap (λ b. cond b Free hold) test ∙ is

        up_to : (hold : Hold) (over : ℕ) → (hold ≡ Free) ⊎ IsClosing hold over → (cond (nat_le (hold_number hold) id) Free hold ≡ Free) ⊎ IsClosing (cond (nat_le (hold_number hold) id) Free hold) over
        up_to hold over is = elim (nat_le (hold_number hold) id) as (λ b. (cond b Free hold ≡ Free) ⊎ IsClosing (cond b Free hold) over) [ true ↦ inl refl | false ↦ is ]

        some_released : (s : Shard) → w.state.shards zone key ≡ Some s → Left (Release zone key id) Done (put_in w.state.shards zone key (Some (released s id)))
        some_released s there =
            let t = released s id in
            let instance = is_over.instance in
            let at_instance = is_over.placed in
            let low = is_over.over in
            let keyed = λ (x : Shard) (is : Some t ≡ Some x). h.keyed zone key s there in
            let placed = λ (x : Shard) (i : Instance) (is : Some t ≡ Some x) (at_i : w.rows.instances zone (container_of key) (instance_of key) ≡ Some i).
            let was = h.placed zone key s i there at_i in
            let overs = ap (λ (y : Instance). y.over) (same_in (sym at_instance ∙ at_i)) in
            let fence : id ≤ i.over = omega (arith, low, overs) in
            subst (λ (y : Shard). IsHeldUpTo i.over y) (same_in is) (record { hold = up_to s.hold (i.over + 1) was.hold; fence = most_of s.fence id i.over was.fence fence }) in
            let new = λ (x : Shard) (is : Some t ≡ Some x) (none : w.rows.instances zone (container_of key) (instance_of key) ≡ None). absurd_new x (sym none ∙ at_instance) in
            let given = λ (x : Shard) (is : Some t ≡ Some x). subst (IsGiven rows zone key) (same_in is) (given_still s (h.given zone key s there)) in
            let fates = λ (x : Shard) (is : Some t ≡ Some x).
            subst (λ (y : Shard). (y.fate ≡ Fates.Serving) ⊎ IsShut w.rows.instances rows zone key y) (same_in is) (still_fate s t refl (h.fates zone key s there)) in
            let taken = λ (n : List ℕ) (row : Bucket) (busy : Busy) (number : ℕ) (kept : rows zone n ≡ Some row) (in_progress : row.busy ≡ Some busy) (at_key : shard_key row.id row.instance number ≡ key) (was : IsTaken (w.state.shards zone key) zone busy.number).
            let late = late_number n row busy number kept in_progress at_key in
            let one : was.shard ≡ s = same_in (sym was.there ∙ there) in
            taken_still s was.shard zone busy.number one was.hold was.empty late in
            let left = λ (i : Instance) (is : w.rows.instances zone (container_of key) (instance_of key) ≡ Some i) (was : IsLeft (w.state.shards zone key) i.over).
            let overs = ap (λ (y : Instance). y.over) (same_in (sym at_instance ∙ is)) in
            left_still s was.shard i.over (same_in (sym was.there ∙ there)) was.closed (omega (arith, low, overs)) in
            one_changed w j h me moment (Release zone key id) Done zone key (Some t) keyed placed new given fates taken left
            (taken_on w j h me moment (Release zone key id) Done zone key (Some t) keyed placed new given fates taken left p.work (h.taken me)) where
              absurd_new : (x : Shard) → ◌≡◌ {A = Option Instance} None (Some is_over.instance) → IsNew x
              absurd_new x bad = absurd cc

              given_still : (s : Shard) → IsGiven rows zone key s → IsGiven rows zone key (released s id)
              given_still s is n row kept id_is instance_is =
                  let was = is n row kept id_is instance_is in
                  elim (nat_le (hold_number s.hold) id) as (λ b. hold_number (cond b Free s.hold) ≤ row.number) [ true ↦ omega arith | false ↦ was ]

              still_fate : (s t : Shard) → t.fate ≡ s.fate → (s.fate ≡ Fates.Serving) ⊎ IsShut w.rows.instances rows zone key s → (t.fate ≡ Fates.Serving) ⊎ IsShut w.rows.instances rows zone key t
              still_fate s t same (inl serving) = inl (same ∙ serving)
              still_fate s t same (inr shut) = inr (record { fate = same ∙ shut.fate; instance = shut.instance; placed = shut.placed; unnamed = shut.unnamed })

              late_number : (n : List ℕ) (row : Bucket) (busy : Busy) (number : ℕ) → rows zone n ≡ Some row → row.busy ≡ Some busy → shard_key row.id row.instance number ≡ key → id < busy.number
              late_number n row busy number kept in_progress at_key =
                  let k = j.rows_stand.kept zone n row kept in
                  let named = k.named in
                  let one : named.instance ≡ is_over.instance = same_in (sym named.placed ∙ (λ i. w.rows.instances zone (container_of (at_key i)) (instance_of (at_key i))) ∙ is_over.placed) in
                  let overs = ap (λ (i : Instance). i.over) one in
                  let over = k.over_is in
                  let before = over_some row busy in_progress in
                  let has : (busy.number ≡ row.number) × (1 ≤ row.number) = subst (λ o. IfSome o (λ (x : Busy). (x.number ≡ row.number) × (1 ≤ row.number))) in_progress named.busy_is in
                  let numbers = has.0 in
                  let positive = has.1 in
                  let low = is_over.over in
                  omega (arith, overs, over, before, numbers, positive, low)

              taken_still : (s x : Shard) (z n : ℕ) → x ≡ s → x.hold ≡ Closing n → (z ≡ 1 → (name : List ℕ) → at x.entries name ≡ None) → id < n → IsTaken (Some (released s id)) z n
              taken_still s x z n one hold empty late = record {
                shard = released s id;
                there = refl;
                hold = hold_stays s.hold n (ap (λ (y : Shard). y.hold) (sym one) ∙ hold) late;
                empty = λ at_one name. ap (λ (y : Shard). at y.entries name) (sym one) ∙ empty at_one name;
              }

              left_still : (s x : Shard) (over : ℕ) → x ≡ s → (x.fate ≡ Fates.Closed) ⊎ (x.hold ≡ Closing (over + 1)) → id ≤ over → IsLeft (Some (released s id)) over
              left_still s x over one (inl fate) low = record { shard = released s id; there = refl; closed = inl (ap (λ (y : Shard). y.fate) (sym one) ∙ fate) }
              left_still s x over one (inr hold) low = record { shard = released s id; there = refl; closed = inr (hold_stays s.hold (over + 1) (ap (λ (y : Shard). y.hold) (sym one) ∙ hold) (omega (arith, low))) }

  -- ---- a shard that is shut

  pub shut_holds : (zone : ℕ) (key : Key) → is_removed p zone key ≡ true → Left (Shut zone key) Done (put_in w.state.shards zone key (change_at (w.state.shards zone key) shut_down))
  shut_holds zone key may =
      elim (w.state.shards zone key) as (λ x. w.state.shards zone key ≡ x → Left (Shut zone key) Done (put_in w.state.shards zone key (change_at x shut_down))) [
        | None ↦ λ none. subst (λ shards. Left (Shut zone key) Done shards) (sym (ap (λ o. put_in w.state.shards zone key o) (sym none) ∙ put_in_same w.state.shards zone key)) (holds_same w j h me moment (Shut zone key) Done refl)
        | Some s ↦ λ there. some_shut s there
      ] refl where
        gone : IsRemoved w.rows.homes w.rows.instances rows zone (container_of key) (instance_of key)
        gone = let r = so (p.work zone (container_of key) (instance_of key)).removed _ may in (j.rows_stand.knows me).works.removed zone (container_of key) (instance_of key) r.x r.is

        some_shut : (s : Shard) → w.state.shards zone key ≡ Some s → Left (Shut zone key) Done (put_in w.state.shards zone key (Some (shut_down s)))
        some_shut s there =
            let t = shut_down s in
            let keyed = λ (x : Shard) (is : Some t ≡ Some x). h.keyed zone key s there in
            let placed = λ (x : Shard) (i : Instance) (is : Some t ≡ Some x) (at_i : w.rows.instances zone (container_of key) (instance_of key) ≡ Some i).
            let was = h.placed zone key s i there at_i in subst (λ (y : Shard). IsHeldUpTo i.over y) (same_in is) (record { hold = was.hold; fence = was.fence }) in
            let new = λ (x : Shard) (is : Some t ≡ Some x) (none : w.rows.instances zone (container_of key) (instance_of key) ≡ None).
            let was = h.new zone key s there none in subst IsNew (same_in is) (record { hold = was.hold; fence = was.fence }) in
            let given = λ (x : Shard) (is : Some t ≡ Some x). subst (IsGiven rows zone key) (same_in is) (λ n row kept id_is instance_is. h.given zone key s there n row kept id_is instance_is) in
            let fates = λ (x : Shard) (is : Some t ≡ Some x).
            subst (λ (y : Shard). (y.fate ≡ Fates.Serving) ⊎ IsShut w.rows.instances rows zone key y) (same_in is) (inr (record { fate = refl; instance = gone.instance; placed = gone.placed; unnamed = gone.unnamed })) in
            let taken = λ (n : List ℕ) (row : Bucket) (busy : Busy) (number : ℕ) (kept : rows zone n ≡ Some row) (in_progress : row.busy ≡ Some busy) (at_key : shard_key row.id row.instance number ≡ key) (was : IsTaken (w.state.shards zone key) zone busy.number).
            unnamed_taken t zone busy.number (gone.unnamed n row kept (ap container_of at_key) (ap instance_of at_key)) in
            let left = λ (i : Instance) (is : w.rows.instances zone (container_of key) (instance_of key) ≡ Some i) (was : IsLeft (w.state.shards zone key) i.over). shut_left t i.over refl in
            one_changed w j h me moment (Shut zone key) Done zone key (Some t) keyed placed new given fates taken left
            (taken_on w j h me moment (Shut zone key) Done zone key (Some t) keyed placed new given fates taken left p.work (h.taken me)) where
              unnamed_taken : (t : Shard) (z n : ℕ) → ⊥ → IsTaken (Some t) z n
              unnamed_taken t z n bad = absurd bad

              shut_left : (t : Shard) (over : ℕ) → t.fate ≡ Fates.Closed → IsLeft (Some t) over
              shut_left t over fate = record { shard = t; there = refl; closed = inl fate }
