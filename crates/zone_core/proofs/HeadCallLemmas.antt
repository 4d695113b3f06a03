-- A call of a class on a head or a tail, as the state sees it.
use Rattle.std.proofs.Common.{◌≡◌, ℕ, ◌+◌, ◌-◌, List, Option, Result, refl, sym, ap, ◌∙◌, subst}
use Rattle.rgw_types.specs.declared.pool_key.Key.{Key}
use Rattle.rgw_types.specs.declared.pool_key.Key.TheVariants.{Root, Head, Tail, Changes}
use Rattle.object_pool.specs.declared.place.Place.{Place}
use Rattle.object_pool.specs.Objects.{KeepsAll, PoolView, object_at}
use Rattle.object_pool.specs.Places.{IsPlaceIn, Stays, object_of, pool_of}
use Rattle.object_words.specs.declared.why.Why.{Why}
use Rattle.object_words.specs.declared.why.ClassFault.{ClassFault}
use Rattle.object_words.specs.Answers.{Answers, Replies}
use Rattle.object_words.specs.Heads.{Head as HeadOf, first_bytes, frames_for}
use Rattle.object_words.specs.Tails.{Tail as TailOf}
use Rattle.class_words.specs.Works.{WorksWith}
use Rattle.class_words.specs.Shards.{IsShardOr}
use Rattle.cls_record.specs.RootObjects.{IsRoot}
use Rattle.cls_log.specs.LogObjects.{IsLogObject}
use Rattle.cls_head.specs.Heads.{IsHead, LeavesHead}
use Rattle.cls_head.specs.Tails.{IsTail, LeavesTail}
use Rattle.realm_model.specs.Settings.{SettingsView}
use Rattle.realm_model.specs.States.{State, at_head, at_tail, free_after, touched}
use Rattle.realm_model.proofs.TouchLemmas.{head_same, tail_same}
use Rattle.zone_core.specs.Stands.{Stands}
use Rattle.zone_core.proofs.Given.{gave, settled_head, settled_tail}
use Rattle.zone_core.proofs.StandLemmas.{stands_head, stands_tail}
use Rattle.zone_core.proofs.ShardCallLemmas.{answers_as, replies_as}

module _ (settings : SettingsView) (zone : ℕ) (p f : PoolView) (st : State) (stands : Stands settings zone p st) where
  -- no object changed
  pub stands_still : KeepsAll p f → f.frame ≡ p.frame → f.free ≡ p.free → Stands settings zone f st
  stands_still all frame free = record {
    root = subst (λ o. IsRoot o (st.root zone)) (sym (all Root)) stands.root;
    shards = λ key is. subst (λ o. IsShardOr o (st.shards zone key)) (sym (all key)) (stands.shards key is);
    heads = λ container name. subst (λ o. IsHead o (st.heads zone (Head container name))) (sym (all (Head container name))) (stands.heads container name);
    tails = λ write part. subst (λ o. IsTail o (st.tails zone (Tail write part))) (sym (all (Tail write part))) (stands.tails write part);
    changes = subst (λ o. IsLogObject o (st.changes zone)) (sym (all Changes)) stands.changes;
    frame = frame ∙ stands.frame;
    free = free ∙ stands.free;
  }

  -- nor where a call on a place changed nothing
  pub stands_stays : (key : Key) (place place' : Place) → IsPlaceIn p key (object_at p key) place → f ≡ pool_of place' → Stays place place' → Stands settings zone f st
  stands_stays key place place' at ends stays =
      let same = ends ∙ stays.pool in
      stands_still (λ q. ap (λ (v : PoolView). object_at v q) same ∙ at.all q) (ap (λ (v : PoolView). v.frame) same ∙ at.counts.frame) (ap (λ (v : PoolView). v.free) same ∙ at.counts.free)

  -- the free frames after a change, as the state counts them
  left : (place place' : Place) (key : Key) (old new : List ℕ) → IsPlaceIn p key (object_at p key) place
      → (pool_of place').free ≡ (pool_of place).free + frames_for (pool_of place).frame old - frames_for (pool_of place).frame new
      → (pool_of place').free ≡ free_after settings.frame (st.free zone) old new
  left place place' key old new at free =
      free
      ∙ ap (λ n. n + frames_for (pool_of place).frame old - frames_for (pool_of place).frame new) (at.counts.free ∙ stands.free)
      ∙ ap (λ frame. free_after frame (st.free zone) old new) (at.counts.frame ∙ stands.frame)

  module _ (container : ℕ) (name : List ℕ) (place place' : Place) (at : IsPlaceIn p (Head container name) (object_at p (Head container name)) place)
      (works : WorksWith place place' (pool_of place').free) (ends : f ≡ pool_of place') where
    pub head_left : (h : HeadOf) → LeavesHead place place' (st.heads zone (Head container name)) h → Stands settings zone f (touched settings st (at_head zone (Head container name) h))
    head_left h leaves =
        let key : Key = Head container name in
        let given = gave p f key (object_at p key) place place' _ at works ends in
        stands_head settings zone p f st stands container name h given.others given.frame
        (given.free ∙ left place place' key (first_bytes (st.heads zone key).slot) (first_bytes h.slot) at leaves.free)
        (subst (λ o. IsHead o h) (sym given.object) (settled_head (object_of place') h leaves.head))

    pub head_kept : LeavesHead place place' (st.heads zone (Head container name)) (st.heads zone (Head container name)) → Stands settings zone f st
    head_kept leaves =
        let key : Key = Head container name in
        subst (Stands settings zone f) (head_same settings st zone key (st.heads zone key) refl) (head_left (st.heads zone key) leaves)

  module _ (write part : ℕ) (place place' : Place) (at : IsPlaceIn p (Tail write part) (object_at p (Tail write part)) place)
      (works : WorksWith place place' (pool_of place').free) (ends : f ≡ pool_of place') where
    pub tail_left : (t : TailOf) → LeavesTail place place' (st.tails zone (Tail write part)) t → Stands settings zone f (touched settings st (at_tail zone (Tail write part) t))
    tail_left t leaves =
        let key : Key = Tail write part in
        let given = gave p f key (object_at p key) place place' _ at works ends in
        stands_tail settings zone p f st stands write part t given.others given.frame
        (given.free ∙ left place place' key (st.tails zone key).bytes t.bytes at leaves.free)
        (subst (λ o. IsTail o t) (sym given.object) (settled_tail (object_of place') t leaves.tail))

    pub tail_kept : LeavesTail place place' (st.tails zone (Tail write part)) (st.tails zone (Tail write part)) → Stands settings zone f st
    tail_kept leaves =
        let key : Key = Tail write part in
        subst (Stands settings zone f) (tail_same settings st zone key (st.tails zone key) refl) (tail_left (st.tails zone key) leaves)

-- ---- the answers of a call as the state sees them

module _ (settings : SettingsView) (zone : ℕ) (p f : PoolView) (st : State) (stands : Stands settings zone p st) where
  module _ {V : Type 0} (result : Result V ClassFault) (container : ℕ) (name : List ℕ) (place place' : Place) (at : IsPlaceIn p (Head container name) (object_at p (Head container name)) place)
      (works : WorksWith place place' (pool_of place').free) (ends : f ≡ pool_of place') where
    head_answered : (refusal : Option Why) (IsValue : V → Type 0) (after : HeadOf) → Answers result refusal IsValue (LeavesHead place place' (st.heads zone (Head container name))) (st.heads zone (Head container name)) after
        → Answers result refusal IsValue (Stands settings zone f) st (touched settings st (at_head zone (Head container name) after))
    head_answered refusal IsValue after answers =
        answers_as result refusal refusal IsValue (LeavesHead place place' (st.heads zone (Head container name))) (Stands settings zone f) (st.heads zone (Head container name)) after st
        (touched settings st (at_head zone (Head container name) after)) refl
        (head_kept settings zone p f st stands container name place place' at works ends) (head_left settings zone p f st stands container name place place' at works ends after) answers

    -- with the free frames and the size of a frame as the state has them
    pub head_answers : (refusal : ℕ → ℕ → Option Why) (IsValue : ℕ → ℕ → V → Type 0) (after : ℕ → ℕ → HeadOf)
        → (let h = st.heads zone (Head container name) in Answers result (refusal (pool_of place).free (pool_of place).frame) (IsValue (pool_of place).free (pool_of place).frame) (LeavesHead place place' h) h (after (pool_of place).free (pool_of place).frame))
        → Answers result (refusal (st.free zone) settings.frame) (IsValue (st.free zone) settings.frame) (Stands settings zone f) st (touched settings st (at_head zone (Head container name) (after (st.free zone) settings.frame)))
    head_answers refusal IsValue after answers =
        let h = st.heads zone (Head container name) in
        let Told : ℕ → ℕ → Type 0 = λ free frame. Answers result (refusal free frame) (IsValue free frame) (LeavesHead place place' h) h (after free frame) in
        head_answered (refusal (st.free zone) settings.frame) (IsValue (st.free zone) settings.frame) (after (st.free zone) settings.frame)
        (subst (Told (st.free zone)) (at.counts.frame ∙ stands.frame) (subst (λ free. Told free (pool_of place).frame) (at.counts.free ∙ stands.free) answers))

  module _ {V : Type 0} (result : Result V Why) (write part : ℕ) (place place' : Place) (at : IsPlaceIn p (Tail write part) (object_at p (Tail write part)) place)
      (works : WorksWith place place' (pool_of place').free) (ends : f ≡ pool_of place') where
    tail_replied : (refusal : Option Why) (IsValue : V → Type 0) (after : TailOf)
        → Replies result refusal IsValue (LeavesTail place place' (st.tails zone (Tail write part))) after
        → Replies result refusal IsValue (Stands settings zone f) (touched settings st (at_tail zone (Tail write part) after))
    tail_replied refusal IsValue after replies =
        replies_as result refusal refusal IsValue (LeavesTail place place' (st.tails zone (Tail write part))) (Stands settings zone f) after
        (touched settings st (at_tail zone (Tail write part) after)) refl
        (tail_left settings zone p f st stands write part place place' at works ends after) replies

    pub tail_replies : (refusal : ℕ → ℕ → Option Why) (IsValue : V → Type 0) (after : ℕ → ℕ → TailOf)
        → Replies result (refusal (pool_of place).free (pool_of place).frame) IsValue (LeavesTail place place' (st.tails zone (Tail write part))) (after (pool_of place).free (pool_of place).frame)
        → Replies result (refusal (st.free zone) settings.frame) IsValue (Stands settings zone f) (touched settings st (at_tail zone (Tail write part) (after (st.free zone) settings.frame)))
    tail_replies refusal IsValue after replies =
        let Told : ℕ → ℕ → Type 0 = λ free frame. Replies result (refusal free frame) IsValue (LeavesTail place place' (st.tails zone (Tail write part))) (after free frame) in
        tail_replied (refusal (st.free zone) settings.frame) IsValue (after (st.free zone) settings.frame)
        (subst (Told (st.free zone)) (at.counts.frame ∙ stands.frame) (subst (λ free. Told free (pool_of place).frame) (at.counts.free ∙ stands.free) replies))

-- the same, for the key of a head
module _ (settings : SettingsView) (zone : ℕ) (p f : PoolView) (st : State) (stands : Stands settings zone p st) where
  pub head_answers_at : {V : Type 0} (result : Result V ClassFault) (key : Key) (container : ℕ) (name : List ℕ) → key ≡ Head container name
      → (place place' : Place) → IsPlaceIn p key (object_at p key) place → WorksWith place place' (pool_of place').free → f ≡ pool_of place'
      → (refusal : HeadOf → ℕ → ℕ → Option Why) (IsValue : HeadOf → ℕ → ℕ → V → Type 0) (after : HeadOf → ℕ → ℕ → HeadOf)
      → (let h = st.heads zone key in Answers result (refusal h (pool_of place).free (pool_of place).frame) (IsValue h (pool_of place).free (pool_of place).frame) (LeavesHead place place' h) h (after h (pool_of place).free (pool_of place).frame))
      → (let h = st.heads zone key in Answers result (refusal h (st.free zone) settings.frame) (IsValue h (st.free zone) settings.frame) (Stands settings zone f) st (touched settings st (at_head zone key (after h (st.free zone) settings.frame))))
  head_answers_at result key container name same place place' at works ends refusal IsValue after answers =
      let h : Key → HeadOf = st.heads zone in
      let Before : Key → Type 0 = λ k. Answers result (refusal (h k) (pool_of place).free (pool_of place).frame) (IsValue (h k) (pool_of place).free (pool_of place).frame) (LeavesHead place place' (h k)) (h k) (after (h k) (pool_of place).free (pool_of place).frame) in
      let After : Key → Type 0 = λ k. Answers result (refusal (h k) (st.free zone) settings.frame) (IsValue (h k) (st.free zone) settings.frame) (Stands settings zone f) st (touched settings st (at_head zone k (after (h k) (st.free zone) settings.frame))) in
      let head = h (Head container name) in
      subst After (sym same)
      (head_answers settings zone p f st stands result container name place place' (subst (λ k. IsPlaceIn p k (object_at p k) place) same at) works ends (refusal head) (IsValue head) (after head)
      (subst Before same answers))

  pub tail_replies_at : {V : Type 0} (result : Result V Why) (key : Key) (write part : ℕ) → key ≡ Tail write part
      → (place place' : Place) → IsPlaceIn p key (object_at p key) place → WorksWith place place' (pool_of place').free → f ≡ pool_of place'
      → (refusal : ℕ → ℕ → Option Why) (IsValue : V → Type 0) (after : TailOf → ℕ → ℕ → TailOf)
      → (let t = st.tails zone key in Replies result (refusal (pool_of place).free (pool_of place).frame) IsValue (LeavesTail place place' t) (after t (pool_of place).free (pool_of place).frame))
      → (let t = st.tails zone key in Replies result (refusal (st.free zone) settings.frame) IsValue (Stands settings zone f) (touched settings st (at_tail zone key (after t (st.free zone) settings.frame))))
  tail_replies_at result key write part same place place' at works ends refusal IsValue after replies =
      let t : Key → TailOf = st.tails zone in
      let Before : Key → Type 0 = λ k. Replies result (refusal (pool_of place).free (pool_of place).frame) IsValue (LeavesTail place place' (t k)) (after (t k) (pool_of place).free (pool_of place).frame) in
      let After : Key → Type 0 = λ k. Replies result (refusal (st.free zone) settings.frame) IsValue (Stands settings zone f) (touched settings st (at_tail zone k (after (t k) (st.free zone) settings.frame))) in
      subst After (sym same)
      (tail_replies settings zone p f st stands result write part place place' (subst (λ k. IsPlaceIn p k (object_at p k) place) same at) works ends refusal IsValue (after (t (Tail write part)))
      (subst Before same replies))
