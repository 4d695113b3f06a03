-- The row of a container after each event of its making.
use Rattle.std.proofs.Common.{◌≡◌, ℕ, zero, suc, ◌+◌, ◌==◌, true, false, cond, is_some, List, [], ◌∷◌, ◌++◌, length, Option, Some, None, refl, sym, ap, ◌∙◌, arith, append_assoc}
use Rattle.std.proofs.lemmas.List.{append-nil}
use Rattle.object_words.specs.declared.bucket.Bucket.{Bucket}
use Rattle.object_words.specs.declared.why.Why.{Why}
use Rattle.object_words.specs.declared.why.Why.TheVariants.{Absent, Raced}
use Rattle.object_words.specs.Names.{at, with_name}
use Rattle.object_words.specs.Refusals.{unless_refused}
use Rattle.object_words.specs.declared.log.LogWhat.TheVariants.{Bucket as bucket_row}
use Rattle.object_words.specs.Logs.{Log, logged}
use Rattle.object_words.specs.Roots.{Root, is_logged, stored, swapped, version_of}
use Rattle.object_words.proofs.NameLemmas.{at-with_name, name_itself}
use Rattle.realm_model.specs.Histories.{answer_after, state_of}
use Rattle.realm_model.specs.Phases.{ActorId}
use Rattle.realm_model.specs.Settings.{SettingsView}
use Rattle.realm_model.specs.States.{State, at_moment, number_next}
use Rattle.realm_model.specs.Steps.{reply_or, row_reply}
use Rattle.realm_model.specs.declared.event.Event.{Event}
use Rattle.realm_model.specs.declared.event.Reply.{Reply}
use Rattle.realm_model.specs.declared.event.Reply.TheVariants.{Done, No, Row}
use Rattle.realm_model.specs.declared.op.Op.TheVariants.{BucketRead}
use Rattle.realm_model.proofs.Runs.{count_from, state-next}
use Rattle.realm_model.specs.Worlds.{start}
use Rattle.container_preset.specs.Presets.{event_by, makes, new_row, made_row, row_now, row_op, shard_op}

-- ---- the read

shown : (found : Option Bucket) (row : Bucket) → Row row ≡ row_reply found → found ≡ Some row
shown None row is = cc
shown (Some x) row is = cc

none_shown : (found : Option Bucket) (why : Why) → No why ≡ row_reply found → (found ≡ None) × (why ≡ Absent)
none_shown None why is = (refl, cc)
none_shown (Some x) why is = cc

-- a read leaves the row
read_stays : (settings : SettingsView) (history : List Event) (actor : ActorId) (name : List ℕ) (moment : ℕ) (reply : Reply) → row_now settings (history ++ event_by actor (BucketRead 1 name) moment reply ∷ []) name ≡ row_now settings history name
read_stays settings history actor name moment reply = ap (λ (st : State). at (st.root 1).buckets name) (state-next settings history (event_by actor (BucketRead 1 name) moment reply))

pub read_leaves : (settings : SettingsView) (history later : List Event) (actor : ActorId) (name : List ℕ) (moment : ℕ) (reply : Reply) → later ≡ history ++ event_by actor (BucketRead 1 name) moment reply ∷ [] → row_now settings later name ≡ row_now settings history name
read_leaves settings history later actor name moment reply is = ap (λ h. row_now settings h name) is ∙ read_stays settings history actor name moment reply

pub row_found : (settings : SettingsView) (history : List Event) (actor : ActorId) (name : List ℕ) (moment : ℕ) (row : Bucket) → Row row ≡ answer_after settings history (BucketRead 1 name) moment
    → (row_now settings history name ≡ Some row) × (row_now settings (history ++ event_by actor (BucketRead 1 name) moment (Row row) ∷ []) name ≡ Some row)
row_found settings history actor name moment row answer =
    let there = shown (row_now settings history name) row answer in (there, read_stays settings history actor name moment (Row row) ∙ there)

pub none_found : (settings : SettingsView) (history : List Event) (actor : ActorId) (name : List ℕ) (moment : ℕ) (why : Why) → No why ≡ answer_after settings history (BucketRead 1 name) moment
    → (row_now settings history name ≡ None) × (row_now settings (history ++ event_by actor (BucketRead 1 name) moment (No why) ∷ []) name ≡ None) × (why ≡ Absent)
none_found settings history actor name moment why answer =
    let none = none_shown (row_now settings history name) why answer in
    (none.0, read_stays settings history actor name moment (No why) ∙ none.0, none.1)

-- ---- the shards

-- making shards leaves the row
make_stays : (settings : SettingsView) (history : List Event) (actor : ActorId) (id shard moment : ℕ) (name : List ℕ) → row_now settings (history ++ event_by actor (shard_op id shard) moment Done ∷ []) name ≡ row_now settings history name
make_stays settings history actor id shard moment name = ap (λ (st : State). at (st.root 1).buckets name) (state-next settings history (event_by actor (shard_op id shard) moment Done))

pub makes_stay : (settings : SettingsView) (history : List Event) (actor : ActorId) (id moment count : ℕ) (name : List ℕ) → row_now settings (history ++ makes actor id moment count) name ≡ row_now settings history name
makes_stay settings history actor id moment zero name = ap (λ (h : List Event). row_now settings h name) (append-nil history)
makes_stay settings history actor id moment (suc n) name =
    let e : Event = event_by actor (shard_op id n) moment Done in
    ap (λ (h : List Event). row_now settings h name) (sym (append_assoc history (makes actor id moment n) (e ∷ [])))
    ∙ (make_stays settings (history ++ makes actor id moment n) actor id n moment name ∙ makes_stay settings history actor id moment n name)

-- ---- the swap

-- a swap that expects no row leaves one, whatever it was answered
kept_there : (kept : Option Bucket) → (version_of kept == 0) ≡ false → is_some kept ≡ true
kept_there None none = cc
kept_there (Some row) some = refl

swap_stands : (root : Root) (name : List ℕ) (new : Bucket) (number : ℕ) → is_some (at (swapped root name 0 (Some new) true number).buckets name) ≡ true
swap_stands root name new number =
    let kept = at root.buckets name in
    let row : Bucket = stored kept new true number in
    let log : Log = cond (is_logged kept (Some new)) (logged root.log (bucket_row name)) root.log in
    elim (version_of kept == 0) as (λ b. (version_of kept == 0) ≡ b → is_some (at (unless_refused (cond b None (Some (Raced (version_of kept)))) root (record { buckets = with_name root.buckets name row; log = log })).buckets name) ≡ true) [
      | true ↦ λ t. ap is_some (at-with_name root.buckets name row name ∙ ap (λ b. cond b (Some row) (at root.buckets name)) (name_itself name))
      | false ↦ λ t. kept_there kept t
    ] refl

pub row_left : (settings : SettingsView) (history : List Event) (actor : ActorId) (name owner : List ℕ) (id moment : ℕ) (reply : Reply) → is_some (row_now settings (history ++ event_by actor (row_op settings name owner id) moment reply ∷ []) name) ≡ true
row_left settings history actor name owner id moment reply =
    let st : State = at_moment (state_of settings history) moment in
    ap (λ (s : State). is_some (at (s.root 1).buckets name)) (state-next settings history (event_by actor (row_op settings name owner id) moment reply))
    ∙ swap_stands (st.root 1) name (new_row settings owner id) (number_next st)

-- where there is no row, the swap is done
pub swap_done : (settings : SettingsView) (history : List Event) (name owner : List ℕ) (id moment : ℕ) → row_now settings history name ≡ None → answer_after settings history (row_op settings name owner id) moment ≡ Done
swap_done settings history name owner id moment none = ap (λ o. reply_or Done (cond (version_of o == 0) None (Some (Raced (version_of o))))) none

-- and leaves the new row
swap_leaves : (root : Root) (name : List ℕ) (new : Bucket) (number : ℕ) → at root.buckets name ≡ None → at (swapped root name 0 (Some new) true number).buckets name ≡ Some (stored None new true number)
swap_leaves root name new number none =
    let left : Option Bucket → Option Bucket = λ kept.
    at (unless_refused (cond (version_of kept == 0) None (Some (Raced (version_of kept)))) root
    (record { buckets = with_name root.buckets name (stored kept new true number); log = cond (is_logged kept (Some new)) (logged root.log (bucket_row name)) root.log })).buckets name in
    ap left none
    ∙ (at-with_name root.buckets name (stored None new true number) name ∙ ap (λ b. cond b (Some (stored None new true number)) (at root.buckets name)) (name_itself name))

pub row_made : (settings : SettingsView) (history : List Event) (actor : ActorId) (name owner : List ℕ) (id moment : ℕ) (reply : Reply) → row_now settings history name ≡ None
    → row_now settings (history ++ event_by actor (row_op settings name owner id) moment reply ∷ []) name ≡ Some (made_row settings owner id (number_next (state_of settings history)))
row_made settings history actor name owner id moment reply none =
    let st : State = at_moment (state_of settings history) moment in
    ap (λ (s : State). at (s.root 1).buckets name) (state-next settings history (event_by actor (row_op settings name owner id) moment reply))
    ∙ swap_leaves (st.root 1) name (new_row settings owner id) (number_next st) none

-- the number of the next event
pub next_is : (settings : SettingsView) (history : List Event) → number_next (state_of settings history) ≡ length history + 1
next_is settings history = let counted = count_from settings (start settings) history in omega (arith, counted)
