-- The events of the maker, one after another.
use Rattle.std.proofs.Common.{◌≡◌, ℕ, suc, ◌+◌, inr, true, is_some, List, [], ◌∷◌, ◌++◌, length, map, Some, None, Result, Ok, Err, OnErr, refl, sym, ap, ◌∙◌, subst, add-one, append_assoc, arith, length-append}
use Rattle.std.specs.List.{range_with_len}
use Rattle.std.proofs.lemmas.List.{append-nil, map-append}
use Rattle.std.proofs.lemmas.List.FromFn.{map-range_with_len_more}
use Rattle.rgw_types.specs.declared.pool_key.Key.{Key}
use Rattle.object_words.specs.declared.bucket.Bucket.{Bucket}
use Rattle.object_words.specs.Keys.{shard_key}
use Rattle.object_words.specs.declared.why.Why.{Why}
use Rattle.object_words.specs.declared.why.Why.TheVariants.{Absent}
use Rattle.realm_model.specs.Doors.{DoorView, actor_at}
use Rattle.realm_model.specs.Histories.{Doings, Legal, phase_of}
use Rattle.realm_model.specs.Learnt.{learnt}
use Rattle.realm_model.specs.Owns.{OwnEvent, learnt_from, own_events}
use Rattle.realm_model.specs.Phases.{Phase, fresh}
use Rattle.realm_model.specs.Settings.{SettingsView}
use Rattle.realm_model.specs.Suits.{Suits}
use Rattle.realm_model.specs.declared.event.Event.{Event}
use Rattle.realm_model.specs.declared.event.Reply.{Reply}
use Rattle.realm_model.specs.declared.event.Reply.TheVariants.{Done, No, Row}
use Rattle.realm_model.specs.declared.op.Op.{Op}
use Rattle.realm_model.specs.declared.op.Op.TheVariants.{BucketRead, BucketSwap, ShardMake}
use Rattle.realm_model.proofs.Others.{phase-own}
use Rattle.realm_model.proofs.Runs.{last_is_next}
use Rattle.realm_door.specs.Steps.{Extends, Grows, event_at, own_event}
use Rattle.realm_door.specs.declared.door.Answered.{Answered}
use Rattle.realm_door.proofs.Steps.{grows_both, grows_none}
use Rattle.container_preset.specs.Presets.{BeginsBy, Finds, FindsNone, FindsRow, HasMade, HasMadeSome, HasRead, IsFresh, IsMadeBy, IsMaker, MakesOne, Stops, event_by, look, make, makes, made_row, new_row, number_if_absent, preset, row_now, row_op, shard_op}
use Rattle.container_preset.proofs.Making.{found_none, made_more}
use Rattle.container_preset.proofs.Rows.{makes_stay, next_is, none_found, read_leaves, row_found, row_left, row_made, swap_done}

-- ---- one event

-- the door's actor stays
same_actor : (settings : SettingsView) (d e : DoorView) → Grows settings d e → actor_at e ≡ actor_at d
same_actor settings d e grows = let pass = grows.pass in let count = grows.count in λ i. record { pass = pass i; count = count i }

module _ (settings : SettingsView) (d e : DoorView) (op : Op) (moment : ℕ) (a : Answered) (x : Extends settings d op moment a e) where
  -- what an own event teaches
  phase_after : phase_of settings e.seen (actor_at e) ≡ learnt (phase_of settings d.seen (actor_at d)) op a.reply a.number a.clock
  phase_after = ap (λ (o : Doings). o.phase) x.own

  own_after : own_events e.seen (actor_at e) ≡ own_events d.seen (actor_at d) ++ own_event op a ∷ []
  own_after = ap (own_events e.seen) (same_actor settings d e x.grows) ∙ x.events

-- an actor that made no event knows nothing
phase_fresh : (settings : SettingsView) (d : DoorView) → IsFresh settings d → phase_of settings d.seen (actor_at d) ≡ fresh
phase_fresh settings d is = phase-own settings d.seen (actor_at d) ∙ ap (λ es. learnt_from fresh es) is.unused

-- ---- the read

module _ (settings : SettingsView) (alone : Type 0) (d e : DoorView) (name : List ℕ) (moment : ℕ) (a : Answered) (is : IsFresh settings d) (x : Extends settings d (BucketRead 1 name) moment a e)
    (only : alone → e.seen ≡ d.seen ++ event_at d (BucketRead 1 name) moment a.reply ∷ []) where
  one_own : own_events e.seen (actor_at e) ≡ own_event (BucketRead 1 name) a ∷ []
  one_own = own_after settings d e (BucketRead 1 name) moment a x ∙ ap (λ es. es ++ own_event (BucketRead 1 name) a ∷ []) is.unused

  read_of : (reply : Reply) → a.reply ≡ reply → HasRead settings alone d e name moment reply
  read_of reply same = record {
    legal = x.legal;
    grows = x.grows;
    only = λ al. only al ∙ ap (λ r. d.seen ++ event_by (actor_at d) (BucketRead 1 name) moment r ∷ []) same;
  }

  -- the history that the read found
  abbrev found : List Event
  found = d.seen ++ x.between

  ends_with : (reply : Reply) → a.reply ≡ reply → e.seen ≡ found ++ event_by (actor_at d) (BucketRead 1 name) moment reply ∷ []
  ends_with reply same = x.ends ∙ ap (λ r. found ++ event_by (actor_at d) (BucketRead 1 name) moment r ∷ []) same

  finds_row : (row : Bucket) → a.reply ≡ Row row → FindsRow settings alone d e name moment
  finds_row row same =
      let there = row_found settings found (actor_at d) name moment row (sym same ∙ x.answer) in
      let now : row_now settings e.seen name ≡ Some row = ap (λ h. row_now settings h name) (ends_with (Row row) same) ∙ there.1 in
      record {
        row = row;
        by_read = read_of (Row row) same;
        own = record { look = own_event (BucketRead 1 name) a; row = row; stands = one_own; looks = refl; showed = same };
        there = now;
        before = λ al.
            let stays = read_leaves settings d.seen e.seen (actor_at d) name moment (Row row) (only al ∙ ap (λ r. d.seen ++ event_by (actor_at d) (BucketRead 1 name) moment r ∷ []) same) in sym stays ∙ now;
      }

  finds_none : (why : Why) → a.reply ≡ No why → FindsNone settings alone d e name a.number moment
  finds_none why same =
      let none = none_found settings found (actor_at d) name moment why (sym same ∙ x.answer) in
      let reply : a.reply ≡ No Absent = same ∙ ap No none.2 in
      let now : row_now settings e.seen name ≡ None = ap (λ h. row_now settings h name) (ends_with (No why) same) ∙ none.1 in
      record {
        by_read = read_of (No Absent) reply;
        has = record {
          legal = x.legal;
          maker = subst (λ (p : Phase). IsMaker p name a.number 0) (sym (phase_after settings d e (BucketRead 1 name) moment a x))
              (subst (λ (p : Phase). IsMaker (learnt p (BucketRead 1 name) a.reply a.number a.clock) name a.number 0) (sym (phase_fresh settings d is))
              (subst (λ (r : Reply). IsMaker (learnt fresh (BucketRead 1 name) r a.number a.clock) name a.number 0) (sym same) (found_none name why a.number a.clock)));
          own = record { look = own_event (BucketRead 1 name) a; more = []; stands = one_own; looks = refl; showed = reply; number = refl; makes = refl };
          grows = grows_none settings e;
          only = λ al. sym (append-nil e.seen);
        };
        number = x.number;
        none = now;
        before = λ al.
            let stays = read_leaves settings d.seen e.seen (actor_at d) name moment (No why) (only al ∙ ap (λ r. d.seen ++ event_by (actor_at d) (BucketRead 1 name) moment r ∷ []) same) in sym stays ∙ now;
      }

  pub finds : (reply : Reply) → a.reply ≡ reply → Suits (BucketRead 1 name) reply → Finds settings alone d e name moment (number_if_absent reply a.number)
  finds (Row row) same suits = finds_row row same
  finds (No why) same suits = finds_none why same
  finds reply same suits = absurd suits

-- ---- one shard more

begins_more : (name : List ℕ) (id made : ℕ) (own : OwnEvent) (before after : List OwnEvent) → BeginsBy name id made before → own.op ≡ shard_op id made → after ≡ before ++ own ∷ [] → BeginsBy name id (made + 1) after
begins_more name id made own before after begins op is = record {
  look = begins.look;
  more = begins.more ++ own ∷ [];
  stands = is ∙ ap (λ es. es ++ own ∷ []) begins.stands;
  looks = begins.looks;
  showed = begins.showed;
  number = begins.number;
  makes = map-append (λ (e : OwnEvent). e.op) begins.more (own ∷ []) ∙ ap (λ ops. ops ++ own.op ∷ []) begins.makes
      ∙ ap (λ o. map (shard_op id) (range_with_len 0 made) ++ o ∷ []) op
      ∙ sym (map-range_with_len_more (shard_op id) 0 made made (omega arith));
}

-- shards are always made
done_by : (reply : Reply) (key : Key) → Suits (ShardMake 1 key) reply → reply ≡ Done
done_by Done key suits = refl
done_by reply key suits = absurd suits

pub made_after : (settings : SettingsView) (alone : Type 0) (d e f : DoorView) (name : List ℕ) (id moment made : ℕ) → HasMade settings alone d e name id moment made → MakesOne settings alone e f (shard_op id made) moment
    → HasMade settings alone d f name id moment (made + 1)
made_after settings alone d e f name id moment made has one_made =
    let op : Op = shard_op id made in
    let a : Answered = one_made.answered in
    let x = one_made.extends in
    let reply = done_by a.reply (shard_key id id made) one_made.suits in
    let p : Phase = phase_of settings e.seen (actor_at e) in
    record {
      legal = x.legal;
      maker = subst (λ (q : Phase). IsMaker q name id (made + 1)) (sym (phase_after settings e f op moment a x))
          (subst (λ (r : Reply). IsMaker (learnt p op r a.number a.clock) name id (made + 1)) (sym reply) (made_more p name id made a.number a.clock has.maker));
      own = begins_more name id made (own_event op a) (own_events e.seen (actor_at e)) (own_events f.seen (actor_at f)) has.own refl (own_after settings e f op moment a x);
      grows = grows_both settings d e f has.grows x.grows;
      only = λ al.
          let one : event_by (actor_at e) op moment a.reply ≡ event_by (actor_at d) op moment Done =
          ap (event_by (actor_at e) op moment) reply ∙ ap (λ who. event_by who op moment Done) (same_actor settings d e has.grows) in
          let here : f.seen ≡ d.seen ++ makes (actor_at d) id moment (suc made) =
          one_made.only al
          ∙ (ap (λ (v : Event). e.seen ++ v ∷ []) one
          ∙ (ap (λ (l : List Event). l ++ event_by (actor_at d) op moment Done ∷ []) (has.only al)
          ∙ append_assoc d.seen (makes (actor_at d) id moment made) (event_by (actor_at d) op moment Done ∷ []))) in
          here ∙ ap (λ n. d.seen ++ makes (actor_at d) id moment n) (sym (add-one made));
    }

-- ---- the row

-- the swap, by the name and the row that were made for it
pub swap_made : (settings now : SettingsView) (alone : Type 0) (e f : DoorView) (name given owner : List ℕ) (row : Bucket) (id moment : ℕ) → now ≡ settings → given ≡ name → row ≡ new_row settings owner id
    → MakesOne now alone e f (BucketSwap 1 given 0 (Some row)) moment → MakesOne settings alone e f (row_op settings name owner id) moment
swap_made settings now alone e f name given owner row id moment same is_name is_row made =
    subst (λ s. MakesOne s alone e f (row_op settings name owner id) moment) same
    (subst (λ n. MakesOne now alone e f (BucketSwap 1 n 0 (Some (new_row settings owner id))) moment) is_name
    (subst (λ r. MakesOne now alone e f (BucketSwap 1 given 0 (Some r)) moment) is_row made))

module _ (settings : SettingsView) (alone : Type 0) (d e f : DoorView) (name owner : List ℕ) (id moment : ℕ) (has : HasMade settings alone d e name id moment settings.shards)
    (one : MakesOne settings alone e f (row_op settings name owner id) moment) where
  abbrev op : Op
  op = row_op settings name owner id

  abbrev a : Answered
  a = one.answered

  abbrev x : Extends settings e op moment a f
  x = one.extends

  pub is_made : IsMadeBy settings name owner (own_events f.seen (actor_at f))
  is_made = record {
    id = id;
    front = own_events e.seen (actor_at e);
    begins = has.own;
    last = own_event op a;
    stands = own_after settings e f op moment a x;
    swaps = refl;
  }

  pub stands_then : is_some (row_now settings f.seen name) ≡ true
  stands_then = ap (λ h. is_some (row_now settings h name)) x.ends ∙ row_left settings (e.seen ++ x.between) (actor_at e) name owner id moment a.reply

  pub grown : Grows settings d f
  grown = grows_both settings d e f has.grows x.grows

  module _ (al : alone) (none : row_now settings d.seen name ≡ None) where
    only_one : f.seen ≡ e.seen ++ event_at e op moment a.reply ∷ []
    only_one = one.only al

    -- nobody made the row meanwhile
    still_none : row_now settings e.seen name ≡ None
    still_none = ap (λ h. row_now settings h name) (has.only al) ∙ (makes_stay settings d.seen (actor_at d) id moment settings.shards name ∙ none)

    done : a.reply ≡ Done
    done = (last_is_next settings e.seen (event_at e op moment a.reply) (subst (Legal settings) only_one x.legal)).answer ∙ swap_done settings e.seen name owner id moment still_none

    pub made_events : f.seen ≡ d.seen ++ make settings (actor_at d) name owner id moment
    made_events =
        let event : event_by (actor_at e) op moment a.reply ≡ event_by (actor_at d) op moment Done =
        ap (event_by (actor_at e) op moment) done ∙ ap (λ who. event_by who op moment Done) (same_actor settings d e has.grows) in
        only_one
        ∙ (ap (λ (v : Event). e.seen ++ v ∷ []) event
        ∙ (ap (λ (l : List Event). l ++ event_by (actor_at d) op moment Done ∷ []) (has.only al)
        ∙ append_assoc d.seen (makes (actor_at d) id moment settings.shards) (event_by (actor_at d) op moment Done ∷ [])))

    pub leaves_row : row_now settings f.seen name ≡ Some (made_row settings owner id (length f.seen))
    leaves_row =
        let number = next_is settings e.seen ∙ sym (ap length only_one ∙ length-append e.seen (event_at e op moment a.reply ∷ [])) in
        ap (λ h. row_now settings h name) only_one
        ∙ (row_made settings e.seen (actor_at e) name owner id moment a.reply still_none ∙ ap (λ n. Some (made_row settings owner id n)) number)

-- ---- all together

-- where nobody else makes events, the container has the number of the next event
number_is : (settings : SettingsView) (alone : Type 0) (d e : DoorView) (name : List ℕ) (id moment : ℕ) → FindsNone settings alone d e name id moment → alone → id ≡ length d.seen + 1
number_is settings alone d e name id moment finds al = finds.number ∙ (ap length (finds.by_read.only al) ∙ length-append d.seen (look (actor_at d) name moment ∷ []))

-- the whole history, from before the read
pub preset_events : (settings : SettingsView) (alone : Type 0) (d e f : DoorView) (name owner : List ℕ) (id moment : ℕ) → FindsNone settings alone d e name id moment → alone
    → f.seen ≡ e.seen ++ make settings (actor_at e) name owner id moment
    → f.seen ≡ d.seen ++ preset settings (actor_at d) name owner (length d.seen + 1) moment
preset_events settings alone d e f name owner id moment finds al ends =
    let who = same_actor settings d e finds.by_read.grows in
    let number = number_is settings alone d e name id moment finds al in
    ends
    ∙ (ap (λ a. e.seen ++ make settings a name owner id moment) who
    ∙ (ap (λ n. e.seen ++ make settings (actor_at d) name owner n moment) number
    ∙ (ap (λ (h : List Event). h ++ make settings (actor_at d) name owner (length d.seen + 1) moment) (finds.by_read.only al)
    ∙ append_assoc d.seen (look (actor_at d) name moment ∷ []) (make settings (actor_at d) name owner (length d.seen + 1) moment))))

pub preset_row : (settings : SettingsView) (alone : Type 0) (d e f : DoorView) (name owner : List ℕ) (id moment : ℕ) → FindsNone settings alone d e name id moment → alone
    → row_now settings f.seen name ≡ Some (made_row settings owner id (length f.seen))
    → row_now settings f.seen name ≡ Some (made_row settings owner (length d.seen + 1) (length f.seen))
preset_row settings alone d e f name owner id moment finds al is = is ∙ ap (λ n. Some (made_row settings owner n (length f.seen))) (number_is settings alone d e name id moment finds al)

-- where the making stopped
pub preset_stops : (settings : SettingsView) (alone : Type 0) (d e f : DoorView) (name : List ℕ) (id moment : ℕ) → FindsNone settings alone d e name id moment → HasMadeSome settings alone e f name id moment
    → Stops settings alone d f name moment
preset_stops settings alone d e f name id moment finds some =
    let who = same_actor settings d e finds.by_read.grows in
    inr
    (record {
      id = id;
      made = some.made;
      few = some.few;
      own = some.has.own;
      only = λ al.
          some.has.only al
          ∙ (ap (λ a. e.seen ++ makes a id moment some.made) who
          ∙ (ap (λ n. e.seen ++ makes (actor_at d) n moment some.made) (number_is settings alone d e name id moment finds al)
          ∙ (ap (λ (h : List Event). h ++ makes (actor_at d) (length d.seen + 1) moment some.made) (finds.by_read.only al)
          ∙ append_assoc d.seen (look (actor_at d) name moment ∷ []) (makes (actor_at d) (length d.seen + 1) moment some.made))));
    })

pub preset_grows : (settings : SettingsView) (alone : Type 0) (d e f : DoorView) (name : List ℕ) (id moment : ℕ) → FindsNone settings alone d e name id moment → Grows settings e f → Grows settings d f
preset_grows settings alone d e f name id moment finds more = grows_both settings d e f finds.by_read.grows more

-- where the result is an error
pub where_err : {A E : Type 0} (result : Result A E) (X : Type 0) → X → OnErr result X
where_err (Ok value) X x = tt
where_err (Err error) X x = x
