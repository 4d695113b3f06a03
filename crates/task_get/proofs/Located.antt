-- An actor's own event stands in the history, and what its read of a tail is answered are bytes of the slot that its read of
-- the head found.
use Rattle.std.proofs.Common.{◌≡◌, ℕ, ◌+◌, ◌*◌, ◌<◌, ◌≤◌, true, false, cond, List, [], ◌∷◌, ◌++◌, length, take, drop, Some, refl, sym, ap, ◌∙◌, subst, append_assoc, arith}
use Rattle.std.specs.List.{AllZip}
use Rattle.std.proofs.Math.Seq.{take-append_seam}
use Rattle.std.proofs.lemmas.List.{append-nil}
use Rattle.rgw_types.specs.declared.stamp.Stamp.{Stamp}
use Rattle.rgw_types.specs.Stripes.{tails_of}
use Rattle.rgw_model.specs.declared.slot.Slot.{Slot}
use Rattle.rgw_model.specs.declared.slot.Slot.TheVariants as Slots
use Rattle.manifest.specs.declared.parts.Part.{Part}
use Rattle.manifest.specs.Ranges.{part_size}
use Rattle.object_words.specs.declared.head.HeadSeen.{HeadSeen}
use Rattle.object_words.specs.declared.head.NewHead.{NewHead}
use Rattle.object_words.specs.declared.head.SeenSlot.TheVariants.{Live}
use Rattle.realm_model.specs.Settings.{SettingsView}
use Rattle.realm_model.specs.States.{clock_at}
use Rattle.realm_model.specs.Phases.{ActorId}
use Rattle.realm_model.specs.Maps.{heads, whole_bytes}
use Rattle.realm_model.specs.Accounts.{Decided, slot_now}
use Rattle.realm_model.specs.Worlds.{same_actor, actor_of}
use Rattle.realm_model.specs.Histories.{world_of, account_of, Legal}
use Rattle.realm_model.specs.Decisions.{Stands}
use Rattle.realm_model.specs.Owns.{OwnEvent, own_from, own_events}
use Rattle.realm_model.specs.declared.op.Op.TheVariants.{HeadRead, TailRead}
use Rattle.realm_model.specs.declared.event.Event.{Event}
use Rattle.realm_model.specs.declared.event.Reply.TheVariants.{Head as head_reply, Bytes as bytes_reply}
use Rattle.realm_model.proofs.Deciding.{decided_stands}
use Rattle.stripe_law.specs.Reading.{IsPiece}
use Rattle.stripe_law.proofs.Getting.{read_slot, range_is}
use Rattle.task_get.specs.Shown.{content_with}
use Rattle.task_get.proofs.Pieces.{one_part}

-- the own event, with those of its actor behind it
record OwnAt (count : ℕ) (es : List Event) (actor : ActorId) (x : OwnEvent) (ys : List OwnEvent) : Type 0 where
  before : List Event
  event : Event
  later : List Event
  stands : es ≡ before ++ event ∷ later
  op : event.op ≡ x.op
  reply : event.reply ≡ x.reply
  number : x.number ≡ count + length before + 1
  from : ℕ
  clock : ℕ
  rest : own_from from clock later actor ≡ ys

module _ (actor : ActorId) (x : OwnEvent) (ys : List OwnEvent) where
  behind : (count : ℕ) (e : Event) (es : List Event) → OwnAt (count + 1) es actor x ys → OwnAt count (e ∷ es) actor x ys
  behind count e es a = record {
    before = e ∷ a.before;
    event = a.event;
    later = a.later;
    stands = ap (λ l. e ∷ l) a.stands;
    op = a.op;
    reply = a.reply;
    number = (let is = a.number in omega (arith, is));
    from = a.from;
    clock = a.clock;
    rest = a.rest;
  }

  own_first : (count clock : ℕ) (e : Event) (es : List Event) (xs : List OwnEvent)
      → record { op = e.op; reply = e.reply; number = count + 1; clock = clock_at clock e.moment } ∷ own_from (count + 1) (clock_at clock e.moment) es actor ≡ xs ++ x ∷ ys
      → ((zs : List OwnEvent) → own_from (count + 1) (clock_at clock e.moment) es actor ≡ zs ++ x ∷ ys → OwnAt (count + 1) es actor x ys) → OwnAt count (e ∷ es) actor x ys
  own_first count clock e es [] is again =
      let own : OwnEvent = record { op = e.op; reply = e.reply; number = count + 1; clock = clock_at clock e.moment } in
      let same : own ≡ x = cc in
      let left : own_from (count + 1) (clock_at clock e.moment) es actor ≡ ys = cc in
      let number : count + 1 ≡ x.number = ap (λ (o : OwnEvent). o.number) same in
      record {
        before = [];
        event = e;
        later = es;
        stands = refl;
        op = ap (λ (o : OwnEvent). o.op) same;
        reply = ap (λ (o : OwnEvent). o.reply) same;
        number = omega (arith, number);
        from = count + 1;
        clock = clock_at clock e.moment;
        rest = left;
      }
  own_first count clock e es (z ∷ zs) is again =
      let left : own_from (count + 1) (clock_at clock e.moment) es actor ≡ zs ++ x ∷ ys = cc in
      behind count e es (again zs left)

  own_at : (es : List Event) (count clock : ℕ) (xs : List OwnEvent) → own_from count clock es actor ≡ xs ++ x ∷ ys → OwnAt count es actor x ys
  own_at [] count clock [] is = cc
  own_at [] count clock (z ∷ zs) is = cc
  own_at (e ∷ es) count clock xs is =
      let now = clock_at clock e.moment in
      let later = own_from (count + 1) now es actor in
      elim (same_actor actor (actor_of e)) as (λ b. cond b (record { op = e.op; reply = e.reply; number = count + 1; clock = now } ∷ later) later ≡ xs ++ x ∷ ys → OwnAt count (e ∷ es) actor x ys) [
        | true ↦ λ is. own_first count clock e es xs is (λ zs left. own_at es (count + 1) now zs left)
        | false ↦ λ is. behind count e es (own_at es (count + 1) now xs is)
      ] is

-- two fronts of a list that have the same length are the same
same_front : (a b : List Event) (x y : Event) (xs ys : List Event) → (a ++ x ∷ []) ++ xs ≡ b ++ y ∷ ys → length a ≡ length b → a ≡ b
same_front a b x y xs ys same long =
    sym (take-append_seam a (x ∷ xs))
    ∙ ap (take (length a)) (sym (append_assoc a (x ∷ []) xs) ∙ same)
    ∙ ap (λ n. take n (b ++ y ∷ ys)) long
    ∙ take-append_seam b (y ∷ ys)

abbrev bytes_of : Slot → List ℕ
bytes_of (Slots.Live content stamp) = content.bytes
bytes_of slot = []

module _ (settings : SettingsView) (history : List Event) (legal : Legal settings history) (actor : ActorId) (look head own : OwnEvent) (tails : List OwnEvent)
    (events : own_events history actor ≡ look ∷ head ∷ (tails ++ own ∷ []))
    (zone container : ℕ) (name : List ℕ) (seen : HeadSeen) (shown_at : ℕ) (new : NewHead) (stamp : Stamp)
    (op : head.op ≡ HeadRead zone container name) (reply : head.reply ≡ head_reply seen shown_at) (live : seen.slot ≡ Live new stamp) where
  the_head : OwnAt 0 history actor head (tails ++ own ∷ [])
  the_head = own_at actor head (tails ++ own ∷ []) history 0 0 (look ∷ []) events

  around : Legal settings (the_head.before ++ the_head.event ∷ the_head.later)
  around = subst (λ l. Legal settings l) the_head.stands legal

  -- the slot that decides has the bytes that were made
  whole_is : (event : Decided) (bytes : List ℕ) → (account_of settings history actor).decided ≡ Some event → event.number ≡ head.number → event.zone ≡ zone → event.container ≡ container → event.name ≡ name
      → event.before ≡ Slots.Live (content_with new bytes) stamp → whole_bytes (world_of settings the_head.before).stripes.made zone new ≡ bytes
  whole_is event bytes decided number in_zone in_container of_name before =
      let stands : Stands settings history actor event = decided_stands settings history actor event decided in
      let one = stands.number in
      let two = the_head.number in
      let same : stands.earlier ≡ the_head.before = same_front stands.earlier the_head.before stands.event the_head.event stands.later the_head.later (sym stands.stands ∙ the_head.stands) (omega (arith, one, two, number)) in
      let shown = read_slot settings the_head.before the_head.later the_head.event around zone container name seen shown_at new stamp (the_head.op ∙ op) (the_head.reply ∙ reply) live in
      let moved : slot_now (heads stands.earlier) (world_of settings stands.earlier).stripes.made event.zone event.container event.name ≡ slot_now (heads the_head.before) (world_of settings the_head.before).stripes.made zone container name =
      (λ i. slot_now (heads (same i)) (world_of settings (same i)).stripes.made (in_zone i) (in_container i) (of_name i)) in
      sym (ap bytes_of (sym before ∙ stands.before ∙ moved ∙ shown))

  pub tail_bytes : (event : Decided) (bytes : List ℕ) → (account_of settings history actor).decided ≡ Some event → event.number ≡ head.number → event.zone ≡ zone → event.container ≡ container → event.name ≡ name
      → event.before ≡ Slots.Live (content_with new bytes) stamp
      → (part start count : ℕ) (answer : List ℕ) → own.op ≡ TailRead zone new.manifest.write part start count → own.reply ≡ bytes_reply answer
      → 0 < new.manifest.stripe → 1 ≤ part → part ≤ tails_of new.manifest → 1 ≤ count → start + count ≤ part_size new.manifest part
      → answer ≡ take count (drop (part * new.manifest.stripe + start) bytes)
  tail_bytes event bytes decided number in_zone in_container of_name before part start count answer is_read is_told some low high filled inside =
      let m = new.manifest in
      let at = part * m.stripe + start in
      let tail = own_at actor own [] the_head.later the_head.from the_head.clock tails the_head.rest in
      let p : Part = record { part = part; start = start; count = count } in
      let piece : IsPiece the_head.later zone new p answer = record {
        of_head = λ zero. absurd (omega (arith, zero, low));
        of_tail = λ behind. record { earlier = tail.before; event = tail.event; rest = tail.later; stands = tail.stands; op = tail.op ∙ is_read; reply = tail.reply ∙ is_told };
      } in
      let pieces = subst (λ ps. AllZip (IsPiece the_head.later zone new) ps (answer ∷ [])) (sym (one_part m part start count some filled high inside)) (piece, tt) in
      let range = range_is settings the_head.before the_head.later the_head.event around zone container name seen shown_at new stamp (the_head.op ∙ op) (the_head.reply ∙ reply) live at count (answer ∷ []) pieces in
      sym (append-nil answer) ∙ range ∙ ap (λ b. take count (drop at b)) (whole_is event bytes decided number in_zone in_container of_name before)
