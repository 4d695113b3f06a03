-- A request that removed a container took its row away, under which no name was live.
use Rattle.std.proofs.Common.{◌≡◌, ℕ, ◌+◌, true, false, cond, List, [], ◌∷◌, ◌++◌, Option, Some, None, refl, sym, subst, ap, ◌∙◌, append_assoc}
use Rattle.object_words.specs.declared.bucket.Bucket.{Bucket}
use Rattle.object_words.specs.declared.why.Why.{Why}
use Rattle.object_words.specs.Heads.{is_live}
use Rattle.object_words.specs.Names.{at}
use Rattle.object_words.specs.Roots.{swap_refusal}
use Rattle.realm_model.specs.Histories.{world_of, Legal}
use Rattle.realm_model.specs.Maps.{slot_at, heads}
use Rattle.realm_model.specs.Owns.{OwnEvent, own_from, own_events, learnt_from}
use Rattle.realm_model.specs.Phases.{ActorId, RowRead, Phase, fresh}
use Rattle.realm_model.specs.Learnt.{row_known}
use Rattle.realm_model.specs.Settings.{SettingsView, IsSettings}
use Rattle.realm_model.specs.States.{at_moment, clock_at}
use Rattle.realm_model.specs.Steps.{reply_or, reply_of}
use Rattle.realm_model.specs.Worlds.{start, actor_of, same_actor}
use Rattle.realm_model.specs.declared.event.Event.{Event}
use Rattle.realm_model.specs.declared.event.Reply.TheVariants.{Done}
use Rattle.realm_model.specs.declared.op.Op.TheVariants.{BucketSwap}
use Rattle.realm_model.proofs.Others.{phase-own, same_is}
use Rattle.realm_model.proofs.Runs.{last_is_next, legal_front}
use Rattle.index_law.proofs.Keeping.{kept_is, holds}
use Rattle.index_law.proofs.Removed.{removed_for_good}
use Rattle.task_container.specs.declared.request.ContainerRequest.{ContainerRequest}
use Rattle.task_container.specs.Ends.{IsRemoved}
use Rattle.task_container.specs.Requests.{name_of}
use Rattle.settled_law.specs.Removing.{IsRemovedEmpty}

-- ---- the own event in the history

-- an event of the actor, behind which its others come
record Located (count clock : ℕ) (es : List Event) (actor : ActorId) (xs : List OwnEvent) (x : OwnEvent) : Type 0 where
  before : List Event
  event : Event
  later : List Event
  stands : es ≡ before ++ event ∷ later
  by : actor_of event ≡ actor
  op : event.op ≡ x.op
  reply : event.reply ≡ x.reply
  own : own_from count clock before actor ≡ xs

module _ (actor : ActorId) (x : OwnEvent) (ys : List OwnEvent) where
  module _ (count clock : ℕ) (e : Event) (es : List Event) where
    abbrev now : ℕ
    now = clock_at clock e.moment

    abbrev first : OwnEvent
    first = record { op = e.op; reply = e.reply; number = count + 1; clock = now }

    of_another : (xs : List OwnEvent) → same_actor actor (actor_of e) ≡ false → Located (count + 1) now es actor xs x → Located count clock (e ∷ es) actor xs x
    of_another xs other l = record {
      before = e ∷ l.before;
      event = l.event;
      later = l.later;
      stands = ap (λ s. e ∷ s) l.stands;
      by = l.by;
      op = l.op;
      reply = l.reply;
      own = ap (λ b. cond b (first ∷ own_from (count + 1) now l.before actor) (own_from (count + 1) now l.before actor)) other ∙ l.own;
    }

    of_actor : (xs : List OwnEvent) → same_actor actor (actor_of e) ≡ true → first ∷ own_from (count + 1) now es actor ≡ xs ++ x ∷ ys
        → ((zs : List OwnEvent) → own_from (count + 1) now es actor ≡ zs ++ x ∷ ys → Located (count + 1) now es actor zs x) → Located count clock (e ∷ es) actor xs x
    of_actor [] same is again =
        let one : first ≡ x = cc in
        record {
          before = [];
          event = e;
          later = es;
          stands = refl;
          by = same_is actor (actor_of e) same;
          op = ap (λ (o : OwnEvent). o.op) one;
          reply = ap (λ (o : OwnEvent). o.reply) one;
          own = refl;
        }
    of_actor (z ∷ zs) same is again =
        let one : first ≡ z = cc in
        let left : own_from (count + 1) now es actor ≡ zs ++ x ∷ ys = cc in
        let l = again zs left in
        record {
          before = e ∷ l.before;
          event = l.event;
          later = l.later;
          stands = ap (λ s. e ∷ s) l.stands;
          by = l.by;
          op = l.op;
          reply = l.reply;
          own =
              ap (λ b. cond b (first ∷ own_from (count + 1) now l.before actor) (own_from (count + 1) now l.before actor)) same
              ∙ (λ i. one i ∷ l.own i);
        }

  located : (es : List Event) (count clock : ℕ) (xs : List OwnEvent) → own_from count clock es actor ≡ xs ++ x ∷ ys → Located count clock es actor xs x
  located [] count clock [] is = cc
  located [] count clock (z ∷ zs) is = cc
  located (e ∷ es) count clock xs is =
      let later = own_from (count + 1) (clock_at clock e.moment) es actor in
      elim (same_actor actor (actor_of e)) as (λ b. same_actor actor (actor_of e) ≡ b → cond b (first count clock e es ∷ later) later ≡ xs ++ x ∷ ys → Located count clock (e ∷ es) actor xs x) [
        | true ↦ λ same is. of_actor count clock e es xs same is (λ zs left. located es (count + 1) (clock_at clock e.moment) zs left)
        | false ↦ λ other is. of_another count clock e es xs other (located es (count + 1) (clock_at clock e.moment) xs is)
      ] refl is

-- ---- the row

-- what an actor knows of a row it has read, or swapped
record HasRead (p : Phase) (name : List ℕ) (row : Bucket) : Type 0 where
  read : RowRead
  is : at (p.rows 1) name ≡ Some read
  showed : read.row ≡ Some row

has_read : (p : Phase) (name : List ℕ) (row : Bucket) → row_known (p.rows 1) name ≡ Some row → HasRead p name row
has_read p name row known = by_read (at (p.rows 1) name) refl known
  where
    by_read : (o : Option RowRead) → at (p.rows 1) name ≡ o → row_known (p.rows 1) name ≡ Some row → HasRead p name row
    by_read None is known = let none : None ≡ Some row = sym (rw is refl) ∙ known in absurd (cc)
    by_read (Some read) is known = record { read = read; is = is; showed = sym (rw is refl) ∙ known }

done_passes : (r : Option Why) → Done ≡ reply_or Done r → r ≡ None
done_passes None told = refl
done_passes (Some why) told = absurd cc

module _ (settings : SettingsView) (good : IsSettings settings) (history : List Event) (legal : Legal settings history) (actor : ActorId) (r : ContainerRequest) where
  pub removed : IsRemoved r (own_events history actor) → IsRemovedEmpty settings history actor r.asker.account (name_of r.command)
  removed x =
      let name = name_of r.command in
      let l = located actor x.remove x.shuts history 0 0 x.before x.stands in
      let w = world_of settings l.before in
      let here : Legal settings (l.before ++ l.event ∷ l.later) = subst (Legal settings) l.stands legal in
      let front = legal_front settings (start settings) l.before (l.event ∷ l.later) here in
      let upto : Legal settings (l.before ++ l.event ∷ []) =
      legal_front settings (start settings) (l.before ++ l.event ∷ []) l.later (subst (Legal settings) (sym (append_assoc l.before (l.event ∷ []) l.later)) here) in
      let j = holds settings l.before good front in
      let next = last_is_next settings l.before l.event upto in
      let phase : w.phases actor ≡ learnt_from fresh x.before = phase-own settings l.before actor ∙ ap (learnt_from fresh) l.own in
      let known : row_known ((w.phases actor).rows 1) name ≡ Some x.row = ap (λ (p : Phase). row_known (p.rows 1) name) phase ∙ x.known in
      let read = has_read (w.phases actor) name x.row known in
      let op : l.event.op ≡ BucketSwap 1 name (x.row).version None = l.op ∙ x.removes in
      let reply : l.event.reply ≡ Done = l.reply ∙ x.done in
      let st = at_moment w.state l.event.moment in
      let answer : Done ≡ reply_of settings st (BucketSwap 1 name (x.row).version None) = sym reply ∙ next.answer ∙ ap (reply_of settings st) op in
      let ok = done_passes (swap_refusal (w.state.root 1) name (x.row).version) answer in
      let had = kept_is settings good w j actor l.event.moment 1 name read.read read.is (Some x.row) read.showed ok in
      record {
        before = l.before;
        removal = l.event;
        later = l.later;
        stands = l.stands;
        by = l.by;
        row = x.row;
        had = had;
        own = x.own;
        takes = op;
        done = reply;
        empty = λ object.
            subst (λ (h : List Event). is_live (slot_at (heads h 1 (x.row).id) object) ≡ false) (sym l.stands)
            (removed_for_good settings l.before l.event l.later name (x.row).version x.row object good here op reply had);
      }
