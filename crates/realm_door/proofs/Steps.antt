-- A step of any door; and several of them.
use Rattle.std.proofs.Common.{◌≡◌, ℕ, ◌+◌, ◌^◌, ◌<◌, ◌≤◌, ◌⊎◌, inl, inr, ⊎_elim, true, false, cond, List, [], ◌∷◌, ◌++◌, length, refl, sym, ap, ◌∙◌, subst, append_assoc, length-append, arith}
use Rattle.std.proofs.lemmas.List.{append-nil}
use Rattle.object_words.specs.Keys.{head_key}
use Rattle.realm_model.specs.Settings.{SettingsView}
use Rattle.realm_model.specs.States.{State, number_next, clock_at, at_moment}
use Rattle.realm_model.specs.Steps.{reply_of, touch_of}
use Rattle.realm_model.specs.Maps.{Maps, slot_at, heads}
use Rattle.realm_model.specs.Worlds.{start, actor_of}
use Rattle.realm_model.specs.Histories.{Doings, world_of, state_of, doings_of, done, answer_after, Legal}
use Rattle.realm_model.specs.Owns.{clock_after, own_events}
use Rattle.realm_model.specs.Doors.{DoorView, actor_at, mine, NoneByPass}
use Rattle.realm_model.specs.declared.op.Op.{Op}
use Rattle.realm_model.specs.declared.op.Op.TheVariants.{HeadRead}
use Rattle.realm_model.specs.declared.event.Reply.{Reply}
use Rattle.realm_model.specs.declared.event.Event.{Event}
use Rattle.realm_model.proofs.Runs.{last_is_next, legal_front, count_from, clock_from, state-next, touched-clock}
use Rattle.realm_model.proofs.Agreeing.{heads_agree}
use Rattle.realm_model.proofs.Doing.{doings-next}
use Rattle.realm_model.proofs.Minding.{mine-next}
use Rattle.realm_door.specs.declared.door.Answered.{Answered}
use Rattle.realm_door.specs.Steps.{doings_at, actor_of_pass, next_count, IsCounted, begun, event_at, Shows, view_after, own_event, IsSame, IsLater, Grows, Extends}
use Rattle.realm_door.specs.Turns.{IsOneMore, Turned}
use Rattle.realm_door.specs.declared.task.TaskTurn.{TaskTurn}
use Rattle.realm_door.specs.declared.task.TaskTurn.TheVariants.{More, Wants, Gives, Done}
use Rattle.realm_door.proofs.Others.{same_both, same_other_pass, same_other_count, events-next}

-- a read of a head shows what the bucket map has, which is what the head has
shows : (st : State) (settings : SettingsView) (maps : Maps) (op : Op) → ((zone container : ℕ) (name : List ℕ) → slot_at (maps zone container) name ≡ (st.heads zone (head_key container name)).slot) → Shows maps op (reply_of settings st op)
shows st settings maps (HeadRead zone container name) agree = sym (agree zone container name)
shows st settings maps op agree = tt

-- the step makes one event more
number : (settings : SettingsView) (history : List Event) → number_next (state_of settings history) ≡ length history + 1
number settings history = let counted = count_from settings (start settings) history in omega (arith, counted)

clock : (settings : SettingsView) (history : List Event) (e : Event) → clock_at (state_of settings history).clock e.moment ≡ (state_of settings (history ++ e ∷ [])).clock
clock settings history e =
    let st = at_moment (state_of settings history) e.moment in
    sym (ap (λ (s : State). s.clock) (state-next settings history e) ∙ touched-clock settings st (touch_of settings st e.op))

own : (settings : SettingsView) (found : List Event) (e : Event) (before : Doings) (number' clock' : ℕ) → doings_of settings found (actor_of e) ≡ before → number' ≡ length (found ++ e ∷ []) → clock' ≡ (state_of settings (found ++ e ∷ [])).clock
    → doings_of settings (found ++ e ∷ []) (actor_of e) ≡ done before (heads found) (world_of settings found).stripes.made e.op e.reply number' clock'
own settings found e before number' clock' same is_number is_clock =
    let made = (world_of settings found).stripes.made in
    let counted : number_next (state_of settings found) ≡ number' = number settings found ∙ sym (is_number ∙ length-append found (e ∷ [])) in
    let timed : clock_at (state_of settings found).clock e.moment ≡ clock' = clock settings found e ∙ sym is_clock in
    doings-next settings found e
    ∙ ap (λ x. done x (heads found) made e.op e.reply (number_next (state_of settings found)) (clock_at (state_of settings found).clock e.moment)) same
    ∙ ap (λ n. done before (heads found) made e.op e.reply n (clock_at (state_of settings found).clock e.moment)) counted
    ∙ ap (λ c. done before (heads found) made e.op e.reply number' c) timed

longer : (seen between : List Event) (e : Event) → length seen < length ((seen ++ between) ++ e ∷ [])
longer seen between e =
    let one = length-append (seen ++ between) (e ∷ []) in
    let two = length-append seen between in
    omega (arith, one, two)

grows_by : (settings : SettingsView) (d : DoorView) (between : List Event) (op : Op) (moment : ℕ) (reply : Reply) → NoneByPass d.pass between → length ((d.seen ++ between) ++ event_at d op moment reply ∷ []) ≤ 2 ^ 62
    → Grows settings d (view_after d ((d.seen ++ between) ++ event_at d op moment reply ∷ []))
grows_by settings d between op moment reply others room =
    let e : Event = event_at d op moment reply in
    record {
      pass = refl;
      count = refl;
      later = inl (record { used = refl; longer = longer d.seen between e; room = room });
      more = between ++ e ∷ [];
      grows = append_assoc d.seen between (e ∷ []);
      rest = λ count apart.
          same_both settings d.seen (d.seen ++ between) ((d.seen ++ between) ++ e ∷ []) (actor_of_pass d.pass count)
          (same_other_pass settings d.seen between d.pass count others)
          (same_other_count settings (d.seen ++ between) e d.pass count refl apart);
    }

extends_at : (settings : SettingsView) (d : DoorView) (between : List Event) (op : Op) (moment : ℕ) (a : Answered) → NoneByPass d.pass between → Legal settings ((d.seen ++ between) ++ event_at d op moment a.reply ∷ []) → a.number ≡ length ((d.seen ++ between) ++ event_at d op moment a.reply ∷ []) → a.clock ≡ (state_of settings ((d.seen ++ between) ++ event_at d op moment a.reply ∷ [])).clock → a.number ≤ 2 ^ 62
    → Extends settings d op moment a (view_after d ((d.seen ++ between) ++ event_at d op moment a.reply ∷ []))
extends_at settings d between op moment a others legal is_number is_clock room =
    let e : Event = event_at d op moment a.reply in
    let found : List Event = d.seen ++ between in
    let answer : a.reply ≡ answer_after settings found op moment = (last_is_next settings found e legal).answer in
    let front : Legal settings found = legal_front settings (start settings) found (e ∷ []) legal in
    let agree : Shows (heads found) op (answer_after settings found op moment) =
    shows (at_moment (state_of settings found) moment) settings (heads found) op (heads_agree settings found front) in
    let same = same_other_pass settings d.seen between d.pass d.count others in
    let timed : clock_at (clock_after 0 found) moment ≡ a.clock =
    ap (λ c. clock_at c moment) (sym (clock_from settings (start settings) found)) ∙ clock settings found e ∙ sym is_clock in
    let counted : a.number ≡ length found + 1 = is_number ∙ length-append found (e ∷ []) in
    record {
      between = between;
      others = others;
      ends = refl;
      answer = answer;
      number = is_number;
      clock = is_clock;
      legal = legal;
      grows = grows_by settings d between op moment a.reply others (subst (λ n. n ≤ 2 ^ 62) is_number room);
      events = events-next found e
          ∙ ap (λ es. es ++ own_event op (record a { number = length found + 1; clock = clock_at (clock_after 0 found) moment }) ∷ []) same.events
          ∙ ap (λ n. own_events d.seen (actor_at d) ++ own_event op (record a { number = n; clock = clock_at (clock_after 0 found) moment }) ∷ []) (sym counted)
          ∙ ap (λ c. own_events d.seen (actor_at d) ++ own_event op (record a { clock = c }) ∷ []) timed;
      own = own settings found e (doings_at settings d) a.number a.clock same.doings is_number is_clock;
      numbers = mine-next d.pass d.seen between e others refl ∙ ap (λ n. mine d.pass d.seen ++ n ∷ []) (sym counted);
      shows = subst (λ r. Shows (heads found) op r) (sym answer) agree;
    }

-- Whatever door it is: a step whose history is what was seen, events of other passes and the own one, extends what is told.
pub extends : (settings : SettingsView) (d : DoorView) (between log : List Event) (op : Op) (moment : ℕ) (a : Answered) → NoneByPass d.pass between → log ≡ (d.seen ++ between) ++ event_at d op moment a.reply ∷ [] → Legal settings log → a.number ≡ length log → a.clock ≡ (state_of settings log).clock → a.number ≤ 2 ^ 62
    → Extends settings d op moment a (view_after d log)
extends settings d between log op moment a others ends legal is_number is_clock room =
    let P : List Event → Type 0 = λ l. Extends settings d op moment a (view_after d l) in
    let number' = subst (λ l. a.number ≡ length l) ends is_number in
    let clock' = subst (λ l. a.clock ≡ (state_of settings l).clock) ends is_clock in
    subst P (sym ends) (extends_at settings d between op moment a others (subst (λ l. Legal settings l) ends legal) number' clock' room)

-- ---- several steps

pub grows_none : (settings : SettingsView) (d : DoorView) → Grows settings d d
grows_none settings d = record { pass = refl; count = refl; later = inr refl; more = []; grows = sym (append-nil d.seen); rest = λ count apart. record { events = refl; doings = refl } }

later_both : (d e f : DoorView) → IsLater d e ⊎ (e ≡ d) → IsLater e f ⊎ (f ≡ e) → IsLater d f ⊎ (f ≡ d)
later_both d e f one two =
    ⊎_elim
    (λ b. ⊎_elim
    (λ a. let first = a.longer in let second = b.longer in inl (record { used = b.used; longer = omega (arith, first, second); room = b.room }))
    (λ same. inl (subst (λ x. IsLater x f) same b)) one)
    (λ same. ⊎_elim
    (λ a. inl (subst (λ x. IsLater d x) (sym same) a))
    (λ before. inr (same ∙ before)) one)
    two

pub grows_both : (settings : SettingsView) (d e f : DoorView) → Grows settings d e → Grows settings e f → Grows settings d f
grows_both settings d e f a b = record {
  pass = b.pass ∙ a.pass;
  count = b.count ∙ a.count;
  later = later_both d e f a.later b.later;
  more = a.more ++ b.more;
  grows = b.grows ∙ (ap (λ l. l ++ b.more) a.grows ∙ append_assoc d.seen a.more b.more);
  rest = λ count apart.
      let Same : ℕ → Type 0 = λ pass. IsSame settings e.seen f.seen (actor_of_pass pass count) in
      same_both settings d.seen e.seen f.seen (actor_of_pass d.pass count) (a.rest count apart)
      (subst Same a.pass (b.rest count (λ same. apart (same ∙ a.count))));
}

-- ---- the count of actors

count_most : (d : DoorView) → d.count ≤ next_count d
count_most d = elim d.used as (λ b. d.count ≤ cond b (d.count + 1) d.count) [ true ↦ omega arith | false ↦ omega arith ]

-- the next actor is counted
pub counted_begun : (d : DoorView) → IsCounted d → IsCounted (begun d)
counted_begun d counted = record { few = counted.few; room = counted.room }

-- steps keep it
pub counted_grown : (settings : SettingsView) (d e : DoorView) → Grows settings d e → IsCounted d → IsCounted e
counted_grown settings d e g counted =
    ⊎_elim
    (λ later.
    let few = counted.few in
    let longer' = later.longer in
    let least = count_most d in
    let same = g.count in
    let next : next_count e ≡ e.count + 1 = rw later.used refl in
    record { few = omega (arith, few, longer', least, same, next); room = later.room })
    (λ same. subst IsCounted (sym same) counted) g.later

-- ---- turns

-- ---- one event more

pub one_more : (d e : DoorView) (event : Event) → e.seen ≡ d.seen ++ event ∷ [] → IsOneMore d e
one_more d e event grown = omega (arith, ap length grown ∙ length-append d.seen (event ∷ []))

pub none_more : (d e : DoorView) → e ≡ d → IsOneMore d e
none_more d e same = omega (arith, ap (λ (x : DoorView). length x.seen) same)
