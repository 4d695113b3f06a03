-- The own events of a PUT, one after another: the first read a row, and none wanted room for a body without bytes.
use Rattle.std.proofs.Common.{◌≡◌, inl, ℕ, ◌+◌, Bool, true, false, cond, List, [], ◌∷◌, ◌++◌, length, Some, None, Option, refl, sym, ◌∙◌, ap, subst, append_assoc}
use Rattle.std.specs.List.{AllByRecursion}
use Rattle.std.proofs.lemmas.List.{append-nil}
use Rattle.object_words.specs.declared.bucket.Bucket.{Bucket}
use Rattle.object_words.specs.Names.{at}
use Rattle.realm_model.specs.Accounts.{Looked, Account, looked_after, accounted}
use Rattle.realm_model.specs.Histories.{Doings, world_of, state_of, account_of, Legal}
use Rattle.realm_model.specs.Maps.{heads}
use Rattle.realm_model.specs.Owns.{OwnEvent, clock_after, own_from, own_events, NoneBy}
use Rattle.realm_model.specs.Phases.{ActorId}
use Rattle.realm_model.specs.Settings.{SettingsView, IsSettings}
use Rattle.realm_model.specs.Shown.{row_shown}
use Rattle.realm_model.specs.States.{number_next, clock_at, at_moment}
use Rattle.realm_model.specs.Steps.{row_reply, reply_of}
use Rattle.realm_model.specs.Worlds.{start, same_actor, actor_of}
use Rattle.realm_model.specs.declared.op.Op.{Op}
use Rattle.realm_model.specs.declared.op.Op.TheVariants.{BucketRead}
use Rattle.realm_model.specs.declared.event.Reply.{Reply}
use Rattle.realm_model.specs.declared.event.Reply.TheVariants.{No, Row}
use Rattle.realm_model.specs.declared.event.Event.{Event}
use Rattle.realm_model.proofs.Doing.{doings-next}
use Rattle.realm_model.proofs.ObjectLemmas.{actor_itself}
use Rattle.realm_model.proofs.Others.{account-others}
use Rattle.realm_model.proofs.Runs.{last_is_next, legal_front}
use Rattle.realm_door.proofs.Others.{own-append, same_after_others}
use Rattle.task_words.specs.Cuts.{tails_after, is_changed_after, IsCutAt, AreCutFrom, AreCut}
use Rattle.task_put.specs.Orders.{Path, begun, feeding, astray, path_after, path_from, path_of, IsFinished}
use Rattle.once_law.specs.Runs.{IsOpen}
use Rattle.once_law.proofs.Open.{keeps_open}
use Rattle.once_law.proofs.Looking.{Quiet, Stands, quiet_at_end, IsTold, stands_next}
use Rattle.once_law.proofs.Preparing.{is_prepared}
use Rattle.once_law.proofs.Standing.{Standing, stands_one_more}
use Rattle.once_law.proofs.Wanting.{none_wanted}

-- ---- the first event

-- a row that is read is that which the answer shows
read_shows : (looked : Option Looked) (zone : ℕ) (name : List ℕ) (reply : Reply) (found : Option Bucket) (number : ℕ) (l : Looked) → reply ≡ row_reply found → looked_after looked (BucketRead zone name) reply number ≡ Some l
    → l.row ≡ row_shown reply
read_shows looked zone name (Row row) found number l answer is =
    let here : record { zone = zone; name = name; row = Some row; number = number } ≡ l = cc in ap (λ (q : Looked). q.row) (sym here)
read_shows looked zone name (No why) found number l answer is =
    let here : record { zone = zone; name = name; row = None; number = number } ≡ l = cc in ap (λ (q : Looked). q.row) (sym here)
read_shows looked zone name reply None number l answer is = absurd (cc)
read_shows looked zone name reply (Some row) number l answer is = absurd (cc)

-- what came astray stays so
never_back : (events : List OwnEvent) → IsFinished (path_from astray events) → ⊥
never_back [] ends = ends
never_back (e ∷ es) ends = never_back es ends

-- the first event of a PUT reads a row
record IsRead (op : Op) (reply : Reply) : Type 0 where
  zone : ℕ
  name : List ℕ
  is : op ≡ BucketRead zone name
  leads : path_after begun op reply ≡ feeding

reads_first : (op : Op) (reply : Reply) (events : List OwnEvent) → IsFinished (path_from (path_after begun op reply) events) → IsRead op reply
reads_first (BucketRead zone name) reply events ends = record { zone = zone; name = name; is = refl; leads = refl }
reads_first op reply events ends = absurd (never_back events ends)

-- an own event, behind so many others and this clock
abbrev pub own_of : ℕ → ℕ → Event → OwnEvent
own_of count clock e = record { op = e.op; reply = e.reply; number = count + 1; clock = clock_at clock e.moment }

-- an event of the actor is the first of its own
pub own_here : (actor : ActorId) (count clock : ℕ) (e : Event) (es : List Event) → actor_of e ≡ actor → own_from count clock (e ∷ es) actor ≡ own_of count clock e ∷ own_from (count + 1) (clock_at clock e.moment) es actor
own_here actor count clock e es by =
    let rest = own_from (count + 1) (clock_at clock e.moment) es actor in
    let itself : same_actor actor (actor_of e) ≡ true = subst (λ a. same_actor actor a ≡ true) (sym by) (actor_itself actor) in
    ap (λ b. cond b (own_of count clock e ∷ rest) rest) itself

-- ---- all of them

module _ (settings : SettingsView) (good : IsSettings settings) (base : List Event) (zone : ℕ) (body : List ℕ) where
  -- how a PUT goes
  record Goes (shown : Option Bucket) (path : Path) (y : Account) : Type 0 where
    stands : Stands shown path y
    unwanted : body ≡ [] → y.wanted ≡ None

  module _ (history : List Event) (e : Event) (legal : Legal settings (history ++ e ∷ [])) where
    abbrev y : Account
    y = account_of settings history (actor_of e)

    abbrev w : Account
    w = account_of settings (history ++ e ∷ []) (actor_of e)

    abbrev next : Account
    next =
        accounted y (heads history) (world_of settings history).stripes.made e.op e.reply (number_next (state_of settings history))
        (clock_at (state_of settings history).clock e.moment)

    w_is : w ≡ next
    w_is = ap (λ (q : Doings). q.account) (doings-next settings history e)

    answer : e.reply ≡ reply_of settings (at_moment (state_of settings history) e.moment) e.op
    answer = (last_is_next settings history e legal).answer

    told : IsOpen settings history → IsTold e.op e.reply
    told opened = record {
      prepares = λ z key name is. is_prepared settings good history e legal opened z key name is;
      changes = λ z container name guard new when is. (_, _, answer ∙ ap (reply_of settings (at_moment (state_of settings history) e.moment)) is);
    }

    wants : (tails : ℕ) (was : Bool) → IsCutAt zone settings.stripe body tails was e.op → (body ≡ [] → y.wanted ≡ None) → body ≡ [] → w.wanted ≡ None
    wants tails was cut none empty =
        ap (λ (a : Account). a.wanted) w_is
        ∙ none_wanted settings zone (at_moment (state_of settings history) e.moment) tails was body e.op e.reply (number_next (state_of settings history)) y.wanted empty cut answer (none empty)

    goes_next : (shown : Option Bucket) (path : Path) (tails : ℕ) (was : Bool) → IsOpen settings history → IsCutAt zone settings.stripe body tails was e.op
        → Goes shown path y → Goes shown (path_after path e.op e.reply) w
    goes_next shown path tails was opened cut g = record {
      stands = subst (Stands shown (path_after path e.op e.reply)) (sym w_is)
          (stands_next shown y (heads history) (world_of settings history).stripes.made (number_next (state_of settings history)) (clock_at (state_of settings history).clock e.moment) path e.op e.reply (told opened) g.stands);
      unwanted = wants tails was cut g.unwanted;
    }

    -- the first event
    goes_first : (tails : ℕ) (was : Bool) → IsRead e.op e.reply → IsCutAt zone settings.stripe body tails was e.op → y.wanted ≡ None → Goes (row_shown e.reply) (path_after begun e.op e.reply) w
    goes_first tails was r cut none = record {
      stands = subst (λ p. Stands (row_shown e.reply) p w) (sym r.leads) (inl (λ l is.
          read_shows y.looked r.zone r.name e.reply (at ((state_of settings history).root r.zone).buckets r.name) (number_next (state_of settings history)) l
          (answer ∙ ap (reply_of settings (at_moment (state_of settings history) e.moment)) r.is)
          (ap (λ o. looked_after y.looked o e.reply (number_next (state_of settings history))) (sym r.is) ∙ sym (ap (λ (a : Account). a.looked) w_is) ∙ is)));
      unwanted = wants tails was cut (λ empty. none);
    }

  module _ (actor : ActorId) where
    walk : (shown : Option Bucket) (path : Path) (history es : List Event) (count clock tails : ℕ) (was : Bool) → Legal settings (history ++ es) → AllByRecursion (λ e. actor_of e ≡ actor) es → AllByRecursion (λ e. keeps_open e.op ≡ true) es
        → AreCutFrom zone settings.stripe body tails was (own_from count clock es actor) → Standing settings base history (account_of settings history actor) → Goes shown path (account_of settings history actor)
        → Goes shown (path_from path (own_from count clock es actor)) (account_of settings (history ++ es) actor)
    walk shown path history [] count clock tails was legal by keeps cut standing g =
        subst (λ l. Goes shown path (account_of settings l actor)) (sym (append-nil history)) g
    walk shown path history (e ∷ es) count clock tails was legal by keeps cut standing g =
        let whole = append_assoc history (e ∷ []) es in
        let legal' = subst (Legal settings) (sym whole) legal in
        let front = legal_front settings (start settings) (history ++ e ∷ []) es legal' in
        let own = own_here actor count clock e es by.0 in
        let both = subst (AreCutFrom zone settings.stripe body tails was) own cut in
        let next = stands_one_more settings base actor history e front by.0 keeps.0 standing in
        let here = subst (λ a. Goes shown path (account_of settings history a)) (sym by.0) g in
        let goes = subst (λ a. Goes shown (path_after path e.op e.reply) (account_of settings (history ++ e ∷ []) a)) by.0 (goes_next history e front shown path tails was standing.opened both.0 here) in
        let later = walk shown (path_after path e.op e.reply) (history ++ e ∷ []) es (count + 1) (clock_at clock e.moment) (tails_after tails e.op e.reply) (is_changed_after was e.op e.reply) legal' by.1 keeps.1 both.1 next goes in
        subst (λ l. Goes shown (path_from path l) (account_of settings (history ++ e ∷ es) actor)) (sym own)
        (subst (λ l. Goes shown (path_from path (own_of count clock e ∷ own_from (count + 1) (clock_at clock e.moment) es actor)) (account_of settings l actor)) whole later)

    -- the first of these events showed a row, and no other counts unless a change of a head settled the end
    pub record ReadsOnce (events : List OwnEvent) (y : Account) : Type 0 where
      pub first : OwnEvent
      pub others : List OwnEvent
      pub begins : events ≡ first ∷ others
      pub quiet : Quiet (row_shown first.reply) y
      pub unwanted : body ≡ [] → y.wanted ≡ None

    from_first : (es : List Event) (count clock : ℕ) → NoneBy actor base → Legal settings (base ++ es) → AllByRecursion (λ e. actor_of e ≡ actor) es → AllByRecursion (λ e. keeps_open e.op ≡ true) es
        → AreCut zone settings.stripe body (own_from count clock es actor) → Standing settings base base (account_of settings base actor) → IsFinished (path_of (own_from count clock es actor))
        → ReadsOnce (own_from count clock es actor) (account_of settings (base ++ es) actor)
    from_first [] count clock unused legal by keeps cut standing ends = absurd ends
    from_first (e ∷ es) count clock unused legal by keeps cut standing ends =
        let whole = append_assoc base (e ∷ []) es in
        let legal' = subst (Legal settings) (sym whole) legal in
        let front = legal_front settings (start settings) (base ++ e ∷ []) es legal' in
        let rest = own_from (count + 1) (clock_at clock e.moment) es actor in
        let own = own_here actor count clock e es by.0 in
        let both = subst (AreCut zone settings.stripe body) own cut in
        let end = subst (λ l. IsFinished (path_of l)) own ends in
        let none : (account_of settings base (actor_of e)).wanted ≡ None = ap (λ a. (account_of settings base a).wanted) by.0 ∙ ap (λ (y : Account). y.wanted) (account-others settings [] base actor unused) in
        let next = stands_one_more settings base actor base e front by.0 keeps.0 standing in
        let goes = subst (λ a. Goes (row_shown e.reply) (path_after begun e.op e.reply) (account_of settings (base ++ e ∷ []) a)) by.0
        (goes_first base e front 0 false (reads_first e.op e.reply rest end) both.0 none) in
        let later = walk (row_shown e.reply) (path_after begun e.op e.reply) (base ++ e ∷ []) es (count + 1) (clock_at clock e.moment) (tails_after 0 e.op e.reply) (is_changed_after false e.op e.reply) legal' by.1 keeps.1 both.1 next goes in
        let at_end = subst (λ l. Goes (row_shown e.reply) (path_from (path_after begun e.op e.reply) rest) (account_of settings l actor)) whole later in
        subst (λ l. ReadsOnce l (account_of settings (base ++ e ∷ es) actor)) (sym own) (record {
          first = own_of count clock e;
          others = rest;
          begins = refl;
          quiet = quiet_at_end (row_shown e.reply) (path_from (path_after begun e.op e.reply) rest) (account_of settings (base ++ e ∷ es) actor) end at_end.stands;
          unwanted = at_end.unwanted;
        })

    pub reads_once : (first : List Event) → NoneBy actor base → Legal settings (base ++ first) → AllByRecursion (λ e. actor_of e ≡ actor) first → AllByRecursion (λ e. keeps_open e.op ≡ true) first
        → AreCut zone settings.stripe body (own_events (base ++ first) actor) → Standing settings base base (account_of settings base actor) → IsFinished (path_of (own_events (base ++ first) actor))
        → ReadsOnce (own_events (base ++ first) actor) (account_of settings (base ++ first) actor)
    reads_once first unused legal by keeps cut standing ends =
        let own_is : own_events (base ++ first) actor ≡ own_from (0 + length base) (clock_after 0 base) first actor =
        own-append 0 0 base first actor ∙ ap (λ (l : List OwnEvent). l ++ own_from (0 + length base) (clock_after 0 base) first actor) (same_after_others settings [] base actor unused).events in
        subst (λ l. ReadsOnce l (account_of settings (base ++ first) actor)) (sym own_is)
        (from_first first (0 + length base) (clock_after 0 base) unused legal by keeps (subst (AreCut zone settings.stripe body) own_is cut) standing (subst (λ l. IsFinished (path_of l)) own_is ends))
