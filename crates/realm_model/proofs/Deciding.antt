-- The deciding event of an account stands in the history.
use Rattle.std.proofs.Common.{◌≡◌, ℕ, ◌⊎◌, inl, inr, true, false, cond, List, [], ◌∷◌, ◌++◌, Option, Some, refl, sym, ◌∙◌, ap, subst, arith, append_assoc}
use Rattle.std.proofs.lemmas.List.{append-nil}
use Rattle.object_words.specs.declared.why.Why.TheVariants.{Expired}
use Rattle.object_words.specs.declared.entry.Guard.{Guard}
use Rattle.object_words.specs.declared.head.NewHead.{NewHead}
use Rattle.object_words.specs.declared.head.Conditions.{Conditions}
use Rattle.object_words.specs.declared.head.SeenSlot.{SeenSlot}
use Rattle.object_words.specs.declared.head.SeenSlot.TheVariants.{Live}
use Rattle.object_words.specs.Heads.{is_live}
use Rattle.object_words.proofs.KeyLemmas.{number_itself}
use Rattle.object_words.proofs.NameLemmas.{name_itself, at-with_name}
use Rattle.realm_model.specs.Settings.{SettingsView}
use Rattle.realm_model.specs.States.{number_next, clock_at}
use Rattle.realm_model.specs.Phases.{ActorId}
use Rattle.realm_model.specs.Maps.{Maps, Made, mapped, mapped_by, no_maps, slot_at, with_slot, heads, whole_slot}
use Rattle.realm_model.specs.Accounts.{Account, Decided, slot_now, decided_at, tried_at, decided_after, source_after, target_after, accounted}
use Rattle.realm_model.specs.Worlds.{start, actor_of}
use Rattle.realm_model.specs.Histories.{world_of, account_of}
use Rattle.realm_model.specs.Decisions.{Stands}
use Rattle.realm_model.specs.declared.op.Op.{Op}
use Rattle.realm_model.specs.declared.op.Op.TheVariants.{HeadRead, HeadWrite}
use Rattle.realm_model.specs.declared.event.Reply.{Reply}
use Rattle.realm_model.specs.declared.event.Reply.TheVariants.{No, Head as head_reply, Changed}
use Rattle.realm_model.specs.declared.event.Event.{Event}
use Rattle.realm_model.proofs.Runs.{run-append, count_from}
use Rattle.realm_model.proofs.ObjectLemmas.{put_actor_cases}
use Rattle.realm_model.proofs.Agreeing.{maps-run}

-- an event that decides: its number and clock, and the slots of the maps before it and after it
record Decides (maps : Maps) (made : Made) (op : Op) (reply : Reply) (event_number event_clock : ℕ) (d : Decided) : Type 0 where
  number : d.number ≡ event_number
  clock : d.clock ≡ event_clock
  before : d.before ≡ slot_now maps made d.zone d.container d.name
  after : d.after ≡ slot_now (mapped maps op reply) made d.zone d.container d.name

slot-with_slot : (maps : Maps) (zone container : ℕ) (name : List ℕ) (slot : SeenSlot) → slot_at (with_slot maps zone container name slot zone container) name ≡ slot
slot-with_slot maps zone container name slot =
    rw (number_itself zone, number_itself container, at-with_name (maps zone container) name slot name, name_itself name) refl

module _ (y : Account) (maps : Maps) (made : Made) (number clock : ℕ) (d : Decided) where
  -- an event that leaves the maps as they are
  unchanged : (op : Op) (reply : Reply) (zone container : ℕ) (name : List ℕ) → let slot = slot_now maps made zone container name in mapped maps op reply ≡ maps → decided_at y number clock zone container name slot slot ≡ d → Decides maps made op reply number clock d
  unchanged op reply zone container name same is =
      let slot = slot_now maps made zone container name in
      let here : Decides maps made op reply number clock (decided_at y number clock zone container name slot slot) =
      record {
        number = refl;
        clock = refl;
        before = refl;
        after = ap (λ m. slot_now m made zone container name) (sym same);
      } in
      subst (λ x. Decides maps made op reply number clock x) is here

  -- a change of a head, where it decides
  tried_cases : (zone container : ℕ) (name : List ℕ) (guard : Guard) (new : NewHead) (when : Conditions) (reply : Reply) (old : Option Decided) → tried_at y maps made zone container name new reply number clock old ≡ Some d → (old ≡ Some d) ⊎ Decides maps made (HeadWrite zone container name guard new when) reply number clock d
  tried_cases zone container name guard new when (Changed change) old is =
      let op = HeadWrite zone container name guard new when in
      let slot = slot_now maps made zone container name in
      let after = whole_slot made zone (Live new change.stamp) in
      let here : Decides maps made op (Changed change) number clock (decided_at y number clock zone container name slot after) =
      record {
        number = refl;
        clock = refl;
        before = refl;
        after = ap (whole_slot made zone) (sym (slot-with_slot maps zone container name (Live new change.stamp)));
      } in
      let same : decided_at y number clock zone container name slot after ≡ d = cc in
      inr (subst (λ x. Decides maps made op (Changed change) number clock x) same here)
  tried_cases zone container name guard new when (No (Expired deadline late)) old is = inl is
  tried_cases zone container name guard new when (No why) old is =
      inr (unchanged (HeadWrite zone container name guard new when) (No why) zone container name refl (let e = is in cc))
  tried_cases zone container name guard new when reply old is = inl is

  decided_cases : (op : Op) (reply : Reply) → decided_after y maps made op reply number clock ≡ Some d → (y.decided ≡ Some d) ⊎ Decides maps made op reply number clock d
  decided_cases (HeadRead zone container name) (head_reply head shown_at) is =
      inr (unchanged (HeadRead zone container name) (head_reply head shown_at) zone container name refl (let e = is in cc))
  decided_cases (HeadWrite zone container name guard new when) reply is = tried_cases zone container name guard new when reply y.decided is
  decided_cases op reply is = inl is

  target_cases : (op : Op) (reply : Reply) → target_after y maps made op reply number clock ≡ Some d → (y.target ≡ Some d) ⊎ Decides maps made op reply number clock d
  target_cases (HeadWrite zone container name guard new when) reply is = tried_cases zone container name guard new when reply y.target is
  target_cases op reply is = inl is

  source_cases : (op : Op) (reply : Reply) → source_after y maps made op reply number clock ≡ Some d → (y.source ≡ Some d) ⊎ Decides maps made op reply number clock d
  source_cases (HeadRead zone container name) (head_reply head shown_at) is =
      let slot = slot_now maps made zone container name in
      elim (is_live head.slot) as (λ live. cond live (Some (decided_at y number clock zone container name slot slot)) y.source ≡ Some d → (y.source ≡ Some d) ⊎ Decides maps made (HeadRead zone container name) (head_reply head shown_at) number clock d) [
        | true ↦ λ e. inr (unchanged (HeadRead zone container name) (head_reply head shown_at) zone container name refl (cc))
        | false ↦ λ e. inl e
      ] is
  source_cases op reply is = inl is

-- ---- in a history

mapped_by-append : (maps : Maps) (xs ys : List Event) → mapped_by maps (xs ++ ys) ≡ mapped_by (mapped_by maps xs) ys
mapped_by-append maps [] ys = refl
mapped_by-append maps (x ∷ xs) ys = mapped_by-append (mapped maps x.op x.reply) xs ys

module _ (settings : SettingsView) where
  stands_longer : (history more : List Event) (actor : ActorId) (d : Decided) → Stands settings history actor d → Stands settings (history ++ more) actor d
  stands_longer history more actor d s = record {
    earlier = s.earlier;
    event = s.event;
    later = s.later ++ more;
    stands = ap (λ xs. xs ++ more) s.stands ∙ append_assoc (s.earlier ++ s.event ∷ []) s.later more;
    own = s.own;
    number = s.number;
    clock = s.clock;
    before = s.before;
    after = s.after;
  }

  stands_now : (history : List Event) (e : Event) (d : Decided) → let w = world_of settings history in Decides w.maps w.stripes.made e.op e.reply (number_next w.state) (clock_at w.state.clock e.moment) d → Stands settings (history ++ e ∷ []) (actor_of e) d
  stands_now history e d is =
      let w = world_of settings history in
      let maps = maps-run settings (start settings) history in
      let count = count_from settings (start settings) history in
      let number = is.number in
      let made = w.stripes.made in
      let longer : mapped w.maps e.op e.reply ≡ heads (history ++ e ∷ []) =
      ap (λ m. mapped m e.op e.reply) maps ∙ sym (mapped_by-append no_maps history (e ∷ [])) in
      record {
        earlier = history;
        event = e;
        later = [];
        stands = sym (append-nil (history ++ e ∷ []));
        own = refl;
        number = omega (arith, number, count);
        clock = is.clock;
        before = is.before ∙ ap (λ m. slot_now m made d.zone d.container d.name) maps;
        after = is.after ∙ ap (λ m. slot_now m made d.zone d.container d.name) longer;
      }

  -- what decides in an account stands
  record OneStands (history : List Event) (actor : ActorId) (y : Account) : Type 0 where
    decided : (d : Decided) → y.decided ≡ Some d → Stands settings history actor d
    source : (d : Decided) → y.source ≡ Some d → Stands settings history actor d
    target : (d : Decided) → y.target ≡ Some d → Stands settings history actor d

  AllStand : List Event → Type 0
  AllStand history = (actor : ActorId) → OneStands history actor (account_of settings history actor)

  all_stand_next : (history : List Event) (e : Event) → AllStand history → AllStand (history ++ e ∷ [])
  unfolding AllStand
  all_stand_next history e stand actor =
      let w = world_of settings history in
      let one = e ∷ [] in
      let maker = actor_of e in
      let y = w.accounts maker in
      let number = number_next w.state in
      let clock = clock_at w.state.clock e.moment in
      let later : (a : ActorId) (d : Decided) → Stands settings history a d → Stands settings (history ++ one) a d =
      λ a d is. stands_longer history one a d is in
      let older : (a : ActorId) → OneStands (history ++ one) a (w.accounts a) =
      λ a. record {
        decided = λ d is. later a d ((stand a).decided d is);
        source = λ d is. later a d ((stand a).source d is);
        target = λ d is. later a d ((stand a).target d is);
      } in
      let newer : OneStands (history ++ one) maker (accounted y w.maps w.stripes.made e.op e.reply number clock) =
      record {
        decided = λ d is. elim (decided_cases y w.maps w.stripes.made number clock d e.op e.reply is) [
          | inl before ↦ later maker d ((stand maker).decided d before)
          | inr now ↦ stands_now history e d now
        ];
        source = λ d is. elim (source_cases y w.maps w.stripes.made number clock d e.op e.reply is) [
          | inl before ↦ later maker d ((stand maker).source d before)
          | inr now ↦ stands_now history e d now
        ];
        target = λ d is. elim (target_cases y w.maps w.stripes.made number clock d e.op e.reply is) [
          | inl before ↦ later maker d ((stand maker).target d before)
          | inr now ↦ stands_now history e d now
        ];
      } in
      let all = put_actor_cases (OneStands (history ++ one)) w.accounts maker _ newer older actor in
      subst (OneStands (history ++ one) actor) (sym (ap (λ x. x.accounts actor) (run-append settings (start settings) history one))) all

  all_stand_from : (history es : List Event) → AllStand history → AllStand (history ++ es)
  all_stand_from history [] stand = subst AllStand (sym (append-nil history)) stand
  all_stand_from history (e ∷ es) stand =
      subst AllStand (append_assoc history (e ∷ []) es) (all_stand_from (history ++ e ∷ []) es (all_stand_next history e stand))

  all_stand : (history : List Event) → AllStand history
  unfolding AllStand
  all_stand history =
      all_stand_from [] history (λ actor. record { decided = λ d is. cc; source = λ d is. cc; target = λ d is. cc })

  pub decided_stands : (history : List Event) (actor : ActorId) (d : Decided) → (account_of settings history actor).decided ≡ Some d → Stands settings history actor d
  unfolding AllStand
  decided_stands history actor = (all_stand history actor).decided

  pub source_stands : (history : List Event) (actor : ActorId) (d : Decided) → (account_of settings history actor).source ≡ Some d → Stands settings history actor d
  unfolding AllStand
  source_stands history actor = (all_stand history actor).source

  pub target_stands : (history : List Event) (actor : ActorId) (d : Decided) → (account_of settings history actor).target ≡ Some d → Stands settings history actor d
  unfolding AllStand
  target_stands history actor = (all_stand history actor).target
