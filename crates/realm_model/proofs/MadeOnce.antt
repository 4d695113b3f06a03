-- A tail is made once.
use Rattle.std.proofs.Common.{◌≡◌, ℕ, ◌+◌, ◌==◌, ◌≤◌, inl, inr, true, false, cond, List, [], ◌∷◌, ◌++◌, length, length-append, Option, Some, None, refl, sym, ◌∙◌, ap, subst, arith}
use Rattle.std.specs.Prelude.{IfSome, unwrap_or}
use Rattle.rgw_types.specs.declared.pool_key.Key.{Key}
use Rattle.rgw_types.specs.Stripes.{tails_of}
use Rattle.object_words.specs.Keys.{is_key, tail_key, put, put_key}
use Rattle.object_words.specs.Refusals.{unless_refused}
use Rattle.object_words.specs.Tails.{Tail, no_tail, tail_refusal}
use Rattle.object_words.proofs.KeyLemmas.{same_key, key_itself, number_itself}
use Rattle.realm_model.specs.Settings.{SettingsView}
use Rattle.realm_model.specs.States.{State, at_moment, put_in, touched}
use Rattle.realm_model.specs.Steps.{reply_or, reply_of, touch_of}
use Rattle.realm_model.specs.Ops.{zone_of}
use Rattle.realm_model.specs.Phases.{ActorId, Bundle, unused, opened, spent, Phase}
use Rattle.realm_model.specs.Needs.{is_between, is_own_write, is_next_part, holder_of}
use Rattle.realm_model.specs.Allowed.{meets_need, allowed}
use Rattle.realm_model.specs.Learnt.{put_bundle, with_part, own_after, learnt}
use Rattle.realm_model.specs.Maps.{Made}
use Rattle.realm_model.specs.Worlds.{World, start, put_actor, actor_of, made_after, happens}
use Rattle.realm_model.specs.Histories.{run, world_of, state_of, IsNext, LegalFrom, Legal}
use Rattle.realm_model.specs.declared.op.Op.{Op}
use Rattle.realm_model.specs.declared.op.Op.TheVariants.{HeadWrite, TailMake}
use Rattle.realm_model.specs.declared.event.Reply.{Reply}
use Rattle.realm_model.specs.declared.event.Reply.TheVariants.{Done, Changed}
use Rattle.realm_model.specs.declared.event.Event.{Event}
use Rattle.realm_model.proofs.Computing.{left_of, right_of}
use Rattle.realm_model.proofs.Runs.{touched-count, last_is_next, legal_front}
use Rattle.realm_model.proofs.ObjectLemmas.{number_same, put_bundle_cases, put_actor_cases, put_actor_here}
use Rattle.realm_model.proofs.TouchLemmas.{put_in_same}
use Rattle.realm_model.proofs.Makers.{IsBy, KnowsOwn, fresh_knows, by_before, knows_more, knows_learnt, own_write}

-- ---- parts that a bundle has used

-- the actor made this part of the bundle
Uses : Bundle → ℕ → Type 0
Uses unused part = ⊥
Uses (opened sizes) part = part ≤ length sizes
Uses spent part = Unit {0}

more_used : (b : Bundle) (size part : ℕ) → Uses b part → Uses (with_part b size) part
unfolding Uses
more_used unused size part uses = absurd uses
more_used (opened sizes) size part uses = let more = length-append sizes (size ∷ []) in omega (arith, more, uses)
more_used spent size part uses = tt

now_used : (b : Bundle) (size part : ℕ) → is_next_part b part ≡ true → Uses (with_part b size) part
unfolding Uses
now_used unused size part next = let is = number_same part 1 next in omega (arith, is)
now_used (opened sizes) size part next =
    let is = number_same part (length sizes + 1) next in
    let more = length-append sizes (size ∷ []) in
    omega (arith, is, more)
now_used spent size part next = cc

-- a part that is the next one was not made
not_used : (b : Bundle) (part : ℕ) → is_next_part b part ≡ true → Uses b part → ⊥
unfolding Uses
not_used unused part next uses = uses
not_used (opened sizes) part next uses = let is = number_same part (length sizes + 1) next in omega (arith, is, uses)
not_used spent part next uses = cc

used_learnt : (own : ℕ → ℕ → ℕ → Bundle) (op : Op) (reply : Reply) (zone write part : ℕ) → Uses (own zone write write) part → Uses (own_after own op reply zone write write) part
unfolding Uses
used_learnt own (TailMake zone write part bytes) Done z w p uses =
    put_bundle_cases (λ z w h b. Uses (own z w h) p → Uses b p) own zone write write (with_part (own zone write write) (length bytes))
    (more_used (own zone write write) (length bytes) p) (λ z w h u. u) z w w uses
used_learnt own (HeadWrite zone container name guard new when) (Changed change) z w p uses =
    let m = new.manifest in
    elim (tails_of m == 0) as (λ none. Uses (cond none own (put_bundle own zone m.write (holder_of m) spent) z w w) p) [
      | true ↦ uses
      | false ↦ put_bundle_cases (λ z w h b. Uses (own z w h) p → Uses b p) own zone m.write (holder_of m) spent (λ u. tt) (λ z w h u. u) z w w uses
    ]
used_learnt own op reply z w p uses = uses

-- ---- what was made is used

Used : (ActorId → Phase) → (ℕ → ActorId) → Made → Type 0
Used phases by made = (zone write part : ℕ) → IfSome (made zone write part) (λ bytes. Uses ((phases (by write)).stripes.own zone write write) part)

used_is_by : (by : ℕ → ActorId) (count : ℕ) (actor : ActorId) (p : Phase) (zone write part : ℕ) → KnowsOwn by count actor p → Uses (p.stripes.own zone write write) part → IsBy by count actor write
unfolding Uses
used_is_by by count actor p zone write part k uses =
    elim (k.own zone write write) [
      | inl none ↦ absurd (subst (λ b. Uses b part) none uses)
      | inr is ↦ is
    ]

put_bundle_here : {A : Type 0} (f : ℕ → ℕ → ℕ → A) (z w h : ℕ) (x : A) → put_bundle f z w h x z w h ≡ x
put_bundle_here f z w h x = rw (number_itself z, number_itself w, number_itself h) refl

module _ (settings : SettingsView) (phases : ActorId → Phase) (by : ℕ → ActorId) (count clock : ℕ) (made : Made) (actor : ActorId) (knows : (a : ActorId) → KnowsOwn by count a (phases a)) (used : Used phases by made) where
  phases_after : Op → Reply → ActorId → Phase
  phases_after op reply = put_actor phases actor (learnt (phases actor) op reply (count + 1) clock)

  by_after : ℕ → ActorId
  by_after = put by (count + 1) actor

  kept_used : (op : Op) (reply : Reply) (zone write part : ℕ) → Uses ((phases (by write)).stripes.own zone write write) part → Uses ((phases_after op reply (by_after write)).stripes.own zone write write) part
  unfolding phases_after by_after
  kept_used op reply zone write part uses =
      let is = used_is_by by count (by write) (phases (by write)) zone write part (knows (by write)) uses in
      let stays =
      put_actor_cases (λ a q. Uses ((phases a).stripes.own zone write write) part → Uses (q.stripes.own zone write write) part)
      phases actor (learnt (phases actor) op reply (count + 1) clock)
      (used_learnt (phases actor).stripes.own op reply zone write part) (λ a u. u) (by write) uses in
      subst (λ a. Uses ((phases_after op reply a).stripes.own zone write write) part) (sym (by_before by count write actor is.0)) stays

  still_used : (op : Op) (reply : Reply) (zone write part : ℕ) (bytes : Option (List ℕ)) → IfSome bytes (λ b. Uses ((phases (by write)).stripes.own zone write write) part) → IfSome bytes (λ b. Uses ((phases_after op reply (by_after write)).stripes.own zone write write) part)
  still_used op reply zone write part None uses = tt
  still_used op reply zone write part (Some b) uses = kept_used op reply zone write part uses

  made_used : (zone write part : ℕ) (bytes : List ℕ) → meets_need settings (phases actor) (TailMake zone write part bytes) ≡ true → Uses ((phases_after (TailMake zone write part bytes) Done (by_after write)).stripes.own zone write write) part
  unfolding phases_after by_after
  made_used zone write part bytes may =
      let p = phases actor in
      let op = TailMake zone write part bytes in
      let own = own_write by count actor p zone write (knows actor) (left_of (is_own_write p zone write) _ may) in
      let next = left_of (is_next_part (p.stripes.own zone write write) part) _ (right_of (is_own_write p zone write) _ may) in
      let b = with_part (p.stripes.own zone write write) (length bytes) in
      let here : (phases_after op Done actor).stripes.own zone write write ≡ b =
      ap (λ q. q.stripes.own zone write write) (put_actor_here phases actor (learnt p op Done (count + 1) clock))
      ∙ put_bundle_here p.stripes.own zone write write b in
      let now = subst (λ x. Uses x part) (sym here) (now_used (p.stripes.own zone write write) (length bytes) part next) in
      subst (λ a. Uses ((phases_after op Done a).stripes.own zone write write) part) (sym (by_before by count write actor own.0 ∙ own.1)) now

  used_next : (op : Op) (reply : Reply) → meets_need settings (phases actor) op ≡ true → Used (phases_after op reply) by_after (made_after made op reply)
  unfolding Used
  used_next (TailMake zone write part bytes) Done may z w p =
      let op = TailMake zone write part bytes in
      put_bundle_cases (λ z w p m. IfSome m (λ b. Uses ((phases_after op Done (by_after w)).stripes.own z w w) p)) made zone write part (Some bytes)
      (made_used zone write part bytes may) (λ z w p. still_used op Done z w p (made z w p) (used z w p)) z w p
  used_next op reply may z w p = still_used op reply z w p (made z w p) (used z w p)

-- ---- tails hold what was made

TailsAgree : (ℕ → Key → Tail) → Made → Type 0
TailsAgree tails made = (zone write part : ℕ) → (tails zone (tail_key write part)).bytes ≡ unwrap_or (made zone write part) []

write_is : (w v p q : ℕ) → tail_key w p ≡ tail_key v q → w ≡ v
write_is w v p q same = cc

part_is : (w v p q : ℕ) → tail_key w p ≡ tail_key v q → p ≡ q
part_is w v p q same = cc

made_at : (tails : Key → Tail) (made : ℕ → ℕ → Option (List ℕ)) (write part : ℕ) (bytes : List ℕ) → ((w p : ℕ) → (tails (tail_key w p)).bytes ≡ unwrap_or (made w p) []) → (w p : ℕ) → (put_key tails (tail_key write part) (record { bytes = bytes }) (tail_key w p)).bytes ≡ unwrap_or (put made write (put (made write) part (Some bytes)) w p) []
made_at tails made write part bytes agree w p =
    elim (is_key (tail_key write part) (tail_key w p)) as (λ b. is_key (tail_key write part) (tail_key w p) ≡ b → (cond b (record { bytes = bytes }) (tails (tail_key w p))).bytes ≡ unwrap_or (put made write (put (made write) part (Some bytes)) w p) []) [
      | true ↦ λ same.
          let key = same_key (tail_key write part) (tail_key w p) same in
          let here : bytes ≡ unwrap_or (put made write (put (made write) part (Some bytes)) write part) [] =
          rw (number_itself write, number_itself part) refl in
          let at_part = subst (λ q. bytes ≡ unwrap_or (put made write (put (made write) part (Some bytes)) write q) []) (part_is write w part p key) here in
          subst (λ v. bytes ≡ unwrap_or (put made write (put (made write) part (Some bytes)) v p) []) (write_is write w part p key) at_part
      | false ↦ λ apart.
          elim (write == w) as (λ b. (write == w) ≡ b → (tails (tail_key w p)).bytes ≡ unwrap_or (cond b (put (made write) part (Some bytes)) (made w) p) []) [
            | true ↦ λ one.
                let write_same = number_same write w one in
                elim (part == p) as (λ b. (part == p) ≡ b → (tails (tail_key w p)).bytes ≡ unwrap_or (cond b (Some bytes) (made write p)) []) [
                  | true ↦ λ two.
                      let part_same = number_same part p two in
                      let key : tail_key write part ≡ tail_key w p = λ i. tail_key (write_same i) (part_same i) in
                      let itself = subst (λ k. is_key (tail_key write part) k ≡ true) key (key_itself (tail_key write part)) in
                      cc (itself, apart)
                  | false ↦ λ other. subst (λ v. (tails (tail_key v p)).bytes ≡ unwrap_or (made write p) []) write_same (agree write p)
                ] refl
            | false ↦ λ other. agree w p
          ] refl
    ] refl

tails_next : (settings : SettingsView) (st : State) (made : Made) (op : Op) (reply : Reply) → reply ≡ reply_of settings st op → TailsAgree st.tails made → TailsAgree (touched settings st (touch_of settings st op)).tails (made_after made op reply)
unfolding TailsAgree
tails_next settings st made (TailMake zone write part bytes) reply is agree z w p =
    let key = tail_key write part in
    let tail = st.tails zone key in
    let op = TailMake zone write part bytes in
    elim (tail_refusal bytes (st.free zone) settings.frame) as (λ r. reply ≡ reply_or Done r → (put_in st.tails zone key (unless_refused r tail (record { bytes = bytes })) z (tail_key w p)).bytes ≡ unwrap_or (made_after made op reply z w p) []) [
      | None ↦ λ told.
          subst (λ said. (put_in st.tails zone key (record { bytes = bytes }) z (tail_key w p)).bytes ≡ unwrap_or (made_after made op said z w p) []) (sym told)
          (elim (zone == z) as (λ b. (cond b (put_key (st.tails zone) key (record { bytes = bytes })) (st.tails z) (tail_key w p)).bytes ≡ unwrap_or (cond b (put (made zone) write (put (made zone write) part (Some bytes))) (made z) w p) []) [
            | true ↦ made_at (st.tails zone) (made zone) write part bytes (agree zone) w p
            | false ↦ agree z w p
          ])
      | Some why ↦ λ told.
          subst (λ said. (put_in st.tails zone key tail z (tail_key w p)).bytes ≡ unwrap_or (made_after made op said z w p) []) (sym told)
          (subst (λ objects. (objects z (tail_key w p)).bytes ≡ unwrap_or (made z w p) []) (sym (put_in_same st.tails zone key)) (agree z w p))
    ] is
tails_next settings st made op reply is agree z w p = agree z w p

-- ---- after every history

record MakesOnce (w : World) : Type 0 where
  knows : (a : ActorId) → KnowsOwn w.stripes.by w.state.count a (w.phases a)
  used : Used w.phases w.stripes.by w.stripes.made
  tails : TailsAgree w.state.tails w.stripes.made

makes_once_next : (settings : SettingsView) (w : World) (e : Event) → IsNext settings w e → MakesOnce w → MakesOnce (happens settings w e)
unfolding phases_after by_after
makes_once_next settings w e next m =
    let st = at_moment w.state e.moment in
    let actor = actor_of e in
    let count = touched-count settings st (touch_of settings st e.op) in
    let need = right_of (is_between 1 settings.zones (zone_of e.op)) (meets_need settings (w.phases actor) e.op) next.may in
    let own = knows_learnt settings w.stripes.by w.state.count st.clock actor (w.phases actor) e.op e.reply (m.knows actor) next.may in
    let others = λ (a : ActorId). knows_more w.stripes.by w.state.count a actor (w.phases a) (m.knows a) in
    let knows = put_actor_cases (λ a p. KnowsOwn (put w.stripes.by (w.state.count + 1) actor) (w.state.count + 1) a p) w.phases actor _ own others in
    record {
      knows = λ a. subst (λ n. KnowsOwn (put w.stripes.by (w.state.count + 1) actor) (n + 1) a ((happens settings w e).phases a)) (sym count) (knows a);
      used = used_next settings w.phases w.stripes.by w.state.count st.clock w.stripes.made actor m.knows m.used e.op e.reply need;
      tails = tails_next settings st w.stripes.made e.op e.reply next.answer m.tails;
    }

makes_once_from : (settings : SettingsView) (w : World) (es : List Event) → LegalFrom settings w es → MakesOnce w → MakesOnce (run settings w es)
makes_once_from settings w [] legal m = m
makes_once_from settings w (e ∷ es) legal m =
    makes_once_from settings (happens settings w e) es legal.1 (makes_once_next settings w e legal.0 m)

makes_once : (settings : SettingsView) (history : List Event) → Legal settings history → MakesOnce (world_of settings history)
unfolding Used TailsAgree
makes_once settings history legal =
    makes_once_from settings (start settings) history legal
    (record { knows = λ a. fresh_knows _ 0 a; used = λ zone write part. tt; tails = λ zone write part. refl })

pub tails_agree : (settings : SettingsView) (history : List Event) → Legal settings history → (zone write part : ℕ) → ((state_of settings history).tails zone (tail_key write part)).bytes ≡ unwrap_or ((world_of settings history).stripes.made zone write part) []
unfolding TailsAgree
tails_agree settings history legal = (makes_once settings history legal).tails

unmade : (made : Option (List ℕ)) → (IfSome made (λ bytes. ⊥)) → made ≡ None
unmade None never = refl
unmade (Some bytes) never = absurd never

-- a tail that may be made was never made
never_made : (settings : SettingsView) (w : World) (e : Event) (zone write part : ℕ) (bytes : List ℕ) → MakesOnce w → e.op ≡ TailMake zone write part bytes → IsNext settings w e → w.stripes.made zone write part ≡ None
unfolding Used
never_made settings w e zone write part bytes m op next =
    let actor = actor_of e in
    let p = w.phases actor in
    let may = subst (λ o. allowed settings p o ≡ true) op next.may in
    let need = right_of (is_between 1 settings.zones zone) (meets_need settings p (TailMake zone write part bytes)) may in
    let own = own_write w.stripes.by w.state.count actor p zone write (m.knows actor) (left_of (is_own_write p zone write) _ need) in
    let is_next = left_of (is_next_part (p.stripes.own zone write write) part) _ (right_of (is_own_write p zone write) _ need) in
    let used = subst (λ a. IfSome (w.stripes.made zone write part) (λ b. Uses ((w.phases a).stripes.own zone write write) part)) own.1 (m.used zone write part) in
    unmade (w.stripes.made zone write part)
    (elim (w.stripes.made zone write part) as (λ o. IfSome o (λ b. Uses (p.stripes.own zone write write) part) → IfSome o (λ b. ⊥)) [
      | None ↦ λ u. tt
      | Some b ↦ λ u. not_used (p.stripes.own zone write write) part is_next u
    ] used)

pub made_once : (settings : SettingsView) (history : List Event) (e : Event) (zone write part : ℕ) (bytes : List ℕ) → Legal settings (history ++ e ∷ []) → e.op ≡ TailMake zone write part bytes → (state_of settings history).tails zone (tail_key write part) ≡ no_tail
made_once settings history e zone write part bytes legal op =
    let front = legal_front settings (start settings) history (e ∷ []) legal in
    let m = makes_once settings history front in
    let none = never_made settings (world_of settings history) e zone write part bytes m op (last_is_next settings history e legal) in
    let is = tails_agree settings history front zone write part ∙ ap (λ o. unwrap_or o []) none in
    λ i. record { bytes = is i }
