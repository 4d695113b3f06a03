-- While a container rests, what own bucket reads of its name show is the row that it has.
use Rattle.std.proofs.Common.{◌≡◌, ℕ, List, [], ◌∷◌, ◌++◌, Option, Some, None, refl, sym, ◌∙◌, ap, subst}
use Rattle.object_words.specs.declared.bucket.Bucket.{Bucket}
use Rattle.object_words.specs.Names.{at}
use Rattle.realm_model.specs.Accounts.{Account, Looked, looked_after, accounted}
use Rattle.realm_model.specs.Settings.{SettingsView}
use Rattle.realm_model.specs.States.{State, at_moment, number_next}
use Rattle.realm_model.specs.Steps.{row_reply, reply_of}
use Rattle.realm_model.specs.Phases.{ActorId}
use Rattle.realm_model.specs.Worlds.{World, start, actor_of, happens}
use Rattle.realm_model.specs.Histories.{run, world_of, account_of, IsNext, LegalFrom, Legal}
use Rattle.realm_model.specs.Owns.{NoneBy}
use Rattle.realm_model.specs.declared.op.Op.{Op}
use Rattle.realm_model.specs.declared.op.Op.TheVariants.{BucketRead}
use Rattle.realm_model.specs.declared.event.Event.{Event}
use Rattle.realm_model.specs.declared.event.Reply.{Reply}
use Rattle.realm_model.specs.declared.event.Reply.TheVariants.{No, Row}
use Rattle.realm_model.proofs.ObjectLemmas.{put_actor_cases}
use Rattle.realm_model.proofs.Others.{account-others}
use Rattle.realm_model.proofs.Runs.{run-append, legal_back}
use Rattle.index_law.specs.Tables.{rows_of}
use Rattle.repair_law.specs.Settled.{NoneSwaps}
use Rattle.repair_law.proofs.Calm.{row_left}
use Rattle.settled_law.specs.Resting.{Rests}

pub same_some : {X : Type 0} {x y : X} → Some x ≡ Some y → x ≡ y
same_some is = cc

pub row_is : {one other : Bucket} → Row one ≡ Row other → one ≡ other
row_is same = cc

module _ (settings : SettingsView) (actor : ActorId) (zone : ℕ) (bucket : List ℕ) (row : Bucket) where
  -- a bucket read of the name showed the row
  abbrev ShowsRow : Option Looked → Type 0
  ShowsRow looked = (look : Looked) → looked ≡ Some look → look.zone ≡ zone → look.name ≡ bucket → look.row ≡ Some row

  read_shows : (st : State) (z : ℕ) (n : List ℕ) (reply : Reply) → at (st.root zone).buckets bucket ≡ Some row → reply ≡ row_reply (at (st.root z).buckets n) → z ≡ zone → n ≡ bucket → reply ≡ Row row
  read_shows st z n reply kept answer in_zone under = answer ∙ (λ i. row_reply (at (st.root (in_zone i)).buckets (under i))) ∙ ap row_reply kept

  shows_after : (st : State) (op : Op) (reply : Reply) (number : ℕ) (looked : Option Looked) → at (st.root zone).buckets bucket ≡ Some row → reply ≡ reply_of settings st op → ShowsRow looked → ShowsRow (looked_after looked op reply number)
  shows_after st (BucketRead z n) (Row r) number looked kept answer shows look is in_zone under =
      let one = same_some is in
      let read = row_is (read_shows st z n (Row r) kept answer (ap (λ (l : Looked). l.zone) one ∙ in_zone) (ap (λ (l : Looked). l.name) one ∙ under)) in
      sym (ap (λ (l : Looked). l.row) one) ∙ ap (λ x. Some x) read
  shows_after st (BucketRead z n) (No why) number looked kept answer shows look is in_zone under =
      let one = same_some is in
      let read = read_shows st z n (No why) kept answer (ap (λ (l : Looked). l.zone) one ∙ in_zone) (ap (λ (l : Looked). l.name) one ∙ under) in
      absurd cc
  shows_after st op reply number looked kept answer shows look is in_zone under = shows look is in_zone under

  shows_next : (w : World) (e : Event) → IsNext settings w e → rows_of w.state.root zone bucket ≡ Some row → ShowsRow (w.accounts actor).looked → ShowsRow ((happens settings w e).accounts actor).looked
  shows_next w e next kept shows =
      let me = actor_of e in
      let st = at_moment w.state e.moment in
      let number = number_next w.state in
      put_actor_cases (λ a (y : Account). a ≡ actor → ShowsRow y.looked) w.accounts me (accounted (w.accounts me) w.maps w.stripes.made e.op e.reply number st.clock)
      (λ mine. shows_after st e.op e.reply number (w.accounts me).looked kept next.answer (subst (λ a. ShowsRow (w.accounts a).looked) (sym mine) shows))
      (λ a mine. subst (λ b. ShowsRow (w.accounts b).looked) (sym mine) shows) actor refl

  shows_from : (es : List Event) (w : World) → LegalFrom settings w es → NoneSwaps zone bucket es → rows_of w.state.root zone bucket ≡ Some row → ShowsRow (w.accounts actor).looked → ShowsRow ((run settings w es).accounts actor).looked
  shows_from [] w legal none kept shows = shows
  shows_from (e ∷ es) w legal none kept shows =
      shows_from es (happens settings w e) legal.1 none.1 (row_left zone bucket row settings (at_moment w.state e.moment) e.op none.0 ∙ kept) (shows_next w e legal.0 kept shows)

  -- the last bucket read of an actor that made no event before the container rested
  pub last_look : (before during : List Event) → Legal settings (before ++ during) → Rests settings before zone bucket row → NoneSwaps zone bucket during → NoneBy actor before → ShowsRow (account_of settings (before ++ during) actor).looked
  last_look before during legal rests none unseen =
      let w = world_of settings before in
      let blank = ap (λ (y : Account). y.looked) (account-others settings [] before actor unseen) in
      subst (λ (v : World). ShowsRow (v.accounts actor).looked) (sym (run-append settings (start settings) before during))
      (shows_from during w (legal_back settings (start settings) before during legal) none rests.kept
      (λ look is. absurd (let never : None ≡ Some look = sym blank ∙ is in cc)))
