-- The end of a PUT's update is that of the PUT.
use Rattle.std.proofs.Common.{◌≡◌, ℕ, inl, inr, ⊎_elim, Bool, false, List, [], ◌∷◌, ◌++◌, Option, Some, None, sym, ◌∙◌, ap, subst, arith}
use Rattle.std.specs.List.{AllByRecursion}
use Rattle.std.proofs.lemmas.List.{append-nil}
use Rattle.rgw_types.specs.declared.stamp.Stamp.{Stamp}
use Rattle.object_words.specs.declared.head.Conditions.{Conditions}
use Rattle.object_words.specs.declared.head.NewHead.{NewHead}
use Rattle.object_words.specs.declared.head.SeenSlot.TheVariants.{Live}
use Rattle.object_words.specs.declared.why.Why.TheVariants.{Held, Moved}
use Rattle.object_words.specs.Conditions.{fails}
use Rattle.object_words.specs.Heads.{etag_of}
use Rattle.realm_model.specs.Settings.{SettingsView}
use Rattle.realm_model.specs.Maps.{whole_slot}
use Rattle.realm_model.specs.Ops.{zone_of}
use Rattle.realm_model.specs.Owns.{OwnEvent}
use Rattle.realm_model.specs.declared.op.Op.{Op}
use Rattle.realm_model.specs.declared.op.Op.TheVariants.{BucketRead, Prepare, Announce, HeadWrite, Cancel, Complete, TailMake}
use Rattle.realm_model.specs.declared.event.Reply.{Reply}
use Rattle.realm_model.specs.declared.event.Reply.TheVariants.{No, Prepared, Changed}
use Rattle.swift_auth.specs.declared.policy.Deed.TheVariants.{ChangeThing}
use Rattle.swift_auth.specs.Policies.{found_under, verdict_of}
use Rattle.task_words.specs.declared.reply.MapReply.{MapReply}
use Rattle.task_words.specs.declared.reply.MapReply.TheVariants.{Stored, Refused}
use Rattle.task_words.specs.declared.reply.Refusal.TheVariants.{NotMet}
use Rattle.task_words.specs.Answers.{Answer, put, put_answer}
use Rattle.task_words.specs.Cuts.{first_bytes, tails_after, is_changed_after, tails_from, is_changed_from, IsCutAt, AreCutFrom, AreCut}
use Rattle.task_words.specs.Outcomes.{ByMap, IsUnchanged, IsPutOutcome}
use Rattle.index_update.specs.declared.head_change.HeadChange.TheVariants.{Write}
use Rattle.index_update.specs.declared.stage.Target.{Target}
use Rattle.index_update.specs.declared.stage.Updated.{Updated}
use Rattle.index_update.specs.declared.stage.Updated.TheVariants as updated
use Rattle.index_update.specs.declared.update.IndexUpdate.{IndexUpdate}
use Rattle.index_update.specs.Changes.{IsOfUpdate}
use Rattle.index_update.specs.Paths.{Path, turned, ready, prepared, announced, changed, refused, adrift, finished, astray, path_after, path_from, IsOrdered, IsFinished}
use Rattle.index_update.specs.Fits.{Asked, Start, Known, ByHead, Granted, EndsSo}
use Rattle.index_update.specs.Updates.{asked_of, IsEnd}
use Rattle.task_put.specs.declared.stage.PutRequest.{PutRequest}
use Rattle.task_put.specs.declared.stage.Stage.TheVariants.{Ended}
use Rattle.task_put.specs.Changes.{AreTailsOf}
use Rattle.task_put.specs.Cuts.{MayFollow, CutBody}
use Rattle.task_put.specs.Orders.{path_of, IsOrdered as IsPutOrdered, IsFinished as IsPutFinished}
use Rattle.task_put.specs.Stages.{outcome_of}
use Rattle.task_put.specs.Fits.{target_of, body_of, Begins, FitsAt, IsInOrder}
use Rattle.task_put.proofs.Answering.{change_stored, change_refused}
use Rattle.task_put.proofs.Looking.{by_three}
use Rattle.index_update.proofs.Ordering.{finished_ordered as update_finished_ordered}
use Rattle.task_put.proofs.Ordering.{stays_astray, ordered_behind, finished_behind}

-- ---- how its events cut the body

-- the head was not changed yet
abbrev IsUnmade : Path → Bool → Type 0
IsUnmade changed was = Unit {0}
IsUnmade adrift was = Unit {0}
IsUnmade finished was = Unit {0}
IsUnmade astray was = Unit {0}
IsUnmade path was = was ≡ false

unmade_on : (path : Path) (op : Op) (reply : Reply) (was : Bool) → IsUnmade path was → IsUnmade (path_after path op reply) (is_changed_after was op reply)
unmade_on turned (BucketRead zone name) reply was is = is
unmade_on ready (Prepare zone key name) (Prepared guard) was is = is
unmade_on ready (Prepare zone key name) (No (Held id)) was is = tt
unmade_on ready (Prepare zone key name) reply was is = is
unmade_on prepared (Announce zone container instance shard bucket) reply was is = is
unmade_on announced (HeadWrite zone container name guard new when) (Changed made) was is = tt
unmade_on announced (HeadWrite zone container name guard new when) reply was is = is
unmade_on refused (Cancel zone key name tag) reply was is = is
unmade_on changed (Complete zone key name tag version row) (No (Moved instance)) was is = tt
unmade_on changed (Complete zone key name tag version row) reply was is = tt
unmade_on adrift (BucketRead zone name) reply was is = tt
unmade_on path op reply was is = tt

-- the first bytes of a head
abbrev first_of : Op → List ℕ
first_of (HeadWrite zone container name guard new when) = new.first
first_of op = []

module _ (t : Target) (new : NewHead) (when : Conditions) (stripe : ℕ) (bytes : List ℕ) (first : new.first ≡ first_bytes stripe bytes) where
  cut_at : (path : Path) (op : Op) (reply : Reply) (es : List OwnEvent) (tails : ℕ) (was : Bool) → IsUnmade path was → IsOrdered (path_from (path_after path op reply) es) → IsOfUpdate t (Write new when) op → IsCutAt t.zone stripe bytes tails was op
  cut_at path (TailMake zone write part piece) reply es tails was unmade ordered own = absurd own
  cut_at announced (HeadWrite zone container name guard n w) reply es tails was unmade ordered own = (ap zone_of own, unmade, ap first_of own ∙ first)
  cut_at path (HeadWrite zone container name guard n w) reply es tails was unmade ordered own = absurd (stays_astray es ordered)
  cut_at path op reply es tails was unmade ordered own = tt

  cut_on : (path : Path) (es : List OwnEvent) (tails : ℕ) (was : Bool) → IsUnmade path was → IsOrdered (path_from path es) → AllByRecursion (λ (e : OwnEvent). IsOfUpdate t (Write new when) e.op) es → AreCutFrom t.zone stripe bytes tails was es
  cut_on path [] tails was unmade ordered own = tt
  cut_on path (e ∷ es) tails was unmade ordered own = (
    cut_at path e.op e.reply es tails was unmade ordered own.0,
    cut_on (path_after path e.op e.reply) es (tails_after tails e.op e.reply) (is_changed_after was e.op e.reply) (unmade_on path e.op e.reply was unmade) ordered own.1,
  )

cut_append : (zone stripe : ℕ) (bytes : List ℕ) (tails : ℕ) (was : Bool) (xs ys : List OwnEvent) → AreCutFrom zone stripe bytes tails was xs → AreCutFrom zone stripe bytes (tails_from tails xs) (is_changed_from was xs) ys → AreCutFrom zone stripe bytes tails was (xs ++ ys)
cut_append zone stripe bytes tails was [] ys front back = back
cut_append zone stripe bytes tails was (x ∷ xs) ys front back = (front.0, cut_append zone stripe bytes (tails_after tails x.op x.reply) (is_changed_after was x.op x.reply) xs ys front.1 back)

-- ---- what it ends with

module _ (settings : SettingsView) (r : PutRequest) (s : Start) (etag : List ℕ) (u : IndexUpdate) (b : Begins settings r s etag u) (k : Known) where
  abbrev pub asked : Asked
  asked = record { target = target_of r; change = Write b.new b.when; from = s.from; start = s.known }

  pub asked_is : asked_of s u ≡ asked
  asked_is = λ i. record { target = b.target i; change = b.change i; from = s.from; start = s.known }

  module _ (stamp : Option Stamp) (h : ByHead asked stamp k.account.decided) where
    tails : AreTailsOf h.made r.zone b.new r.bytes
    tails = λ part low high. h.stands r.zone b.new.manifest.write part _ (b.content.tails.made part low high)

    by_map : (reply : MapReply) → reply ≡ (put_answer r.command r.bytes (whole_slot h.made r.zone h.seen) r.zone h.event.clock).reply
        → h.event.after ≡ (put_answer r.command r.bytes (whole_slot h.made r.zone h.seen) r.zone h.event.clock).after
        → ByMap r.zone r.asker (put r.command r.bytes) reply k.account.decided
    by_map reply answers leaves = record {
      event = h.event;
      is_last = h.is_last;
      in_zone = h.in_zone;
      of_name = h.of_name;
      look = h.look;
      looked = h.looked;
      look_in_zone = h.look_in_zone;
      look_of_name = h.look_of_name;
      row = h.row;
      showed = h.showed;
      granted = h.granted;
      in_container = h.in_container;
      answers = answers ∙ ap (λ slot. (put_answer r.command r.bytes slot r.zone h.event.clock).reply) (sym h.before);
      leaves = leaves ∙ ap (λ slot. (put_answer r.command r.bytes slot r.zone h.event.clock).after) (sym h.before);
    }

  pub stored_as : (stamp : Stamp) → ByHead asked (Some stamp) k.account.decided → ByMap r.zone r.asker (put r.command r.bytes) (Stored etag stamp) k.account.decided
  stored_as stamp h =
      let met = ap (λ w. fails w (etag_of h.seen)) (sym b.content.when) ∙ h.answers.0 in
      let stored = change_stored h.made r.zone h.event.clock h.seen b.new r.command r.bytes b.content.head (tails (Some stamp) h) b.content.sent met in
      by_map (Some stamp) h (Stored etag stamp)
      (ap (λ e. Stored e stamp) b.etag_is ∙ ap (λ q. Stored b.new.etag q) h.answers.1 ∙ sym (ap (λ (a : Answer). a.reply) stored))
      (h.answers.2 ∙ ap (λ q. whole_slot h.made r.zone (Live b.new q)) h.answers.1 ∙ sym (ap (λ (a : Answer). a.after) stored))

  refused_as : ByHead asked None k.account.decided → ByMap r.zone r.asker (put r.command r.bytes) (Refused NotMet) k.account.decided
  refused_as h =
      let failed = ap (λ w. fails w (etag_of h.seen)) (sym b.content.when) ∙ h.answers.0 in
      let refused = change_refused h.made r.zone h.event.clock h.seen r.command r.bytes failed in
      by_map None h (Refused NotMet)
      (sym (ap (λ (a : Answer). a.reply) refused))
      (h.answers.1 ∙ sym (ap (λ (a : Answer). a.after) refused))

  unchanged : Granted asked k.account → IsUnchanged r.zone r.asker r.command k.account
  unchanged g = record { by_row = g.by_row; unchanged = g.unchanged ∙ b.untried.unchanged }

  pub put_ends : (end : Updated) → EndsSo asked end k → IsPutOutcome r.zone r.asker r.command (body_of r) (outcome_of etag end) k.account k.events
  put_ends (updated.Changed stamp old) e =
      let none = b.untried.unchanged in
      let left = b.untried.left in
      let once = e.1.changed in (
        b.content.is_taken,
        stored_as stamp e.0,
        record {
          changed = omega (arith, none, once);
          completed = ⊎_elim (λ some. inl some) (λ many. inr (omega (arith, many, left))) e.1.completed;
        },
      )
  put_ends (updated.Refused refusal) e =
      by_three r k.account k.events (verdict_of r.asker.user r.asker.account e.0.by_row.look.row ChangeThing) (found_under r.asker.account e.0.by_row.look.row) refusal e.0.by_row.refuses
      (record { by_row = e.0.by_row; undecided = e.0.undecided ∙ b.untried.undecided; unchanged = e.0.unchanged ∙ b.untried.unchanged })
  put_ends updated.NotMet e = (b.content.is_taken, refused_as e.0, e.1 ∙ b.untried.unchanged)
  put_ends (updated.Busy id) e = (unchanged e.0, e.1)
  put_ends updated.MovedOften e = let none = b.untried.moved in let many = e.1 in (unchanged e.0, omega (arith, none, many))
  put_ends updated.LateTag e = let none = b.untried.expired in let many = e.1 in (unchanged e.0, omega (arith, none, many))
  put_ends (updated.NoSpace free needed) e = (unchanged e.0, e.1)

  -- a whole body is followed by nothing
  nothing_follows : (more : List ℕ) → MayFollow r.end more → more ≡ []
  nothing_follows more follows = subst (λ e. MayFollow e more → more ≡ []) (sym b.content.is_taken.whole) (λ none. none) follows

  first_is : (more : List ℕ) → MayFollow r.end more → b.new.first ≡ first_bytes settings.stripe (r.bytes ++ more)
  first_is more follows =
      let none = nothing_follows more follows in
      b.content.head.first ∙ (λ i. first_bytes (b.stripe i) (sym (append-nil r.bytes) i)) ∙ ap (λ m. first_bytes settings.stripe (r.bytes ++ m)) (sym none)

  -- the events of the update so far
  module _ (mine : List OwnEvent) (follow : k.events ≡ s.known.events ++ mine) (ordered : IsOrdered (path_from s.from mine))
      (own : AllByRecursion (λ (q : OwnEvent). IsOfUpdate u.target s.change q.op) mine) where
    ordered_here : IsOrdered (path_from ready mine)
    ordered_here = subst (λ p. IsOrdered (path_from p mine)) b.from ordered

    own_here : AllByRecursion (λ (q : OwnEvent). IsOfUpdate (target_of r) (Write b.new b.when) q.op) mine
    own_here = subst (λ (a : Asked). AllByRecursion (λ (q : OwnEvent). IsOfUpdate a.target a.change q.op) mine) asked_is own

    pub cut_so_far : CutBody r.zone settings.stripe r.bytes r.end k.events
    cut_so_far = λ more follows.
        subst (λ es. AreCut r.zone settings.stripe (r.bytes ++ more) es) (sym follow)
        (cut_append r.zone settings.stripe (r.bytes ++ more) 0 false s.known.events mine (b.cut more follows)
        (cut_on (target_of r) b.new b.when settings.stripe (r.bytes ++ more) (first_is more follows) ready mine (tails_from 0 s.known.events) (is_changed_from false s.known.events) b.unchanged ordered_here own_here))

    pub ordered_so_far : IsPutOrdered (path_of k.events)
    ordered_so_far = subst (λ es. IsPutOrdered (path_of es)) (sym follow) (ordered_behind s.known.events mine b.order ordered_here)

  module _ (end : Updated) (e : IsEnd s u end k) where
    finishes : IsFinished (path_from ready e.mine)
    finishes = subst (λ p. IsFinished (path_from p e.mine)) b.from e.finished

    pub ended_so : FitsAt settings r (Ended (outcome_of etag end)) k × IsInOrder settings r (Ended (outcome_of etag end)) k.events
    ended_so = (
      put_ends end (subst (λ a. EndsSo a end k) asked_is e.ends),
      (
        subst (λ es. IsPutFinished (path_of es)) (sym e.follow) (finished_behind s.known.events e.mine b.order finishes),
        record { cut = cut_so_far e.mine e.follow (update_finished_ordered (path_from s.from e.mine) e.finished) e.own; made = tt },
      ),
    )
