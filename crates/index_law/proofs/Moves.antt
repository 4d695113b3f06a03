-- What each event leaves of rows and their tables.
use Rattle.std.proofs.Common.{◌≡◌, ℕ, ◌+◌, ◌==◌, ◌&&◌, ◌||◌, Bool, true, false, cond, List, [], ◌∷◌, ◌++◌, Option, Some, None, refl, sym, subst, ◌∙◌, arith}
use Rattle.std.proofs.lemmas.Bool.{both_ways, false_from_ne_true}
use Rattle.std.proofs.lemmas.Bool.Decides.{nat_tests}
use Rattle.object_words.specs.declared.bucket.Bucket.{Bucket}
use Rattle.object_words.specs.declared.log.LogWhat.TheVariants.{Bucket as bucket_row}
use Rattle.object_words.specs.Keys.{put}
use Rattle.object_words.specs.Logs.{Log, logged}
use Rattle.object_words.specs.Names.{at}
use Rattle.object_words.specs.Refusals.{unless_refused}
use Rattle.object_words.specs.Roots.{Root, version_of, swap_refusal, stored_or_none, with_bucket, is_logged}
use Rattle.object_words.proofs.KeyLemmas.{put_same}
use Rattle.realm_model.specs.Facts.{Home, Instance}
use Rattle.realm_model.specs.Needs.{is_between, is_form, has_closed, saw_it_gone}
use Rattle.realm_model.specs.Allowed.{meets_need}
use Rattle.realm_model.specs.Ops.{zone_of}
use Rattle.realm_model.specs.Phases.{ActorId, RowRead, Phase}
use Rattle.realm_model.specs.Settings.{SettingsView, IsSettings}
use Rattle.realm_model.specs.States.{State, at_moment}
use Rattle.realm_model.specs.Steps.{is_master, reply_or, reply_of, after}
use Rattle.realm_model.specs.Tests.{is_so}
use Rattle.realm_model.specs.Worlds.{World, start, homes_after, instances_after, actor_of, happens}
use Rattle.realm_model.specs.Histories.{run, world_of, state_of, IsNext, LegalFrom, Legal}
use Rattle.realm_model.specs.declared.op.Op.{Op}
use Rattle.realm_model.specs.declared.op.Op.TheVariants.{BucketSwap}
use Rattle.realm_model.specs.declared.event.Event.{Event}
use Rattle.realm_model.specs.declared.event.Reply.{Reply}
use Rattle.realm_model.specs.declared.event.Reply.TheVariants.{Done, No}
use Rattle.realm_model.proofs.Computing.{left_of, right_of}
use Rattle.realm_model.specs.Containers.{is_standing}
use Rattle.realm_model.proofs.ObjectLemmas.{number_same}
use Rattle.realm_model.proofs.Runs.{run-append, legal_front, legal_back}
use Rattle.index_law.specs.Tables.{rows_of, IsMadeContainer, StandsIn}
use Rattle.index_law.specs.Invariants.{IndexHolds}
use Rattle.index_law.proofs.Tests.{so}
use Rattle.index_law.proofs.Forms.{Form, making, altering, removing, form_of}
use Rattle.index_law.proofs.RowLaws.{RowsMove, IsRisen, nothing_moves}
use Rattle.index_law.proofs.Placing as placing
use Rattle.index_law.proofs.Changing as changing
use Rattle.index_law.proofs.Removing as removing
use Rattle.index_law.proofs.Keeping.{known, kept_is, home_from, gone_from, keeps, holds}
use Rattle.index_law.proofs.Consequences.{stands_of, standing_of}

module _ (settings : SettingsView) (good : IsSettings settings) (w : World) (j : IndexHolds w) (me : ActorId) (moment : ℕ) where
  abbrev number : ℕ
  number = w.state.count + 1

  abbrev st : State
  st = at_moment w.state moment

  abbrev p : Phase
  p = w.phases me

  abbrev Moves : Op → Reply → (ℕ → Root) → Type 0
  Moves op reply root = RowsMove w.state.count w.rows.homes (homes_after w.rows.homes op reply number) w.rows.instances (instances_after w.rows.instances op reply) (rows_of w.state.root) (rows_of root)

  module _ (zone : ℕ) (name : List ℕ) (expected : ℕ) (new : Option Bucket) where
    abbrev swapping : Op
    swapping = BucketSwap zone name expected new

    abbrev log : Log
    log = cond (is_master zone && is_logged (at (w.state.root zone).buckets name) new) (logged (w.state.root zone).log (bucket_row name)) (w.state.root zone).log

    abbrev swapped_root : Root
    swapped_root = record { buckets = with_bucket (w.state.root zone).buckets name (stored_or_none (at (w.state.root zone).buckets name) new (is_master zone) number); log = log }

    swapped_by : (swap_refusal (w.state.root zone) name expected ≡ None → Moves swapping Done (put w.state.root zone swapped_root)) → Moves swapping (reply_of settings st swapping) (after settings st swapping).root
    swapped_by done =
        elim (swap_refusal (w.state.root zone) name expected) as (λ r. swap_refusal (w.state.root zone) name expected ≡ r → Moves swapping (reply_or Done r) (put w.state.root zone (unless_refused r (w.state.root zone) swapped_root))) [
          | None ↦ done
          | Some why ↦ λ no. subst (Moves swapping (No why)) (sym (put_same w.state.root zone)) (nothing_moves w.state.count w.rows.homes w.rows.instances (rows_of w.state.root))
        ] refl

  swap_moves : (zone : ℕ) (name : List ℕ) (expected : ℕ) (new : Option Bucket) → meets_need settings p (BucketSwap zone name expected new) ≡ true → Moves (BucketSwap zone name expected new) (reply_of settings st (BucketSwap zone name expected new)) (after settings st (BucketSwap zone name expected new)).root
  swap_moves zone name expected new may =
      let r = so (at (p.rows zone) name) _ may in
      let read = r.x in
      let expected_is : version_of read.row ≡ expected = number_same (version_of read.row) expected (left_of (version_of read.row == expected) (is_form p zone name read.row new) r.passes) in
      subst (λ n. Moves (BucketSwap zone name n new) (reply_of settings st (BucketSwap zone name n new)) (after settings st (BucketSwap zone name n new)).root) expected_is
      (by_form read r.is read.row new refl (form_of p zone name read.row new (right_of (version_of read.row == expected) (is_form p zone name read.row new) r.passes))) where
        not_made : (b : Bucket) (name : List ℕ) (master none : Bool) → none ≡ false → cond (master && none) (put w.rows.homes b.id (Some (record { name = name; at = number }))) w.rows.homes ≡ w.rows.homes
        not_made b name true none is = rw is refl
        not_made b name false none is = refl

        by_form : (read : RowRead) → at (p.rows zone) name ≡ Some read → (row new : Option Bucket) → read.row ≡ row → Form p zone name row new
            → Moves (BucketSwap zone name (version_of row) new) (reply_of settings st (BucketSwap zone name (version_of row) new)) (after settings st (BucketSwap zone name (version_of row) new)).root
        by_form read shown None None is form = elim form [ ]
        by_form read shown None (Some b) is (making m) =
            swapped_by zone name 0 (Some b)
            (λ ok.
            placing.moves w j me moment zone name b (log zone name 0 (Some b)) m.first m.first_is m.instance_is m.not_placed m.idle m.some (home_from settings good w j me moment zone name b m.first m.first_is m.from)
            (kept_is settings good w j me moment zone name read shown None is ok) (known settings good w j me moment zone name read shown None is ok))
        by_form read shown (Some old) (Some b) is (altering alt) =
            swapped_by zone name old.version (Some b)
            (λ ok.
            let kept = kept_is settings good w j me moment zone name read shown (Some old) is ok in
            let positive = (j.rows_stand.kept zone name old kept).version in
            let apart : (old.version == 0) ≡ false = grind (arith, nat_tests, positive) in
            subst (λ homes. RowsMove w.state.count w.rows.homes homes w.rows.instances (instances_after w.rows.instances (BucketSwap zone name old.version (Some b)) Done) (rows_of w.state.root) (rows_of (put w.state.root zone (swapped_root zone name old.version (Some b)))))
            (sym (not_made b name (is_master zone) (old.version == 0) apart))
            (changing.moves w j me moment zone name old.version old b (log zone name old.version (Some b)) kept (known settings good w j me moment zone name read shown (Some old) is ok) alt))
        by_form read shown (Some old) None is (removing removal) =
            swapped_by zone name old.version None
            (λ ok.
            let kept = kept_is settings good w j me moment zone name read shown (Some old) is ok in
            removing.moves w j me moment zone name old.version old (log zone name old.version None) kept (known settings good w j me moment zone name read shown (Some old) is ok)
            (gone_from w j me zone name old kept (right_of (is_so old.busy (λ busy. has_closed (p.work zone old.id old.instance) busy.number old.shards)) (zone == 1 || saw_it_gone p name old) removal)))

  moves_by : (op : Op) → meets_need settings p op ≡ true → Moves op (reply_of settings st op) (after settings st op).root
  moves_by (BucketSwap zone name expected new) may = swap_moves zone name expected new may
  moves_by op may = nothing_moves w.state.count w.rows.homes w.rows.instances (rows_of w.state.root)

pub rows_move : (settings : SettingsView) → IsSettings settings → (w : World) → IndexHolds w → (e : Event) → IsNext settings w e
    → RowsMove w.state.count w.rows.homes (happens settings w e).rows.homes w.rows.instances (happens settings w e).rows.instances (rows_of w.state.root) (rows_of (happens settings w e).state.root)
rows_move settings good w j e next =
    let me = actor_of e in
    let st = at_moment w.state e.moment in
    let need = right_of (is_between 1 settings.zones (zone_of e.op)) (meets_need settings (w.phases me) e.op) next.may in
    subst (λ r. RowsMove w.state.count w.rows.homes (homes_after w.rows.homes e.op r (w.state.count + 1)) w.rows.instances (instances_after w.rows.instances e.op r) (rows_of w.state.root) (rows_of (after settings st e.op).root)) (sym next.answer)
    (moves_by settings good w j me e.moment e.op need)

-- ---- over events

pub made_from : (settings : SettingsView) (w : World) (es : List Event) → IsSettings settings → IndexHolds w → LegalFrom settings w es → (container : ℕ) → IsMadeContainer w.rows.homes container → IsMadeContainer (run settings w es).rows.homes container
made_from settings w [] good j legal c made = made
made_from settings w (e ∷ es) good j legal c made =
    made_from settings (happens settings w e) es good (keeps settings good w j e legal.0) legal.1 c (record { home = made.home; made = (rows_move settings good w j e legal.0).homes_grow c made.home made.made })

-- a container that zone 1 made and that stands in the end stood all the while
pub stood_from : (settings : SettingsView) (w : World) (es : List Event) → IsSettings settings → IndexHolds w → LegalFrom settings w es → (container : ℕ) → IsMadeContainer w.rows.homes container → StandsIn (run settings w es) container → StandsIn w container
stood_from settings w [] good j legal c made stands = stands
stood_from settings w (e ∷ es) good j legal c made stands =
    let m = rows_move settings good w j e legal.0 in
    let later : IsMadeContainer (happens settings w e).rows.homes c = record { home = made.home; made = m.homes_grow c made.home made.made } in
    m.stands_back c made (stood_from settings (happens settings w e) es good (keeps settings good w j e legal.0) legal.1 c later stands)

-- an instance that was put into a row has its shards all the while
pub risen_from : (settings : SettingsView) (w : World) (es : List Event) → IsSettings settings → IndexHolds w → LegalFrom settings w es → (zone container number : ℕ) (old : Instance) → w.rows.instances zone container number ≡ Some old → IsRisen (run settings w es).rows.instances zone container number old
risen_from settings w [] good j legal z c i old is = record { instance = old; placed = is; shards_are = refl; over = omega arith }
risen_from settings w (e ∷ es) good j legal z c i old is =
    let r = (rows_move settings good w j e legal.0).rise z c i old is in
    let more = risen_from settings (happens settings w e) es good (keeps settings good w j e legal.0) legal.1 z c i r.instance r.placed in
    let first = r.over in
    let second = more.over in
    record { instance = more.instance; placed = more.placed; shards_are = r.shards_are ∙ more.shards_are; over = omega (arith, first, second) }

-- a container that was made and stands in the end stood all the while
pub stood_at : (settings : SettingsView) (history later : List Event) (container : ℕ) → IsSettings settings → Legal settings (history ++ later) → IsMadeContainer (world_of settings history).rows.homes container
    → is_standing (world_of settings (history ++ later)).rows (state_of settings (history ++ later)) container ≡ true → is_standing (world_of settings history).rows (state_of settings history) container ≡ true
stood_at settings history later container good legal made standing =
    let w = world_of settings history in
    let front = legal_front settings (start settings) history later legal in
    let there = subst (λ v. StandsIn v container) (run-append settings (start settings) history later) (stands_of (world_of settings (history ++ later)) container standing) in
    standing_of w container (stood_from settings w later good (holds settings history good front) (legal_back settings (start settings) history later legal) container made there)

-- so one that is gone stays gone
pub stays_gone : (settings : SettingsView) (history later : List Event) (container : ℕ) (home : Home) → IsSettings settings → Legal settings (history ++ later) → (world_of settings history).rows.homes container ≡ Some home
    → is_standing (world_of settings history).rows (state_of settings history) container ≡ false → is_standing (world_of settings (history ++ later)).rows (state_of settings (history ++ later)) container ≡ false
stays_gone settings history later container home good legal made gone =
    false_from_ne_true _ (λ standing. both_ways _ gone (stood_at settings history later container good legal (record { home = home; made = made }) standing))
