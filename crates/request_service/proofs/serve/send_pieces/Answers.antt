use Rattle.std.proofs.Common.{rules, ◌≡◌, ◌++◌, List, ℕ, [], true, false, Option, Some, None, refl, ap, ◌∙◌, subst, length}
use Rattle.std.proofs.KnownBytes.{Appends-nil}
use Rattle.std.proofs.lemmas.List.{append-nil, nil_from_length}
use Rattle.std.proofs.lemmas.Result.{err_from_is_err_and}
use Rattle.std.specs.Io.KnownBytes.{Appends}
use Rattle.realm_model.specs.Doors.{DoorView}
use Rattle.realm_model.specs.Settings.{SettingsView}
use Rattle.realm_door.specs.Waiting.{UnlessFaulted}
use Rattle.turn_cell.specs.declared.machine.DoorFault.{DoorFault}
use Rattle.task_words.specs.declared.reply.MapReply.{MapReply}
use Rattle.door_moments.specs.Acts.{IsUpTo, MakesSome}
use Rattle.door_moments.proofs.Asking.{none_asks, both_ask}
use Rattle.call_service.specs.Faults.{fault_by_door}
use Rattle.call_service.specs.Serving.{BearsOutSoFar}
use Rattle.call_service.proofs.Replying.{event_stopped}
use Rattle.request_service.specs.Requests.{site_of, HasBytes, ShowsFront}
use Rattle.request_service.specs.Writing.{piece_text, StopsPiece}
use Rattle.request_service.proofs.Ends.{at_site, stands_so, up_after}
use Rattle.request_service.proofs.Writing.{still_written, piece_written}
use Rattle.request_service.proofs.Stopping.{event_stops, piece_stops}
use Rattle.request_service.proofs.serve.send_pieces.Given.{Over}
use Rattle.request_service.proofs.serve.send_pieces.Goals as goal

pub events-init : goal.events-init
events-init g c = record {
  unfaulted = c.requires.unfaulted;
  sound = c.requires.sound;
  up = c.requires.up;
  command = refl;
  settings = refl;
  home = refl;
  plan = refl;
  asks = none_asks g.D.Door.tells g.D.Door.alone (g.D.Door.settings c.args.door.now) (g.D.Door.told c.args.door.now) (g.C.Clock.told c.args.clock.now) (λ is. (c.requires.up is).0);
  written = (Appends-nil (g.K.Sink.taken c.args.sink.now), c.requires.none);
  faults = refl;
}

-- the piece of an event is what it brought
follows : (g : Over) (settings : SettingsView) (t u : _) (d e : DoorView) (k : _) (fault : Option DoorFault) → g.T.Staged.command u ≡ g.T.Staged.command t → g.T.Staged.command t ≡ k → (g.D.Door.tells → MakesSome settings d e) → fault ≡ None
    → IsUpTo (λ u settings e. UnlessFaulted fault (g.T.Staged.fits u settings e)) g.D.Door.tells settings u e → g.D.Door.tells → g.T.Request.brought k e ≡ g.T.Request.brought k d ++ g.T.Staged.piece u
follows g settings t u d e k fault same command made sound up is =
    subst (λ k. g.T.Request.brought k e ≡ g.T.Request.brought k d ++ g.T.Staged.piece u) command
    (g.met.T.Request.brings t u settings d e (made is).0 same (stands_so fault (g.T.Staged.fits u settings e) sound (up is).1) (made is).1)

has : (g : Over) (k u : _) → g.T.Staged.command u ≡ k → g.T.Request.is_sound u → (reply : MapReply) → g.T.Request.shown u ≡ Some reply → HasBytes (g.T.Request.question k).asked reply
has g k u command sound reply shown = subst (λ k. HasBytes (g.T.Request.question k).asked reply) command (g.met.T.Request.shows u reply sound shown)

pub returns-in_err-act-clause-stopped : goal.returns-in_err-act-clause-stopped
returns-in_err-act-clause-stopped g c =
    let so_far = c.events.invariant in
    let now = c.in_err-act.ensures in
    let settings = g.D.Door.settings c.args.door.now in
    let t = c.events.task.stages in
    let k = g.T.Staged.command c.args.task.now.stages in
    let d = g.D.Door.told c.events.door in
    let found = g.D.Door.found c.act.new.door in
    let fronts : g.D.Door.tells → (reply : MapReply) → g.T.Request.shown t ≡ Some reply → ShowsFront (site_of settings (g.T.Request.question k)) (g.T.Request.question k).asked reply (g.T.Request.brought k d) (g.T.Request.whole k settings d) d =
    λ is reply shown. subst (λ k. ShowsFront (site_of settings (g.T.Request.question k)) (g.T.Request.question k).asked reply (g.T.Request.brought k d) (g.T.Request.whole k settings d) d) so_far.command
    (g.met.T.Request.front t settings d reply (so_far.up is).1 shown) in
    let p = err_from_is_err_and c.from_residual.result c.from_residual.ensures.1 in
    rw (p.1, p.2)
    (event_stops _ _ _ _ _ found _ d _ (g.T.Request.shown t) (g.T.Request.brought k d) (g.T.Request.whole k settings d) c.events.begun (fault_by_door c.in_err-act.field-0.0) _ _ (event_stopped _ found c.in_err-act.field-0.0 now.worn)
    (both_ask _ _ _ _ true _ _ _ _ _ _ so_far.settings so_far.asks now.unasked) now.stays
    (λ is body. at_site g.T.Request.question (λ s a. BearsOutSoFar s a body d) settings settings k (g.T.Staged.command t) refl so_far.command (g.met.T.Request.so_far t settings d body (so_far.up is).1))
    fronts so_far.written)

pub returns-in_err-send_piece-clause-stopped : goal.returns-in_err-send_piece-clause-stopped
returns-in_err-send_piece-clause-stopped g c =
    let so_far = c.events.invariant in
    let now = c.in_ok-act.ensures in
    let settings = g.D.Door.settings c.args.door.now in
    let t = c.events.task.stages in
    let u = c.act.new.task.stages in
    let k = g.T.Staged.command c.args.task.now.stages in
    let e = g.D.Door.told c.act.new.door in
    let command = now.command ∙ so_far.command in
    let going = g.met.T.Request.goes_on t u now.steps so_far.sound in
    let up = up_after g.T.Staged.fits g.D.Door.tells settings (g.D.Door.settings c.events.door) c.act.new.task.fault u e so_far.settings now.sound now.up in
    let fronts : g.D.Door.tells → (reply : MapReply) → g.T.Request.shown u ≡ Some reply → ShowsFront (site_of settings (g.T.Request.question k)) (g.T.Request.question k).asked reply (g.T.Request.brought k e) (g.T.Request.whole k settings e) e =
    λ is reply shown. subst (λ k. ShowsFront (site_of settings (g.T.Request.question k)) (g.T.Request.question k).asked reply (g.T.Request.brought k e) (g.T.Request.whole k settings e) e) command
    (g.met.T.Request.front u settings e reply (up is).1 shown) in
    let p = err_from_is_err_and c.from_residual-in_err-send_piece.result c.from_residual-in_err-send_piece.ensures.1 in
    rw (p.1, p.2)
    (piece_stops _ _ _ _ _ (g.D.Door.found c.act.new.door) _ (g.T.Request.shown t) (g.T.Request.shown u) _ _ (g.T.Staged.piece u) going.1.shows
    (follows g (g.D.Door.settings c.events.door) t u (g.D.Door.told c.events.door) e k c.act.new.task.fault now.command so_far.command now.made now.sound now.up) (going.1.brings (search rules)) (has g k u command going.0)
    e (g.T.Request.whole k settings e) c.events.begun c.in_err-send_piece.field-0.0 (g.K.Sink.taken c.events.sink) _ _ (both_ask _ _ _ _ false _ _ _ _ _ _ so_far.settings so_far.asks now.asks)
    (λ is body. at_site g.T.Request.question (λ s a. BearsOutSoFar s a body e) settings settings k (g.T.Staged.command u) refl command (g.met.T.Request.so_far u settings e body (up is).1))
    fronts so_far.written
    (subst (λ k. StopsPiece c.args.form (g.T.Request.question k).asked c.events.begun (g.T.Request.shown u) (g.T.Staged.piece u) (g.K.Sink.taken c.events.sink) (g.K.Sink.taken c.send_piece.new.sink) c.in_err-send_piece.field-0.0) command c.in_err-send_piece.ensures.err))

pub events-preserved-then-not-is_empty : goal.events-preserved-then-not-is_empty
events-preserved-then-not-is_empty g c =
    let so_far = c.events.invariant in
    let now = c.in_ok-act.ensures in
    let t = c.events.task.stages in
    let u = c.act.new.task.stages in
    let k = g.T.Staged.command c.args.task.now.stages in
    let e = g.D.Door.told c.act.new.door in
    let mid = g.K.Sink.taken c.events.sink in
    let taken = g.K.Sink.taken c.send_piece.new.sink in
    let command = now.command ∙ so_far.command in
    let going = g.met.T.Request.goes_on t u now.steps so_far.sound in
    record {
      unfaulted = now.sound;
      sound = going.0;
      up = up_after g.T.Staged.fits g.D.Door.tells _ (g.D.Door.settings c.events.door) c.act.new.task.fault u e so_far.settings now.sound now.up;
      command = command;
      settings = now.settings ∙ so_far.settings;
      home = now.home ∙ so_far.home;
      plan = now.plan ∙ so_far.plan;
      asks = both_ask _ _ _ _ false _ _ _ _ _ _ so_far.settings so_far.asks now.asks;
      written = piece_written _ (site_of (g.D.Door.settings c.args.door.now) (g.T.Request.question k)) _ _ (g.T.Request.shown t) (g.T.Request.shown u) _ _ (g.T.Staged.piece u) going.1.shows
          (follows g (g.D.Door.settings c.events.door) t u (g.D.Door.told c.events.door) e k c.act.new.task.fault now.command so_far.command now.made now.sound now.up) (going.1.brings (search rules)) (has g k u command going.0)
          c.events.begun _ mid taken so_far.written
          (subst (λ k. Appends mid taken (piece_text c.args.form (g.T.Request.question k).asked c.events.begun (g.T.Request.shown u) (g.T.Staged.piece u))) command c.in_ok-send_piece.ensures.ok);
      faults = search rules;
    }

pub events-preserved : goal.events-preserved
events-preserved g c =
    let so_far = c.events.invariant in
    let now = c.in_ok-act.ensures in
    let u = c.act.new.task.stages in
    let k = g.T.Staged.command c.args.task.now.stages in
    let d = g.D.Door.told c.events.door in
    let going = g.met.T.Request.goes_on c.events.task.stages u now.steps so_far.sound in
    let few : length (g.T.Staged.piece u) ≡ 0 = search rules in
    let none : g.T.Staged.piece u ≡ [] = nil_from_length (g.T.Staged.piece u) few in
    record {
      unfaulted = now.sound;
      sound = going.0;
      up = up_after g.T.Staged.fits g.D.Door.tells _ (g.D.Door.settings c.events.door) c.act.new.task.fault u _ so_far.settings now.sound now.up;
      command = now.command ∙ so_far.command;
      settings = now.settings ∙ so_far.settings;
      home = now.home ∙ so_far.home;
      plan = now.plan ∙ so_far.plan;
      asks = both_ask _ _ _ _ false _ _ _ _ _ _ so_far.settings so_far.asks now.asks;
      written = still_written _ (site_of (g.D.Door.settings c.args.door.now) (g.T.Request.question k)) _ _ _ (g.T.Request.shown u) (g.T.Request.brought k d) _ (g.T.Staged.piece u) going.1.shows c.events.begun _ _
          (λ is. follows g (g.D.Door.settings c.events.door) c.events.task.stages u d (g.D.Door.told c.act.new.door) k c.act.new.task.fault now.command so_far.command now.made now.sound now.up is
          ∙ ap (λ (l : List ℕ). g.T.Request.brought k d ++ l) none ∙ append-nil (g.T.Request.brought k d)) so_far.written;
      faults = so_far.faults;
    }
