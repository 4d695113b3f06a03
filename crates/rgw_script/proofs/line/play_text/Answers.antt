use Rattle.std.proofs.Common.{rules, inl, refl, ap, subst, Ok}
use Rattle.std.proofs.KnownBytes.{Appends-nil}
use Rattle.std.specs.Io.KnownBytes.{Appends}
use Rattle.gw_io.specs.Outside.{AppendsProperPrefix}
use Rattle.realm_model.specs.SettingsOf.{settings_view}
use Rattle.rgw_script.specs.Runs.{LeavesText}
use Rattle.rgw_script.specs.Stages.{scene_of}
use Rattle.rgw_script.specs.declared.fault.ScriptFault.TheVariants.{OutOfMemory}
use Rattle.rgw_script.proofs.Printing.{sound_line, meant_by, none_meant, refused_so, left_so, missed_so, played_so}
use Rattle.rgw_script.proofs.line.play_text.Goals as goal

pub returns-in_err-line-clause-left : goal.returns-in_err-line-clause-left
returns-in_err-line-clause-left g c =
    let left : LeavesText c.args.settings.now (scene_of c.args.script.now c.args.realm.now.history) c.args.number c.args.text.now (g.K.Sink.taken c.args.output.now) (g.K.Sink.taken c.args.output.now) c.args.realm.now.history OutOfMemory
    = (inl refl, Appends-nil (g.K.Sink.taken c.args.output.now)) in
    search (rules, left)

pub returns-in_default-clause-left : goal.returns-in_default-clause-left
returns-in_default-clause-left g c =
    refused_so c.args.settings.now (scene_of c.args.script.now c.args.realm.now.history) c.args.number c.args.text.now (g.K.Sink.taken c.args.output.now) (g.K.Sink.taken c.refuse.new.output) c.args.realm.now.history c.refuse.result
    (none_meant (settings_view c.settings.inside) c.args.settings.now (scene_of c.args.script.now c.args.realm.now.history) c.args.text.now c.settings.view_is (c.in_ok-line.ensures.none (ap Ok c.in_default.is))) refl c.refuse.ensures.refused

pub play-requires-clause-sound : goal.play-requires-clause-sound
play-requires-clause-sound g c =
    sound_line c.args.settings.now c.args.text.now c.in-Some.line (λ actor zones bytes zone verb few is. c.lines_have_few_bytes.ensures.start zones bytes actor zone verb few is) c.lines_have_few_bytes.ensures.once c.requires.short
    (meant_by (settings_view c.settings.inside) c.args.settings.now c.args.text.now c.in_ok-line.field-0 c.in-Some.line c.settings.view_is c.in-Some.is c.in_ok-line.ensures.some)

pub returns-in_err-play-clause-left : goal.returns-in_err-play-clause-left
returns-in_err-play-clause-left g c =
    let left = left_so c.args.settings.now c.in-Some.line c.args.script.now c.play.new.self c.args.realm.now c.play.new.realm c.play.new.out.items c.args.text.now c.args.number (g.K.Sink.taken c.args.output.now) c.in_err-play.field-0.0
    c.in_err-play.ensures
    (meant_by (settings_view c.settings.inside) c.args.settings.now c.args.text.now c.in_ok-line.field-0 c.in-Some.line c.settings.view_is c.in-Some.is c.in_ok-line.ensures.some) in
    search (rules, left)

pub returns-then-not-branch-clause-left : goal.returns-then-not-branch-clause-left
returns-then-not-branch-clause-left g c =
    missed_so c.args.settings.now c.in-Some.line c.args.script.now c.play.new.self c.args.realm.now c.play.new.realm c.play.new.out.items c.args.text.now c.args.number
    (g.K.Sink.taken c.args.output.now) (g.K.Sink.taken c.refuse-then-not-branch.new.output) c.in_ok-play.field-0 c.refuse-then-not-branch.result
    c.in_ok-play.ensures c.if-not-branch.true c.lines_have_one_meaning.ensures
    (meant_by (settings_view c.settings.inside) c.args.settings.now c.args.text.now c.in_ok-line.field-0 c.in-Some.line c.settings.view_is c.in-Some.is c.in_ok-line.ensures.some)
    c.refuse-then-not-branch.ensures.refused

pub returns-in-Ok-clause-played : goal.returns-in-Ok-clause-played
returns-in-Ok-clause-played g c = (
  c.play.new.out.items,
  played_so c.args.settings.now c.in-Some.line c.args.script.now c.play.new.self c.args.realm.now c.play.new.realm c.play.new.out.items c.args.text.now c.in_ok-play.field-0
      c.in_ok-play.ensures c.if-not-branch.false
      (meant_by (settings_view c.settings.inside) c.args.settings.now c.args.text.now c.in_ok-line.field-0 c.in-Some.line c.settings.view_is c.in-Some.is c.in_ok-line.ensures.some),
  subst (Appends (g.K.Sink.taken c.args.output.now) (g.K.Sink.taken c.write_all.new.sink)) c.as_slice.ensures.value c.in-Ok.ensures.ok,
)

pub returns-in-Err-clause-left : goal.returns-in-Err-clause-left
returns-in-Err-clause-left g c =
    inl (
      scene_of c.play.new.self c.play.new.realm.history,
      c.play.new.out.items,
      played_so c.args.settings.now c.in-Some.line c.args.script.now c.play.new.self c.args.realm.now c.play.new.realm c.play.new.out.items c.args.text.now c.in_ok-play.field-0
          c.in_ok-play.ensures c.if-not-branch.false
          (meant_by (settings_view c.settings.inside) c.args.settings.now c.args.text.now c.in_ok-line.field-0 c.in-Some.line c.settings.view_is c.in-Some.is c.in_ok-line.ensures.some),
      refl,
      subst (AppendsProperPrefix (g.K.Sink.taken c.args.output.now) (g.K.Sink.taken c.write_all.new.sink)) c.as_slice.ensures.value c.in-Err.ensures.err,
    )
