-- A line of a script's text: what it asks can be played, or it is bad.
use Rattle.std.proofs.Common.{◌≡◌, inl, inr, ℕ, ◌≤◌, Bool, true, false, List, length, Option, Some, Ok, Err, IfSome, ap, subst, arith}
use Rattle.std.proofs.KnownBytes.{Appends-nil}
use Rattle.realm_core.specs.Realms.{RealmView}
use Rattle.realm_model.specs.Settings.{SettingsView}
use Rattle.realm_model.specs.declared.event.Event.{Event}
use Rattle.task_put.specs.Bodies.{most_bytes}
use Rattle.script_words.specs.Laws.{HasOneMeaning}
use Rattle.script_words.specs.Lines.{IsLine}
use Rattle.script_words.specs.declared.line.Line.{Line}
use Rattle.script_words.specs.declared.line.Line.TheVariants.{Clock, Start, Step, Run, Stop, Do}
use Rattle.script_words.specs.declared.line.Verb.{Verb}
use Rattle.script_lines.specs.declared.reader.TheConstants.{LINE_LIMIT}
use Rattle.script_player.specs.Requests.{HasFewBytes}
use Rattle.rgw_script.specs.Plays.{PlaysOne, Misses, IsBad}
use Rattle.rgw_script.specs.Printing.{Refuses}
use Rattle.rgw_script.specs.Runs.{LeavesText}
use Rattle.rgw_script.specs.Scenes.{Scene}
use Rattle.rgw_script.specs.Stages.{scene_of, IsSound, ComesTo}
use Rattle.rgw_script.specs.declared.script.Script.{Script}
use Rattle.rgw_script.specs.declared.fault.ScriptFault.{ScriptFault}
use Rattle.rgw_script.specs.declared.fault.ScriptFault.TheVariants.{OutOfMemory, ReadFault, WriteFault, Worn, BadLine}

-- ---- lines that can be played

abbrev pub HaveFewBytes : (ℕ → Verb → Line) → Type 0
HaveFewBytes line = (zones : ℕ) (bytes : List ℕ) (zone : ℕ) (verb : Verb) → length bytes ≤ most_bytes → IsLine zones bytes (line zone verb) → HasFewBytes verb

pub sound_line : (settings : SettingsView) (text : List ℕ) (line : Line) → ((actor : List ℕ) → HaveFewBytes (Start actor)) → HaveFewBytes Do
    → length text ≤ LINE_LIMIT → IsLine settings.zones text line → IsSound settings line
sound_line settings text (Clock moment) starts once short is = tt
sound_line settings text (Start name zone verb) starts once short is = record {
  low = is.4.least;
  high = is.4.there;
  few = starts name settings.zones text zone verb (omega (arith, short)) is;
}
sound_line settings text (Step name events) starts once short is = tt
sound_line settings text (Run name) starts once short is = tt
sound_line settings text (Stop name) starts once short is = tt
sound_line settings text (Do zone verb) starts once short is = record {
  low = is.3.least;
  high = is.3.there;
  few = once settings.zones text zone verb (omega (arith, short)) is;
}

-- ---- lines that are bad

pub bad_text : (zones : ℕ) (s : Scene) (text : List ℕ) → ((line : Line) → ¬ (IsLine zones text line)) → IsBad zones s text
bad_text zones s text none = λ line is. absurd (none line is)

-- what a text means is what was tried
pub bad_line : (zones : ℕ) (s : Scene) (text : List ℕ) (line : Line) → HasOneMeaning → IsLine zones text line → Misses s line → IsBad zones s text
bad_line zones s text line one is misses = λ other meant. subst (Misses s) (one zones text line other is meant) misses

pub refused_so : (settings : SettingsView) (s : Scene) (number : ℕ) (text : List ℕ) (taken taken' : Option (List ℕ)) (history : List Event) (fault : ScriptFault)
    → IsBad settings.zones s text → history ≡ s.history → Refuses taken taken' number fault → LeavesText settings s number text taken taken' history fault
refused_so settings s number text taken taken' history (BadLine line) bad same refused = (bad, refused.0, same, refused.1)
refused_so settings s number text taken taken' history WriteFault bad same refused = inr (bad, same, refused)
refused_so settings s number text taken taken' history OutOfMemory bad same refused = (inl same, refused)
refused_so settings s number text taken taken' history Worn bad same refused = absurd refused
refused_so settings s number text taken taken' history ReadFault bad same refused = absurd refused

-- ---- what a text means

zones_as : (view settings : SettingsView) → view ≡ settings → view.zones ≡ settings.zones
zones_as view settings is = ap (λ (s : SettingsView). s.zones) is

pub meant_by : (view settings : SettingsView) (text : List ℕ) (read : Option Line) (line : Line) → view ≡ settings → read ≡ Some line → IfSome read (IsLine view.zones text) → IsLine settings.zones text line
meant_by view settings text read line is same meant =
    subst (λ z. IsLine z text line) (zones_as view settings is) (subst (λ o. IfSome o (IsLine view.zones text)) same meant)

pub none_meant : (view settings : SettingsView) (s : Scene) (text : List ℕ) → view ≡ settings → ((line : Line) → ¬ (IsLine view.zones text line)) → IsBad settings.zones s text
none_meant view settings s text is none = bad_text settings.zones s text (subst (λ z. (line : Line) → ¬ (IsLine z text line)) (zones_as view settings is) none)

-- ---- how a line that is meant ends

pub left_so : (settings : SettingsView) (line : Line) (before after : Script) (old new : RealmView) (printed text : List ℕ) (number : ℕ) (taken : Option (List ℕ)) (fault : ScriptFault)
    → ComesTo settings line before after old new printed (Err fault) → IsLine settings.zones text line
    → LeavesText settings (scene_of before old.history) number text taken taken new.history fault
left_so settings line before after old new printed text number taken OutOfMemory comes is = (inr (line, is, comes.begun), Appends-nil taken)
left_so settings line before after old new printed text number taken Worn comes is = (comes.cause, (line, is, comes.begun), Appends-nil taken)
left_so settings line before after old new printed text number taken ReadFault comes is = absurd comes.cause
left_so settings line before after old new printed text number taken WriteFault comes is = absurd comes.cause
left_so settings line before after old new printed text number taken (BadLine n) comes is = absurd comes.cause

pub missed_so : (settings : SettingsView) (line : Line) (before after : Script) (old new : RealmView) (printed text : List ℕ) (number : ℕ) (taken taken' : Option (List ℕ)) (there : Bool) (fault : ScriptFault)
    → ComesTo settings line before after old new printed (Ok there) → there ≡ false → HasOneMeaning → IsLine settings.zones text line → Refuses taken taken' number fault
    → LeavesText settings (scene_of before old.history) number text taken taken' new.history fault
missed_so settings line before after old new printed text number taken taken' there fault comes none one is refused =
    let missed = comes.missed (ap Ok none) in
    refused_so settings (scene_of before old.history) number text taken taken' new.history fault
    (bad_line settings.zones (scene_of before old.history) text line one is missed.0) (ap (λ (r : RealmView). r.history) missed.1) refused

pub played_so : (settings : SettingsView) (line : Line) (before after : Script) (old new : RealmView) (printed text : List ℕ) (there : Bool)
    → ComesTo settings line before after old new printed (Ok there) → there ≡ true → IsLine settings.zones text line
    → PlaysOne settings (scene_of before old.history) text (scene_of after new.history) printed
played_so settings line before after old new printed text there comes some is = record { line = line; meant = is; played = comes.played (ap Ok some) }
