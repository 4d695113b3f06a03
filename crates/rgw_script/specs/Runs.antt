-- What running a script comes to.
use Rattle.std.specs.Prelude.{◌≡◌, ◌≢◌, ◌⊎◌, ℕ, ◌+◌, ◌^◌, ◌≤◌, false, List, [], ◌∷◌, ◌++◌, length, Option, Some, None, unwrap_or, slice_get, Result, Ok, Err}
use Rattle.std.specs.Io.KnownBytes.{Consumes, Appends, IsAtEnd}
use Rattle.std.specs.List.{AllByRecursion}
use Rattle.gw_io.specs.Outside.{Rose, AppendsProperPrefix}
use Rattle.container_preset.specs.Presets.{preset, Stops}
use Rattle.realm_model.specs.Doors.{DoorView, actor_at}
use Rattle.realm_model.specs.Settings.{SettingsView}
use Rattle.realm_model.specs.declared.event.Event.{Event}
use Rattle.swift_auth.specs.Users.{UserView, standard_user, account_of}
use Rattle.script_lines.specs.Lines.{IsUnbroken, lines_of}
use Rattle.script_lines.specs.Reading.{BeginsTooLong}
use Rattle.script_lines.specs.declared.reader.TheConstants.{LINE_LIMIT, INPUT_LIMIT}
use Rattle.script_words.specs.Lines.{IsLine}
use Rattle.script_words.specs.Replies.{bad_line}
use Rattle.script_words.specs.declared.line.Line.{Line}
use Rattle.rgw_script.specs.Plays.{IsBad, PlaysOne, PlaysAll, Begins}
use Rattle.rgw_script.specs.Scenes.{unused, Scene}
use Rattle.rgw_script.specs.declared.fault.ScriptFault.{ScriptFault}
use Rattle.rgw_script.specs.declared.fault.ScriptFault.TheVariants.{OutOfMemory, ReadFault, WriteFault, Worn, BadLine}
use Rattle.rgw_script.specs.declared.running.ScriptPlan.{ScriptPlan}

-- ---- where the lines begin

-- the door before the first event: the first actor of the first pass acts
abbrev pub first_door : DoorView
first_door = record { pass = 1; count = 0; used = false; seen = [] }

-- the first of the users, of whom there is one at least, makes the requests
abbrev pub first_user : ScriptPlan → UserView
first_user plan = unwrap_or (slice_get plan.users 0) standard_user

-- the events that make the container of a plan, of this user's account, all at its moment
abbrev pub made : SettingsView → UserView → Option (List ℕ) → ℕ → List Event
made settings user None moment = []
made settings user (Some bucket) moment = preset settings (actor_at first_door) bucket (account_of user) 1 moment

-- no name is used, and the actors have the passes from 2 on
abbrev pub opening : SettingsView → ScriptPlan → Scene
opening settings plan = record {
  moment = plan.moment;
  user = first_user plan;
  parts = λ name. unused;
  next = 2;
  history = made settings (first_user plan) plan.bucket plan.moment;
}

-- ---- lines of the input

-- the lines, each with its line feed
abbrev pub with_breaks : List (List ℕ) → List ℕ
with_breaks [] = []
with_breaks (text ∷ texts) = text ++ 10 ∷ with_breaks texts

-- a line that is not too long
abbrev pub IsShort : List ℕ → Type 0
IsShort text = length text ≤ LINE_LIMIT

-- where the input tells what is left of it: what was read of it, but for what waits, is not more than an input may have
abbrev pub IsWithin : Option (List ℕ) → List ℕ → List ℕ → Type 0
IsWithin None read rest = Unit {0}
IsWithin (Some all) read rest = length read ≤ INPUT_LIMIT + length rest

-- the input was read to its end, and has these lines, none of them too long; nor is the input
pub record ReadsAll (left left' : Option (List ℕ)) (texts : List (List ℕ)) : Type 0 where
  pub read : List ℕ
  pub consumed : Consumes left left' read
  pub ended : IsAtEnd left'
  pub lines : texts ≡ lines_of read
  pub short : AllByRecursion IsShort texts
  pub within : IsWithin left read []

-- These lines were read, and behind them these bytes; or the last of the lines had no line feed, and the input ended. No
-- line is too long, nor is the input up to there.
pub record ReadsSome (left left' : Option (List ℕ)) (texts : List (List ℕ)) (rest : List ℕ) : Type 0 where
  pub read : List ℕ
  pub consumed : Consumes left left' read
  pub unbroken : AllByRecursion IsUnbroken texts
  pub short : AllByRecursion IsShort texts
  pub within : IsWithin left read rest
  pub fronts : (read ≡ with_breaks texts ++ rest) ⊎ ((texts ≡ lines_of read) × (rest ≡ []) × IsAtEnd left')

-- the bytes begin with this line, which is not too long; the last line of the input may go without its line feed
pub record IsNext (left' : Option (List ℕ)) (rest text : List ℕ) : Type 0 where
  pub unbroken : IsUnbroken text
  pub short : IsShort text
  pub begins : ((more : List ℕ) × (rest ≡ text ++ 10 ∷ more)) ⊎ ((rest ≡ text) × (text ≢ []) × IsAtEnd left')

-- ---- a line at which the script ended

-- What a line left that was not played and printed whole: what was written, and the history behind it.
abbrev pub LeavesText : SettingsView → Scene → ℕ → List ℕ → Option (List ℕ) → Option (List ℕ) → List Event → ScriptFault → Type 0
LeavesText settings s number text taken taken' history (BadLine line) =
    IsBad settings.zones s text × (line ≡ number) × (history ≡ s.history) × Appends taken taken' (bad_line number)
LeavesText settings s number text taken taken' history WriteFault =
    ((t : Scene) × (printed : List ℕ) × PlaysOne settings s text t printed × (history ≡ t.history) × AppendsProperPrefix taken taken' printed)
    ⊎ (IsBad settings.zones s text × (history ≡ s.history) × AppendsProperPrefix taken taken' (bad_line number))
LeavesText settings s number text taken taken' history OutOfMemory =
    ((history ≡ s.history) ⊎ ((line : Line) × IsLine settings.zones text line × Begins settings s line history)) × Appends taken taken' []
LeavesText settings s number text taken taken' history Worn =
    (length history ≡ 2 ^ 62) × ((line : Line) × IsLine settings.zones text line × Begins settings s line history) × Appends taken taken' []
LeavesText settings s number text taken taken' history ReadFault = ⊥

-- A line that is too long, or with which the input is, is bad: that was written, or not whole.
abbrev pub LeavesTooLong : Scene → ℕ → Option (List ℕ) → Option (List ℕ) → List Event → ScriptFault → Type 0
LeavesTooLong s number taken taken' history (BadLine line) =
    (line ≡ number) × (history ≡ s.history) × Appends taken taken' (bad_line number)
LeavesTooLong s number taken taken' history WriteFault = (history ≡ s.history) × AppendsProperPrefix taken taken' (bad_line number)
LeavesTooLong s number taken taken' history OutOfMemory = (history ≡ s.history) × Appends taken taken' []
LeavesTooLong s number taken taken' history Worn = ⊥
LeavesTooLong s number taken taken' history ReadFault = ⊥

-- no line behind the ones that were played was read whole
abbrev pub LeavesUnread : Scene → List ℕ → Option (List ℕ) → Option (List ℕ) → List Event → ScriptFault → Type 0
LeavesUnread s rest taken taken' history ReadFault = IsUnbroken rest × (history ≡ s.history) × Appends taken taken' []
LeavesUnread s rest taken taken' history OutOfMemory = (history ≡ s.history) × Appends taken taken' []
LeavesUnread s rest taken taken' history fault = ⊥

-- ---- lines

-- All lines of the input were played, each in the scene that the one before it left, and what they print was written.
pub record PlaysThrough (settings : SettingsView) (s : Scene) (left left' taken taken' : Option (List ℕ)) (history : List Event) : Type 0 where
  pub texts : List (List ℕ)
  pub last : Scene
  pub printed : List ℕ
  pub played : PlaysAll settings s texts last printed
  pub reads : ReadsAll left left' texts
  pub written : Appends taken taken' printed
  pub history_is : history ≡ last.history

-- Some lines were played, and what they print was written. At the next one the script ended so.
pub record PlaysUpTo (settings : SettingsView) (s : Scene) (left left' taken taken' : Option (List ℕ)) (history : List Event) (fault : ScriptFault) : Type 0 where
  pub texts : List (List ℕ)
  pub last : Scene
  pub printed : List ℕ
  pub played : PlaysAll settings s texts last printed
  pub rest : List ℕ
  pub reads : ReadsSome left left' texts rest
  pub between : Option (List ℕ)
  pub written : Appends taken between printed
  pub leaves :
      ((text : List ℕ) × IsNext left' rest text × LeavesText settings last (length texts + 1) text between taken' history fault)
      ⊎ ((BeginsTooLong (length (with_breaks texts)) rest × LeavesTooLong last (length texts + 1) between taken' history fault)
      ⊎ LeavesUnread last rest between taken' history fault)

abbrev pub RunsLines : SettingsView → Scene → Option (List ℕ) → Option (List ℕ) → Option (List ℕ) → Option (List ℕ) → List Event → Result (Unit {0}) ScriptFault → Type 0
RunsLines settings s left left' taken taken' history (Ok done) = PlaysThrough settings s left left' taken taken' history
RunsLines settings s left left' taken taken' history (Err fault) = PlaysUpTo settings s left left' taken taken' history fault

-- ---- scripts

-- The container was not made: no event was, or a front of those that make it; for want of memory, or since the realm has all
-- the events that it may have.
pub record Unmade (settings : SettingsView) (bucket : List ℕ) (moment : ℕ) (history : List Event) (fault : ScriptFault) : Type 0 where
  pub door : DoorView
  pub stops : Stops settings (Unit {0}) first_door door bucket moment
  pub history_is : history ≡ door.seen
  pub cause : (fault ≡ OutOfMemory) ⊎ ((fault ≡ Worn) × (length history ≡ 2 ^ 62))

-- the container of a plan was not made
abbrev pub IsUnmade : SettingsView → ScriptPlan → List Event → ScriptFault → Type 0
IsUnmade settings plan history fault =
    (bucket : List ℕ) × (plan.bucket ≡ Some bucket) × Unmade settings bucket plan.moment history fault

-- and nothing was read or written
pub record IsUnbegun (settings : SettingsView) (plan : ScriptPlan) (left left' taken taken' : Option (List ℕ)) (history : List Event) (fault : ScriptFault) : Type 0 where
  pub unmade : IsUnmade settings plan history fault
  pub unread : left' ≡ left
  pub unwritten : taken' ≡ taken

-- the container was made, and then the lines ran; or it was not
abbrev pub RunsScript : SettingsView → ScriptPlan → Option (List ℕ) → Option (List ℕ) → Option (List ℕ) → Option (List ℕ) → List Event → Result (Unit {0}) ScriptFault → Type 0
RunsScript settings plan left left' taken taken' history result =
    RunsLines settings (opening settings plan) left left' taken taken' history result
    ⊎ ((fault : ScriptFault) × (result ≡ Err fault) × IsUnbegun settings plan left left' taken taken' history fault)

-- each count of faults rose where its call failed, and stayed at every other end
pub record HasScriptCause (read read' write write' : ℕ) (result : Result (Unit {0}) ScriptFault) : Type 0 where
  pub read_rose : result ≡ Err ReadFault → Rose read read'
  pub read_kept : result ≢ Err ReadFault → read' ≡ read
  pub write_rose : result ≡ Err WriteFault → Rose write write'
  pub write_kept : result ≢ Err WriteFault → write' ≡ write
