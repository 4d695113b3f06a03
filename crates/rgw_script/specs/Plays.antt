-- What each line of a script does in its scene, and what it prints.
use Rattle.std.specs.Prelude.{◌≡◌, ◌≢◌, ◌⊎◌, ℕ, ◌≤◌, List, [], ◌∷◌, ◌++◌}
use Rattle.realm_model.specs.Settings.{SettingsView}
use Rattle.realm_model.specs.declared.event.Event.{Event}
use Rattle.script_words.specs.Lines.{IsLine}
use Rattle.script_words.specs.Replies.{outcome_text, reply_line, named_line, count_line}
use Rattle.script_words.specs.declared.line.Line.{Line}
use Rattle.script_words.specs.declared.line.Line.TheVariants.{Clock, Start, Step, Run, Stop, Do}
use Rattle.script_words.specs.declared.outcome.ActorOutcome.{ActorOutcome}
use Rattle.script_player.specs.Going.{ActsAlone}
use Rattle.script_player.specs.Meanings.{Means}
use Rattle.script_player.specs.Plays.{asked, fits, IsPlaying, ComesSoFar}
use Rattle.script_player.specs.declared.player.Player.{Player}
use Rattle.rgw_script.specs.Scenes.{Role, unused, plays, gone, asked_of, view_of, Scene, with_part, with_history, next_role, with_next}

-- ---- events

-- the history grew by so many events, each of the actor of this pass at the scene's moment, and by nothing else
abbrev pub Acts : Scene → ℕ → ℕ → List Event → Type 0
Acts s pass count history = ActsAlone s.moment count (view_of pass s.history) (view_of pass history)

-- the actor made so many events, and ended so: its own events bear that out
pub record Ends (settings : SettingsView) (s : Scene) (role : Role) (count : ℕ) (history : List Event) (outcome : ActorOutcome) (shown : List ℕ) : Type 0 where
  pub acts : Acts s role.pass count history
  pub means : Means role.zone role.asker role.verb outcome shown settings (view_of role.pass history)

-- the actor made so many events, and by its own events it has not ended
pub record GoesOn (settings : SettingsView) (s : Scene) (role : Role) (count : ℕ) (history : List Event) : Type 0 where
  pub acts : Acts s role.pass count history
  pub player : Player
  pub asks : asked player ≡ asked_of role
  pub stands : fits player settings (view_of role.pass history)
  pub playing : IsPlaying player

-- ---- lines

-- the actor made as many events, and that is told
pub record StepsOn (settings : SettingsView) (s : Scene) (name : List ℕ) (role : Role) (events : ℕ) (t : Scene) (printed : List ℕ) : Type 0 where
  pub history : List Event
  pub goes_on : GoesOn settings s role events history
  pub leaves : t ≡ with_history s history
  pub tells : printed ≡ count_line name events

-- the actor of this name ended by so many events, and its reply is told
pub record RunsOut (settings : SettingsView) (s : Scene) (name : List ℕ) (role : Role) (count : ℕ) (t : Scene) (printed : List ℕ) : Type 0 where
  pub history : List Event
  pub outcome : ActorOutcome
  pub shown : List ℕ
  pub ends : Ends settings s role count history outcome shown
  pub leaves : t ≡ with_part (with_history s history) name gone
  pub tells : printed ≡ named_line name (outcome_text outcome shown)

-- an actor without a name began, and ended, and its reply is told
pub record Does (settings : SettingsView) (s : Scene) (role : Role) (t : Scene) (printed : List ℕ) : Type 0 where
  pub count : ℕ
  pub history : List Event
  pub outcome : ActorOutcome
  pub shown : List ℕ
  pub ends : Ends settings s role count history outcome shown
  pub leaves : t ≡ with_next (with_history s history)
  pub tells : printed ≡ reply_line (outcome_text outcome shown)

-- a line is played in a scene: it leaves that one, and prints this
abbrev pub Plays : SettingsView → Scene → Line → Scene → List ℕ → Type 0
Plays settings s (Clock moment) t printed = (t ≡ record s { moment = moment }) × (printed ≡ [])
Plays settings s (Start name zone verb) t printed =
    (s.parts name ≡ unused) × (t ≡ with_next (with_part s name (plays (next_role s zone verb)))) × (printed ≡ [])
Plays settings s (Step name events) t printed =
    (role : Role) × (s.parts name ≡ plays role)
    × (StepsOn settings s name role events t printed
    ⊎ ((count : ℕ) × (count ≤ events) × RunsOut settings s name role count t printed))
Plays settings s (Run name) t printed =
    (role : Role) × (s.parts name ≡ plays role) × (count : ℕ) × RunsOut settings s name role count t printed
Plays settings s (Stop name) t printed =
    (role : Role) × (s.parts name ≡ plays role) × (t ≡ with_part s name gone) × (printed ≡ [])
Plays settings s (Do zone verb) t printed = Does settings s (next_role s zone verb) t printed

-- ---- lines that are not played

-- the line starts an actor under a name that was used, or names one that does not play
abbrev pub Misses : Scene → Line → Type 0
Misses s (Clock moment) = ⊥
Misses s (Start name zone verb) = s.parts name ≢ unused
Misses s (Step name events) = (role : Role) → s.parts name ≢ plays role
Misses s (Run name) = (role : Role) → s.parts name ≢ plays role
Misses s (Stop name) = (role : Role) → s.parts name ≢ plays role
Misses s (Do zone verb) = ⊥

-- the text is bad in this scene: it is no line, or one that can't be played
abbrev pub IsBad : ℕ → Scene → List ℕ → Type 0
IsBad zones s text = (line : Line) → IsLine zones text line → Misses s line

-- ---- many lines

-- the text is a line, and was played
pub record PlaysOne (settings : SettingsView) (s : Scene) (text : List ℕ) (t : Scene) (printed : List ℕ) : Type 0 where
  pub line : Line
  pub meant : IsLine settings.zones text line
  pub played : Plays settings s line t printed

-- the texts were played, one after another
abbrev pub PlaysAll : SettingsView → Scene → List (List ℕ) → Scene → List ℕ → Type 0
PlaysAll settings s [] t printed = (t ≡ s) × (printed ≡ [])
PlaysAll settings s (text ∷ texts) t printed =
    (mid : Scene) × (first : List ℕ) × (rest : List ℕ) × PlaysOne settings s text mid first
    × PlaysAll settings mid texts t rest × (printed ≡ first ++ rest)

-- ---- a line that was left

-- the actor made so many events, and all its own are those of its verb, in the order in which its task makes them, as far as it
-- came
pub record BreaksOff (settings : SettingsView) (s : Scene) (role : Role) (count : ℕ) (history : List Event) : Type 0 where
  pub acts : Acts s role.pass count history
  pub so_far : ComesSoFar (asked_of role) settings (view_of role.pass history)

-- what a line that was left leaves of its actor: it broke off, or it ended, and the fault came behind its last event
abbrev pub LeavesActor : SettingsView → Scene → Role → ℕ → List Event → Type 0
LeavesActor settings s role count history =
    BreaksOff settings s role count history
    ⊎ ((outcome : ActorOutcome) × (shown : List ℕ) × Ends settings s role count history outcome shown)

-- the events that a line had made when it was left; none where memory for the actor of a `do` was wanting
abbrev pub Begins : SettingsView → Scene → Line → List Event → Type 0
Begins settings s (Clock moment) history = history ≡ s.history
Begins settings s (Start name zone verb) history = history ≡ s.history
Begins settings s (Step name events) history =
    (role : Role) × (s.parts name ≡ plays role) × (count : ℕ) × (count ≤ events) × LeavesActor settings s role count history
Begins settings s (Run name) history =
    (role : Role) × (s.parts name ≡ plays role) × (count : ℕ) × LeavesActor settings s role count history
Begins settings s (Stop name) history = history ≡ s.history
Begins settings s (Do zone verb) history =
    (history ≡ s.history) ⊎ ((count : ℕ) × LeavesActor settings s (next_role s zone verb) count history)
