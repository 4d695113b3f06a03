-- What the words of the command line mean: `once`, `script` or `serve`, and options behind it.
use Rattle.std.specs.Prelude.{ℕ, ◌*◌, ◌&&◌, ◌||◌, Bool, true, false, nat_le, List, [], ◌∷◌, drop, Option, Some, None, is_some, option_and_then, if◌then◌else◌, bytes_eq, codes}
use Rattle.std.specs.Option.{option_map}
use Rattle.realm_model.specs.Settings.{SettingsView, settings_of, second}
use Rattle.rgw_words.specs.Values.{is_bucket, moment_of}
use Rattle.swift_auth.specs.Users.{UserView}
use Rattle.rgw_words.specs.Options.{value_of, are_options, number_in}
use Rattle.rgw_words.specs.NamedUsers.{named_users}
use Rattle.rgw_words.specs.declared.run_words.RunWords.{RunWords}
use Rattle.rgw_words.specs.declared.serve_words.Serving.{Serving}
use Rattle.rgw_words.specs.declared.serve_words.ServeWords.{ServeWords}

-- the container that is made first, if one is
abbrev pub bucket_in : Option (List ℕ) → Option (Option (List ℕ))
bucket_in None = Some None
bucket_in (Some word) = if is_bucket word then Some (Some word) else None

-- the moment that is said, if one is
abbrev pub now_in : Option (List ℕ) → Option (Option ℕ)
now_in None = Some None
now_in (Some word) = option_map (λ moment. Some moment) (moment_of word)

-- the settings of one zone: the frames have at most 8 GiB; a chain waits two hours, and a shard has 100000 objects
abbrev pub settings_with : ℕ → ℕ → ℕ → ℕ → ℕ → ℕ → Option SettingsView
settings_with stripe frame frames shards seconds largest =
    if nat_le (frames * frame) 8589934592
    then Some (settings_of 1 stripe frame frames shards (seconds * second) (7200 * second) largest 100000) else None

-- the settings that the options say: stripes of 4 MiB, 16384 frames of 4 KiB, 11 shards in a new container, 120 seconds for
-- a tag and objects of up to 5 GiB where they say nothing
abbrev pub settings_in : List (List ℕ) → Option SettingsView
settings_in options =
    option_and_then (λ stripe.
    option_and_then (λ frame.
    option_and_then (λ frames.
    option_and_then (λ shards.
    option_and_then (λ seconds.
    option_and_then (λ largest. settings_with stripe frame frames shards seconds largest)
    (number_in 1 5368709120 5368709120 (value_of (codes "--largest") options)))
    (number_in 1 86400 120 (value_of (codes "--tag-seconds") options)))
    (number_in 1 1999 11 (value_of (codes "--shards") options)))
    (number_in 1 4194304 16384 (value_of (codes "--frames") options)))
    (number_in 16 65536 4096 (value_of (codes "--frame") options)))
    (number_in 16 4194304 4194304 (value_of (codes "--stripe") options))

-- what the options of every command say
pub record UsualWords : Type 0 where
  pub bucket : Option (List ℕ)
  pub settings : SettingsView
  pub now : Option ℕ

abbrev pub usual_with : Option (List ℕ) → SettingsView → Option ℕ → UsualWords
usual_with bucket settings now = record { bucket = bucket; settings = settings; now = now }

abbrev pub usual_in : List (List ℕ) → Option UsualWords
usual_in options =
    option_and_then (λ bucket.
    option_and_then (λ settings.
    option_map (usual_with bucket settings) (now_in (value_of (codes "--now") options)))
    (settings_in options))
    (bucket_in (value_of (codes "--bucket") options))

-- what the words say, where they are this command and options behind it, those of a server among them or not, whatever
-- the text of their users says; nothing where they are not
abbrev pub usual_behind : List ℕ → Bool → List (List ℕ) → Option UsualWords
usual_behind command serving [] = None
usual_behind command serving (word ∷ options) =
    if bytes_eq word command && are_options serving options then usual_in options else None

-- the users text behind a command, if it is there
abbrev pub users_text : List (List ℕ) → Option (List ℕ)
users_text words = value_of (codes "--users") (drop 1 words)

abbrev pub words_with : UsualWords → List UserView → RunWords
words_with usual users =
    record { bucket = usual.bucket; settings = usual.settings; now = usual.now; users = users }

-- what the words ask, where they are this command and options behind it; nothing where they are refused
abbrev pub words_behind : List ℕ → Bool → List (List ℕ) → Option RunWords
words_behind command serving words =
    option_and_then (λ usual. option_map (words_with usual) (named_users (users_text words)))
    (usual_behind command serving words)

-- they ask it, if the text of their users is one, which is not known where memory is wanting
abbrev pub may_be_behind : List ℕ → Bool → List (List ℕ) → Bool
may_be_behind command serving words = is_some (usual_behind command serving words)

-- to serve a connection
abbrev pub once_of : List (List ℕ) → Option RunWords
once_of words = words_behind (codes "once") false words

abbrev pub may_ask_once : List (List ℕ) → Bool
may_ask_once words = may_be_behind (codes "once") false words

-- to run a script
abbrev pub script_of : List (List ℕ) → Option RunWords
script_of words = words_behind (codes "script") false words

abbrev pub may_ask_script : List (List ℕ) → Bool
may_ask_script words = may_be_behind (codes "script") false words

-- how many connections a server takes in all; none is no end
abbrev pub accepts_in : Option (List ℕ) → Option (Option ℕ)
accepts_in None = Some None
accepts_in (Some word) = option_map (λ accepts. Some accepts) (number_in 1 1000000 1 (Some word))

-- what the options say of a server's connections: port 8080 and 8 workers where they say nothing
abbrev pub serving_with : List (List ℕ) → Option Serving
serving_with options =
    option_and_then (λ port.
    option_and_then (λ workers.
    option_map (λ accepts. record { port = port; workers = workers; accepts = accepts })
    (accepts_in (value_of (codes "--accepts") options)))
    (number_in 1 64 8 (value_of (codes "--workers") options)))
    (number_in 1 65528 8080 (value_of (codes "--port") options))

abbrev pub serving_in : List (List ℕ) → Option Serving
serving_in [] = None
serving_in (word ∷ options) = serving_with options

-- to serve the connections of a port
abbrev pub serve_of : List (List ℕ) → Option ServeWords
serve_of words =
    option_and_then (λ serving.
    option_map (λ run. record { run = run; serving = serving }) (words_behind (codes "serve") true words))
    (serving_in words)

abbrev pub may_ask_serve : List (List ℕ) → Bool
may_ask_serve words = is_some (serving_in words) && may_be_behind (codes "serve") true words

-- they ask for a run, if the text of their users is one
abbrev pub may_ask : List (List ℕ) → Bool
may_ask words = may_ask_serve words || (may_ask_once words || may_ask_script words)
