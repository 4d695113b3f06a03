-- Containers stay open over events that swap no row and close no shard.
use Rattle.std.proofs.Common.{◌≡◌, ℕ, ◌+◌, Bool, true, false, List, [], ◌∷◌, ◌++◌, Option, Some, None, refl, sym, ◌∙◌, ap, subst}
use Rattle.std.specs.Prelude.{is_some}
use Rattle.object_words.specs.Names.{at}
use Rattle.object_words.specs.Roots.{Root}
use Rattle.realm_model.specs.Containers.{with_id, row_at_home, is_standing}
use Rattle.realm_model.specs.Facts.{Home}
use Rattle.realm_model.specs.Histories.{world_of}
use Rattle.realm_model.specs.Settings.{SettingsView}
use Rattle.realm_model.specs.States.{State, at_moment, touched}
use Rattle.realm_model.specs.Steps.{touch_of}
use Rattle.realm_model.specs.Worlds.{World, start, homes_after, happens}
use Rattle.realm_model.specs.declared.op.Op.{Op}
use Rattle.realm_model.specs.declared.op.Op.TheVariants.{BucketSwap, CloseShard, Shut}
use Rattle.realm_model.specs.declared.event.Event.{Event}
use Rattle.realm_model.specs.declared.event.Reply.{Reply}
use Rattle.realm_model.proofs.Runs.{run-append}
use Rattle.index_law.specs.Serving.{closes, NoneCloses}
use Rattle.once_law.specs.Runs.{IsOpen}

-- every operation but the swap of a row and the end of a shard
abbrev pub keeps_open : Op → Bool
keeps_open (BucketSwap zone name expected new) = false
keeps_open (CloseShard zone key id force) = false
keeps_open (Shut zone key) = false
keeps_open op = true

pub root_kept : (settings : SettingsView) (st : State) (op : Op) → keeps_open op ≡ true → (touched settings st (touch_of settings st op)).root ≡ st.root
root_kept settings st (BucketSwap zone name expected new) keeps = absurd cc
root_kept settings st op keeps = refl

pub homes_kept : (homes : ℕ → Option Home) (op : Op) (reply : Reply) (number : ℕ) → keeps_open op ≡ true → homes_after homes op reply number ≡ homes
homes_kept homes (BucketSwap zone name expected new) reply number keeps = absurd cc
homes_kept homes op reply number keeps = refl

closes_none : (op : Op) → keeps_open op ≡ true → closes op ≡ false
closes_none (CloseShard zone key id force) keeps = absurd cc
closes_none (Shut zone key) keeps = absurd cc
closes_none op keeps = refl

none_behind : (history : List Event) (e : Event) → closes e.op ≡ false → NoneCloses history → NoneCloses (history ++ e ∷ [])
none_behind [] e none all = (none, tt)
none_behind (x ∷ xs) e none all = (all.0, none_behind xs e none all.1)

-- whether a container stands is said by its home and the rows of zone 1
row_by_root : (o : Option Home) (s t : State) (container : ℕ) → s.root 1 ≡ t.root 1 → row_at_home o s 1 container ≡ row_at_home o t 1 container
row_by_root None s t container same = refl
row_by_root (Some home) s t container same = ap (λ (r : Root). with_id (at r.buckets home.name) container) same

standing_same : (w v : World) (container : ℕ) → v.rows.homes ≡ w.rows.homes → v.state.root 1 ≡ w.state.root 1 → is_standing v.rows v.state container ≡ is_standing w.rows w.state container
standing_same w v container homes roots =
    ap (λ (f : ℕ → Option Home). is_some (row_at_home (f container) v.state 1 container)) homes
    ∙ ap (λ o. is_some o) (row_by_root (w.rows.homes container) v.state w.state container roots)

module _ (settings : SettingsView) (history : List Event) (e : Event) (keeps : keeps_open e.op ≡ true) where
  abbrev w : World
  w = world_of settings history

  behind : world_of settings (history ++ e ∷ []) ≡ happens settings w e
  behind = run-append settings (start settings) history (e ∷ [])

  homes : (happens settings w e).rows.homes ≡ w.rows.homes
  homes = homes_kept w.rows.homes e.op e.reply (w.state.count + 1) keeps

  roots : (happens settings w e).state.root ≡ w.state.root
  roots = root_kept settings (at_moment w.state e.moment) e.op keeps

  pub open_one : IsOpen settings history → IsOpen settings (history ++ e ∷ [])
  open_one opened = record {
    closes = none_behind history e (closes_none e.op keeps) opened.closes;
    stand = λ container home made.
        subst (λ (v : World). is_standing v.rows v.state container ≡ true) (sym behind)
        (standing_same w (happens settings w e) container homes (ap (λ (f : ℕ → Root). f 1) roots)
        ∙ opened.stand container home (ap (λ (f : ℕ → Option Home). f container) (sym homes) ∙ ap (λ (v : World). v.rows.homes container) (sym behind) ∙ made));
  }
