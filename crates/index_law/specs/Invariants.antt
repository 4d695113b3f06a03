-- All parts of the invariant of the index.
use Rattle.std.specs.Prelude.{ℕ, Option}
use Rattle.realm_model.specs.Facts.{Home}
use Rattle.realm_model.specs.Phases.{ActorId, Phase}
use Rattle.realm_model.specs.Worlds.{World}
use Rattle.index_law.specs.Tables.{Entries, entries_of, Heads, heads_of, Rows, rows_of, Notes, Lasts, Instances, Stands, changes_of}
use Rattle.index_law.specs.Numbers.{Numbers}
use Rattle.index_law.specs.Rows.{RowsStand}
use Rattle.index_law.specs.Tags.{TagsOfPrepare, OpenTags}
use Rattle.index_law.specs.Changes.{ChangesBelow}
use Rattle.index_law.specs.Agreements.{Agreements}
use Rattle.index_law.specs.Sights.{Sights}
use Rattle.index_law.specs.Reads.{ReadsStay}

-- the parts, each over the fields that it speaks of
pub record Index (count clock : ℕ) (entries : Entries) (heads : Heads) (rows : Rows) (tags : Notes) (last : Lasts) (homes : ℕ → Option Home) (instances : Instances) (by : ℕ → ActorId) (phases : ActorId → Phase) : Type 0 where
  pub numbers : Numbers count clock entries heads tags homes instances by phases
  pub rows_stand : RowsStand count homes instances rows phases
  pub tags_of_prepare : TagsOfPrepare tags instances entries phases
  pub open_tags : OpenTags (Stands homes rows) clock tags entries
  pub changes : ChangesBelow tags heads last
  pub agreements : Agreements (Stands homes rows) (changes_of tags) instances entries heads last
  pub sights : Sights (Stands homes rows) count clock tags entries heads last phases
  pub reads : ReadsStay count entries phases

-- what holds of the index after each event of a legal history
abbrev pub IndexHolds : World → Type 0
IndexHolds w = Index w.state.count w.state.clock (entries_of w.state.shards) (heads_of w.state.heads) (rows_of w.state.root) w.index.tags w.index.last w.rows.homes w.rows.instances w.stripes.by w.phases
