-- Changes of heads under tags: none is above its head, and the last one is the head's.
use Rattle.std.specs.Prelude.{◌≡◌, ℕ, ◌<◌, ◌≤◌, List, Some, None}
use Rattle.object_words.specs.Keys.{container_of}
use Rattle.object_words.specs.Heads.{Head, no_head, row_of}
use Rattle.realm_model.specs.Facts.{TagNote}
use Rattle.realm_model.specs.Phases.{OwnChange}
use Rattle.index_law.specs.Tables.{Heads, Notes, Lasts}

-- a change of a head is not above it, and with its version has its row
pub record IsBelow (head : Head) (change : OwnChange) : Type 0 where
  pub positive : 0 < change.version
  pub not_above : change.version ≤ head.version
  pub same_row : change.version ≡ head.version → change.row ≡ row_of head.slot

-- the change under the tag is the one that the head has
pub record IsLast (tags : Notes) (head : Head) (zone container : ℕ) (name : List ℕ) (tag : ℕ) : Type 0 where
  pub note : TagNote
  pub there : tags tag ≡ Some note
  pub zone_is : note.zone ≡ zone
  pub container_is : container_of note.key ≡ container
  pub name_is : note.name ≡ name
  pub change : OwnChange
  pub made : note.change ≡ Some change
  pub version_is : change.version ≡ head.version

pub record ChangesBelow (tags : Notes) (heads : Heads) (last : Lasts) : Type 0 where
  pub below : (tag : ℕ) (note : TagNote) (change : OwnChange) → tags tag ≡ Some note → note.change ≡ Some change → IsBelow (heads note.zone (container_of note.key) note.name) change
  pub none : (zone container : ℕ) (name : List ℕ) → last zone container name ≡ None → heads zone container name ≡ no_head
  pub last_is : (zone container : ℕ) (name : List ℕ) (tag : ℕ) → last zone container name ≡ Some tag → IsLast tags (heads zone container name) zone container name tag
