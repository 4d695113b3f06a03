-- What the tests of an actor's phase say.
use Rattle.std.proofs.Common.{◌≡◌, ℕ, ◌==◌, ◌&&◌, not, Bool, true, false, List, Option, Some, None, refl, sym}
use Rattle.std.specs.Prelude.{bytes_eq, is_some}
use Rattle.std.proofs.lemmas.Slice.Eq.{bytes_eq-Decides}
use Rattle.rgw_types.specs.declared.pool_key.Key.{Key}
use Rattle.rgw_types.specs.declared.stamp.Stamp.{Stamp}
use Rattle.object_words.specs.declared.entry.Guard.{Guard}
use Rattle.object_words.specs.Keys.{container_of}
use Rattle.object_words.specs.Limits.{is_name}
use Rattle.object_words.specs.Rows.{RowView}
use Rattle.realm_model.specs.Tests.{same_flag, same_stamp, same_row, is_so}
use Rattle.realm_model.specs.Phases.{OwnChange, OwnTag, Sighting, Phase}
use Rattle.realm_model.specs.Needs.{object_limit, has_read, names_shard, has_no_tag, is_pending, is_over, is_tag_of, is_change, may_change_head, is_suggestion}
use Rattle.realm_model.specs.Settings.{SettingsView}
use Rattle.realm_model.specs.Allowed.{meets_need}
use Rattle.realm_model.specs.declared.op.Op.TheVariants.{Prepare, Complete, Cancel}
use Rattle.realm_model.proofs.Computing.{left_of, right_of}
use Rattle.realm_model.proofs.ObjectLemmas.{number_same}

-- there is one, and it passes the test
pub record So {A : Type 0} (o : Option A) (test : A → Bool) : Type 0 where
  pub x : A
  pub is : o ≡ Some x
  pub passes : test x ≡ true

pub so : {A : Type 0} (o : Option A) (test : A → Bool) → is_so o test ≡ true → So o test
so None test is = cc
so (Some x) test is = record { x = x; is = refl; passes = is }

pub same_text : (a b : List ℕ) → bytes_eq a b ≡ true → a ≡ b
same_text a b is = (bytes_eq-Decides a b).0 is

flag_is : (a b : Bool) → same_flag a b ≡ true → a ≡ b
flag_is true b is = sym is
flag_is false true is = cc
flag_is false false is = refl

pub stamp_is : (a b : Stamp) → same_stamp a b ≡ true → a ≡ b
stamp_is a b is =
    let micros = number_same a.micros b.micros (left_of (a.micros == b.micros) (a.zone == b.zone) is) in
    let zone = number_same a.zone b.zone (right_of (a.micros == b.micros) (a.zone == b.zone) is) in
    λ i. record { micros = micros i; zone = zone i }

pub row_is : (a b : RowView) → same_row a b ≡ true → a ≡ b
row_is a b is =
    let rest = right_of (same_flag a.exists b.exists) _ is in
    let more = right_of (a.size == b.size) _ rest in
    let texts = right_of (same_stamp a.stamp b.stamp) _ more in
    let exists = flag_is a.exists b.exists (left_of (same_flag a.exists b.exists) _ is) in
    let size = number_same a.size b.size (left_of (a.size == b.size) _ rest) in
    let stamp = stamp_is a.stamp b.stamp (left_of (same_stamp a.stamp b.stamp) _ more) in
    let etag = same_text a.etag b.etag (left_of (bytes_eq a.etag b.etag) (bytes_eq a.kind b.kind) texts) in
    let kind = same_text a.kind b.kind (right_of (bytes_eq a.etag b.etag) (bytes_eq a.kind b.kind) texts) in
    λ i. record { exists = exists i; size = size i; stamp = stamp i; etag = etag i; kind = kind i }

pub none_of : {A : Type 0} (o : Option A) → not (is_some o) ≡ true → o ≡ None
none_of None is = refl
none_of (Some x) is = cc

-- ---- the change

pub record IsChange (change : Option OwnChange) (version : ℕ) (row : RowView) : Type 0 where
  pub change_is : change ≡ Some (record { version = version; row = row })

change_of : (change : Option OwnChange) (version : ℕ) (row : RowView) → is_change change version row ≡ true → change ≡ Some (record { version = version; row = row })
change_of None version row is = cc
change_of (Some c) version row is =
    let version_is = number_same c.version version (left_of (c.version == version) (same_row c.row row) is) in
    let row_same = row_is c.row row (right_of (c.version == version) (same_row c.row row) is) in
    λ i. Some (record { version = version_is i; row = row_same i })

-- ---- the own tag

-- the own tag is that of the name in the zone, and nothing else is known of it
pub record OwnsTag (p : Phase) (zone : ℕ) (name : List ℕ) (tag : ℕ) : Type 0 where
  pub t : OwnTag
  pub is : p.tag ≡ Some t
  pub zone_is : t.zone ≡ zone
  pub name_is : t.name ≡ name
  pub tag_is : t.guard.tag ≡ tag

-- and its change
pub record Completes (p : Phase) (zone : ℕ) (name : List ℕ) (tag version : ℕ) (row : RowView) : Type 0 where
  pub owns : OwnsTag p zone name tag
  pub change_is : (owns.t).change ≡ Some (record { version = version; row = row })

-- a row that was read names the shard for the name, which is within the bounds of names
pub record Prepares (p : Phase) (zone : ℕ) (key : Key) (name : List ℕ) : Type 0 where
  pub named : is_name object_limit name ≡ true
  pub read : has_read (p.rows zone) 0 (names_shard key name) ≡ true

pub prepares : (settings : SettingsView) (p : Phase) (zone : ℕ) (key : Key) (name : List ℕ) → meets_need settings p (Prepare zone key name) ≡ true → Prepares p zone key name
prepares settings p zone key name may =
    let rest = right_of (has_no_tag p.tag) (is_name object_limit name && has_read (p.rows zone) 0 (names_shard key name)) may in
    record {
      named = left_of (is_name object_limit name) (has_read (p.rows zone) 0 (names_shard key name)) rest;
      read = right_of (is_name object_limit name) (has_read (p.rows zone) 0 (names_shard key name)) rest;
    }

-- and nothing was changed under it
pub record Cancels (p : Phase) (zone : ℕ) (name : List ℕ) (tag : ℕ) : Type 0 where
  pub owns : OwnsTag p zone name tag
  pub change_is : (owns.t).change ≡ None

-- the own tag is open
pub record Writes (p : Phase) (zone container : ℕ) (name : List ℕ) (guard : Guard) : Type 0 where
  pub owns : OwnsTag p zone name guard.tag
  pub pending : is_pending (owns.t).stage ≡ true
  pub container_is : container_of (owns.t).key ≡ container
  pub deadline_is : (owns.t).guard.deadline ≡ guard.deadline
  pub change_is : (owns.t).change ≡ None

abbrev owns_tag : (p : Phase) (t : OwnTag) (zone : ℕ) (name : List ℕ) (tag : ℕ) → p.tag ≡ Some t → is_tag_of t zone name ≡ true → (t.guard.tag == tag) ≡ true → OwnsTag p zone name tag
owns_tag p t zone name tag is of tag_is = record {
  t = t;
  is = is;
  zone_is = number_same t.zone zone (left_of (t.zone == zone) (bytes_eq t.name name) of);
  name_is = same_text t.name name (right_of (t.zone == zone) (bytes_eq t.name name) of);
  tag_is = number_same t.guard.tag tag tag_is;
}

module _ (settings : SettingsView) (p : Phase) (zone : ℕ) (key : Key) (name : List ℕ) (tag : ℕ) where
  pub completes : (version : ℕ) (row : RowView) → meets_need settings p (Complete zone key name tag version row) ≡ true → Completes p zone name tag version row
  completes version row may =
      let o = so p.tag _ may in
      let t = o.x in
      let rest = right_of (not (is_over t.stage)) _ o.passes in
      let of = left_of (is_tag_of t zone name) _ rest in
      let more = right_of (is_tag_of t zone name) _ rest in
      let last = right_of (t.guard.tag == tag) _ more in
      record {
        owns = owns_tag p t zone name tag o.is of (left_of (t.guard.tag == tag) _ more);
        change_is = change_of t.change version row (left_of (is_change t.change version row) _ last);
      }

  pub cancels : meets_need settings p (Cancel zone key name tag) ≡ true → Cancels p zone name tag
  cancels may =
      let o = so p.tag _ may in
      let t = o.x in
      let rest = right_of (is_pending t.stage) _ o.passes in
      let more = right_of (not (is_some t.change)) _ rest in
      let of = left_of (is_tag_of t zone name) _ more in
      let last = right_of (is_tag_of t zone name) _ more in
      record {
        owns = owns_tag p t zone name tag o.is of (left_of (t.guard.tag == tag) _ last);
        change_is = none_of t.change (left_of (not (is_some t.change)) _ rest);
      }

pub writes : (p : Phase) (zone container : ℕ) (name : List ℕ) (guard : Guard) → may_change_head p zone container name guard ≡ true → Writes p zone container name guard
writes p zone container name guard may =
    let o = so p.tag _ may in
    let t = o.x in
    let rest = right_of (is_pending t.stage) _ o.passes in
    let more = right_of t.announced _ rest in
    let place = right_of (not (is_some t.change)) _ more in
    let of = left_of (is_tag_of t zone name) _ place in
    let last = right_of (is_tag_of t zone name) _ place in
    let same = right_of (container_of t.key == container) _ last in
    record {
      owns = owns_tag p t zone name guard.tag o.is of (left_of (t.guard.tag == guard.tag) (t.guard.deadline == guard.deadline) same);
      pending = left_of (is_pending t.stage) _ o.passes;
      container_is = number_same (container_of t.key) container (left_of (container_of t.key == container) _ last);
      deadline_is = number_same t.guard.deadline guard.deadline (right_of (t.guard.tag == guard.tag) (t.guard.deadline == guard.deadline) same);
      change_is = none_of t.change (left_of (not (is_some t.change)) _ more);
    }

-- ---- a suggestion

-- an entry was seen at a moment, and then its head
pub record Suggests (seen : Option Sighting) (revision moment version : ℕ) (row : RowView) : Type 0 where
  pub s : Sighting
  pub is : seen ≡ Some s
  pub revision_is : s.entry.revision ≡ revision
  pub moment_is : s.moment ≡ moment
  pub head_is : s.head ≡ Some (record { version = version; row = row })

pub suggests : (seen : Option Sighting) (revision moment version : ℕ) (row : RowView) → is_suggestion seen revision moment version row ≡ true → Suggests seen revision moment version row
suggests seen revision moment version row may =
    let o = so seen _ may in
    let s = o.x in
    let rest = right_of (s.entry.revision == revision) _ o.passes in
    record {
      s = s;
      is = o.is;
      revision_is = number_same s.entry.revision revision (left_of (s.entry.revision == revision) _ o.passes);
      moment_is = number_same s.moment moment (left_of (s.moment == moment) _ rest);
      head_is = change_of s.head version row (right_of (s.moment == moment) _ rest);
    }
