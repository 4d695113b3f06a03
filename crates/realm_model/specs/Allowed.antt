-- Which operations an actor may do next, kind by kind.
use Rattle.std.specs.Prelude.{ℕ, ◌==◌, ◌&&◌, ◌||◌, not, Bool, true, length, is_some}
use Rattle.object_words.specs.Keys.{is_key, shard_key}
use Rattle.object_words.specs.Limits.{is_name}
use Rattle.object_words.specs.Names.{at}
use Rattle.object_words.specs.Roots.{version_of}
use Rattle.realm_model.specs.Settings.{SettingsView}
use Rattle.realm_model.specs.Tests.{is_so}
use Rattle.realm_model.specs.Ops.{zone_of}
use Rattle.realm_model.specs.Phases.{Phase}
use Rattle.realm_model.specs.Needs.{is_between, object_limit, has_read, read_showed, names_shard, is_next_shard, is_new_shard, is_form, is_closing, may_release, is_removed, is_pending, is_over, has_no_tag, is_tag_of, is_change, is_shard_of_tag, may_change_head, is_own_write, is_next_part, has_parts, is_seen_range, is_suggestion}
use Rattle.realm_model.specs.declared.op.Op.{Op}
use Rattle.realm_model.specs.declared.op.Op.TheVariants.{BucketRead, BucketSwap, AccountPage, BucketPage, ShardMake, Prepare, Complete, Cancel, Page, Suggest, Stats, CloseShard, Release, Shut, HeadRead, HeadWrite, TailMake, TailRead, Announce}

-- the rows of one page are at most so many
abbrev pub page_limit : ℕ
page_limit = 1000

-- what an operation needs of its actor's phase
abbrev pub meets_need : SettingsView → Phase → Op → Bool
meets_need settings p (BucketRead zone name) = true
meets_need settings p (BucketSwap zone name expected new) =
    is_so (at (p.rows zone) name) (λ read. version_of read.row == expected && is_form p zone name read.row new)
meets_need settings p (AccountPage zone account after limit) = is_between 1 page_limit limit
meets_need settings p (BucketPage zone after limit) = is_between 1 page_limit limit
meets_need settings p (ShardMake zone key) = is_next_shard p zone key
meets_need settings p (Prepare zone key name) =
    has_no_tag p.tag && (is_name object_limit name && has_read (p.rows zone) 0 (names_shard key name))
meets_need settings p (Complete zone key name tag version row) =
    is_so p.tag (λ t.
    not (is_over t.stage)
    && (is_tag_of t zone name
    && (t.guard.tag == tag && (is_change t.change version row && is_shard_of_tag t (p.rows zone) key name))))
meets_need settings p (Cancel zone key name tag) =
    is_so p.tag (λ t.
    is_pending t.stage
    && (not (is_some t.change) && (is_tag_of t zone name && (t.guard.tag == tag && is_key t.key key))))
meets_need settings p (Page zone key after limit) = is_between 1 page_limit limit
meets_need settings p (Suggest zone key name revision seen version row) =
    is_suggestion (p.seen zone key name) revision seen version row
meets_need settings p (Stats zone key) = true
meets_need settings p (CloseShard zone key id force) = is_closing p zone key id && (not force || not (zone == 1))
meets_need settings p (Release zone key id) = may_release p zone key id
meets_need settings p (Shut zone key) = is_removed p zone key
meets_need settings p (HeadRead zone container name) = true
meets_need settings p (HeadWrite zone container name guard new when) =
    may_change_head p zone container name guard && has_parts p zone new
meets_need settings p (TailMake zone write part bytes) =
    is_own_write p zone write
    && (is_next_part (p.stripes.own zone write write) part && is_between 1 settings.stripe (length bytes))
meets_need settings p (TailRead zone write part start count) = is_seen_range p.stripes.seen zone write part start count
meets_need settings p (Announce zone container instance shard bucket) =
    let key = shard_key container instance shard in
    (is_so p.tag (λ t. is_pending t.stage && (t.zone == zone && is_key t.key key)) || is_new_shard p zone key)
    && read_showed (p.rows zone) bucket (λ row. row.id == container)

-- the zone is one of the realm's
abbrev pub allowed : SettingsView → Phase → Op → Bool
allowed settings p op = is_between 1 settings.zones (zone_of op) && meets_need settings p op
