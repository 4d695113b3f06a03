-- What the end of a listing means: which of the actor's own events, and which answers to them, its rows rest on.
use Rattle.std.specs.Prelude.{◌≡◌, ◌⊎◌, ℕ, ◌<◌, ◌==◌, ◌||◌, not, Bool, true, false, T, List, [], ◌∷◌, length, Option, Some, None, if◌then◌else◌}
use Rattle.std.specs.List.{All, AllByRecursion, Contains}
use Rattle.std.specs.FinMap.Entries.{find, is_sorted}
use Rattle.object_words.specs.declared.bucket.Bucket.{Bucket}
use Rattle.object_words.specs.declared.entry.EntryPage.{EntryPage}
use Rattle.object_words.specs.declared.head.HeadSeen.{HeadSeen}
use Rattle.object_words.specs.declared.head.SeenSlot.{SeenSlot}
use Rattle.object_words.specs.Entries.{EntryView}
use Rattle.object_words.specs.Hashes.{shard_of}
use Rattle.object_words.specs.Heads.{is_live, row_of}
use Rattle.object_words.specs.Keys.{is_shard_key, shard_key}
use Rattle.object_words.specs.Names.{name_cmp}
use Rattle.object_words.specs.Rows.{RowView}
use Rattle.realm_model.specs.Accounts.{Looked, Account}
use Rattle.realm_model.specs.Allowed.{page_limit}
use Rattle.realm_model.specs.Ops.{zone_of}
use Rattle.realm_model.specs.Owns.{OwnEvent}
use Rattle.realm_model.specs.declared.op.Op.{Op}
use Rattle.realm_model.specs.declared.op.Op.TheVariants.{BucketRead, Page, Suggest, HeadRead}
use Rattle.realm_model.specs.declared.event.Reply.TheVariants.{Row, Entries, Head as head_reply}
use Rattle.swift_auth.specs.declared.policy.Deed.TheVariants.{ListContainer}
use Rattle.task_words.specs.declared.outcome.Outcome.{Outcome}
use Rattle.task_words.specs.declared.outcome.Outcome.TheVariants.{Done, MovedOften}
use Rattle.task_words.specs.declared.reply.MapReply.{MapReply}
use Rattle.task_words.specs.declared.reply.MapReply.TheVariants.{Listed, Refused}
use Rattle.task_words.specs.declared.reply.Refusal.{Refusal}
use Rattle.task_words.specs.declared.reply.Refusal.TheVariants.{Unauthorized, Denied, NoContainer}
use Rattle.task_words.specs.Outcomes.{most_moved, LookedUp}
use Rattle.task_words.specs.Rows.{row_refusal}
use Rattle.list_words.specs.declared.command.ListCommand.{ListCommand}
use Rattle.list_words.specs.declared.row.ListedRow.{ListedRow}
use Rattle.list_words.specs.Listings.{is_before, in_scope, subdir_of, most_rows, rows_of}
use Rattle.task_list.specs.declared.request.ListRequest.{ListRequest}
use Rattle.task_list.specs.Repairs.{IsRepaired}

-- ---- operations

-- to read the row of the container
abbrev pub asks_row : ℕ → ListCommand → Op
asks_row zone c = BucketRead zone c.container

-- to read the entries of a shard of the row above a name
abbrev pub asks_page : ℕ → Bucket → ℕ → List ℕ → Op
asks_page zone row shard after = Page zone (shard_key row.id row.instance shard) after page_limit

-- to read the head of a name
abbrev pub asks_head : ℕ → ℕ → List ℕ → Op
asks_head zone container name = HeadRead zone container name

-- it is one of these three, which read, or suggests; pages and suggestions are of a shard
abbrev pub is_of_listing : Op → Bool
is_of_listing (BucketRead zone name) = true
is_of_listing (Page zone key after limit) = is_shard_key key
is_of_listing (Suggest zone key name revision seen version row) = is_shard_key key
is_of_listing (HeadRead zone container name) = true
is_of_listing op = false

abbrev pub AreOfListing : List OwnEvent → Type 0
AreOfListing events = AllByRecursion (λ (e : OwnEvent). is_of_listing e.op ≡ true) events

-- all are in one zone
abbrev pub AreInZone : ℕ → List OwnEvent → Type 0
AreInZone zone events = AllByRecursion (λ (e : OwnEvent). zone_of e.op ≡ zone) events

-- ---- what pages and heads show

-- entries by name
abbrev pub PageRows : Type 0
PageRows = List (List ℕ × EntryView)

-- the last name
abbrev pub last_name : PageRows → List ℕ
last_name [] = []
last_name (e ∷ []) = e.0
last_name (e ∷ next ∷ es) = last_name (next ∷ es)

-- nothing but entries at or behind the name may be missing at the end of the page
abbrev pub reaches : Bool → PageRows → List ℕ → Bool
reaches end rows name = end || not (is_before (last_name rows) name)

-- an own page of the shard of the name, among the shards of a row of the container that an own bucket read before it had
-- shown, which shows what the shard has of the name
pub record IsPaged (zone : ℕ) (c : ListCommand) (container : ℕ) (name : List ℕ) (shown : Option EntryView) (at : ℕ) (events : List OwnEvent) : Type 0 where
  pub look : OwnEvent
  pub page : OwnEvent
  pub looked : Contains events look
  pub paged : Contains events page
  pub in_order : look.number < page.number
  pub row : Bucket
  pub looks : look.op ≡ asks_row zone c
  pub told_row : look.reply ≡ Row row
  pub in_container : row.id ≡ container
  pub after : List ℕ
  pub asks : page.op ≡ asks_page zone row (shard_of name row.shards) after
  pub above : is_before after name ≡ true
  pub entries : EntryPage
  pub told : page.reply ≡ Entries entries
  pub within : reaches entries.end entries.rows name ≡ true
  pub shows : find name_cmp name entries.rows ≡ shown
  pub number : page.number ≡ at

-- a change of the name is under way
abbrev pub is_unsettled : EntryView → Bool
is_unsettled e = not (length e.tags == 0)

-- an own page whose entry of the name has a tag, as its event of this number
pub record IsUnsettled (zone : ℕ) (c : ListCommand) (container : ℕ) (name : List ℕ) (at : ℕ) (events : List OwnEvent) : Type 0 where
  pub entry : EntryView
  pub tagged : is_unsettled entry ≡ true
  pub paged : IsPaged zone c container name (Some entry) at events

-- the row of an object that exists
abbrev pub row_if_there : RowView → Option RowView
row_if_there row = if row.exists then Some row else None

-- what the index says of a name that no change is under way of
abbrev pub entry_row : Option EntryView → Option RowView
entry_row None = None
entry_row (Some e) = row_if_there e.row

-- no change is under way
abbrev pub is_settled : Option EntryView → Bool
is_settled None = true
is_settled (Some e) = not (is_unsettled e)

-- what a head says
abbrev pub slot_row : SeenSlot → Option RowView
slot_row slot = if is_live slot then Some (row_of slot) else None

-- an own page shows it by an entry without tags, or by none
pub record IsByPage (zone : ℕ) (c : ListCommand) (container : ℕ) (name : List ℕ) (row : Option RowView) (events : List OwnEvent) : Type 0 where
  pub shown : Option EntryView
  pub at : ℕ
  pub paged : IsPaged zone c container name shown at events
  pub settled : is_settled shown ≡ true
  pub row_is : row ≡ entry_row shown

-- an own read of the head shows it, after an own page whose entry had a tag
pub record IsByHead (zone : ℕ) (c : ListCommand) (container : ℕ) (name : List ℕ) (row : Option RowView) (events : List OwnEvent) : Type 0 where
  pub at : ℕ
  pub unsettled : IsUnsettled zone c container name at events
  pub head : OwnEvent
  pub read : Contains events head
  pub later : at < head.number
  pub asks : head.op ≡ asks_head zone container name
  pub seen : HeadSeen
  pub clock : ℕ
  pub told : head.reply ≡ head_reply seen clock
  pub row_is : row ≡ slot_row seen.slot

-- a lower name of the same subdir is listed, so that this one changes nothing
pub record IsFolded (c : ListCommand) (live : List (List ℕ × RowView)) (name : List ℕ) : Type 0 where
  pub lower : List ℕ
  pub row : RowView
  pub there : Contains live (lower, row)
  pub listed : in_scope c lower ≡ true
  pub below : is_before lower name ≡ true
  pub subdir : List ℕ
  pub of_lower : subdir_of c lower ≡ Some subdir
  pub of_name : subdir_of c name ≡ Some subdir

-- what is said of the name was shown by one own event, or changes nothing
abbrev pub IsShown : ℕ → ListCommand → ℕ → List (List ℕ × RowView) → List ℕ → List OwnEvent → Type 0
IsShown zone c container live name events =
    let row = find name_cmp name live in
    (IsByPage zone c container name row events ⊎ IsByHead zone c container name row events) ⊎ IsFolded c live name

-- ---- the rows

-- the name is not above the bound, if there is one
abbrev pub is_within : Option (List ℕ) → List ℕ → Bool
is_within None name = true
is_within (Some bound) name = not (is_before bound name)

-- the rows are as many as are listed at most, where names above the bound were not looked at
abbrev pub IsEnough : ListCommand → Option (List ℕ) → List ListedRow → Type 0
IsEnough c None rows = Unit {0}
IsEnough c (Some bound) rows = length rows ≡ most_rows c

-- the rows are those of some live names; and of each name in scope up to the bound, what they say of it was shown
pub record AreShown (zone : ℕ) (c : ListCommand) (container : ℕ) (rows : List ListedRow) (events : List OwnEvent) : Type 0 where
  pub live : List (List ℕ × RowView)
  pub bound : Option (List ℕ)
  pub rise : T (is_sorted name_cmp live)
  pub asked : All (λ e. (in_scope c e.0 ≡ true) × (is_within bound e.0 ≡ true)) live
  pub rows_are : rows ≡ rows_of c live
  pub shown : (name : List ℕ) → in_scope c name ≡ true → is_within bound name ≡ true → IsShown zone c container live name events
  pub enough : IsEnough c bound rows

-- each own read of a head came after an own page whose entry of that name had a tag
abbrev pub AreUnsettled : ℕ → ListCommand → List OwnEvent → Type 0
AreUnsettled zone c events =
    (head : OwnEvent) (other container : ℕ) (name : List ℕ) → Contains events head → head.op ≡ asks_head other container name
    → (at : ℕ) × IsUnsettled zone c container name at events × (at < head.number)

-- the last own bucket read showed a row that lets the asker list, of the container from which the rows are
pub record ListedBy (r : ListRequest) (rows : List ListedRow) (y : Account) (events : List OwnEvent) : Type 0 where
  pub look : Looked
  pub is_last : y.looked ≡ Some look
  pub in_zone : look.zone ≡ r.zone
  pub under_name : look.name ≡ (r.command).container
  pub row : Bucket
  pub showed : look.row ≡ Some row
  pub granted : row_refusal r.asker (Some row) ListContainer ≡ None
  pub shown : AreShown r.zone r.command row.id rows events

-- no own change of a head was tried, each own event reads in the zone or suggests there, heads were read where a change was
-- under way, and suggested was directly behind such a read, just where a tag was due at the name's page
pub record OnlyReads (r : ListRequest) (y : Account) (events : List OwnEvent) : Type 0 where
  pub untried : y.target ≡ None
  pub unchanged : y.changes ≡ 0
  pub heads : AreUnsettled r.zone r.command events
  pub reads : AreOfListing events
  pub inside : AreInZone r.zone events
  pub repairs : IsRepaired events

-- the last own bucket read refuses it
abbrev pub RefusedBy : ListRequest → Refusal → Account → Type 0
RefusedBy r refusal y = LookedUp r.zone r.asker (r.command).container ListContainer (Some refusal) y.looked

-- the last own bucket read grants it
abbrev pub GrantedBy : ListRequest → Account → Type 0
GrantedBy r y = LookedUp r.zone r.asker (r.command).container ListContainer None y.looked

-- a listing is refused in one of three ways
abbrev pub IsRefusal : Refusal → Type 0
IsRefusal Unauthorized = Unit {0}
IsRefusal (Denied rule) = Unit {0}
IsRefusal NoContainer = Unit {0}
IsRefusal refusal = ⊥

-- what a reply to it rests on
abbrev pub IsListReply : ListRequest → MapReply → Account → List OwnEvent → Type 0
IsListReply r (Listed rows) y events = ListedBy r rows y events
IsListReply r (Refused refusal) y events = IsRefusal refusal × RefusedBy r refusal y
IsListReply r reply y events = ⊥

-- the end of the task
abbrev pub IsListOutcome : ListRequest → Outcome → Account → List OwnEvent → Type 0
IsListOutcome r (Done reply) y events = IsListReply r reply y events × OnlyReads r y events
IsListOutcome r MovedOften y events = GrantedBy r y × (y.moved.count ≡ most_moved) × OnlyReads r y events
IsListOutcome r outcome y events = ⊥
