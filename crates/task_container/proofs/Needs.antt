-- Each operation is one that the actor may do next.
use Rattle.std.proofs.Common.{◌≡◌, ℕ, zero, suc, ◌+◌, ◌<◌, nat_lt, [], ◌∷◌, ◌≤◌, ◌==◌, ◌&&◌, ◌||◌, not, Bool, true, false, nat_le, List, Option, Some, None, refl, sym, ap, ◌∙◌, subst, arith}
use Rattle.std.specs.Prelude.{bytes_eq, is_some}
use Rattle.std.specs.Cmp.Lexicographic.{pointwise}
use Rattle.std.specs.List.{list_all, range_with_len}
use Rattle.std.proofs.lemmas.Bool.Decides.{nat_tests}
use Rattle.std.proofs.lemmas.Slice.Eq.{bytes_eq-Decides}
use Rattle.object_words.specs.declared.bucket.Bucket.{Bucket}
use Rattle.object_words.specs.declared.bucket.Busy.{Busy}
use Rattle.object_words.specs.Limits.{is_name, shard_limit}
use Rattle.object_words.specs.Names.{at}
use Rattle.object_words.specs.Roots.{is_same_pair, version_of}
use Rattle.object_words.specs.Numbers.{greatest}
use Rattle.task_container.specs.Closings.{next_number, closing_row, cleared_row}
use Rattle.task_container.proofs.Going.{of_put}
use Rattle.object_words.proofs.KeyLemmas.{number_itself}
use Rattle.realm_model.specs.Accounts.{Account}
use Rattle.realm_model.specs.Allowed.{allowed}
use Rattle.realm_model.specs.Needs.{is_between, is_form, is_change_of, is_begin, is_clear, has_closed, same_busy, same_index, same_shared}
use Rattle.realm_model.specs.Owns.{OwnEvent}
use Rattle.realm_model.specs.Phases.{FirstEvent, RowRead, Phase}
use Rattle.realm_model.specs.Settings.{SettingsView, IsBetween}
use Rattle.realm_model.specs.Tests.{is_so, same_flag}
use Rattle.container_preset.proofs.Making.{may_make}
use Rattle.task_words.specs.declared.asker.Asker.{Asker}
use Rattle.task_container.specs.declared.progress.Stage.{Stage}
use Rattle.task_container.specs.declared.progress.Stage.TheVariants.{Look, Count, MakeShard, Make, Change, Begin, Close, Remove, LookToRemove, Shut, Clear, LookToClear, Release, Ended}
use Rattle.task_container.specs.declared.progress.Tally.{Tally}
use Rattle.task_container.specs.declared.request.ContainerCommand.{ContainerCommand}
use Rattle.task_container.specs.declared.request.ContainerCommand.TheVariants.{Head, Put, Post, Delete}
use Rattle.task_container.specs.declared.request.ContainerRequest.{ContainerRequest}
use Rattle.task_container.specs.Fits.{IsMaker, FitsAt}
use Rattle.task_container.specs.Requests.{name_of, changes_of, zone_for, IsPut, IsChanger}
use Rattle.task_container.specs.Rows.{changed, new_row}
use Rattle.task_container.specs.Stages.{IsOpen, op_at, swap_op}

between : (low high n : ℕ) → low ≤ n → n ≤ high → is_between low high n ≡ true
between low high n above below =
    let a : nat_le low n ≡ true = grind (arith, nat_tests, above) in
    let b : nat_le n high ≡ true = grind (arith, nat_tests, below) in
    rw (a, b) refl

both : (a b : Bool) → a ≡ true → b ≡ true → (a && b) ≡ true
both a b x y = rw x y

same_first : (first : Option FirstEvent) (id clock : ℕ) → first ≡ Some (record { number = id; clock = clock }) → is_so first (λ f. f.number == id) ≡ true
same_first first id clock is = ap (λ o. is_so o (λ f. f.number == id)) is ∙ number_itself id

either : (a b : Bool) → a ≡ true → (a || b) ≡ true
either a b is = rw is refl

or_right : (a b : Bool) → b ≡ true → (a || b) ≡ true
or_right true b two = refl
or_right false b two = two

all_below : (f : ℕ → Bool) (a k : ℕ) → ((n : ℕ) → a ≤ n → n < a + k → f n ≡ true) → list_all f (range_with_len a k) ≡ true
all_below f a zero all = refl
all_below f a (suc k) all =
    both (f a) (list_all f (range_with_len (a + 1) k)) (all a (omega arith) (omega arith))
    (all_below f (a + 1) k (λ n low less. all n (omega (arith, low)) (omega (arith, less))))

text_itself : (x : List ℕ) → bytes_eq x x ≡ true
text_itself x = (bytes_eq-Decides x x).1 refl

pairs_itself : (xs : List (List ℕ × List ℕ)) → pointwise is_same_pair xs xs ≡ true
pairs_itself [] = refl
pairs_itself (x ∷ xs) = both (is_same_pair x x) (pointwise is_same_pair xs xs) (both (bytes_eq x.0 x.0) (bytes_eq x.1 x.1) (text_itself x.0) (text_itself x.1)) (pairs_itself xs)

flag_itself : (b : Bool) → same_flag b b ≡ true
flag_itself true = refl
flag_itself false = refl

busy_itself : (b : Option Busy) → same_busy b b ≡ true
busy_itself None = refl
busy_itself (Some b) = both (b.number == b.number) (same_flag b.closing b.closing) (number_itself b.number) (flag_itself b.closing)

index_itself : (row : Bucket) → same_index row row ≡ true
index_itself row =
    both (row.id == row.id) _ (number_itself row.id)
    (both (bytes_eq row.owner row.owner) _ (text_itself row.owner)
    (both (row.instance == row.instance) (row.shards == row.shards) (number_itself row.instance) (number_itself row.shards)))

module _ (settings : SettingsView) (p : Phase) (some : 1 ≤ settings.zones) where
  -- a swap of the row that was read last
  may_swap : (old : Option Bucket) (new : Option Bucket) (r : ContainerRequest) (number : ℕ) → at (p.rows 1) (name_of r.command) ≡ Some (record { row = old; at = number }) → is_form p 1 (name_of r.command) old new ≡ true → allowed settings p (swap_op r (version_of old) new) ≡ true
  may_swap old new r number read form =
      both (is_between 1 settings.zones 1) _ (between 1 settings.zones 1 (omega arith) some)
      (ap (λ o. is_so o (λ (read : RowRead). version_of read.row == version_of old && is_form p 1 (name_of r.command) read.row new)) read
      ∙ both (version_of old == version_of old) (is_form p 1 (name_of r.command) old new) (number_itself (version_of old)) form)

  zone_within : (command : ContainerCommand) (zone : ℕ) → 1 ≤ zone → zone ≤ settings.zones → is_between 1 settings.zones (zone_for command zone) ≡ true
  zone_within (Head name) zone low high = between 1 settings.zones zone low high
  zone_within (Put name changes) zone low high = between 1 settings.zones 1 (omega arith) some
  zone_within (Delete name) zone low high = between 1 settings.zones 1 (omega arith) some
  zone_within (Post name changes) zone low high = between 1 settings.zones 1 (omega arith) some

  module _ (zone : ℕ) (asker : Asker) (shards : ℕ) (y : Account) where
    abbrev asked : ContainerCommand → ContainerRequest
    asked command = record { zone = zone; asker = asker; command = command }

    row_form : (command : ContainerCommand) (id n : ℕ) (events : List OwnEvent) → IsPut command → IsBetween 1 shard_limit shards → is_name 256 (name_of command) ≡ true → n ≡ shards → IsMaker id n p events → is_form p 1 (name_of command) None (Some (new_row (asked command) shards id)) ≡ true
    row_form (Head name) id n events is_put within named all s = absurd is_put
    row_form (Post name changes) id n events is_put within named all s = absurd is_put
    row_form (Delete name) id n events is_put within named all s = absurd is_put
    row_form (Put name changes) id n events is_put within named all s =
        let first = same_first p.first id s.clock s.first in
        let counted : (shards == (p.shards 1 id).made) ≡ true = ap (λ k. shards == k) (s.counts ∙ all) ∙ number_itself shards in
        both (is_so p.first (λ f. f.number == id)) _ first
        (both (shards == (p.shards 1 id).made) _ counted
        (both (is_between 1 shard_limit shards) _ (between 1 shard_limit shards within.least within.most)
        (both (not (p.shards 1 id).placed) _ (ap not s.placed) (both (is_name 256 name) _ named first))))

    change_form : (command : ContainerCommand) (row : Bucket) → IsChanger command → is_form p 1 (name_of command) (Some row) (Some (changed row (changes_of command))) ≡ true
    change_form (Head name) row changes = absurd changes
    change_form (Delete name) row changes = absurd changes
    change_form (Put name c) row changes =
        either (is_change_of p 1 name row (changed row (Some c))) _
        (both (same_index row row) _ (index_itself row) (both (row.number == row.number) _ (number_itself row.number) (both (same_busy row.busy row.busy) true (busy_itself row.busy) refl)))
    change_form (Post name c) row changes =
        either (is_change_of p 1 name row (changed row (Some c))) _
        (both (same_index row row) _ (index_itself row) (both (row.number == row.number) _ (number_itself row.number) (both (same_busy row.busy row.busy) true (busy_itself row.busy) refl)))

  shared_itself : (row : Bucket) → same_shared 1 row row ≡ true
  shared_itself row =
      both (pointwise is_same_pair row.meta row.meta) _ (pairs_itself row.meta)
      (both (bytes_eq row.readers row.readers) _ (text_itself row.readers) (both (bytes_eq row.writers row.writers) true (text_itself row.writers) refl))

  begin_form : (name : List ℕ) (row : Bucket) → row.busy ≡ None → row.number < greatest → is_form p 1 name (Some row) (Some (closing_row row)) ≡ true
  begin_form name row idle less =
      let next : (next_number row == row.number + 1) ≡ true = (let up : next_number row ≡ row.number + 1 = omega (arith, less) in ap (λ n. n == row.number + 1) up ∙ number_itself (row.number + 1)) in
      or_right (is_change_of p 1 name row (closing_row row)) (is_begin p 1 row (closing_row row) || is_clear 1 row (closing_row row))
      (either (is_begin p 1 row (closing_row row)) (is_clear 1 row (closing_row row))
      (both (same_index row row) _ (index_itself row)
      (both (same_shared 1 row row) _ (shared_itself row)
      (both (not (is_some row.busy)) _ (ap (λ b. not (is_some b)) idle)
      (both (next_number row == row.number + 1) _ next (both (next_number row == next_number row) true (number_itself (next_number row)) refl))))))

  clear_form : (name : List ℕ) (row : Bucket) (number : ℕ) → row.busy ≡ Some (record { number = number; closing = true }) → is_form p 1 name (Some row) (Some (cleared_row row)) ≡ true
  clear_form name row number set =
      or_right (is_change_of p 1 name row (cleared_row row)) (is_begin p 1 row (cleared_row row) || is_clear 1 row (cleared_row row))
      (or_right (is_begin p 1 row (cleared_row row)) (is_clear 1 row (cleared_row row))
      (both (same_index row row) _ (index_itself row)
      (both (same_shared 1 row row) _ (shared_itself row)
      (both (row.number == row.number) _ (number_itself row.number) (both (is_some row.busy) true (ap is_some set) refl)))))

  pub may_step : (r : ContainerRequest) (shards : ℕ) (stage : Stage) (t : Tally) (y : Account) (events : List OwnEvent) (last : ℕ) → 1 ≤ r.zone → r.zone ≤ settings.zones → IsBetween 1 shard_limit shards → is_name 256 (name_of r.command) ≡ true → IsOpen stage → FitsAt r shards stage t p y events last → allowed settings p (op_at r shards stage t) ≡ true
  may_step r shards Look t y events last low high within named going fits = both (is_between 1 settings.zones (zone_for r.command r.zone)) true (zone_within r.command r.zone low high) refl
  may_step r shards (Count c) t y events last low high within named going fits = both (is_between 1 settings.zones r.zone) true (between 1 settings.zones r.zone low high) refl
  may_step r shards MakeShard t y events last low high within named going fits =
      let none = fits.2 in
      subst (λ f. FitsAt r shards MakeShard (record t { first = f }) p y events last → allowed settings p (op_at r shards MakeShard (record t { first = f })) ≡ true) (sym fits.3.1)
      (λ here. let s = of_put r.command here.1 here.0.starts in
      may_make settings p (name_of r.command) fits.3.0 t.made some
      (record { first = (s.clock, s.first); read = (none.number, none.read); counts = s.counts; filled = s.filled; placed = s.placed })) fits
  may_step r shards Make t y events last low high within named going fits =
      let none = fits.2 in
      subst (λ f. FitsAt r shards Make (record t { first = f }) p y events last → allowed settings p (op_at r shards Make (record t { first = f })) ≡ true) (sym fits.3.1)
      (λ here. may_swap None (Some (new_row r shards fits.3.0)) r none.number none.read (row_form r.zone r.asker shards y r.command fits.3.0 t.made events fits.1 within named fits.4 (of_put r.command here.1 here.0.starts))) fits
  may_step r shards (Change row) t y events last low high within named going fits =
      may_swap (Some row) (Some (changed row (changes_of r.command))) r fits.2.number fits.2.read (change_form r.zone r.asker shards y r.command row fits.1)
  may_step r shards (Begin row) t y events last low high within named going fits = may_swap (Some row) (Some (closing_row row)) r fits.2.number fits.2.read (begin_form (name_of r.command) row fits.4 fits.5)
  may_step r shards (Close c) t y events last low high within named going fits =
      both (is_between 1 settings.zones 1) _ (between 1 settings.zones 1 (omega arith) some)
      (both (is_so ((p.work 1 c.row.id c.row.instance).begun c.number) (λ own. own.closing)) true (ap (λ o. is_so o (λ own. own.closing)) fits.2.begun ∙ fits.2.closing) refl)
  may_step r shards (Remove c) t y events last low high within named going fits =
      may_swap (Some c.row) None r fits.3.number fits.3.read
      (both (is_so c.row.busy (λ busy. has_closed (p.work 1 c.row.id c.row.instance) busy.number c.row.shards)) true
      (ap (λ o. is_so o (λ busy. has_closed (p.work 1 c.row.id c.row.instance) busy.number c.row.shards)) fits.4.busy
      ∙ (ap (λ o. is_so o (λ own. own.closing && list_all own.closed (range_with_len 0 c.row.shards))) fits.2.begun
      ∙ both fits.2.work.closing (list_all fits.2.work.closed (range_with_len 0 c.row.shards)) fits.2.closing
      (subst (λ k. list_all fits.2.work.closed (range_with_len 0 k) ≡ true) fits.6 (all_below fits.2.work.closed 0 c.closed (λ k low less. fits.2.closed k (omega (arith, less))))))) refl)
  may_step r shards (LookToRemove c) t y events last low high within named going fits = both (is_between 1 settings.zones 1) true (between 1 settings.zones 1 (omega arith) some) refl
  may_step r shards (Shut row shard) t y events last low high within named going fits =
      let less = fits.2 in
      both (is_between 1 settings.zones 1) _ (between 1 settings.zones 1 (omega arith) some)
      (ap (λ o. is_so o (λ shards. nat_lt shard shards)) fits.1 ∙ (let is : nat_lt shard row.shards ≡ true = grind (arith, nat_tests, less) in is))
  may_step r shards (Clear c due) t y events last low high within named going fits = may_swap (Some c.row) (Some (cleared_row c.row)) r fits.3.number fits.3.read (clear_form (name_of r.command) c.row c.number fits.4.busy)
  may_step r shards (LookToClear c due) t y events last low high within named going fits = both (is_between 1 settings.zones 1) true (between 1 settings.zones 1 (omega arith) some) refl
  may_step r shards (Release c shard due) t y events last low high within named going fits = both (is_between 1 settings.zones 1) _ (between 1 settings.zones 1 (omega arith) some) (fits.2 shard)
  may_step r shards (Ended outcome) t y events last low high within named going fits = absurd going
