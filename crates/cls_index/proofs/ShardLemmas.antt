-- The rows of a shard after one change.
use Rattle.std.proofs.Common.{◌≡◌, ◌≢◌, ℕ, ◌+◌, ◌≤◌, ◌<◌, ◌^◌, Bool, true, false, cond, List, Option, Some, None, option_map, IfSome, refl, sym, ap, ◌∙◌, subst, arith}
use Rattle.std.specs.Ordering.{eq_by_cmp}
use Rattle.omap_pages.specs.Contents.{Contents, KeepsOtherRooms, KeepsRooms, room_at}
use Rattle.omap_pages.specs.Rows.{key_cmp, value_at}
use Rattle.omap_pages.specs.Rows as rows
use Rattle.object_pool.specs.Objects.{Object}
use Rattle.object_words.specs.declared.entry.Tag.{Tag}
use Rattle.object_words.specs.declared.log.LogWhat.{LogWhat}
use Rattle.object_words.specs.declared.log.LogWhat.TheVariants.{Name}
use Rattle.object_words.specs.Entries.{EntryView, is_kept}
use Rattle.object_words.specs.Logs.{logged}
use Rattle.object_words.specs.Names.{Named, at, with_name, without_name}
use Rattle.object_words.specs.Shards.{Shard, with_entry}
use Rattle.object_words.proofs.NameLemmas.{at-with_name, at-without_name, is_name_of, name_itself, same_map}
use Rattle.index_entry.specs.declared.entry.EntryFront.{EntryFront}
use Rattle.index_entry.specs.declared.header.ShardHeader.{ShardHeader}
use Rattle.index_entry.specs.Layouts.{IsEntry, entry_bytes}
use Rattle.index_entry.specs.LogRows.{log_key, what_bytes}
use Rattle.class_words.specs.LogRows.{logged_at, or_logged}
use Rattle.class_words.specs.Shards.{HasEntry, HasRows, IsObjectName, entry_room}
use Rattle.class_words.proofs.LogLemmas.{absent_after, entry_at_name, grown_log, grown_others, grown_there, names_apart, no_log_row, not_log_key, same_name}
use Rattle.cls_index.specs.Rows.{IsLeft, entry_left, kept_or_none}
use Rattle.cls_index.proofs.RowLemmas.{if_some}

-- what holds of one entry and of the others
pub inserted : (P : List ℕ → EntryView → Type 0) (m : Named EntryView) (name : List ℕ) (e : EntryView) → P name e → ((q : List ℕ) → q ≢ name → IfSome (at m q) (P q)) → (q : List ℕ) → IfSome (at (with_name m name e) q) (P q)
inserted P m name e here others q =
    subst (λ o. IfSome o (P q)) (sym (at-with_name m name e q))
    (elim (is_name_of q name) as (λ b. is_name_of q name ≡ b → IfSome (cond b (Some e) (at m q)) (P q)) [
      | true ↦ λ t. subst (λ n. P n e) (sym (same_name q name t)) here
      | false ↦ λ t. others q (names_apart q name t)
    ] refl)

pub removed : (P : List ℕ → EntryView → Type 0) (m : Named EntryView) (name : List ℕ) → ((q : List ℕ) → q ≢ name → IfSome (at m q) (P q)) → (q : List ℕ) → IfSome (at (without_name m name) q) (P q)
removed P m name others q =
    subst (λ o. IfSome o (P q)) (sym (at-without_name m name q))
    (elim (is_name_of q name) as (λ b. is_name_of q name ≡ b → IfSome (cond b None (at m q)) (P q)) [
      | true ↦ λ t. tt
      | false ↦ λ t. others q (names_apart q name t)
    ] refl)

roomy : (c d : Contents) (name q : List ℕ) (found : Option EntryView) → KeepsOtherRooms c d name → q ≢ name → IfSome found (λ e. entry_room e ≤ room_at c.rooms q) → IfSome found (λ e. entry_room e ≤ room_at d.rooms q)
roomy c d name q found rooms differs fits = let k = rooms q differs in if_some found _ _ (λ e less. omega (arith, less, k)) fits

pub put_rows : (c d : Contents) (s : Shard) (name : List ℕ) (e : EntryView) → HasRows c s → IsObjectName name → HasEntry d name (Some e) → rows.KeepsOthers c.rows d.rows name → KeepsOtherRooms c d name
    → HasRows d (record s { entries = with_name s.entries name e })
put_rows c d s name e has is here others rooms = record {
  rows = λ key.
      elim (is_name_of key name) as (λ b. is_name_of key name ≡ b → value_at d.rows key ≡ or_logged (option_map entry_bytes (cond b (Some e) (at s.entries key))) (logged_at s.log key)) [
        | true ↦ λ t. ap (value_at d.rows) (same_name key name t) ∙ here.row
        | false ↦ λ t. others key (names_apart key name t) ∙ has.rows key
      ] refl ∙ sym (ap (λ o. or_logged (option_map entry_bytes o) (logged_at s.log key)) (at-with_name s.entries name e key));
  named = inserted (λ q _. IsObjectName q) s.entries name e is (λ q _. has.named q);
  entry = inserted (λ q x. IsEntry x) s.entries name e here.entry (λ q _. has.entry q);
  room = inserted (λ q x. entry_room x ≤ room_at d.rooms q) s.entries name e here.room (λ q differs. roomy c d name q (at s.entries q) rooms differs (has.room q));
  log = has.log;
}

drop_rows : (c d : Contents) (s : Shard) (name : List ℕ) → HasRows c s → IsObjectName name → value_at d.rows name ≡ None → rows.KeepsOthers c.rows d.rows name → KeepsOtherRooms c d name
    → HasRows d (record s { entries = without_name s.entries name })
drop_rows c d s name has is here others rooms = record {
  rows = λ key.
      elim (is_name_of key name) as (λ b. is_name_of key name ≡ b → value_at d.rows key ≡ or_logged (option_map entry_bytes (cond b None (at s.entries key))) (logged_at s.log key)) [
        | true ↦ λ t. ap (value_at d.rows) (same_name key name t) ∙ here ∙ sym (ap (logged_at s.log) (same_name key name t) ∙ no_log_row s.log name is)
        | false ↦ λ t. others key (names_apart key name t) ∙ has.rows key
      ] refl ∙ sym (ap (λ o. or_logged (option_map entry_bytes o) (logged_at s.log key)) (at-without_name s.entries name key));
  named = removed (λ q _. IsObjectName q) s.entries name (λ q _. has.named q);
  entry = removed (λ q x. IsEntry x) s.entries name (λ q _. has.entry q);
  room = removed (λ q x. entry_room x ≤ room_at d.rooms q) s.entries name (λ q differs. roomy c d name q (at s.entries q) rooms differs (has.room q));
  log = has.log;
}

changed_if : (c d : Contents) (s : Shard) (name : List ℕ) (e : EntryView) (b : Bool) → HasRows c s → IsObjectName name → HasEntry d name (cond b (Some e) None) → rows.KeepsOthers c.rows d.rows name → KeepsOtherRooms c d name
    → HasRows d (record s { entries = cond b (with_name s.entries name e) (without_name s.entries name) })
changed_if c d s name e true has is here others rooms = put_rows c d s name e has is here others rooms
changed_if c d s name e false has is here others rooms = drop_rows c d s name has is here.row others rooms

-- one entry changes
pub changed_rows : (c d : Contents) (s : Shard) (name : List ℕ) (e : EntryView) → HasRows c s → IsObjectName name → HasEntry d name (kept_or_none e) → rows.KeepsOthers c.rows d.rows name → KeepsOtherRooms c d name
    → HasRows d (with_entry s name e)
changed_rows c d s name e has is here others rooms = changed_if c d s name e (is_kept e) has is here others rooms

-- an entry that changes twice has changed once
put_twice : (m : Named EntryView) (name : List ℕ) (a b : EntryView) → with_name (with_name m name a) name b ≡ with_name m name b
put_twice m name a b = same_map _ _ (λ q.
    at-with_name (with_name m name a) name b q ∙ ap (cond (is_name_of q name) (Some b)) (at-with_name m name a q)
    ∙ elim (is_name_of q name) as (λ t. cond t (Some b) (cond t (Some a) (at m q)) ≡ cond t (Some b) (at m q)) [ true ↦ refl | false ↦ refl ]
    ∙ sym (at-with_name m name b q))

put_and_drop : (m : Named EntryView) (name : List ℕ) (a : EntryView) → without_name (with_name m name a) name ≡ without_name m name
put_and_drop m name a = same_map _ _ (λ q.
    at-without_name (with_name m name a) name q ∙ ap (cond (is_name_of q name) None) (at-with_name m name a q)
    ∙ elim (is_name_of q name) as (λ t. cond t None (cond t (Some a) (at m q)) ≡ cond t None (at m q)) [ true ↦ refl | false ↦ refl ]
    ∙ sym (at-without_name m name q))

pub changed_twice : (s : Shard) (name : List ℕ) (a e : EntryView) → with_entry (record s { entries = with_name s.entries name a }) name e ≡ with_entry s name e
changed_twice s name a e =
    elim (is_kept e) as (λ b. ◌≡◌ {A = Shard} (record s { entries = cond b (with_name (with_name s.entries name a) name e) (without_name (with_name s.entries name a) name) })
    (record s { entries = cond b (with_name s.entries name e) (without_name s.entries name) })) [
      | true ↦ λ i. record s { entries = put_twice s.entries name a e i }
      | false ↦ λ i. record s { entries = put_and_drop s.entries name a i }
    ]

-- no entry is under a key of the log
pub no_entry_at : (c : Contents) (s : Shard) (position : ℕ) → HasRows c s → at s.entries (log_key position) ≡ None
no_entry_at c s position has =
    elim (at s.entries (log_key position)) as (λ o. IfSome o (λ _. IsObjectName (log_key position)) → o ≡ None) [
      | Some e ↦ λ is. absurd (not_log_key (log_key position) position is refl)
      | None ↦ λ is. refl
    ] (has.named (log_key position))

-- the next row of the log is not there yet
pub absent_next : (c : Contents) (s : Shard) → HasRows c s → s.log.last + 1 < 2 ^ 64 → value_at c.rows (log_key (s.log.last + 1)) ≡ None
absent_next c s has fits =
    let key = log_key (s.log.last + 1) in
    has.rows key ∙ ap (λ o. or_logged (option_map entry_bytes o) (logged_at s.log key)) (no_entry_at c s (s.log.last + 1) has) ∙ absent_after s.log has.log fits

-- the log gets a row
pub logged_rows : (c d : Contents) (s : Shard) (name : List ℕ) → HasRows c s → IsObjectName name → s.log.last + 1 < 2 ^ 64 → value_at d.rows (log_key (s.log.last + 1)) ≡ Some (what_bytes (Name name))
    → rows.KeepsOthers c.rows d.rows (log_key (s.log.last + 1)) → KeepsRooms c d → HasRows d (record s { log = logged s.log (Name name) })
logged_rows c d s name has is fits here others rooms =
    let place = log_key (s.log.last + 1) in
    let what : LogWhat = Name name in
    record {
      rows = λ key.
          elim (eq_by_cmp key_cmp key place) as (λ b. eq_by_cmp key_cmp key place ≡ b → value_at d.rows key ≡ or_logged (option_map entry_bytes (at s.entries key)) (logged_at (logged s.log what) key)) [
            | true ↦ λ t.
                let same = same_name key place t in
                let there : value_at d.rows place ≡ or_logged (option_map entry_bytes (at s.entries place)) (logged_at (logged s.log what) place) =
                here ∙ sym (grown_there s.log what has.log fits) ∙ sym (ap (λ o. or_logged (option_map entry_bytes o) (logged_at (logged s.log what) place)) (no_entry_at c s (s.log.last + 1) has)) in
                subst (λ k. value_at d.rows k ≡ or_logged (option_map entry_bytes (at s.entries k)) (logged_at (logged s.log what) k)) (sym same) there
            | false ↦ λ t.
                let differs = names_apart key place t in
                others key differs ∙ has.rows key ∙ ap (or_logged (option_map entry_bytes (at s.entries key))) (sym (grown_others s.log what key has.log fits differs))
          ] refl;
      named = has.named;
      entry = has.entry;
      room = λ q. if_some (at s.entries q) _ _ (λ e less. omega (arith, less, rooms q)) (has.room q);
      log = grown_log s.log what has.log is fits;
    }

-- the entry that is left
pub left_named : (o : Object) (s : Shard) (name : List ℕ) (tags : List Tag) (h : ShardHeader) (f : EntryFront) (taken : ℕ) → IsLeft o s name tags h f taken → IsObjectName name
left_named o s name tags h f taken is =
    let e = entry_left s name tags in
    let there : at (with_name s.entries name e) name ≡ Some e = at-with_name s.entries name e name ∙ ap (λ b. cond b (Some e) (at s.entries name)) (name_itself name) in
    subst (λ o. IfSome o (λ _. IsObjectName name)) there (is.rows.named name)

pub left_entry : (o : Object) (s : Shard) (name : List ℕ) (tags : List Tag) (h : ShardHeader) (f : EntryFront) (taken : ℕ) → IsLeft o s name tags h f taken → HasEntry o.rows name (Some (entry_left s name tags))
left_entry o s name tags h f taken is =
    let e = entry_left s name tags in
    let there : at (with_name s.entries name e) name ≡ Some e = at-with_name s.entries name e name ∙ ap (λ b. cond b (Some e) (at s.entries name)) (name_itself name) in
    subst (HasEntry o.rows name) there (entry_at_name o.rows (record s { entries = with_name s.entries name e }) name is.rows (left_named o s name tags h f taken is))
