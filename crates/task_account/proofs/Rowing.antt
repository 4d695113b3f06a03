-- One container more.
use Rattle.std.proofs.Common.{◌≡◌, ℕ, ◌-◌, ◌&&◌, Bool, true, false, cond, bytes_eq, List, [], ◌∷◌, ◌++◌, map, length, slice_get, Option, Some, None, suc, refl, sym, ◌∙◌, ap, subst, arith, length-append}
use Rattle.std.specs.List.{AllByRecursion}
use Rattle.std.proofs.lemmas.Bool.Decides.{nat_tests}
use Rattle.std.proofs.lemmas.List.{map-append}
use Rattle.std.proofs.lemmas.List.Elements.{filter-append}
use Rattle.std.proofs.lemmas.List.Sums.{sum_by_push}
use Rattle.realm_model.specs.Owns.{OwnEvent}
use Rattle.list_words.specs.declared.command.ListCommand.{ListCommand}
use Rattle.list_words.specs.declared.row.AccountRow.{AccountRow}
use Rattle.list_words.specs.declared.row.ListedRow.{ListedRow}
use Rattle.list_words.specs.declared.row.ListedThing.{ListedThing}
use Rattle.list_words.specs.declared.row.ListedRow.TheVariants.{Thing, Subdir}
use Rattle.list_words.specs.Listings.{in_scope, is_past, subdir_of, thing_of, row_under, listed_row, is_same_subdir, all_rows, ends_with_subdir}
use Rattle.list_words.proofs.Rows.{all_rows-push}
use Rattle.task_account.specs.declared.asked.Asked.{Asked}
use Rattle.task_account.specs.declared.asked.Asked.TheVariants.{Counts, Rows}
use Rattle.task_account.specs.declared.asked.Place.TheVariants.{Past, Elsewhere, Due}
use Rattle.task_account.specs.declared.reply.AccountReply.{AccountReply}
use Rattle.task_account.specs.declared.reply.AccountReply.TheVariants.{Counted, Listed}
use Rattle.task_account.specs.Asking.{is_full, with_container, with_subdir, is_last_of, has_subdir, place_under, place_of}
use Rattle.task_account.specs.Counts.{is_found, found_names, Found, name_in, IsPlaced, IsCounted, IsFoundIn, row_by, row_of, unseen, as_live, as_listed, IsReplyOf, Tally}

-- ---- the last row

thing_ends_none : (rows : List ListedRow) (name : List ℕ) (thing : ListedThing) → ends_with_subdir rows (Thing name thing) ≡ false
thing_ends_none [] name thing = refl
thing_ends_none (last ∷ []) name thing = refl
thing_ends_none (first ∷ next ∷ rows) name thing = thing_ends_none (next ∷ rows) name thing

same_last : (row : AccountRow) (subdir : List ℕ) → is_same_subdir (Subdir subdir) (as_listed row) ≡ is_last_of subdir (Some row)
same_last row subdir =
    elim row.subdir as (λ b. is_same_subdir (Subdir subdir) (cond b (Subdir row.name) (Thing row.name (thing_of unseen))) ≡ (b && bytes_eq subdir row.name)) [ true ↦ refl | false ↦ refl ]

ends_by_last : (rows : List AccountRow) (subdir : List ℕ) → ends_with_subdir (map as_listed rows) (Subdir subdir) ≡ is_last_of subdir (slice_get rows (length rows - 1))
ends_by_last [] subdir = refl
ends_by_last (row ∷ []) subdir = same_last row subdir
ends_by_last (first ∷ next ∷ rows) subdir =
    let place : length {A = AccountRow} (first ∷ next ∷ rows) - 1 ≡ suc (length {A = AccountRow} (next ∷ rows) - 1) = omega arith in
    ends_by_last (next ∷ rows) subdir ∙ ap (λ n. is_last_of subdir (slice_get (first ∷ next ∷ rows) n)) (sym place)

-- ---- what is due

-- a name of a listing that is due
record IsDue (c : ListCommand) (reply : AccountReply) (name : List ℕ) (subdir : Option (List ℕ)) : Type 0 where
  pub scope : in_scope c name ≡ true
  pub under : subdir_of c name ≡ subdir
  pub fresh : (text : List ℕ) → subdir ≡ Some text → has_subdir reply text ≡ false

due_is : {one other : Option (List ℕ)} → Due one ≡ Due other → one ≡ other
due_is same = cc

elsewhere_due : {A : Type 0} {subdir : Option (List ℕ)} → Elsewhere ≡ Due subdir → A
elsewhere_due is = cc

under_due : (reply : AccountReply) (found subdir : Option (List ℕ)) → place_under reply found ≡ Due subdir → (found ≡ subdir) × ((text : List ℕ) → subdir ≡ Some text → has_subdir reply text ≡ false)
under_due reply None subdir is = (due_is is, λ text some. (let no : None ≡ Some text = due_is is ∙ some in cc))
under_due reply (Some one) subdir is =
    elim (has_subdir reply one) as (λ b. has_subdir reply one ≡ b → cond b Elsewhere (Due (Some one)) ≡ Due subdir → (Some one ≡ subdir) × ((text : List ℕ) → subdir ≡ Some text → has_subdir reply text ≡ false)) [
      | true ↦ λ has at. elsewhere_due at
      | false ↦ λ has at. (due_is at, λ text some. (let same : Some one ≡ Some text = due_is at ∙ some in let text_is : one ≡ text = cc in subst (λ t. has_subdir reply t ≡ false) text_is has))
    ] refl is

due_parts : (c : ListCommand) (reply : AccountReply) (name : List ℕ) (subdir : Option (List ℕ)) → place_of (Rows c) reply name ≡ Due subdir → IsDue c reply name subdir
due_parts c reply name subdir is =
    elim (in_scope c name) as (λ b. in_scope c name ≡ b → cond b (place_under reply (subdir_of c name)) (cond (is_past c name) Past Elsewhere) ≡ Due subdir → IsDue c reply name subdir) [
      | true ↦ λ scope at. (let parts = under_due reply (subdir_of c name) subdir at in record { scope = scope; under = parts.0; fresh = parts.1 })
      | false ↦ λ scope at. past_due (is_past c name) at
    ] refl is
  where
    past_due : (b : Bool) → cond b Past Elsewhere ≡ Due subdir → IsDue c reply name subdir
    past_due true at = cc
    past_due false at = cc

-- ---- with one more

-- the row of a container, without its counts, is that of a listing of objects
new_row : (c : ListCommand) (f : Found) → f.subdir ≡ subdir_of c f.name → as_listed (row_of f) ≡ listed_row c (as_live f)
new_row c f under =
    elim f.subdir as (λ o. as_listed (row_by o f) ≡ row_under o f.name (thing_of unseen)) [ None ↦ refl | Some subdir ↦ refl ]
    ∙ ap (λ o. row_under o f.name (thing_of unseen)) under

new_ends : (rows : List AccountRow) (f : Found) → ((text : List ℕ) → f.subdir ≡ Some text → has_subdir (Listed rows) text ≡ false) → ends_with_subdir (map as_listed rows) (as_listed (row_of f)) ≡ false
new_ends rows f fresh =
    elim f.subdir as (λ o. ((text : List ℕ) → o ≡ Some text → has_subdir (Listed rows) text ≡ false) → ends_with_subdir (map as_listed rows) (as_listed (row_by o f)) ≡ false) [
      | None ↦ λ no. thing_ends_none (map as_listed rows) f.name (thing_of unseen)
      | Some subdir ↦ λ no. ends_by_last rows subdir ∙ no subdir refl
    ] fresh

-- the reply with a container more
abbrev pub with_found : AccountReply → Found → AccountReply
with_found (Listed rows) f = Listed (rows ++ row_of f ∷ [])
with_found (Counted containers objects bytes) f = with_container (Counted containers objects bytes) f.name f.objects f.bytes

listed_more : (c : ListCommand) (rows : List AccountRow) (found : List Found) (f : Found) → is_full (Rows c) (Listed rows) ≡ false → place_of (Rows c) (Listed rows) f.name ≡ Due f.subdir
    → IsReplyOf (Rows c) (Listed rows) found → IsReplyOf (Rows c) (Listed (rows ++ row_of f ∷ [])) (found ++ f ∷ [])
listed_more c rows found f room due x =
    let parts = due_parts c (Listed rows) f.name f.subdir due in
    let ends : ends_with_subdir (all_rows c (map as_live found)) (listed_row c (as_live f)) ≡ false =
    ap (λ rs. ends_with_subdir rs (listed_row c (as_live f))) (sym x.1) ∙ ap (ends_with_subdir (map as_listed rows)) (sym (new_row c f (sym parts.under))) ∙ new_ends rows f parts.fresh in
    let more : all_rows c (map as_live (found ++ f ∷ [])) ≡ all_rows c (map as_live found) ++ listed_row c (as_live f) ∷ [] =
    ap (all_rows c) (map-append as_live found (f ∷ [])) ∙ all_rows-push c (map as_live found) (as_live f) parts.scope
    ∙ ap (λ b. cond b (all_rows c (map as_live found)) (all_rows c (map as_live found) ++ listed_row c (as_live f) ∷ [])) ends in
    let long = length-append rows (row_of f ∷ []) in (
      ap (λ rs. rs ++ row_of f ∷ []) x.0 ∙ sym (map-append row_of found (f ∷ [])),
      map-append as_listed rows (row_of f ∷ []) ∙ ap (λ rs. rs ++ as_listed (row_of f) ∷ []) x.1
          ∙ ap (λ r. all_rows c (map as_live found) ++ r ∷ []) (new_row c f (sym parts.under)) ∙ sym more,
      grind (arith, nat_tests, room, long),
    )

counted_more : (containers objects bytes : ℕ) (found : List Found) (f : Found) → IsReplyOf Counts (Counted containers objects bytes) found → IsReplyOf Counts (with_container (Counted containers objects bytes) f.name f.objects f.bytes) (found ++ f ∷ [])
counted_more containers objects bytes found f x =
    let so_many = length-append found (f ∷ []) in
    let so_large = sum_by_push (λ (g : Found). g.objects) found f in
    let so_much = sum_by_push (λ (g : Found). g.bytes) found f in
    let containers_were = x.0 in
    let objects_were = x.1 in
    let bytes_were = x.2 in
    (omega (arith, so_many, containers_were), omega (arith, so_large, objects_were), omega (arith, so_much, bytes_were))

reply_more : (asked : Asked) (reply : AccountReply) (found : List Found) (f : Found) → is_full asked reply ≡ false → place_of asked reply f.name ≡ Due f.subdir → IsReplyOf asked reply found → IsReplyOf asked (with_found reply f) (found ++ f ∷ [])
reply_more (Rows c) (Listed rows) found f room due x = listed_more c rows found f room due x
reply_more (Rows c) (Counted containers objects bytes) found f room due x = absurd x
reply_more Counts (Counted containers objects bytes) found f room due x = counted_more containers objects bytes found f x
reply_more Counts (Listed rows) found f room due x = absurd x

placed_more : (asked : Asked) (reply : AccountReply) (f : Found) → place_of asked reply f.name ≡ Due f.subdir → IsPlaced asked f
placed_more Counts reply f due = sym (due_is due)
placed_more (Rows c) reply f due = let parts = due_parts c reply f.name f.subdir due in (parts.scope, sym parts.under)

each_more : (P : Found → Type 0) (found : List Found) (f : Found) → AllByRecursion P found → P f → AllByRecursion P (found ++ f ∷ [])
each_more P [] f each is = (is, tt)
each_more P (g ∷ found) f each is = (each.0, each_more P found f each.1 is)

-- a container that was found is one more
pub tally_found : (zone : ℕ) (account : List ℕ) (asked : Asked) (reply : AccountReply) (names : List (List ℕ)) (events : List OwnEvent) (f : Found)
    → is_full asked reply ≡ false → place_of asked reply f.name ≡ Due f.subdir → is_found account events f.name ≡ true → (f.subdir ≡ None → IsCounted zone account f events)
    → Tally zone account asked reply names events → Tally zone account asked (with_found reply f) (names ++ f.name ∷ []) events
tally_found zone account asked reply names events f room due is_there counts x = record {
  found = x.found ++ f ∷ [];
  names_are =
      map-append name_in x.found (f ∷ []) ∙ ap (λ ns. ns ++ f.name ∷ []) x.names_are
      ∙ ap (λ ns. found_names account events names ++ ns) (sym (ap (λ b. cond b (f.name ∷ []) []) is_there))
      ∙ sym (filter-append (is_found account events) names (f.name ∷ []));
  each = each_more (IsFoundIn zone account asked events) x.found f x.each (placed_more asked reply f due, counts);
  is_reply = reply_more asked reply x.found f room due x.is_reply;
}

-- the reply with a subdir, or a container with its counts, more
pub with_subdir_found : (asked : Asked) (reply : AccountReply) (name subdir : List ℕ) (found : List Found) → place_of asked reply name ≡ Due (Some subdir) → IsReplyOf asked reply found → with_found reply (record { name = name; subdir = Some subdir; objects = 0; bytes = 0 }) ≡ with_subdir reply subdir
with_subdir_found (Rows c) (Listed rows) name subdir found due x = refl
with_subdir_found (Rows c) (Counted containers objects bytes) name subdir found due x = absurd x
with_subdir_found Counts reply name subdir found due x = (let no : None ≡ Some subdir = due_is due in cc)

pub with_container_found : (reply : AccountReply) (name : List ℕ) (objects bytes : ℕ) → with_found reply (record { name = name; subdir = None; objects = objects; bytes = bytes }) ≡ with_container reply name objects bytes
with_container_found (Listed rows) name objects bytes = refl
with_container_found (Counted containers all_objects all_bytes) name objects bytes = refl
