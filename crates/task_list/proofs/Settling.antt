-- A listing goes up to one more name, or to its end.
use Rattle.std.proofs.Common.{◌≡◌, ◌≢◌, ℕ, ◌<◌, ◌≤◌, ◌⊎◌, not, true, false, cond, List, [], ◌∷◌, ◌++◌, length, Option, Some, None, inl, inr, refl, sym, ◌∙◌, ap, subst, arith}
use Rattle.std.specs.List.{All}
use Rattle.std.specs.FinMap.Entries.{find}
use Rattle.std.proofs.lemmas.Bool.{both_ways, not-true}
use Rattle.std.proofs.lemmas.List.{take_all, length_push}
use Rattle.std.proofs.lemmas.List.Elements.{Contains-append_left, All-weaker, All-push, All-contains}
use Rattle.object_words.specs.Names.{name_cmp}
use Rattle.object_words.specs.Rows.{RowView}
use Rattle.realm_model.specs.Owns.{OwnEvent}
use Rattle.list_words.specs.declared.command.ListCommand.{ListCommand}
use Rattle.list_words.specs.declared.row.ListedRow.{ListedRow}
use Rattle.list_words.specs.declared.row.ListedRow.TheVariants.{Subdir}
use Rattle.list_words.specs.Listings.{is_before, in_scope, subdir_of, listed_row, most_rows, all_rows, ends_with_subdir}
use Rattle.list_words.proofs.Texts.{before_itself, upto_before, not_after, same_place}
use Rattle.list_words.proofs.Rows.{all_rows-push}
use Rattle.task_list.specs.Listed.{IsByPage, IsByHead, IsShown, is_within, AreShown}
use Rattle.task_list.specs.Stages.{PagedAs, IsSettledTo, IsAbove}
use Rattle.task_list.proofs.Names.{find-none, find-push_other, find-push_same, sorted-push}
use Rattle.task_list.proofs.Rows.{of_subdir}

-- a page that shows nothing of the name
pub absent : (zone : ℕ) (c : ListCommand) (container : ℕ) (name : List ℕ) (events : List OwnEvent) → PagedAs zone c container name None events → IsByPage zone c container name None events
absent zone c container name events p = record { shown = None; at = p.at; paged = p.paged; settled = refl; row_is = refl }

pub not_above : (bound name : List ℕ) → is_within (Some bound) name ≡ true → is_before bound name ≡ false
not_above bound name within = not-true _ within

pub is_not_above : (bound name : List ℕ) → is_before bound name ≡ false → is_within (Some bound) name ≡ true
is_not_above bound name upto = ap not upto

module _ (zone : ℕ) (c : ListCommand) (container : ℕ) (settled : List ℕ) (rows : List ListedRow) (events : List OwnEvent) (s : IsSettledTo zone c container settled rows events) where
  abbrev Entry : Type 0
  Entry = List ℕ × RowView

  abbrev Asked : Option (List ℕ) → Entry → Type 0
  Asked bound e = (in_scope c e.0 ≡ true) × (is_within bound e.0 ≡ true)

  none_under : (n : List ℕ) → is_before settled n ≡ true → find name_cmp n s.live ≡ None
  none_under n above =
      find-none n s.live (All-weaker (Asked (Some settled)) (λ e. n ≢ e.0)
      (λ e asked same. both_ways _ (not_above settled e.0 asked.1) (subst (λ t. is_before settled t ≡ true) same above)) s.live s.asked)

  -- rows that are as many as may be
  pub is_full : most_rows c ≤ length rows → AreShown zone c container rows events
  is_full many =
      let few = s.few in
      let short : length (all_rows c s.live) ≤ most_rows c = (let same = ap length s.rows_are in omega (arith, few, same)) in
      record {
        live = s.live;
        bound = Some settled;
        rise = s.rise;
        asked = s.asked;
        rows_are = s.rows_are ∙ sym (take_all (most_rows c) (all_rows c s.live) short);
        shown = s.shown;
        enough = omega (arith, many, few);
      }

  -- rows of all names
  pub is_complete : ((name : List ℕ) → IsAbove c settled name → PagedAs zone c container name None events) → AreShown zone c container rows events
  is_complete lacks =
      let few = s.few in
      let short : length (all_rows c s.live) ≤ most_rows c = (let same = ap length s.rows_are in omega (arith, few, same)) in
      record {
        live = s.live;
        bound = None;
        rise = s.rise;
        asked = All-weaker (Asked (Some settled)) (Asked None) (λ e asked. (asked.0, refl)) s.live s.asked;
        rows_are = s.rows_are ∙ sym (take_all (most_rows c) (all_rows c s.live) short);
        shown = λ name scope within. by_place name scope;
        enough = tt;
      }
    where
      by_place : (name : List ℕ) → in_scope c name ≡ true → IsShown zone c container s.live name events
      by_place name scope =
          elim (is_before settled name) as (λ b. is_before settled name ≡ b → IsShown zone c container s.live name events) [
            | true ↦ λ above. inl (inl (subst (λ row. IsByPage zone c container name row events) (sym (none_under name above)) (absent zone c container name events (lacks name (scope, above)))))
            | false ↦ λ upto. s.shown name scope (is_not_above settled name upto)
          ] refl

  module _ (name : List ℕ) (above : IsAbove c settled name) (gap : (between : List ℕ) → IsAbove c settled between → is_before between name ≡ true → PagedAs zone c container between None events) where
    abbrev Shows : Option RowView → Type 0
    Shows row = IsByPage zone c container name row events ⊎ IsByHead zone c container name row events

    widen : (n : List ℕ) → is_within (Some settled) n ≡ true → is_before n name ≡ true
    widen n within = upto_before n settled name (not_above settled n within) above.1

    asked_up : All (Asked (Some name)) s.live
    asked_up = All-weaker (Asked (Some settled)) (Asked (Some name)) (λ e asked. (asked.0, is_not_above name e.0 (not_after e.0 name (widen e.0 asked.1)))) s.live s.asked

    -- each name up to this one is below the settled one, or between both, or this one
    by_cases : (live : List Entry) → ((n : List ℕ) → in_scope c n ≡ true → is_within (Some settled) n ≡ true → IsShown zone c container live n events)
        → ((n : List ℕ) → is_before settled n ≡ true → is_before n name ≡ true → find name_cmp n live ≡ None)
        → IsShown zone c container live name events
        → (n : List ℕ) → in_scope c n ≡ true → is_within (Some name) n ≡ true → IsShown zone c container live n events
    by_cases live old none here n scope within =
        elim (is_before settled n) as (λ b. is_before settled n ≡ b → IsShown zone c container live n events) [
          | false ↦ λ upto. old n scope (is_not_above settled n upto)
          | true ↦ λ clear.
              elim (is_before n name) as (λ b. is_before n name ≡ b → IsShown zone c container live n events) [
                | true ↦ λ before. inl (inl (subst (λ row. IsByPage zone c container n row events) (sym (none n clear before)) (absent zone c container n events (gap n (scope, clear) before))))
                | false ↦ λ upto. subst (λ t. IsShown zone c container live t events) (sym (same_place n name upto (not_above name n within))) here
              ] refl
        ] refl

    -- the name is not there
    pub settle_none : Shows None → IsSettledTo zone c container name rows events
    settle_none shows = record {
      live = s.live;
      rise = s.rise;
      asked = asked_up;
      rows_are = s.rows_are;
      few = s.few;
      shown = by_cases s.live s.shown (λ n clear before. none_under n clear) (inl (subst Shows (sym (none_under name above.1)) shows));
    }

    -- the name is one of the last row's subdir
    pub settle_folded : (subdir : List ℕ) → subdir_of c name ≡ Some subdir → ends_with_subdir rows (Subdir subdir) ≡ true → IsSettledTo zone c container name rows events
    settle_folded subdir is ends =
        let lower = of_subdir c s.live subdir (subst (λ rs. ends_with_subdir rs (Subdir subdir) ≡ true) s.rows_are ends) in
        let asked = All-contains (Asked (Some settled)) s.live (lower.lower, lower.row) s.asked lower.there in
        record {
          live = s.live;
          rise = s.rise;
          asked = asked_up;
          rows_are = s.rows_are;
          few = s.few;
          shown = by_cases s.live s.shown (λ n clear before. none_under n clear)
              (inr (record { lower = lower.lower; row = lower.row; there = lower.there; listed = lower.listed; below = widen lower.lower asked.1; subdir = subdir; of_lower = lower.of_lower; of_name = is }));
        }

    -- the name is there, and is the next row
    pub settle_listed : (row : RowView) → Shows (Some row) → ends_with_subdir rows (listed_row c (name, row)) ≡ false → length rows < most_rows c → IsSettledTo zone c container name (rows ++ listed_row c (name, row) ∷ []) events
    settle_listed row shows unlisted room =
        let live' = s.live ++ (name, row) ∷ [] in
        let apart : (n : List ℕ) → is_before n name ≡ true → n ≢ name = λ n before same. both_ways _ (before_itself name) (subst (λ t. is_before t name ≡ true) same before) in
        let here : find name_cmp name live' ≡ Some row = find-push_same name s.live row (none_under name above.1) in
        record {
          live = live';
          rise = sorted-push s.live (name, row) s.rise (All-weaker (Asked (Some settled)) (λ e. is_before e.0 name ≡ true) (λ e asked. widen e.0 asked.1) s.live s.asked);
          asked = All-push (Asked (Some name)) s.live (name, row) asked_up (above.0, is_not_above name name (before_itself name));
          rows_are = sym (all_rows-push c s.live (name, row) above.0
              ∙ ap (λ rs. cond (ends_with_subdir rs (listed_row c (name, row))) rs (rs ++ listed_row c (name, row) ∷ [])) (sym s.rows_are)
              ∙ ap (λ b. cond b rows (rows ++ listed_row c (name, row) ∷ [])) unlisted);
          few = (let one = length_push rows (listed_row c (name, row)) in omega (arith, one, room));
          shown = by_cases live' (λ n scope within. pushed n row (apart n (widen n within)) (s.shown n scope within))
              (λ n clear before. find-push_other n s.live (name, row) (apart n before) ∙ none_under n clear) (inl (subst Shows (sym here) shows));
        }
      where
        pushed : (n : List ℕ) (row : RowView) → n ≢ name → IsShown zone c container s.live n events → IsShown zone c container (s.live ++ (name, row) ∷ []) n events
        pushed n row apart (inl shown) =
            inl (subst (λ r. IsByPage zone c container n r events ⊎ IsByHead zone c container n r events) (sym (find-push_other n s.live (name, row) apart)) shown)
        pushed n row apart (inr f) = inr (record {
          lower = f.lower;
          row = f.row;
          there = Contains-append_left s.live ((name, row) ∷ []) (f.lower, f.row) f.there;
          listed = f.listed;
          below = f.below;
          subdir = f.subdir;
          of_lower = f.of_lower;
          of_name = f.of_name;
        })
