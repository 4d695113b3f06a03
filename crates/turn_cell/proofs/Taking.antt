-- The step that takes the value keeps the rule.
use Rattle.std.proofs.Common.{◌≡◌, ◌≢◌, ℕ, ◌+◌, ◌%◌, ◌==◌, Bool, true, false, List, [], ◌∷◌, length, set, refl, sym, ap, ◌∙◌, subst, arith}
use Rattle.std.proofs.lemmas.Bool.Decides.{nat_tests}
use Rattle.std.proofs.lemmas.List.{append-nil}
use Rattle.std.specs.List.{slice_index}
use mathlib.Core.Option.{some, none}
use prog.Atomic.{either}
use lib.ListN.{get_elem?}
use Rattle.atomic_table.specs.Table.{State, Me, Act, takes, keeps, step, Allows, Valid, stepped, carried_after}
use Rattle.atomic_table.proofs.Lists.{set_again}
use Rattle.turn_cell.specs.Histories.{NoneBetween}
use Rattle.turn_cell.specs.declared.knowledge.Knowledge.{Knowledge}
use Rattle.turn_cell.specs.Rule.{holding, Knows, word_of, HasOneHistory}
use Rattle.turn_cell.specs.Plays.{Takes}
use Rattle.turn_cell.proofs.Passes.{apart_set, each_set}

-- where the number is even, the value is at home
at_home : (before now n : ℕ) (is_out : Bool) → word_of before now is_out ≡ n → n % 2 ≡ 0 → is_out ≡ false
at_home before now n false e even = refl
at_home before now n true e even = absurd (omega arith)

module _ {M E F : Type 0} (history : M → List E) (fixed : M → F) (by : E → ℕ) (lawful : F → List E → Type 0) (first : M) where
  abbrev Rule : State M (Knowledge E F) → Type 0
  Rule s = HasOneHistory history fixed by lawful first s

  -- the state once the value is out with the seat
  took : (s : State M (Knowledge E F)) (k : Rule s) (seat : ℕ) (v : Knowledge E F) → get_elem? s.views seat ≡ some v → k.is_out ≡ false
      → Rule record { words = word_of (length (history first)) (length k.log) true ∷ []; homes = none ∷ []; views = set s.views seat (holding v.number v.room v.seen k.log v.fixed) }
  took s k seat v at home =
      let f = k.each seat v at in
      record {
        log = k.log;
        is_out = true;
        holder = seat;
        longer = k.longer;
        words = refl;
        legal = k.legal;
        home = λ e. absurd cc;
        away = λ e. refl;
        each =
            each_set (λ j w. Knows by (fixed first) k.log true seat j w) s.views seat (holding v.number v.room v.seen k.log v.fixed)
            (record { rest = f.rest; begins = f.begins; others = f.others; later = []; found_before = sym (append-nil k.log); unused = f.unused; some_room = f.some_room; same = f.same; turn = λ _. (refl, refl, refl) })
            (λ j w differ there.
            let g = k.each j w there in
            record { rest = g.rest; begins = g.begins; others = g.others; later = g.later; found_before = g.found_before; unused = g.unused; some_room = g.some_room; same = g.same; turn = λ t. absurd (cc (home, (g.turn t).0)) });
        apart = apart_set s.views seat v (holding v.number v.room v.seen k.log v.fixed) at (omega arith) (omega arith) k.apart;
      }

  -- the number is as expected: the value was at home, and the seat takes it
  taken : (slots seat : ℕ) (me : Me M (Knowledge E F)) (n : ℕ) (s : State M (Knowledge E F)) (k : Rule s) → get_elem? s.views seat ≡ some me.0 → n % 2 ≡ 0 → slice_index s.words 0 ≡ n
      → (w : Knowledge E F) × (a : Act M) × Valid s.homes me.1 a × Rule (stepped s 0 (n + 1) seat me.1 w a) × Takes history fixed by lawful (step slots 0 n (n + 1) none) me n (w, carried_after me.1 a)
  taken slots seat me n s k at even is =
      let before : ℕ = length (history first) in
      let v : Knowledge E F = me.0 in
      let word : word_of before (length k.log) k.is_out ≡ n = ap (λ (ws : List ℕ). slice_index ws 0) (sym k.words) ∙ is in
      let home : k.is_out ≡ false = at_home before (length k.log) n k.is_out word even in
      let h = k.home home in
      let f = k.each seat v at in
      let w : Knowledge E F = holding v.number v.room v.seen k.log v.fixed in
      let plus : word_of before (length k.log) true ≡ n + 1 = (let word' : word_of before (length k.log) false ≡ n = ap (word_of before (length k.log)) (sym home) ∙ word in omega arith) in
      let words : set s.words 0 (n + 1) ≡ word_of before (length k.log) true ∷ [] = ap (λ (ws : List ℕ). set ws 0 (n + 1)) k.words ∙ ap (λ (j : ℕ). j ∷ []) (sym plus) in
      let homes : set s.homes 0 none ≡ none ∷ [] = ap (λ hs. set hs 0 none) h.1 in (
        w,
        takes 0 h.0,
        ap (λ hs. get_elem? hs 0) h.1,
        subst (λ ws. Rule record { words = ws; homes = set s.homes 0 none; views = set s.views seat w }) (sym words)
            (subst (λ hs. Rule record { words = word_of before (length k.log) true ∷ []; homes = hs; views = set s.views seat w }) (sym homes) (took s k seat v at home)),
        (
          (λ _. (
            h.0,
            refl,
            record {
              between = f.rest;
              others = f.others;
              later = f.later;
              goes_on = sym f.begins ∙ f.found_before;
              view_is = ap (λ l. holding v.number v.room v.seen l v.fixed) f.begins;
              has = h.2 ∙ f.begins;
              same = h.3 ∙ sym f.same;
              legal = subst (λ l. lawful v.fixed l) f.begins (subst (λ g. lawful g k.log) (sym f.same) k.legal);
              unused = subst (NoneBetween by (v.number + 1) (v.number + v.room)) f.begins f.unused;
            },
          )),
          (λ ne. absurd (ne refl)),
        ),
      )

  -- another number was found: nothing changes
  not_taken : (seat : ℕ) (me : Me M (Knowledge E F)) (s : State M (Knowledge E F)) → Rule s → get_elem? s.views seat ≡ some me.0 → Rule (stepped s 0 (slice_index s.words 0) seat me.1 me.0 keeps)
  not_taken seat me s k at =
      let words : set s.words 0 (slice_index s.words 0) ≡ s.words = rw k.words refl in
      subst (λ ws. Rule record { words = ws; homes = s.homes; views = set s.views seat me.0 }) (sym words)
      (subst (λ vs. Rule record { words = s.words; homes = s.homes; views = vs }) (sym (set_again s.views seat me.0 at)) k)

  pub take_allows : (slots seat : ℕ) (me : Me M (Knowledge E F)) (n : ℕ) → n % 2 ≡ 0 → Allows Rule slots seat me 0 (λ k. either (k == n) (n + 1) k) (Takes history fixed by lawful (step slots 0 n (n + 1) none) me)
  take_allows slots seat me n even s k wide at fits =
      let found : ℕ = slice_index s.words 0 in
      let by_test : (b : Bool) → (found == n) ≡ b
      → (w : Knowledge E F) × (a : Act M) × Valid s.homes me.1 a × Rule (stepped s 0 (either b (n + 1) found) seat me.1 w a) × Takes history fixed by lawful (step slots 0 n (n + 1) none) me found (w, carried_after me.1 a) =
      elim [
        | true ↦ (λ e.
            let is : found ≡ n = grind (arith, nat_tests) in
            let t = taken slots seat me n s k at even is in
            (t.0, t.1, t.2, t.3, subst (λ j. Takes history fixed by lawful (step slots 0 n (n + 1) none) me j (t.0, carried_after me.1 t.1)) (sym is) t.4))
        | false ↦ (λ e.
            let differ : found ≢ n = grind (arith, nat_tests) in
            (me.0, keeps, tt, not_taken seat me s k at, ((λ is. absurd (differ is)), (λ _. refl))))
      ] in
      by_test (found == n) refl
