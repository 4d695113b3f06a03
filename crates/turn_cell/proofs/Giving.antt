-- The steps that give the value back keep the rule.
use Rattle.std.proofs.Common.{◌≡◌, ◌≢◌, ℕ, ◌+◌, ◌-◌, ◌%◌, ◌^◌, ◌<◌, ◌≤◌, ◌⊎◌, true, false, List, [], ◌∷◌, ◌++◌, length, set, refl, sym, ap, ◌∙◌, subst, inl, inr, ⊎_elim, arith, length-append, append_assoc}
use Rattle.std.proofs.lemmas.List.{append-nil}
use Rattle.std.specs.List.{slice_index}
use mathlib.Core.Option.{some, none}
use lib.ListN.{get_elem?}
use Rattle.atomic_table.specs.Table.{State, Me, gives, step, Allows, stepped, rest, put_back}
use Rattle.turn_cell.specs.Histories.{NoneBy, NoneBetween}
use Rattle.turn_cell.specs.declared.knowledge.Knowledge.{Knowledge}
use Rattle.turn_cell.specs.Rule.{resting, Knows, word_of, HasOneHistory}
use Rattle.turn_cell.specs.Plays.{GivesNext, GivesSame, IsChanged, IsUnchanged}
use Rattle.turn_cell.proofs.Events.{all_append, AllBy, none_by_another, none_between_by}
use Rattle.turn_cell.proofs.Passes.{apart_set, each_set}

-- the value that a seat took last
abbrev taken_last : {X : Type 0} → X → List (ℕ × X) → X
taken_last d [] = d
taken_last d (c ∷ cs) = c.1

pub one_value : {M : Type 0} (carried xs ys : List (ℕ × M)) (a b : M) → carried ≡ (0, a) ∷ xs → carried ≡ (0, b) ∷ ys → a ≡ b
one_value carried xs ys a b p q = ap (taken_last a) (sym p ∙ q)

module _ {M E F : Type 0} (history : M → List E) (fixed : M → F) (by : E → ℕ) (lawful : F → List E → Type 0) (first : M) where
  abbrev Rule : State M (Knowledge E F) → Type 0
  Rule s = HasOneHistory history fixed by lawful first s

  -- the state once the value m is at home again, with these events added by the pass, which then has seen `seen`
  gave : (s : State M (Knowledge E F)) (k : Rule s) (seat : ℕ) (v : Knowledge E F) → get_elem? s.views seat ≡ some v → v.has_turn ≡ true → (m : M) (added seen tail : List E)
      → history m ≡ v.found ++ added → AllBy by v.number added → fixed m ≡ v.fixed → lawful v.fixed (history m) → history m ≡ seen ++ tail → NoneBy by v.number tail
      → Rule record { words = word_of (length (history first)) (length (history m)) false ∷ []; homes = some m ∷ []; views = set s.views seat (resting v.number v.room seen v.found v.fixed) }
  gave s k seat v at turn m added seen tail grows own same legal begins others =
      let f = k.each seat v at in
      let t = f.turn turn in
      let all : history m ≡ k.log ++ added = grows ∙ ap (λ l. l ++ added) (sym t.2) in
      let unused : (low high : ℕ) → (v.number < low) ⊎ (high ≤ v.number) → NoneBetween by low high k.log → NoneBetween by low high (history m) =
      (λ low high d p. subst (NoneBetween by low high) (sym all) (all_append (λ e. (by e < low) ⊎ (high ≤ by e)) k.log added p (none_between_by by v.number low high added d own))) in
      record {
        log = history m;
        is_out = false;
        holder = seat;
        longer = let n : length (history m) ≡ length k.log + length added = ap length all ∙ length-append k.log added in let l : length (history first) ≤ length k.log = k.longer in omega arith;
        words = refl;
        legal = subst (λ g. lawful g (history m)) f.same legal;
        home = λ e. (m, refl, refl, same ∙ f.same);
        away = λ e. absurd cc;
        each =
            each_set (λ j w. Knows by (fixed first) (history m) false seat j w) s.views seat (resting v.number v.room seen v.found v.fixed)
            (record {
              rest = tail;
              begins = begins;
              others = others;
              later = added;
              found_before = grows;
              unused = unused (v.number + 1) (v.number + v.room) (inl (omega arith)) f.unused;
              some_room = f.some_room;
              same = f.same;
              turn = λ e. absurd cc;
            })
            (λ j w differ there.
            let g = k.each j w there in
            let d = k.apart seat j v w at there (λ e. differ (sym e)) in
            let a : 0 < v.room = f.some_room in
            let b : 0 < w.room = g.some_room in
            let apart : v.number ≢ w.number = (λ e. ⊎_elim (λ l. absurd (omega (arith, l, e, a))) (λ l. absurd (omega (arith, l, e, b))) d) in
            record {
              rest = g.rest ++ added;
              begins = all ∙ (ap (λ l. l ++ added) g.begins ∙ append_assoc w.seen g.rest added);
              later = g.later ++ added;
              found_before = all ∙ (ap (λ l. l ++ added) g.found_before ∙ append_assoc w.found g.later added);
              others = all_append (λ e. by e ≢ w.number) g.rest added g.others (none_by_another by v.number w.number added apart own);
              unused = unused (w.number + 1) (w.number + w.room) (⊎_elim (λ l. inl (omega (arith, l, a))) (λ l. inr l) d) g.unused;
              some_room = g.some_room;
              same = g.same;
              turn = λ u. absurd (differ ((g.turn u).1 ∙ sym t.1));
            });
        apart = apart_set s.views seat v (resting v.number v.room seen v.found v.fixed) at (omega arith) (omega arith) k.apart;
      }

  -- the word becomes f of what it was, and the slot has the value again
  back : (f : ℕ → ℕ) (seat : ℕ) (me : Me M (Knowledge E F)) (m : M) (added seen : List E) → me.0.has_turn ≡ true → me.1 ≡ (0, m) ∷ [] → history m ≡ me.0.found ++ added → AllBy by me.0.number added
      → fixed m ≡ me.0.fixed → lawful me.0.fixed (history m)
      → ((tail : List E) → me.0.found ≡ me.0.seen ++ tail → NoneBy by me.0.number tail → (tail' : List E) × (history m ≡ seen ++ tail') × NoneBy by me.0.number tail')
      → ((log : List E) → log ≡ me.0.found → (before word : ℕ) → before ≤ length log → word < 2 ^ 64 → word ≡ word_of before (length log) true → f word ≡ word_of before (length (history m)) false)
      → (s : State M (Knowledge E F)) → Rule s → get_elem? s.views seat ≡ some me.0 → slice_index s.words 0 < 2 ^ 64
      → Rule (stepped s 0 (f (slice_index s.words 0)) seat me.1 (resting me.0.number me.0.room seen me.0.found me.0.fixed) gives)
  back f seat me m added seen turn carried grows own same legal tails word s k at fits =
      let v : Knowledge E F = me.0 in
      let w : Knowledge E F = resting v.number v.room seen v.found v.fixed in
      let g = k.each seat v at in
      let t = g.turn turn in
      let r = tails g.rest (sym t.2 ∙ g.begins) g.others in
      let before : ℕ = length (history first) in
      let now : ℕ = word_of before (length (history m)) false in
      let found : slice_index s.words 0 ≡ word_of before (length k.log) true = ap (λ (ws : List ℕ). slice_index ws 0) k.words ∙ ap (word_of before (length k.log)) t.0 in
      let words : set s.words 0 (f (slice_index s.words 0)) ≡ now ∷ [] = ap (λ (ws : List ℕ). set ws 0 (f (slice_index s.words 0))) k.words ∙ ap (λ (j : ℕ). j ∷ []) (word k.log t.2 before (slice_index s.words 0) k.longer fits found) in
      let homes : set s.homes 0 (some m) ≡ some m ∷ [] = ap (λ hs. set hs 0 (some m)) (k.away t.0) in
      subst (λ c. Rule record { words = set s.words 0 (f (slice_index s.words 0)); homes = put_back s.homes c; views = set s.views seat w }) (sym carried)
      (subst (λ ws. Rule record { words = ws; homes = set s.homes 0 (some m); views = set s.views seat w }) (sym words)
      (subst (λ hs. Rule record { words = now ∷ []; homes = hs; views = set s.views seat w }) (sym homes)
      (gave s k seat v at turn m added seen r.0 grows own same legal r.1 r.2)))

  -- with one event more, and the next number
  pub next_allows : (slots seat : ℕ) (me : Me M (Knowledge E F)) → IsChanged history fixed by lawful me → Allows Rule slots seat me 0 (λ n. (n + 1) % 2 ^ 64) (GivesNext history (step slots 0 1 0 none) me)
  next_allows slots seat me c s k wide at fits = (
    resting me.0.number me.0.room (history c.value) me.0.found me.0.fixed,
    gives,
    tt,
    back (λ n. (n + 1) % 2 ^ 64) seat me c.value (c.event ∷ []) (history c.value) c.out c.slot c.grows (c.own, tt) c.same c.legal
        (λ tail _ _. ([], sym (append-nil (history c.value)), tt))
        (λ log is before word less small at_word.
        let longer : length (history c.value) ≡ length me.0.found + 1 = ap length c.grows ∙ length-append me.0.found (c.event ∷ []) in
        let same : length log ≡ length me.0.found = ap length is in
        let room : length me.0.found < 2 ^ 62 = c.room in
        omega arith)
        s k at fits,
    (λ m is. ap (λ x. (resting me.0.number me.0.room (history x) me.0.found me.0.fixed, rest me.1)) (one_value me.1 [] (rest me.1) c.value m c.slot is)),
  )

  -- unchanged, with the same number
  pub same_allows : (slots seat : ℕ) (me : Me M (Knowledge E F)) → IsUnchanged history fixed lawful me → Allows Rule slots seat me 0 (λ n. (n + (2 ^ 64 - 1)) % 2 ^ 64) (GivesSame (step slots 0 1 0 none) me)
  same_allows slots seat me c s k wide at fits = (
    resting me.0.number me.0.room me.0.seen me.0.found me.0.fixed,
    gives,
    tt,
    back (λ n. (n + (2 ^ 64 - 1)) % 2 ^ 64) seat me c.value [] me.0.seen c.out c.slot (c.unchanged ∙ sym (append-nil me.0.found)) tt c.same c.legal
        (λ tail begins others. (tail, c.unchanged ∙ begins, others))
        (λ log is before word less small at_word.
        let longer : length (history c.value) ≡ length log = ap length c.unchanged ∙ sym (ap length is) in
        omega arith)
        s k at fits,
    refl,
  )
