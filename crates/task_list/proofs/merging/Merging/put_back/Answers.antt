use Rattle.std.proofs.Common.{◌≡◌, ◌∷◌, [], List, ℕ, IfSome, None, length, ap, sym, ◌∙◌, subst, refl, arith}
use Rattle.std.proofs.lemmas.List.Sorted.{sum_by_pushed}
use Rattle.object_words.specs.Entries.{EntryView}
use Rattle.task_list.specs.declared.cursor.Cursor.{Cursor}
use Rattle.task_list.specs.Cursors.{left_of, left_in}
use Rattle.task_list.specs.Merges.{cursors_of}
use Rattle.task_list.specs.Sightings.{AreTold}
use Rattle.task_list.proofs.Merged.{entry_some, entry_end, entry_used}
use Rattle.task_list.proofs.Telling.{told_moved, entry_told, told_rest, told_end, told_used}
use Rattle.task_list.proofs.merging.Merging.put_back.Goals as goal

pub returns-in_ok-push-in-Some-clause-fits : goal.returns-in_ok-push-in-Some-clause-fits
returns-in_ok-push-in-Some-clause-fits c = λ zone k events f.
    let e = c.split-entry.result.0 in
    let left = c.split-entry.ensures.left ∙ ap (λ o. e ∷ left_in o) c.in-Some.is in
    let same = subst (λ o. IfSome o (λ (d : Cursor). (d.shard ≡ c.args.cursor.shard) × (d.end ≡ c.args.cursor.end))) c.in-Some.is c.split-entry.ensures.same in
    let moved = c.in_ok-push-in-Some.ensures in
    entry_some zone k c.args.self.now c.args.cursor e events c.requires.read f c.in-Some.rest c.push.new.self left same.0 same.1 moved c.requires.none

pub returns-in-None-clause-fits : goal.returns-in-None-clause-fits
returns-in-None-clause-fits c = λ zone k events f.
    let e = c.split-entry.result.0 in
    let left = c.split-entry.ensures.left ∙ ap (λ o. e ∷ left_in o) c.in-None.is in
    entry_end zone k c.args.self.now c.args.cursor e events c.requires.read f c.if-end.true left c.requires.none

pub returns-in_ok-after-in-None-2-clause-fits : goal.returns-in_ok-after-in-None-2-clause-fits
returns-in_ok-after-in-None-2-clause-fits c = λ zone k events f.
    let e = c.split-entry.result.0 in
    let left = c.split-entry.ensures.left ∙ ap (λ o. e ∷ left_in o) c.in-None-2.is in
    let name = ap (λ (x : List ℕ × EntryView). x.0) c.entry-in-None-2.view_is in
    let after = c.in_ok-after-in-None-2.ensures.cases ∙ c.as_text.ensures.text ∙ name in
    entry_used zone k c.args.self.now c.args.cursor e events c.requires.read f (record { shard = c.args.cursor.shard; after = c.in_ok-after-in-None-2.after }) refl after left

pub returns-in_ok-push-in-Some-clause-fewer : goal.returns-in_ok-push-in-Some-clause-fewer
returns-in_ok-push-in-Some-clause-fewer c =
    let left = c.split-entry.ensures.left ∙ ap (λ o. c.split-entry.result.0 ∷ left_in o) c.in-Some.is in
    let long = ap length left in
    let moved = c.in_ok-push-in-Some.ensures in
    let sum = sum_by_pushed (λ (d : Cursor). length (left_of d)) c.in-Some.rest (cursors_of c.args.self.now.merge) (cursors_of c.push.new.self) moved in
    omega (arith, long, sum)

pub returns-in-None-clause-fewer : goal.returns-in-None-clause-fewer
returns-in-None-clause-fewer c = omega arith

pub returns-in_ok-after-in-None-2-clause-fewer : goal.returns-in_ok-after-in-None-2-clause-fewer
returns-in_ok-after-in-None-2-clause-fewer c = omega arith

pub returns-in_ok-push-in-Some-clause-told : goal.returns-in_ok-push-in-Some-clause-told
returns-in_ok-push-in-Some-clause-told c = λ t a.
    let m = c.args.self.now in
    let cursor = c.args.cursor in
    let rest = c.in-Some.rest in
    let e = c.split-entry.result.0 in
    let left = c.split-entry.ensures.left ∙ ap (λ o. e ∷ left_in o) c.in-Some.is in
    let same = subst (λ o. IfSome o (λ (d : Cursor). (d.shard ≡ cursor.shard) × (d.end ≡ cursor.end))) c.in-Some.is c.split-entry.ensures.same in
    let clock = subst (λ o. IfSome o (λ (d : Cursor). d.clock ≡ cursor.clock)) c.in-Some.is c.split-entry.ensures.clock in
    let others = cursors_of m.merge in
    let now = told_moved m.row (rest ∷ others) (cursors_of c.push.new.self) m.unread None t c.in_ok-push-in-Some.ensures
    (told_rest m.row cursor others m.unread t a e (left_of rest) left rest same.0 clock refl) in (
      subst (λ used. AreTold m.row (cursors_of c.push.new.self) m.unread used t) (sym c.requires.none) now,
      entry_told m.row cursor others m.unread t a e (left_of rest) left,
    )

pub returns-in-None-clause-told : goal.returns-in-None-clause-told
returns-in-None-clause-told c = λ t a.
    let m = c.args.self.now in
    let e = c.split-entry.result.0 in
    let left = c.split-entry.ensures.left ∙ ap (λ o. e ∷ left_in o) c.in-None.is in
    let others = cursors_of m.merge in (
      subst (λ used. AreTold m.row others m.unread used t) (sym c.requires.none) (told_end m.row c.args.cursor others m.unread t a e [] left),
      entry_told m.row c.args.cursor others m.unread t a e [] left,
    )

pub returns-in_ok-after-in-None-2-clause-told : goal.returns-in_ok-after-in-None-2-clause-told
returns-in_ok-after-in-None-2-clause-told c = λ t a.
    let m = c.args.self.now in
    let e = c.split-entry.result.0 in
    let left = c.split-entry.ensures.left ∙ ap (λ o. e ∷ left_in o) c.in-None-2.is in
    let others = cursors_of m.merge in (
      told_used m.row c.args.cursor others m.unread t a e [] left (record { shard = c.args.cursor.shard; after = c.in_ok-after-in-None-2.after }) refl,
      entry_told m.row c.args.cursor others m.unread t a e [] left,
    )
