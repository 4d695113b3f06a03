use Rattle.std.proofs.Common.{Some, length, sym, ◌∙◌, subst, arith}
use Rattle.std.proofs.lemmas.List.Sorted.{sum_by_popped}
use Rattle.task_list.specs.declared.cursor.Cursor.{Cursor}
use Rattle.task_list.specs.declared.merging.Passed.{Passed}
use Rattle.task_list.specs.Cursors.{left_of}
use Rattle.task_list.specs.Merges.{cursors_of}
use Rattle.task_list.specs.Sightings.{AreTold, PassedTold}
use Rattle.task_list.specs.Stages.{MergingFits, PassedFits}
use Rattle.task_list.proofs.Telling.{popped_told}
use Rattle.task_list.proofs.Merged.{done_full, done_none, used_taken, none_taken, popped, read_same}
use Rattle.task_list.proofs.merging.Merging.advance.Goals as goal

pub names-smaller : goal.names-smaller
names-smaller c =
    let sum = sum_by_popped (λ (d : Cursor). length (left_of d)) c.in-Some-pop.cursor (cursors_of c.names.self.merge) (cursors_of c.pop.new.self) c.in-Some-pop.ensures.taken in
    let fewer = c.in_ok-pass.ensures.fewer in
    omega (arith, sum, fewer)

pub names-preserved : goal.names-preserved
names-preserved c =
    let m = c.names.self in
    let k = c.args.command.now in
    let none = sym c.take.ensures.value ∙ c.in_default.is in
    record {
      read = read_same m c.pass.new.self c.names.invariant.read c.in_ok-pass.ensures.row c.in_ok-pass.ensures.unread;
      same_row = c.in_ok-pass.ensures.row ∙ c.names.invariant.same_row;
      told = λ t a.
          subst (λ (p : Passed). PassedTold c.pass.new.self p t) c.in-On.is
          (c.in_ok-pass.ensures.told t (popped_told m c.take.new.self c.pop.new.self c.in-Some-pop.cursor t none c.in-Some-pop.ensures.taken (c.names.invariant.told t a)));
      fits = λ zone events f.
          let before = none_taken zone k m c.take.new.self events c.take.ensures.after none (c.names.invariant.fits zone events f) in
          subst (λ (p : Passed). PassedFits zone k c.pass.new.self p events) c.in-On.is
          (c.in_ok-pass.ensures.fits zone events (popped zone k (record m { used_up = c.take.new.self }) c.pop.new.self c.in-Some-pop.cursor events before c.in-Some-pop.ensures.taken c.in-Some-pop.ensures.least));
    }

pub returns-then-is_full-clause-passes : goal.returns-then-is_full-clause-passes
returns-then-is_full-clause-passes c = record {
  fits = λ zone events f.
      let m = c.names.self in
      done_full zone c.args.command.now m m.used_up events (c.names.invariant.fits zone events f) (sym c.is_full.ensures ∙ c.if-is_full.true);
  told = λ t a. tt;
}

pub returns-in-Some-clause-passes : goal.returns-in-Some-clause-passes
returns-in-Some-clause-passes c = record {
  fits = λ zone events f.
      let m = c.names.self in
      let k = c.args.command.now in
      let next = c.in-Some.next in
      let taken = used_taken zone k m next events (sym c.in-Some.ensures.value) (c.names.invariant.fits zone events f) in
      (subst (λ u. MergingFits zone k (record m { used_up = u }) (Some next) events) (sym c.take.ensures.after) taken, c.take.ensures.after);
  told = λ t a.
      let m = c.names.self in
      subst (λ used. AreTold m.row (cursors_of m.merge) m.unread used t) (sym c.in-Some.ensures.value) (c.names.invariant.told t a);
}

pub returns-in_default-pop-clause-passes : goal.returns-in_default-pop-clause-passes
returns-in_default-pop-clause-passes c = record {
  fits = λ zone events f.
      let m = c.names.self in
      let k = c.args.command.now in
      let none = sym c.take.ensures.value ∙ c.in_default.is in
      done_none zone k m events (subst (λ u. MergingFits zone k m u events) none (c.names.invariant.fits zone events f)) c.names.invariant.read c.in_default-pop.ensures.none;
  told = λ t a. tt;
}

pub returns-in-Head-clause-passes : goal.returns-in-Head-clause-passes
returns-in-Head-clause-passes c = record {
  fits = λ zone events f.
      let m = c.names.self in
      let k = c.args.command.now in
      let none = sym c.take.ensures.value ∙ c.in_default.is in
      let before = none_taken zone k m c.take.new.self events c.take.ensures.after none (c.names.invariant.fits zone events f) in
      subst (λ (p : Passed). PassedFits zone k c.pass.new.self p events) c.in-Head.is
      (c.in_ok-pass.ensures.fits zone events (popped zone k (record m { used_up = c.take.new.self }) c.pop.new.self c.in-Some-pop.cursor events before c.in-Some-pop.ensures.taken c.in-Some-pop.ensures.least));
  told = λ t a.
      let m = c.names.self in
      let none = sym c.take.ensures.value ∙ c.in_default.is in
      subst (λ (p : Passed). PassedTold c.pass.new.self p t) c.in-Head.is
      (c.in_ok-pass.ensures.told t (popped_told m c.take.new.self c.pop.new.self c.in-Some-pop.cursor t none c.in-Some-pop.ensures.taken (c.names.invariant.told t a)));
}

pub returns-in-Past-clause-passes : goal.returns-in-Past-clause-passes
returns-in-Past-clause-passes c = record {
  fits = λ zone events f.
      let m = c.names.self in
      let k = c.args.command.now in
      let none = sym c.take.ensures.value ∙ c.in_default.is in
      let before = none_taken zone k m c.take.new.self events c.take.ensures.after none (c.names.invariant.fits zone events f) in
      subst (λ (p : Passed). PassedFits zone k c.pass.new.self p events) c.in-Past.is
      (c.in_ok-pass.ensures.fits zone events (popped zone k (record m { used_up = c.take.new.self }) c.pop.new.self c.in-Some-pop.cursor events before c.in-Some-pop.ensures.taken c.in-Some-pop.ensures.least));
  told = λ t a. tt;
}
