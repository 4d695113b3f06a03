use Rattle.std.proofs.Common.{◌∷◌, None}
use Rattle.task_list.proofs.Merged.{put_some, put_none}
use Rattle.task_list.proofs.Telling.{told_moved, told_page, told_none}
use Rattle.task_list.specs.Merges.{cursors_of}
use Rattle.task_list.specs.Sightings.{with_page}
use Rattle.task_list.proofs.merging.Merging.put.Goals as goal

pub returns-in_ok-push-clause-fits : goal.returns-in_ok-push-clause-fits
returns-in_ok-push-clause-fits c = λ zone k events own f came.
    let of_page = c.in-Some.ensures.some in
    put_some zone k c.args.self.now c.args.next.now c.args.page events own f came c.push.new.self c.in-Some.cursor c.in_ok-push.ensures of_page.0 of_page.1 of_page.2

pub returns-in_ok-push-clause-told : goal.returns-in_ok-push-clause-told
returns-in_ok-push-clause-told c = λ t a rise.
    let m = c.args.self.now in
    let of_page = c.in-Some.ensures.some in
    told_moved m.row (c.in-Some.cursor ∷ cursors_of m.merge) (cursors_of c.push.new.self) m.unread None (with_page m.row c.args.next.now c.args.page t) c.in_ok-push.ensures
    (told_page m.row (cursors_of m.merge) m.unread c.args.next.now c.args.page t a c.in-Some.cursor rise of_page.0 c.in-Some.ensures.clock of_page.2)

pub returns-in_default-clause-fits : goal.returns-in_default-clause-fits
returns-in_default-clause-fits c = λ zone k events own f came.
    put_none zone k c.args.self.now c.args.next.now c.args.page events own f came c.in_default.ensures.none

pub returns-in_default-clause-told : goal.returns-in_default-clause-told
returns-in_default-clause-told c = λ t a rise.
    let m = c.args.self.now in
    told_none m.row (cursors_of m.merge) m.unread c.args.next.now c.args.page t a
