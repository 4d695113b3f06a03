use Rattle.std.proofs.Common.{ap, ◌∙◌}
use Rattle.task_list.specs.Tasks.{request_of}
use Rattle.request_service.specs.declared.listing.Listing.{Listing}
use Rattle.request_service.specs.ListLaws.{fits_next}
use Rattle.request_service.proofs.listing.ListingStaged.take.Goals as goal

pub returns-clause-next : goal.returns-clause-next
returns-clause-next c = λ t taken suits back room settings d e moment f x.
    fits_next t (record { task = c.take.new.self; listing = c.args.self.now.listing }) settings d e moment c.args.answered taken.1 (c.take.ensures.command ∙ ap (λ (l : Listing). request_of l.task) taken.0) f x
    (c.take.ensures.next t.task (ap (λ (l : Listing). l.task) taken.0, taken.1) suits back room settings d e moment f.stands x)

pub returns-clause-steps : goal.returns-clause-steps
returns-clause-steps c = λ t taken suits back. c.take.ensures.steps t.task (ap (λ (l : Listing). l.task) taken.0, taken.1) suits back
