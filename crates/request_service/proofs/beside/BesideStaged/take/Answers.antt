use Rattle.request_service.proofs.beside.BesideStaged.take.Goals as goal

pub returns-clause-next : goal.returns-clause-next
returns-clause-next g c = λ t taken suits back room settings d e moment f x. c.take.ensures.next t.task taken.0 suits back room settings d e moment f x
