use Rattle.request_service.proofs.beside.BesideStaged.waits.Goals as goal

pub returns : goal.returns
returns g c = λ t settings d e waited legal f. c.waits.ensures t.task settings d e waited legal f
