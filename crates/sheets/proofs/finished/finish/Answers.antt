-- The cells in use are the text of the clauses held, which reads back as these.
use Rattle.cnf.proofs.TextBack.{text_reads_back}
use Rattle.sheets.proofs.finished.finish.Goals as goal

pub returns-clause-back : goal.returns-clause-back
returns-clause-back c = text_reads_back
