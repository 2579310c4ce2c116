-- The encoder keeps its law, and what follows from it for a line and for lines one after another.
use Rattle.encode.specs.Direct.{direct_encoding}
use Rattle.encode.proofs.Directing.{direct_lawful}
use Rattle.encode.proofs.Modelling.{models_extend}
use Rattle.encode.proofs.Together.{lines_together}
use Rattle.encoders.proofs.direct.Direct.new.Goals as goal

pub returns-clause-law : goal.returns-clause-law
returns-clause-law c = direct_lawful

pub returns-clause-models : goal.returns-clause-models
returns-clause-models c = models_extend direct_encoding direct_lawful

pub returns-clause-lines : goal.returns-clause-lines
returns-clause-lines c = lines_together
