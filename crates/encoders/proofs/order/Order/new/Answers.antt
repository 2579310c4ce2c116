-- The encoder keeps its law, and what follows from it for a line and for lines one after another.
use Rattle.encode.specs.Order.{order_encoding}
use Rattle.encode.proofs.Modelling.{models_extend}
use Rattle.encode.proofs.Ordering.{order_lawful}
use Rattle.encode.proofs.Together.{lines_together}
use Rattle.encoders.proofs.order.Order.new.Goals as goal

pub returns-clause-law : goal.returns-clause-law
returns-clause-law c = order_lawful

pub returns-clause-models : goal.returns-clause-models
returns-clause-models c = models_extend order_encoding order_lawful

pub returns-clause-lines : goal.returns-clause-lines
returns-clause-lines c = lines_together
