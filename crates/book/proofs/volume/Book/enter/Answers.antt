use Rattle.std.proofs.Common.{length-set, arith}
use Rattle.book.proofs.Quoted.{count_is, entered_quoted}
use Rattle.book.proofs.Shifts.{put_is}
use Rattle.book.proofs.volume.Book.enter.Goals as goal

pub returns-clause-register : goal.returns-clause-register
returns-clause-register g c = grind (arith, length-set, put_is, count_is, entered_quoted, g.met.K.Instrument.back c.args.quotation)
