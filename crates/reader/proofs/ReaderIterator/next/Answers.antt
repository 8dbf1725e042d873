-- `next` keeps its promise, as the call on its state does. Assumes nothing.
use Rattle.reader.proofs.Calls.{calls, goes}
use Rattle.reader.proofs.ReaderIterator.next.Goals as goal

pub returns-clause-steps : goal.returns-clause-steps
returns-clause-steps c = rw (c.moved-self.ensures, c.call-taken.ensures) (calls c.args.self.now)

pub returns-clause-goes : goal.returns-clause-goes
returns-clause-goes c = rw (c.moved-self.ensures, c.call-taken.ensures) (goes c.args.self.now)
