-- The struct tells what the check answers.
use Rattle.sarvundole.proofs.exported.sarvundole_check_nonadjacent.Goals as goal

pub returns : goal.returns
returns c = rw (c.into-2.ensures, ← c.into.ensures) c.check_nonadjacent.ensures
