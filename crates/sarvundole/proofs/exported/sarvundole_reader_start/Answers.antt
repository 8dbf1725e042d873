-- The state that a reader starts with fits.
use Rattle.sarvundole.proofs.Kept.{starts_small}
use Rattle.sarvundole.proofs.exported.sarvundole_reader_start.Goals as goal

pub kept-requires : goal.kept-requires
kept-requires c = starts_small c.start.ensures
