-- Each return is one answer. Assumes nothing.
use Rattle.joined.proofs.Refusals.{all_held, accepts}
use Rattle.joined.proofs.run_joint.Goals as goal

pub reach-state-requires-clause-held : goal.reach-state-requires-clause-held
reach-state-requires-clause-held c = all_held c.args.tape.now c.args.modulus c.args.first c.args.second c.args.entries.now c.in_ok-judged.ensures c.store.ensures

pub returns : goal.returns
returns c = accepts c.args.tape.now c.args.modulus c.args.first c.args.second c.args.entries.now c.in_ok-judged.ensures c.store.ensures c.reach-state.ensures
