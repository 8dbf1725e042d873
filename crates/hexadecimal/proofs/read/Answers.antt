-- Each pair that the chunks give is a byte more, and what is left in the end is less than a pair. Assumes nothing.
use Rattle.std.proofs.Common.{arith, add-one, length-set, length-append, ap, ◌∙◌, ◌<◌, length}
use Rattle.hexadecimal.proofs.Characters.{paired, bytes_end}
use Rattle.hexadecimal.proofs.read.Goals as goal

pub byte-requires : goal.byte-requires
byte-requires c =
    let l = c.loop-k in
    let s = c.in-Some.ensures.steps in
    let p = paired l.k-iterator.iter.rest.now c.in-Some.pair.now c.next.new.self.iter.rest.now l.invariant.hex s.0.1.0 (s.0.1.1 ∙ l.invariant.pairs) in
    (p.high, p.low)

pub loop-k-preserved : goal.loop-k-preserved
loop-k-preserved c =
    let l = c.loop-k in
    let s = c.in-Some.ensures.steps in
    let p = paired l.k-iterator.iter.rest.now c.in-Some.pair.now c.next.new.self.iter.rest.now l.invariant.hex s.0.1.0 (s.0.1.1 ∙ l.invariant.pairs) in
    record {
      pairs = s.0.0 ∙ l.invariant.pairs;
      hex = p.rest_hex;
      room = simp length-set (omega (arith, simp length-append at (ap length s.0.1.0)));
      stored = rw (s.1, s.2, c.byte.ensures, add-one) (rw p.bytes_are at l.invariant.stored);
    }

pub returns : goal.returns
returns c =
    let l = c.loop-k in
    let s = c.in-None.ensures.steps in
    let few : length l.k-iterator.iter.rest.now < 2 = omega (arith, s.0.1.0, l.invariant.pairs) in
    rw (bytes_end l.k-iterator.iter.rest.now few) at l.invariant.stored
