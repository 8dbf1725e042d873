-- No reason has the number of acceptance, and no two have one number: a refusal is told by its number and its place. Assumes nothing.
use Rattle.std.proofs.Common.{◌≡◌, ◌≢◌, ℕ, arith}
use Rattle.refusals.specs.declared.Reason.{Reason}
use Rattle.refusals.specs.declared.Reason.TheVariants.{BadForm, BadWidth, LongScalar, FewPlaces, FewMarks, LongString, BadDigit, OtherWorth, NearDigits, ShortTape, ZeroModulus, LongTape, FewMultiples, BadWord, Malformed, NoInverse, UnequalScalars, BadGroup, NotBelow, UnfitFrame, BadSet, NoWidthFits, ShortLine}
use Rattle.refusals.specs.declared.Refusal.{Refusal}
use Rattle.refusals.specs.Coded.{coded}

pub coded_some : (r : Reason) → coded r ≢ 0
coded_some BadForm e = omega arith
coded_some BadWidth e = omega arith
coded_some LongScalar e = omega arith
coded_some FewPlaces e = omega arith
coded_some FewMarks e = omega arith
coded_some LongString e = omega arith
coded_some BadDigit e = omega arith
coded_some OtherWorth e = omega arith
coded_some NearDigits e = omega arith
coded_some ShortTape e = omega arith
coded_some ZeroModulus e = omega arith
coded_some LongTape e = omega arith
coded_some FewMultiples e = omega arith
coded_some BadWord e = omega arith
coded_some Malformed e = omega arith
coded_some NoInverse e = omega arith
coded_some UnequalScalars e = omega arith
coded_some BadGroup e = omega arith
coded_some NotBelow e = omega arith
coded_some UnfitFrame e = omega arith
coded_some BadSet e = omega arith
coded_some NoWidthFits e = omega arith
coded_some ShortLine e = omega arith

-- a number has one reason
pub coded_same : (a b : Reason) → coded a ≡ coded b → a ≡ b
coded_same a b e = grind arith

-- and so has a refusal's, with its place
at : Reason → ℕ → Refusal
at reason p = record { reason = reason; place = p }

pub refusal_same : (f g : Refusal) → coded f.reason ≡ coded g.reason → f.place ≡ g.place → f ≡ g
unfolding at
refusal_same f g e p =
    let r = coded_same f.reason g.reason e in
    let same : at f.reason f.place ≡ at g.reason g.place = cc in
    same
