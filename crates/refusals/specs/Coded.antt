-- The number by which C knows a reason, and a refusal at a place. Assumes nothing.
use Rattle.std.specs.Prelude.{◌≡◌, ℕ}
use Rattle.refusals.specs.declared.Reason.{Reason}
use Rattle.refusals.specs.declared.Reason.TheVariants.{BadForm, BadWidth, LongScalar, FewPlaces, FewMarks, LongString, BadDigit, OtherWorth, NearDigits, ShortTape, ZeroModulus, LongTape, FewMultiples, BadWord, Malformed, NoInverse, UnequalScalars, BadGroup, NotBelow, UnfitFrame, BadSet, NoWidthFits, ShortLine}
use Rattle.refusals.specs.declared.Refusal.{Refusal}

-- 6 was struck
abbrev pub coded : Reason → ℕ
coded BadForm = 1
coded BadWidth = 2
coded LongScalar = 3
coded FewPlaces = 4
coded FewMarks = 5
coded LongString = 7
coded BadDigit = 8
coded OtherWorth = 9
coded NearDigits = 10
coded ShortTape = 11
coded ZeroModulus = 12
coded LongTape = 13
coded FewMultiples = 14
coded BadWord = 15
coded Malformed = 16
coded NoInverse = 17
coded UnequalScalars = 18
coded BadGroup = 19
coded NotBelow = 20
coded UnfitFrame = 21
coded BadSet = 22
coded NoWidthFits = 23
coded ShortLine = 24

-- the refusal is for that reason, at that place
abbrev pub At : ℕ → Reason → Refusal → Type 0
At p reason refusal = (refusal.reason ≡ reason) × (refusal.place ≡ p)
