-- What is written and counted where no rule applies. Assumes nothing.
use Rattle.std.specs.Prelude.{◌≡◌, List, ℕ, ℤ}
use Rattle.meaning.specs.Scalars.{Order, number, bit_count}
use Rattle.meaning.specs.Digits.{weight, top}
use Rattle.meaning.specs.Forms.{FormIn}
use Rattle.meaning.specs.Recoding.{marks_of}
use Rattle.digits.specs.declared.Accepted.{Accepted}

pub record Written (form w m : ℕ) (o : Order) (s : List ℕ) (ds : List ℤ) (marks : List ℕ) (r : Accepted) : Type 0 where
  pub formed : FormIn form w m (number o s) (bit_count s) ds
  pub marks_are : marks ≡ marks_of ds
  pub weight_is : r.weight ≡ weight ds
  pub top_is : r.top ≡ top ds
