-- The programs' work as a whole, in the version that each writes, over the promises of `feed` and `finish` alone: an input that is taken in by any pieces, and then ended, has answers that are, joined, the answers to
-- its lines. That the program reads its input and writes these answers stands outside what can be stated here. Assumes nothing.
use mathlib.Core.Path.{◌≡◌, refl}
use mathlib.Core.List.{List, [], ◌++◌}
use Prim.Native.Nat.{ℕ}
use lib.ListN.{take}
use Rattle.meaning.specs.Lines.{lines_of, Each}
use Rattle.meaning.specs.Frames.{Version}
use Rattle.meaning.specs.Requests.{Answer, Answers}
use Rattle.cutter.specs.Cuts.{ended, begun, Keeps}
use Rattle.cutter.proofs.Pieces.{begun_append}
use Rattle.cutter.proofs.Keeping.{keeps_none}
use Rattle.requests.specs.Answered.{most_answer}
use Rattle.stream.specs.declared.Fed.{Fed}
use Rattle.stream.specs.Streams.{Feeds, Ends}
use Rattle.stream.proofs.Streams.{both, whole}
use Rattle.promises.proofs.Line.{answers_determined}

-- an input that has come, what stands of its unfinished line, and what has been written: nothing yet; or a piece more is fed, of which some is used, and what that call answered is written behind the rest
pub data Streamed (v : Version) : (input line : List ℕ) (kept : ℕ) (out : List ℕ) → Type 0 where
  fresh : (line : List ℕ) → Streamed v [] line 0 []
  fed : {input line₀ written : List ℕ} {kept₀ : ℕ} (piece out₀ line out : List ℕ) (f : Fed) → Streamed v input line₀ kept₀ written → Feeds (Answer v) (most_answer v) piece line₀ kept₀ out₀ f line out
      → Streamed v (input ++ take f.used piece) line f.kept (written ++ take f.filled out)

module _ {v : Version} where
  -- the lines that have ended are answered, and the front of the one that has not is kept
  pub streamed : {input line written : List ℕ} {kept : ℕ} → Streamed v input line kept written → Keeps (begun [] input) line kept × Answers v (ended [] input) written
  unfolding ended begun Each
  streamed (fresh line) = (keeps_none line, refl)
  streamed (fed {input} {written = written} piece out₀ line out f s F) =
      let (k, a) = streamed s in
      let t = F.taken (begun [] input) k in
      (rw (begun_append [] input (take f.used piece)) t.keeps, both (Answer v) [] input (take f.used piece) written (take f.filled out) a t.answers)

  -- and after the end all of its lines are
  pub stream_answers : {input line written : List ℕ} {kept : ℕ} → Streamed v input line kept written → (r : ℕ) (out : List ℕ) → Ends (Answer v) line kept r out → Answers v (lines_of input) (written ++ take r out)
  stream_answers {input} {written = written} s r out E = let (k, a) = streamed s in whole (Answer v) input written (take r out) a (E.answers (begun [] input) k)

  -- so however the input was cut into pieces, one text is written for it
  pub stream_determined : {input line line' written written' : List ℕ} {kept kept' : ℕ} → Streamed v input line kept written → Streamed v input line' kept' written'
      → (r r' : ℕ) (out out' : List ℕ) → Ends (Answer v) line kept r out → Ends (Answer v) line' kept' r' out' → written ++ take r out ≡ written' ++ take r' out'
  stream_determined {input} s s' r r' out out' E E' = answers_determined v (lines_of input) _ _ (stream_answers s r out E) (stream_answers s' r' out' E')
