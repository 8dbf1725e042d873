-- The promises of salvage. Over the definitions: what follows a standing line feed is kept, dropped, written and reported as if it stood alone, its line numbers alone moved; where a line feed is lost, the
-- two lines are judged as one; what was salvaged is salvaged to itself with no remark; `read` refuses nothing that is kept, and nothing that it does not refuse is dropped; what is written for a string is kept as it stands.
-- Over the promises of `feed` and `finish`: whatever pieces a file comes in, what is written and reported is what is defined. And what is no salvage. Assumes nothing.
use mathlib.Core.Path.{◌≡◌, refl, sym, ap, subst, ◌∙◌}
use mathlib.Core.Logic.{◌≢◌}
use mathlib.Core.Bool.{Bool, true, false, cond}
use mathlib.Core.List.{List, [], ◌∷◌, ◌++◌, append_assoc}
use Prim.Native.Nat.{ℕ, suc, ◌+◌, ◌<◌, ◌≤◌}
use native.Mathlib.Decide.{ℕ_discrete}
use native.Mathlib.Omega.{arith}
use lib.Dec.{eqb}
use lib.IntN.{ℤ}
use lib.ListN.{length, take, length-append}
use Rattle.meaning.specs.Digits.{most_places, weight, top}
use Rattle.meaning.specs.Lines.{line_feed, longer, lines_of}
use Rattle.meaning.specs.Hexadecimal.{nibble, all_hex, in_pairs, bytes_of, raised, in_capitals, has_small}
use Rattle.meaning.specs.Frames.{all_signed, digits_of, Version, frame_bytes, line_of, is_sparse, places_in, digits_in, stated, lacking, unreadable, in_order, unfit, read_rules, Parsed, Read}
use Rattle.meaning.specs.Salvage.{most_line, verdict, kept_line, kept_lines, salvaged, case_only, remarks, reported, report, moved, numeral, told}
use Rattle.forms.proofs.Refusals.{first_only}
use Rattle.cutter.specs.Cuts.{ended, begun, last, Keeps}
use Rattle.cutter.proofs.Pieces.{plain, ended_append, begun_append, lines_first, lines_are}
use Rattle.cutter.proofs.Keeping.{keeps_none}
use Rattle.hexadecimal.proofs.Capitals.{first_hex, pairs_hex, bytes_written, pairs_written, pairs_capitals, capitals_hex, capitals_large, large_capitals, small_capitals}
use Rattle.layout.proofs.Bytes.{frame_all}
use Rattle.layout.proofs.Frames.{none_good, line_good, good_pairs}
use Rattle.layout.proofs.Verdicts.{verdict_short, kept_short, kept_good, good_kept, dropped_kept, good_line, small_said, nothing_said, verdict_capitals}
use Rattle.layout.proofs.Salvage.{kept_append, reported_append, told_append, reported_moved}
use Rattle.sift.specs.declared.Fed.{Fed}
use Rattle.sift.specs.declared.Sifted.{Sifted}
use Rattle.sift.specs.Sifts.{Sifts, Feeds, Ends}

-- ---- a line feed that stands
-- the text before it has a line
ended_some : (x : List ℕ) → 0 < length (lines_of (x ++ (line_feed ∷ [])))
unfolding lines_of
ended_some [] = omega arith
ended_some (c ∷ x) = go (eqb c line_feed) (lines_of (x ++ (line_feed ∷ []))) (ended_some x)
  where
    go : (b : Bool) (ls : List (List ℕ)) → 0 < length ls → 0 < length (cond b ([] ∷ ls) (longer c ls))
    go true ls h = omega arith
    go false [] h = absurd (omega arith)
    go false (l ∷ ls) h = omega arith

longer_append : (c : ℕ) (ls ms : List (List ℕ)) → 0 < length ls → longer c (ls ++ ms) ≡ longer c ls ++ ms
longer_append c [] ms h = absurd (omega arith)
longer_append c (l ∷ ls) ms h = refl

-- it ends the lines before it, and those after it are lines by themselves
pub lines_after : (x y : List ℕ) → lines_of (x ++ (line_feed ∷ y)) ≡ lines_of (x ++ (line_feed ∷ [])) ++ lines_of y
unfolding lines_of
lines_after [] y = refl
lines_after (c ∷ x) y = go (eqb c line_feed) (lines_after x y)
  where
    go : (b : Bool) → lines_of (x ++ (line_feed ∷ y)) ≡ lines_of (x ++ (line_feed ∷ [])) ++ lines_of y
        → cond b ([] ∷ lines_of (x ++ (line_feed ∷ y))) (longer c (lines_of (x ++ (line_feed ∷ y))))
        ≡ cond b ([] ∷ lines_of (x ++ (line_feed ∷ []))) (longer c (lines_of (x ++ (line_feed ∷ [])))) ++ lines_of y
    go true e = ap (λ ls. [] ∷ ls) e
    go false e = ap (longer c) e ∙ longer_append c (lines_of (x ++ (line_feed ∷ []))) (lines_of y) (ended_some x)

-- what follows it is kept or dropped, and written, as if it stood alone, whatever stands before
pub kept_after : (x y : List ℕ) → salvaged (x ++ (line_feed ∷ y)) ≡ salvaged (x ++ (line_feed ∷ [])) ++ salvaged y
kept_after x y = ap kept_lines (lines_after x y) ∙ kept_append (lines_of (x ++ (line_feed ∷ []))) (lines_of y)

-- and is reported so, its line numbers moved by the lines before it
pub report_after : (x y : List ℕ) → report (x ++ (line_feed ∷ y)) ≡ report (x ++ (line_feed ∷ [])) ++ moved (length (lines_of (x ++ (line_feed ∷ [])))) (report y)
report_after x y =
    let before = lines_of (x ++ (line_feed ∷ [])) in
    ap (reported 1) (lines_after x y)
    ∙ reported_append 1 before (lines_of y)
    ∙ ap (λ l. reported 1 before ++ l) (reported_moved (length before) 1 (lines_of y))

-- a first line is judged by itself
module _ (l : List ℕ) (t : plain l) (y : List ℕ) where
  pub kept_first : salvaged (l ++ (line_feed ∷ y)) ≡ kept_line l ++ salvaged y
  unfolding kept_lines
  kept_first = ap kept_lines (lines_first l y t)

  pub report_first : report (l ++ (line_feed ∷ y)) ≡ remarks 1 l ++ moved 1 (report y)
  unfolding reported
  report_first = ap (reported 1) (lines_first l y t) ∙ ap (λ r. remarks 1 l ++ r) (reported_moved 1 1 (lines_of y))

-- so a line between two line feeds that stand is judged by itself, whatever stands before and after it
pub kept_between : (x l y : List ℕ) → plain l → salvaged (x ++ (line_feed ∷ (l ++ (line_feed ∷ y)))) ≡ salvaged (x ++ (line_feed ∷ [])) ++ (kept_line l ++ salvaged y)
kept_between x l y t = kept_after x (l ++ (line_feed ∷ y)) ∙ ap (λ r. salvaged (x ++ (line_feed ∷ [])) ++ r) (kept_first l t y)

-- ---- a line feed that is lost
plain_both : (a b : List ℕ) → plain a → plain b → plain (a ++ b)
plain_both [] b s t = t
plain_both (c ∷ a) b (n, s) t = (n, plain_both a b s t)

-- joins two lines, and these are judged as one
module _ (a b y : List ℕ) (s : plain a) (t : plain b) where
  pub joined_kept : salvaged ((a ++ b) ++ (line_feed ∷ y)) ≡ kept_line (a ++ b) ++ salvaged y
  joined_kept = kept_first (a ++ b) (plain_both a b s t) y

  pub joined_report : report ((a ++ b) ++ (line_feed ∷ y)) ≡ remarks 1 (a ++ b) ++ moved 1 (report y)
  joined_report = report_first (a ++ b) (plain_both a b s t) y

-- ---- what `read` says of a line
module _ (line : List ℕ) {digits₀ digits : List ℤ} {a : Parsed} (room : most_places ≤ length digits₀) (R : Read line digits₀ a digits) where
  -- a line that is not too long has the verdict of `read`
  pub verdict_read : length line ≤ most_line → verdict line ≡ a.refusal
  verdict_read h = (first_only (read_rules line (length digits₀)) (verdict_short line (length digits₀) room h) R.first).0

  -- so nothing that is kept is refused
  pub kept_read : verdict line ≡ 0 → a.refusal ≡ 0
  kept_read e = sym (verdict_read (kept_short line e)) ∙ e

-- and nothing that is read without refusal is dropped, wherever it was read to
pub unrefused_kept : (line : List ℕ) {digits₀ digits : List ℤ} {a : Parsed} → Read line digits₀ a digits → a.refusal ≡ 0 → verdict line ≡ 0
unrefused_kept line {digits₀} {a = a} R z =
    let g = none_good line (length digits₀) a.refusal R.first z in
    good_kept line (record { readable = g.readable; short = g.short; fit = g.fit; room = g.short })

-- a kept line is reported exactly when its capitals are another line
pub altered : (k : ℕ) (line : List ℕ) → verdict line ≡ 0 → in_capitals line ≢ line → remarks k line ≡ (k, case_only) ∷ []
altered k line e n = go (has_small line) refl
  where
    go : (b : Bool) → has_small line ≡ b → remarks k line ≡ (k, case_only) ∷ []
    go true s = small_said k line e s
    go false s = absurd (n (large_capitals line s))

pub unaltered : (k : ℕ) (line : List ℕ) → verdict line ≡ 0 → in_capitals line ≡ line → remarks k line ≡ []
unaltered k line e q = go (has_small line) refl
  where
    go : (b : Bool) → has_small line ≡ b → remarks k line ≡ []
    go true s = absurd (small_capitals line s q)
    go false s = nothing_said k line e s

-- ---- what was salvaged
-- a line feed is no hexadecimal character
not_feed : (c : ℕ) → nibble c < 16 → c ≢ line_feed
unfolding nibble
not_feed c h e =
    let z : 16 < 16 = subst (λ x. nibble x < 16) e h in
    omega arith

hex_plain : (l : List ℕ) → all_hex l ≡ true → plain l
hex_plain [] t = tt
hex_plain (c ∷ l) t = let f = first_hex c l t in (not_feed c f.0, hex_plain l f.1)

-- the lines of what is kept are the kept ones in capitals
lines_kept : (l : List ℕ) (ls : List (List ℕ)) → verdict l ≡ 0 → lines_of (kept_lines (l ∷ ls)) ≡ in_capitals l ∷ lines_of (kept_lines ls)
unfolding kept_lines
lines_kept l ls e =
    let hex : all_hex (in_capitals l) ≡ true = capitals_hex l ∙ pairs_hex l (good_pairs l most_places (kept_good l e)) in
    ap (λ m. lines_of (m ++ kept_lines ls)) (good_line 0 l e)
    ∙ ap lines_of (append_assoc (in_capitals l) (line_feed ∷ []) (kept_lines ls))
    ∙ lines_first (in_capitals l) (kept_lines ls) (hex_plain (in_capitals l) hex)

dropped_on : (l : List ℕ) (ls : List (List ℕ)) → verdict l ≢ 0 → kept_lines (l ∷ ls) ≡ kept_lines ls
unfolding kept_lines
dropped_on l ls n = rw (dropped_kept 0 l n)

-- a kept line's capitals are kept as they stand, with no remark
module _ (l : List ℕ) (e : verdict l ≡ 0) where
  capitals_kept : verdict (in_capitals l) ≡ 0
  capitals_kept = verdict_capitals l ∙ e

  capitals_line : kept_line (in_capitals l) ≡ kept_line l
  capitals_line = good_line 0 (in_capitals l) capitals_kept ∙ ap (λ m. m ++ (line_feed ∷ [])) (large_capitals (in_capitals l) (capitals_large l)) ∙ sym (good_line 0 l e)

  capitals_silent : (k : ℕ) → remarks k (in_capitals l) ≡ []
  capitals_silent k = nothing_said k (in_capitals l) capitals_kept (capitals_large l)

kept_lines_again : (ls : List (List ℕ)) → kept_lines (lines_of (kept_lines ls)) ≡ kept_lines ls
unfolding kept_lines lines_of
kept_lines_again [] = refl
kept_lines_again (l ∷ ls) = go (ℕ_discrete (verdict l) 0) (kept_lines_again ls)
  where
    go : Dec (verdict l ≡ 0) → kept_lines (lines_of (kept_lines ls)) ≡ kept_lines ls → kept_lines (lines_of (kept_lines (l ∷ ls))) ≡ kept_lines (l ∷ ls)
    go (yes e) f = ap kept_lines (lines_kept l ls e) ∙ rw (capitals_line l e, f)
    go (no n) f = rw (dropped_on l ls n) f

none_reported : (k : ℕ) (ls : List (List ℕ)) → reported k (lines_of (kept_lines ls)) ≡ []
unfolding kept_lines lines_of reported
none_reported k [] = refl
none_reported k (l ∷ ls) = go (ℕ_discrete (verdict l) 0) (none_reported k ls) (none_reported (suc k) ls)
  where
    go : Dec (verdict l ≡ 0) → reported k (lines_of (kept_lines ls)) ≡ [] → reported (suc k) (lines_of (kept_lines ls)) ≡ []
        → reported k (lines_of (kept_lines (l ∷ ls))) ≡ []
    go (yes e) f g = ap (reported k) (lines_kept l ls e) ∙ rw (capitals_silent l e k, g)
    go (no n) f g = rw (dropped_on l ls n) f

-- is salvaged to itself, and nothing is reported
pub salvaged_again : (file : List ℕ) → salvaged (salvaged file) ≡ salvaged file
salvaged_again file = kept_lines_again (lines_of file)

pub report_again : (file : List ℕ) → report (salvaged file) ≡ []
report_again file = none_reported 1 (lines_of file)

-- and each of its lines is read without refusal
abbrev pub Every : (List ℕ → Type 0) → List (List ℕ) → Type 0
Every P [] = Unit {0}
Every P (l ∷ ls) = P l × Every P ls

abbrev pub Accepted : List ℕ → Type 0
Accepted line = (digits₀ digits : List ℤ) (a : Parsed) → most_places ≤ length digits₀ → Read line digits₀ a digits → a.refusal ≡ 0

lines_accepted : (ls : List (List ℕ)) → Every Accepted (lines_of (kept_lines ls))
unfolding kept_lines lines_of
lines_accepted [] = tt
lines_accepted (l ∷ ls) = go (ℕ_discrete (verdict l) 0) (lines_accepted ls)
  where
    go : Dec (verdict l ≡ 0) → Every Accepted (lines_of (kept_lines ls)) → Every Accepted (lines_of (kept_lines (l ∷ ls)))
    go (yes e) f = subst (Every Accepted) (sym (lines_kept l ls e)) ((λ digits₀ digits a room R. kept_read (in_capitals l) room R (capitals_kept l e)), f)
    go (no n) f = subst (λ m. Every Accepted (lines_of m)) (sym (dropped_on l ls n)) f

pub salvaged_accepted : (file : List ℕ) → Every Accepted (lines_of (salvaged file))
salvaged_accepted file = lines_accepted (lines_of file)

-- ---- a line that is written for a string is kept as it stands, with no remark
pub record Stays (line : List ℕ) : Type 0 where
  pub kept : kept_line line ≡ line ++ (line_feed ∷ [])
  pub silent : (k : ℕ) → remarks k line ≡ []

pub written_stays : (v : Version) (ds : List ℤ) → all_signed ds ≡ true → length ds ≤ most_places → Stays (line_of v ds)
written_stays v ds all few =
    let line = line_of v ds in
    let bytes = frame_all ds all few v in
    let e : verdict line ≡ 0 = good_kept line (line_good v ds all few most_places few) in
    let same : in_capitals line ≡ line = sym (pairs_capitals line (pairs_written (frame_bytes v ds) bytes)) ∙ rw (bytes_written (frame_bytes v ds) bytes) in
    record { kept = good_line 0 line e ∙ ap (λ m. m ++ (line_feed ∷ [])) same; silent = λ k. unaltered k line e same }

-- ---- the program's work as a whole
-- a file that has come, what stands of its unfinished line and its number, and what has been written and reported: nothing yet; or a piece more is fed, of which some is used, and what that call wrote and
-- reported stands behind the rest
pub data Salvaging : (file line : List ℕ) (kept number : ℕ) (out words : List ℕ) → Type 0 where
  fresh : (line : List ℕ) → Salvaging [] line 0 1 [] []
  fed : {file line₀ out words : List ℕ} {kept₀ number₀ : ℕ} (piece line out' words' : List ℕ) (f : Fed) → Salvaging file line₀ kept₀ number₀ out words
      → Feeds piece line₀ kept₀ number₀ f line out' words' → Salvaging (file ++ take f.used piece) line f.kept f.number (out ++ take f.filled out') (words ++ take f.said words')

-- what is kept of the lines that have ended is written, what is said of them is reported, and the next line's number is known
pub record Sofar (file line : List ℕ) (kept number : ℕ) (out words : List ℕ) : Type 0 where
  pub keeps : Keeps (begun [] file) line kept
  pub number_is : number ≡ length (ended [] file) + 1
  pub out_is : out ≡ kept_lines (ended [] file)
  pub words_are : words ≡ told (reported 1 (ended [] file))

pub sofar : {file line out words : List ℕ} {kept number : ℕ} → Salvaging file line kept number out words → Sofar file line kept number out words
unfolding ended begun kept_lines reported told
sofar (fresh line) = record { keeps = keeps_none line; number_is = refl; out_is = refl; words_are = refl }
sofar (fed {file} {out = out} {words} {number₀ = number₀} piece line out' words' f s F) =
    let S = sofar s in
    let t = F.taken (begun [] file) S.keeps in
    let text = take f.used piece in
    let ls = ended [] file in
    let ms = ended (begun [] file) text in
    let lines = ended_append [] file text in
    record {
      keeps = rw (begun_append [] file text) t.keeps;
      number_is = rw lines (omega (arith, t.number_is, S.number_is, length-append ls ms));
      out_is = ap (λ l. l ++ take f.filled out') S.out_is ∙ ap (λ l. kept_lines ls ++ l) t.lines_are.front_is ∙ sym (kept_append ls ms) ∙ ap kept_lines (sym lines);
      words_are =
          ap (λ l. l ++ take f.said words') S.words_are
          ∙ ap (λ l. told (reported 1 ls) ++ l) (t.remarks_are.front_is ∙ ap (λ n. told (reported n ms)) S.number_is)
          ∙ sym (told_append (reported 1 ls) (reported (length ls + 1) ms))
          ∙ ap told (sym (reported_append 1 ls ms) ∙ ap (reported 1) (sym lines));
    }

-- and after the end all that is kept of the file is written, and all that there is to say is reported, however the file was cut into pieces
module _ {file line out words : List ℕ} {kept number : ℕ} (s : Salvaging file line kept number out words) (r : Sifted) (out' words' : List ℕ) (E : Ends number line kept r out' words') where
  pub stream_salvaged : out ++ take r.filled out' ≡ salvaged file
  stream_salvaged =
      let S = sofar s in
      let tail = last (begun [] file) in
      ap (λ l. l ++ take r.filled out') S.out_is
      ∙ ap (λ l. kept_lines (ended [] file) ++ l) (E.lines_are (begun [] file) S.keeps)
      ∙ sym (kept_append (ended [] file) tail)
      ∙ ap kept_lines (sym (lines_are file))

  pub stream_reported : words ++ take r.said words' ≡ told (report file)
  stream_reported =
      let S = sofar s in
      let ls = ended [] file in
      let tail = last (begun [] file) in
      ap (λ l. l ++ take r.said words') S.words_are
      ∙ ap (λ l. told (reported 1 ls) ++ l) (E.remarks_are (begun [] file) S.keeps ∙ ap (λ n. told (reported n tail)) S.number_is)
      ∙ sym (told_append (reported 1 ls) (reported (length ls + 1) tail))
      ∙ ap told (sym (reported_append 1 ls tail) ∙ ap (reported 1) (sym (lines_are file)))

-- ---- determined
made : (n m : ℕ) → Sifted
made n m = record { filled = n; said = m }

-- what judging a line answers, writes and says, and all of both buffers
pub sift_determined : (k : ℕ) (line out₀ words₀ : List ℕ) (s s' : Sifted) (out out' words words' : List ℕ) → Sifts k line out₀ words₀ s out words → Sifts k line out₀ words₀ s' out' words'
    → (s ≡ s') × (out ≡ out') × (words ≡ words')
unfolding made
sift_determined k line out₀ words₀ s s' out out' words words' K L =
    let n = K.keeps.end_is ∙ sym L.keeps.end_is in
    let m = K.tells.end_is ∙ sym L.tells.end_is in
    let same : made s.filled s.said ≡ made s'.filled s'.said = cc in
    (same, K.keeps.out_is ∙ sym L.keeps.out_is, K.tells.out_is ∙ sym L.tells.out_is)

-- ---- what is no salvage
-- a tool that writes and reports what is defined
pub record Tool : Type 0 where
  pub call : List ℕ → List ℕ × List ℕ
  pub writes : (file : List ℕ) → (call file).0 ≡ salvaged file
  pub reports : (file : List ℕ) → (call file).1 ≡ told (report file)

-- a file of the line `0A`, one of the line `zz`, and one of both
good : List ℕ
good = 48 ∷ 65 ∷ 10 ∷ []

bad : List ℕ
bad = 122 ∷ 122 ∷ 10 ∷ []

good_is : salvaged good ≡ good
unfolding good lines_of kept_lines kept_line verdict unreadable stated in_pairs all_hex bytes_of nibble is_sparse lacking places_in unfit in_order digits_in digits_of weight top in_capitals raised
good_is = refl

bad_is : salvaged bad ≡ []
unfolding bad lines_of kept_lines kept_line verdict unreadable stated in_pairs all_hex bytes_of nibble is_sparse lacking places_in unfit in_order digits_in digits_of weight top in_capitals raised
bad_is = refl

bad_said : length (told (report bad)) ≡ 13
unfolding bad lines_of reported remarks verdict unreadable stated in_pairs all_hex bytes_of nibble is_sparse lacking places_in unfit in_order digits_in digits_of weight top has_small told numeral
bad_said = refl

both_is : salvaged (bad ++ good) ≡ good
unfolding good bad lines_of kept_lines kept_line verdict unreadable stated in_pairs all_hex bytes_of nibble is_sparse lacking places_in unfit in_order digits_in digits_of weight top in_capitals raised
both_is = refl

some_good : good ≡ [] → ⊥
unfolding good
some_good e = omega (arith, ap length e)

some_bad : bad ≡ [] → ⊥
unfolding bad
some_bad e = omega (arith, ap length e)

module _ (t : Tool) where
  -- dropping everything
  pub salvage_not_dropping : ((file : List ℕ) → (t.call file).0 ≡ []) → ⊥
  salvage_not_dropping d = some_good (sym good_is ∙ sym (t.writes good) ∙ d good)

  -- copying the file
  pub salvage_not_copying : ((file : List ℕ) → (t.call file).0 ≡ file) → ⊥
  salvage_not_copying d = some_bad (sym (d bad) ∙ t.writes bad ∙ bad_is)

  -- saying nothing
  pub salvage_not_silent : ((file : List ℕ) → (t.call file).1 ≡ []) → ⊥
  salvage_not_silent d = omega (arith, bad_said, ap length (sym (t.reports bad) ∙ d bad))

  -- stopping at the first line that is dropped
  pub salvage_not_stopping : ((x y : List ℕ) → salvaged x ≡ [] → (t.call (x ++ y)).0 ≡ []) → ⊥
  salvage_not_stopping d = some_good (sym both_is ∙ sym (t.writes (bad ++ good)) ∙ d bad good bad_is)

-- and some tool is one
pub salvages : Tool
salvages = record { call = λ file. (salvaged file, told (report file)); writes = λ _. refl; reports = λ _. refl }
