-- Lists of any element after stores: filled from the front, one store a turn. Assumes nothing.
use mathlib.Core.Path.{◌≡◌, refl, sym, ap, ◌∙◌}
use mathlib.Core.List.{List, [], ◌∷◌, ◌++◌, append-nil}
use Prim.Native.Nat.{ℕ, ◌+◌, ◌≤◌, ◌<◌}
use native.Mathlib.Numerals.{add-one}
use native.Mathlib.Omega.{arith}
use lib.ListN.{length, get_or, take, drop, set, length-set, take-append-drop}
use lib.Seq.{take-suc, take-suc-set, drop-set-lt, drop-drop, take-length, drop-length}

-- the list `wanted` is written over the front of d₀ up to index i
pub record Filled {A : Type 0} (wanted d₀ d : List A) (i : ℕ) : Type 0 where
  pub within : i ≤ length wanted
  pub same_length : length d ≡ length d₀
  pub fore : take i d ≡ take i wanted
  pub aft : drop i d ≡ drop i d₀

module _ {A : Type 0} (wanted d₀ : List A) where
  -- nothing is written yet
  pub fill_none : Filled wanted d₀ d₀ 0
  fill_none = record { within = omega arith; same_length = refl; fore = refl; aft = refl }

  -- one element more
  pub fill_more : (d : List A) (i : ℕ) (z x : A) → Filled wanted d₀ d i → i < length wanted → i < length d → z ≡ get_or wanted i x → Filled wanted d₀ (set d i z) (i + 1)
  fill_more d i z x f h l e =
      record {
        within = omega arith;
        same_length = length-set d i z ∙ f.same_length;
        fore =
            rw add-one (take-suc-set d i z l) ∙ ap (λ t. t ++ (z ∷ [])) f.fore ∙ ap (λ t. take i wanted ++ (t ∷ [])) e
            ∙ sym (rw add-one (take-suc wanted i x h));
        aft = drop-set-lt (i + 1) d i z (omega arith) ∙ sym (drop-drop 1 i d) ∙ ap (drop 1) f.aft ∙ drop-drop 1 i d₀;
      }

  -- all of it is written, and what stood past it stands
  pub fill_all : (d : List A) (i : ℕ) → Filled wanted d₀ d i → i ≡ length wanted → d ≡ wanted ++ drop (length wanted) d₀
  fill_all d i f e =
      sym (take-append-drop i d) ∙ ap (λ t. t ++ drop i d) (f.fore ∙ ap (λ k. take k wanted) e ∙ take-length wanted)
      ∙ ap (λ t. wanted ++ t) (f.aft ∙ ap (λ k. drop k d₀) e)

  -- and where nothing stood past it, that is all
  pub fill_exact : (d : List A) (i : ℕ) → Filled wanted d₀ d i → i ≡ length wanted → length d₀ ≡ length wanted → d ≡ wanted
  fill_exact d i f e l =
      fill_all d i f e ∙ ap (λ t. wanted ++ t) (ap (λ k. drop k d₀) (sym l) ∙ drop-length d₀) ∙ append-nil wanted
