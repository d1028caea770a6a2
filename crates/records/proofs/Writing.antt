-- Bytes written into a buffer: what is written stands there, and all else is as it was.
-- Assumes nothing.
use mathlib.Core.Path.{◌≡◌, refl, ap, sym, ◌∙◌}
use mathlib.Core.List.{List, [], ◌∷◌, ◌++◌, append_assoc}
use Prim.Native.Nat.{ℕ, suc, ◌+◌, ◌≤◌}
use native.Mathlib.Omega.{arith}
use native.Mathlib.Numerals.{add-one}
use lib.ListN.{length, set, take, drop, length-set, length-append, take-append-drop}
use lib.Seq.{take-suc-set, drop-set-lt, length-take-le, drop_at}
use Rattle.records.specs.Bytes.{write}

-- bytes and then more of them
pub write_append : (b : List ℕ) (i : ℕ) (xs ys : List ℕ) → write b i (xs ++ ys) ≡ write (write b i xs) (i + length xs) ys
write_append b i [] ys = let e : i + 0 ≡ i = omega arith in rw e
write_append b i (x ∷ xs) ys =
    let e : i + suc (length xs) ≡ (i + 1) + length xs = omega arith in
    rw e (write_append (set b i x) (i + 1) xs ys)

-- the buffer stays as long as it is
pub write_length : (b : List ℕ) (i : ℕ) (xs : List ℕ) → length (write b i xs) ≡ length b
write_length b i [] = refl
write_length b i (x ∷ xs) = write_length (set b i x) (i + 1) xs ∙ simp length-set

-- WHAT WRITING IS: all before and all behind what is written is as it was
pub write_is : (b : List ℕ) (i : ℕ) (xs : List ℕ) → i + length xs ≤ length b → write b i xs ≡ take i b ++ (xs ++ drop (i + length xs) b)
write_is b i [] h = let e : i + 0 ≡ i = omega arith in rw e (sym (take-append-drop i b))
write_is b i (x ∷ xs) h =
    let n : i + suc (length xs) ≡ (i + 1) + length xs = omega arith in
    let g : (i + 1) + length xs ≤ length (set b i x) = simp length-set (omega arith) in
    let d : drop ((i + 1) + length xs) (set b i x) ≡ drop ((i + 1) + length xs) b = drop-set-lt ((i + 1) + length xs) b i x (omega arith) in
    let t : take (i + 1) (set b i x) ≡ take i b ++ (x ∷ []) = rw (add-one i) (take-suc-set b i x (omega arith)) in
    rw n
    (write_is (set b i x) (i + 1) xs g
    ∙ ap (λ (y : List ℕ). take (i + 1) (set b i x) ++ (xs ++ y)) d
    ∙ ap (λ (y : List ℕ). y ++ (xs ++ drop ((i + 1) + length xs) b)) t
    ∙ append_assoc (take i b) (x ∷ []) (xs ++ drop ((i + 1) + length xs) b))

module _ (b : List ℕ) (i : ℕ) (xs : List ℕ) (h : i + length xs ≤ length b) where
  front : length (take i b ++ xs) ≡ i + length xs
  front = length-append (take i b) xs ∙ ap (λ (k : ℕ). k + length xs) (length-take-le i b (omega arith))

  parted : write b i xs ≡ (take i b ++ xs) ++ drop (i + length xs) b
  parted = write_is b i xs h ∙ sym (append_assoc (take i b) xs (drop (i + length xs) b))

  -- behind it all is as it was
  pub write_behind : drop (i + length xs) (write b i xs) ≡ drop (i + length xs) b
  write_behind = ap (drop (i + length xs)) parted ∙ drop_at (take i b ++ xs) (drop (i + length xs) b) (i + length xs) front
