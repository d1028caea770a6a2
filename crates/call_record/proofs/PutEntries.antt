-- The loop of `put_entries`.
-- Assumes nothing.
use mathlib.Core.Path.{◌≡◌, refl, ap, sym, ◌∙◌, subst}
use mathlib.Core.List.{List, [], ◌∷◌, ◌++◌}
use Prim.Native.Nat.{ℕ, suc, ◌+◌, ◌*◌, ◌-◌, ◌≤◌, ◌<◌}
use native.Mathlib.Omega.{arith}
use native.Mathlib.Numerals.{add-one}
use lib.ListN.{length}
use Rattle.grid.specs.declared.Leg.{Leg}
use Rattle.split.specs.SplitList.{Entry}
use Rattle.records.specs.Bytes.{write}
use Rattle.records.specs.ListRecord.{entry_bytes, list_bytes}
use Rattle.list_row.specs.Entries.{row_entry, entries_from}
use Rattle.records.proofs.Writing.{write_append, write_length}
use Rattle.records.proofs.Length.{list_append, list_one, list_length}
use Rattle.list_row.proofs.Entries.{from_none, from_one, from_length}

-- the entries from the one at j up to i are written
pub record Putting (l : Leg) (t r : List ℕ) (j k : ℕ) (b₀ : List ℕ) (p i : ℕ) (b : List ℕ) : Type 0 where
  pub least : j ≤ i
  pub within : i ≤ k
  pub len : length b ≡ length b₀
  pub wrote : b ≡ write b₀ p (list_bytes (entries_from l t r j i))

pub putting_none : (l : Leg) (t r : List ℕ) (j k : ℕ) (b₀ : List ℕ) (p : ℕ) → j ≤ k → Putting l t r j k b₀ p j b₀
unfolding list_bytes
putting_none l t r j k b₀ p h = record { least = omega arith; within = h; len = refl; wrote = rw (from_none l t r j) refl }

module _ {l : Leg} {t r : List ℕ} {j k : ℕ} {b₀ : List ℕ} {p i : ℕ} {b : List ℕ} (g : Putting l t r j k b₀ p i b) where
  pub putting_one : {b' : List ℕ} → i < k → b' ≡ write b (p + 10 * (i - j)) (entry_bytes (row_entry l t r i)) → Putting l t r j k b₀ p (i + 1) b'
  putting_one h e =
      record {
        least = omega (arith, g.least);
        within = omega arith;
        len = ap length e ∙ write_length b (p + 10 * (i - j)) (entry_bytes (row_entry l t r i)) ∙ g.len;
        wrote = rw (add-one i) (e ∙ ap (λ (y : List ℕ). write y (p + 10 * (i - j)) (entry_bytes (row_entry l t r i))) g.wrote ∙ sym whole);
      }
    where
      whole : write b₀ p (list_bytes (entries_from l t r j (suc i))) ≡ write (write b₀ p (list_bytes (entries_from l t r j i))) (p + 10 * (i - j)) (entry_bytes (row_entry l t r i))
      whole =
          ap (λ (y : List Entry). write b₀ p (list_bytes y)) (from_one l t r j i g.least)
          ∙ ap (write b₀ p) (list_append (entries_from l t r j i) (row_entry l t r i ∷ []) ∙ ap (λ (y : List ℕ). list_bytes (entries_from l t r j i) ++ y) (list_one (row_entry l t r i)))
          ∙ write_append b₀ p (list_bytes (entries_from l t r j i)) (entry_bytes (row_entry l t r i))
          ∙ ap (λ (y : ℕ). write (write b₀ p (list_bytes (entries_from l t r j i))) (p + y) (entry_bytes (row_entry l t r i)))
          (list_length (entries_from l t r j i) ∙ ap (λ (y : ℕ). 10 * y) (from_length l t r j i))

  pub putting_all : k ≤ i → b ≡ write b₀ p (list_bytes (entries_from l t r j k))
  putting_all h = let e : i ≡ k = omega (arith, g.within) in subst (λ (n : ℕ). b ≡ write b₀ p (list_bytes (entries_from l t r j n))) e g.wrote

-- two more, at the byte q
pub putting_two : {l : Leg} {t r : List ℕ} {j k : ℕ} {b₀ : List ℕ} {p i q n : ℕ} {b b' : List ℕ} → Putting l t r j k b₀ p i b → i + 1 < k → q ≡ p + 10 * (i - j) → n ≡ i + 2
    → b' ≡ write (write b q (entry_bytes (row_entry l t r i))) (q + 10) (entry_bytes (row_entry l t r (i + 1)))
    → Putting l t r j k b₀ p n b'
putting_two {l = l} {t = t} {r = r} {j = j} {k = k} {b₀ = b₀} {p = p} {i = i} {q = q} {n = n} {b = b} {b' = b'} g h at next e =
    let f : q + 10 ≡ p + 10 * (i + 1 - j) = omega (arith, g.least) in
    let f₂ : i + 1 + 1 ≡ n = omega arith in
    let one : Putting l t r j k b₀ p (i + 1) (write b q (entry_bytes (row_entry l t r i))) = putting_one g (omega arith) (ap (λ (x : ℕ). write b x (entry_bytes (row_entry l t r i))) at) in
    subst (λ (x : ℕ). Putting l t r j k b₀ p x b') f₂
    (putting_one one h (e ∙ ap (λ (x : ℕ). write (write b q (entry_bytes (row_entry l t r i))) x (entry_bytes (row_entry l t r (i + 1)))) f))

-- the last of an odd number, that of the vertex at n
pub putting_last : {l : Leg} {t r : List ℕ} {j k : ℕ} {b₀ : List ℕ} {p i q n : ℕ} {b b' : List ℕ} → Putting l t r j k b₀ p i b → i < k → k ≤ i + 1 → q ≡ p + 10 * (i - j) → n ≡ i
    → b' ≡ write b q (entry_bytes (row_entry l t r n)) → b' ≡ write b₀ p (list_bytes (entries_from l t r j k))
putting_last {l} {t} {r} {b = b} g h m at last e = putting_all (putting_one g h (e ∙ (λ x. write b (at x) (entry_bytes (row_entry l t r (last x)))))) m
