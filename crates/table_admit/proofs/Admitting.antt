-- Lengths, then contents: one law for each return.
-- Assumes nothing.
use mathlib.Core.Path.{◌≡◌, refl, sym, ap, ◌∙◌, subst}
use mathlib.Core.Logic.{◌≢◌}
use mathlib.Core.Bool.{Bool, true, false, ◌&&◌, true≢false}
use mathlib.Core.List.{List}
use Prim.Native.Nat.{ℕ, ◌≤◌}
use native.Mathlib.Omega.{arith}
use lib.ListN.{length}
use lib.Dec.{eqb}
use borrow.Author.Tests.{eq-eqb, ne_eqb, eqb-true}
use Rattle.limits.specs.Limits.{table_bytes, work_bytes}
use Rattle.grid.specs.Says.{Says}
use Rattle.grid.proofs.Says.{says_yes, says_no}
use Rattle.list_row.specs.Vertices.{row_bytes}
use Rattle.book.specs.declared.Reason.TheVariants.{WrongLength, Broken, BrokenStanding}
use Rattle.tree_check.specs.Marks.{seen_bytes}
use Rattle.table_empty.specs.EmptyTable.{zeros}
use Rattle.table_rules.specs.Table.{Whole, StandingOk, Sound}
use Rattle.demands.specs.Batch.{lengths_ok}
use Rattle.std.specs.Prelude.{Ok, Err}
use Rattle.std.specs.Array.{IsWholeChunk}
use Rattle.table_admit.specs.Admitted.{AdmittedAs}

module _ (t w : List ℕ) where
  -- ---- lengths

  pub wrong_table : length t ≢ table_bytes → false ≡ lengths_ok t w
  wrong_table n = rw (ne_eqb (length t) table_bytes n) refl

  pub by_work : length t ≡ table_bytes → eqb (length w) work_bytes ≡ lengths_ok t w
  by_work e = rw (eq-eqb (length t) table_bytes e) refl

  pub wrong_lengths : (p : Bool) → p ≡ lengths_ok t w → p ≡ false → AdmittedAs (Err WrongLength) t w w
  wrong_lengths p h e = (sym h ∙ e, refl)

  module _ (p : Bool) (h : p ≡ lengths_ok t w) (right : p ≡ true) where
    ok : lengths_ok t w ≡ true
    ok = sym h ∙ right

    both : (d : Bool) → d && eqb (length w) work_bytes ≡ true → (d ≡ true) × (eqb (length w) work_bytes ≡ true)
    both true e = (refl, e)
    both false e = absurd (true≢false (sym e))

    pub right_table : length t ≡ table_bytes
    right_table = eqb-true (length t) table_bytes (both (eqb (length t) table_bytes) ok).0

    right_work : length w ≡ work_bytes
    right_work = eqb-true (length w) work_bytes (both (eqb (length t) table_bytes) ok).1

    -- what the tests use is inside the work buffer: the marks and hints of the tree's, and the row of the standing list's
    module _ (w₁ : List ℕ) (kept : length w₁ ≡ length w) where
      pub marks_fit : seen_bytes ≤ length w₁
      marks_fit = omega (arith, right_work, kept)

      pub row_fits : row_bytes ≤ length w₁
      row_fits = omega (arith, right_work, kept)

    -- ---- contents

    -- the array t₁ has the bytes of t
    module _ (t₁ : List ℕ) (array : IsWholeChunk t t₁ table_bytes) (q : Bool) (s : Says q (Whole t₁)) (w₁ : List ℕ) (kept : length w₁ ≡ length w) where
      pub broken_table : (w' : List ℕ) → w' ≡ zeros (length w₁) → q ≡ false → AdmittedAs (Err Broken) t w w'
      broken_table w' z e = (ok, subst (λ (x : List ℕ). ¬ Whole x) array.same (says_no q s e), z ∙ ap zeros (kept ∙ right_work))

      module _ (whole : q ≡ true) (v : Bool) (l : Says v (StandingOk t₁)) (w₂ : List ℕ) (kept₂ : length w₂ ≡ length w₁) where
        pub table_taken : v ≡ true → AdmittedAs (Ok tt) t w w₂
        table_taken e = (ok, subst Sound array.same (record { whole = says_yes q s whole; standing = says_yes v l e }), kept₂ ∙ kept ∙ right_work)

        pub broken_standing : (w' : List ℕ) → w' ≡ zeros (length w₂) → v ≡ false → AdmittedAs (Err BrokenStanding) t w w'
        broken_standing w' z e = (
          ok,
          subst Whole array.same (says_yes q s whole),
          subst (λ (x : List ℕ). ¬ StandingOk x) array.same (says_no v l e),
          z ∙ ap zeros (kept₂ ∙ kept ∙ right_work),
        )

pub is_whole : (t : List ℕ) (q : Bool) → Says q (Whole t) → q ≡ true → Whole t
is_whole t q s e = says_yes q s e
