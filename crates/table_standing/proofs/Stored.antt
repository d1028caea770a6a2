-- The standing list, stored.
-- Assumes nothing.
use mathlib.Core.Path.{◌≡◌, sym, ap, subst, ◌∙◌}
use mathlib.Core.List.{List}
use Prim.Native.Nat.{ℕ, ◌+◌, ◌*◌}
use native.Mathlib.Omega.{arith}
use lib.ListN.{length}
use Rattle.limits.specs.Limits.{table_bytes}
use Rattle.words.specs.Words.{word_at, put_word, Only, Copied}
use Rattle.words.proofs.Frame.{only_put_word, word_put_word, word_high}
use Rattle.words.proofs.Copying.{word_copied}
use Rattle.grid.specs.declared.Leg.{Leg}
use Rattle.list_row.specs.Vertices.{Held, entries_in}
use Rattle.table_header.specs.Layout.{length_start}
use Rattle.table_standing.specs.Layout.{list_start}
use Rattle.table_standing.specs.Standing.{words_from, standing_in, NumberRow, ListStored}
use Rattle.table_standing.proofs.Numbers.{words_are}

module _ (l : Leg) (t r : List ℕ) (k : ℕ) (len : length t ≡ table_bytes) (hd : Held l t r k) where
  -- ALL THREE STEPS
  pub list_stored : (r' t₁ t₂ : List ℕ) → NumberRow t r k r' → Copied r' 0 t list_start (2 * k) t₁ → t₂ ≡ put_word t₁ length_start k → ListStored (entries_in l t r k) t t₂
  unfolding standing_in
  list_stored r' t₁ t₂ m c e =
      let few = hd.few in
      let o : Only length_start (length_start + 2) t₁ t₂ = subst (λ (x : List ℕ). Only length_start (length_start + 2) t₁ x) (sym e) (only_put_word t₁ length_start k) in
      let w : word_at t₂ length_start ≡ k = ap (λ (x : List ℕ). word_at x length_start) e ∙ word_put_word t₁ length_start k (omega (arith, c.only.len)) in
      record {
        len = o.len ∙ c.only.len;
        list =
            ap (words_from t₂ list_start) w
            ∙ words_are l t r t₂ list_start k
            (λ i h.
            word_high o (list_start + 2 * i) (omega arith)
            ∙ word_copied c (2 * i) (list_start + 2 * i) (omega arith) (omega arith) (omega arith)
            ∙ m.number i h);
        low = λ i h. o.low i h ∙ c.only.low i (omega arith);
        between = λ i h g. o.high i (omega arith) ∙ c.only.low i g;
        high = λ i h. o.high i (omega arith) ∙ c.only.high i (omega arith);
      }
