-- The returns of `written`, and of `probe_list`.
-- Assumes nothing.
use mathlib.Core.Path.{◌≡◌, refl, ap, sym, ◌∙◌}
use mathlib.Core.Bool.{Bool, true, false}
use mathlib.Core.List.{List}
use Prim.Native.Nat.{ℕ, ◌+◌, ◌-◌, ◌≤◌, ◌<◌}
use native.Mathlib.Omega.{arith}
use lib.ListN.{length}
use Rattle.grid.specs.declared.Leg.{Leg}
use Rattle.grid.specs.Says.{Says}
use Rattle.split.specs.SplitList.{Entry}
use Rattle.list_row.specs.Vertices.{entries_in}
use Rattle.records.specs.Bytes.{write}
use Rattle.records.specs.ListRecord.{record_bytes, list_size}
use Rattle.records.proofs.Length.{record_length}
use Rattle.list_row.specs.Entries.{entries_from}
use Rattle.list_row.proofs.Entries.{entries_length}
use Rattle.list_probe.specs.SiteArray.{Built}
use Rattle.list_probe.specs.Probing.{Buildable, probe_record, Written, Probed}

module _ {t : List ℕ} {n : ℕ} {l : Leg} {w w' : List ℕ} {k : ℕ} (h : Built l t 0 n w w' k) where
  size : length (probe_record t n l) ≡ list_size k
  size =
      ap (λ (es : List Entry). length (record_bytes es)) (sym h.is) ∙ record_length (entries_in l t w' k)
      ∙ ap list_size (entries_length l t w' k)

  pub wrote_none : (b : List ℕ) (m : ℕ) → m ≡ list_size k → length b < m → Written t n l w w' b b 0
  wrote_none b m e g =
      record { wrote = λ f. absurd (omega (arith, size)); no_room = λ f. (refl, refl); only = h.only }

  pub wrote_all : {b b' : List ℕ} {r m : ℕ} → m ≡ list_size k → m ≤ length b → b' ≡ write b 0 (record_bytes (entries_from l t w' 0 k)) → r ≡ 0 + list_size (k - 0)
      → Written t n l w w' b b' r
  wrote_all {b} e g f er =
      record {
        wrote = λ _. (omega (arith, size), f ∙ ap (λ (es : List Entry). write b 0 (record_bytes es)) h.is);
        no_room = λ f. absurd (omega (arith, size));
        only = h.only;
      }

-- The returns of `probe_list`.
module _ (t : List ℕ) (n : ℕ) (l : Leg) (w : List ℕ) (f : Bool) (s : Says f (Buildable t n l (length w))) where
  pub ready_true : f ≡ true → Buildable t n l (length w)
  ready_true e = rw e at s

  pub probed_good : f ≡ true → {w' b b' : List ℕ} {r : ℕ} → Written t n l w w' b b' r → Probed t n l w w' b b' r
  probed_good e d = record { good = λ _. d; refused = λ no. absurd (no (rw e at s)) }

  pub probed_refused : f ≡ false → (b : List ℕ) → Probed t n l w w b b 0
  probed_refused e b = record { good = λ g. absurd ((rw e at s) g); refused = λ _. (refl, refl, refl) }
