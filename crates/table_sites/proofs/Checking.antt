-- The loop of `check`: the rules on the records, one after the other, are the rules on the lines.
-- Assumes nothing.
use mathlib.Core.Path.{◌≡◌, refl, sym, subst}
use mathlib.Core.Logic.{⊎_elim}
use mathlib.Core.Bool.{Bool, true, false}
use mathlib.Core.List.Memᴰ
use mathlib.Core.List.{List, [], ◌∷◌, Memᴰ}
use Prim.Native.Nat.{ℕ, zero, suc, ◌+◌, ◌≤◌, ◌<◌}
use native.Mathlib.Numerals.{add-one}
use native.Mathlib.Omega.{arith}
use borrow.Author.Count.{below_more}
use lib.ListN.{length, get_or}
use Rattle.limits.specs.Limits.{max_sites}
use Rattle.words.specs.Words.{word_at}
use Rattle.grid.specs.declared.Site.{Site}
use Rattle.grid.specs.Says.{Says}
use Rattle.grid.proofs.Says.{says_yes, says_no}
use Rattle.grid.specs.Position.{OnGrid}
use Rattle.list_row.specs.Places.{site_at_byte}
use Rattle.book.specs.Proper.{NumberOk}
use Rattle.table_header.specs.Header.{count_in}
use Rattle.table_sites.specs.Layout.{record_start}
use Rattle.table_sites.specs.Lines.{line_at, lines_in, SpareZero, no_site}
use Rattle.table_sites.specs.Rules.{SitesOk, RecordOk, number_before}
use Rattle.table_sites.proofs.Reading.{lines_length, line_at_lem, number_at_lem}
use Rattle.table_sites.proofs.Order.{rising_at, rising_of}
use Rattle.table_sites.proofs.Finding.{member}

-- what holds at each index holds of each line
every_line : (P : Site → Type 0) (s : List Site) → ((i : ℕ) → i < length s → P (get_or s i no_site)) → (p : Site) → Memᴰ p s → P p
every_line P [] h p m = absurd (Memᴰ.not-nil m)
every_line P (q ∷ s) h p m =
    ⊎_elim (λ e. subst P (sym e) (h 0 (omega arith))) (λ n. every_line P s (λ i g. h (suc i) (omega arith)) p n) (Memᴰ.cases_cons m)

-- every record keeps the rules
abbrev pub RecordsOk : List ℕ → ℕ → Type 0
RecordsOk b n = (i : ℕ) → i < n → RecordOk b (record_start i) (number_before b i)

module _ (b : List ℕ) (few : count_in b ≤ max_sites) (ok : RecordsOk b (count_in b)) where
  number_ok : (i : ℕ) → i < count_in b → NumberOk (line_at b i)
  unfolding site_at_byte
  number_ok i h = record { least = omega (arith, (ok i h).higher); most = (ok i h).most }

  grid_ok : (i : ℕ) → i < count_in b → OnGrid (line_at b i).position
  unfolding site_at_byte
  grid_ok i h = record { east = (ok i h).east; north = (ok i h).north }

  rises : (i : ℕ) → suc i < count_in b → word_at b (record_start i) < word_at b (record_start (suc i))
  unfolding number_before
  rises i h = (ok (suc i) h).higher

  pub records_sites : SitesOk b
  unfolding SpareZero
  records_sites =
      let len : length (lines_in b) ≡ count_in b = lines_length b in
      record {
        few = few;
        numbers = every_line NumberOk (lines_in b)
            (λ i h. rw (line_at_lem b i no_site (omega arith)) (number_ok i (omega arith)));
        rising = rising_of (lines_in b)
            (λ i h. omega (arith, number_at_lem b i (omega arith), number_at_lem b (suc i) (omega arith), rises i (omega arith)));
        on_grid = every_line (λ (p : Site). OnGrid p.position) (lines_in b)
            (λ i h. rw (line_at_lem b i no_site (omega arith)) (grid_ok i (omega arith)));
        spare = λ i h. (ok i h).spare;
      }

module _ (b : List ℕ) (ok : SitesOk b) where
  lies : (i : ℕ) → i < count_in b → Memᴰ (line_at b i) (lines_in b)
  lies i h = rw (line_at_lem b i no_site h) at (member (lines_in b) i (omega (arith, lines_length b)))

  above : (i : ℕ) → i < count_in b → number_before b i < word_at b (record_start i)
  unfolding number_before site_at_byte
  above zero h = (ok.numbers (line_at b 0) (lies 0 h)).least
  above (suc i) h =
      omega (
        arith,
        number_at_lem b i (omega arith),
        number_at_lem b (suc i) h,
        rising_at (lines_in b) ok.rising i (suc i) (omega arith) (omega (arith, lines_length b)),
      )

  pub sites_records : RecordsOk b (count_in b)
  unfolding site_at_byte SpareZero
  sites_records i h =
      record {
        higher = above i h;
        most = (ok.numbers (line_at b i) (lies i h)).most;
        east = (ok.on_grid (line_at b i) (lies i h)).east;
        north = (ok.on_grid (line_at b i) (lies i h)).north;
        spare = ok.spare i h;
      }

-- the first k of n records keep the rules, and low is the number of the last of them
pub record Checked (b : List ℕ) (n k low : ℕ) : Type 0 where
  pub within : k ≤ n
  pub few : n ≤ max_sites
  pub count : n ≡ count_in b
  pub before : low ≡ number_before b k
  pub so_far : RecordsOk b k

pub check_none : {b : List ℕ} {n : ℕ} → n ≡ count_in b → n ≤ max_sites → Checked b n 0 0
unfolding number_before
check_none {b} e h =
    record { within = omega arith; few = h; count = e; before = refl; so_far = λ i g. absurd (omega arith) }

module _ {b : List ℕ} {n k low : ℕ} (c : Checked b n k low) (h : k < n) where
  pub check_one : {m : ℕ} (r : Bool) → Says r (RecordOk b (record_start k) low) → r ≡ true → m ≡ word_at b (record_start k) → Checked b n (k + 1) m
  unfolding number_before
  check_one r s yes-is e =
      let ok : RecordOk b (record_start k) low = says_yes r s yes-is in
      record {
        within = omega arith;
        few = c.few;
        count = c.count;
        before = rw add-one e;
        so_far =
            below_more (λ (j : ℕ). RecordOk b (record_start j) (number_before b j)) k c.so_far
            (subst (λ (l : ℕ). RecordOk b (record_start k) l) c.before ok);
      }

  pub check_stopped : (r : Bool) → Says r (RecordOk b (record_start k) low) → r ≡ false → ¬ SitesOk b
  check_stopped r s no-is ok =
      says_no r s no-is
      (subst (λ (l : ℕ). RecordOk b (record_start k) l) (sym c.before) (sites_records b ok k (omega (arith, c.count))))

pub check_all : {b : List ℕ} {n k low : ℕ} → Checked b n k low → n ≤ k → SitesOk b
check_all {b} {n} c h = records_sites b (omega (arith, c.few, c.count)) (λ i g. c.so_far i (omega (arith, c.count)))

pub check_many : {b : List ℕ} {n : ℕ} → n ≡ count_in b → max_sites < n → ¬ SitesOk b
check_many e h ok = omega (arith, ok.few)
