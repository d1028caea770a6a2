-- A fault in the standing leg and the standing list. Document 02, C-17: "When the server refuses its table after a disk
-- fault, the fitter wants to know if the sites can still be read."
-- Assumes nothing.
use Rattle.std.specs.Prelude.{◌≡◌, List, ℕ, ◌≤◌, ◌<◌, length, get_or, None}
use Rattle.table_header.specs.Layout.{leg_start, length_start, layout_start}
use Rattle.table_header.specs.Header.{leg_in}
use Rattle.table_standing.specs.Layout.{list_start, list_end}

-- u is t but for the words of the standing leg, if there is one, the length of the standing list, and its numbers
pub record StandingFault (t u : List ℕ) : Type 0 where
  pub len : length u ≡ length t
  pub low : (i : ℕ) → i < leg_start → get_or u i 0 ≡ get_or t i 0
  -- without a standing leg its words stay 0: they belong to the layout
  pub unset : leg_in t ≡ None → (i : ℕ) → leg_start ≤ i → i < length_start → get_or u i 0 ≡ get_or t i 0
  pub between : (i : ℕ) → layout_start ≤ i → i < list_start → get_or u i 0 ≡ get_or t i 0
  pub high : (i : ℕ) → list_end ≤ i → get_or u i 0 ≡ get_or t i 0
