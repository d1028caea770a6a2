-- What a change of some bytes leaves: the lines, the standing leg, the stored list, the header, the tree.
-- Assumes nothing.
use mathlib.Core.Path.{◌≡◌, refl, sym, ap, ap₂, subst, ◌∙◌}
use mathlib.Core.List.{List, ◌∷◌, Memᴰ}
use Prim.Native.Nat.{ℕ, zero, suc, ◌+◌, ◌*◌, ◌≤◌, ◌<◌}
use native.Mathlib.Omega.{arith}
use lib.ListN.{get_or}
use Rattle.limits.specs.Limits.{max_sites}
use Rattle.words.specs.Words.{word_at, Only}
use Rattle.grid.specs.declared.Site.{Site}
use Rattle.list_row.specs.Places.{site_at_byte}
use Rattle.table_header.specs.Layout.{layout_start, flag_start, leg_start, length_start, tour_start, corner_start, last_start, tour_end, kept_end}
use Rattle.table_header.specs.Header.{count_in, position_words, leg_in, tour_in, ZeroFrom, FlagOk, HeaderOk}
use Rattle.table_sites.specs.Layout.{site_start, record_start, site_end}
use Rattle.table_sites.specs.Lines.{line_at, lines_from, lines_in, SpareZero}
use Rattle.table_sites.specs.Rules.{SitesOk}
use Rattle.table_standing.specs.Layout.{list_start, list_end}
use Rattle.table_standing.specs.Standing.{words_from, standing_in}
use Rattle.tree_node.specs.Layout.{tree_start}
use Rattle.tree_node.specs.Tally.{total}
use Rattle.tree_rules.proofs.Outside.{rooted_below, leaves_below}
use Rattle.tree_check.specs.Leaves.{leaf_entries}
use Rattle.tree_check.specs.Tied.{Tied}

-- the bytes from lo up to hi are the same
abbrev pub Same : ℕ → ℕ → List ℕ → List ℕ → Type 0
Same lo hi b b' = (i : ℕ) → lo ≤ i → i < hi → get_or b' i 0 ≡ get_or b i 0

pub word_same : {lo hi : ℕ} (b b' : List ℕ) → Same lo hi b b' → (i : ℕ) → lo ≤ i → i + 2 ≤ hi → word_at b' i ≡ word_at b i
unfolding word_at
word_same b b' s i l h = ap₂ (λ (x y : ℕ). x + 256 * y) (s i l (omega arith)) (s (i + 1) (omega arith) (omega arith))

module _ (b b' : List ℕ) (count : Same 0 2 b b') (records : Same site_start site_end b b') where
  count_same : count_in b' ≡ count_in b
  count_same = word_same b b' count 0 (omega arith) (omega arith)

  line_same : (k : ℕ) → k < max_sites → line_at b' k ≡ line_at b k
  unfolding site_at_byte
  line_same k h = λ j.
      record {
        number = word_same b b' records (record_start k) (omega arith) (omega arith) j;
        position = record {
          east = word_same b b' records (record_start k + 2) (omega arith) (omega arith) j;
          north = word_same b b' records (record_start k + 4) (omega arith) (omega arith) j;
        };
      }

  from_same : (k n : ℕ) → k + n ≤ max_sites → lines_from b' k n ≡ lines_from b k n
  unfolding lines_from
  from_same k zero h = refl
  from_same k (suc n) h = ap₂ (λ (p : Site) (s : List Site). p ∷ s) (line_same k (omega arith)) (from_same (suc k) n (omega arith))

  -- THE LINES STAY
  pub lines_same : count_in b ≤ max_sites → lines_in b' ≡ lines_in b
  unfolding lines_in
  lines_same few = ap (lines_from b' 0) count_same ∙ from_same 0 (count_in b) (omega arith)

  -- and so do the rules on sites
  pub sites_same : SitesOk b → SitesOk b'
  unfolding SpareZero
  sites_same h =
      let e = lines_same h.few in
      record {
        few = omega (arith, count_same, h.few);
        numbers = λ p m. h.numbers p (subst (λ (s : List Site). Memᴰ p s) e m);
        rising = rw e h.rising;
        on_grid = λ p m. h.on_grid p (subst (λ (s : List Site). Memᴰ p s) e m);
        spare = λ k l. word_same b b' records (record_start k + 6) (omega arith) (omega (arith, count_same, h.few)) ∙ h.spare k (omega (arith, count_same));
      }

-- the standing leg
pub leg_same : (b b' : List ℕ) → Same flag_start length_start b b' → leg_in b' ≡ leg_in b
unfolding leg_in position_words
leg_same b b' s =
    rw (
      word_same b b' s flag_start (omega arith) (omega arith),
      word_same b b' s leg_start (omega arith) (omega arith),
      word_same b b' s (leg_start + 2) (omega arith) (omega arith),
      word_same b b' s (leg_start + 4) (omega arith) (omega arith),
      word_same b b' s (leg_start + 4 + 2) (omega arith) (omega arith),
    )
    refl

-- the tour
pub tour_same : (b b' : List ℕ) → Same tour_start tour_end b b' → tour_in b' ≡ tour_in b
unfolding tour_in position_words
tour_same b b' s =
    rw (
      word_same b b' s tour_start (omega arith) (omega arith),
      word_same b b' s corner_start (omega arith) (omega arith),
      word_same b b' s (corner_start + 2) (omega arith) (omega arith),
      word_same b b' s last_start (omega arith) (omega arith),
    )
    refl

-- the stored list
words_same : (b b' : List ℕ) → Same list_start list_end b b' → (i n : ℕ) → list_start ≤ i → i + 2 * n ≤ list_end → words_from b' i n ≡ words_from b i n
unfolding words_from
words_same b b' s i zero l h = refl
words_same b b' s i (suc n) l h =
    ap₂ (λ (x : ℕ) (y : List ℕ). x ∷ y) (word_same b b' s i l (omega arith)) (words_same b b' s (i + 2) n (omega arith) (omega arith))

pub list_same : (b b' : List ℕ) → Same length_start layout_start b b' → Same list_start list_end b b' → word_at b length_start ≤ max_sites → standing_in b' ≡ standing_in b
unfolding standing_in
list_same b b' c s few =
    ap (words_from b' list_start) (word_same b b' c length_start (omega arith) (omega arith))
    ∙ words_same b b' s list_start (word_at b length_start) (omega arith) (omega arith)

-- a flag and what it is for
pub flag_same : (b b' : List ℕ) (i lo hi : ℕ) → Same i hi b b' → i + 2 ≤ hi → i ≤ lo → FlagOk b i lo hi → FlagOk b' i lo hi
unfolding ZeroFrom
flag_same b b' i lo hi s h k f =
    let e = word_same b b' s i (omega arith) h in
    record { flag = omega (arith, e, f.flag); unset = λ z j l u. s j (omega arith) u ∙ f.unset (sym e ∙ z) j l u }

-- the header's layout
pub header_same : (b b' : List ℕ) → Same flag_start length_start b b' → Same layout_start kept_end b b' → HeaderOk b → HeaderOk b'
unfolding ZeroFrom
header_same b b' s k h =
    record {
      layout = word_same b b' k layout_start (omega arith) (omega arith) ∙ h.layout;
      leg = flag_same b b' flag_start leg_start length_start s (omega arith) (omega arith) h.leg;
      tour = flag_same b b' tour_start corner_start tour_end (λ i l u. k i (omega arith) (omega arith)) (omega arith) (omega arith) h.tour;
      kept = λ i l u. k i (omega arith) u ∙ h.kept i l u;
    }

-- a change below the tree keeps the tree's rules and leaf entries, if the lines stay
pub tied_below : {lo : ℕ} (b b' : List ℕ) → Only lo tree_start b b' → lines_in b' ≡ lines_in b → Tied b → Tied b'
tied_below b b' o e t =
    record {
      rooted = rooted_below o t.rooted;
      leaf = λ w. ap (total w) (leaves_below o) ∙ t.leaf w ∙ sym (ap (λ (s : List Site). total w (leaf_entries s)) e);
    }
