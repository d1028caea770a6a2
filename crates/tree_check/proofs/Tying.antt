-- What the walk, the free stack and the marks tell together: whether the tree and the site array are tied.
-- Assumes nothing.
use mathlib.Core.Bool.{Bool, true, false}
use mathlib.Core.List.{List, [], ◌∷◌}
use mathlib.Core.Logic.{⊎_elim}
use mathlib.Core.Path.{◌≡◌, refl, sym, ap, ◌∙◌}
use Prim.Native.Nat.{ℕ, ◌+◌, ◌*◌, ◌≤◌, ◌<◌}
use native.Mathlib.Decide.{ℕ_discrete}
use native.Mathlib.Omega.{arith}
use lib.ListN.{length, get_or}
use Rattle.limits.specs.Limits.{max_sites, max_nodes}
use Rattle.grid.specs.declared.Site.{Site}
use Rattle.grid.specs.Says.{Says}
use Rattle.grid.proofs.Says.{says_map}
use Rattle.book.specs.Proper.{Rising}
use Rattle.table_header.specs.Header.{count_in}
use Rattle.table_sites.specs.Lines.{lines_in, no_site, number_of, Array}
use Rattle.table_sites.proofs.Reading.{lines_length}
use Rattle.tree_node.specs.declared.NodeEntry.{NodeEntry}
use Rattle.std.specs.Prelude.{Option, None, Some}
use Rattle.tree_node.specs.declared.Top.{Top}
use Rattle.tree_node.specs.Header.{root_in}
use Rattle.tree_node.specs.Node.{entries}
use Rattle.tree_node.specs.Free.{free}
use Rattle.tree_node.specs.Tally.{total, hit, tally, Within}
use Rattle.tree_node.specs.Told.{Told}
use Rattle.tree_node.proofs.Counting.{hit_same, le_or_lt}
use Rattle.tree_rules.specs.Tree.{Each}
use Rattle.tree_rules.specs.Rooted.{tree_leaves, tree_nodes, Rooted, leaves_in}
use Rattle.tree_rules.proofs.Members.{same_each}
use Rattle.tree_rules.proofs.Roots.{root_levels}
use Rattle.tree_check.specs.Marks.{record_mark, Blank, Full, Fresh, Marked, FreePass}
use Rattle.tree_check.specs.Leaves.{leaf_entry, leaf_entries, index_of, Known}
use Rattle.tree_check.specs.Tied.{Tied}
use Rattle.tree_check.specs.Walk.{asked_for, Low, root_met, RootPass}
use Rattle.tree_check.proofs.Marking.{hit_not}
use Rattle.tree_check.proofs.Shares.{sum, sum_ext, sum_one, sum_add, sum_full, hits_high, hits_in, length_spread, total_known, total_lines}
use Rattle.tree_check.proofs.Pool.{root_pool}
use Rattle.tree_check.proofs.Leaves.{tied_count, own_index, own_known}

-- the marks that the leaf entries L ask for, where s are the lines
abbrev leaf_hits : List Site → List NodeEntry → ℕ → ℕ
leaf_hits s L m = total (λ e. hit m (record_mark (index_of s e.reference))) L

-- the lines ask for one mark each
line_hits : (s : List Site) → Rising s → (m : ℕ) → leaf_hits s (leaf_entries s) m ≡ sum (λ k. hit m (max_nodes + k)) (length s)
line_hits s r m =
    total_lines (λ e. hit m (record_mark (index_of s e.reference))) s
    ∙ sum_ext
    (λ k. hit m (record_mark (index_of s (number_of s k))))
    (λ k. hit m (max_nodes + k))
    (length s)
    (λ k lt. ap (λ (x : ℕ). hit m (max_nodes + x)) (own_index s r k lt))

-- the marks of nodes stand below max_nodes, those of records from there on
total_zero : (w : NodeEntry → ℕ) → ((e : NodeEntry) → w e ≡ 0) → (l : List NodeEntry) → total w l ≡ 0
unfolding total
total_zero w z [] = refl
total_zero w z (e ∷ l) = omega (arith, z e, total_zero w z l)

total_same : (v w : NodeEntry → ℕ) → ((e : NodeEntry) → v e ≡ w e) → (l : List NodeEntry) → total v l ≡ total w l
unfolding total
total_same v w q [] = refl
total_same v w q (e ∷ l) = omega (arith, q e, total_same v w q l)

hit_shift : (a x y : ℕ) → hit (a + x) (a + y) ≡ hit x y
hit_shift a x y = go (ℕ_discrete x y)
  where
    go : Dec (x ≡ y) → hit (a + x) (a + y) ≡ hit x y
    go (yes q) = hit_same (a + x) (a + y) (omega arith) ∙ sym (hit_same x y q)
    go (no ne) = hit_not (a + x) (a + y) (λ q. ne (omega arith)) ∙ sym (hit_not x y ne)

node_part : (s : List Site) (N : List ℕ) (L : List NodeEntry) (m : ℕ) → m < max_nodes → asked_for s N L m ≡ tally m N
unfolding asked_for
node_part s N L m lt =
    omega (
      arith,
      total_zero
          (λ e. hit m (record_mark (index_of s e.reference)))
          (λ e. hit_not m (record_mark (index_of s e.reference)) (omega arith))
          L,
    )

record_part : (s : List Site) (N : List ℕ) (L : List NodeEntry) (m : ℕ) → (0 < tally m N → m < max_nodes) → max_nodes ≤ m → asked_for s N L m ≡ leaf_hits s L m
unfolding asked_for
record_part s N L m pool le =
    ⊎_elim
    (λ (none : tally m N ≤ 0). omega arith)
    (λ (some : 0 < tally m N). absurd (omega (arith, pool some)))
    (le_or_lt (tally m N) 0)

-- how many lines there are
abbrev held : List ℕ → ℕ
held b = length (lines_in b)

few : (b : List ℕ) → Array b → held b ≤ max_sites
few b a = omega (arith, a.few, lines_length b)

-- what a tied table asks for
module _ (b : List ℕ) (a : Array b) (t : Tied b) where
  leaf_total : (w : NodeEntry → ℕ) → total w (tree_leaves (entries b) (root_in b)) ≡ total w (leaf_entries (lines_in b))
  unfolding leaves_in
  leaf_total w = t.leaf w

  tied_known : Each (Known (lines_in b)) (tree_leaves (entries b) (root_in b))
  tied_known =
      same_each
      (tree_leaves (entries b) (root_in b))
      (leaf_entries (lines_in b))
      leaf_total
      (Known (lines_in b))
      (own_known (lines_in b) a.rising)

  node_met : (m : ℕ) → m < max_nodes → root_met b (root_in b) m ≡ tally m (tree_nodes (entries b) (root_in b))
  unfolding root_met
  node_met m lt = node_part (lines_in b) (tree_nodes (entries b) (root_in b)) (tree_leaves (entries b) (root_in b)) m lt

  record_met : (m : ℕ) → max_nodes ≤ m → root_met b (root_in b) m ≡ sum (λ k. hit m (max_nodes + k)) (held b)
  unfolding root_met
  record_met m le =
      record_part
      (lines_in b)
      (tree_nodes (entries b) (root_in b))
      (tree_leaves (entries b) (root_in b))
      m
      (λ some. t.rooted.within m (omega arith))
      le
      ∙ leaf_total (λ e. hit m (record_mark (index_of (lines_in b) e.reference)))
      ∙ line_hits (lines_in b) a.rising m

  record_free : (m : ℕ) → max_nodes ≤ m → tally m (free b) ≡ 0
  record_free m le =
      ⊎_elim
      (λ (none : tally m (free b) ≤ 0). omega arith)
      (λ (some : 0 < tally m (free b)). absurd (omega (arith, t.rooted.within m (omega arith))))
      (le_or_lt (tally m (free b)) 0)

  record_most : (m : ℕ) → max_nodes ≤ m → root_met b (root_in b) m ≤ 1
  record_most m le =
      ⊎_elim
      (λ (out : max_nodes + held b ≤ m). omega (arith, record_met m le, hits_high m max_nodes (held b) out))
      (λ (in' : m < max_nodes + held b). omega (arith, record_met m le, hits_in m max_nodes (held b) le in'))
      (le_or_lt (max_nodes + held b) m)

  -- none of the tree's marks and the free nodes' is asked for twice
  tied_apart : (m : ℕ) → root_met b (root_in b) m + tally m (free b) ≤ 1
  tied_apart m =
      ⊎_elim
      (λ (le : max_nodes ≤ m). omega (arith, record_most m le, record_free m le))
      (λ (lt : m < max_nodes). omega (arith, node_met m lt, t.rooted.apart m))
      (le_or_lt max_nodes m)

  -- and each is asked for once
  node_each : (m : ℕ) → m < max_nodes → tally m (tree_nodes (entries b) (root_in b)) + tally m (free b) ≡ 1
  unfolding Within
  node_each = sum_full (λ m. tally m (tree_nodes (entries b) (root_in b)) + tally m (free b)) max_nodes (λ m lt. t.rooted.apart m) (spread_both ∙ t.rooted.all)
    where
      spread_both : sum (λ m. tally m (tree_nodes (entries b) (root_in b)) + tally m (free b)) max_nodes ≡ length (tree_nodes (entries b) (root_in b)) + length (free b)
      spread_both =
          omega (
            arith,
            sum_add (λ m. tally m (tree_nodes (entries b) (root_in b))) (λ m. tally m (free b)) max_nodes,
            length_spread max_nodes (tree_nodes (entries b) (root_in b)) (λ m some. t.rooted.within m (omega arith)),
            length_spread max_nodes (free b) (λ m some. t.rooted.within m (omega arith)),
          )

  tied_each : (m : ℕ) → m < max_nodes + held b → root_met b (root_in b) m + tally m (free b) ≡ 1
  tied_each m h =
      ⊎_elim
      (λ (le : max_nodes ≤ m). omega (arith, record_met m le, hits_in m max_nodes (held b) le h, record_free m le))
      (λ (lt : m < max_nodes). omega (arith, node_met m lt, node_each m lt))
      (le_or_lt max_nodes m)

  tied_low : (s : Option Top) → Rooted s b → length (tree_leaves (entries b) s) ≤ max_sites → Low s
  unfolding Low
  tied_low None rt le = tt
  tied_low (Some x) rt le = root_levels x.height x.node b rt le

  -- "There are at most six levels"
  tied_levels : Low (root_in b)
  unfolding leaves_in
  tied_levels = tied_low (root_in b) t.rooted (omega (arith, tied_count b t, few b a))

  -- so the test of a tied table goes through
  module _ (o : List ℕ) (z : Blank o) where
    tied_root : RootPass b (root_in b) o
    unfolding Blank Fresh
    tied_root =
        record {
          top = t.rooted.top;
          low = tied_levels;
          known = tied_known;
          fresh = λ m lt. omega (arith, z m lt, tied_apart m);
        }

    module _ (o₁ : List ℕ) (p : Marked (root_met b (root_in b)) o o₁) where
      tied_free : FreePass b o₁
      unfolding Blank Fresh Marked Within
      tied_free =
          record {
            within = λ m some. t.rooted.within m (omega arith);
            fresh = λ m lt. omega (arith, z m lt, p m lt, tied_apart m);
          }

      tied_full : (o₂ : List ℕ) → Marked (λ m. tally m (free b)) o₁ o₂ → Full (max_nodes + held b) o₂
      unfolding Blank Marked Full
      tied_full o₂ q m lt =
          let most = few b a in
          omega (arith, z m (omega arith), p m (omega arith), q m (omega arith), tied_each m lt)

-- and what goes through is tied
module _ (b o o₁ o₂ : List ℕ) (ar : Array b) (z : Blank o) (a : RootPass b (root_in b) o)
    (p : Marked (root_met b (root_in b)) o o₁) (f : FreePass b o₁) (q : Marked (λ m. tally m (free b)) o₁ o₂) (u : Full (max_nodes + held b) o₂) where
  pool : (m : ℕ) → 0 < tally m (tree_nodes (entries b) (root_in b)) → m < max_nodes
  pool m some = root_pool (entries b) (root_in b) m a.top some

  free_pool : (m : ℕ) → 0 < tally m (free b) → m < max_nodes
  unfolding Within
  free_pool m some = f.within m some

  -- each mark is asked for once
  once : (m : ℕ) → m < max_nodes + held b → root_met b (root_in b) m + tally m (free b) ≡ 1
  unfolding Blank Fresh Marked Full
  once m lt =
      let most = few b ar in
      omega (arith, z m (omega arith), p m (omega arith), q m (omega arith), f.fresh m (omega arith), u m lt)

  node_once : (m : ℕ) → m < max_nodes → tally m (tree_nodes (entries b) (root_in b)) + tally m (free b) ≡ 1
  unfolding root_met
  node_once m lt =
      omega (arith, once m (omega arith), node_part (lines_in b) (tree_nodes (entries b) (root_in b)) (tree_leaves (entries b) (root_in b)) m lt)

  none_past : (m : ℕ) → max_nodes ≤ m → tally m (tree_nodes (entries b) (root_in b)) + tally m (free b) ≡ 0
  none_past m le =
      ⊎_elim
      (λ (some : tally m (tree_nodes (entries b) (root_in b)) ≤ 0).
      ⊎_elim
      (λ (any : tally m (free b) ≤ 0). omega arith)
      (λ (any : 0 < tally m (free b)). absurd (omega (arith, free_pool m any)))
      (le_or_lt (tally m (free b)) 0))
      (λ (some : 0 < tally m (tree_nodes (entries b) (root_in b))). absurd (omega (arith, pool m some)))
      (le_or_lt (tally m (tree_nodes (entries b) (root_in b))) 0)

  passed_rooted : Rooted (root_in b) b
  unfolding Within
  passed_rooted =
      record {
        len = ar.len;
        top = a.top;
        apart = λ m.
            ⊎_elim
            (λ (le : max_nodes ≤ m). omega (arith, none_past m le))
            (λ (lt : m < max_nodes). omega (arith, node_once m lt))
            (le_or_lt max_nodes m);
        within = λ m some.
            ⊎_elim
            (λ (le : max_nodes ≤ m). absurd (omega (arith, none_past m le)))
            (λ (lt : m < max_nodes). lt)
            (le_or_lt max_nodes m);
        all =
            omega (
              arith,
              length_spread max_nodes (tree_nodes (entries b) (root_in b)) pool,
              length_spread max_nodes (free b) free_pool,
              sum_add (λ m. tally m (tree_nodes (entries b) (root_in b))) (λ m. tally m (free b)) max_nodes,
              sum_one (λ m. tally m (tree_nodes (entries b) (root_in b)) + tally m (free b)) max_nodes node_once,
            );
      }

  record_once : (k : ℕ) → k < held b → total (λ e. hit k (index_of (lines_in b) e.reference)) (tree_leaves (entries b) (root_in b)) ≡ 1
  unfolding root_met
  record_once k lt =
      let m : ℕ = max_nodes + k in
      omega (
        arith,
        once m (omega arith),
        none_past m (omega arith),
        record_part (lines_in b) (tree_nodes (entries b) (root_in b)) (tree_leaves (entries b) (root_in b)) m (pool m) (omega arith),
        total_same
            (λ e. hit m (record_mark (index_of (lines_in b) e.reference)))
            (λ e. hit k (index_of (lines_in b) e.reference))
            (λ e. hit_shift max_nodes k (index_of (lines_in b) e.reference))
            (tree_leaves (entries b) (root_in b)),
      )

  passed_tied : Tied b
  unfolding leaves_in
  passed_tied =
      record {
        rooted = passed_rooted;
        leaf = λ w.
            total_known (lines_in b) w (tree_leaves (entries b) (root_in b)) a.known
            ∙ sum_ext
            (λ k. total (λ e. hit k (index_of (lines_in b) e.reference)) (tree_leaves (entries b) (root_in b)) * w (leaf_entry (get_or (lines_in b) k no_site)))
            (λ k. w (leaf_entry (get_or (lines_in b) k no_site)))
            (held b)
            (λ k lt. rw (record_once k lt) (omega arith))
            ∙ sym (total_lines w (lines_in b));
      }

-- the answers of `check`
module _ (b : List ℕ) (ar : Array b) (o : List ℕ) (z : Blank o) where
  pub check_root_no : {B : Type 0} (r : Bool) → Told r (RootPass b (root_in b) o) B → r ≡ false → ¬ Tied b
  check_root_no r a w t = a.no w (tied_root b ar t o z)

  module _ (o₁ : List ℕ) (r : Bool) (a : Told r (RootPass b (root_in b) o) (Marked (root_met b (root_in b)) o o₁)) (went : r ≡ true) where
    pub check_free_no : {B : Type 0} (s : Bool) → Told s (FreePass b o₁) B → s ≡ false → ¬ Tied b
    check_free_no s f w t = f.no w (tied_free b ar t o z o₁ (a.yes went).1)

    pub check_told : (s u : Bool) (n : ℕ) (o₂ : List ℕ) → n ≡ count_in b → Told s (FreePass b o₁) (Marked (λ m. tally m (free b)) o₁ o₂) → s ≡ true
        → Says u (Full (max_nodes + n) o₂) → Says u (Tied b)
    check_told s u n o₂ c f too w =
        let x = a.yes went in
        let y = f.yes too in
        let q : n ≡ held b = omega (arith, lines_length b) in
        says_map u
        (λ v. passed_tied b o o₁ o₂ ar z x.0 x.1 y.0 y.1 (rw q at v))
        (λ t. rw q (tied_full b ar t o z o₁ x.1 o₂ y.1))
        w
