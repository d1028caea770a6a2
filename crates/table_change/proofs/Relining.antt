-- A change of the site array and the same change of the tree, together.
-- Assumes nothing.
use mathlib.Core.Path.{◌≡◌, refl, sym, ap, subst, ◌∙◌}
use mathlib.Core.List.{List, [], ◌∷◌, ◌++◌, Memᴰ}
use Rattle.std.specs.Prelude.{Option, None}
use Prim.Native.Nat.{ℕ, suc, ◌+◌, ◌≤◌, ◌<◌}
use native.Mathlib.Omega.{arith}
use native.Mathlib.Decide.{dec_lt}
use native.Mathlib.Numerals.{add-one}
use lib.ListN.{length, get_or, take, drop}
use lib.Seq.{split_at}
use Rattle.limits.specs.Limits.{max_sites, table_bytes}
use Rattle.words.specs.Words.{Only}
use Rattle.words.proofs.Frame.{only_trans}
use Rattle.grid.specs.declared.Position.{Position}
use Rattle.grid.specs.declared.Site.{Site}
use Rattle.grid.specs.Position.{OnGrid}
use Rattle.book.specs.declared.Tour.{Tour}
use Rattle.book.specs.Book.{write_line, strike_line, move_line}
use Rattle.book.specs.Proper.{Rising, NumberOk, TourOk}
use Rattle.book.proofs.Lines.{site_as, write_before, write_past, move_is}
use Rattle.table_header.specs.Header.{count_in, tour_in}
use Rattle.table_sites.specs.Lines.{line_at, lines_in, Array, no_site, StandsAt, StandsNowhere}
use Rattle.table_sites.specs.Rules.{SitesOk}
use Rattle.table_sites.specs.Changes.{inserted, deleted, placed, ArrayChanged}
use Rattle.table_sites.proofs.Reading.{lines_length, line_at_lem}
use Rattle.table_sites.proofs.Finding.{at_held, at_member, at_counted, absent_counted}
use Rattle.table_sites.proofs.Deletion.{deleted_struck}
use Rattle.table_sites.proofs.Kept.{sites_array, insert_lines, insert_kept, delete_lines, delete_kept, place_lines, place_kept}
use Rattle.tree_node.specs.declared.NodeEntry.{NodeEntry}
use Rattle.tree_node.specs.Layout.{tree_start}
use Rattle.tree_node.specs.Header.{root_in}
use Rattle.tree_node.specs.Tally.{total}
use Rattle.tree_node.proofs.Counting.{total_append, total_one}
use Rattle.tree_rules.specs.Rooted.{Rooted, leaves_in}
use Rattle.tree_rules.proofs.Outside.{rooted_below, leaves_below}
use Rattle.tree_add.specs.Added.{Added}
use Rattle.tree_remove.specs.Removal.{Removed}
use Rattle.tree_check.specs.Leaves.{leaf_entry, leaf_entries}
use Rattle.tree_check.proofs.Leaves.{leaves_append, tied_count}
use Rattle.table_rules.specs.Table.{Whole}
use Rattle.table_rules.proofs.Same.{lines_same, sites_same, leg_same, tour_same, list_same, header_same}
use Rattle.table_change.specs.Changes.{Swapped, Relined}
use Rattle.table_search.proofs.Points.{line_leaf}

-- ---- totals of lines

total_write : (w : NodeEntry → ℕ) (p : Site) (s : List Site) → total w (leaf_entries (write_line p s)) ≡ w (leaf_entry p) + total w (leaf_entries s)
unfolding total leaf_entries write_line
total_write w p [] = refl
total_write w p (q ∷ s) = go (dec_lt p.number q.number) (total_write w p s)
  where
    go : Dec (p.number < q.number) → total w (leaf_entries (write_line p s)) ≡ w (leaf_entry p) + total w (leaf_entries s)
        → total w (leaf_entries (write_line p (q ∷ s))) ≡ w (leaf_entry p) + (w (leaf_entry q) + total w (leaf_entries s))
    go (yes h) ih = ap (λ (x : List Site). total w (leaf_entries x)) (write_before p q s h)
    go (no h) ih = ap (λ (x : List Site). total w (leaf_entries x)) (write_past p q s (omega arith)) ∙ (omega arith)

total_head : (w : NodeEntry → ℕ) (p : Site) (z : List Site) → total w (leaf_entries (p ∷ z)) ≡ w (leaf_entry p) + total w (leaf_entries z)
unfolding total leaf_entries
total_head w p z = refl

deleted_parts : (k : ℕ) (s : List Site) → deleted k s ≡ take k s ++ drop (k + 1) s
unfolding deleted
deleted_parts k s = refl

total_strike : (w : NodeEntry → ℕ) (n : ℕ) (s : List Site) (k : ℕ) → StandsAt k n s → Rising s
    → w (leaf_entry (get_or s k no_site)) + total w (leaf_entries (strike_line n s)) ≡ total w (leaf_entries s)
total_strike w n s k a r =
    let d : strike_line n s ≡ take k s ++ drop (k + 1) s = sym (deleted_struck k s a r) ∙ deleted_parts k s in
    let e : s ≡ take k s ++ (get_or s k no_site ∷ drop (suc k) s) = split_at s k no_site a.line in
    omega (
      arith,
      ap (λ (x : List Site). total w (leaf_entries x)) d,
      parts (take k s) (drop (k + 1) s),
      ap (λ (x : List Site). total w (leaf_entries x)) e,
      parts (take k s) (get_or s k no_site ∷ drop (suc k) s),
      total_head w (get_or s k no_site) (drop (suc k) s),
      ap (λ (j : ℕ). total w (leaf_entries (drop j s))) (add-one k),
    )
  where
    parts : (a z : List Site) → total w (leaf_entries (a ++ z)) ≡ total w (leaf_entries a) + total w (leaf_entries z)
    parts a z = ap (total w) (leaves_append a z) ∙ total_append w (leaf_entries a) (leaf_entries z)

-- ---- the table

-- the change of the site array leaves the header and all that stands above the records
below_tree : (l : List Site) (b b₁ : List ℕ) → ArrayChanged l b b₁ → Only 0 tree_start b b₁
below_tree l b b₁ c = record { len = c.len; low = λ i h. absurd (omega arith); high = λ i h. c.above i (omega arith) }

pub changed_rooted : (l : List Site) (b b₁ : List ℕ) → Whole b → ArrayChanged l b b₁ → Rooted (root_in b₁) b₁
changed_rooted l b b₁ w c = rooted_below (below_tree l b b₁ c) w.tree.rooted

pub changed_leaves : (l : List Site) (b b₁ : List ℕ) → ArrayChanged l b b₁ → leaves_in b₁ ≡ leaves_in b
changed_leaves l b b₁ c = leaves_below (below_tree l b b₁ c)

relined : (l m : List Site) (b b₁ b₂ : List ℕ) → Whole b → tour_in b ≡ None → ArrayChanged l b b₁ → SitesOk b₁ → lines_in b₁ ≡ m → Only tree_start table_bytes b₁ b₂ → Rooted (root_in b₂) b₂
    → ((w : NodeEntry → ℕ) → total w (leaves_in b₂) ≡ total w (leaf_entries m)) → Relined m b b₂
relined l m b b₁ b₂ w idle c s e o r t =
    record {
      whole = record {
        len = o.len ∙ c.len ∙ w.len;
        sites = sites_same b₁ b₂ (λ i x h. o.low i (omega arith)) (λ i x h. o.low i (omega arith)) s;
        header = header_same b b₂ (λ i x h. o.low i (omega arith) ∙ c.header i x (omega arith)) (λ i x h. o.low i (omega arith) ∙ c.header i (omega arith) h) w.header;
        tour = subst (λ (x : Option Tour). TourOk x (lines_in b₂)) (sym none_now) tt;
        tree = record { rooted = r; leaf = λ v. t v ∙ sym (ap (λ (x : List Site). total v (leaf_entries x)) same) };
      };
      lines = same;
      leg = leg_same b b₂ (λ i x h. o.low i (omega arith) ∙ c.header i x (omega arith));
      tour = none_now;
      list = list_same b b₂ (λ i x h. o.low i (omega arith) ∙ c.header i (omega arith) (omega arith)) (λ i x h. o.low i (omega arith) ∙ c.above i (omega arith));
    }
  where
    none_now : tour_in b₂ ≡ None
    none_now = tour_same b b₂ (λ i x h. o.low i (omega arith) ∙ c.header i (omega arith) (omega arith)) ∙ idle

    same : lines_in b₂ ≡ m
    same = lines_same b₁ b₂ (λ i x h. o.low i (omega arith)) (λ i x h. o.low i (omega arith)) s.few ∙ e

-- ---- one site more

pub whole_array : (b : List ℕ) → Whole b → Array b
whole_array b w = sites_array w.len w.sites

pub whole_room : (b : List ℕ) → length (lines_in b) < max_sites → count_in b < max_sites
whole_room b h = omega (arith, lines_length b)

pub absent_inside : (b : List ℕ) (k n : ℕ) → StandsNowhere k n (lines_in b) → k ≤ count_in b
absent_inside b k n f = absent_counted b f

module _ (b b₁ : List ℕ) (k : ℕ) (p : Site) (w : Whole b) (idle : tour_in b ≡ None) (f : StandsNowhere k p.number (lines_in b)) where
  pub grow_few : length (lines_in b) < max_sites → ArrayChanged (inserted k p (lines_in b)) b b₁ → length (leaves_in b₁) < max_sites
  grow_few h c = omega (arith, ap length (changed_leaves (inserted k p (lines_in b)) b b₁ c), tied_count b w.tree)

  -- ADDED to both
  pub grown : (b₂ : List ℕ) (e : NodeEntry) → NumberOk p → OnGrid p.position → ArrayChanged (inserted k p (lines_in b)) b b₁ → e ≡ leaf_entry p → Added e b₁ b₂
      → Relined (write_line p (lines_in b)) b b₂
  grown b₂ e np on c q a =
      relined (inserted k p (lines_in b)) (write_line p (lines_in b)) b b₁ b₂ w idle c (insert_kept k p f c np on w.sites) (insert_lines k p f c) a.only a.rooted
      (λ v. a.leaf v ∙ (omega (arith, ap v q, ap (total v) (changed_leaves (inserted k p (lines_in b)) b b₁ c), w.tree.leaf v, total_write v p (lines_in b))))

-- ---- one site less

module _ (b b₁ : List ℕ) (k n : ℕ) (w : Whole b) (idle : tour_in b ≡ None) (f : StandsAt k n (lines_in b)) where
  line_is : line_at b k ≡ get_or (lines_in b) k no_site
  line_is = sym (line_at_lem b k no_site (omega (arith, f.line, lines_length b)))

  pub line_few : k < max_sites
  line_few = omega (arith, f.line, lines_length b, w.sites.few)

  pub at_inside : k < count_in b
  at_inside = at_counted b f

  leaf_there : (l : List Site) (s : Site) (e : NodeEntry) → s ≡ line_at b k → e ≡ leaf_entry s → ArrayChanged l b b₁ → Memᴰ e (leaves_in b₁)
  leaf_there l s e qs q c =
      subst (λ (x : List NodeEntry). Memᴰ e x) (sym (changed_leaves l b b₁ c))
      (subst (λ (x : NodeEntry). Memᴰ x (leaves_in b)) (sym (q ∙ ap leaf_entry (qs ∙ line_is))) (line_leaf b w (get_or (lines_in b) k no_site) (at_member f)))

  pub shrink_there : (s : Site) (e : NodeEntry) → s ≡ line_at b k → e ≡ leaf_entry s → ArrayChanged (deleted k (lines_in b)) b b₁ → Memᴰ e (leaves_in b₁)
  shrink_there s e qs q c = leaf_there (deleted k (lines_in b)) s e qs q c

  -- REMOVED from both
  pub shrunk : (b₂ : List ℕ) (s : Site) (e : NodeEntry) → s ≡ line_at b k → e ≡ leaf_entry s → ArrayChanged (deleted k (lines_in b)) b b₁ → Removed e b₁ b₂ → Relined (strike_line n (lines_in b)) b b₂
  shrunk b₂ s e qs q c a =
      relined (deleted k (lines_in b)) (strike_line n (lines_in b)) b b₁ b₂ w idle c (delete_kept k c w.sites) (delete_lines k c f w.sites.rising) a.only a.rooted
      (λ v. omega (
        arith,
        a.leaf v,
        ap v (q ∙ ap leaf_entry (qs ∙ line_is)),
        ap (total v) (changed_leaves (deleted k (lines_in b)) b b₁ c),
        w.tree.leaf v,
        total_strike v n (lines_in b) k f w.sites.rising,
      ))

  -- ---- one site moved

  pub move_there : (p : Position) (s : Site) (e : NodeEntry) → s ≡ line_at b k → e ≡ leaf_entry s → ArrayChanged (placed k p (lines_in b)) b b₁ → Memᴰ e (leaves_in b₁)
  move_there p s e qs q c = leaf_there (placed k p (lines_in b)) s e qs q c

  pub move_few : (p : Position) → ArrayChanged (placed k p (lines_in b)) b b₁ → length (leaves_in b₁) ≤ max_sites
  move_few p c = omega (arith, ap length (changed_leaves (placed k p (lines_in b)) b b₁ c), tied_count b w.tree, lines_length b, w.sites.few)

  -- MOVED in both
  pub moved : (p : Position) (b₂ : List ℕ) (s : Site) (e d : NodeEntry) → OnGrid p → s ≡ line_at b k → e ≡ leaf_entry s → d ≡ leaf_entry (site_as n p)
      → ArrayChanged (placed k p (lines_in b)) b b₁ → Swapped e d b₁ b₂ → Relined (move_line n p (lines_in b)) b b₂
  moved p b₂ s e d on qs q qd c a =
      relined (placed k p (lines_in b)) (move_line n p (lines_in b)) b b₁ b₂ w idle c (place_kept k p c f.line on w.sites) (place_lines k p c f w.sites.rising)
      a.only a.rooted
      (λ v. omega (
        arith,
        a.leaf v,
        ap v (q ∙ ap leaf_entry (qs ∙ line_is)),
        ap v qd,
        ap (total v) (changed_leaves (placed k p (lines_in b)) b b₁ c),
        w.tree.leaf v,
        total_strike v n (lines_in b) k f w.sites.rising,
        total_write v (site_as n p) (strike_line n (lines_in b)),
        ap (λ (x : List Site). total v (leaf_entries x)) (move_is n p (lines_in b) w.sites.rising (at_held f)),
      ))

-- one leaf entry for another
pub swap_few : (old : NodeEntry) (b b₁ : List ℕ) → length (leaves_in b) ≤ max_sites → Removed old b b₁ → length (leaves_in b₁) < max_sites
swap_few old b b₁ h a = omega (arith, a.leaf (λ x. 1), total_one (leaves_in b₁), total_one (leaves_in b))

pub swapped : (old new : NodeEntry) (b b₁ b₂ : List ℕ) → Removed old b b₁ → Added new b₁ b₂ → Swapped old new b b₂
swapped old new b b₁ b₂ a g =
    record { rooted = g.rooted; leaf = λ w. omega (arith, a.leaf w, g.leaf w); only = only_trans a.only g.only }
