-- The empty table: every byte below the stack of free nodes is 0 but for the layout's number, its tree is empty, and every node of the pool is free.
-- Assumes nothing.
use mathlib.Core.Path.{◌≡◌, refl, ap, ◌∙◌}
use mathlib.Core.List.{List, [], ◌∷◌}
use Prim.Native.Nat.{ℕ, zero, suc, ◌+◌, ◌*◌, ◌≤◌, ◌<◌}
use native.Mathlib.Omega.{arith}
use native.Mathlib.Decide.{dec_lt}
use mathlib.Core.Bool.{Bool, true, false, cond}
use lib.Dec.{eqb}
use borrow.Author.Tests.{ne_eqb}
use lib.ListN.{length, get_or, length-replicate, get_or-replicate}
use Rattle.limits.specs.Limits.{max_nodes, table_bytes}
use Rattle.words.specs.Words.{word_at, put_word, Only}
use Rattle.words.proofs.Frame.{only_put_word, word_put_word, word_low, word_high}
use Rattle.table_header.specs.Layout.{layout_start, layout_number}
use Rattle.std.specs.Prelude.{None}
use Rattle.tree_node.specs.Layout.{tree_start, free_start, stack_start, up_to}
use Rattle.tree_node.specs.Free.{numbers, free}
use Rattle.tree_node.specs.Header.{root_of, root_in}
use Rattle.tree_node.specs.Tally.{total, hit, tally}
use Rattle.tree_node.proofs.Counting.{up_to_low, hit_eq}
use Rattle.tree_rules.specs.Rooted.{tree_leaves, tree_nodes, RootSound, Rooted, leaves_in}
use Rattle.table_empty.specs.EmptyTable.{zeros, stacked, numbered, empty_table}
use Rattle.table_empty.proofs.Laying.{stacked_length}

-- the layout's number alone
numbered_only : Only layout_start (layout_start + 2) (zeros table_bytes) numbered
unfolding numbered
numbered_only = only_put_word (zeros table_bytes) layout_start layout_number

stacked_numbered : length (stacked max_nodes numbered) ≡ table_bytes
stacked_numbered = stacked_length max_nodes numbered ∙ numbered_only.len ∙ length-replicate {A = ℕ} table_bytes 0

pub empty_length : length empty_table ≡ table_bytes
unfolding empty_table
empty_length = (only_put_word (stacked max_nodes numbered) free_start max_nodes).len ∙ stacked_numbered

stacked_low : (k : ℕ) (b : List ℕ) (i : ℕ) → i < stack_start → get_or (stacked k b) i 0 ≡ get_or b i 0
unfolding stacked
stacked_low zero b i h = refl
stacked_low (suc k) b i h = (only_put_word (stacked k b) (stack_start + 2 * k) k).low i (omega arith) ∙ stacked_low k b i h

-- below the stack nothing but the layout's number is written
below_stack : (i : ℕ) → i < free_start → get_or empty_table i 0 ≡ get_or numbered i 0
unfolding empty_table
below_stack i h = (only_put_word (stacked max_nodes numbered) free_start max_nodes).low i h ∙ stacked_low max_nodes numbered i (omega arith)

no_byte : (i : ℕ) → i < free_start → get_or (zeros table_bytes) i 0 ≡ 0
no_byte i h = get_or-replicate {A = ℕ} table_bytes i 0 0 (omega arith)

-- EVERY BYTE BELOW THE STACK is 0: those before the layout's number,
pub empty_low : (i : ℕ) → i < layout_start → get_or empty_table i 0 ≡ 0
empty_low i h = below_stack i (omega arith) ∙ numbered_only.low i h ∙ no_byte i (omega arith)

-- and those behind it
pub empty_behind : (i : ℕ) → layout_start + 2 ≤ i → i < free_start → get_or empty_table i 0 ≡ 0
empty_behind i l h = below_stack i h ∙ numbered_only.high i l ∙ no_byte i h

-- every number before it too
pub empty_word : (i : ℕ) → i + 2 ≤ layout_start → word_at empty_table i ≡ 0
unfolding word_at
empty_word i h = omega (arith, empty_low i (omega arith), empty_low (i + 1) (omega arith))

-- THE LAYOUT'S NUMBER stands in its place
pub empty_layout : word_at empty_table layout_start ≡ layout_number
unfolding word_at numbered
empty_layout =
    let s : word_at numbered layout_start ≡ layout_number = word_put_word (zeros table_bytes) layout_start layout_number (omega (arith, length-replicate {A = ℕ} table_bytes 0)) in
    omega (arith, s, below_stack layout_start (omega arith), below_stack (layout_start + 1) (omega arith))

-- THE TREE IS EMPTY
pub empty_root : root_in empty_table ≡ None
unfolding root_in root_of word_at
empty_root =
    let w : word_at empty_table tree_start ≡ 0 = omega (arith, empty_behind tree_start (omega arith) (omega arith), empty_behind (tree_start + 1) (omega arith) (omega arith)) in
    rw w

-- the ids of the nodes below k, the last one first
unfoldable below : ℕ → List ℕ
below zero = []
below (suc k) = k ∷ below k

stacked_at : (k : ℕ) (b : List ℕ) → length b ≡ table_bytes → k ≤ max_nodes → (j : ℕ) → j < k → word_at (stacked k b) (stack_start + 2 * j) ≡ j
unfolding stacked
stacked_at zero b len le j h = absurd (omega arith)
stacked_at (suc k) b len le j h = go (dec_lt j k) (stacked_at k b len (omega arith) j)
  where
    go : Dec (j < k) → (j < k → word_at (stacked k b) (stack_start + 2 * j) ≡ j) → word_at (put_word (stacked k b) (stack_start + 2 * k) k) (stack_start + 2 * j) ≡ j
    go (yes l) ih = word_low (only_put_word (stacked k b) (stack_start + 2 * k) k) (stack_start + 2 * j) (omega arith) ∙ ih l
    go (no l) ih =
        let e : j ≡ k = omega arith in
        rw e (word_put_word (stacked k b) (stack_start + 2 * k) k (omega (arith, stacked_length k b)))

numbers_below : (b : List ℕ) (k : ℕ) → ((j : ℕ) → j < k → word_at b (stack_start + 2 * j) ≡ j) → numbers b stack_start k ≡ below k
unfolding numbers below
numbers_below b zero h = refl
numbers_below b (suc k) h = rw (h k (omega arith), numbers_below b k (λ j l. h j (omega arith)))

empty_free : free empty_table ≡ below max_nodes
unfolding free empty_table
empty_free =
    let s = stacked_numbered in
    let w : word_at empty_table free_start ≡ max_nodes = word_put_word (stacked max_nodes numbered) free_start max_nodes (omega arith) in
    let u : up_to max_nodes (word_at empty_table free_start) ≡ max_nodes = ap (up_to max_nodes) w ∙ up_to_low max_nodes max_nodes (omega arith) in
    ap (numbers empty_table stack_start) u
    ∙ numbers_below empty_table max_nodes (λ j h. word_high (only_put_word (stacked max_nodes numbered) free_start max_nodes) (stack_start + 2 * j) (omega arith)
    ∙ stacked_at max_nodes numbered (numbered_only.len ∙ length-replicate {A = ℕ} table_bytes 0) (omega arith) j h)

below_length : (k : ℕ) → length (below k) ≡ k
unfolding below
below_length zero = refl
below_length (suc k) = ap suc (below_length k)

hit_other : (x y : ℕ) → y < x → hit x y ≡ 0
unfolding hit
hit_other x y l = rw (ne_eqb x y (λ e. omega arith))

hit_most : (x y : ℕ) → hit x y ≤ 1
unfolding hit
hit_most x y = go (eqb x y)
  where
    go : (t : Bool) → cond t 1 0 ≤ 1
    go true = omega arith
    go false = omega arith

-- no id at or above k is below it
below_none : (m k : ℕ) → k ≤ m → tally m (below k) ≡ 0
unfolding total below
below_none m zero h = refl
below_none m (suc k) h = omega (arith, below_none m k (omega arith), hit_other m k (omega arith))

-- and no id twice
below_once : (m k : ℕ) → tally m (below k) ≤ 1
unfolding total below
below_once m zero = omega arith
below_once m (suc k) = go (dec_lt 0 (hit m k)) (below_once m k)
  where
    go : Dec (0 < hit m k) → tally m (below k) ≤ 1 → hit m k + tally m (below k) ≤ 1
    go (yes h) ih = omega (arith, below_none m k (omega (arith, hit_eq m k h)), hit_most m k)
    go (no h) ih = omega arith

below_inside : (m k : ℕ) → 0 < tally m (below k) → m < k
below_inside m k h = go (dec_lt m k)
  where
    go : Dec (m < k) → m < k
    go (yes l) = l
    go (no l) = absurd (omega (arith, below_none m k (omega arith)))

-- THE EMPTY TABLE KEEPS THE TREE'S RULES
pub empty_rooted : Rooted (root_in empty_table) empty_table
unfolding RootSound tree_nodes total
empty_rooted =
    rw empty_root
    record {
      len = empty_length;
      top = tt;
      apart = λ m. omega (arith, ap (tally m) empty_free, below_once m max_nodes);
      within = λ m h. below_inside m max_nodes (omega (arith, ap (tally m) empty_free));
      all = omega (arith, ap length empty_free, below_length max_nodes);
    }

-- and no leaf entry stands in it
pub empty_leaves : leaves_in empty_table ≡ []
unfolding leaves_in tree_leaves
empty_leaves = rw empty_root
