-- The returns of the functions that look for a leaf entry.
-- Assumes nothing.
use Rattle.std.specs.Prelude.{Bool, true, false, Option, None, Some}
use mathlib.Core.Path.{◌≡◌, refl, subst}
use mathlib.Core.List.{List, [], ◌∷◌, append-nil}
use Prim.Native.Nat.{ℕ, zero, suc, ◌+◌, ◌-◌, ◌≤◌, ◌<◌}
use native.Mathlib.Omega.{arith}
use native.Mathlib.Numerals.{add-one}
use lib.ListN.{length, get_or, drop, drop_of_length-le}
use lib.Seq.{drop-cons}
use Rattle.limits.specs.Limits.{max_entries}
use Rattle.tree_node.specs.declared.NodeEntry.{NodeEntry}
use Rattle.tree_node.specs.Boxes.{InBox}
use Rattle.tree_node.specs.Node.{entries, no_entry, swap_out, Wrote}
use Rattle.tree_node.proofs.Reading.{eight}
use Rattle.tree_rules.specs.Tree.{joined, leaves, Each, SoundUnder}
use Rattle.tree_rules.proofs.Every.{each_at}
use Rattle.tree_repair.specs.Repair.{Loose, Repaired}
use Rattle.tree_remove.specs.Take.{Passed, Next, Prunable, Pruned, Sought}
use Rattle.tree_remove.proofs.Finding.{next_some, next_none}
use Rattle.tree_remove.proofs.Members.{each_cons, skipped}
use Rattle.tree_remove.proofs.Renewing.{parted_loose, renewed}
use Rattle.tree_remove.proofs.Cutting.{leaf_cut, child_open, parent_same, cut_parted, inner_cut}

-- what an outcome says
module _ (r : Bool) (h n : ℕ) (e : NodeEntry) (l : List NodeEntry) (b b₁ : List ℕ) (s : Sought r h n e l b b₁) where
  gone : r ≡ true → Pruned h n e b b₁
  unfolding Sought
  gone q = let x : Sought true h n e l b b₁ = rw q at s in x

  absent : r ≡ false → (b₁ ≡ b) × Each (λ p. p ≡ e → ⊥) (joined (leaves (entries b) h) l)
  unfolding Sought
  absent q = let x : Sought false h n e l b b₁ = rw q at s in x

  -- nothing has changed, so the search can go on
  pub next_open : r ≡ false → Prunable h n b → Prunable h n b₁
  next_open q op = rw (absent q).0 op

  pub next_in : (k : ℕ) → r ≡ false → k < length (entries b n) → k + 1 ≤ length (entries b₁ n)
  next_in k q km = rw (absent q).0 (omega arith)

-- the returns of take_child
module _ (h n k : ℕ) (f e : NodeEntry) (b : List ℕ) (op : Prunable h n b) (nz : h ≡ 0 → ⊥) (lt : k < length (entries b n)) (qf : f ≡ get_or (entries b n) k no_entry) where
  up : suc (h - 1) ≡ h
  up = omega arith

  inner : Prunable (suc (h - 1)) n b
  inner = rw up op

  pub child_down : Prunable (h - 1) f.reference b
  child_down = child_open (h - 1) n k f b inner lt qf

  pub child_none : (r : Bool) (b₁ : List ℕ) → r ≡ false → Sought r (h - 1) f.reference e (drop 0 (entries b f.reference)) b b₁
      → Sought false h n e (f ∷ []) b b₁
  unfolding Sought joined leaves Each
  child_none r b₁ q s =
      let x = absent r (h - 1) f.reference e (drop 0 (entries b f.reference)) b b₁ s q in
      (x.0, rw (← up) (each_cons (λ p. p ≡ e → ⊥) (leaves (entries b) (suc (h - 1))) f [] x.1 tt))

  module _ (r : Bool) (l : List NodeEntry) (b₁ : List ℕ) (q : r ≡ true) (s : Sought r (h - 1) f.reference e l b b₁) where
    cut : Pruned (h - 1) f.reference e b b₁
    cut = gone r (h - 1) f.reference e l b b₁ s q

    same : entries b₁ n ≡ entries b n
    same = parent_same (h - 1) n k f b inner lt qf e b₁ cut

    pub child_loose : Loose n f.reference (swap_out (entries b₁ n) k) b₁
    child_loose =
        rw same
        (parted_loose (h - 1) n f.reference (swap_out (entries b n) k) b₁ (cut_parted (h - 1) n k f b inner lt qf e b₁ cut))

    pub child_in : k < length (entries b₁ n)
    child_in = rw same lt

    pub child_two : 2 ≤ length (entries b₁ n)
    child_two = rw same (op.least nz)

    pub child_gone : (b₂ : List ℕ) → Repaired n f.reference (swap_out (entries b₁ n) k) b₁ b₂ → Sought true h n e (f ∷ []) b b₂
    unfolding Sought
    child_gone b₂ rp =
        let L : List NodeEntry = swap_out (entries b n) k in
        rw (← up)
        (inner_cut
        (h - 1)
        n
        k
        f
        b
        inner
        lt
        qf
        e
        b₁
        cut
        b₂
        (renewed
        (h - 1)
        n
        f.reference
        L
        b₁
        b₂
        (cut_parted (h - 1) n k f b inner lt qf e b₁ cut)
        (subst (λ (x : List NodeEntry). Repaired n f.reference (swap_out x k) b₁ b₂) same rp)))

-- e is not under entry k of node n: it is under one of the entries past k, or nowhere
onward : (h n k : ℕ) (e : NodeEntry) (b b₂ : List ℕ) (r : Bool) → k < length (entries b n) → Each (λ p. p ≡ e → ⊥) (leaves (entries b) h (get_or (entries b n) k no_entry))
    → Sought r h n e (drop (k + 1) (entries b n)) b b₂ → Sought r h n e (drop k (entries b n)) b b₂
unfolding Sought
onward h n k e b b₂ false lt z s = (
  s.0,
  rw (drop-cons (entries b n) k no_entry lt, ← add-one k)
      (each_cons (λ p. p ≡ e → ⊥) (leaves (entries b) h) (get_or (entries b n) k no_entry) (drop (k + 1) (entries b n)) z s.1),
)
onward h n k e b b₂ true lt z s = s

-- past the last entry e is nowhere
ended : (h n : ℕ) (e : NodeEntry) (b : List ℕ) → Sought false h n e (drop (length (entries b n)) (entries b n)) b b
unfolding Sought joined Each
ended h n e b = let z : length (entries b n) ≤ length (entries b n) = omega arith in (refl, rw (drop_of_length-le (entries b n) z) tt)

-- e is under none of the entries from k up to i
module _ (h n i : ℕ) (e : NodeEntry) (b b₂ : List ℕ) (r : Bool) where
  past : (d k : ℕ) → k + d ≡ i → i ≤ length (entries b n)
      → ((j : ℕ) → k ≤ j → j < i → Each (λ p. p ≡ e → ⊥) (leaves (entries b) h (get_or (entries b n) j no_entry)))
      → Sought r h n e (drop i (entries b n)) b b₂ → Sought r h n e (drop k (entries b n)) b b₂
  past zero k q le z s = let x : i ≡ k = omega arith in subst (λ (y : ℕ). Sought r h n e (drop y (entries b n)) b b₂) x s
  past (suc d) k q le z s =
      onward
      h
      n
      k
      e
      b
      b₂
      r
      (omega arith)
      (z k (omega arith) (omega arith))
      (past d (k + 1) (omega arith) le (λ j lo hi. z j (omega arith) hi) s)

  -- none of their boxes holds e's
  past_boxes : (k : ℕ) → Prunable h n b → Passed (λ f. InBox e f) (entries b n) k i → Sought r h n e (drop i (entries b n)) b b₂ → Sought r h n e (drop k (entries b n)) b b₂
  past_boxes k op s =
      past
      (i - k)
      k
      (omega (arith, s.least))
      s.most
      (λ j lo hi. skipped (entries b) h (get_or (entries b n) j no_entry) e
      (each_at (SoundUnder (entries b) h) (entries b n) j no_entry op.ready.sound (omega (arith, s.most)))
      (s.none j lo hi))

-- the returns of take_from_leaf
module _ (n k : ℕ) (e : NodeEntry) (b : List ℕ) (op : Prunable 0 n b) (r : Option ℕ) (s : Next (λ f. f ≡ e) (entries b n) k r) where
  pub leaf_in : (i : ℕ) → r ≡ Some i → i < length (entries b n)
  leaf_in i q = (next_some (λ f. f ≡ e) (entries b n) k r s i q).1

  pub leaf_gone : (i : ℕ) (b₁ : List ℕ) → r ≡ Some i → Wrote n (swap_out (entries b n) i) b b₁ → Sought true 0 n e (drop k (entries b n)) b b₁
  unfolding Sought
  leaf_gone i b₁ q w =
      let t = next_some (λ f. f ≡ e) (entries b n) k r s i q in
      leaf_cut n i (get_or (entries b n) i no_entry) e b b₁ op.ready t.1 refl (t.0.here t.1) w

  pub leaf_none : r ≡ None → Sought false 0 n e (drop k (entries b n)) b b
  unfolding leaves Each
  leaf_none q =
      let t = next_none (λ f. f ≡ e) (entries b n) k r s q in
      let m : ℕ = length (entries b n) in
      past 0 n m e b b false (m - k) k (omega (arith, t.passed.least)) t.passed.most (λ j lo hi. (t.passed.none j lo hi, tt)) (ended 0 n e b)

-- the returns of take, at a leaf
pub leaf_open : (h n : ℕ) (b : List ℕ) → h ≡ 0 → Prunable h n b → Prunable 0 n b
leaf_open h n b z op = rw z at op

pub leaf_told : (h n : ℕ) (e : NodeEntry) (l : List NodeEntry) (b b₁ : List ℕ) (r : Bool) → h ≡ 0 → Sought r 0 n e l b b₁ → Sought r h n e l b b₁
leaf_told h n e l b b₁ r z s = rw z s

-- the returns of take above the leaves, where x is the next of node n's entries whose box holds e's
module _ (h n k : ℕ) (e : NodeEntry) (b : List ℕ) (op : Prunable h n b) (x : Option ℕ) (s : Next (λ f. InBox e f) (entries b n) k x) where
  pub take_in : (i : ℕ) → x ≡ Some i → i < length (entries b n)
  take_in i q = (next_some (λ f. InBox e f) (entries b n) k x s i q).1

  pub take_few : (i : ℕ) → x ≡ Some i → (k ≤ i) × (i < max_entries)
  take_few i q = ((next_some (λ f. InBox e f) (entries b n) k x s i q).0.passed.least, omega (arith, take_in i q, eight b n))

  pub take_none : x ≡ None → Sought false h n e (drop k (entries b n)) b b
  take_none q = past_boxes h n (length (entries b n)) e b b false k op (next_none (λ f. InBox e f) (entries b n) k x s q).passed (ended h n e b)

  module _ (i : ℕ) (qi : x ≡ Some i) (f : NodeEntry) (qf : f ≡ get_or (entries b n) i no_entry) (r : Bool) (b₁ : List ℕ) (q : r ≡ false) (t : Sought r h n e (f ∷ []) b b₁) where
    none : Each (λ p. p ≡ e → ⊥) (leaves (entries b) h (get_or (entries b n) i no_entry))
    unfolding joined
    none = rw (← qf) (rw append-nil at (absent r h n e (f ∷ []) b b₁ t q).1)

    pub take_on : (r₂ : Bool) (b₂ : List ℕ) → Sought r₂ h n e (drop (i + 1) (entries b₁ n)) b₁ b₂ → Sought r₂ h n e (drop k (entries b n)) b b₂
    take_on r₂ b₂ t₂ =
        past_boxes
        h
        n
        i
        e
        b
        b₂
        r₂
        k
        op
        (next_some (λ f. InBox e f) (entries b n) k x s i qi).0.passed
        (onward h n i e b b₂ r₂ (take_in i qi) none (rw (absent r h n e (f ∷ []) b b₁ t q).0 at t₂))

pub take_hit : (h n k : ℕ) (f e : NodeEntry) (r : Bool) (b b₁ : List ℕ) → r ≡ true → Sought r h n e (f ∷ []) b b₁ → Sought r h n e (drop k (entries b n)) b b₁
unfolding Sought
take_hit h n k f e r b b₁ q s = rw q (gone r h n e (f ∷ []) b b₁ s q)
