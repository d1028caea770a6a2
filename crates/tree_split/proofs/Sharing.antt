-- Nine entries dealt to two nodes: none is lost or doubled, and each of the two has enough.
-- Assumes nothing.
use mathlib.Core.Path.{◌≡◌, sym, ap, ap₂, ◌∙◌}
use mathlib.Core.List.{List, [], ◌∷◌, ◌++◌, append-nil, append_assoc}
use Prim.Native.Nat.{ℕ, ◌+◌, ◌-◌, ◌≤◌, ◌<◌}
use native.Mathlib.Omega.{arith}
use lib.ListN.{length, get_or, length-append}
use Rattle.limits.specs.Limits.{min_entries, max_entries, max_nodes, table_bytes}
use Rattle.words.specs.Words.{Only}
use Rattle.words.proofs.Frame.{only_trans}
use Rattle.tree_node.specs.declared.NodeEntry.{NodeEntry}
use Rattle.tree_node.specs.Layout.{pool_start}
use Rattle.tree_node.specs.Node.{entries, no_entry, swap_out, Wrote, OnlyTwo}
use Rattle.tree_node.specs.Free.{free, Taken}
use Rattle.tree_node.specs.Tally.{tally}
use Rattle.tree_node.proofs.Counting.{taken_not}
use Rattle.tree_node.proofs.Storing.{others, in_pool, in_tree, only_two_refl, only_two_trans}
use Rattle.tree_node.proofs.FreeStack.{free_kept}
use Rattle.permutation.specs.Perm.{Perm}
use Rattle.permutation.specs.Perm.Perm.{same, next, trans}
use Rattle.permutation.proofs.Perms.{perm_sym, perm_is, perm_length, perm_left, perm_snoc}
use Rattle.tree_rules.proofs.Perms.{swap_out_perm}
use Rattle.tree_split.specs.Parted.{most_parted, MovedOne, Dealing, Ninth, Parted}

-- the same entries in two lists
pub shared_length : (a z a' z' : List NodeEntry) → Perm (a ++ z) (a' ++ z') → length a + length z ≡ length a' + length z'
shared_length a z a' z' p = omega (arith, perm_length p, length-append a z, length-append a' z')

-- e put after the second of two lists
perm_last : (a z : List NodeEntry) (e : NodeEntry) → Perm (a ++ (z ++ (e ∷ []))) (e ∷ (a ++ z))
perm_last a z e = trans (perm_is (sym (append_assoc a z (e ∷ [])))) (perm_snoc (a ++ z) e)

-- a change of one of two nodes
one_of_two : {c s n : ℕ} {l : List NodeEntry} {b b' : List ℕ} → n < max_nodes → Wrote n l b b' → ((m : ℕ) → (m ≡ c → ⊥) → (m ≡ s → ⊥) → m ≡ n → ⊥) → OnlyTwo c s b b'
one_of_two id w out = record { rest = λ m x y. others w.only m (out m x y); only = in_pool id w.only }

-- node c and node s, which are two
module _ (c s : ℕ) (b : List ℕ) (hc : c < max_nodes) (hs : s < max_nodes) (ne : c ≡ s → ⊥) where
  s≢c : s ≡ c → ⊥
  s≢c q = ne (sym q)

  -- entry k goes from c to s
  module _ (k : ℕ) (b₁ : List ℕ) (w₁ : Wrote c (swap_out (entries b c) k) b b₁) where
    pub shift_room : length (entries b s) < max_entries → length (entries b₁ s) < max_entries
    shift_room lt = rw (others w₁.only s s≢c) lt

    pub shift_done : (e : NodeEntry) (b₂ : List ℕ) → k < length (entries b c) → e ≡ get_or (entries b c) k no_entry → Wrote s (entries b₁ s ++ (e ∷ [])) b₁ b₂ → MovedOne c s b b₂
    shift_done e b₂ lt q w₂ =
        let C : List NodeEntry = entries b c in
        let S : List NodeEntry = entries b s in
        let O : List NodeEntry = swap_out C k in
        let now_c : entries b₂ c ≡ O = others w₂.only c ne ∙ w₁.here in
        let now_s : entries b₂ s ≡ S ++ (e ∷ []) = w₂.here ∙ ap (λ (l : List NodeEntry). l ++ (e ∷ [])) (others w₁.only s s≢c) in
        let back : Perm (e ∷ O) C = rw q (perm_sym (swap_out_perm C k lt)) in
        record {
          whole = rw (now_c, now_s) (trans (perm_last O S e) (perm_left S back));
          more = rw now_s (length-append S (e ∷ []));
          rest = only_two_trans (one_of_two hc w₁ (λ m x y. x)) (one_of_two hs w₂ (λ m x y. y));
        }

  -- the ninth entry goes to c or to s
  module _ (x : NodeEntry) (m : ℕ) (b' : List ℕ) (qm : m ≡ length (entries b s)) (sum : length (entries b c) + length (entries b s) ≡ max_entries) where
    pub ninth_new : m < most_parted → min_entries ≤ m + 1 → Wrote s (entries b s ++ (x ∷ [])) b b' → Ninth c s x b b'
    ninth_new most least w =
        let C : List NodeEntry = entries b c in
        let S : List NodeEntry = entries b s in
        let now_c : entries b' c ≡ C = others w.only c ne in
        let len_c : length (entries b' c) ≡ length C = ap length now_c in
        let len_s : length (entries b' s) ≡ length S + 1 = ap length w.here ∙ length-append S (x ∷ []) in
        record {
          whole = rw (now_c, w.here) (perm_last C S x);
          least = (omega arith, omega arith);
          most = (omega arith, omega arith);
          rest = one_of_two hs w (λ m x y. y);
        }

    pub ninth_old : min_entries ≤ m → m ≤ most_parted → Wrote c (entries b c ++ (x ∷ [])) b b' → Ninth c s x b b'
    ninth_old least most w =
        let C : List NodeEntry = entries b c in
        let S : List NodeEntry = entries b s in
        let now_s : entries b' s ≡ S = others w.only s s≢c in
        let len_s : length (entries b' s) ≡ length S = ap length now_s in
        let len_c : length (entries b' c) ≡ length C + 1 = ap length w.here ∙ length-append C (x ∷ []) in
        record {
          whole = rw (now_s, w.here) (perm_left S (perm_snoc C x));
          least = (omega arith, omega arith);
          most = (omega arith, omega arith);
          rest = one_of_two hc w (λ m x y. x);
        }

-- entry k, which goes from c to s or stays
module _ (c s k m : ℕ) (b : List ℕ) (lt : k < length (entries b c)) (qm : m ≡ length (entries b s)) where
  pub offer_gone : (b' : List ℕ) → m < most_parted → min_entries ≤ m + k + 2 → MovedOne c s b b' → Dealing c s k b b'
  offer_gone b' most least mv =
      record {
        whole = mv.whole;
        left = omega (arith, shared_length (entries b' c) (entries b' s) (entries b c) (entries b s) mv.whole, mv.more);
        least = omega (arith, mv.more);
        most = omega (arith, mv.more);
        rest = mv.rest;
      }

  pub offer_kept : m ≤ most_parted → min_entries ≤ m + (k + 1) → Dealing c s k b b
  offer_kept most least = record { whole = same; left = omega arith; least = omega arith; most = omega arith; rest = only_two_refl }

-- the dealing of eight
pub dealing_none : (c s : ℕ) (b : List ℕ) → length (entries b c) ≡ max_entries → length (entries b s) ≡ 0 → Dealing c s max_entries b b
dealing_none c s b eight none =
    record { whole = same; left = omega arith; least = omega arith; most = omega arith; rest = only_two_refl }

pub dealing_one : (c s k : ℕ) (b b₁ b₂ : List ℕ) → Dealing c s k b b₁ → Dealing c s (k - 1) b₁ b₂ → Dealing c s (k - 1) b b₂
dealing_one c s k b b₁ b₂ p q =
    record { whole = trans q.whole p.whole; left = q.left; least = q.least; most = q.most; rest = only_two_trans p.rest q.rest }

pub dealing_all : (c s k : ℕ) (b b' : List ℕ) → k ≤ 0 → Dealing c s k b b' → Dealing c s 0 b b'
dealing_all c s k b b' le p =
    record { whole = p.whole; left = omega arith; least = omega (arith, p.least); most = p.most; rest = p.rest }

-- node c is split with the free node s
module _ (c s : ℕ) (b b₁ : List ℕ) (out : tally c (free b) ≡ 0) (tk : Taken s [] b b₁) where
  pub part_two : c ≡ s → ⊥
  part_two = taken_not (free b) (free b₁) s tk.taken c out

  part_c : entries b₁ c ≡ entries b c
  part_c = tk.rest c part_two

  pub part_eight : length (entries b c) ≡ max_entries → length (entries b₁ c) ≡ max_entries
  part_eight q = rw part_c q

  pub part_none : length (entries b₁ s) ≡ 0
  part_none = ap length tk.here

  module _ (b₂ : List ℕ) (d : Dealing c s 0 b₁ b₂) where
    pub part_sum : length (entries b c) ≡ max_entries → length (entries b₂ c) + length (entries b₂ s) ≡ max_entries
    part_sum q = omega (arith, shared_length (entries b₂ c) (entries b₂ s) (entries b₁ c) (entries b₁ s) d.whole, part_eight q, part_none)

    pub part_done : (x : NodeEntry) (b₃ : List ℕ) → Ninth c s x b₂ b₃ → Parted c s x b b₃
    part_done x b₃ n =
        let o : Only pool_start table_bytes b₁ b₃ = only_trans d.rest.only n.rest.only in
        let from : entries b₁ c ++ entries b₁ s ≡ entries b c = ap₂ (λ (p q : List NodeEntry). p ++ q) part_c tk.here ∙ append-nil (entries b c) in
        record {
          taken = tk.taken ∙ ap (λ (f : List ℕ). s ∷ f) (sym (free_kept o));
          id = tk.id;
          whole = trans n.whole (next (trans d.whole (perm_is from)));
          least = n.least;
          most = n.most;
          rest = λ m u v. n.rest.rest m u v ∙ d.rest.rest m u v ∙ tk.rest m v;
          only = only_trans tk.only (in_tree o);
        }
