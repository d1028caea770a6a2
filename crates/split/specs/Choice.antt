-- A choice by a decision.
-- Assumes nothing.

-- the first where A holds, else the second
abbrev pub pick : {A B : Type 0} → Dec A → B → B → B
pick (yes h) x y = x
pick (no h) x y = y

-- whether both hold
abbrev pub both? : {A B : Type 0} → Dec A → Dec B → Dec (A × B)
both? (yes h) (yes k) = yes (h, k)
both? (yes h) (no k) = no (λ p. k p.1)
both? (no h) d = no (λ p. h p.0)

-- whether B holds if A does
abbrev pub if? : {A B : Type 0} → Dec A → Dec B → Dec (A → B)
if? (yes h) (yes k) = yes (λ x. k)
if? (yes h) (no k) = no (λ f. k (f h))
if? (no h) d = yes (λ x. absurd (h x))
