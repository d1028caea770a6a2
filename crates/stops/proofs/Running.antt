-- The program's turns, one after the other.
-- Assumes nothing.
use mathlib.Core.Path.{◌≡◌, refl, sym, ap, subst, ◌∙◌}
use mathlib.Core.Bool.{Bool, true, false}
use mathlib.Core.List.{List, [], ◌∷◌, ◌++◌}
use Prim.Native.Nat.{ℕ, ◌+◌, ◌≤◌}
use native.Mathlib.Omega.{arith}
use lib.ListN.{length, take, length-append}
use Rattle.limits.specs.Limits.{table_bytes}
use Rattle.book.specs.declared.Reason.{Reason}
use Rattle.book.specs.Numbers.{reason_number}
use Rattle.table_rules.specs.Table.{Sound}
use Rattle.demands.specs.Batch.{return_of, LaidOut}
use Rattle.demands.specs.Whole.{Call, MadeOn, Made}
use Rattle.demands.specs.Whole.Made.{none, next}
use Rattle.demands.proofs.WholeRun.{laid_holds}
use Rattle.demands.proofs.Demand1.{demand1_laid}
use Rattle.stops.specs.declared.Next.{Next}
use Rattle.stops.specs.declared.Next.TheVariants.{More, End, Unread, Untaken, Spent}
use Rattle.stops.specs.Input.{TakenWhole}
use Rattle.stops.specs.Calls.{Buffers, Follows, Proceeds, rest_of, Turned, Takes, Fed, most_calls, Calls, Series}
use Rattle.stops.specs.Calls.Fed.{start, more}
use Rattle.stops.specs.Calls.Calls.{ended, unread, untaken, spent}
use Rattle.stops.proofs.Serving.{sound_after}

-- the table that the program lays out
laid_as : (t t₁ : List ℕ) (r : Reason) → length t ≡ table_bytes → LaidOut t (reason_number r) t₁ → LaidOut t 0 t₁
laid_as t t₁ r l h = subst (λ (n : ℕ). LaidOut t n t₁) ((demand1_laid t (reason_number r) t₁ h).laid l).0 h

pub laid_sound : (t t₁ : List ℕ) (r : Reason) → length t ≡ table_bytes → LaidOut t (reason_number r) t₁ → Sound t₁
laid_sound t t₁ r l h = (laid_holds t t₁ (laid_as t t₁ r l h)).sound

-- one call more
made_more : (t : List ℕ) (cs : List Call) (t₁ : List ℕ) (c : Call) (t' : List ℕ) → Made t cs t₁ → MadeOn t₁ c t' → Made t (cs ++ (c ∷ [])) t'
made_more t cs t₁ c t' none h = next h none
made_more t (d ∷ cs) t₁ c t' (next {t₁ = t₂} m k) h = next m (made_more t₂ cs t₁ c t' k h)

-- where a run stands: from the input s₀, the report rep₀ and the table t₀ it came to s, rep and t in so many turns, and holds so many bytes
pub record Running (s₀ rep₀ t₀ t w s rep : List ℕ) (held turns : ℕ) : Type 0 where
  pub calls : List Call
  pub fed : Fed (length s₀) (length rep₀) calls (take held s)
  pub made : Made t₀ calls t
  pub counted : length calls ≡ turns
  pub sound : Sound t
  pub buffers : Buffers w s rep
  pub input : length s ≡ length s₀
  pub report : length rep ≡ length rep₀
  pub inside : held ≤ length s

pub running_first : (t w s rep : List ℕ) → Sound t → Buffers w s rep → Running s rep t t w s rep 0 0
running_first t w s rep h bs =
    record {
      calls = [];
      fed = start;
      made = none;
      counted = refl;
      sound = h;
      buffers = bs;
      input = refl;
      report = refl;
      inside = omega arith;
    }

module _ (s₀ rep₀ t₀ t w s rep : List ℕ) (held turns : ℕ) (v : Running s₀ rep₀ t₀ t w s rep held turns) where
  pub running_spent : most_calls ≤ turns → turns ≤ most_calls → Series (length s₀) (length rep₀) t₀ Spent t
  running_spent y z = record { calls = v.calls; are = spent v.fed (omega (arith, v.counted)); made = v.made }

  module _ (r : Next) (t' w' s' rep' : List ℕ) (u : Turned held t w s rep r t' w' s' rep') where
    abbrev call : Call
    call = record { work = w; commands = take held s; report = rep; result = return_of u.result; work_after = w'; report_after = rep' }

    takes : Takes (length rep₀) (take held s) call
    takes = record { commands = refl; work = v.buffers.work; report = v.report }

    calls_made : Made t₀ (v.calls ++ (call ∷ [])) t'
    calls_made = made_more t₀ v.calls t call t' v.made u.made

    pub running_next : (n : ℕ) → r ≡ More n → length w' ≡ length w → length rep' ≡ length rep
        → Running s₀ rep₀ t₀ t' w' s' rep' n (turns + 1)
    running_next n e lw lr = go u.taken u.proceeds
      where
        go : (q : Bool) → Proceeds (length s) u.result.reason (rest_of (return_of u.result) (take held s)) q r s' → Running s₀ rep₀ t₀ t' w' s' rep' n (turns + 1)
        go false g = absurd (let z : ◌≡◌ {A = ℕ} 0 1 = cc in omega arith)
        go true g =
            let f = subst (λ (x : Next). Follows (length s) u.result.reason (rest_of (return_of u.result) (take held s)) x s') e g in
            record {
              calls = v.calls ++ (call ∷ []);
              fed = more {held' = take n s'} u.result.reason v.fed takes refl u.moves (rw (← v.input) f.1);
              made = calls_made;
              counted = omega (arith, v.counted, length-append v.calls (call ∷ []));
              sound = sound_after t w (take held s) rep u.result t' w' rep' v.sound v.buffers.work u.made;
              buffers = record {
                work = lw ∙ v.buffers.work;
                input = omega (arith, v.buffers.input, u.len);
                report = omega (arith, v.buffers.report, lr);
              };
              input = u.len ∙ v.input;
              report = lr ∙ v.report;
              inside = f.0;
            }

    last : (x : Next) → ((n : ℕ) → x ≡ More n → ⊥) → Follows (length s) u.result.reason (rest_of (return_of u.result) (take held s)) x s'
        → Calls (length s₀) (length rep₀) (v.calls ++ (call ∷ [])) x
    last (More n) h f = absurd (h n refl)
    last (End x) h f = ended {reason = x} v.fed takes (ap reason_number (sym f.0)) (rw f.0 f.1)
    last Unread h f = unread u.result.reason v.fed takes refl f
    last Untaken h f = absurd f
    last Spent h f = absurd f

    pub running_last : ((n : ℕ) → r ≡ More n → ⊥) → Series (length s₀) (length rep₀) t₀ r t'
    running_last h = record { calls = v.calls ++ (call ∷ []); are = go u.taken u.output u.proceeds; made = calls_made }
      where
        go : (q : Bool) → TakenWhole q u.result.written → Proceeds (length s) u.result.reason (rest_of (return_of u.result) (take held s)) q r s'
            → Calls (length s₀) (length rep₀) (v.calls ++ (call ∷ [])) r
        go true o f = last r h f
        go false o f = rw f (untaken v.fed takes o)
