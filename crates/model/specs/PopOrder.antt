-- Theorem (02, change 4). "POP should write the restored locals and outputs first and clear only what lies from the new rL to rG − 1
-- afterwards. The state after a POP is as today." The state between the two, and what is so of it.
use Rattle.std.specs.Prelude.{◌≡◌, ℕ, ◌+◌, ◌<◌, ◌≤◌, min, ◌⊎◌, List}
use Rattle.model.specs.Fill.{over}
use Rattle.model.specs.Registers.{r_g, r_l, sp, reg, with_parts, cleared, Sized}
use Rattle.model.specs.Frames.{count_of, restored, popped}
use Rattle.model.specs.declared.State.{State}

-- the new rL of POP with x by the frame with hole h: "rL is min(H + count, rG)"
abbrev pub lowered : State → ℕ → ℕ → ℕ
lowered s x h = min (h + count_of s x) (sp s r_g)

-- the state between: "outside that range every general register is final, within it each is as before the POP"; the rest is as before
unfoldable pub between : State → ℕ → ℕ → List ℕ → State
between s x h ls = with_parts s (over (reg s) (lowered s x h) (sp s r_g) (popped s x h ls).general) s.special

-- for every state, admissible or not, every X, every hole and whatever was read back
pub record PopInOrder : Type 0 where
  -- the range starts at the new rL
  pub new_low : (s : State) (x h : ℕ) (ls : List ℕ) → Sized s → sp (popped s x h ls) r_l ≡ lowered s x h
  pub outside_final : (s : State) (x h : ℕ) (ls : List ℕ) (k : ℕ) → (k < lowered s x h) ⊎ (sp s r_g ≤ k)
      → reg (between s x h ls) k ≡ reg (popped s x h ls) k
  pub within_before : (s : State) (x h : ℕ) (ls : List ℕ) (k : ℕ) → lowered s x h ≤ k → k < sp s r_g
      → reg (between s x h ls) k ≡ reg s k
  -- what comes first writes below the new rL alone, and what comes after clears from there to rG − 1: together they are the POP
  pub first_writes : (s : State) (x h : ℕ) (ls : List ℕ)
      → between s x h ls ≡ with_parts s (over (restored s x h ls) 0 (lowered s x h) s.general) s.special
  pub then_clears : (s : State) (x h : ℕ) (ls : List ℕ)
      → (cleared (between s x h ls) (lowered s x h) (sp s r_g)).general ≡ (popped s x h ls).general
