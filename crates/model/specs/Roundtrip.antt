-- Theorem 7. The context reader judges as UNSAVE does, but for 23, and hands back the context's own bytes; UNSAVE undoes SAVE.
use Rattle.std.specs.Prelude.{◌≡◌, ℕ, ◌+◌, ◌-◌, ◌*◌, ◌/◌, ◌%◌, ◌^◌, ◌<◌, ◌≤◌, Bool, true, cond, length, ◌==◌, slice_set}
use Rattle.model.specs.Fill.{over}
use Rattle.model.specs.Memory.{Windows, shapes_of, offset, both}
use Rattle.model.specs.Opcodes.{op_unsave, op_save}
use Rattle.model.specs.Plan.{Outcome, look}
use Rattle.model.specs.Registers.{built, r_o, r_s, r_g, r_l, sp, reg, admissible, Sized, Words}
use Rattle.model.specs.Contexts.{below, context_address, octas_of, count_below}
use Rattle.model.specs.Reader.{Part, window_of, held_by, across, read_context}
use Rattle.model.specs.Step.{step_of}
use Rattle.model.specs.declared.State.{State}

-- the context whose packed octabyte is at p, as its own octabytes say it: rG, the local count, and the octabytes from first local up
abbrev pub threshold_at : Windows → ℕ → ℕ
threshold_at w p = look both w p / 2 ^ 56

abbrev pub count_at : Windows → ℕ → ℕ
count_at w p = look both w (below p (count_below (threshold_at w p)))

abbrev pub octas_at : Windows → ℕ → ℕ
octas_at w p = octas_of (count_at w p) (threshold_at w p)

abbrev pub first_at : Windows → ℕ → ℕ
first_at w p = below p (octas_at w p - 1)

-- it lies across both windows
abbrev pub across_at : Windows → ℕ → Bool
across_at w p = across (shapes_of w) (first_at w p) (octas_at w p)

-- the part that a reader which is done hands back: it is one of the window that holds every octabyte of the context, A or B, starts at the first local
-- and ends after the packed octabyte
pub record FromFirstToPacked (w : Windows) (p : ℕ) (q : Part) : Type 0 where
  pub one_of_two : q.which ≤ 1
  pub held : held_by (shapes_of w) q.which (first_at w p) (octas_at w p) ≡ true
  pub starts : q.start ≡ offset (window_of w q.which).base (first_at w p)
  pub ends : q.start + q.size ≡ offset (window_of w q.which).base p + 8
  pub within : q.start + q.size ≤ length (window_of w q.which).bytes
  pub octas : q.size ≡ 8 * octas_at w p

-- s after SAVE and then UNSAVE: rL, rG, rA, rO, the specials, the locals below rL and all globals as before, the other locals 0,
-- rS = rO, and PC two instructions on
unfoldable pub unparked : State → State
unparked s = built s (over (λ i. 0) (sp s r_l) (sp s r_g) s.general) (slice_set s.special r_s (sp s r_o)) ((s.pc + 8) % 2 ^ 64) s.halt

-- UNSAVE of $x, where o is what SAVE $x left
abbrev pub unsave_after : Outcome State Windows → ℕ → ℕ → ℕ → Outcome State Windows
unsave_after o x y z = step_of o.memory o.state op_unsave y z x

pub record ContextsKept : Type 0 where
  -- The reader's reply is, for every admissible state whose $Z is the address and every ruled window, UNSAVE's own, and for every other window too;
  -- but 23 where UNSAVE is done and the context lies across both
  pub reader_reply : (w : Windows) (s : State) (x y z : ℕ) → admissible s ≡ true
      → (read_context w (reg s z)).reply
      ≡ cond ((step_of w s op_unsave x y z).reply == 0) (cond (across_at w (reg s z)) 23 0) (step_of w s op_unsave x y z).reply
  pub reader_part : (w : Windows) (p : ℕ) → (read_context w p).reply ≡ 0 → FromFirstToPacked w p (read_context w p).state
  -- X is a byte; for any rO, misaligned too
  pub save_unsave : (w : Windows) (s : State) (x y z y' z' : ℕ) → x < 256 → Sized s → Words s → (step_of w s op_save x y z).reply ≡ 0
      → unsave_after (step_of w s op_save x y z) x y' z' ≡ record { reply = 0; state = unparked s; memory = (step_of w s op_save x y z).memory }
  pub save_address : (w : Windows) (s : State) (x y z : ℕ) → x < 256 → Sized s → (step_of w s op_save x y z).reply ≡ 0
      → reg (step_of w s op_save x y z).state x ≡ context_address s
