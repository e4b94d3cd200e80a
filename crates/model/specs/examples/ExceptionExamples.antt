-- Theorem 11, of exceptions: the smallest example of each departure, computed as in DepartureExamples, and where two enabled flags meet.
use Rattle.std.specs.Prelude.{ℕ, ◌+◌, ◌^◌, Bool, true, ◌&&◌, List, [], ◌∷◌, ◌==◌}
use Rattle.model.specs.Registers.{r_a, r_w, r_x, fresh, goes, halted, with_special}
use Rattle.model.specs.NoMemory.{Said}
use Rattle.model.specs.Step.{exception_of}
use Rattle.model.specs.Rules.{exception_rule}
use Rattle.model.specs.Bench.{start, same_state}
use Rattle.model.specs.declared.State.{State}

-- an exception with these flags, of an instruction 0 with operands 0
pub record ExampleException : Type 0 where
  pub begin : State
  pub flags : ℕ
  pub reply : ℕ
  pub end : State
  pub knuth : State

abbrev said : Said → ℕ → State → Bool
said d r s = d.reply == r && same_state d.state s

unfoldable pub shown_exception : ExampleException → Bool
shown_exception e =
    said (exception_of e.begin e.flags 0 0 0 0 0 0) e.reply e.end
    && said (exception_rule e.begin e.flags 0 0 0 0 0 0) 0 e.knuth

unfoldable pub all_shown_exceptions : List ExampleException → Bool
all_shown_exceptions [] = true
all_shown_exceptions (e ∷ es) = shown_exception e && all_shown_exceptions es

-- ---- the examples

-- the trip registers of an instruction at @ = 0 with operands 0
abbrev pub trip_registers : State → ℕ → State
trip_registers s word = with_special (with_special s r_w 4) r_x (2 ^ 63 + word)

-- flags of which none is enabled, rA before, and rA after here and there
abbrev adding : ℕ → ℕ → ℕ → ℕ → ExampleException
adding f a r k = record {
  begin = with_special start r_a a;
  flags = f;
  reply = 0;
  end = goes (with_special start r_a r) 4;
  knuth = goes (with_special start r_a k) 4;
}

-- flags of which one is taken, through the vector v
abbrev taking : ℕ → ℕ → ℕ → ℕ → ℕ → ExampleException
taking f a v r k = record {
  begin = with_special start r_a a;
  flags = f;
  reply = 0;
  end = goes (trip_registers (with_special start r_a r) 0) v;
  knuth = goes (trip_registers (with_special start r_a k) 0) v;
}

-- flags of which one is taken, through the vector v, which is not loaded: rA after is the same here and there
abbrev stopping : ℕ → ℕ → ℕ → ℕ → ExampleException
stopping f a v r = record {
  begin = with_special fresh r_a a;
  flags = f;
  reply = 19;
  end = halted (trip_registers (with_special fresh r_a r) 0);
  knuth = goes (trip_registers (with_special fresh r_a r) 0) v;
}

unfoldable pub exception_examples : List ExampleException
exception_examples =
    -- U without X, not enabled, alone and beside others; with X; enabled; where its neighbours are enabled
    adding 0x04 0 0x04 0
    ∷ adding 0x0C 0 0x0C 0x08
    ∷ adding 0x06 0 0x06 0x02
    ∷ adding 0x10C 0 0x0C 0x08
    ∷ adding 0x05 0 0x05 0x05
    ∷ adding 0x01 0 0x01 0x01
    ∷ taking 0x84 0x8000 0x10 0x8004 0x8000
    ∷ adding 0x04 0x0800 0x0804 0x0800
    ∷ adding 0x04 0x0300 0x0304 0x0300
    -- two enabled flags, and one: no departure, D before V and O before U
    ∷ taking 0xC0 0xC000 0x10 0xC040 0xC040
    ∷ taking 0x0C 0x0C00 0x50 0x0C04 0x0C04
    ∷ taking 0xC0 0x4000 0x20 0x4080 0x4080
    ∷ taking 0x01 0x0100 0x80 0x0100 0x0100
    -- more than two: each but the taken one
    ∷ taking 0xE0 0x6000 0x20 0x60A0 0x60A0
    ∷ taking 0x03 0x0300 0x70 0x0301 0x0301
    ∷ taking 0xFF 0xFF00 0x10 0xFF7F 0xFF7F
    -- a vector that is not loaded: the additions are left all the same
    ∷ stopping 0x80 0x8000 0x10 0x8000
    ∷ stopping 0xC0 0xC000 0x10 0xC040 ∷ []
