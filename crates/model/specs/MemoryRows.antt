-- Loads and stores. What they plan, Knuth's rule, what they read, raise and need; then their row.
use Rattle.std.specs.Prelude.{ℕ, false, cond, List, [], ◌∷◌, slice_index}
use Rattle.model.specs.Memory.{Windows, shapes_of, inside}
use Rattle.model.specs.Plan.{Plan, answer, read}
use Rattle.model.specs.Registers.{reg}
use Rattle.model.specs.Opcodes.{Width, Sign, Operand, MemoryArm, load, store}
use Rattle.model.specs.NoMemory.{Said}
use Rattle.model.specs.Control.{sum_of}
use Rattle.model.specs.Trips.{word_of}
use Rattle.model.specs.LoadStore.{merged, fits, flag_v, load_from, store_to}
use Rattle.model.specs.Rules.{After, read_rule, sum_rule, load_rule, store_rule}
use Rattle.model.specs.Row.{Of, Row, touching, Raise, Raises, never, raises, raised_if, sum_read}
use Rattle.model.specs.declared.State.{State}

-- the address is $Y + $Z, or $Y + Z, modulo 2^64
abbrev pub memory_plan : MemoryArm → Of (Plan State)
memory_plan (load d g o) s op x y z = load_from s d g x (sum_of s o y z)
memory_plan (store d g o) s op x y z = store_to s d g x (sum_of s o y z) (word_of op x y z)

-- KNUTH: an address of the kernel's interrupts, and a vector need not be loaded
abbrev pub memory_rule : MemoryArm → Of (Plan After)
memory_rule (load d g o) s op x y z = load_rule s d g x (sum_rule s o y z)
memory_rule (store d g o) s op x y z = store_rule s d g (read_rule s x) (sum_rule s o y z) (word_of op x y z)

abbrev pub memory_reads : MemoryArm → ℕ → ℕ → ℕ → List ℕ
memory_reads (load d g o) x y z = sum_read o y z
memory_reads (store d g o) x y z = x ∷ sum_read o y z

-- V where $X does not fit
abbrev pub store_flags : Width → Sign → State → ℕ → ℕ
store_flags d g s x = cond (fits d g (reg s x)) 0 flag_v

-- at address a the octabyte v becomes `merge v`, and d is said of it
abbrev pub storing : ℕ → (ℕ → ℕ) → Said → Plan State
storing a merge d = read 6 a 1 (λ v. answer d.reply d.state a (merge (slice_index v 0) ∷ []))

abbrev pub store_by : Width → Sign → Operand → Raise → Of (Plan State)
store_by d g o e s op x y z =
    storing (sum_of s o y z) (λ v. merged d (sum_of s o y z) v (reg s x)) (raised_if e s (store_flags d g s x) (word_of op x y z) (sum_of s o y z) (reg s x))

abbrev pub memory_raises : MemoryArm → Raises
memory_raises (load d g o) = never
memory_raises (store d g o) = raises (λ s x y z. store_flags d g s x) (store_by d g o)

-- "A step needs the octabyte around its operand", done or not; a store reads it and then stores it
abbrev pub memory_needs : MemoryArm → Windows → State → ℕ → ℕ → ℕ → List ℕ
memory_needs (load d g o) w s x y z = sum_of s o y z ∷ []
memory_needs (store d g o) w s x y z = cond (inside (shapes_of w) (sum_of s o y z)) (sum_of s o y z ∷ sum_of s o y z ∷ []) (sum_of s o y z ∷ [])

abbrev pub memory_row : MemoryArm → Row
memory_row c = touching (record {
  plan = memory_plan c;
  rule = memory_rule c;
  reads = λ s. memory_reads c;
  flags = memory_raises c;
  needs = memory_needs c;
  spills = false;
})
