-- Theorem. Calls of several tasks, computed: whose turn it is, a task that stops, 32 at the edges of a part and beside 6 and 24, what refuses a call whole. Of each
-- call the reply, counts and refusals, every task's whole state and the whole of both windows.
use Rattle.std.specs.Prelude.{ℕ, ◌+◌, ◌-◌, ◌*◌, ◌^◌, ◌≡◌, Bool, true, false, ◌&&◌, List, [], ◌∷◌, ◌++◌, eqb, replicate}
use Rattle.model.specs.Octa.{bytes_of}
use Rattle.model.specs.Memory.{Windows}
use Rattle.model.specs.Registers.{r_j, r_o, r_s, r_g, stack_start, goes, with_special}
use Rattle.model.specs.Bench.{same_list, same_state, same_windows, start}
use Rattle.model.specs.declared.State.{State}
use Rattle.task_model.specs.Call.{Tasked, tasks_of}

pub record TaskExample : Type 0 where
  pub begin : List State
  pub window : Windows
  pub parts : List ℕ
  pub q : ℕ
  pub grant : ℕ
  pub reply : ℕ
  pub counts : List ℕ
  pub refusals : List ℕ
  pub end : List State
  pub left : Windows

abbrev same_states : List State → List State → Bool
same_states [] [] = true
same_states [] (t ∷ ts) = false
same_states (s ∷ ss) [] = false
same_states (s ∷ ss) (t ∷ ts) = same_state s t && same_states ss ts

unfoldable pub works : TaskExample → Tasked → Bool
works c o =
    eqb o.reply c.reply && (same_list o.counts c.counts && (same_list o.refusals c.refusals
    && (same_states o.states c.end && same_windows o.memory c.left)))

unfoldable pub all_work : List TaskExample → Bool
all_work [] = true
all_work (c ∷ cs) = works c (tasks_of c.window c.begin c.parts c.q c.grant) && all_work cs

-- octabytes as bytes
abbrev octas : List ℕ → List ℕ
octas [] = []
octas (v ∷ vs) = bytes_of v ++ octas vs

-- in A from 0:   0  SWYM     8  SWYM         10  PUSHJ $1,#18    18  SWYM
--                4  JMPB 0   C  TRAP 0,0,0   14  TRAP 0,0,0      1C  TRAP 0,0,0
-- and octabytes in B
abbrev lent : List ℕ → Windows
lent vs = record {
  a = record { base = 0; bytes = octas (0xFD000000F1FFFFFF ∷ 0xFD00000000000000 ∷ 0xF201000200000000 ∷ 0xFD00000000000000 ∷ []) };
  b = record { base = stack_start; bytes = octas vs };
}

abbrev empty : Windows
empty = lent (0 ∷ 0 ∷ 0 ∷ 0 ∷ 0 ∷ 0 ∷ [])

-- a task at PC p, its stack k octabytes up
abbrev at : ℕ → ℕ → State
at p k = goes (with_special (with_special start r_o (stack_start + 8 * k)) r_s (stack_start + 8 * k)) p

-- eight numbers that begin so
abbrev eight : ℕ → ℕ → ℕ → List ℕ
eight a b c = a ∷ b ∷ c ∷ replicate 5 0

-- ---- whose turn it is: three tasks, each with two octabytes of B

abbrev thirds : List ℕ
thirds = 0 ∷ 16 ∷ 16 ∷ 16 ∷ 32 ∷ 16 ∷ []

abbrev parts_example : List ℕ → ℕ → ℕ → List State → List ℕ → List ℕ → List State → TaskExample
parts_example ns q g ss cs rs ts = record { begin = ss; window = empty; parts = ns; q = q; grant = g; reply = 0; counts = cs; refusals = rs; end = ts; left = empty }

abbrev turn_example : ℕ → ℕ → List State → List ℕ → List ℕ → List State → TaskExample
turn_example = parts_example thirds

abbrev loops : List State
loops = at 0 0 ∷ at 0 2 ∷ at 0 4 ∷ []

abbrev turn_examples : List TaskExample
turn_examples =
    turn_example 2 10 loops (eight 4 4 2) (eight 0 0 0) loops
    ∷ turn_example 1 5 loops (eight 2 2 1) (eight 0 0 0) (at 0 0 ∷ at 0 2 ∷ at 4 4 ∷ [])
    ∷ turn_example 1000 7 loops (eight 7 0 0) (eight 0 0 0) (at 4 0 ∷ at 0 2 ∷ at 0 4 ∷ [])
    ∷ turn_example 3 0 loops (eight 0 0 0) (eight 0 0 0) loops
    -- the second stops after one, by 4, and is passed over
    ∷ turn_example 3 11 (at 0 0 ∷ at 8 2 ∷ at 0 4 ∷ []) (eight 6 1 4) (eight 0 4 0) (at 0 0 ∷ at 12 2 ∷ at 0 4 ∷ [])
    -- all stop before the grant is spent
    ∷ turn_example 2 100 (at 8 0 ∷ at 12 2 ∷ at 8 4 ∷ []) (eight 1 0 1) (eight 4 4 4) (at 12 0 ∷ at 12 2 ∷ at 12 4 ∷ []) ∷ []

-- one task with all of B; eight, each with an empty part
abbrev count_examples : List TaskExample
count_examples =
    parts_example (0 ∷ 48 ∷ []) 2 5 (at 0 0 ∷ []) (eight 5 0 0) (eight 0 0 0) (at 4 0 ∷ [])
    ∷ parts_example (replicate 16 0) 1 10 (replicate 8 (at 0 0)) (2 ∷ 2 ∷ replicate 6 1) (eight 0 0 0) (at 0 0 ∷ at 0 0 ∷ replicate 6 (at 4 0)) ∷ []

-- ---- 32: two tasks, the first on octabytes 1 and 2 of B, the second on 3 and 4; 0 and 5 are in no part

abbrev pair_of : List ℕ
pair_of = 8 ∷ 16 ∷ 24 ∷ 16 ∷ []

-- the first does its one instruction or is refused by r, the second goes on; s becomes t
abbrev asks : State → ℕ → ℕ → State → Windows → TaskExample
asks s n r t v = record {
  begin = s ∷ at 0 3 ∷ [];
  window = empty;
  parts = pair_of;
  q = 1;
  grant = n + 1;
  reply = 0;
  counts = eight n 1 0;
  refusals = eight r 0 0;
  end = t ∷ at 4 3 ∷ [];
  left = v;
}

-- PUSHJ $1 at 10 needs two octabytes from rO
abbrev edge_examples : List TaskExample
edge_examples =
    asks (at 16 1) 1 0 (with_special (at 0x18 3) r_j 0x14) (lent (0 ∷ 0 ∷ 1 ∷ 0 ∷ 0 ∷ 0 ∷ []))
    -- one of them is another's, or nobody's: 32 leaves everything
    ∷ asks (at 16 2) 0 32 (at 16 2) empty
    ∷ asks (at 16 0) 0 32 (at 16 0) empty
    ∷ asks (at 16 3) 0 32 (at 16 3) empty
    -- 32 wins where one octabyte is foreign and another missing
    ∷ asks (at 16 5) 0 32 (at 16 5) empty
    ∷ asks (at 16 6) 0 6 (at 16 6) empty
    -- the fetch: another's part, nobody's, no window; its own part has TRAP 0,0,0 in it
    ∷ asks (at (stack_start + 24) 1) 0 32 (at (stack_start + 24) 1) empty
    ∷ asks (at (stack_start + 44) 1) 0 32 (at (stack_start + 44) 1) empty
    ∷ asks (at (stack_start + 48) 1) 0 24 (at (stack_start + 48) 1) empty
    ∷ asks (at (stack_start + 20) 1) 0 4 (at (stack_start + 20) 1) empty ∷ []

-- ---- a call refused whole

abbrev refuses : ℕ → List State → Windows → List ℕ → ℕ → ℕ → TaskExample
refuses r ss w ns q g = record {
  begin = ss;
  window = w;
  parts = ns;
  q = q;
  grant = g;
  reply = r;
  counts = eight 0 0 0;
  refusals = eight 0 0 0;
  end = ss;
  left = w;
}

abbrev two : List State
two = at 0 1 ∷ at 0 3 ∷ []

abbrev bad : List State
bad = at 0 1 ∷ with_special (at 0 3) r_g 31 ∷ []

-- 33 of two tasks with these parts
abbrev parted : List ℕ → TaskExample
parted ns = refuses 33 two empty ns 1 1

abbrev whole_examples : List TaskExample
whole_examples =
    -- in this order: 2, 22, 25, 33, 1
    refuses 2 bad (record { a = record { base = 4; bytes = [] }; b = empty.b }) [] 0 1000001
    ∷ refuses 22 bad (record { a = empty.b; b = empty.b }) [] 0 1000001
    ∷ refuses 25 bad empty [] 0 1000001
    ∷ refuses 33 bad empty pair_of 0 1000000
    ∷ refuses 33 bad empty pair_of 1001 1
    ∷ refuses 1 bad empty pair_of 1000 1000000
    ∷ refuses 1 (at 0 1 ∷ []) empty pair_of 1 1
    -- no task, nine, an odd length
    ∷ refuses 33 [] empty [] 1 1
    ∷ refuses 33 (replicate 9 (at 0 1)) empty (replicate 18 0) 1 1
    ∷ parted (8 ∷ 16 ∷ 24 ∷ [])
    -- overlap, either way and within each other
    ∷ parted (8 ∷ 24 ∷ 24 ∷ 16 ∷ [])
    ∷ parted (24 ∷ 16 ∷ 8 ∷ 24 ∷ [])
    ∷ parted (0 ∷ 48 ∷ 8 ∷ 8 ∷ [])
    ∷ parted (8 ∷ 8 ∷ 0 ∷ 48 ∷ [])
    -- an octabyte split, by start and by length
    ∷ parted (4 ∷ 0 ∷ 24 ∷ 16 ∷ [])
    ∷ parted (8 ∷ 4 ∷ 24 ∷ 16 ∷ [])
    -- beyond the window: 2^64 − 8 and 16 leave the window
    ∷ parted (8 ∷ 16 ∷ 40 ∷ 16 ∷ [])
    ∷ parted (8 ∷ 16 ∷ (2 ^ 64 - 8) ∷ 16 ∷ [])
    ∷ parted (8 ∷ 16 ∷ 56 ∷ 0 ∷ []) ∷ []

-- an empty part, its start a multiple of 8 from 0 to B's length, is fine and overlaps nothing
abbrev empty_example : List ℕ → TaskExample
empty_example ns = record {
  begin = two;
  window = empty;
  parts = ns;
  q = 1;
  grant = 2;
  reply = 0;
  counts = eight 1 1 0;
  refusals = eight 0 0 0;
  end = at 4 1 ∷ at 4 3 ∷ [];
  left = empty;
}

abbrev empty_examples : List TaskExample
empty_examples = empty_example (0 ∷ 48 ∷ 16 ∷ 0 ∷ []) ∷ empty_example (16 ∷ 0 ∷ 0 ∷ 48 ∷ []) ∷ empty_example (48 ∷ 0 ∷ 48 ∷ 0 ∷ []) ∷ empty_example (0 ∷ 0 ∷ 0 ∷ 0 ∷ []) ∷ []

unfoldable pub task_examples : List TaskExample
task_examples = turn_examples ++ (count_examples ++ (edge_examples ++ (whole_examples ++ empty_examples)))

abbrev pub TaskExamplesMet : Type 0
TaskExamplesMet = all_work task_examples ≡ true
