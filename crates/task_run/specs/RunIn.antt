-- One task's turn: a run on A and the task's own part of B, 32 told apart from 6 and 24.
use Rattle.std.specs.Prelude.{ℕ, ◌+◌, ◌%◌, ◌^◌, Bool, cond, ◌||◌, ltb, eqb, take, drop}
use Rattle.model.specs.Memory.{Windows, shapes_of, both}
use Rattle.model.specs.Registers.{admissible}
use Rattle.model.specs.Step.{unruled_by, fetched}
use Rattle.model.specs.Run.{Stopped, grant_most, refused_whole, run_for}
use Rattle.model.specs.declared.State.{State}
use Rattle.task_model.specs.Tasks.{Own, mmix_in}
use Rattle.task_model.specs.Call.{part_ruled}
use Rattle.task_run.specs.declared.Part.{Part}

-- a part as code has it
abbrev pub own : Part → Own
own p = record { start = p.start; size = p.len }

-- 1, 2, 22 and 25 as a run judges them, then 33 where the part is none of B's; then instruction by instruction
unfoldable pub run_in : Windows → State → Own → ℕ → Stopped State Windows
run_in w s p grant =
    cond (admissible s)
    (cond (eqb (unruled_by (shapes_of w)) 0)
    (cond (ltb grant_most grant) (refused_whole 25 w s)
    (cond (part_ruled (shapes_of w).b.size p) (run_for both (mmix_in p) fetched grant s w) (refused_whole 33 w s)))
    (refused_whole (unruled_by (shapes_of w)) w s))
    (refused_whole 1 w s)

-- A, and the part as a window of its own
unfoldable pub viewed : Own → Windows → Windows
viewed p w = record {
  a = w.a;
  b = record { base = (w.b.base + p.start) % 2 ^ 64; bytes = take p.size (drop p.start w.b.bytes) };
}

-- 6 or 24: an octabyte, or the tetra at PC, is in neither window
abbrev pub lost : ℕ → Bool
lost n = eqb n 6 || eqb n 24
