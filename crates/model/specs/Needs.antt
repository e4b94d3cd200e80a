-- What refuses an octabyte, and what POP and UNSAVE need: as 01 says it. StepNeeds has the theorem.
use Rattle.std.specs.Prelude.{ℕ, ◌+◌, ◌-◌, ◌*◌, ◌/◌, ◌%◌, ◌^◌, min, cond, ◌&&◌, List, [], ◌++◌, nat_le}
use Rattle.model.specs.Memory.{Windows, Shapes, shapes_of, inside, both}
use Rattle.model.specs.Plan.{ups, clear, missing, look}
use Rattle.model.specs.Registers.{r_o, r_g, sp}
use Rattle.model.specs.Frames.{no_frame, misplaced}
use Rattle.model.specs.Contexts.{below, packed_at, octas_of, count_below}
use Rattle.model.specs.declared.State.{State}

-- 6: "a needed octabyte lies outside the window": "number 6 means in neither"
unfoldable pub refusing : Shapes → ℕ → ℕ
refusing w a = cond (inside w a) 0 6

-- a run of n octabytes from a: where all lie inside, these and then what follows; else those that do not
abbrev pub run : Windows → ℕ → ℕ → List ℕ → List ℕ
run w a n rest = cond (clear (refusing (shapes_of w)) a n) (ups a n ++ rest) (missing (refusing (shapes_of w)) a n)

-- H, as POP reads it
abbrev pub hole_below : Windows → State → ℕ
hole_below w s = look both w (sp s r_o - 8) % 256

-- "POP needs the one below rO, then $i for each i below both H and rG; with no frame, none"
unfoldable pub pop_needs : Windows → State → List ℕ
pop_needs w s =
    cond (no_frame s) []
    (cond (misplaced s) []
    (run w (sp s r_o - 8) 1 (run w (sp s r_o - 8 * (hole_below w s + 1)) (min (hole_below w s) (sp s r_g)) [])))

-- "UNSAVE needs the packed one; if that passes, the local count; if that passes, the rest"
unfoldable pub unsave_needs_rest : Windows → ℕ → ℕ → ℕ → List ℕ
unsave_needs_rest w p g l = cond (nat_le l g) (run w (below p (packed_at l g)) (octas_of l g) []) []

unfoldable pub unsave_needs_count : Windows → ℕ → ℕ → ℕ → List ℕ
unsave_needs_count w p g a =
    cond (nat_le 32 g && nat_le g 255)
    (cond (nat_le a 0x3FFFF) (run w (below p (count_below g)) 1 (unsave_needs_rest w p g (look both w (below p (count_below g))))) [])
    []

unfoldable pub unsave_needs : Windows → ℕ → List ℕ
unsave_needs w p = run w p 1 (unsave_needs_count w p (look both w p / 2 ^ 56) (look both w p % 2 ^ 56))
