-- A host that holds one state is one with one task: its lists of calls (Calls), and what they asked for, as turns on the whole of B.
use Rattle.std.specs.Prelude.{◌≡◌, List, [], ◌∷◌}
use Rattle.model.specs.Memory.{Windows}
use Rattle.model.specs.Invariants.{Bytes}
use Rattle.claims.specs.OneCall.{Held, HeldFits, Made}
use Rattle.claims.specs.Calls.{Chain, items, AllFit}
use Rattle.claims.specs.TaskCalls.{alone, TaskMade, whole_of, turns_of, TaskChain, AllFitIn, all_turns}

unfoldable pub as_tasks : List Made → List TaskMade
as_tasks [] = []
as_tasks (c ∷ cs) =
    record { entry = alone 0 c.entry; reply = c.reply; count = c.count; counts = []; refusals = []; held = c.held ∷ []; window = c.window } ∷ as_tasks cs

pub record OneIsTasks (g : Held) (w : Windows) (cs : List Made) : Type 0 where
  pub chain_is : TaskChain (g ∷ []) w (as_tasks cs)
  pub fits_are : AllFitIn (as_tasks cs)
  pub turns_are : all_turns (g ∷ []) w (as_tasks cs) ≡ turns_of 0 (whole_of w) (items cs)

abbrev pub OneState : Type 0
OneState = (g : Held) (w : Windows) (cs : List Made) → HeldFits g → Bytes w → AllFit (items cs) → Chain g w cs → OneIsTasks g w cs
