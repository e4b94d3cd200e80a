-- Theorem. A parked context survives wherever in a list of turns SAVE and UNSAVE stand: of turns cut into those before a SAVE of task c, the SAVE, a list, an UNSAVE
-- of task c and the rest. Each is by step or fetched, on a part of its own.
use Rattle.std.specs.Prelude.{ℕ, ◌+◌, ◌*◌, ◌<◌, ◌≡◌, ◌⊎◌, List, ◌∷◌, ◌++◌, length, get_or}
use Rattle.model.specs.Memory.{Windows, shapes_of, both}
use Rattle.model.specs.Opcodes.{op_save, op_unsave}
use Rattle.model.specs.Plan.{Outcome, All, Off}
use Rattle.model.specs.Lists.{Ran, step_on, runs, run_needs_by}
use Rattle.model.specs.Registers.{r_o, sp, reg, Sized, Words}
use Rattle.model.specs.Contexts.{extent}
use Rattle.model.specs.Ways.{Way, item_by, NamesBy, x_by}
use Rattle.model.specs.declared.State.{State}
use Rattle.task_model.specs.Tasks.{Own, refusing_in, task_of, Turn, turn, studies, turn_needs}
use Rattle.task_model.specs.TaskDemand.{after_turns}
use Rattle.task_model.specs.Parked.{Asks, Context, UnparksTo}

pub record Park : Type 0 where
  pub before : List Turn
  pub task : ℕ
  pub part : Own
  pub how : Way
  pub list : List Turn
  pub back_part : Own
  pub back_how : Way
  pub rest : List Turn

abbrev pub save_turn : Park → Turn
save_turn k = turn k.task k.part (item_by k.how op_save)

abbrev pub unsave_turn : Park → Turn
unsave_turn k = turn k.task k.back_part (item_by k.back_how op_unsave)

abbrev pub turns_to_unsave : Park → List Turn
turns_to_unsave k = k.before ++ (save_turn k ∷ k.list)

abbrev pub turns_parked : Park → List Turn
turns_parked k = k.before ++ (save_turn k ∷ (k.list ++ (unsave_turn k ∷ k.rest)))

module _ (k : Park) (ss : List State) (w : Windows) where
  abbrev pub at_save : Ran (List State) Windows
  at_save = runs both studies ss w k.before

  abbrev pub saved_at : Outcome (List State) Windows
  saved_at = step_on both studies at_save.state at_save.memory (save_turn k)

  abbrev pub at_unsave : Ran (List State) Windows
  at_unsave = after_turns saved_at k.list

  abbrev pub unsaved_at : Outcome (List State) Windows
  unsaved_at = step_on both studies at_unsave.state at_unsave.memory (unsave_turn k)

  abbrev pub saver_at : State
  saver_at = task_of at_save.state k.task

  abbrev pub saver_x : ℕ
  saver_x = x_by k.how at_save.memory saver_at

  pub record SaverThere : Type 0 where
    pub there : k.task < length at_save.state
    pub sized : Sized saver_at
    pub words : Words saver_at

  -- SAVE was done, and the list needs no octabyte of the context
  pub record SavedThere : Type 0 where
    pub names : NamesBy k.how op_save at_save.memory saver_at
    pub byte : saver_x < 256
    pub done : saved_at.reply ≡ 0
    pub off : All (Off (Context saver_at)) (run_needs_by both studies turn_needs saved_at.state saved_at.memory k.list)

  -- UNSAVE names the address that SAVE gave, on SAVE's part or on one that lets all of the context through
  pub record AsksThere : Type 0 where
    pub asks : Asks (refusing_in k.back_part (shapes_of at_unsave.memory)) at_unsave.memory (task_of at_unsave.state k.task)
        (reg (task_of saved_at.state k.task) saver_x) k.back_how
    pub lets : (k.back_part ≡ k.part) ⊎ ((i : ℕ) → i < extent saver_at → refusing_in k.back_part (shapes_of at_unsave.memory) (sp saver_at r_o + 8 * i) ≡ 0)

pub record Unparked (k : Park) (ss : List State) (w : Windows) : Type 0 where
  pub back : UnparksTo k.task (saver_at k ss w) (at_unsave k ss w) (unsaved_at k ss w)
  pub answer_is : get_or (runs both studies ss w (turns_parked k)).answers (length (turns_to_unsave k)) 1 ≡ 0

abbrev pub ParkedAnywhere : Type 0
ParkedAnywhere = (k : Park) (ss : List State) (w : Windows) → SaverThere k ss w → SavedThere k ss w → AsksThere k ss w → Unparked k ss w
