-- `put_special` meets its contract: what judges, then what puts.
use Rattle.model.proofs.Prelude.{refl, sym, ◌∙◌, is_done, is_refused}
use Rattle.machine.proofs.PutRegisters.{put_done_law, put_refused}
use Rattle.machine.proofs.registers.put_special.Goals as goal

pub returns-then-eq : goal.returns-then-eq
returns-then-eq c =
    λ s.
    put_done_law _ _ _ _ (c.put_refusal-judged.ensures _ refl) _ (is_done (sym c.eq.ensures ∙ c.if-eq.true)) (c.put_state.ensures s)

pub returns-else-eq : goal.returns-else-eq
returns-else-eq c = λ s. put_refused _ _ _ _ (c.put_refusal-judged.ensures _ refl) (is_refused (sym c.eq.ensures ∙ c.if-eq.false))
